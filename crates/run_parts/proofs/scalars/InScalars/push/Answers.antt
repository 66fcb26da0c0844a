use Rattle.std.proofs.Common.{rules, length-take}
use Rattle.run_parts.proofs.scalars.InScalars.push.Goals as goal

pub returns-else-self-lt4-clause-room : goal.returns-else-self-lt4-clause-room
returns-else-self-lt4-clause-room c = search (rules, length-take c.self.inside.count c.self.inside.items)
