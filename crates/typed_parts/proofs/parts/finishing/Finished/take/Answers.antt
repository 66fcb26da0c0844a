use Rattle.std.proofs.Common.{rules}
use Rattle.typed_parts.proofs.Stacks.{finished_none, finished_some}
use Rattle.typed_parts.proofs.parts.finishing.Finished.take.Goals as goal

pub returns : goal.returns
returns c = search (rules, finished_none c.args.self.now.nodes c.args.self.now.roots, finished_some c.args.self.now.nodes c.args.self.now.roots c.pop.new.self)
