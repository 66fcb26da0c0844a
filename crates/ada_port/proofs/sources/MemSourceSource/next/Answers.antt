use Rattle.std.proofs.Common.{rules}
use Rattle.ada_port.proofs.sources.MemSourceSource.next.Goals as goal

pub returns-then-fails-clause-takes : goal.returns-then-fails-clause-takes
returns-then-fails-clause-takes c = search rules
