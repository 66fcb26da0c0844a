use Rattle.ada_base.proofs.Turning.{masked}
use Rattle.ada_base.proofs.operation.remainder_of.Goals as goal

pub returns-then-k-lt64 : goal.returns-then-k-lt64
returns-then-k-lt64 c = masked c.args.value c.args.k c.if-k-lt64.true
