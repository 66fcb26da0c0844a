use Rattle.std.proofs.Common.{sym, subst}
use Rattle.ada_threads.specs.Shares.{share_of}
use Rattle.ada_threads.specs.Areas.{IsSpan}
use Rattle.ada_threads.proofs.regions.span_of.Goals as goal

pub returns-in-Block : goal.returns-in-Block
returns-in-Block c = subst (λ k. IsSpan k c.args.arm (share_of c.args.part) c.of_arm.result) (sym c.in-Block.is) (c.of_arm.ensures c.in-Block.field-0)
