use Rattle.std.proofs.Common.{ℕ, pos, ap, ◌∙◌}
use Rattle.ada_base.proofs.Turning.{less_is}
use Rattle.ada_base.proofs.operation.less.Goals as goal

pub returns : goal.returns
returns c = ap (λ (n : ℕ). pos n) c.remainder_of.ensures ∙ less_is c.args.a c.args.b c.args.k c.ranges.b.fits
