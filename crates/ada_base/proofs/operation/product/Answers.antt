use Rattle.std.proofs.Common.{ℕ, pos, ◌*◌, ap, ◌∙◌}
use Rattle.ada_base.proofs.Turning.{of_word}
use Rattle.ada_base.proofs.operation.product.Goals as goal

pub returns : goal.returns
returns c = ap (λ (n : ℕ). pos n) (c.remainder_of.ensures ∙ of_word (c.args.a * c.args.b) c.args.k)
