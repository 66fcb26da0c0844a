use Rattle.std.proofs.Common.{FitsSigned, rules, ℕ, ℤ, pos, ◌-ℤ◌, ◌-◌, neg_ℤ, ap, ap₂, sym, ◌∙◌, w64}
use Rattle.std.proofs.lemmas.Int.{to_z-of_z}
use Rattle.ada_base.specs.Operation.{turned, reduced, digits, modulus}
use Rattle.ada_base.proofs.Turning.{number_of, greatest_is}
use Rattle.ada_base.proofs.operation.complement.Goals as goal

pub returns : goal.returns
returns c =
    let v_is = to_z-of_z w64 c.args.value c.ranges.value in
    let d = simp v_is at c.digits.ensures in
    let fits : FitsSigned w64 c.kept.result = search rules in
    to_z-of_z w64 c.kept.result fits ∙ c.kept.ensures ∙ ap turned (c.less.ensures
    ∙ ap₂ (λ (m n : ℕ). reduced c.args.k (pos m -ℤ pos n)) (c.remainder_of.ensures ∙ greatest_is c.args.k) d
    ∙ ap (λ z. reduced c.args.k (pos (modulus c.args.k - 1) -ℤ z)) (number_of c.args.value c.ranges.value))
