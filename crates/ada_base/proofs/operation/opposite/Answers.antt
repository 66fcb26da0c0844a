use Rattle.std.proofs.Common.{FitsSigned, rules, ℕ, ℤ, pos, ◌-ℤ◌, neg_ℤ, ap, sym, ◌∙◌, w64}
use Rattle.std.proofs.Math.IntN.{+ℤ_idl}
use Rattle.std.proofs.lemmas.Int.{to_z-of_z}
use Rattle.ada_base.specs.Operation.{turned, reduced, digits}
use Rattle.ada_base.proofs.Turning.{number_of}
use Rattle.ada_base.proofs.operation.opposite.Goals as goal

pub returns : goal.returns
returns c =
    let v_is = to_z-of_z w64 c.args.value c.ranges.value in
    let d = simp v_is at c.digits.ensures in
    let fits : FitsSigned w64 c.kept.result = search rules in
    to_z-of_z w64 c.kept.result fits ∙ c.kept.ensures ∙ ap turned (c.less.ensures ∙ ap (λ (n : ℕ). reduced c.args.k (pos 0 -ℤ pos n)) d ∙ ap (λ z. reduced c.args.k (pos 0 -ℤ z)) (number_of c.args.value c.ranges.value) ∙ ap (reduced c.args.k) (+ℤ_idl (neg_ℤ (turned c.args.value))))
