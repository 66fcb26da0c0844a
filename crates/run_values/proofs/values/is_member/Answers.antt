use Rattle.std.proofs.Common.{◌≡◌, ℕ, ℤ, pos, ap, ap₂, sym, ◌∙◌, ◌&&◌, int_le, w64, FitsSigned, Bool, true}
use Rattle.std.proofs.lemmas.Int.{to_z-of_z}
use Rattle.ada_base.specs.Operation.{digits}
use Rattle.ada_meaning.specs.Values.{between, is_modular, number_in}
use Rattle.typed_tree.specs.declared.scalars.Class.{Class}
use Rattle.run_values.proofs.Numbers.{number_there}
use Rattle.run_values.proofs.values.is_member.Goals as goal

number : (c : Class) (z : ℤ) (n : ℕ) → is_modular c ≡ true → FitsSigned w64 z → n ≡ digits z → pos n ≡ number_in c z
number c z n m f e = ap (λ (k : ℕ). pos k) e ∙ number_there c z m f

pub returns-then-is_modular : goal.returns-then-is_modular
returns-then-is_modular c =
    let l = simp (to_z-of_z w64 c.args.low c.ranges.low) at c.digits.ensures in
    let v = simp (to_z-of_z w64 c.args.value c.ranges.value) at c.digits-then-is_modular.ensures in
    let h = simp (to_z-of_z w64 c.args.high c.ranges.high) at c.digits-then-is_modular-2.ensures in
    let m = sym c.if-is_modular.ensures in
    let x = number c.args.class c.args.low c.digits.result m c.ranges.low l in
    let y = number c.args.class c.args.value c.digits-then-is_modular.result m c.ranges.value v in
    let z = number c.args.class c.args.high c.digits-then-is_modular-2.result m c.ranges.high h in
    c.stands_between.ensures ∙ ap₂ (λ (a b : Bool). a && b) (ap₂ (λ (a b : ℤ). int_le a b) x y) (ap₂ (λ (a b : ℤ). int_le a b) y z)
