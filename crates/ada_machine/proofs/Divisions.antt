-- Divisions and remainders, on a base range.
use Rattle.std.proofs.Common.{◌≡◌, ℕ, ℤ, pos, negsuc, zero, suc, Option, Some, None, Bool, true, false, if◌then◌else◌, refl, sym, ap, ◌∙◌, arith}
use Rattle.std.proofs.lemmas.Bool.{false≢true}
use Rattle.std.proofs.lemmas.Bool.Decides.{nat_tests}
use Rattle.std.proofs.lemmas.Int.{ints}
use Rattle.std.specs.Prelude.{int_div, int_rem}
use Rattle.ada_base.specs.declared.operation.Base.{Base}
use Rattle.ada_base.specs.declared.operation.Op.TheVariants as op
use Rattle.ada_base.specs.declared.operation.Base.TheVariants.{Narrow, Wide, Modulo}
use Rattle.ada_base.specs.Operation.{is_in_base, unless_zero, within, aligned, modulo}
use Rattle.ada_base.proofs.Turning.{not-kept}
use Rattle.stack_code.specs.Deeds.{truth, value_or_zero, unless_divisor_zero, on_range}

above_zero : (n : ℕ) (z : ℤ) → unless_zero (pos (suc n)) z ≡ Some z
above_zero n z = grind (arith, nat_tests)

below_zero : (n : ℕ) (z : ℤ) → unless_zero (negsuc n) z ≡ Some z
below_zero n z = grind (arith, nat_tests)

unless_other : (y z : ℤ) → truth y ≡ true → unless_zero y z ≡ Some z
unless_other (pos zero) z t = absurd (false≢true t)
unless_other (pos (suc n)) z t = above_zero n z
unless_other (negsuc n) z t = below_zero n z

same_value : (r z : ℤ) (o : Option ℤ) → Some r ≡ o → o ≡ Some z → r ≡ z
same_value r z o e f = cc

no_value : {A : Type 0} (z : ℤ) (o : Option ℤ) → None ≡ o → o ≡ Some z → A
no_value z o e f = cc

found : (y z r : ℤ) → Some r ≡ unless_zero y z → (truth y ≡ true) × (r ≡ z)
found (pos zero) z r e = cc
found (pos (suc n)) z r e = (refl, same_value r z (unless_zero (pos (suc n)) z) e (above_zero n z))
found (negsuc n) z r e = (refl, same_value r z (unless_zero (negsuc n) z) e (below_zero n z))

lost : (y z : ℤ) → None ≡ unless_zero y z → truth y ≡ false
lost (pos zero) z e = refl
lost (pos (suc n)) z e = no_value z (unless_zero (pos (suc n)) z) e (above_zero n z)
lost (negsuc n) z e = no_value z (unless_zero (negsuc n) z) e (below_zero n z)

-- what is left of a number, where the divisor isn't zero
left_some : (base : Base) (y v w : ℤ) (o : Option ℤ) → truth y ≡ true → o ≡ within base (Some v) → w ≡ value_or_zero o → Some w ≡ unless_divisor_zero (truth y) (within base (unless_zero y v))
left_some base y v w o t e f = ap Some f ∙ ap (λ o. Some (value_or_zero o)) e ∙ ap (λ o. Some (value_or_zero (within base o))) (sym (unless_other y v t)) ∙ ap (λ b. unless_divisor_zero b (within base (unless_zero y v))) (sym t)

left_none : (y : ℤ) (o : Option ℤ) → truth y ≡ false → None ≡ unless_divisor_zero (truth y) o
left_none y o t = ap (λ b. unless_divisor_zero b o) (sym t)

pub modulus_some : (base : Base) (x y r v w : ℤ) (o : Option ℤ) → Some r ≡ unless_zero y (int_rem x y) → v ≡ aligned r y → o ≡ within base (Some v) → w ≡ value_or_zero o → Some w ≡ on_range op.Mod base x y
modulus_some base x y r v w o e f g h =
    let k = found y (int_rem x y) r e in
    left_some base y (modulo x y) w o k.0 (g ∙ ap (λ v. within base (Some v)) (f ∙ ap (λ r. aligned r y) k.1)) h

pub modulus_none : (base : Base) (x y : ℤ) → None ≡ unless_zero y (int_rem x y) → None ≡ on_range op.Mod base x y
modulus_none base x y e = left_none y (within base (unless_zero y (modulo x y))) (lost y (int_rem x y) e)

pub remainder_some : (base : Base) (x y r w : ℤ) (o : Option ℤ) → Some r ≡ unless_zero y (int_rem x y) → o ≡ within base (Some r) → w ≡ value_or_zero o → Some w ≡ on_range op.Rem base x y
remainder_some base x y r w o e g h =
    let k = found y (int_rem x y) r e in
    left_some base y (int_rem x y) w o k.0 (g ∙ ap (λ v. within base (Some v)) k.1) h

pub remainder_none : (base : Base) (x y : ℤ) → None ≡ unless_zero y (int_rem x y) → None ≡ on_range op.Rem base x y
remainder_none base x y e = left_none y (within base (unless_zero y (int_rem x y))) (lost y (int_rem x y) e)

-- what 64 bits don't hold is in no base range
beyond : (base : Base) (z : ℤ) → is_in_base Wide z ≡ false → is_in_base base z ≡ false
beyond Wide z e = e
beyond Narrow (pos n) e = grind (arith, ints, nat_tests)
beyond Narrow (negsuc n) e = grind (arith, ints, nat_tests)
beyond (Modulo k) z e = not-kept k z e

within_both : (base : Base) (o : Option ℤ) → within base (within Wide o) ≡ within base o
within_both base None = refl
within_both base (Some z) = by_test (is_in_base Wide z) refl
  where
    by_test : (b : Bool) → is_in_base Wide z ≡ b → within base (if b then Some z else None) ≡ within base (Some z)
    by_test true e = refl
    by_test false e = ap (λ b. if b then Some z else None) (sym (beyond base z e))

pub quotient_is : (base : Base) (x y : ℤ) (o v : Option ℤ) → o ≡ within Wide (unless_zero y (int_div x y)) → v ≡ within base o → v ≡ on_range op.Div base x y
quotient_is base x y o v e f = f ∙ ap (within base) e ∙ within_both base (unless_zero y (int_div x y))
