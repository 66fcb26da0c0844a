-- Powers of two, from one exponent on.
use Rattle.std.proofs.Common.{◌≡◌, ◌∙◌, refl, sym, ap, subst, ℕ, suc, ◌+◌, ◌-◌, ◌^◌, ◌<◌, ◌≤◌, ℤ, pos, negsuc, Bool, true, false, Option, Some, None, if◌then◌else◌, pow_mono, arith}
use Rattle.std.specs.Ordering.{int_eq}
use Rattle.std.specs.Prelude.{int_lt, unsigned_abs}
use Rattle.std.proofs.Math.Nat.{pow-succ'}
use Rattle.std.proofs.lemmas.Bool.{false_from_ne_true, ltb-true}
use Rattle.std.proofs.lemmas.Bool.Decides.{Decides-int_eq}
use Rattle.name_rules.specs.Declarations.{exponent_from}
use Rattle.name_programs.specs.DeclarationSteps.{Reached, exponent}

from : (b : Bool) (x y : Option ℕ) → b ≡ false → (if b then x else y) ≡ y
from true x y e = absurd (cc)
from false x y e = refl

at : (b : Bool) (x y : Option ℕ) → b ≡ true → (if b then x else y) ≡ x
at true x y e = refl
at false x y e = absurd (cc)

left : (k : ℕ) → k < 65 → 65 - k ≡ suc (65 - suc k)
left k h = omega (arith, h)

positive : {m n : ℕ} → pos m ≡ pos n → m ≡ n
positive e = cc

same_power : (m k p : ℕ) → p ≡ 2 ^ k → m ≡ p → int_eq (pos m) (pos (2 ^ k)) ≡ true
same_power m k p r e = (Decides-int_eq (pos m) (pos (2 ^ k))).1 (ap pos (e ∙ r))

other_power : (m k p : ℕ) → p ≡ 2 ^ k → (m ≡ p → ⊥) → int_eq (pos m) (pos (2 ^ k)) ≡ false
other_power m k p r e = false_from_ne_true _ (λ t. e (positive ((Decides-int_eq (pos m) (pos (2 ^ k))).0 t) ∙ sym r))

pub at_first : (m : ℕ) → Reached m 1 2
unfolding exponent
at_first m = (refl, refl, omega arith)

pub at_this : (m k p : ℕ) → Reached m k p → k < 65 → m ≡ p → Some k ≡ exponent (pos m)
at_this m k p r h e = sym (r.0 ∙ ap (λ n. exponent_from n k (pos m)) (left k h) ∙ at (int_eq (pos m) (pos (2 ^ k))) (Some k) (exponent_from (65 - suc k) (suc k) (pos m)) (same_power m k p r.1 e))

at_next : (m k p : ℕ) → Reached m k p → k < 65 → (m ≡ p → ⊥) → exponent (pos m) ≡ exponent_from (65 - suc k) (suc k) (pos m)
at_next m k p r h e = r.0 ∙ ap (λ n. exponent_from n k (pos m)) (left k h) ∙ from (int_eq (pos m) (pos (2 ^ k))) (Some k) (exponent_from (65 - suc k) (suc k) (pos m)) (other_power m k p r.1 e)

doubled : (k p : ℕ) → p ≡ 2 ^ k → p + p ≡ 2 ^ suc k
doubled k p e = omega (arith, e, pow-succ' 2 k)

next_reached : (m k p : ℕ) → Reached m k p → k < 65 → (m ≡ p → ⊥) → Reached m (suc k) (p + p)
next_reached m k p r h e = (at_next m k p r h e, doubled k p r.1, omega (arith, h))

pub reached : (m k p : ℕ) → Reached m k p → k < 65 → (m ≡ p → ⊥) → Reached m (k + 1) (p + p)
reached m k p r h e = let s : suc k ≡ k + 1 = omega arith in subst (λ n. Reached m n (p + p)) s (next_reached m k p r h e)

pub at_none : (m k p : ℕ) → Reached m k p → 65 ≤ k → None ≡ exponent (pos m)
at_none m k p r h = let e : 65 - k ≡ 0 = omega (arith, h) in sym (r.0 ∙ ap (λ n. exponent_from n k (pos m)) e)

pub small_power : (k : ℕ) → k < 65 → 2 ^ k ≤ 2 ^ 64
small_power k h = pow_mono {i = k} {j = 64} (omega (arith, h))

pub no_negative : (z : ℤ) → int_lt z (pos 0) ≡ true → None ≡ exponent z
unfolding exponent
no_negative (pos n) h = absurd (omega (arith, ltb-true n 0 h))
no_negative (negsuc n) h = refl

pub of_absolute : (z : ℤ) (n : ℕ) (r : Option ℕ) → int_lt z (pos 0) ≡ false → n ≡ unsigned_abs z → r ≡ exponent (pos n) → r ≡ exponent z
of_absolute (pos m) n r h e f = f ∙ ap (λ k. exponent (pos k)) e
of_absolute (negsuc m) n r h e f = absurd (cc)
