-- How often a number stands in lists of numbers.
use Rattle.std.proofs.Common.{◌≡◌, refl, ap, ◌∙◌, ℕ, ◌+◌, List, [], ◌∷◌, ◌++◌, cond, if◌then◌else◌, ◌==◌, arith, eq-eqb}
use Rattle.typed_objects.specs.Objects.{times}

abbrev pub hit : ℕ → ℕ → ℕ
hit x y = if y == x then 1 else 0

pub times-first : (x y : ℕ) (ys : List ℕ) → times x (y ∷ ys) ≡ hit x y + times x ys
times-first x y ys = refl

pub times-join : (x : ℕ) (xs ys : List ℕ) → times x (xs ++ ys) ≡ times x xs + times x ys
times-join x [] ys = omega arith
times-join x (y ∷ xs) ys = omega (arith, times-join x xs ys)

pub hit-self : (x y : ℕ) → y ≡ x → hit x y ≡ 1
hit-self x y e = ap (hit x) e ∙ ap (λ b. cond b 1 0) (eq-eqb x x refl)
