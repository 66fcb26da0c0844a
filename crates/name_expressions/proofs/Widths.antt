-- Numbers of 64 and of 128 bits.
use Rattle.std.proofs.Common.{◌≡◌, ◌∙◌, ap, false, ℕ, ◌*◌, ◌≤◌, ◌^◌, ◌-◌, ℤ, pos, ◌+ℤ◌, int_lt, to_z, of_z, w64, arith}
use Rattle.std.proofs.lemmas.Int.{ints, to_z-of_z}
use mir.Syntax.{w128}
use mir.Val.{SFits}
use Rattle.std.specs.Prelude.{min}
use Rattle.std.proofs.Math.Nat.{min-eq_left, mul-le-mul}

-- fewer than 2^64 times as many, or once more, are no more than 128 bits hold
pub product_whole : (n m : ℕ) → n ≤ 18446744073709551616 → m ≤ 18446744073709551615 → min (n * m) (2 ^ 128 - 1) ≡ n * m
product_whole n m h k = min-eq_left (omega (arith, mul-le-mul h k))

-- behind a value of 64 bits
fits_wider : (h : ℤ) → SFits w64 h → SFits w128 h
fits_wider h f = grind (arith, ints)

fits_next : (h r : ℤ) → SFits w64 h → SFits w128 r → int_lt h r ≡ false → SFits w128 (r +ℤ pos 1)
fits_next h r f g e = grind (arith, ints)

pub next_value : (e h r : ℤ) → SFits w64 h → SFits w128 r → e ≡ to_z w64 (of_z w64 h) → int_lt (to_z w128 (of_z w128 e)) r ≡ false → to_z w128 (of_z w128 (to_z w128 (of_z w128 r) +ℤ pos 1)) ≡ r +ℤ pos 1
next_value e h r f g k n =
    let same : to_z w128 (of_z w128 e) ≡ h = ap (λ x. to_z w128 (of_z w128 x)) (k ∙ to_z-of_z w64 h f) ∙ to_z-of_z w128 h (fits_wider h f) in
    let least = rw same at n in
    ap (λ x. to_z w128 (of_z w128 (x +ℤ pos 1))) (to_z-of_z w128 r g) ∙ to_z-of_z w128 (r +ℤ pos 1) (fits_next h r f g least)
