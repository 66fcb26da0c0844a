-- An i64 that is read as an i128, and the numbers behind it.
use Rattle.std.proofs.Common.{◌≡◌, ℤ, arith, SFits, to_z, of_z, to_z-of_z, w64}
use Rattle.std.proofs.lemmas.Int.{ints}
use Rattle.std.specs.Int.{w128}
use Rattle.std.specs.Prelude.{◌+ℤ◌, pos}
use Rattle.name_values.proofs.Open.{wide_next}

two_above : (z : ℤ) → SFits w64 z → SFits w128 ((z +ℤ pos 1) +ℤ pos 1)
two_above z a = omega (arith, ints)

-- the second value after it
pub wide_second : (z f : ℤ) → SFits w64 z → SFits w128 f → f ≡ to_z w64 (of_z w64 z)
    → to_z w128 (of_z w128 (to_z w128 (of_z w128 (to_z w128 (of_z w128 f) +ℤ pos 1)) +ℤ pos 1)) ≡ (z +ℤ pos 1) +ℤ pos 1
wide_second z f a b e = rw (wide_next z f a b e) (to_z-of_z {w = w128} {z = (z +ℤ pos 1) +ℤ pos 1} (two_above z a))
