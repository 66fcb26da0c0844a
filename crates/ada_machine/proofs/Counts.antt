-- How many numbers there are from a first to a last.
use Rattle.std.proofs.Common.{◌≡◌, ◌+◌, ℤ, pos, negsuc, ◌+ℤ◌, ◌-ℤ◌, ◌≤ℤ◌, ◌<ℤ◌, ap, sym, refl, arith}
use Rattle.std.proofs.lemmas.Int.{ints}
use Rattle.std.specs.Prelude.{unsigned_abs}
use Rattle.stack_code.specs.Deeds.{many, natural}

none_below : (z : ℤ) → z ≤ℤ pos 0 → 0 ≡ natural z
none_below (pos n) l = omega (arith, ints, l)
none_below (negsuc n) l = refl

pub many_none : (first last : ℤ) → last <ℤ first → 0 ≡ many first last
many_none first last l = none_below (last +ℤ pos 1 -ℤ first) (omega (arith, ints, l))

more_by_one : (z w : ℤ) → pos 0 ≤ℤ z → w ≡ z +ℤ pos 1 → unsigned_abs z + 1 ≡ natural w
more_by_one (pos n) w l e = ap natural (sym e)
more_by_one (negsuc n) w l e = absurd (omega (arith, ints, l))

pub many_some : (first last : ℤ) → first ≤ℤ last → unsigned_abs (last -ℤ first) + 1 ≡ many first last
many_some first last l = more_by_one (last -ℤ first) (last +ℤ pos 1 -ℤ first) (omega (arith, ints, l)) (omega (arith, ints))
