-- Whether a value is left open by ranges in order, from a place on.
use Rattle.std.proofs.Common.{◌≡◌, refl, sym, ◌∙◌, ℕ, ◌+◌, ℤ, List, Some, None, true, false, drop, arith, SFits, to_z, of_z, to_z-of_z, w64}
use Rattle.std.proofs.lemmas.Int.{ints}
use Rattle.std.specs.Int.{w128}
use Rattle.std.specs.Prelude.{slice_get, int_le, int_lt, ◌+ℤ◌, pos}
use Rattle.name_rules.specs.Cases.{is_open, int_max}
use Rattle.name_values.proofs.Lists.{drop_get, drop_none}

open_before : (low high : ℤ) (rs : List (ℤ × ℤ)) (i : ℕ) (r : ℤ × ℤ)
    → slice_get rs i ≡ Some r → int_lt low r.0 ≡ true → is_open low high (drop i rs) ≡ int_le low high
open_before low high rs i r e h = rw (drop_get rs i r e) (rw h refl)

open_behind : (low high : ℤ) (rs : List (ℤ × ℤ)) (i : ℕ) (r : ℤ × ℤ)
    → slice_get rs i ≡ Some r → int_lt low r.0 ≡ false → is_open low high (drop i rs) ≡ is_open (int_max low (r.1 +ℤ pos 1)) high (drop (i + 1) rs)
open_behind low high rs i r e h = rw (drop_get rs i r e) (rw h refl)

pub open_end : (low high : ℤ) (rs : List (ℤ × ℤ)) (i : ℕ)
    → slice_get rs i ≡ None → is_open low high (drop i rs) ≡ int_le low high
open_end low high rs i e = rw (drop_none rs i e) refl

-- what a loop shows over bits that are read back
pub shows_before : (low high lo hi from : ℤ) (rs : List (ℤ × ℤ)) (i : ℕ) (r : ℤ × ℤ)
    → lo ≡ low → hi ≡ high → is_open from hi (drop i rs) ≡ is_open lo hi rs → slice_get rs i ≡ Some r → int_lt from r.0 ≡ true
    → int_le from hi ≡ is_open low high rs
shows_before low high lo hi from rs i r a b w e h = rw (sym a, sym b) (sym (open_before from hi rs i r e h) ∙ w)

pub goes_behind : (lo hi from next : ℤ) (rs : List (ℤ × ℤ)) (i : ℕ) (r : ℤ × ℤ)
    → is_open from hi (drop i rs) ≡ is_open lo hi rs → slice_get rs i ≡ Some r → int_lt from r.0 ≡ false → next ≡ int_max from (r.1 +ℤ pos 1)
    → is_open next hi (drop (i + 1) rs) ≡ is_open lo hi rs
goes_behind lo hi from next rs i r w e h n = rw n (sym (open_behind from hi rs i r e h) ∙ w)

-- an i64 read as an i128
pub wide : (z f : ℤ) → SFits w64 z → SFits w128 f → f ≡ to_z w64 (of_z w64 z) → to_z w128 (of_z w128 f) ≡ z
wide z f a b e = to_z-of_z b ∙ (e ∙ to_z-of_z a)

above : (z : ℤ) → SFits w64 z → SFits w128 (z +ℤ pos 1)
above z a = omega (arith, ints)

-- the value after it
pub wide_next : (z f : ℤ) → SFits w64 z → SFits w128 f → f ≡ to_z w64 (of_z w64 z) → to_z w128 (of_z w128 (to_z w128 (of_z w128 f) +ℤ pos 1)) ≡ z +ℤ pos 1
wide_next z f a b e = rw (wide z f a b e) (to_z-of_z {w = w128} {z = z +ℤ pos 1} (above z a))

pub same_open : (low high a b : ℤ) (rs ss ts : List (ℤ × ℤ)) → a ≡ low → b ≡ high → ts ≡ ss → is_open low high ss ≡ is_open low high rs → is_open a b ts ≡ is_open low high rs
same_open low high a b rs ss ts d e f g = rw (d, e, f) g
