-- Bytes that were read before they are asked for.
use Rattle.std.proofs.Common.{◌≡◌, ℕ, suc, ◌+◌, ◌-◌, ◌<◌, ◌≤◌, List, [], ◌∷◌, ◌++◌, length, get_or, take, drop, Option, Some, None, subst, refl, ap, ◌∙◌, arith, add-one, drop-cons}
use Rattle.std.proofs.lemmas.List.{drop_all}
use Rattle.std.specs.List.{slice_range}
use Rattle.std.specs.Io.KnownBytes.{Consumes, prepend_known}
use Rattle.ada_port.specs.Ports.{Gives, GivesAll}
use Rattle.ada_port.specs.Sources.{sure_left}

-- the first of the bytes from one place to another
pub slice_range-first : (bytes : List ℕ) (start end : ℕ) → start < end → end ≤ length bytes → slice_range bytes start end ≡ get_or bytes start 0 ∷ slice_range bytes (start + 1) end
slice_range-first bytes start end some within =
    let less : start < length bytes = omega arith in
    let count : end - start ≡ suc (end - (start + 1)) = omega arith in
    rw (drop-cons bytes start 0, count, add-one) refl

pub Consumes-buffered : (known : Option (List ℕ)) (buffer : List ℕ) (start end : ℕ) → start < end → end ≤ length buffer → Consumes (prepend_known (slice_range buffer start end) known) (prepend_known (slice_range buffer (start + 1) end) known) (get_or buffer start 0 ∷ [])
Consumes-buffered None buffer start end some within = tt
Consumes-buffered (Some rest) buffer start end some within = ap (λ bytes. bytes ++ rest) (slice_range-first buffer start end some within)

-- no byte stands from a place to one that isn't behind it
pub prepend-none : (known : Option (List ℕ)) (buffer : List ℕ) (start end : ℕ) → end ≤ start → prepend_known (slice_range buffer start end) known ≡ known
prepend-none None buffer start end none = refl
prepend-none (Some rest) buffer start end none = let e : end - start ≡ 0 = omega arith in rw e refl

-- a byte of a list is taken from those that are left of it
pub first-given : (bytes : List ℕ) (k byte : ℕ) → k < length bytes → byte ≡ get_or bytes k byte → Gives (sure_left (drop k bytes)) (sure_left (drop (k + 1) bytes)) (byte ∷ [])
first-given bytes k byte within is =
    let first : drop k bytes ≡ byte ∷ drop (k + 1) bytes = rw (drop-cons bytes k byte, ← is, add-one) refl in
    record { told = first; faults = refl }

-- none is left of it
pub none-given : (bytes : List ℕ) (k : ℕ) → length bytes ≤ k → GivesAll (sure_left (drop k bytes)) (sure_left (drop k bytes)) []
none-given bytes k none = record { told = refl; none = drop_all k bytes none; faults = refl }

drop-none : (bytes : List ℕ) → drop 0 bytes ≡ bytes
drop-none [] = refl
drop-none (x ∷ xs) = refl

pub Consumes-read : (old new : Option (List ℕ)) (buffer : List ℕ) (count : ℕ) → Consumes old new (take count buffer) → 0 < count → count ≤ length buffer → Consumes old (prepend_known (slice_range buffer 1 count) new) (get_or buffer 0 0 ∷ [])
Consumes-read None new buffer count c some within = tt
Consumes-read (Some xs) None buffer count c some within = absurd c
Consumes-read (Some xs) (Some ys) buffer count c some within =
    let same : count - 0 ≡ count = omega arith in
    let first = rw (same, drop-none buffer) at (slice_range-first buffer 0 count some within) in
    c ∙ ap (λ bytes. bytes ++ ys) first

take-none : (bytes : List ℕ) → take 0 bytes ≡ []
take-none [] = refl
take-none (x ∷ xs) = refl

-- a read that gives no byte takes none
pub none-read : (old new : Option (List ℕ)) (buffer : List ℕ) (count : ℕ) → count ≡ 0 → Consumes old new (take count buffer) → Consumes old new []
none-read old new buffer count none c = subst (Consumes old new) (rw none (take-none buffer)) c
