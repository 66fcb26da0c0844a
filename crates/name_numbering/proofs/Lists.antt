-- A list from a place on.
use Rattle.std.proofs.Common.{◌≡◌, ap, refl, ℕ, zero, suc, ◌+◌, ◌-◌, ◌<◌, ◌≤◌, List, [], ◌∷◌, ◌++◌, length, Some, None, drop, arith}
use Rattle.std.proofs.Math.ListN.{get_or}
use Rattle.std.proofs.lemmas.List.{append-nil, append_assoc, drop_more}
use Rattle.std.proofs.lemmas.Option.{get_or_from_slice_get, slice_get_within}
use Rattle.std.specs.Prelude.{map, slice_get}

pub append_one : {A : Type 0} (xs : List A) (x : A) (ys : List A) → (xs ++ x ∷ []) ++ ys ≡ xs ++ (x ∷ ys)
append_one xs x ys = append_assoc xs (x ∷ []) ys

pub append_none : {A : Type 0} (xs : List A) → xs ++ [] ≡ xs
append_none xs = append-nil xs

pub drop_get : {A : Type 0} (xs : List A) (i : ℕ) (x : A) → slice_get xs i ≡ Some x → drop i xs ≡ x ∷ drop (i + 1) xs
drop_get xs i x e =
    let g : get_or xs i x ≡ x = get_or_from_slice_get xs i x x e in
    let d : drop i xs ≡ get_or xs i x ∷ drop (i + 1) xs = drop_more xs i x (slice_get_within xs i x e) in
    cc

pub drop_none : {A : Type 0} (xs : List A) (i : ℕ) → slice_get xs i ≡ None → drop i xs ≡ []
drop_none [] zero e = refl
drop_none [] (suc i) e = refl
drop_none (y ∷ xs) zero e = absurd (cc)
drop_none (y ∷ xs) (suc i) e = drop_none xs i e

pub drop_less : {A : Type 0} (xs : List A) (i : ℕ) (x : A) → slice_get xs i ≡ Some x → length xs - (i + 1) < length xs - i
drop_less xs i x e = omega (arith, slice_get_within xs i x e)

pub map_one : {A B : Type 0} (f : A → B) (xs : List A) (x : A) → map f (xs ++ x ∷ []) ≡ map f xs ++ f x ∷ []
map_one f [] x = refl
map_one f (y ∷ xs) x = ap (λ zs. f y ∷ zs) (map_one f xs x)

pub map_length : {A B : Type 0} (f : A → B) (xs : List A) → length (map f xs) ≡ length xs
map_length f [] = refl
map_length f (x ∷ xs) = ap suc (map_length f xs)

pub drop_past : {A : Type 0} (xs : List A) (i : ℕ) → length xs ≤ i → drop i xs ≡ []
drop_past [] zero h = refl
drop_past [] (suc i) h = refl
drop_past (y ∷ xs) zero h = absurd (omega (arith, h))
drop_past (y ∷ xs) (suc i) h = drop_past xs i (omega (arith, h))
