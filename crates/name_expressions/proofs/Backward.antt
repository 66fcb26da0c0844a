-- A list from its back.
use Rattle.std.proofs.Common.{◌≡◌, refl, ap, ◌∙◌, sym, ℕ, zero, suc, ◌-◌, ◌<◌, List, [], ◌∷◌, ◌++◌, Some, None, take, drop, length, reverse, arith}
use Rattle.std.specs.Prelude.{slice_get}
use Rattle.std.proofs.lemmas.List.{reverse-append}

pub reverse_last : {A : Type 0} (xs : List A) (x : A) → reverse (xs ++ x ∷ []) ≡ x ∷ reverse xs
reverse_last xs x = reverse-append xs (x ∷ [])

pub take_whole : {A : Type 0} (xs : List A) → take (length xs) xs ≡ xs
take_whole [] = refl
take_whole (x ∷ xs) = ap (λ zs. x ∷ zs) (take_whole xs)

take_last : {A : Type 0} (xs : List A) (i : ℕ) (x : A) → slice_get xs i ≡ Some x → take (suc i) xs ≡ take i xs ++ x ∷ []
take_last [] i x e = absurd (cc)
take_last (y ∷ xs) zero x e = cc
take_last (y ∷ xs) (suc i) x e = ap (λ zs. y ∷ zs) (take_last xs i x e)

take_none : {A : Type 0} (xs : List A) (i : ℕ) → slice_get xs i ≡ None → take (suc i) xs ≡ take i xs
take_none [] zero e = refl
take_none [] (suc i) e = refl
take_none (y ∷ xs) zero e = absurd (cc)
take_none (y ∷ xs) (suc i) e = ap (λ zs. y ∷ zs) (take_none xs i e)

pub back_step : {A : Type 0} (xs : List A) (i : ℕ) (x : A) → 0 < i → slice_get xs (i - 1) ≡ Some x → reverse (take i xs) ≡ x ∷ reverse (take (i - 1) xs)
back_step xs i x h e = let p : i ≡ suc (i - 1) = omega (arith, h) in ap (λ k. reverse (take k xs)) p ∙ ap reverse (take_last xs (i - 1) x e) ∙ reverse_last (take (i - 1) xs) x

pub back_none : {A : Type 0} (xs : List A) (i : ℕ) → 0 < i → slice_get xs (i - 1) ≡ None → take i xs ≡ take (i - 1) xs
back_none xs i h e = let p : i ≡ suc (i - 1) = omega (arith, h) in ap (λ k. take k xs) p ∙ take_none xs (i - 1) e

drop_some : {A : Type 0} (xs : List A) (i : ℕ) (x : A) → slice_get xs i ≡ Some x → drop i xs ≡ x ∷ drop (suc i) xs
drop_some [] i x e = absurd (cc)
drop_some (y ∷ xs) zero x e = cc
drop_some (y ∷ xs) (suc i) x e = drop_some xs i x e

drop_none : {A : Type 0} (xs : List A) (i : ℕ) → slice_get xs i ≡ None → drop i xs ≡ drop (suc i) xs
drop_none [] zero e = refl
drop_none [] (suc i) e = refl
drop_none (y ∷ xs) zero e = absurd (cc)
drop_none (y ∷ xs) (suc i) e = drop_none xs i e

pub drop_whole : {A : Type 0} (xs : List A) → drop (length xs) xs ≡ []
drop_whole [] = refl
drop_whole (x ∷ xs) = drop_whole xs

pub back_drop : {A : Type 0} (xs : List A) (i : ℕ) (x : A) → 0 < i → slice_get xs (i - 1) ≡ Some x → drop (i - 1) xs ≡ x ∷ drop i xs
back_drop xs i x h e = let p : i ≡ suc (i - 1) = omega (arith, h) in drop_some xs (i - 1) x e ∙ ap (λ k. x ∷ drop k xs) (sym p)

pub back_dropped : {A : Type 0} (xs : List A) (i : ℕ) → 0 < i → slice_get xs (i - 1) ≡ None → drop (i - 1) xs ≡ drop i xs
back_dropped xs i h e = let p : i ≡ suc (i - 1) = omega (arith, h) in drop_none xs (i - 1) e ∙ ap (λ k. drop k xs) (sym p)
