-- Tables whose items change by their numbers.
use Rattle.std.proofs.Common.{◌≡◌, ◌+◌, ◌∙◌, ◌≤◌, ℕ, zero, suc, List, [], ◌∷◌, refl, sym, ap, arith}
use Rattle.std.specs.Prelude.{slice_get, slice_set, Option, Some, None}
use Rattle.lower_code.specs.BodyTables.{each}

-- what changes none above a number, and what changes one alone
abbrev Still : {A : Type 0} → (ℕ → A → A) → ℕ → Type 0
Still {A} f k = (n : ℕ) (x : A) → k ≤ n → f n x ≡ x

abbrev pub Alone : {A : Type 0} → (ℕ → A → A) → ℕ → Type 0
Alone {A} f j = (n : ℕ) (x : A) → (n ≡ j → ⊥) → f n x ≡ x

each_same : {A : Type 0} (f : ℕ → A → A) (k : ℕ) (xs : List A) → Still f k → each f k xs ≡ xs
each_same f k [] h = refl
each_same f k (x ∷ xs) h = ap (λ y. y ∷ each f (k + 1) xs) (h k x (omega arith)) ∙ ap (λ ys. x ∷ ys) (each_same f (k + 1) xs (λ n y l. h n y (omega (arith, l))))

pub each_all : {A : Type 0} (f : ℕ → A → A) (xs : List A) → ((n : ℕ) (x : A) → f n x ≡ x) → each f 0 xs ≡ xs
each_all f xs h = each_same f 0 xs (λ n x l. h n x)

set_from : {A : Type 0} (f : ℕ → A → A) (k j : ℕ) (xs : List A) (x : A) → Alone f (k + j) → slice_get xs j ≡ Some x → each f k xs ≡ slice_set xs j (f (k + j) x)
set_from f k j [] x h e = absurd (let z : ◌≡◌ {A = Option _} None (Some x) = e in cc)
set_from f k zero (y ∷ ys) x h e =
    let z : y ≡ x = let w : Some y ≡ Some x = e in cc in
    let same : each f (k + 1) ys ≡ ys = each_same f (k + 1) ys (λ n w l. h n w (λ q. omega (arith, q, l))) in
    ap (λ w. f k w ∷ each f (k + 1) ys) z ∙ (ap (λ w. f k x ∷ w) same ∙ ap (λ n. f n x ∷ ys) (let q : k ≡ k + 0 = omega arith in q))
set_from f k (suc j) (y ∷ ys) x h e =
    let q : k + suc j ≡ k + 1 + j = omega arith in
    let here : f k y ≡ y = h k y (λ w. omega (arith, w)) in
    let rest : each f (k + 1) ys ≡ slice_set ys j (f (k + 1 + j) x) = set_from f (k + 1) j ys x (λ n w l. h n w (λ v. l (v ∙ q))) e in
    ap (λ w. w ∷ each f (k + 1) ys) here ∙ (ap (λ w. y ∷ w) rest ∙ ap (λ n. y ∷ slice_set ys j (f n x)) (sym q))

pub each_set : {A : Type 0} (f : ℕ → A → A) (j : ℕ) (xs : List A) (x : A) → Alone f j → slice_get xs j ≡ Some x → each f 0 xs ≡ slice_set xs j (f j x)
each_set f j xs x h e = let q : 0 + j ≡ j = omega arith in set_from f 0 j xs x (λ n w l. h n w (λ v. l (v ∙ sym q))) e ∙ ap (λ n. slice_set xs j (f n x)) q

none_from : {A : Type 0} (f : ℕ → A → A) (k j : ℕ) (xs : List A) → Alone f (k + j) → slice_get xs j ≡ None → each f k xs ≡ xs
none_from f k j [] h e = refl
none_from f k zero (y ∷ ys) h e = absurd (let z : ◌≡◌ {A = Option _} (Some y) None = e in cc)
none_from f k (suc j) (y ∷ ys) h e =
    let q : k + suc j ≡ k + 1 + j = omega arith in
    ap (λ w. w ∷ each f (k + 1) ys) (h k y (λ w. omega (arith, w))) ∙ ap (λ w. y ∷ w) (none_from f (k + 1) j ys (λ n w l. h n w (λ v. l (v ∙ q))) e)

pub each_none : {A : Type 0} (f : ℕ → A → A) (j : ℕ) (xs : List A) → Alone f j → slice_get xs j ≡ None → each f 0 xs ≡ xs
each_none f j xs h e = let q : 0 + j ≡ j = omega arith in none_from f 0 j xs (λ n w l. h n w (λ v. l (v ∙ sym q))) e

pub each_each : {A : Type 0} (f g : ℕ → A → A) (k : ℕ) (xs : List A) → each f k (each g k xs) ≡ each (λ n x. f n (g n x)) k xs
each_each f g k [] = refl
each_each f g k (x ∷ xs) = ap (λ ys. f k (g k x) ∷ ys) (each_each f g (k + 1) xs)
