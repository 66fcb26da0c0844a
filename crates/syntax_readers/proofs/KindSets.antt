-- Sets of kinds.
use Rattle.std.proofs.Common.{◌≡◌, ℕ, List, [], ◌∷◌, ◌++◌, Bool, true, false, if◌then◌else◌, ◌==◌, ◌&&◌, ◌||◌, ◌⊎◌, inl, inr, refl, sym, ◌∙◌, subst}
use Rattle.std.proofs.lemmas.Bool.Decides.{Decides-eqb}
use Rattle.ada_base.specs.Symbols.{is_member}
use Rattle.syntax_readers.specs.Sets.{are_disjoint, is_subset}

pub true_false : {A : Type 0} → true ≡ false → A
true_false h = absurd (let f : Bool → Type 0 = λ b. elim b as (λ _. Type 0) [ true ↦ Unit {0} | false ↦ ⊥ ] in subst f h tt)

pub which : (b : Bool) → (b ≡ true) ⊎ (b ≡ false)
which true = inl refl
which false = inr refl

pub is_true : (b : Bool) → (b ≡ false → ⊥) → b ≡ true
is_true true h = refl
is_true false h = absurd (h refl)

pub is_member-left : (xs ys : List ℕ) (k : ℕ) → is_member xs k ≡ true → is_member (xs ++ ys) k ≡ true
is_member-left [] ys k h = true_false (sym h)
is_member-left (x ∷ xs) ys k h = at (x == k) h (is_member-left xs ys k) where
  at : (b : Bool) → (b || is_member xs k) ≡ true → (is_member xs k ≡ true → is_member (xs ++ ys) k ≡ true) → (b || is_member (xs ++ ys) k) ≡ true
  at true h f = refl
  at false h f = f h

pub is_member-right : (xs ys : List ℕ) (k : ℕ) → is_member ys k ≡ true → is_member (xs ++ ys) k ≡ true
is_member-right [] ys k h = h
is_member-right (x ∷ xs) ys k h = at (x == k) (is_member-right xs ys k h) where
  at : (b : Bool) → is_member (xs ++ ys) k ≡ true → (b || is_member (xs ++ ys) k) ≡ true
  at true f = refl
  at false f = f

pub is_member-append : (xs ys : List ℕ) (k : ℕ) → is_member (xs ++ ys) k ≡ false → (is_member xs k ≡ false) × (is_member ys k ≡ false)
is_member-append [] ys k h = (refl, h)
is_member-append (x ∷ xs) ys k h = at (x == k) h (is_member-append xs ys k) where
  at : (b : Bool) → (b || is_member (xs ++ ys) k) ≡ false → (is_member (xs ++ ys) k ≡ false → (is_member xs k ≡ false) × (is_member ys k ≡ false)) → ((b || is_member xs k) ≡ false) × (is_member ys k ≡ false)
  at true h f = true_false h
  at false h f = f h

pub is_subset-is_member : (xs ys : List ℕ) (k : ℕ) → is_subset xs ys ≡ true → is_member xs k ≡ true → is_member ys k ≡ true
is_subset-is_member [] ys k s h = true_false (sym h)
is_subset-is_member (x ∷ xs) ys k s h = at (which (x == k)) (which (is_member ys x)) (is_subset-is_member xs ys k) where
  at : ((x == k) ≡ true) ⊎ ((x == k) ≡ false) → (is_member ys x ≡ true) ⊎ (is_member ys x ≡ false) → (is_subset xs ys ≡ true → is_member xs k ≡ true → is_member ys k ≡ true) → is_member ys k ≡ true
  at (inl e) (inl m) f = subst (λ z. is_member ys z ≡ true) ((Decides-eqb x k).0 e) m
  at (inr e) (inl m) f = f (subst (λ b. (if b then is_subset xs ys else false) ≡ true) m s) (subst (λ b. (b || is_member xs k) ≡ true) e h)
  at _ (inr m) f = true_false (sym (subst (λ b. (if b then is_subset xs ys else false) ≡ true) m s))

pub are_disjoint-is_member : (xs ys : List ℕ) (k : ℕ) → are_disjoint xs ys ≡ true → is_member ys k ≡ true → is_member xs k ≡ false
are_disjoint-is_member [] ys k s h = refl
are_disjoint-is_member (x ∷ xs) ys k s h = at (which (x == k)) (which (is_member ys x)) (λ e. are_disjoint-is_member xs ys k e h) where
  at : ((x == k) ≡ true) ⊎ ((x == k) ≡ false) → (is_member ys x ≡ true) ⊎ (is_member ys x ≡ false) → (are_disjoint xs ys ≡ true → is_member xs k ≡ false) → ((x == k) || is_member xs k) ≡ false
  at _ (inl m) f = true_false (sym (subst (λ b. (if b then false else are_disjoint xs ys) ≡ true) m s))
  at (inl e) (inr m) f = true_false (sym h ∙ subst (λ z. is_member ys z ≡ false) ((Decides-eqb x k).0 e) m)
  at (inr e) (inr m) f = subst (λ b. (b || is_member xs k) ≡ false) (sym e) (f (subst (λ b. (if b then false else are_disjoint xs ys) ≡ true) m s))

pub both : (a b : Bool) → (a && b) ≡ true → (a ≡ true) × (b ≡ true)
both true b h = (refl, h)
both false b h = true_false (sym h)

-- what is in none of the more is in none of the fewer
pub is_member-none : (xs ys : List ℕ) (k : ℕ) → is_subset xs ys ≡ true → is_member ys k ≡ false → is_member xs k ≡ false
is_member-none xs ys k s h = at (which (is_member xs k)) where
  at : (is_member xs k ≡ true) ⊎ (is_member xs k ≡ false) → is_member xs k ≡ false
  at (inl e) = true_false (sym (is_subset-is_member xs ys k s e) ∙ h)
  at (inr e) = e

pub are_disjoint-none : (xs : List ℕ) → are_disjoint xs [] ≡ true
are_disjoint-none [] = refl
are_disjoint-none (x ∷ xs) = are_disjoint-none xs
