-- What follows from the definitions of faults alone: a list has a tree, or one first fault.
use Rattle.std.proofs.Common.{◌≡◌, ℕ, ◌<◌, List, [], ◌∷◌, ◌++◌, length, refl, sym, ap, ◌∙◌, subst, append_assoc, append-nil, arith}
use Rattle.ada_base.specs.Symbols.{numbered}
use Rattle.ada_base.specs.Languages.{Language}
use Rattle.ada_base.specs.Derivations.{Derives, DerivesWithin, IsBeginning, NoneGoesOn, IsFirstFault, IsFirstTooDeep}
use Rattle.syntax_readers.proofs.Words.{head_is, not_within}

-- what a beginning begins with is one
pub shorter : {A : Type 0} (L : A → Language) (xs ys : List ℕ) → IsBeginning L (xs ++ ys) → IsBeginning L xs
shorter L xs ys (a, more, derives) = (a, ys ++ more, subst (λ ks. Derives L ks a) (append_assoc xs ys more) derives)

-- where a list goes on behind a front, a beginning that has all of it excludes that none goes on
pub goes_on : {A : Type 0} (L : A → Language) (front : List ℕ) (k : ℕ) (rest : List ℕ) → IsBeginning L (front ++ k ∷ rest) → NoneGoesOn L front (k ∷ rest) → ⊥
goes_on L front k rest begins none = none (shorter L (front ++ k ∷ []) rest (subst (IsBeginning L) (sym (append_assoc front (k ∷ []) rest)) begins))

-- no list has a tree and a fault
pub tree_or_fault : {A : Type 0} (L : A → Language) (ks : List ℕ) (a : A) (place : ℕ) → Derives L ks a → IsFirstFault L ks place → ⊥
tree_or_fault {A} L ks a place derives fault = at fault.rest fault.split fault.ends where
  at : (rest : List ℕ) → ks ≡ fault.front ++ rest → NoneGoesOn L fault.front rest → ⊥
  at [] e none = none a (subst (λ z. Derives L z a) (e ∙ append-nil fault.front) derives)
  at (k ∷ rest) e none = goes_on L fault.front k rest (a, [], subst (λ z. Derives L z a) (e ∙ sym (append-nil (fault.front ++ k ∷ rest))) derives) none

-- no list has a tree within the limit and is too deep
pub tree_or_deep : {A : Type 0} (limit : ℕ) (L : A → Language) (ks : List ℕ) (a : A) (place : ℕ) → DerivesWithin limit L ks a → IsFirstTooDeep limit L ks place → ⊥
tree_or_deep limit L ks a place (w, l, e, within) deep =
    let (f, c, b, is, at, fronts, over) = deep.sinks a w deep.rest l (e ∙ ap (numbered 0) deep.split) in
    not_within limit w f c b is within over

-- of two ways to split a list, the shorter front begins the longer
splits : (xs ys zs ws : List ℕ) → xs ++ zs ≡ ys ++ ws → length xs < length ys → (k : ℕ) × (rest : List ℕ) × (more : List ℕ) × (zs ≡ k ∷ rest) × (ys ≡ xs ++ k ∷ more)
splits [] [] zs ws e lt = absurd (omega (arith, lt))
splits [] (y ∷ ys) zs ws e lt = (y, ys ++ ws, ys, e, refl)
splits (x ∷ xs) [] zs ws e lt = absurd (omega (arith, lt))
splits (x ∷ xs) (y ∷ ys) zs ws e lt =
    let (h, t) = head_is x y (xs ++ zs) (ys ++ ws) e in
    let (k, rest, more, is, longer) = splits xs ys zs ws t (omega (arith, lt)) in
    (k, rest, more, is, ap (λ z. z ∷ ys) (sym h) ∙ ap (λ z. x ∷ z) longer)

-- no fault stands before the first one
pub none_before : {A : Type 0} (L : A → Language) (ks : List ℕ) (place other : ℕ) → IsFirstFault L ks place → IsFirstFault L ks other → place < other → ⊥
none_before {A} L ks place other fault later lt =
    let (k, rest, more, is, longer) = splits fault.front later.front fault.rest later.rest (sym fault.split ∙ later.split) (omega (arith, lt, fault.at, later.at)) in
    goes_on L fault.front k more (subst (IsBeginning L) longer later.begins) (subst (NoneGoesOn L fault.front) is fault.ends)

-- a list has one first fault
pub one_fault : {A : Type 0} (L : A → Language) (ks : List ℕ) (place other : ℕ) → IsFirstFault L ks place → IsFirstFault L ks other → place ≡ other
one_fault L ks place other fault later =
    omega (arith, none_before L ks place other fault later, none_before L ks other place later fault)
