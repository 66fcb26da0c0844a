-- The parameters that the arguments of a call were given for, the latest first.
use Rattle.std.proofs.Common.{◌≡◌, refl, ap, ◌∙◌, ℕ, List, [], ◌∷◌, ◌++◌, Bool, true, false, ◌||◌, Option, Some, None, reverse}
use Rattle.std.specs.List.{list_any}
use Rattle.std.proofs.lemmas.List.{reverse-append}
use Rattle.name_rules.specs.Calls.{also_taken}
use Rattle.name_values.specs.Calling.{also_given}

pub given_reversed : (given : List ℕ) (i : Option ℕ) → reverse (also_given given i) ≡ also_taken (reverse given) i
given_reversed given None = refl
given_reversed given (Some i) = reverse-append given (i ∷ [])

or_swap : (a b c : Bool) → (a || (b || c)) ≡ (b || (a || c))
or_swap true true c = refl
or_swap true false c = refl
or_swap false true c = refl
or_swap false false c = refl

any_behind : {A : Type 0} (p : A → Bool) (xs : List A) (y : A) → list_any p (xs ++ y ∷ []) ≡ (p y || list_any p xs)
any_behind p [] y = refl
any_behind p (x ∷ xs) y = ap (λ b. p x || b) (any_behind p xs y) ∙ or_swap (p x) (p y) (list_any p xs)

pub any_reversed : {A : Type 0} (p : A → Bool) (xs : List A) → list_any p (reverse xs) ≡ list_any p xs
any_reversed p [] = refl
any_reversed p (x ∷ xs) = ap (list_any p) (reverse-append (x ∷ []) xs) ∙ (any_behind p (reverse xs) x ∙ ap (λ b. p x || b) (any_reversed p xs))
