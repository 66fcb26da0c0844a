-- What is around a statement, changed for what stands in it and back again.
use Rattle.std.proofs.Common.{◌≡◌, refl, ◌++◌, ◌∷◌, [], length, take}
use Rattle.std.proofs.Common.{List}

-- a list without the item behind it
pub front : {A : Type 0} (xs : List A) (x : A) → take (length xs) (xs ++ x ∷ []) ≡ xs
front [] x = refl
front (y ∷ xs) x = rw (front xs x) refl
