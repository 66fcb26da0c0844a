-- The numbers of texts, by their bytes.
use Rattle.std.specs.HashMap.{HashMap, get}
use Rattle.std.specs.Cmp.Lexicographic.{pointwise}
use Rattle.std.specs.Prelude.{Bool, List, [], ◌∷◌, Option, Some, None, Vec, cond, nat_eq, option_map, ℕ, ◌≡◌, ◌+◌}

-- the place of a text among texts, if it is among them
abbrev pub found : List (List ℕ) → List ℕ → Option ℕ
found [] bytes = None
found (t ∷ ts) bytes = cond (pointwise nat_eq t bytes) (Some 0) (option_map (λ n. n + 1) (found ts bytes))

abbrev pub same_bytes : {Z : Type 0} → Vec ℕ Z → Vec ℕ Z → Bool
same_bytes x y = pointwise nat_eq x.items y.items

-- each text has its place among these
abbrev pub Listed : {Z S : Type 0} → HashMap (Vec ℕ Z) ℕ S → List (List ℕ) → Type 0
Listed {Z = Z} seen texts = (q : Vec ℕ Z) → get same_bytes seen q ≡ found texts q.items
