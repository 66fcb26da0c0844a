-- The numbers of words, by their characters after case folding.
use Rattle.name_symbols.specs.Naming.{place}
use Rattle.std.specs.Cmp.Lexicographic.{pointwise}
use Rattle.std.specs.HashMap.{HashMap, get}
use Rattle.std.specs.Prelude.{Bool, List, Vec, nat_eq, ℕ, ◌≡◌}

abbrev pub same_word : {Z : Type 0} → Vec ℕ Z → Vec ℕ Z → Bool
same_word x y = pointwise nat_eq x.items y.items

-- each word has its place among these, the first one
abbrev pub Listed : {Z S : Type 0} → HashMap (Vec ℕ Z) ℕ S → List (List ℕ) → Type 0
Listed {Z = Z} seen all = (q : Vec ℕ Z) → get same_word seen q ≡ place q.items all 0
