-- What may stand before and between tokens (2.2, 2.7).
use Rattle.std.specs.Prelude.{◌≡◌, ℕ, Bool, true, false, ◌&&◌, ◌||◌, not, ◌==◌, List, [], ◌∷◌, ◌++◌}
use Rattle.std.specs.List.{list_all}
use Rattle.syntax_tree.specs.Characters.{is_white, hyphen, line_feed}

-- a comment begins with two hyphens
abbrev pub begins_comment : List ℕ → Bool
begins_comment [] = false
begins_comment (c ∷ []) = false
begins_comment (c ∷ d ∷ s) = (c == hyphen) && (d == hyphen)

-- white space or a comment begins here
abbrev pub begins_gap : List ℕ → Bool
begins_gap [] = false
begins_gap (c ∷ s) = is_white c || begins_comment (c ∷ s)

-- a line ends here: at a line feed, or with the text
abbrev pub ends_line : List ℕ → Bool
ends_line [] = true
ends_line (c ∷ s) = c == line_feed

-- white space and comments as far as they go, and what follows them. A comment runs to the end of its line
pub data IsGap : List ℕ → List ℕ → Type 0 where
  Nothing : (rest : List ℕ) → begins_gap rest ≡ false → IsGap [] rest
  White : (c : ℕ) (gap rest : List ℕ) → is_white c ≡ true → IsGap gap rest → IsGap (c ∷ gap) rest
  Comment : (line gap rest : List ℕ) → list_all (λ c. not (c == line_feed)) line ≡ true
      → ends_line (gap ++ rest) ≡ true → IsGap gap rest → IsGap (hyphen ∷ hyphen ∷ (line ++ gap)) rest
