-- What is left open of a dimension before a range, and behind all of them.
use Rattle.std.specs.Prelude.{ℤ, pos, ◌-ℤ◌, int_le, List, [], ◌∷◌, if◌then◌else◌}

abbrev pub gap_before : ℤ → ℤ → List (ℤ × ℤ)
gap_before start low = if int_le low start then [] else (start, low -ℤ pos 1) ∷ []

abbrev pub gap_behind : ℤ → ℤ → List (ℤ × ℤ)
gap_behind start end = if int_le start end then (start, end) ∷ [] else []
