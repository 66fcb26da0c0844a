-- The first of some characters, and the index behind it in a text.
use Rattle.std.specs.Prelude.{◌≡◌, ◌<◌, ◌≤◌, ◌∷◌, [], ℕ, List, Option, Some, None, drop, length}
use Rattle.std.specs.Str.{chars}
use Rattle.name_expressions.specs.declared.characters.Spelt.{Spelt}

abbrev pub IsSpelt : List ℕ → List ℕ → ℕ → Option Spelt → Type 0
IsSpelt characters text at None = characters ≡ []
IsSpelt characters text at (Some s) = (characters ≡ s.character ∷ chars (drop s.next text)) × (at < s.next) × (s.next ≤ length text)
