-- How tokens are spelled (2.2 to 2.9), over characters.
use Rattle.std.specs.Prelude.{◌≡◌, ◌≤◌, ℕ, Bool, true, false, ◌||◌, not, ◌==◌, pos, List, [], ◌∷◌, ◌++◌, length, map, slice_get, Option, Some, None}
use Rattle.std.specs.List.{list_all}
use Rattle.std.specs.Char.{to_ascii_lowercase}
use Rattle.unicode.specs.CaseFolding.{simple_fold}
use Rattle.unicode_ident.specs.Ident.{is_xid_start, is_xid_continue}
use Rattle.ada_base.specs.declared.token.Kind.{Kind}
use Rattle.ada_base.specs.declared.token.Kind.TheVariants.{Ident, Word, Number, Text, Letter, Real, Mark, End}
use Rattle.syntax_tree.specs.Characters.{is_control, is_of_word, quotation_mark, apostrophe, number_sign}
use Rattle.syntax_tree.specs.Numbers.{underscores_between, IsInteger, IsReal}
use Rattle.ada_base.specs.Symbols.{is_member}
use Rattle.ada_base.specs.Kinds.{identifier, string, range_word, close_round, close_square}
use Rattle.ada_base.specs.TokenKinds.{kind_number}
use Rattle.syntax_tree.specs.Words.{words, marks}

abbrev pub begins_identifier : List ℕ → Bool
begins_identifier [] = false
begins_identifier (c ∷ s) = is_xid_start c

-- an identifier, or a reserved word (2.3)
pub record IsIdentifier (s : List ℕ) : Type 0 where
  pub first : begins_identifier s ≡ true
  pub each : list_all is_xid_continue s ≡ true
  pub between : underscores_between s ≡ true

-- one of the reserved words in lower case
abbrev pub IsReserved : List ℕ → Type 0
IsReserved s = (n : ℕ) × (slice_get words n ≡ Some s)

-- what stands between the quotation marks of a string literal (2.6): a quotation mark there is doubled
pub data IsQuoted : List ℕ → Type 0 where
  NothingQuoted : IsQuoted []
  Character : (c : ℕ) (s : List ℕ) → (c == quotation_mark) ≡ false → is_control c ≡ false
      → IsQuoted s → IsQuoted (c ∷ s)
  Doubled : (s : List ℕ) → IsQuoted s → IsQuoted (quotation_mark ∷ quotation_mark ∷ s)

-- after these tokens an apostrophe begins no character literal: an identifier, `range`, a string literal, `)`
-- and `]` (2.2, 2.5)
abbrev pub ends_prefix : Kind → Bool
ends_prefix kind = is_member (identifier ∷ range_word ∷ string ∷ close_round ∷ close_square ∷ []) (kind_number kind)

abbrev pub admits_letter : Option Kind → Bool
admits_letter None = true
admits_letter (Some kind) = not (ends_prefix kind)

-- a character literal (2.5)
abbrev pub IsLetter : List ℕ → Type 0
IsLetter s = (c : ℕ) × (is_control c ≡ false) × (s ≡ apostrophe ∷ c ∷ apostrophe ∷ [])

-- The slice is a spelling of the kind, where the token before has the kind `before`, if there is one.
-- An identifier that is a reserved word by the case of ASCII letters is that word. One that is a reserved
-- word after simple case folding alone is nothing (2.3).
abbrev pub IsSpelling : Option Kind → Kind → List ℕ → Type 0
IsSpelling before Ident s =
    IsIdentifier s × (IsReserved (map to_ascii_lowercase s) → ⊥) × (IsReserved (map simple_fold s) → ⊥)
IsSpelling before (Word n) s = IsIdentifier s × (slice_get words n ≡ Some (map to_ascii_lowercase s))
IsSpelling before (Number z) s = (n : ℕ) × IsInteger s n × (z ≡ pos n)
IsSpelling before Text s = (quoted : List ℕ) × IsQuoted quoted × (s ≡ quotation_mark ∷ (quoted ++ quotation_mark ∷ []))
IsSpelling before Letter s = (admits_letter before ≡ true) × IsLetter s
IsSpelling before Real s = IsReal s
IsSpelling before (Mark n) s = slice_get marks n ≡ Some s
IsSpelling before End s = s ≡ []

-- the character can't directly follow a token of the kind: there the token would go on, or no token ends
abbrev pub runs_on : Kind → ℕ → Bool
runs_on Ident c = is_xid_continue c
runs_on (Word n) c = is_xid_continue c
runs_on (Number z) c = is_of_word c || (c == number_sign)
runs_on Text c = c == quotation_mark
runs_on Letter c = false
runs_on Real c = is_of_word c || (c == number_sign)
runs_on (Mark n) c = false
runs_on End c = true

abbrev pub can_follow : Kind → List ℕ → Bool
can_follow kind [] = true
can_follow kind (c ∷ s) = not (runs_on kind c)

-- A token of this kind is the slice, before the rest of the text: it is spelled so, it ends there, and
-- no spelling of any kind that begins there is longer.
pub record IsTokenAt (before : Option Kind) (kind : Kind) (slice rest : List ℕ) : Type 0 where
  pub spelled : IsSpelling before kind slice
  pub ends : can_follow kind rest ≡ true
  pub longest : (other : Kind) (s r : List ℕ) → slice ++ rest ≡ s ++ r → IsSpelling before other s
      → length s ≤ length slice
