-- What is known of a text's tokens before its rules are judged: identifiers by numbers, the values of numbers (2.4), the
-- bytes of string literals (2.6), and how many subprograms there are.
use Rattle.ada_base.specs.Folding.{folded}
use Rattle.ada_base.specs.Tokens.{Tokenized, kind_at, slice_at}
use Rattle.ada_base.specs.declared.token.Kind.{Kind}
use Rattle.ada_base.specs.declared.token.Kind.TheVariants as kind
use Rattle.ada_base.specs.declared.token.Token.{Token}
use Rattle.syntax_tree.specs.Syntax.{DeclUnit, Program, SubUnit, Unit'}
use Rattle.name_rules.specs.Symbols.{known}
use Rattle.name_rules.specs.declared.scope.Names.{Names}
use Rattle.std.specs.List.{between}
use Rattle.std.specs.Prelude.{Bool, List, None, Option, Some, [], false, if◌then◌else◌, length, map, pos, true, ℕ, ℤ, ◌&&◌, ◌++◌, ◌+◌, ◌-◌, ◌==◌, ◌∷◌}

-- ---- identifiers: two have one number if they are spelled alike but for the case of letters (2.3)

-- two lists are the same
abbrev pub alike : List ℕ → List ℕ → Bool
alike [] [] = true
alike (c ∷ s) (d ∷ t) = (c == d) && alike s t
alike _ _ = false

-- the place of a spelling among some, which are counted from n
abbrev pub place : List ℕ → List (List ℕ) → ℕ → Option ℕ
place w [] n = None
place w (x ∷ xs) n = if alike w x then Some n else place w xs (n + 1)

-- those of the language (annex A) have the first numbers
abbrev pub language : List (List ℕ)
language = map folded known

abbrev pub or_else : Option ℕ → Option ℕ → Option ℕ
or_else None y = y
or_else (Some n) y = Some n

-- the others have the numbers behind them in the order in which each stands first in the text
abbrev pub numbered : List ℕ → List (List ℕ) → Option ℕ
numbered w ws = or_else (place w language 0) (place w ws 34)

-- the numbers of the tokens so far, and the spellings of their identifiers beside those of the language
pub record Symbols : Type 0 where
  pub numbers : List ℕ
  pub spellings : List (List ℕ)

abbrev pub with_symbol : List ℕ → Symbols → Option ℕ → Symbols
with_symbol w s (Some n) = record { numbers = s.numbers ++ n ∷ []; spellings = s.spellings }
with_symbol w s None = record { numbers = s.numbers ++ (34 + length s.spellings) ∷ []; spellings = s.spellings ++ w ∷ [] }

-- another token than an identifier has the number 0
abbrev pub symbol_of_kind : List ℕ → Symbols → Kind → Symbols
symbol_of_kind w s kind.Ident = with_symbol w s (numbered w s.spellings)
symbol_of_kind w s _ = record { numbers = s.numbers ++ 0 ∷ []; spellings = s.spellings }

abbrev pub next_symbol : Tokenized → Symbols → ℕ → Symbols
next_symbol t s k = symbol_of_kind (folded (slice_at t k)) s (kind_at t.items k)

-- those of the tokens from the one of number k on
abbrev pub symbols_from : Tokenized → Symbols → ℕ → List Token → Symbols
symbols_from t s k [] = s
symbols_from t s k (x ∷ xs) = symbols_from t (next_symbol t s k) (k + 1) xs

-- ---- numbers

abbrev pub value_of : Kind → ℤ
value_of (kind.Number z) = z
value_of _ = pos 0

abbrev pub token_value : Token → ℤ
token_value x = value_of x.kind

-- ---- string literals

-- the bytes between the quotation marks
abbrev pub quoted : List ℕ → List ℕ
quoted s = between 1 (length s - 1) s

-- a quotation mark is doubled in a literal: the second one is passed over
abbrev pub unquoted : Bool → List ℕ → List ℕ
unquoted passed [] = []
unquoted true (c ∷ s) = unquoted false s
unquoted false (c ∷ s) = c ∷ unquoted (c == 34) s

abbrev pub text_of : Kind → List ℕ → List ℕ
text_of kind.Text s = unquoted false (quoted s)
text_of _ s = []

-- those of the tokens from the one of number k on, behind others
abbrev pub texts_from : Tokenized → List (List ℕ) → ℕ → List Token → List (List ℕ)
texts_from t done k [] = done
texts_from t done k (x ∷ xs) = texts_from t (done ++ text_of (kind_at t.items k) (slice_at t k) ∷ []) (k + 1) xs

-- ---- all

abbrev pub one_sub : Unit' → ℕ
one_sub (DeclUnit d) = 0
one_sub (SubUnit s) = 1

abbrev pub sub_count : List Unit' → ℕ
sub_count [] = 0
sub_count (u ∷ us) = one_sub u + sub_count us

abbrev pub no_symbols : Symbols
no_symbols = record { numbers = []; spellings = [] }

unfoldable pub names_of : Tokenized → Program → Names
names_of t p = record {
  symbols = (symbols_from t no_symbols 0 t.items).numbers;
  values = map token_value t.items;
  texts = texts_from t [] 0 t.items;
  subs = sub_count p.main.units;
}
