-- The canonical text of tokens: reserved words in lower case, numbers in decimal, marks as they are, and all else as
-- it is spelled, with one space between two tokens and one line feed after the last.
use Rattle.std.specs.Prelude.{ℕ, ◌-◌, ◌<◌, ◌≡◌, ⊤, List, [], ◌∷◌, ◌++◌, length, map, take, slice_get, slice_range, unwrap_or}
use Rattle.std.specs.Fmt.{signed_decimal}
use Rattle.std.specs.List.{join_with_byte}
use Rattle.ada_base.specs.declared.token.Kind.{Kind}
use Rattle.ada_base.specs.declared.token.Kind.TheVariants.{Ident, Word, Number, Text, Letter, Real, Mark, End}
use Rattle.ada_base.specs.declared.token.Token.{Token}
use Rattle.ada_base.specs.Tokens.{Tokenized}
use Rattle.syntax_tree.specs.Characters.{line_feed}
use Rattle.syntax_tree.specs.Faults.{IsReadable, KeepLimits}
use Rattle.ada_base.specs.TokenKinds.{kinds_of}
use Rattle.syntax_tree.specs.Tokens.{AreTokensOf}
use Rattle.syntax_tree.specs.Words.{words, marks}

abbrev pub space : ℕ
space = 32

-- one of a list of texts, by its number; nothing where the list has none
abbrev pub entry : List (List ℕ) → ℕ → List ℕ
entry texts number = unwrap_or (slice_get texts number) []

-- a token of this kind in the canonical text, from the bytes that spell it
abbrev pub written : Kind → List ℕ → List ℕ
written Ident spelled = spelled
written (Word n) spelled = entry words n
written (Number value) spelled = signed_decimal value
written Text spelled = spelled
written Letter spelled = spelled
written Real spelled = spelled
written (Mark n) spelled = entry marks n
written End spelled = spelled

abbrev pub written_in : List ℕ → Token → List ℕ
written_in text token = written token.kind (slice_range text token.span.start token.span.end)

-- the tokens before the last, which is the End
abbrev pub before_end : List Token → List Token
before_end items = take (length items - 1) items

abbrev pub canonical : Tokenized → List ℕ
canonical t = join_with_byte space (map (written_in t.text) (before_end t.items)) ++ line_feed ∷ []

-- the number of a word or of a mark is one of their list's
abbrev pub IsListed : Kind → Type 0
IsListed (Word n) = n < 74
IsListed (Mark n) = n < 29
IsListed _ = ⊤

-- The canonical text has the same tokens again: it keeps the limits of a text, each of its tokens is of the same kind
-- as the one in its place in the text before, the value of a number included, and it is its own canonical text.
pub record IsTokenizedAgain (t : Tokenized) : Type 0 where
  pub items : List Token
  pub readable : IsReadable (canonical t)
  pub tokens : AreTokensOf (canonical t) items
  pub limits : KeepLimits items
  pub same : map (λ (token : Token). token.kind) items ≡ map (λ (token : Token). token.kind) t.items
  pub kinds_are : kinds_of items ≡ kinds_of t.items
  pub stays : canonical (record { text = canonical t; items = items }) ≡ canonical t
