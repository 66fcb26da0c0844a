-- The first lexical fault of a text.
use Rattle.std.specs.Prelude.{◌≡◌, ◌≢◌, ◌<◌, ◌≤◌, ℕ, ◌+◌, ◌^◌, pos, ◌<ℤ◌, List, ◌++◌, length, drop, take, All, encode_utf8_all}
use Rattle.std.specs.Str.{IsUtf8, StartsWithNoChar, chars}
use Rattle.ada_base.specs.declared.place.Place.{Place}
use Rattle.ada_base.specs.declared.token.Kind.{Kind}
use Rattle.ada_base.specs.declared.token.Kind.TheVariants.{Ident, Word, Number, Text, Letter, Real, Mark, End}
use Rattle.ada_base.specs.declared.token.Token.{Token}
use Rattle.ada_base.specs.Place.{place_at}
use Rattle.syntax_tree.specs.Gaps.{IsGap}
use Rattle.syntax_tree.specs.Spelling.{IsTokenAt}
use Rattle.syntax_tree.specs.Tokens.{Spot, start_of, IsNext, AreNext}

-- what a text may be refused for before it is parsed
pub data LexicalFault : Type 0 where
  TooManyBytes : (bytes : ℕ) → LexicalFault
  NoCharacter : (at : ℕ) → LexicalFault
  NoToken : (at : Place) → LexicalFault
  TooWide : (at : Place) → LexicalFault
  TooManyTokens : (count : ℕ) (at : Place) → LexicalFault

-- the most bytes of a text, and the most tokens before its End
abbrev pub byte_limit : ℕ
byte_limit = 1048576

abbrev pub token_limit : ℕ
token_limit = 200000

-- an integer literal is at most 2 ^ 127 - 1
abbrev pub IsNarrow : Kind → Type 0
IsNarrow Ident = Unit {0}
IsNarrow (Word n) = Unit {0}
IsNarrow (Number z) = z <ℤ pos (2 ^ 127)
IsNarrow Text = Unit {0}
IsNarrow Letter = Unit {0}
IsNarrow Real = Unit {0}
IsNarrow (Mark n) = Unit {0}
IsNarrow End = Unit {0}

-- the tokens, the End included, are within the limits
pub record KeepLimits (tokens : List Token) : Type 0 where
  pub few : length tokens ≤ token_limit + 1
  pub narrow : All (λ token. IsNarrow token.kind) tokens

-- a byte at which no UTF-8 character begins, after characters
pub record BeginsNoCharacter (text : List ℕ) (at : ℕ) : Type 0 where
  pub inside : at < length text
  pub front : IsUtf8 (take at text)
  pub nothing : StartsWithNoChar (drop at text)

-- the tokens are the first ones of these characters up to a place, and none of them is a fault
pub record Reaches (characters : List ℕ) (tokens : List Token) (spot : Spot) : Type 0 where
  pub next : AreNext (start_of characters) tokens spot
  pub few : length tokens ≤ token_limit
  pub narrow : All (λ token. IsNarrow token.kind) tokens

-- after this gap no token begins
pub record HasNoNext (spot : Spot) (gap : List ℕ) : Type 0 where
  pub rest : List ℕ
  pub parts : spot.ahead ≡ gap ++ rest
  pub between : IsGap gap rest
  pub nothing : (kind : Kind) (slice more : List ℕ) → rest ≡ slice ++ more
      → IsTokenAt spot.before kind slice more → ⊥

pub record IsBadToken (characters : List ℕ) (at : ℕ) : Type 0 where
  pub tokens : List Token
  pub spot : Spot
  pub reaches : Reaches characters tokens spot
  pub gap : List ℕ
  pub no_next : HasNoNext spot gap
  pub start : at ≡ spot.at + length (encode_utf8_all gap)

pub record IsWideLiteral (characters : List ℕ) (at : ℕ) : Type 0 where
  pub tokens : List Token
  pub spot : Spot
  pub reaches : Reaches characters tokens spot
  pub token : Token
  pub rest : List ℕ
  pub next : IsNext spot token rest
  pub wide : IsNarrow token.kind → ⊥
  pub start : at ≡ token.span.start

-- the token whose number, counted from 0, is the limit isn't the End
pub record IsTooLong (characters : List ℕ) (at : ℕ) : Type 0 where
  pub tokens : List Token
  pub spot : Spot
  pub reaches : Reaches characters tokens spot
  pub full : length tokens ≡ token_limit
  pub token : Token
  pub rest : List ℕ
  pub next : IsNext spot token rest
  pub narrow : IsNarrow token.kind
  pub more : token.kind ≢ End
  pub start : at ≡ token.span.start

-- a text that is read as characters
pub record IsReadable (text : List ℕ) : Type 0 where
  pub short : length text ≤ byte_limit
  pub utf8 : IsUtf8 text

-- The fault of a text, by the order of the checks: its bytes are counted, it is read as UTF-8, and then the
-- tokens are judged from the first one on. The count of too many tokens includes the one that is too many.
abbrev pub IsFirstFault : List ℕ → LexicalFault → Type 0
IsFirstFault text (TooManyBytes bytes) = (byte_limit < length text) × (bytes ≡ length text)
IsFirstFault text (NoCharacter at) = (length text ≤ byte_limit) × BeginsNoCharacter text at
IsFirstFault text (NoToken place) =
    IsReadable text × (at : ℕ) × IsBadToken (chars text) at × (place ≡ place_at text at)
IsFirstFault text (TooWide place) =
    IsReadable text × (at : ℕ) × IsWideLiteral (chars text) at × (place ≡ place_at text at)
IsFirstFault text (TooManyTokens count place) =
    IsReadable text × (at : ℕ) × IsTooLong (chars text) at
    × (count ≡ token_limit + 1) × (place ≡ place_at text at)
