-- What the lexer returned for characters, beside their tokens and faults.
use Rattle.std.specs.Prelude.{◌≡◌, ℕ, ◌+◌, List, ◌++◌, length, encode_utf8_all, Option, Some, None, Result, Ok, Err, MatchOption}
use Rattle.std.specs.Borrow.{Bor}
use Rattle.ada_base.specs.declared.token.Kind.{Kind}
use Rattle.ada_base.specs.declared.token.Token.{Token}
use Rattle.syntax_lexer.specs.declared.stop.Stop.{Stop}
use Rattle.syntax_lexer.specs.declared.stop.Stop.TheVariants.{BadToken, WideLiteral, TooLong, OutOfMemory}
use Rattle.syntax_tree.specs.Gaps.{IsGap}
use Rattle.syntax_tree.specs.Spelling.{IsTokenAt}
use Rattle.syntax_tree.specs.Tokens.{Spot, IsNext}
use Rattle.syntax_tree.specs.Faults.{IsNarrow, HasNoNext, IsBadToken, IsWideLiteral, IsTooLong}

abbrev pub spot_at : Option Kind → ℕ → List ℕ → Spot
spot_at before at ahead = record { before = before; at = at; ahead = ahead }

-- between the characters and those after them stands a gap of so many bytes
pub record SkipsGap (characters after : List ℕ) (bytes : ℕ) : Type 0 where
  pub gap : List ℕ
  pub parts : characters ≡ gap ++ after
  pub between : IsGap gap after
  pub bytes_is : bytes ≡ length (encode_utf8_all gap)
  pub whole : bytes + length (encode_utf8_all after) ≡ length (encode_utf8_all characters)

-- a token of so many bytes stands at the front, and its kind is told unless its value is too wide
pub record TakesToken (before : Option Kind) (characters : List ℕ) (told : Option Kind) (bytes : ℕ)
    (rest : List ℕ) : Type 0 where
  pub kind : Kind
  pub slice : List ℕ
  pub parts : characters ≡ slice ++ rest
  pub token : IsTokenAt before kind slice rest
  pub told_is : MatchOption told (IsNarrow kind → ⊥) (λ k. (k ≡ kind) × IsNarrow kind)
  pub bytes_is : bytes ≡ length (encode_utf8_all slice)
  pub whole : bytes + length (encode_utf8_all rest) ≡ length (encode_utf8_all characters)

abbrev pub Takes : Option Kind → List ℕ → Option (Option Kind × ℕ × Bor (List ℕ)) → Type 0
Takes before characters None =
    (kind : Kind) (slice rest : List ℕ) → characters ≡ slice ++ rest → IsTokenAt before kind slice rest → ⊥
Takes before characters (Some found) = TakesToken before characters found.0 found.1 found.2.now

-- a token that stands next after a place and can be kept, and the rest; or why there is none
abbrev pub Stands : Spot → Result (Token × Bor (List ℕ)) Stop → Type 0
Stands spot (Ok found) = IsNext spot found.0 found.1.now × IsNarrow found.0.kind
Stands spot (Err (BadToken at)) =
    (gap : List ℕ) × HasNoNext spot gap × (at ≡ spot.at + length (encode_utf8_all gap))
Stands spot (Err (WideLiteral at)) =
    (token : Token) × (rest : List ℕ) × IsNext spot token rest × (IsNarrow token.kind → ⊥)
    × (at ≡ token.span.start)
Stands spot (Err (TooLong at)) = ⊥
Stands spot (Err OutOfMemory) = ⊥

-- the fault of characters at which the lexer stopped
abbrev pub StopsAt : List ℕ → Stop → Type 0
StopsAt characters (BadToken at) = IsBadToken characters at
StopsAt characters (WideLiteral at) = IsWideLiteral characters at
StopsAt characters (TooLong at) = IsTooLong characters at
StopsAt characters OutOfMemory = Unit {0}
