-- The tokens of a text (2.2).
use Rattle.std.specs.Prelude.{◌≡◌, ◌≢◌, ℕ, ◌+◌, List, [], ◌∷◌, ◌++◌, length, Option, Some, None, encode_utf8_all}
use Rattle.std.specs.Str.{chars}
use Rattle.ada_base.specs.declared.token.Kind.{Kind}
use Rattle.ada_base.specs.declared.token.Kind.TheVariants.{End}
use Rattle.ada_base.specs.declared.token.Token.{Token}
use Rattle.syntax_tree.specs.Gaps.{IsGap}
use Rattle.syntax_tree.specs.Spelling.{IsTokenAt}

-- a place between tokens: the kind of the token before, if there is one, the number of bytes before, and
-- the characters ahead
pub record Spot : Type 0 where
  pub before : Option Kind
  pub at : ℕ
  pub ahead : List ℕ

-- the place before the first token
abbrev pub start_of : List ℕ → Spot
start_of characters = record { before = None; at = 0; ahead = characters }

-- the place after a token
abbrev pub after : Token → List ℕ → Spot
after token rest = record { before = Some token.kind; at = token.span.end; ahead = rest }

-- The token is the next after a place, and the rest follows it: between stand white space and comments
-- alone, and the span counts their bytes and the token's.
pub record IsNext (spot : Spot) (token : Token) (rest : List ℕ) : Type 0 where
  pub gap : List ℕ
  pub slice : List ℕ
  pub parts : spot.ahead ≡ gap ++ (slice ++ rest)
  pub between : IsGap gap (slice ++ rest)
  pub token_there : IsTokenAt spot.before token.kind slice rest
  pub start : token.span.start ≡ spot.at + length (encode_utf8_all gap)
  pub end : token.span.end ≡ token.span.start + length (encode_utf8_all slice)

-- the tokens are the next ones from one place on, up to another, and the End isn't among them
abbrev pub AreNext : Spot → List Token → Spot → Type 0
AreNext spot [] last = spot ≡ last
AreNext spot (token ∷ tokens) last =
    (rest : List ℕ) × IsNext spot token rest × (token.kind ≢ End) × AreNext (after token rest) tokens last

-- the tokens of characters: the End is the last of them, and stands where the characters end
pub record AreTokens (characters : List ℕ) (tokens : List Token) : Type 0 where
  pub others : List Token
  pub last : Token
  pub spot : Spot
  pub parts : tokens ≡ others ++ last ∷ []
  pub next : AreNext (start_of characters) others spot
  pub final : IsNext spot last []
  pub is_end : last.kind ≡ End

-- the tokens of a text, which is given by its bytes
abbrev pub AreTokensOf : List ℕ → List Token → Type 0
AreTokensOf text tokens = AreTokens (chars text) tokens
