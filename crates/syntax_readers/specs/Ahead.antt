-- The tokens ahead of a cursor.
use Rattle.std.specs.Prelude.{◌≤◌, ◌<◌, ◌^◌, ℕ, List, length, map, drop, refl}
use Rattle.std.specs.Coded.{Coded, code_by, coded×, coded_ℕ, coded_list}
use Rattle.ada_base.specs.Symbols.{Symbol, numbered}
use Rattle.ada_base.specs.declared.token.Token.{Token}
use Rattle.ada_base.specs.TokenKinds.{kind_number}
use Rattle.syntax_readers.specs.declared.cursor.Cursor.TheInside.{Inside}

-- the kinds of tokens
abbrev pub kinds : List Token → List ℕ
kinds tokens = map (λ (token : Token). kind_number token.kind) tokens

-- symbols are plain data
abbrev pub code : Coded (List Symbol)
code = coded_list (code_by (ℕ × ℕ) (coded× coded_ℕ coded_ℕ) (λ t. (t.number, t.kind)) (λ p. record { number = p.0; kind = p.1 }) (λ _. refl))

-- the kinds of the tokens from the cursor's place on, with their numbers
abbrev pub ahead : Inside → List Symbol
ahead cursor = numbered cursor.at (kinds (drop cursor.at cursor.tokens.now))

-- the place is in the list, and numbers fit into 32 bits
abbrev pub IsReady : Inside → Type 0
IsReady cursor = (cursor.at ≤ length cursor.tokens.now) × (length cursor.tokens.now < 2 ^ 32)
