-- The symbols from a place of a list of tokens on.
use Rattle.std.proofs.Common.{◌≡◌, ℕ, ◌-◌, ◌<◌, List, length, drop, ap, ◌∙◌, sym, drop-cons, length-drop}
use Rattle.std.proofs.lemmas.List.{length-map}
use Rattle.ada_base.specs.Symbols.{numbered}
use Rattle.ada_base.specs.declared.token.Kind.TheVariants.{End}
use Rattle.ada_base.specs.declared.token.Token.{Token}
use Rattle.ada_base.specs.TokenKinds.{kind_number}
use Rattle.syntax_readers.specs.Ahead.{kinds}
use Rattle.syntax_readers.specs.Verdicts.{place_in}
use Rattle.syntax_readers.proofs.Words.{length-numbered}

-- tokens have as many kinds
pub length-kinds : (tokens : List Token) → length (kinds tokens) ≡ length tokens
length-kinds tokens = length-map tokens (λ (token : Token). kind_number token.kind)

-- how many are left
pub length-ahead : (n : ℕ) (tokens : List Token) (i : ℕ) → length tokens - i ≡ length (numbered n (kinds (drop i tokens)))
length-ahead n tokens i = sym (length-numbered n (kinds (drop i tokens)) ∙ length-kinds (drop i tokens) ∙ length-drop i tokens)

-- the place of the next one
pub place-next : (all : List ℕ) (tokens : List Token) (i : ℕ) → i < length tokens → place_in all (numbered i (kinds (drop i tokens))) ≡ i
place-next all tokens i h = ap (λ ts. place_in all (numbered i (kinds ts))) (drop-cons tokens i any h) where
  any : Token
  any = record { kind = End; span = record { start = 0; end = 0 } }
