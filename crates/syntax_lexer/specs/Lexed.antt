-- What `lex` returns.
use Rattle.std.specs.Prelude.{◌≡◌, ◌⊎◌, ℕ, List, ⊤, Option, Some, None, Result, Ok, Err}
use Rattle.ada_base.specs.declared.token.Token.{Token}
use Rattle.ada_base.specs.Tokens.{Tokenized}
use Rattle.syntax_lexer.specs.declared.fault.LexFault.{LexFault}
use Rattle.syntax_lexer.specs.declared.fault.LexFault.TheVariants.{TooBig, NotUtf8, BadToken, WideLiteral, TooLong, OutOfMemory}
use Rattle.syntax_tree.specs.Faults.{LexicalFault, IsFirstFault, IsReadable, KeepLimits}
use Rattle.syntax_tree.specs.Faults.LexicalFault.{TooManyBytes, NoCharacter, NoToken, TooWide, TooManyTokens}
use Rattle.syntax_tree.specs.Tokens.{AreTokensOf}

-- the fault of the text that is told, if it is one
abbrev pub fault_of : LexFault → Option LexicalFault
fault_of (TooBig bytes) = Some (TooManyBytes bytes)
fault_of (NotUtf8 at) = Some (NoCharacter at)
fault_of (BadToken at) = Some (NoToken at)
fault_of (WideLiteral at) = Some (TooWide at)
fault_of (TooLong count at) = Some (TooManyTokens count at)
fault_of OutOfMemory = None

-- these are the tokens of a text within the limits
pub record AreLexed (text : List ℕ) (tokens : Tokenized) : Type 0 where
  pub text_is : tokens.text ≡ text
  pub readable : IsReadable text
  pub tokens_of : AreTokensOf text tokens.items
  pub limits : KeepLimits tokens.items

-- the first fault of a text is told, or that memory ran out
abbrev pub Tells : List ℕ → LexFault → Type 0
Tells text (TooBig bytes) = IsFirstFault text (TooManyBytes bytes)
Tells text (NotUtf8 at) = IsFirstFault text (NoCharacter at)
Tells text (BadToken at) = IsFirstFault text (NoToken at)
Tells text (WideLiteral at) = IsFirstFault text (TooWide at)
Tells text (TooLong count at) = IsFirstFault text (TooManyTokens count at)
Tells text OutOfMemory = ⊤

-- the result is these tokens, unless memory ran out
abbrev pub GivesTokens : Result Tokenized LexFault → List Token → Type 0
GivesTokens (Ok tokens) items = tokens.items ≡ items
GivesTokens (Err fault) items = fault ≡ OutOfMemory

-- the result is this fault, unless memory ran out
abbrev pub GivesFault : Result Tokenized LexFault → LexicalFault → Type 0
GivesFault (Ok tokens) fault = ⊥
GivesFault (Err told) fault = (told ≡ OutOfMemory) ⊎ (fault_of told ≡ Some fault)

-- the text is read as characters, and has tokens within the limits
pub record HasTokens (text : List ℕ) : Type 0 where
  pub readable : IsReadable text
  pub items : List Token
  pub tokens_of : AreTokensOf text items
  pub limits : KeepLimits items

pub record HasFault (text : List ℕ) : Type 0 where
  pub fault : LexicalFault
  pub first : IsFirstFault text fault

-- a text has tokens within the limits, or a first fault that says why not
abbrev pub HasAnswer : List ℕ → Type 0
HasAnswer text = HasTokens text ⊎ HasFault text
