-- What a text's list of tokens may be: it has a tree, or a first fault, or a token that stands too deep.
use Rattle.std.specs.Prelude.{ℕ, List, Bool}
use Rattle.ada_base.specs.Derivations.{DerivesWithin, IsUnexpected}
use Rattle.ada_base.specs.Symbols.{is_member}
use Rattle.ada_base.specs.declared.token.Kind.{Kind}
use Rattle.ada_base.specs.declared.token.Token.{Token}
pub use Rattle.ada_base.specs.Tokens.{kind_at}
use Rattle.syntax_tree.specs.Grammar.{ProgramWords, IsFirstTooDeep}
use Rattle.ada_base.specs.Kinds.{left_out}
use Rattle.ada_base.specs.TokenKinds.{kind_number, kinds_of}
use Rattle.syntax_tree.specs.Syntax.{Program}

-- how deep a token of a program may stand
abbrev pub depth_limit : ℕ
depth_limit = 64

-- the tree is that of a text's tokens, the End with them, and none of them stands too deep
abbrev pub IsParsed : List Token → Program → Type 0
IsParsed items tree = DerivesWithin depth_limit ProgramWords (kinds_of items) tree

-- the first fault is at this token, and none stands too deep before it
abbrev pub IsSyntaxFault : List Token → ℕ → Type 0
IsSyntaxFault items token = IsUnexpected depth_limit ProgramWords (kinds_of items) token

-- the first token that stands too deep, with no fault before it
abbrev pub IsTooDeep : List Token → ℕ → Type 0
IsTooDeep items token = IsFirstTooDeep depth_limit (kinds_of items) token

-- whether a token is one of those that the language leaves out
abbrev pub is_left_out : Kind → Bool
is_left_out kind = is_member left_out (kind_number kind)
