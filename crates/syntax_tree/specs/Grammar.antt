-- The grammar as a relation between lists of kinds of tokens and trees, without the End, and the first fault of a
-- list. The end of a list is a place too: that of its length.
use Rattle.std.specs.Prelude.{ℕ, List}
use Rattle.ada_base.specs.Derivations as lists
use Rattle.ada_base.specs.Languages.{Language}
use Rattle.ada_base.specs.declared.token.Token.{Token}
use Rattle.syntax_tree.specs.Patterns.{words_of}
use Rattle.ada_base.specs.TokenKinds.{kinds_of}
use Rattle.syntax_tree.specs.Productions.{program}
use Rattle.syntax_tree.specs.Syntax.{Program}

-- the words of a program, around which nothing is open
abbrev pub ProgramWords : Program → Language
ProgramWords tree = words_of (program tree 0)

-- the tree derives these kinds
abbrev pub Derives : List ℕ → Program → Type 0
Derives = lists.Derives ProgramWords

-- the tree is that of a text's tokens, the End with them
abbrev pub IsTreeOf : List Token → Program → Type 0
IsTreeOf tokens = Derives (kinds_of tokens)

-- the place of the least kind such that no program's kinds begin with the kinds up to it
abbrev pub IsFirstFault : List ℕ → ℕ → Type 0
IsFirstFault = lists.IsFirstFault ProgramWords

-- the place of the first kind that stands deeper than the limit
abbrev pub IsFirstTooDeep : ℕ → List ℕ → ℕ → Type 0
IsFirstTooDeep limit = lists.IsFirstTooDeep limit ProgramWords
