-- What is found is spelled so.
use Rattle.std.proofs.Common.{◌≡◌, ℕ, pos, negsuc, List, ◌++◌, Option}
use Rattle.ada_base.specs.declared.token.Kind.{Kind}
use Rattle.ada_base.specs.declared.token.Kind.TheVariants.{Ident, Word, Number, Text, Letter, Real, Mark, End}
use Rattle.syntax_lexer.specs.declared.found.Found.{Found}
use Rattle.syntax_lexer.specs.declared.found.Found.TheVariants.{Other}
use Rattle.syntax_tree.specs.Spelling.{IsSpelling}
use Rattle.syntax_lexer.specs.Reading.{limited}

-- what is found of a kind
abbrev pub found_of : Kind → Found
found_of Ident = Other Ident
found_of (Word n) = Other (Word n)
found_of (Number (pos n)) = Found.Number (limited n)
found_of (Number (negsuc n)) = Found.Number 0
found_of Text = Other Text
found_of Letter = Other Letter
found_of Real = Other Real
found_of (Mark n) = Other (Mark n)
found_of End = Other End

pub record Sound (before : Option Kind) (found : Found) (cs rest : List ℕ) : Type 0 where
  pub kind : Kind
  pub slice : List ℕ
  pub parts : cs ≡ slice ++ rest
  pub spelled : IsSpelling before kind slice
  pub found_is : found ≡ found_of kind
