-- What is printed of a program, and what is read of that again.
use Rattle.std.specs.Prelude.{List}
use Rattle.ada_base.specs.Tokens.{Tokenized}
use Rattle.ada_base.specs.declared.token.Token.{Token}
use Rattle.syntax_tree.specs.Faults.{IsReadable, KeepLimits}
use Rattle.syntax_tree.specs.Parsed.{IsParsed}
use Rattle.syntax_tree.specs.Tokens.{AreTokensOf}
use Rattle.syntax_tree.specs.Syntax.{Program}
use Rattle.syntax_print.specs.Canonical.{canonical}

-- a text within the limits, its tokens and their tree
pub record IsPrintable (t : Tokenized) (program : Program) : Type 0 where
  pub readable : IsReadable t.text
  pub tokens : AreTokensOf t.text t.items
  pub limits : KeepLimits t.items
  pub parsed : IsParsed t.items program

-- the canonical text is within the limits, and its tokens have this tree
pub record IsReadAgain (t : Tokenized) (program : Program) : Type 0 where
  pub items : List Token
  pub readable : IsReadable (canonical t)
  pub tokens : AreTokensOf (canonical t) items
  pub limits : KeepLimits items
  pub parsed : IsParsed items program
