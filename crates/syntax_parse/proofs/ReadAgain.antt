-- The canonical text of a program has the tree again.
use Rattle.std.proofs.Common.{◌≤◌, length, sym, subst}
use Rattle.ada_base.specs.Derivations.{DerivesWithin}
use Rattle.ada_base.specs.Tokens.{Tokenized}
use Rattle.syntax_tree.specs.Faults.{byte_limit}
use Rattle.syntax_tree.specs.Grammar.{ProgramWords}
use Rattle.syntax_tree.specs.Parsed.{depth_limit}
use Rattle.ada_base.specs.TokenKinds.{kinds_of}
use Rattle.syntax_tree.specs.Syntax.{Program}
use Rattle.syntax_print.specs.Canonical.{canonical}
use Rattle.syntax_print.proofs.SameTokens.{tokenized_again}
use Rattle.syntax_parse.specs.Printed.{IsPrintable, IsReadAgain}
use Rattle.syntax_parse.proofs.Spoken.{spoken}

pub read_again : (t : Tokenized) (tree : Program) → IsPrintable t tree → length (canonical t) ≤ byte_limit → IsReadAgain t tree
read_again t tree p short =
    let again = tokenized_again t p.readable p.tokens p.limits (spoken depth_limit (kinds_of t.items) tree p.parsed) short in
    record {
      items = again.items;
      readable = again.readable;
      tokens = again.tokens;
      limits = again.limits;
      parsed = subst (λ ks. DerivesWithin depth_limit ProgramWords ks tree) (sym again.kinds_are) p.parsed;
    }
