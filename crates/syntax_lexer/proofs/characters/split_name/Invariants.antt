use Rattle.std.proofs.Common.{◌≡◌}
use Rattle.unicode_ident.specs.Ident.{is_xid_continue}
use Rattle.syntax_lexer.proofs.Runs.{Passed}
use Rattle.syntax_lexer.proofs.characters.split_name.Given as goal

abbrev pub invariant-loop-c : goal.invariant-loop-c
invariant-loop-c l = (l.length ≡ l.c-index) × Passed is_xid_continue l.characters l.length
