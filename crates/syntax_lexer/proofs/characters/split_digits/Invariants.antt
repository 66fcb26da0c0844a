use Rattle.std.proofs.Common.{◌≡◌}
use Rattle.syntax_tree.specs.Numbers.{is_digit_or_underscore}
use Rattle.syntax_lexer.proofs.Runs.{Passed}
use Rattle.syntax_lexer.proofs.characters.split_digits.Given as goal

abbrev pub invariant-loop-c : goal.invariant-loop-c
invariant-loop-c l = (l.length ≡ l.c-index) × Passed (is_digit_or_underscore l.base) l.characters l.length
