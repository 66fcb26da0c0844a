use Rattle.std.proofs.Common.{◌≡◌, drop}
use Rattle.syntax_lexer.specs.Reading.{number_after}
use Rattle.syntax_lexer.proofs.number.value_of.Given as goal

abbrev pub invariant-loop-c : goal.invariant-loop-c
invariant-loop-c l = number_after l.base l.value (drop l.c-index l.digits) ≡ number_after l.base 0 l.digits
