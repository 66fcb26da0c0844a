use Rattle.std.proofs.Common.{◌≡◌, length, false}
use Rattle.syntax_lexer.specs.Reading.{beyond_quoted}
use Rattle.syntax_lexer.proofs.quoted.beyond_quoted.Given as goal

abbrev pub invariant-loop-left : goal.invariant-loop-left
invariant-loop-left l = beyond_quoted l.ended l.left ≡ beyond_quoted false l.fn.characters

abbrev pub decreases-loop-left : goal.decreases-loop-left
decreases-loop-left l = length l.left
