use Rattle.std.proofs.Common.{◌≡◌, length, false}
use Rattle.syntax_lexer.specs.Reading.{beyond_gap}
use Rattle.syntax_lexer.proofs.gap.beyond_gap.Given as goal

abbrev pub invariant-loop-left : goal.invariant-loop-left
invariant-loop-left l = beyond_gap l.inside l.left ≡ beyond_gap false l.fn.characters

abbrev pub decreases-loop-left : goal.decreases-loop-left
decreases-loop-left l = length l.left
