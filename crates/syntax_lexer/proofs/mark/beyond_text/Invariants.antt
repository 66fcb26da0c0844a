use Rattle.std.proofs.Common.{◌≡◌, length}
use Rattle.syntax_lexer.specs.Reading.{beyond_text}
use Rattle.syntax_lexer.proofs.mark.beyond_text.Given as goal

abbrev pub invariant-loop-wanted : goal.invariant-loop-wanted
invariant-loop-wanted l = beyond_text l.wanted l.left ≡ beyond_text l.fn.text l.fn.characters

abbrev pub decreases-loop-wanted : goal.decreases-loop-wanted
decreases-loop-wanted l = length l.wanted
