use Rattle.std.proofs.Common.{◌≡◌, length}
use Rattle.syntax_lexer.specs.Case.{change_of}
use Rattle.syntax_lexer.specs.Reading.{same_by}
use Rattle.syntax_lexer.proofs.name.is_word.Given as goal

abbrev pub invariant-loop-left : goal.invariant-loop-left
invariant-loop-left l = same_by (change_of l.case) l.left l.wanted ≡ same_by (change_of l.case) l.fn.name l.fn.word

abbrev pub decreases-loop-left : goal.decreases-loop-left
decreases-loop-left l = length l.left
