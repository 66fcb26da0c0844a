use Rattle.std.proofs.Common.{◌≡◌, drop}
use Rattle.syntax_tree.specs.Words.{marks}
use Rattle.syntax_lexer.specs.Reading.{mark_from}
use Rattle.syntax_lexer.proofs.mark.mark.Given as goal

abbrev pub invariant-loop-number : goal.invariant-loop-number
invariant-loop-number l = mark_from l.characters l.number (drop l.number marks) ≡ mark_from l.characters 0 marks
