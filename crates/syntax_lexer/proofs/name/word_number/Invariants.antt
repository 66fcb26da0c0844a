use Rattle.std.proofs.Common.{◌≡◌, drop}
use Rattle.syntax_tree.specs.Words.{words}
use Rattle.syntax_lexer.specs.Case.{change_of}
use Rattle.syntax_lexer.specs.Reading.{number_from}
use Rattle.syntax_lexer.proofs.name.word_number.Given as goal

abbrev pub invariant-loop-number : goal.invariant-loop-number
invariant-loop-number l = number_from (change_of l.case) l.name l.number (drop l.number words) ≡ number_from (change_of l.case) l.name 0 words
