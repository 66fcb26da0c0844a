use Rattle.std.proofs.Common.{◌∙◌, sym, arith}
use Rattle.syntax_tree.specs.Words.{words}
use Rattle.syntax_lexer.specs.Reading.{word_number}
use Rattle.syntax_lexer.proofs.Tables.{number_found, number_passed, number_none, words_length}
use Rattle.syntax_lexer.proofs.name.word_number.Goals as goal

pub returns-then-is_word : goal.returns-then-is_word
unfolding word_number
returns-then-is_word c = sym (number_found _ _ _ _ words c.word_text.ensures (sym c.is_word.ensures ∙ c.if-is_word.true)) ∙ c.loop-number.invariant

pub loop-number-preserved : goal.loop-number-preserved
loop-number-preserved c = sym (number_passed _ _ _ _ words c.word_text.ensures (sym c.is_word.ensures ∙ c.if-is_word.false)) ∙ c.loop-number.invariant

pub returns : goal.returns
unfolding word_number
returns c = sym (number_none _ _ _ words (rw words_length (omega arith))) ∙ c.loop-number.invariant
