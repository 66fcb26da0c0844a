use Rattle.std.proofs.Common.{◌∙◌, sym, arith}
use Rattle.syntax_tree.specs.Words.{marks}
use Rattle.syntax_lexer.specs.Reading.{mark_at}
use Rattle.syntax_lexer.proofs.Tables.{mark_found, mark_passed, mark_none, marks_length}
use Rattle.syntax_lexer.proofs.mark.mark.Goals as goal

pub returns-in-Some : goal.returns-in-Some
unfolding mark_at
returns-in-Some c = sym c.loop-number.invariant ∙ mark_found _ _ _ marks _ c.mark_text.ensures c.in-Some.ensures

pub loop-number-preserved : goal.loop-number-preserved
loop-number-preserved c = sym (mark_passed _ _ _ marks c.mark_text.ensures c.in_default.ensures) ∙ c.loop-number.invariant

pub returns : goal.returns
unfolding mark_at
returns c = sym c.loop-number.invariant ∙ mark_none _ _ marks (rw marks_length (omega arith))
