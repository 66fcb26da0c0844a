use Rattle.syntax_lexer.proofs.Powers.{times_more}
use Rattle.syntax_lexer.proofs.number.scaled.Goals as goal

pub loop-turn-preserved : goal.loop-turn-preserved
loop-turn-preserved c = times_more _ _ _ _ _ _ c.loop-turn-test.true c.next-scaled.ensures c.loop-turn.invariant
