use Rattle.std.proofs.Common.{arith}
use Rattle.syntax_lexer.proofs.Edges.{begins_none}
use Rattle.syntax_lexer.proofs.text.judge.Goals as goal

pub returns-in-Err : goal.returns-in-Err
returns-in-Err c = (omega (arith, c.if-text-gt-MOST_BYTES.false), rw c.valid_up_to.ensures (begins_none _ _ c.in-Err.ensures.cases.1))
