use Rattle.std.proofs.Common.{arith}
use Rattle.ada_meaning.specs.Values.{count}
use Rattle.run_parts.proofs.Dealt.{few_none, few_some, few_many}
use Rattle.run_parts.proofs.chunks.few.Goals as goal

pub returns-in-None : goal.returns-in-None
returns-in-None c = few_none (count c.args.range.low c.args.range.high) c.in-None.ensures

pub returns-then-last-from : goal.returns-then-last-from
returns-then-last-from c = few_some (count c.args.range.low c.args.range.high) c.in-Some.last c.in-Some.ensures (omega arith)

pub returns-else-last-from : goal.returns-else-last-from
returns-else-last-from c = few_many (count c.args.range.low c.args.range.high) c.in-Some.last c.in-Some.ensures (omega arith)
