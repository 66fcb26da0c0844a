use Rattle.std.proofs.Common.{arith}
use Rattle.run_parts.proofs.Stepping.{zeros_more}
use Rattle.run_parts.proofs.cells.zeros.Goals as goal

pub loop-k-preserved : goal.loop-k-preserved
loop-k-preserved c = zeros_more c.loop-k.values c.push_value.new.values c.args.count c.loop-k._k (omega arith) c.loop-k.invariant c.in_ok-push_value.ensures
