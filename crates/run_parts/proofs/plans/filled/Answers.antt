use Rattle.std.proofs.Common.{rules}
use Rattle.run_parts.proofs.Dealt.{filled_more, filled_done}
use Rattle.run_parts.proofs.plans.filled.Goals as goal

pub loop-size-preserved : goal.loop-size-preserved
loop-size-preserved c = filled_more c.loop-size.filled c.push_filled.new.filled c.args.sizes.now c.loop-size.k c.in-Some.size (search rules) c.in_ok-push_filled.ensures c.loop-size.invariant

pub returns : goal.returns
returns c = filled_done c.loop-size.filled c.args.sizes.now c.loop-size.k (search rules) c.loop-size.invariant
