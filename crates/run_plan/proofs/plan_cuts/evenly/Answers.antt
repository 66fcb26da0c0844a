use Rattle.std.proofs.Common.{ap}
use Rattle.run_plan.proofs.Evens.{evens-all, evens-more}
use Rattle.run_plan.proofs.plan_cuts.evenly.Goals as goal
use Rattle.run_plan.specs.declared.even_division.Range.{Range}

pub loop-i-preserved : goal.loop-i-preserved
loop-i-preserved c =
    evens-more c.args.n c.args.chunks c.loop-i.i c.even.result.len c.loop-i.sizes c.push.new.self c.loop-i-test.true c.loop-i.invariant (ap (λ (r : Range). r.len) c.even.ensures.is) c.in_ok-push.ensures.ok

pub returns : goal.returns
returns c = evens-all c.args.n c.args.chunks c.loop-i.i c.loop-i.sizes c.loop-i-test.false c.loop-i.invariant
