use Rattle.std.proofs.Common.{arith, subst, take}
use Rattle.std.proofs.lemmas.Int.{to_z-of_z}
use mir.Syntax.{w128}
use mir.Val.{SFits}
use Rattle.std.proofs.lemmas.List.{take_all}
use Rattle.ada_threads.specs.Reaching.{Onward}
use Rattle.ada_threads.proofs.Stepping.{all_on}
use Rattle.ada_threads.proofs.combs.after_step.Goals as goal

pub loop-comb-preserved : goal.loop-comb-preserved
loop-comb-preserved c = all_on _ c.args.step c.args.before.now c.loop-comb.combs c.add_step.new.combs c.loop-comb.comb-index _ c.loop-comb-test.true c.loop-comb.invariant c.in_ok-add_step.ensures

pub returns : goal.returns
returns c =
    let fits : SFits w128 c.args.chunk = c.ranges.chunk in
    subst (λ l. Onward c.args.chunk c.args.step l c.loop-comb.combs) (take_all c.loop-comb.comb-index c.args.before.now (omega arith))
    (subst (λ z. Onward z c.args.step (take c.loop-comb.comb-index c.args.before.now) c.loop-comb.combs) (to_z-of_z w128 c.args.chunk fits) c.loop-comb.invariant)
