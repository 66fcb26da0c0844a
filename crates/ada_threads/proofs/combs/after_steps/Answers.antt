use Rattle.std.proofs.Common.{subst, get_or, drop}
use Rattle.std.proofs.lemmas.Int.{to_z-of_z}
use mir.Syntax.{w128}
use mir.Val.{SFits, to_z}
use mir.Val.{of_z}
use Rattle.std.proofs.Math.ListN.{drop_of_length-le}
use Rattle.stack_code.specs.declared.code.Step.TheVariants as step
use Rattle.ada_threads.specs.Reaching.{Onward}
use Rattle.ada_threads.proofs.Stepping.{Along, along_on}
use Rattle.ada_threads.proofs.combs.after_steps.Goals as goal

pub loop-step-preserved : goal.loop-step-preserved
loop-step-preserved c =
    let z = to_z w128 (of_z w128 c.args.chunk) in
    let s = get_or c.args.steps.now c.loop-step.step-index (step.All 0 0) in
    along_on z c.args.steps.now c.args.comb c.loop-step.step-index (step.All 0 0) c.loop-step.combs c.in_ok-combs.combs c.loop-step-test.true c.loop-step.invariant (subst (λ l. Onward z s l c.in_ok-combs.combs) c.as_slice.ensures c.in_ok-combs.ensures)

pub returns : goal.returns
returns c =
    let fits : SFits w128 c.args.chunk = c.ranges.chunk in
    subst (λ l. Along c.args.chunk c.args.steps.now c.args.comb l c.loop-step.combs) (drop_of_length-le c.args.steps.now c.loop-step-test.false)
    (subst (λ z. Along z c.args.steps.now c.args.comb (drop c.loop-step.step-index c.args.steps.now) c.loop-step.combs) (to_z-of_z w128 c.args.chunk fits) c.loop-step.invariant)
