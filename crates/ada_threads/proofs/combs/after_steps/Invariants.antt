use Rattle.std.proofs.Common.{drop}
use Rattle.ada_threads.proofs.Stepping.{Along}
use Rattle.ada_threads.proofs.combs.after_steps.Given as goal

abbrev pub invariant-loop-step : goal.invariant-loop-step
invariant-loop-step l = Along l.chunk l.steps l.fn.comb (drop l.step-index l.steps) l.combs
