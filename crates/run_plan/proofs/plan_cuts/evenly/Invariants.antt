use Rattle.std.proofs.Common.{◌≡◌, take}
use Rattle.ada_base.specs.Cuts.{evens}
use Rattle.run_plan.proofs.plan_cuts.evenly.Given as goal

abbrev pub invariant-loop-i : goal.invariant-loop-i
invariant-loop-i l = l.sizes ≡ take l.i (evens l.n l.chunks)
