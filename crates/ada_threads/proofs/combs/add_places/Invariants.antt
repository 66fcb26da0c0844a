use Rattle.std.proofs.Common.{ℤ}
use Rattle.stack_code.specs.declared.code.Step.TheVariants as step
use Rattle.ada_threads.specs.Reaching.{AddsTo}
use Rattle.ada_threads.proofs.combs.add_places.Given as goal

abbrev pub invariant-loop-place : goal.invariant-loop-place
invariant-loop-place l = (chunk : ℤ) → AddsTo chunk (step.All l.place l.size) l.comb l.fn.combs l.combs
