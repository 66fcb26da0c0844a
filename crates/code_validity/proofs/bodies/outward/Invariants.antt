use Rattle.std.proofs.Common.{◌≡◌, ◌-◌, Some}
use Rattle.stack_code.specs.Valid.{outward}
use Rattle.code_validity.proofs.bodies.outward.Given as goal

abbrev pub invariant-loop-done : goal.invariant-loop-done
invariant-loop-done l = outward l.code (Some l.reached) (l.steps - l.done) ≡ outward l.code (Some l.fn.body) l.steps
