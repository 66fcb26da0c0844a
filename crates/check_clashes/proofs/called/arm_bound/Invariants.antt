use Rattle.std.proofs.Common.{◌≡◌, length}
use Rattle.check_clashes.specs.Called.{arm_bound}
use Rattle.check_clashes.proofs.called.arm_bound.Given as goal

abbrev pub invariant-loop-call : goal.invariant-loop-call
invariant-loop-call l = arm_bound l.rest l.most ≡ arm_bound l.calls 0

abbrev pub decreases-loop-call : goal.decreases-loop-call
decreases-loop-call l = length l.rest
