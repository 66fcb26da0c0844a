use Rattle.std.proofs.Common.{◌≡◌}
use Rattle.check_clashes.specs.Called.{with_arms, arm_bound}
use Rattle.check_clashes.specs.Touching.{touches_of}
use Rattle.check_clashes.proofs.called.add_arms.Given as goal

abbrev pub invariant-loop-arm : goal.invariant-loop-arm
invariant-loop-arm l = with_arms l.subs l.calls l.arm (touches_of l.found) ≡ with_arms l.subs l.calls (arm_bound l.calls 0) (touches_of l.fn.found)

abbrev pub decreases-loop-arm : goal.decreases-loop-arm
decreases-loop-arm l = l.arm
