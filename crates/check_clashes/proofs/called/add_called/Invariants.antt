use Rattle.std.proofs.Common.{◌≡◌, length}
use Rattle.check_clashes.specs.Called.{with_called}
use Rattle.check_clashes.specs.Touching.{touches_of}
use Rattle.check_clashes.proofs.called.add_called.Given as goal

abbrev pub invariant-loop-uses : goal.invariant-loop-uses
invariant-loop-uses l = with_called l.arm l.rest l.left (touches_of l.found) ≡ with_called l.arm l.subs l.tokens (touches_of l.fn.found)

abbrev pub decreases-loop-uses : goal.decreases-loop-uses
decreases-loop-uses l = length l.rest
