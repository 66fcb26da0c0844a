use Rattle.std.proofs.Common.{◌≡◌, ◌++◌, map, length}
use Rattle.check_clashes.specs.Called.{moved}
use Rattle.check_clashes.specs.Touching.{touches_of}
use Rattle.check_clashes.proofs.called.add_touches.Given as goal

abbrev pub invariant-loop-touch : goal.invariant-loop-touch
invariant-loop-touch l = touches_of l.found ++ map (λ t. moved l.arm l.at t) l.rest ≡ touches_of l.fn.found ++ map (λ t. moved l.arm l.at t) l.touches

abbrev pub decreases-loop-touch : goal.decreases-loop-touch
decreases-loop-touch l = length l.rest
