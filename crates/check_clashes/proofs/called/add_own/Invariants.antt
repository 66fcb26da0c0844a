use Rattle.std.proofs.Common.{◌≡◌, ◌++◌, length}
use Rattle.check_clashes.specs.Touching.{touches_of}
use Rattle.check_clashes.proofs.called.add_own.Given as goal

abbrev pub invariant-loop-touch : goal.invariant-loop-touch
invariant-loop-touch l = touches_of l.found ++ l.rest ≡ touches_of l.fn.found ++ l.touches

abbrev pub decreases-loop-touch : goal.decreases-loop-touch
decreases-loop-touch l = length l.rest
