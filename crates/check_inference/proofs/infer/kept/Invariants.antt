use Rattle.std.proofs.Common.{◌≡◌, ◌++◌, length}
use Rattle.check_inference.specs.Program as spec
use Rattle.check_inference.proofs.infer.kept.Given as goal

abbrev pub invariant-loop-touch : goal.invariant-loop-touch
invariant-loop-touch l = l.found ++ spec.kept l.objects l.rest ≡ spec.kept l.objects l.fn.touches

abbrev pub decreases-loop-touch : goal.decreases-loop-touch
decreases-loop-touch l = length l.rest
