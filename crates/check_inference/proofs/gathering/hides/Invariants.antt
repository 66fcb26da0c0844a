use Rattle.std.proofs.Common.{◌≡◌, length}
use Rattle.check_inference.specs.Paths.{is_hidden}
use Rattle.check_inference.proofs.gathering.hides.Given as goal

abbrev pub invariant-loop-first : goal.invariant-loop-first
invariant-loop-first l = is_hidden l.rest l.object ≡ is_hidden l.hidden l.object

abbrev pub decreases-loop-first : goal.decreases-loop-first
decreases-loop-first l = length l.rest
