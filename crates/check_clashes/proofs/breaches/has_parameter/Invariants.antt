use Rattle.std.proofs.Common.{◌≡◌, length}
use Rattle.check_clashes.specs.Breaches.{has_parameter}
use Rattle.check_clashes.proofs.breaches.has_parameter.Given as goal

abbrev pub invariant-loop-first : goal.invariant-loop-first
invariant-loop-first l = has_parameter l.rest ≡ has_parameter l.selectors

abbrev pub decreases-loop-first : goal.decreases-loop-first
decreases-loop-first l = length l.rest
