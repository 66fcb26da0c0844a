use Rattle.std.proofs.Common.{◌≡◌, length}
use Rattle.check_clashes.specs.Breaches.{some_differ}
use Rattle.check_clashes.proofs.breaches.some_differ.Given as goal

abbrev pub invariant-loop-one : goal.invariant-loop-one
invariant-loop-one l = some_differ l.ones l.others ≡ some_differ l.first l.second

abbrev pub decreases-loop-one : goal.decreases-loop-one
decreases-loop-one l = length l.ones
