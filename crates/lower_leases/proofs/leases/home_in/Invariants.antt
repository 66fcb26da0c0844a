use Rattle.std.proofs.Common.{◌≡◌, length}
use Rattle.ada_lower.specs.Places as places
use Rattle.lower_leases.proofs.leases.home_in.Given as goal

abbrev pub invariant-loop-first : goal.invariant-loop-first
invariant-loop-first l = places.home_in l.object l.rest ≡ places.home_in l.object l.homes

abbrev pub decreases-loop-first : goal.decreases-loop-first
decreases-loop-first l = length l.rest
