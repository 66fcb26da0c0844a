use Rattle.std.proofs.Common.{◌≡◌, length}
use Rattle.ada_lower.specs.Places as places
use Rattle.lower_leases.proofs.leases.standing_in.Given as goal

abbrev pub invariant-loop-first : goal.invariant-loop-first
invariant-loop-first l = places.standing_in l.site l.rest ≡ places.standing_in l.site l.standings

abbrev pub decreases-loop-first : goal.decreases-loop-first
decreases-loop-first l = length l.rest
