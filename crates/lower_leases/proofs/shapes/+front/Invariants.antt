use Rattle.std.proofs.Common.{◌+◌, ◌*◌}
use Rattle.lower_leases.proofs.shapes.+front.Given as goal

-- Levels, then numbers of nodes.

abbrev pub decreases-front_within : goal.decreases-front_within
decreases-front_within l = 8589934592 * l.levels

abbrev pub decreases-front : goal.decreases-front
decreases-front l = 8589934592 * l.part.levels + 4294967298

abbrev pub decreases-array_front : goal.decreases-array_front
decreases-array_front l = 8589934592 * l.levels + 1 + l.id
