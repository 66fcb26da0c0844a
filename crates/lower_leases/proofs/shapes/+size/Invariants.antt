use Rattle.std.proofs.Common.{◌+◌, ◌*◌}
use Rattle.lower_leases.proofs.shapes.+size.Given as goal

-- Levels, then numbers of nodes.

abbrev pub decreases-size_within : goal.decreases-size_within
decreases-size_within l = 8589934592 * l.levels

abbrev pub decreases-part_size : goal.decreases-part_size
decreases-part_size l = 8589934592 * l.part.levels + 4294967298

abbrev pub decreases-array_size : goal.decreases-array_size
decreases-array_size l = 8589934592 * l.levels + 1 + l.id

abbrev pub decreases-fields_size : goal.decreases-fields_size
decreases-fields_size l = 8589934592 * l.levels + 1 + l.id
