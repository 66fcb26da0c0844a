use Rattle.std.proofs.Common.{◌+◌, ◌*◌}
use Rattle.run_values.proofs.subtypes.+cells.Given as goal

abbrev pub decreases-cells_within : goal.decreases-cells_within
decreases-cells_within l = 8589934592 * l.levels

abbrev pub decreases-cells_beside : goal.decreases-cells_beside
decreases-cells_beside l = 8589934592 * l.levels + 4294967298

abbrev pub decreases-fields_within : goal.decreases-fields_within
decreases-fields_within l = 8589934592 * l.levels + 1 + l.id
