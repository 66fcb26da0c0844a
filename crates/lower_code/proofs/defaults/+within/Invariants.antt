use Rattle.std.proofs.Common.{◌+◌, ◌*◌}
use Rattle.lower_code.proofs.defaults.+within.Given as goal

abbrev pub decreases-within : goal.decreases-within
decreases-within l = 8589934592 * l.levels

abbrev pub decreases-beside : goal.decreases-beside
decreases-beside l = 8589934592 * l.levels + 4294967298

abbrev pub decreases-fields_of : goal.decreases-fields_of
decreases-fields_of l = 8589934592 * l.levels + 1 + l.id
