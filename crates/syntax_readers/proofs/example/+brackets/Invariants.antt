use Rattle.std.proofs.Common.{◌+◌, ◌*◌}
use Rattle.syntax_readers.proofs.example.+brackets.Given as goal

abbrev pub decreases-read_value : goal.decreases-read_value
decreases-read_value l = 3 * l.levels + 2

abbrev pub decreases-read_bracket : goal.decreases-read_bracket
decreases-read_bracket l = 3 * l.levels + 1

abbrev pub decreases-read_inside : goal.decreases-read_inside
decreases-read_inside l = 3 * l.levels + 3
