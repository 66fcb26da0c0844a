use Rattle.std.proofs.Common.{◌+◌, ◌*◌}
use Rattle.lower_code.proofs.output.+values.Given as goal

abbrev pub decreases-values : goal.decreases-values
decreases-values l = 2 * l.id

abbrev pub decreases-value_and_rest : goal.decreases-value_and_rest
decreases-value_and_rest l = 2 * l.rest + 1
