use Rattle.std.proofs.Common.{◌+◌, ◌*◌}
use Rattle.lower_code.proofs.bodies.+main.Given as goal

abbrev pub decreases-main_declared : goal.decreases-main_declared
decreases-main_declared l = 2 * l.id

abbrev pub decreases-declare : goal.decreases-declare
decreases-declare l = 2 * l.rest + 1

abbrev pub decreases-declare_default : goal.decreases-declare_default
decreases-declare_default l = 2 * l.rest + 1
