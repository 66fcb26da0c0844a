use Rattle.std.proofs.Common.{◌+◌, ◌*◌}
use Rattle.lower_code.proofs.gathering.+texts.Given as goal

abbrev pub decreases-of_stmt : goal.decreases-of_stmt
decreases-of_stmt l = 2 * l.id

abbrev pub decreases-of_stmts : goal.decreases-of_stmts
decreases-of_stmts l = 2 * l.id + 1

abbrev pub decreases-of_alternatives : goal.decreases-of_alternatives
decreases-of_alternatives l = 2 * l.id + 1

abbrev pub decreases-of_arms : goal.decreases-of_arms
decreases-of_arms l = 2 * l.id + 1

abbrev pub decreases-of_handlers : goal.decreases-of_handlers
decreases-of_handlers l = 2 * l.id + 1
