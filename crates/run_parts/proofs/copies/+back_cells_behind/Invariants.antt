use Rattle.std.proofs.Common.{length}
use Rattle.run_parts.proofs.copies.+back_cells_behind.Given as goal

abbrev pub decreases-back_cells_behind : goal.decreases-back_cells_behind
decreases-back_cells_behind g l = length l.passed.now
