use Rattle.std.proofs.Common.{length}
use Rattle.run_parts.proofs.copies.+copied_behind.Given as goal

abbrev pub decreases-copied_behind : goal.decreases-copied_behind
decreases-copied_behind g l = length l.passed.now
