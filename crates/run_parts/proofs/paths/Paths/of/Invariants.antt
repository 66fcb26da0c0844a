use Rattle.std.proofs.Common.{◌≡◌, length}
use Rattle.run_parts.specs.Paths.{AreOf}
use Rattle.run_parts.proofs.paths.Paths.of.Given as goal

abbrev pub invariant-loop-id : goal.invariant-loop-id
invariant-loop-id l = (length l.paths ≡ l.id) × AreOf l.nodes l.paths
