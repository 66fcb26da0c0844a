use Rattle.std.proofs.Common.{◌≡◌, ◌≤◌}
use Rattle.typed_tree.specs.Decoded.{as_runs, part_at}
use Rattle.lower_values.proofs.runs.first_run.Given as goal

abbrev pub invariant-loop-cell : goal.invariant-loop-cell
invariant-loop-cell l = (as_runs (part_at l.nodes l.runs) ≡ as_runs (part_at l.nodes l.at)) × (l.at ≤ l.runs)

abbrev pub decreases-loop-cell : goal.decreases-loop-cell
decreases-loop-cell l = l.at
