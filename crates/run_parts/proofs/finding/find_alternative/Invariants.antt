use Rattle.std.proofs.Common.{◌≡◌, ◌≤◌}
use Rattle.typed_tree.specs.Decoded.{alternatives_at}
use Rattle.run_parts.specs.Found.{found_alternative}
use Rattle.run_parts.specs.Words.{nodes_of}
use Rattle.run_parts.proofs.finding.find_alternative.Given as goal

abbrev pub invariant-loop-cell : goal.invariant-loop-cell
invariant-loop-cell l = record {
  below : l.at ≤ l.id;
  same : found_alternative (alternatives_at (nodes_of l.work) l.id) l.value ≡ found_alternative (alternatives_at (nodes_of l.work) l.at) l.value;
}

abbrev pub decreases-loop-cell : goal.decreases-loop-cell
decreases-loop-cell l = l.at
