use Rattle.std.proofs.Common.{◌≡◌, ◌≤◌}
use Rattle.typed_tree.specs.Decoded.{arms_at}
use Rattle.run_parts.specs.Dealing.{found_arm}
use Rattle.run_parts.specs.Words.{nodes_of}
use Rattle.run_parts.proofs.constructs.find_arm.Given as goal

abbrev pub invariant-loop-cell : goal.invariant-loop-cell
invariant-loop-cell l = record {
  below : l.at ≤ l.id;
  same : found_arm (arms_at (nodes_of l.work) l.id) l.index ≡ found_arm (arms_at (nodes_of l.work) l.at) l.left;
}

abbrev pub decreases-loop-cell : goal.decreases-loop-cell
decreases-loop-cell l = l.at
