use Rattle.std.proofs.Common.{◌≡◌, ◌+◌, ◌≤◌}
use Rattle.typed_tree.specs.Decoded.{arms_at}
use Rattle.ada_meaning.specs.Meaning.{arms_of}
use Rattle.run_parts.specs.Words.{nodes_of}
use Rattle.run_parts.proofs.constructs.count_arms.Given as goal

abbrev pub invariant-loop-cell : goal.invariant-loop-cell
invariant-loop-cell l = record {
  below : l.at ≤ l.id;
  same : l.count + arms_of (arms_at (nodes_of l.work) l.at) ≡ arms_of (arms_at (nodes_of l.work) l.id);
}

abbrev pub decreases-loop-cell : goal.decreases-loop-cell
decreases-loop-cell l = l.at
