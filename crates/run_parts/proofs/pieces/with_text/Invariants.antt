use Rattle.std.proofs.Common.{◌≡◌, ◌≤◌, ◌++◌}
use Rattle.typed_tree.specs.Decoded.{bytes_in, leaves_at}
use Rattle.run_parts.specs.Words.{nodes_of}
use Rattle.run_parts.proofs.pieces.with_text.Given as goal

-- what is there, and what is still to come
abbrev pub invariant-loop-cell : goal.invariant-loop-cell
invariant-loop-cell l = record {
  below : l.at ≤ l.id;
  same : l.text ++ bytes_in (leaves_at (nodes_of l.work) l.at) ≡ l.fn.out ++ bytes_in (leaves_at (nodes_of l.work) l.id);
}

abbrev pub decreases-loop-cell : goal.decreases-loop-cell
decreases-loop-cell l = l.at
