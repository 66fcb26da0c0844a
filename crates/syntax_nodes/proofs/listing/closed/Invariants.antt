use Rattle.std.proofs.Common.{◌≡◌, ◌≤◌, length}
use Rattle.syntax_nodes.specs.Parts.{items_of, open_items, onto, NoItem}
use Rattle.syntax_nodes.specs.Rooted.{stack, Fit}
use Rattle.syntax_nodes.specs.Tables.{part_at}
use Rattle.syntax_nodes.proofs.listing.closed.Given as goal

abbrev pub invariant-loop-next : goal.invariant-loop-next
invariant-loop-next l = record {
  fit : Fit l.nodes l.roots;
  growing : l.here.grown ≤ length l.nodes;
  within : l.here.closed ≤ length l.nodes;
  is : onto (open_items l.kind (part_at l.nodes l.here.grown)) (items_of (part_at l.nodes l.here.closed)) ≡ onto (open_items l.kind (part_at l.fn.nodes l.grown)) NoItem;
  kept : stack l.nodes l.roots ≡ stack l.fn.nodes l.roots;
}

abbrev pub decreases-loop-next : goal.decreases-loop-next
decreases-loop-next l = l.here.grown
