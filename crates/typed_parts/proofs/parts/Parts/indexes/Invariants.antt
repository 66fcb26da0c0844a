use Rattle.std.proofs.Common.{◌≡◌, ◌<◌, length}
use Rattle.typed_tree.specs.Decoded.{Nothing, as_selections, part_at}
use Rattle.typed_tree.specs.Indexes.{indexes_from}
use Rattle.typed_tree.specs.Latest.{pop, top}
use Rattle.typed_parts.specs.Stack.{parts}
use Rattle.typed_parts.proofs.parts.Parts.indexes.Given as goal

abbrev pub invariant-selections : goal.invariant-selections
invariant-selections l = record {
  within : l.next < length l.self.nodes;
  is : indexes_from (top (parts l.self)) (as_selections (part_at l.self.nodes l.next)) ≡ indexes_from Nothing (as_selections (top (parts l.fn.self)));
  kept : pop (parts l.self) ≡ pop (parts l.fn.self);
}

abbrev pub decreases-selections : goal.decreases-selections
decreases-selections l = l.next
