use Rattle.std.proofs.Common.{◌≡◌, ◌<◌, length}
use Rattle.typed_tree.specs.Decoded.{part_at}
use Rattle.typed_tree.specs.Latest.{onto}
use Rattle.typed_parts.specs.Stack.{parts}
use Rattle.typed_parts.proofs.parts.Parts.onto.Given as goal

abbrev pub invariant-loop-next : goal.invariant-loop-next
invariant-loop-next l = record {
  at : l.here.at < length l.self.nodes;
  within : l.here.done < length l.self.nodes;
  is : onto (part_at l.self.nodes l.here.at) (part_at l.self.nodes l.here.done) ≡ onto (part_at l.fn.self.nodes l.at) (part_at l.fn.self.nodes l.fn.done);
  kept : parts l.self ≡ parts l.fn.self;
}

abbrev pub decreases-loop-next : goal.decreases-loop-next
decreases-loop-next l = l.here.at
