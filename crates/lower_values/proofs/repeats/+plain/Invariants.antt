use Rattle.std.proofs.Common.{◌≡◌, ◌≤◌}
use Rattle.typed_tree.specs.Decoded.{associations_at}
use Rattle.lower_emission.specs.Repeats.{are_plain}
use Rattle.lower_values.proofs.repeats.+plain.Given as goal

abbrev pub decreases-is_plain : goal.decreases-is_plain
decreases-is_plain l = l.value

abbrev pub decreases-is_plain_composite : goal.decreases-is_plain_composite
decreases-is_plain_composite l = l.id

abbrev pub decreases-are_plain : goal.decreases-are_plain
decreases-are_plain l = l.id

abbrev pub invariant-are_plain-loop-cell : goal.invariant-are_plain-loop-cell
invariant-are_plain-loop-cell l = record {
  below : l.at ≤ l.id;
  same : are_plain (associations_at l.nodes l.id) ≡ are_plain (associations_at l.nodes l.at);
}

abbrev pub decreases-are_plain-loop-cell : goal.decreases-are_plain-loop-cell
decreases-are_plain-loop-cell l = l.at
