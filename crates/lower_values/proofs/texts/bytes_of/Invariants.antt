use Rattle.std.proofs.Common.{◌≡◌, ◌++◌}
use Rattle.typed_tree.specs.Decoded.{as_bytes, part_at}
use Rattle.lower_values.proofs.texts.bytes_of.Given as goal

abbrev pub invariant-loop-cell : goal.invariant-loop-cell
invariant-loop-cell l = l.all.items ++ as_bytes (part_at l.typed.nodes l.at) ≡ as_bytes (part_at l.typed.nodes l.id)

abbrev pub decreases-loop-cell : goal.decreases-loop-cell
decreases-loop-cell l = l.at
