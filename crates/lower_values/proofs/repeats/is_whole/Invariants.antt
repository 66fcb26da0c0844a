use Rattle.std.proofs.Common.{◌≡◌}
use Rattle.typed_tree.specs.Decoded.{selections_at}
use Rattle.typed_tree.specs.Statics.{is_whole}
use Rattle.lower_values.proofs.repeats.is_whole.Given as goal

abbrev pub invariant-loop-cell : goal.invariant-loop-cell
invariant-loop-cell l = is_whole (selections_at l.nodes l.selections) ≡ is_whole (selections_at l.nodes l.at)

abbrev pub decreases-loop-cell : goal.decreases-loop-cell
decreases-loop-cell l = l.at
