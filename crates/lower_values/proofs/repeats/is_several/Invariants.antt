use Rattle.std.proofs.Common.{◌≡◌}
use Rattle.typed_tree.specs.Decoded.{leaves_at, runs_in}
use Rattle.lower_emission.specs.Repeats.{several}
use Rattle.lower_values.proofs.repeats.is_several.Given as goal

abbrev pub invariant-loop-cell : goal.invariant-loop-cell
invariant-loop-cell l = several (runs_in (leaves_at l.nodes l.runs)) ≡ several (runs_in (leaves_at l.nodes l.at))

abbrev pub decreases-loop-cell : goal.decreases-loop-cell
decreases-loop-cell l = l.at
