use Rattle.std.proofs.Common.{◌≡◌}
use Rattle.typed_tree.specs.Decoded.{selections_at}
use Rattle.lower_emission.specs.Emission as spec
use Rattle.lower_values.specs.Words.{nodes}
use Rattle.lower_values.proofs.exprs.is_whole.Given as goal

abbrev pub invariant-loop-cell : goal.invariant-loop-cell
invariant-loop-cell l = spec.is_whole (selections_at (nodes l.env) l.fn.id) ≡ spec.is_whole (selections_at (nodes l.env) l.at)

abbrev pub decreases-loop-cell : goal.decreases-loop-cell
decreases-loop-cell l = l.at
