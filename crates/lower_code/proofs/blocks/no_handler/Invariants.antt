use Rattle.std.proofs.Common.{◌≡◌}
use Rattle.typed_tree.specs.Decoded.{handlers_at}
use Rattle.lower_emission.specs.Statements as spec
use Rattle.lower_values.specs.Words.{nodes}
use Rattle.lower_code.proofs.blocks.no_handler.Given as goal

abbrev pub invariant-loop-cell : goal.invariant-loop-cell
invariant-loop-cell l = spec.no_handler (handlers_at (nodes l.env) l.fn.id) ≡ spec.no_handler (handlers_at (nodes l.env) l.at)

abbrev pub decreases-loop-cell : goal.decreases-loop-cell
decreases-loop-cell l = l.at
