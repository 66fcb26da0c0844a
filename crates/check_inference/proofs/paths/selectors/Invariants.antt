use Rattle.std.proofs.Common.{◌≡◌}
use Rattle.typed_tree.specs.Decoded.{selections_at}
use Rattle.check_inference.specs.Paths.{place_of, selectors_with}
use Rattle.check_inference.proofs.paths.selectors.Given as goal

abbrev pub invariant-loop-cell : goal.invariant-loop-cell
invariant-loop-cell l = selectors_with (place_of l.env) (selections_at l.source.typed.now.nodes l.at) l.found ≡ selectors_with (place_of l.env) (selections_at l.source.typed.now.nodes l.id) l.fn.found

abbrev pub decreases-loop-cell : goal.decreases-loop-cell
decreases-loop-cell l = l.at
