use Rattle.std.proofs.Common.{◌≡◌}
use Rattle.typed_tree.specs.Decoded.{pieces_at}
use Rattle.check_inference.specs.Gather.{gather_pieces}
use Rattle.check_inference.specs.Paths.{place_of}
use Rattle.check_inference.proofs.texts.pieces.Given as goal

abbrev pub invariant-loop-cell : goal.invariant-loop-cell
invariant-loop-cell l = gather_pieces (place_of l.env) (pieces_at l.source.typed.now.nodes l.at) l.out ≡ gather_pieces (place_of l.env) (pieces_at l.source.typed.now.nodes l.id) l.fn.out

abbrev pub decreases-loop-cell : goal.decreases-loop-cell
decreases-loop-cell l = l.at
