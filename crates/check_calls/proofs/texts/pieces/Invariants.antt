use Rattle.std.proofs.Common.{◌≡◌}
use Rattle.typed_tree.specs.Decoded.{pieces_at}
use Rattle.check_calls.specs.First.{first_pieces}
use Rattle.check_calls.specs.Words.{rule_of}
use Rattle.check_calls.proofs.texts.pieces.Given as goal

abbrev pub invariant-loop-cell : goal.invariant-loop-cell
invariant-loop-cell l = first_pieces (rule_of l.typed) (pieces_at l.typed.nodes l.at) l.blocking l.all ≡ first_pieces (rule_of l.typed) (pieces_at l.typed.nodes l.id) l.blocking l.fn.found

abbrev pub decreases-loop-cell : goal.decreases-loop-cell
decreases-loop-cell l = l.at
