use Rattle.lower_code.proofs.gathering.+of_pieces.Given as goal

abbrev pub decreases-of_pieces : goal.decreases-of_pieces
decreases-of_pieces l = l.id
