use Rattle.lower_values.proofs.rounds.+locating_in.Given as goal

abbrev pub decreases-locating_in : goal.decreases-locating_in
decreases-locating_in l = l.left.runs
