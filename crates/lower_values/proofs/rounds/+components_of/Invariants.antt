use Rattle.lower_values.proofs.rounds.+components_of.Given as goal

abbrev pub decreases-components_of : goal.decreases-components_of
decreases-components_of l = l.runs
