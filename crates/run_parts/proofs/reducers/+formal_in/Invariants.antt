use Rattle.run_parts.proofs.reducers.+formal_in.Given as goal

abbrev pub decreases-formal_in : goal.decreases-formal_in
decreases-formal_in l = l.id
