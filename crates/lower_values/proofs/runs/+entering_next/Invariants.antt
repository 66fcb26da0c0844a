use Rattle.lower_values.proofs.runs.+entering_next.Given as goal

abbrev pub decreases-entering_next : goal.decreases-entering_next
decreases-entering_next l = l.left.runs
