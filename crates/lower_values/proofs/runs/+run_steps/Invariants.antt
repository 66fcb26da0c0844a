use Rattle.lower_values.proofs.runs.+run_steps.Given as goal

abbrev pub decreases-run_steps : goal.decreases-run_steps
decreases-run_steps l = l.left.runs
