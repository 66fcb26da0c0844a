use Rattle.run_parts.proofs.finding.+is_chosen.Given as goal

abbrev pub decreases-is_chosen : goal.decreases-is_chosen
decreases-is_chosen l = l.id
