use Rattle.run_parts.proofs.finding.+has_reason.Given as goal

abbrev pub decreases-has_reason : goal.decreases-has_reason
decreases-has_reason l = l.id
