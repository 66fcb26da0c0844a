use Rattle.lower_leases.proofs.finding.+formals.Given as goal

abbrev pub decreases-formals : goal.decreases-formals
decreases-formals l = l.id
