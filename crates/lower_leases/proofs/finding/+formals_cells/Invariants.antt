use Rattle.lower_leases.proofs.finding.+formals_cells.Given as goal

abbrev pub decreases-formals_cells : goal.decreases-formals_cells
decreases-formals_cells l = l.id
