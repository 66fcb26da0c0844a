use Rattle.lower_leases.proofs.homes.+width.Given as goal

abbrev pub decreases-composite_width : goal.decreases-composite_width
decreases-composite_width l = l.id
