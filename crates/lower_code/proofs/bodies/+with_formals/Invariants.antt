use Rattle.lower_code.proofs.bodies.+with_formals.Given as goal

abbrev pub decreases-with_formals : goal.decreases-with_formals
decreases-with_formals l = l.id
