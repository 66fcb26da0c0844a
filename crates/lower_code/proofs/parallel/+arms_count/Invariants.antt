use Rattle.lower_code.proofs.parallel.+arms_count.Given as goal

abbrev pub decreases-arms_count : goal.decreases-arms_count
decreases-arms_count l = l.id
