use Rattle.lower_code.proofs.simple.+back.Given as goal

abbrev pub decreases-back : goal.decreases-back
decreases-back l = l.id
