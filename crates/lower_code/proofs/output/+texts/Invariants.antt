use Rattle.lower_code.proofs.output.+texts.Given as goal

abbrev pub decreases-texts : goal.decreases-texts
decreases-texts l = l.id
