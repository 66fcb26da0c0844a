use Rattle.tests_typed.proofs.readings.digits.Given as goal

abbrev pub decreases-loop-cell : goal.decreases-loop-cell
decreases-loop-cell l = l.at
