use Rattle.stack_code.specs.Valid.{EachBelow, Has, SpotFits}
use Rattle.code_validity.proofs.validity.instrs_fit.Given as goal

abbrev pub invariant-loop-at : goal.invariant-loop-at
invariant-loop-at l = EachBelow l.code.instrs (λ at i. Has l.code.spots at (SpotFits l.code at i)) l.at
