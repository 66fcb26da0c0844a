use Rattle.stack_code.specs.Valid.{EachBelow, SubFits}
use Rattle.code_validity.proofs.tables.subs_fit.Given as goal

abbrev pub invariant-loop-number : goal.invariant-loop-number
invariant-loop-number l = EachBelow l.code.subs (SubFits l.code) l.number
