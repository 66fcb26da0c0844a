use Rattle.stack_code.specs.Valid.{EachBelow, HandlerFits}
use Rattle.code_validity.proofs.tables.handlers_fit.Given as goal

abbrev pub invariant-loop-number : goal.invariant-loop-number
invariant-loop-number l = EachBelow l.code.unwind (λ k u. HandlerFits l.code u) l.number
