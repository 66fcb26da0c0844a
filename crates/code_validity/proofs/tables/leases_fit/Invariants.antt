use Rattle.stack_code.specs.Valid.{EachBelow, LeaseFits}
use Rattle.code_validity.proofs.tables.leases_fit.Given as goal

abbrev pub invariant-loop-number : goal.invariant-loop-number
invariant-loop-number l = EachBelow l.leases (λ n lease. LeaseFits l.code l.around lease.frame) l.number
