use Rattle.stack_code.specs.Valid.{EachBelow, SiteFits}
use Rattle.code_validity.proofs.tables.sites_fit.Given as goal

abbrev pub invariant-loop-number : goal.invariant-loop-number
invariant-loop-number l = EachBelow l.code.sites (SiteFits l.code) l.number
