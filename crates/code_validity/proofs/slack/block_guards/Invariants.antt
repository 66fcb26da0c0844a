use Rattle.stack_code.specs.Valid.{EachBelow, GuardsIn}
use Rattle.code_validity.proofs.slack.block_guards.Given as goal

abbrev pub invariant-loop-number : goal.invariant-loop-number
invariant-loop-number l = EachBelow l.code.unwind (GuardsIn l.code l.from l.to) l.number
