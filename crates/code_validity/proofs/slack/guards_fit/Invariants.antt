use Rattle.std.proofs.Common.{◌-◌, ◌≤◌}
use Rattle.stack_code.specs.Valid.{Each, GuardsIn}
use Rattle.code_validity.proofs.slack.guards_fit.Given as goal

abbrev pub invariant-loop-from : goal.invariant-loop-from
invariant-loop-from l = Each l.code.unwind (GuardsIn l.code 0 l.from) × (l.from ≤ l.long)

abbrev pub decreases-loop-from : goal.decreases-loop-from
decreases-loop-from l = l.long - l.from
