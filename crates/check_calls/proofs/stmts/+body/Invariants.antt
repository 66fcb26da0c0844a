use Rattle.std.proofs.Common.{◌≡◌, ◌+◌, ◌*◌, ◌≤◌, max}
use Rattle.typed_tree.specs.Decoded.{alternatives_at, arms_at, handlers_at, stmt_at, stmts_at}
use Rattle.check_calls.specs.First.{first_alternatives, first_arms, first_handlers, first_stmt, first_stmts}
use Rattle.check_calls.specs.Words.{rule_of, stmt_left, IsWithin, rest_size}
use Rattle.check_calls.proofs.stmts.+body.Given as goal

-- Numbers of nodes, then the order in which functions that go by one node call each other.

abbrev pub decreases-stmt : goal.decreases-stmt
decreases-stmt l = 4 * l.id + 1

abbrev pub decreases-stmt_step : goal.decreases-stmt_step
decreases-stmt_step l = 4 * l.id + 0

abbrev pub decreases-stmts : goal.decreases-stmts
decreases-stmts l = 4 * l.id + 2

abbrev pub decreases-alternatives : goal.decreases-alternatives
decreases-alternatives l = 4 * l.id + 1

abbrev pub decreases-alternative : goal.decreases-alternative
decreases-alternative l = 4 * l.id + 0

abbrev pub decreases-arms : goal.decreases-arms
decreases-arms l = 4 * l.id + 1

abbrev pub decreases-handlers : goal.decreases-handlers
decreases-handlers l = 4 * l.id + 1

abbrev pub decreases-handler : goal.decreases-handler
decreases-handler l = 4 * l.id + 0

abbrev pub decreases-block : goal.decreases-block
decreases-block l = 4 * (max l.declarations (max l.statements l.handled)) + 3

abbrev pub invariant-stmts-loop-cell : goal.invariant-stmts-loop-cell
invariant-stmts-loop-cell l = record {
  below : l.at ≤ l.id;
  same : first_stmts (rule_of l.typed) (stmts_at l.typed.nodes l.at) l.blocking l.all ≡ first_stmts (rule_of l.typed) (stmts_at l.typed.nodes l.id) l.blocking l.fn.found;
}

abbrev pub decreases-stmts-loop-cell : goal.decreases-stmts-loop-cell
decreases-stmts-loop-cell l = l.at

abbrev pub invariant-alternatives-loop-cell : goal.invariant-alternatives-loop-cell
invariant-alternatives-loop-cell l = record {
  below : l.at ≤ l.id;
  same : first_alternatives (rule_of l.typed) (alternatives_at l.typed.nodes l.at) l.blocking l.all ≡ first_alternatives (rule_of l.typed) (alternatives_at l.typed.nodes l.id) l.blocking l.fn.found;
}

abbrev pub decreases-alternatives-loop-cell : goal.decreases-alternatives-loop-cell
decreases-alternatives-loop-cell l = l.at

abbrev pub invariant-arms-loop-cell : goal.invariant-arms-loop-cell
invariant-arms-loop-cell l = record {
  below : l.at ≤ l.id;
  same : first_arms (rule_of l.typed) (arms_at l.typed.nodes l.at) l.blocking l.all ≡ first_arms (rule_of l.typed) (arms_at l.typed.nodes l.id) l.blocking l.fn.found;
}

abbrev pub decreases-arms-loop-cell : goal.decreases-arms-loop-cell
decreases-arms-loop-cell l = l.at

abbrev pub invariant-handlers-loop-cell : goal.invariant-handlers-loop-cell
invariant-handlers-loop-cell l = record {
  below : l.at ≤ l.id;
  same : first_handlers (rule_of l.typed) (handlers_at l.typed.nodes l.at) l.blocking l.all ≡ first_handlers (rule_of l.typed) (handlers_at l.typed.nodes l.id) l.blocking l.fn.found;
}

abbrev pub decreases-handlers-loop-cell : goal.decreases-handlers-loop-cell
decreases-handlers-loop-cell l = l.at

abbrev pub invariant-stmt-loop-step : goal.invariant-stmt-loop-step
invariant-stmt-loop-step l = record {
  within : IsWithin l.id l.step.rest;
  same : stmt_left l.typed l.blocking l.step.found l.step.rest ≡ first_stmt (rule_of l.typed) (stmt_at l.typed.nodes l.id) l.blocking l.fn.found;
}

abbrev pub decreases-stmt-loop-step : goal.decreases-stmt-loop-step
decreases-stmt-loop-step l = rest_size l.step.rest
