use Rattle.std.proofs.Common.{◌≡◌, ◌+◌, ◌*◌, ◌≤◌, max}
use Rattle.typed_tree.specs.Decoded.{actuals_at, associations_at, composite_at, expr_at, exprs_at, selections_at}
use Rattle.check_calls.specs.First.{first_actuals, first_associations, first_composite, first_expr, first_exprs, first_selections}
use Rattle.check_calls.specs.Words.{rule_of, expr_left, composite_left, IsWithin, rest_size}
use Rattle.check_calls.proofs.exprs.+text.Given as goal

-- Numbers of nodes, then the order in which functions that go by one node call each other.

abbrev pub decreases-expr : goal.decreases-expr
decreases-expr l = 4 * l.id + 1

abbrev pub decreases-expr_step : goal.decreases-expr_step
decreases-expr_step l = 4 * l.id + 0

abbrev pub decreases-exprs : goal.decreases-exprs
decreases-exprs l = 4 * l.id + 1

abbrev pub decreases-optional : goal.decreases-optional
decreases-optional l = 4 * l.id + 2

abbrev pub decreases-selections : goal.decreases-selections
decreases-selections l = 4 * l.id + 1

abbrev pub decreases-selection : goal.decreases-selection
decreases-selection l = 4 * l.id + 0

abbrev pub decreases-actuals : goal.decreases-actuals
decreases-actuals l = 4 * l.id + 1

abbrev pub decreases-actual : goal.decreases-actual
decreases-actual l = 4 * l.id + 0

abbrev pub decreases-value : goal.decreases-value
decreases-value l = 4 * l.id + 0

abbrev pub decreases-composite : goal.decreases-composite
decreases-composite l = 4 * l.id + 1

abbrev pub decreases-composite_step : goal.decreases-composite_step
decreases-composite_step l = 4 * l.id + 0

abbrev pub decreases-associations : goal.decreases-associations
decreases-associations l = 4 * l.id + 1

abbrev pub decreases-association : goal.decreases-association
decreases-association l = 4 * l.id + 0

abbrev pub decreases-iteration : goal.decreases-iteration
decreases-iteration l = 4 * l.id + 0

abbrev pub decreases-chunk : goal.decreases-chunk
decreases-chunk l = 4 * l.id + 0

abbrev pub invariant-exprs-loop-cell : goal.invariant-exprs-loop-cell
invariant-exprs-loop-cell l = record {
  below : l.at ≤ l.id;
  same : first_exprs (rule_of l.typed) (exprs_at l.typed.nodes l.at) l.blocking l.all ≡ first_exprs (rule_of l.typed) (exprs_at l.typed.nodes l.id) l.blocking l.fn.found;
}

abbrev pub decreases-exprs-loop-cell : goal.decreases-exprs-loop-cell
decreases-exprs-loop-cell l = l.at

abbrev pub invariant-selections-loop-cell : goal.invariant-selections-loop-cell
invariant-selections-loop-cell l = record {
  below : l.at ≤ l.id;
  same : first_selections (rule_of l.typed) (selections_at l.typed.nodes l.at) l.blocking l.all ≡ first_selections (rule_of l.typed) (selections_at l.typed.nodes l.id) l.blocking l.fn.found;
}

abbrev pub decreases-selections-loop-cell : goal.decreases-selections-loop-cell
decreases-selections-loop-cell l = l.at

abbrev pub invariant-actuals-loop-cell : goal.invariant-actuals-loop-cell
invariant-actuals-loop-cell l = record {
  below : l.at ≤ l.id;
  same : first_actuals (rule_of l.typed) (actuals_at l.typed.nodes l.at) l.blocking l.all ≡ first_actuals (rule_of l.typed) (actuals_at l.typed.nodes l.id) l.blocking l.fn.found;
}

abbrev pub decreases-actuals-loop-cell : goal.decreases-actuals-loop-cell
decreases-actuals-loop-cell l = l.at

abbrev pub invariant-associations-loop-cell : goal.invariant-associations-loop-cell
invariant-associations-loop-cell l = record {
  below : l.at ≤ l.id;
  same : first_associations (rule_of l.typed) (associations_at l.typed.nodes l.at) l.blocking l.all ≡ first_associations (rule_of l.typed) (associations_at l.typed.nodes l.id) l.blocking l.fn.found;
}

abbrev pub decreases-associations-loop-cell : goal.decreases-associations-loop-cell
decreases-associations-loop-cell l = l.at

abbrev pub invariant-expr-loop-step : goal.invariant-expr-loop-step
invariant-expr-loop-step l = record {
  within : IsWithin l.id l.step.rest;
  same : expr_left l.typed l.blocking l.step.found l.step.rest ≡ first_expr (rule_of l.typed) (expr_at l.typed.nodes l.id) l.blocking l.fn.found;
}

abbrev pub decreases-expr-loop-step : goal.decreases-expr-loop-step
decreases-expr-loop-step l = rest_size l.step.rest

abbrev pub invariant-composite-loop-step : goal.invariant-composite-loop-step
invariant-composite-loop-step l = record {
  within : IsWithin l.id l.step.rest;
  same : composite_left l.typed l.blocking l.step.found l.step.rest ≡ first_composite (rule_of l.typed) (composite_at l.typed.nodes l.id) l.blocking l.fn.found;
}

abbrev pub decreases-composite-loop-step : goal.decreases-composite-loop-step
decreases-composite-loop-step l = rest_size l.step.rest

abbrev pub decreases-values : goal.decreases-values
decreases-values l = 4 * (max l.specification (max l.course l.value)) + 3
