use Rattle.std.proofs.Common.{◌≡◌, ◌+◌, ◌*◌, ◌≤◌, max}
use Rattle.typed_tree.specs.Decoded.{actuals_at, associations_at, composite_at, expr_at, exprs_at, selections_at}
use Rattle.check_inference.specs.Gather.{gather_actuals, gather_associations, gather_composite, gather_expr, gather_exprs, gather_selections}
use Rattle.check_inference.specs.Paths.{place_of}
use Rattle.check_inference.specs.Words.{expr_left, composite_left, IsWithin, rest_size}
use Rattle.check_inference.proofs.exprs.+text.Given as goal

-- Numbers of nodes, then the order in which functions that go by one node call each other.

abbrev pub decreases-expr : goal.decreases-expr
decreases-expr l = 8 * l.id + 1

abbrev pub decreases-expr_step : goal.decreases-expr_step
decreases-expr_step l = 8 * l.id + 0

abbrev pub decreases-both : goal.decreases-both
decreases-both l = 8 * (max l.one l.two) + 2

abbrev pub decreases-call : goal.decreases-call
decreases-call l = 8 * l.parts + 2

abbrev pub decreases-exprs : goal.decreases-exprs
decreases-exprs l = 8 * l.id + 1

abbrev pub decreases-optional : goal.decreases-optional
decreases-optional l = 8 * l.id + 2

abbrev pub decreases-name : goal.decreases-name
decreases-name l = 8 * l.parts + 2

abbrev pub decreases-selections : goal.decreases-selections
decreases-selections l = 8 * l.id + 1

abbrev pub decreases-selection : goal.decreases-selection
decreases-selection l = 8 * l.id + 0

abbrev pub decreases-actuals : goal.decreases-actuals
decreases-actuals l = 8 * l.id + 1

abbrev pub decreases-actual : goal.decreases-actual
decreases-actual l = 8 * l.id + 0

abbrev pub decreases-value : goal.decreases-value
decreases-value l = 8 * l.id + 0

abbrev pub decreases-composite : goal.decreases-composite
decreases-composite l = 8 * l.id + 1

abbrev pub decreases-composite_step : goal.decreases-composite_step
decreases-composite_step l = 8 * l.id + 0

abbrev pub decreases-chosen : goal.decreases-chosen
decreases-chosen l = 8 * (max l.condition l.part) + 2

abbrev pub decreases-associations : goal.decreases-associations
decreases-associations l = 8 * l.id + 1

abbrev pub decreases-association : goal.decreases-association
decreases-association l = 8 * l.id + 0

abbrev pub decreases-course : goal.decreases-course
decreases-course l = 8 * l.id + 0

abbrev pub decreases-filter : goal.decreases-filter
decreases-filter l = 8 * l.id + 0

abbrev pub decreases-chunk : goal.decreases-chunk
decreases-chunk l = 8 * l.id + 0

abbrev pub decreases-front : goal.decreases-front
decreases-front l = 8 * (max l.specification l.iteration) + 1

abbrev pub decreases-front_uses : goal.decreases-front_uses
decreases-front_uses l = 8 * (max l.specification l.iteration) + 2

abbrev pub decreases-turn : goal.decreases-turn
decreases-turn l = 8 * (max l.iteration l.value) + 2

abbrev pub decreases-values : goal.decreases-values
decreases-values l = 8 * (max l.iteration l.value) + 3

abbrev pub decreases-thread_uses : goal.decreases-thread_uses
decreases-thread_uses l = 8 * (max l.parts.iteration l.parts.value) + 4

abbrev pub decreases-site : goal.decreases-site
decreases-site l = 8 * (max l.parts.chunk (max l.parts.iteration l.parts.value)) + 5

abbrev pub decreases-begun : goal.decreases-begun
decreases-begun l = 8 * l.parts.initial + 2

abbrev pub decreases-sequential : goal.decreases-sequential
decreases-sequential l = 8 * (max l.parts.initial (max l.parts.iteration l.parts.value)) + 6

abbrev pub decreases-parallel : goal.decreases-parallel
decreases-parallel l = 8 * (max l.parts.initial (max l.parts.chunk (max l.parts.iteration l.parts.value))) + 6

abbrev pub decreases-reduction : goal.decreases-reduction
decreases-reduction l = 8 * (max l.parts.initial (max l.parts.chunk (max l.parts.iteration l.parts.value))) + 7

abbrev pub invariant-exprs-cells : goal.invariant-exprs-cells
invariant-exprs-cells l = record {
  below : l.at ≤ l.id;
  same : gather_exprs (place_of l.env) (exprs_at l.source.typed.now.nodes l.at) l.out ≡ gather_exprs (place_of l.env) (exprs_at l.source.typed.now.nodes l.id) l.fn.out;
}

abbrev pub decreases-exprs-cells : goal.decreases-exprs-cells
decreases-exprs-cells l = l.at

abbrev pub invariant-selections-cells : goal.invariant-selections-cells
invariant-selections-cells l = record {
  below : l.at ≤ l.id;
  same : gather_selections (place_of l.env) (selections_at l.source.typed.now.nodes l.at) l.out ≡ gather_selections (place_of l.env) (selections_at l.source.typed.now.nodes l.id) l.fn.out;
}

abbrev pub decreases-selections-cells : goal.decreases-selections-cells
decreases-selections-cells l = l.at

abbrev pub invariant-actuals-cells : goal.invariant-actuals-cells
invariant-actuals-cells l = record {
  below : l.at ≤ l.id;
  same : gather_actuals (place_of l.env) (actuals_at l.source.typed.now.nodes l.at) l.out ≡ gather_actuals (place_of l.env) (actuals_at l.source.typed.now.nodes l.id) l.fn.out;
}

abbrev pub decreases-actuals-cells : goal.decreases-actuals-cells
decreases-actuals-cells l = l.at

abbrev pub invariant-associations-cells : goal.invariant-associations-cells
invariant-associations-cells l = record {
  below : l.at ≤ l.id;
  same : gather_associations (place_of l.env) (associations_at l.source.typed.now.nodes l.at) l.out ≡ gather_associations (place_of l.env) (associations_at l.source.typed.now.nodes l.id) l.fn.out;
}

abbrev pub decreases-associations-cells : goal.decreases-associations-cells
decreases-associations-cells l = l.at

abbrev pub invariant-expr-parts : goal.invariant-expr-parts
invariant-expr-parts l = record {
  within : IsWithin l.id l.rest;
  same : expr_left l.source.typed.now (place_of l.env) l.out l.rest ≡ gather_expr (place_of l.env) (expr_at l.source.typed.now.nodes l.id) l.fn.out;
}

abbrev pub decreases-expr-parts : goal.decreases-expr-parts
decreases-expr-parts l = rest_size l.rest

abbrev pub invariant-composite-parts : goal.invariant-composite-parts
invariant-composite-parts l = record {
  within : IsWithin l.id l.rest;
  same : composite_left l.source.typed.now (place_of l.env) l.out l.rest ≡ gather_composite (place_of l.env) (composite_at l.source.typed.now.nodes l.id) l.fn.out;
}

abbrev pub decreases-composite-parts : goal.decreases-composite-parts
decreases-composite-parts l = rest_size l.rest
