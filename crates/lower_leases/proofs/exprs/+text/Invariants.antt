use Rattle.std.proofs.Common.{◌≡◌, ◌+◌, ◌*◌, ◌≤◌, max}
use Rattle.typed_tree.specs.Decoded.{actuals_at, associations_at, composite_at, expr_at, selections_at}
use Rattle.std.specs.Prelude.{IsTrue}
use Rattle.ada_lower.specs.Standings.{actuals_standings, associations_standings, composite_standings, expr_standings, selections_standings}
use Rattle.lower_leases.specs.Words.{expr_left, composite_left, IsWithin, rest_size}
use Rattle.lower_leases.proofs.exprs.+text.Given as goal

-- Numbers of nodes, then the order in which functions that go by one node call each other.

abbrev pub decreases-expr : goal.decreases-expr
decreases-expr l = 8 * l.id + 1

abbrev pub decreases-expr_step : goal.decreases-expr_step
decreases-expr_step l = 8 * l.id + 0

abbrev pub decreases-both : goal.decreases-both
decreases-both l = 8 * (max l.one l.two) + 2

abbrev pub decreases-optional : goal.decreases-optional
decreases-optional l = 8 * l.id + 2

abbrev pub decreases-selections : goal.decreases-selections
decreases-selections l = 8 * l.id + 1

abbrev pub decreases-selection : goal.decreases-selection
decreases-selection l = 8 * l.id + 0

abbrev pub decreases-actuals : goal.decreases-actuals
decreases-actuals l = 8 * l.id + 1

abbrev pub decreases-actual : goal.decreases-actual
decreases-actual l = 8 * l.id + 0

abbrev pub decreases-value : goal.decreases-value
decreases-value l = 8 * l.id + 0

abbrev pub decreases-composite : goal.decreases-composite
decreases-composite l = 8 * l.id + 1

abbrev pub decreases-composite_step : goal.decreases-composite_step
decreases-composite_step l = 8 * l.id + 0

abbrev pub decreases-chosen : goal.decreases-chosen
decreases-chosen l = 8 * (max l.condition l.part) + 2

abbrev pub decreases-associations : goal.decreases-associations
decreases-associations l = 8 * l.id + 1

abbrev pub decreases-association : goal.decreases-association
decreases-association l = 8 * l.id + 0

abbrev pub decreases-given : goal.decreases-given
decreases-given l = 8 * l.part + 1

abbrev pub decreases-iteration : goal.decreases-iteration
decreases-iteration l = 8 * l.id + 0

abbrev pub decreases-chunk : goal.decreases-chunk
decreases-chunk l = 8 * l.id + 0

abbrev pub decreases-reduction : goal.decreases-reduction
decreases-reduction l = 8 * (max l.parts.initial (max l.parts.chunk (max l.parts.iteration l.parts.value))) + 2

abbrev pub invariant-selections-cells : goal.invariant-selections-cells
invariant-selections-cells l = record {
  below : l.at ≤ l.id;
  same : IsTrue l.out.whole → IsTrue l.fn.out.whole × (selections_standings l.depth (selections_at l.nodes l.at) l.out.found ≡ selections_standings l.depth (selections_at l.nodes l.id) l.fn.out.found);
}

abbrev pub decreases-selections-cells : goal.decreases-selections-cells
decreases-selections-cells l = l.at

abbrev pub invariant-actuals-cells : goal.invariant-actuals-cells
invariant-actuals-cells l = record {
  below : l.at ≤ l.id;
  same : IsTrue l.out.whole → IsTrue l.fn.out.whole × (actuals_standings l.depth (actuals_at l.nodes l.at) l.out.found ≡ actuals_standings l.depth (actuals_at l.nodes l.id) l.fn.out.found);
}

abbrev pub decreases-actuals-cells : goal.decreases-actuals-cells
decreases-actuals-cells l = l.at

abbrev pub invariant-associations-cells : goal.invariant-associations-cells
invariant-associations-cells l = record {
  below : l.at ≤ l.id;
  same : IsTrue l.out.whole → IsTrue l.fn.out.whole × (associations_standings l.depth (associations_at l.nodes l.at) l.out.found ≡ associations_standings l.depth (associations_at l.nodes l.id) l.fn.out.found);
}

abbrev pub decreases-associations-cells : goal.decreases-associations-cells
decreases-associations-cells l = l.at

abbrev pub invariant-expr-parts : goal.invariant-expr-parts
invariant-expr-parts l = record {
  within : IsWithin l.id l.rest;
  same : IsTrue l.out.whole → IsTrue l.fn.out.whole × (expr_left l.nodes l.depth l.out.found l.rest ≡ expr_standings l.depth (expr_at l.nodes l.id) l.fn.out.found);
}

abbrev pub decreases-expr-parts : goal.decreases-expr-parts
decreases-expr-parts l = rest_size l.rest

abbrev pub invariant-composite-parts : goal.invariant-composite-parts
invariant-composite-parts l = record {
  within : IsWithin l.id l.rest;
  same : IsTrue l.out.whole → IsTrue l.fn.out.whole × (composite_left l.nodes l.depth l.out.found l.rest ≡ composite_standings l.depth (composite_at l.nodes l.id) l.fn.out.found);
}

abbrev pub decreases-composite-parts : goal.decreases-composite-parts
decreases-composite-parts l = rest_size l.rest
