use Rattle.std.proofs.Common.{◌≡◌, ◌+◌, ◌*◌, ◌≤◌, max}
use Rattle.typed_tree.specs.Decoded.{alternatives_at, arms_at, handlers_at, stmt_at, stmts_at}
use Rattle.std.specs.Prelude.{IsTrue}
use Rattle.ada_lower.specs.Standings.{case_standings, arm_standings, handler_standings, stmt_standings, stmts_standings}
use Rattle.lower_leases.specs.Words.{stmt_left, IsWithin, rest_size}
use Rattle.lower_leases.proofs.stmts.+body.Given as goal

-- Numbers of nodes, then the order in which functions that go by one node call each other.

abbrev pub decreases-stmt : goal.decreases-stmt
decreases-stmt l = 8 * l.id + 1

abbrev pub decreases-stmt_step : goal.decreases-stmt_step
decreases-stmt_step l = 8 * l.id + 0

abbrev pub decreases-branch : goal.decreases-branch
decreases-branch l = 8 * (max l.then l.otherwise) + 3

abbrev pub decreases-case : goal.decreases-case
decreases-case l = 8 * l.parts + 3

abbrev pub decreases-while_loop : goal.decreases-while_loop
decreases-while_loop l = 8 * l.parts + 3

abbrev pub decreases-for_loop : goal.decreases-for_loop
decreases-for_loop l = 8 * l.parts + 3

abbrev pub decreases-parallel_for : goal.decreases-parallel_for
decreases-parallel_for l = 8 * l.parts.stmts + 3

abbrev pub decreases-parallel : goal.decreases-parallel
decreases-parallel l = 8 * l.parts + 3

abbrev pub decreases-block : goal.decreases-block
decreases-block l = 8 * (max l.statements l.handled) + 3

abbrev pub decreases-stmts : goal.decreases-stmts
decreases-stmts l = 8 * l.id + 2

abbrev pub decreases-alternatives : goal.decreases-alternatives
decreases-alternatives l = 8 * l.id + 1

abbrev pub decreases-alternative : goal.decreases-alternative
decreases-alternative l = 8 * l.id + 0

abbrev pub decreases-arms : goal.decreases-arms
decreases-arms l = 8 * l.id + 1

abbrev pub decreases-handlers : goal.decreases-handlers
decreases-handlers l = 8 * l.id + 1

abbrev pub decreases-handler : goal.decreases-handler
decreases-handler l = 8 * l.id + 0

abbrev pub invariant-stmts-loop-cell : goal.invariant-stmts-loop-cell
invariant-stmts-loop-cell l = record {
  below : l.at ≤ l.id;
  same : IsTrue l.out.whole → IsTrue l.fn.out.whole × (stmts_standings l.depth (stmts_at l.nodes l.at) l.out.found ≡ stmts_standings l.depth (stmts_at l.nodes l.id) l.fn.out.found);
}

abbrev pub decreases-stmts-loop-cell : goal.decreases-stmts-loop-cell
decreases-stmts-loop-cell l = l.at

abbrev pub invariant-alternatives-loop-cell : goal.invariant-alternatives-loop-cell
invariant-alternatives-loop-cell l = record {
  below : l.at ≤ l.id;
  same : IsTrue l.out.whole → IsTrue l.fn.out.whole × (case_standings l.depth (alternatives_at l.nodes l.at) l.out.found ≡ case_standings l.depth (alternatives_at l.nodes l.id) l.fn.out.found);
}

abbrev pub decreases-alternatives-loop-cell : goal.decreases-alternatives-loop-cell
decreases-alternatives-loop-cell l = l.at

abbrev pub invariant-arms-loop-cell : goal.invariant-arms-loop-cell
invariant-arms-loop-cell l = record {
  below : l.at ≤ l.id;
  same : IsTrue l.out.whole → IsTrue l.fn.out.whole × (arm_standings l.depth (arms_at l.nodes l.at) l.out.found ≡ arm_standings l.depth (arms_at l.nodes l.id) l.fn.out.found);
}

abbrev pub decreases-arms-loop-cell : goal.decreases-arms-loop-cell
decreases-arms-loop-cell l = l.at

abbrev pub invariant-handlers-loop-cell : goal.invariant-handlers-loop-cell
invariant-handlers-loop-cell l = record {
  below : l.at ≤ l.id;
  same : IsTrue l.out.whole → IsTrue l.fn.out.whole × (handler_standings l.depth (handlers_at l.nodes l.at) l.out.found ≡ handler_standings l.depth (handlers_at l.nodes l.id) l.fn.out.found);
}

abbrev pub decreases-handlers-loop-cell : goal.decreases-handlers-loop-cell
decreases-handlers-loop-cell l = l.at

abbrev pub invariant-stmt-loop-rest : goal.invariant-stmt-loop-rest
invariant-stmt-loop-rest l = record {
  within : IsWithin l.id l.rest;
  same : IsTrue l.out.whole → IsTrue l.fn.out.whole × (stmt_left l.nodes l.depth l.out.found l.rest ≡ stmt_standings l.depth (stmt_at l.nodes l.id) l.fn.out.found);
}

abbrev pub decreases-stmt-loop-rest : goal.decreases-stmt-loop-rest
decreases-stmt-loop-rest l = rest_size l.rest
