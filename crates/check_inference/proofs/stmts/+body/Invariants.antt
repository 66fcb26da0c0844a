use Rattle.std.proofs.Common.{◌≡◌, ◌+◌, ◌*◌, ◌≤◌, max}
use Rattle.typed_tree.specs.Decoded.{alternatives_at, arms_at, handlers_at, stmt_at, stmts_at}
use Rattle.check_inference.specs.Gather.{gather_alternatives, gather_arms, gather_handlers, gather_numbered, gather_stmt, gather_stmts}
use Rattle.check_inference.specs.Paths.{place_of}
use Rattle.check_inference.specs.Words.{stmt_left, IsWithin, rest_size}
use Rattle.check_inference.proofs.stmts.+body.Given as goal

-- Numbers of nodes, then the order in which functions that go by one node call each other.

abbrev pub decreases-stmt : goal.decreases-stmt
decreases-stmt l = 8 * l.id + 1

abbrev pub decreases-stmt_step : goal.decreases-stmt_step
decreases-stmt_step l = 8 * l.id + 0

abbrev pub decreases-branch : goal.decreases-branch
decreases-branch l = 8 * (max l.then l.otherwise) + 3

abbrev pub decreases-case : goal.decreases-case
decreases-case l = 8 * l.parts + 3

abbrev pub decreases-while_loop : goal.decreases-while_loop
decreases-while_loop l = 8 * l.parts + 3

abbrev pub decreases-for_loop : goal.decreases-for_loop
decreases-for_loop l = 8 * l.parts + 5

abbrev pub decreases-parallel_for : goal.decreases-parallel_for
decreases-parallel_for l = 8 * l.parts.stmts + 7

abbrev pub decreases-parallel_loop : goal.decreases-parallel_loop
decreases-parallel_loop l = 8 * l.parts.stmts + 6

abbrev pub decreases-loop_uses : goal.decreases-loop_uses
decreases-loop_uses l = 8 * l.parts.stmts + 5

abbrev pub decreases-turns : goal.decreases-turns
decreases-turns l = 8 * l.parts + 4

abbrev pub decreases-turn : goal.decreases-turn
decreases-turn l = 8 * l.parts + 3

abbrev pub decreases-parallel : goal.decreases-parallel
decreases-parallel l = 8 * l.parts + 5

abbrev pub decreases-parallel_block : goal.decreases-parallel_block
decreases-parallel_block l = 8 * l.parts + 4

abbrev pub decreases-arm_uses : goal.decreases-arm_uses
decreases-arm_uses l = 8 * l.parts + 3

abbrev pub decreases-numbered : goal.decreases-numbered
decreases-numbered l = 8 * l.id + 1

abbrev pub decreases-arms : goal.decreases-arms
decreases-arms l = 8 * l.id + 1

abbrev pub decreases-block : goal.decreases-block
decreases-block l = 8 * (max l.statements l.handled) + 4

abbrev pub decreases-held : goal.decreases-held
decreases-held l = 8 * (max l.statements l.handled) + 3

abbrev pub decreases-stmts : goal.decreases-stmts
decreases-stmts l = 8 * l.id + 2

abbrev pub decreases-alternatives : goal.decreases-alternatives
decreases-alternatives l = 8 * l.id + 1

abbrev pub decreases-alternative : goal.decreases-alternative
decreases-alternative l = 8 * l.id + 0

abbrev pub decreases-handlers : goal.decreases-handlers
decreases-handlers l = 8 * l.id + 1

abbrev pub decreases-handler : goal.decreases-handler
decreases-handler l = 8 * l.id + 0

abbrev pub invariant-stmts-loop-cell : goal.invariant-stmts-loop-cell
invariant-stmts-loop-cell l = record {
  below : l.at ≤ l.id;
  same : gather_stmts (place_of l.env) (stmts_at l.source.typed.now.nodes l.at) l.out ≡ gather_stmts (place_of l.env) (stmts_at l.source.typed.now.nodes l.id) l.fn.out;
}

abbrev pub decreases-stmts-loop-cell : goal.decreases-stmts-loop-cell
decreases-stmts-loop-cell l = l.at

abbrev pub invariant-alternatives-loop-cell : goal.invariant-alternatives-loop-cell
invariant-alternatives-loop-cell l = record {
  below : l.at ≤ l.id;
  same : gather_alternatives (place_of l.env) (alternatives_at l.source.typed.now.nodes l.at) l.out ≡ gather_alternatives (place_of l.env) (alternatives_at l.source.typed.now.nodes l.id) l.fn.out;
}

abbrev pub decreases-alternatives-loop-cell : goal.decreases-alternatives-loop-cell
decreases-alternatives-loop-cell l = l.at

abbrev pub invariant-arms-loop-cell : goal.invariant-arms-loop-cell
invariant-arms-loop-cell l = record {
  below : l.at ≤ l.id;
  same : gather_arms (place_of l.env) (arms_at l.source.typed.now.nodes l.at) l.out ≡ gather_arms (place_of l.env) (arms_at l.source.typed.now.nodes l.id) l.fn.out;
}

abbrev pub decreases-arms-loop-cell : goal.decreases-arms-loop-cell
decreases-arms-loop-cell l = l.at

abbrev pub invariant-handlers-loop-cell : goal.invariant-handlers-loop-cell
invariant-handlers-loop-cell l = record {
  below : l.at ≤ l.id;
  same : gather_handlers (place_of l.env) (handlers_at l.source.typed.now.nodes l.at) l.out ≡ gather_handlers (place_of l.env) (handlers_at l.source.typed.now.nodes l.id) l.fn.out;
}

abbrev pub decreases-handlers-loop-cell : goal.decreases-handlers-loop-cell
decreases-handlers-loop-cell l = l.at

-- an arm's number and that of the rest's node together pass no node's number
abbrev pub invariant-numbered-loop-cell : goal.invariant-numbered-loop-cell
invariant-numbered-loop-cell l = record {
  below : l.arm + l.at ≤ l.id;
  same : gather_numbered (place_of l.env) l.arm (arms_at l.source.typed.now.nodes l.at) l.out ≡ gather_numbered (place_of l.env) 0 (arms_at l.source.typed.now.nodes l.id) l.fn.out;
}

abbrev pub decreases-numbered-loop-cell : goal.decreases-numbered-loop-cell
decreases-numbered-loop-cell l = l.at

abbrev pub invariant-stmt-loop-rest : goal.invariant-stmt-loop-rest
invariant-stmt-loop-rest l = record {
  within : IsWithin l.id l.rest;
  same : stmt_left l.source.typed.now (place_of l.env) l.out l.rest ≡ gather_stmt (place_of l.env) (stmt_at l.source.typed.now.nodes l.id) l.fn.out;
}

abbrev pub decreases-stmt-loop-rest : goal.decreases-stmt-loop-rest
decreases-stmt-loop-rest l = rest_size l.rest
