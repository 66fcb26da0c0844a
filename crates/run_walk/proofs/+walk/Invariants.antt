use Rattle.std.proofs.Common.{◌≡◌, ◌+◌, ◌*◌, ◌-◌, ◌≤◌, max, length, drop, suc, []}
use Rattle.run_store.specs.Shows.{Goes}
use Rattle.run_store.specs.Environment.{env_of}
use Rattle.typed_tree.specs.Decoded.{actuals_at, stmts_at, expr_at, optional_at, iteration_at, value_at}
use Rattle.behaviours.specs.Joins.{deal}
use Rattle.ada_meaning.specs.Stored.{threads, after_all, first_of_both}
use Rattle.run_parts.specs.Passing.{course_of, passed_list}
use Rattle.run_parts.specs.Dealing.{chunking_of}
use Rattle.run_walk.specs.Threads.{task_top}
use Rattle.run_parts.specs.Words.{nodes_of}
use Rattle.typed_tree.specs.Chained.{right_of, AreBelow}
use Rattle.run_walk.proofs.Chaining.{Stands}
use Rattle.run_walk.proofs.Passing.{actual_top}
use Rattle.run_walk.specs.Walk.{eval, pass, exec_all, while_loop, while_left, for_loop, for_left, run_values, fold_left, threads_folded, share_folded, combined_onto, threads_run, share_run, share_left}
use Rattle.run_walk.proofs.Measures.{per_call, per_node, per_stage, per_step}
use Rattle.run_walk.proofs.+walk.Given as goal

-- Calls first, then numbers of nodes, then the order in which functions that go by one node call each other.

abbrev pub decreases-exprs::eval_by_parts : goal.decreases-exprs::eval_by_parts
decreases-exprs::eval_by_parts g l = per_call * l.calls + per_node * l.id + 4 * per_step

abbrev pub decreases-exprs::eval : goal.decreases-exprs::eval
decreases-exprs::eval g l = per_call * l.calls + per_node * l.id + 8 * per_step

abbrev pub decreases-exprs::eval_else : goal.decreases-exprs::eval_else
decreases-exprs::eval_else g l = per_call * l.calls + per_node * l.id + 12 * per_step

abbrev pub decreases-names::select_by_parts : goal.decreases-names::select_by_parts
decreases-names::select_by_parts g l = per_call * l.calls + per_node * l.id + 4 * per_step

abbrev pub decreases-names::select : goal.decreases-names::select
decreases-names::select g l = per_call * l.calls + per_node * l.id + 8 * per_step

abbrev pub decreases-names::select_rest : goal.decreases-names::select_rest
decreases-names::select_rest g l = per_call * l.calls + per_node * l.id + 12 * per_step

abbrev pub decreases-exprs::holds : goal.decreases-exprs::holds
decreases-exprs::holds g l = per_call * l.calls + per_node * l.id + 12 * per_step

abbrev pub decreases-actuals::pass : goal.decreases-actuals::pass
decreases-actuals::pass g l = per_call * l.calls + per_node * l.id + 8 * per_step

abbrev pub decreases-actuals::evaluated : goal.decreases-actuals::evaluated
decreases-actuals::evaluated g l = per_call * l.calls + per_node * actual_top l.actual + 20 * per_step

abbrev pub decreases-actuals::passed_in : goal.decreases-actuals::passed_in
decreases-actuals::passed_in g l = per_call * l.calls + per_node * l.value + 16 * per_step

abbrev pub decreases-actuals::passed_in_out : goal.decreases-actuals::passed_in_out
decreases-actuals::passed_in_out g l = per_call * l.calls + per_node * l.selections + 16 * per_step

abbrev pub decreases-actuals::passed_out : goal.decreases-actuals::passed_out
decreases-actuals::passed_out g l = per_call * l.calls + per_node * l.selections + 16 * per_step

abbrev pub decreases-actuals::passed_whole : goal.decreases-actuals::passed_whole
decreases-actuals::passed_whole g l = per_call * l.calls + per_node * l.selections + 16 * per_step

abbrev pub decreases-values::cells : goal.decreases-values::cells
decreases-values::cells g l = per_call * l.calls + per_node * l.id + 8 * per_step

abbrev pub decreases-values::composite : goal.decreases-values::composite
decreases-values::composite g l = per_call * l.calls + per_node * l.id + 8 * per_step

abbrev pub decreases-values::composite_else : goal.decreases-values::composite_else
decreases-values::composite_else g l = per_call * l.calls + per_node * l.id + 12 * per_step

abbrev pub decreases-values::associated : goal.decreases-values::associated
decreases-values::associated g l = per_call * l.calls + per_node * l.id + 8 * per_step

abbrev pub decreases-values::associated_rest : goal.decreases-values::associated_rest
decreases-values::associated_rest g l = per_call * l.calls + per_node * l.id + 12 * per_step

abbrev pub decreases-courses::begin_course : goal.decreases-courses::begin_course
decreases-courses::begin_course g l = per_call * l.calls + per_node * l.id + 8 * per_step

abbrev pub decreases-courses::filtered : goal.decreases-courses::filtered
decreases-courses::filtered g l = per_call * l.calls + per_node * l.id + 8 * per_step

abbrev pub decreases-values::assigned : goal.decreases-values::assigned
decreases-values::assigned g l = per_call * l.calls + per_node * l.id + 8 * per_step

abbrev pub decreases-bodies::body : goal.decreases-bodies::body
decreases-bodies::body g l = per_call * l.calls + per_node * l.id + 25 * per_step

abbrev pub decreases-stmts::exec : goal.decreases-stmts::exec
decreases-stmts::exec g l = per_call * l.calls + per_node * l.id + 8 * per_step

abbrev pub decreases-stmts::exec_all : goal.decreases-stmts::exec_all
decreases-stmts::exec_all g l = per_call * l.calls + per_node * l.id + 8 * per_step

abbrev pub decreases-stmts::exec_else : goal.decreases-stmts::exec_else
decreases-stmts::exec_else g l = per_call * l.calls + per_node * l.id + 12 * per_step

abbrev pub decreases-exprs::variable : goal.decreases-exprs::variable
decreases-exprs::variable g l = per_call * l.calls + per_node * l.selections + 16 * per_step

abbrev pub decreases-exprs::constant : goal.decreases-exprs::constant
decreases-exprs::constant g l = per_call * l.calls + per_node * l.selections + 16 * per_step

abbrev pub decreases-exprs::unary : goal.decreases-exprs::unary
decreases-exprs::unary g l = per_call * l.calls + per_node * l.operand + 16 * per_step

abbrev pub decreases-exprs::relation : goal.decreases-exprs::relation
decreases-exprs::relation g l = per_call * l.calls + per_node * (max l.left l.right) + 16 * per_step

abbrev pub decreases-exprs::membership : goal.decreases-exprs::membership
decreases-exprs::membership g l = per_call * l.calls + per_node * (max l.value (max l.low l.high)) + 16 * per_step

abbrev pub decreases-exprs::conditional : goal.decreases-exprs::conditional
decreases-exprs::conditional g l = per_call * l.calls + per_node * (max l.condition (max l.value l.otherwise)) + 16 * per_step

abbrev pub decreases-exprs::converted : goal.decreases-exprs::converted
decreases-exprs::converted g l = per_call * l.calls + per_node * l.value + 16 * per_step

abbrev pub decreases-names::field : goal.decreases-names::field
decreases-names::field g l = per_call * l.calls + per_node * l.rest + 16 * per_step

abbrev pub decreases-names::index : goal.decreases-names::index
decreases-names::index g l = per_call * l.calls + per_node * (max l.value l.rest) + 16 * per_step

abbrev pub decreases-exprs::call_function : goal.decreases-exprs::call_function
decreases-exprs::call_function g l = per_call * l.calls + per_node * l.actuals + 16 * per_step

abbrev pub decreases-values::number : goal.decreases-values::number
decreases-values::number g l = per_call * l.calls + per_node * l.value + 16 * per_step

abbrev pub decreases-values::whole_variable : goal.decreases-values::whole_variable
decreases-values::whole_variable g l = per_call * l.calls + per_node * l.selections + 16 * per_step

abbrev pub decreases-values::whole_constant : goal.decreases-values::whole_constant
decreases-values::whole_constant g l = per_call * l.calls + per_node * l.selections + 16 * per_step

abbrev pub decreases-values::composite_if : goal.decreases-values::composite_if
decreases-values::composite_if g l = per_call * l.calls + per_node * (max l.condition (max l.value l.otherwise)) + 16 * per_step

abbrev pub decreases-values::assign : goal.decreases-values::assign
decreases-values::assign g l = per_call * l.calls + per_node * (max l.selections l.value) + 16 * per_step

abbrev pub decreases-values::run_values : goal.decreases-values::run_values
decreases-values::run_values g l = per_call * l.calls + per_node * l.each.value + 12 * per_step

abbrev pub decreases-values::given : goal.decreases-values::given
decreases-values::given g l = per_call * l.calls + per_node * l.each.value + 10 * per_step

abbrev pub decreases-values::placed_value : goal.decreases-values::placed_value
decreases-values::placed_value g l = per_call * l.calls + per_node * l.each.value + 9 * per_step

abbrev pub decreases-values::runs_values : goal.decreases-values::runs_values
decreases-values::runs_values g l = per_call * l.calls + per_node * l.each.value + 13 * per_step + 2 * l.runs

abbrev pub decreases-values::association_values : goal.decreases-values::association_values
decreases-values::association_values g l = per_call * l.calls + per_node * l.association.value + 14 * per_step + 2 * l.association.runs

abbrev pub decreases-values::runs_rest : goal.decreases-values::runs_rest
decreases-values::runs_rest g l = per_call * l.calls + per_node * l.each.value + 13 * per_step + 2 * l.runs + 1

abbrev pub decreases-bodies::block : goal.decreases-bodies::block
decreases-bodies::block g l = per_call * l.calls + per_node * (max l.decls (max l.stmts l.handlers)) + 20 * per_step + 2 * l.decls

abbrev pub decreases-bodies::block_rest : goal.decreases-bodies::block_rest
decreases-bodies::block_rest g l = per_call * l.calls + per_node * (max l.decls (max l.stmts l.handlers)) + 20 * per_step + 2 * l.decls + 1

abbrev pub decreases-bodies::guarded : goal.decreases-bodies::guarded
decreases-bodies::guarded g l = per_call * l.calls + per_node * (max l.stmts l.handlers) + 16 * per_step

abbrev pub decreases-stmts::call_procedure : goal.decreases-stmts::call_procedure
decreases-stmts::call_procedure g l = per_call * l.calls + per_node * l.actuals + 16 * per_step

abbrev pub decreases-stmts::exit_when : goal.decreases-stmts::exit_when
decreases-stmts::exit_when g l = per_call * l.calls + per_node * l.condition + 16 * per_step

abbrev pub decreases-stmts::return_value : goal.decreases-stmts::return_value
decreases-stmts::return_value g l = per_call * l.calls + per_node * l.value + 16 * per_step

abbrev pub decreases-stmts::branch : goal.decreases-stmts::branch
decreases-stmts::branch g l = per_call * l.calls + per_node * (max l.condition (max l.stmts l.otherwise)) + 16 * per_step

abbrev pub decreases-stmts::chosen : goal.decreases-stmts::chosen
decreases-stmts::chosen g l = per_call * l.calls + per_node * (max l.value l.alternatives) + 16 * per_step

abbrev pub decreases-loops::while_stmt : goal.decreases-loops::while_stmt
decreases-loops::while_stmt g l = per_call * l.calls + per_node * (max l.condition l.stmts) + 20 * per_step

abbrev pub decreases-loops::while_loop : goal.decreases-loops::while_loop
decreases-loops::while_loop g l = per_call * l.calls + per_node * (max l.condition l.stmts) + 16 * per_step

abbrev pub decreases-loops::for_stmt : goal.decreases-loops::for_stmt
decreases-loops::for_stmt g l = per_call * l.calls + per_node * (max l.iteration l.stmts) + 22 * per_step

abbrev pub decreases-loops::for_loop : goal.decreases-loops::for_loop
decreases-loops::for_loop g l = per_call * l.calls + per_node * (max l.iteration l.stmts) + 20 * per_step

abbrev pub decreases-loops::iterate : goal.decreases-loops::iterate
decreases-loops::iterate g l = per_call * l.calls + per_node * (max l.iteration l.stmts) + 16 * per_step

abbrev pub decreases-calls::call : goal.decreases-calls::call
decreases-calls::call g l = per_call * l.calls

abbrev pub decreases-calls::called : goal.decreases-calls::called
decreases-calls::called g l = per_call * l.calls + 515 * per_stage

abbrev pub decreases-calls::with_formals : goal.decreases-calls::with_formals
decreases-calls::with_formals g l = per_call * l.calls + 514 * per_stage + length l.rest.now

abbrev pub decreases-calls::carried_out : goal.decreases-calls::carried_out
decreases-calls::carried_out g l = per_call * l.calls + 513 * per_stage

abbrev pub decreases-scalars::call_scalars : goal.decreases-scalars::call_scalars
decreases-scalars::call_scalars g l = per_call * l.calls

abbrev pub decreases-scalars::called : goal.decreases-scalars::called
decreases-scalars::called g l = per_call * l.calls + 515 * per_stage

abbrev pub decreases-scalars::with_scalars : goal.decreases-scalars::with_scalars
decreases-scalars::with_scalars g l = per_call * l.calls + 514 * per_stage + length l.rest.now

abbrev pub decreases-calls::function_value : goal.decreases-calls::function_value
decreases-calls::function_value g l = per_call * l.calls + 512 * per_stage

-- ---- loops: the whole goes on as what is left

abbrev pub invariant-stmts::exec_all-loop-cell : goal.invariant-stmts::exec_all-loop-cell
invariant-stmts::exec_all-loop-cell g l = record {
  below : l.at ≤ l.id;
  on : Goes g.P.Port.Tells (exec_all l.work l.calls (stmts_at (nodes_of l.work) l.id) (env_of l.env)) l.fn.store (exec_all l.work l.calls (stmts_at (nodes_of l.work) l.at) (env_of l.env)) l.store;
}

abbrev pub decreases-stmts::exec_all-loop-cell : goal.decreases-stmts::exec_all-loop-cell
decreases-stmts::exec_all-loop-cell g l = l.at

abbrev pub invariant-actuals::pass-loop-cell : goal.invariant-actuals::pass-loop-cell
invariant-actuals::pass-loop-cell g l = record {
  below : l.at ≤ l.id;
  on : Goes g.P.Port.Tells (pass l.work l.calls (actuals_at (nodes_of l.work) l.id) (env_of l.env) (passed_list l.work l.fn.passed)) l.fn.store (pass l.work l.calls (actuals_at (nodes_of l.work) l.at) (env_of l.env) (passed_list l.work l.all)) l.store;
}

abbrev pub decreases-actuals::pass-loop-cell : goal.decreases-actuals::pass-loop-cell
decreases-actuals::pass-loop-cell g l = l.at

abbrev pub invariant-loops::while_loop-loop-turn : goal.invariant-loops::while_loop-loop-turn
invariant-loops::while_loop-loop-turn g l =
    Goes g.P.Port.Tells (while_loop l.work l.calls (optional_at (nodes_of l.work) l.condition) (stmts_at (nodes_of l.work) l.stmts) (env_of l.env)) l.fn.store (while_left l.work l.calls (suc l.work.limit - l.turn) (optional_at (nodes_of l.work) l.condition) (stmts_at (nodes_of l.work) l.stmts) (env_of l.env)) l.store

abbrev pub invariant-loops::for_loop-loop-i : goal.invariant-loops::for_loop-loop-i
invariant-loops::for_loop-loop-i g l = record {
  counted : (course_of l.course).count ≡ l.last + 1;
  on : Goes g.P.Port.Tells (for_loop l.work l.calls (course_of l.course) (iteration_at (nodes_of l.work) l.iteration) (stmts_at (nodes_of l.work) l.stmts) (env_of l.env)) l.fn.store
      (for_left l.work l.calls l.i ((course_of l.course).count - l.i) (course_of l.course) (iteration_at (nodes_of l.work) l.iteration) (stmts_at (nodes_of l.work) l.stmts) (env_of l.env)) l.store;
}

abbrev pub invariant-values::run_values-loop-k : goal.invariant-values::run_values-loop-k
invariant-values::run_values-loop-k g l =
    Goes g.P.Port.Tells (run_values l.work l.calls 0 l.run.count l.run.first l.run.stride l.each.turns l.each.iterated (value_at (nodes_of l.work) l.each.value) (env_of l.env) l.fn.out) l.fn.store
    (run_values l.work l.calls l.k (l.run.count - l.k) l.first l.run.stride l.each.turns l.each.iterated (value_at (nodes_of l.work) l.each.value) (env_of l.env) l.cells) l.store

-- ---- output and input

abbrev pub decreases-texts::put : goal.decreases-texts::put
decreases-texts::put g l = per_call * l.calls + per_node * l.pieces + 16 * per_step

abbrev pub decreases-texts::written : goal.decreases-texts::written
decreases-texts::written g l = per_call * l.calls + per_node * l.id + 8 * per_step

abbrev pub decreases-texts::written_rest : goal.decreases-texts::written_rest
decreases-texts::written_rest g l = per_call * l.calls + per_node * l.id + 12 * per_step

abbrev pub decreases-texts::text : goal.decreases-texts::text
decreases-texts::text g l = per_call * l.calls + per_node * l.rest + 16 * per_step

abbrev pub decreases-texts::image : goal.decreases-texts::image
decreases-texts::image g l = per_call * l.calls + per_node * (max l.value l.rest) + 16 * per_step

abbrev pub decreases-texts::field : goal.decreases-texts::field
decreases-texts::field g l = per_call * l.calls + per_node * (max l.value (max l.width l.rest)) + 16 * per_step

abbrev pub decreases-texts::get : goal.decreases-texts::get
decreases-texts::get g l = per_call * l.calls + per_node * l.selections + 16 * per_step

-- ---- reductions

abbrev pub decreases-folds::reduction : goal.decreases-folds::reduction
decreases-folds::reduction g l = per_call * l.calls + per_node * (max l.initial (max l.by.iteration l.by.value)) + 22 * per_step

abbrev pub decreases-folds::fold_all : goal.decreases-folds::fold_all
decreases-folds::fold_all g l = per_call * l.calls + per_node * (max l.by.iteration l.by.value) + 21 * per_step

abbrev pub decreases-folds::fold_iterations : goal.decreases-folds::fold_iterations
decreases-folds::fold_iterations g l = per_call * l.calls + per_node * (max l.by.iteration l.by.value) + 20 * per_step

abbrev pub decreases-folds::fold_one : goal.decreases-folds::fold_one
decreases-folds::fold_one g l = per_call * l.calls + per_node * (max l.by.iteration l.by.value) + 18 * per_step

abbrev pub decreases-folds::iterated_value : goal.decreases-folds::iterated_value
decreases-folds::iterated_value g l = per_call * l.calls + per_node * (max l.by.iteration l.by.value) + 16 * per_step

abbrev pub decreases-folds::reduced : goal.decreases-folds::reduced
decreases-folds::reduced g l = per_call * l.calls + 4 * per_step

abbrev pub decreases-folds::parallel_reduction : goal.decreases-folds::parallel_reduction
decreases-folds::parallel_reduction g l = per_call * l.calls + per_node * (max l.initial (max l.chunk (max l.by.iteration l.by.value))) + 29 * per_step

abbrev pub decreases-folds::chunked_fold : goal.decreases-folds::chunked_fold
decreases-folds::chunked_fold g l = per_call * l.calls + per_node * (max l.by.iteration l.by.value) + 28 * per_step

abbrev pub decreases-folds::dealt_fold : goal.decreases-folds::dealt_fold
decreases-folds::dealt_fold g l = per_call * l.calls + per_node * (max l.by.iteration l.by.value) + 27 * per_step

abbrev pub decreases-folds::fold_threads : goal.decreases-folds::fold_threads
decreases-folds::fold_threads g l = per_call * l.calls + per_node * (max l.by.iteration l.by.value) + 26 * per_step

abbrev pub decreases-folds::fold_thread : goal.decreases-folds::fold_thread
decreases-folds::fold_thread g l = per_call * l.calls + per_node * (max l.by.iteration l.by.value) + 25 * per_step

abbrev pub decreases-folds::fold_share : goal.decreases-folds::fold_share
decreases-folds::fold_share g l = per_call * l.calls + per_node * (max l.by.iteration l.by.value) + 24 * per_step

abbrev pub decreases-folds::combined : goal.decreases-folds::combined
decreases-folds::combined g l = per_call * l.calls + 6 * per_step

abbrev pub decreases-folds::combined_onto : goal.decreases-folds::combined_onto
decreases-folds::combined_onto g l = per_call * l.calls + 5 * per_step

abbrev pub decreases-folds::reduced_by_call : goal.decreases-folds::reduced_by_call
decreases-folds::reduced_by_call g l = per_call * l.calls + 2 * per_step

abbrev pub decreases-folds::combined_by_call : goal.decreases-folds::combined_by_call
decreases-folds::combined_by_call g l = per_call * l.calls + 2 * per_step

abbrev pub decreases-folds::combined_two : goal.decreases-folds::combined_two
decreases-folds::combined_two g l = per_call * l.calls + 4 * per_step

abbrev pub decreases-calls::call_checked : goal.decreases-calls::call_checked
decreases-calls::call_checked g l = per_call * l.calls

abbrev pub invariant-folds::fold_iterations-loop-i : goal.invariant-folds::fold_iterations-loop-i
invariant-folds::fold_iterations-loop-i g l =
    Goes g.P.Port.Tells (fold_left l.work l.calls l.by l.first (suc l.last - l.first) (course_of l.course) l.start (env_of l.env)) l.fn.store
    (fold_left l.work l.calls l.by l.i (suc l.last - l.i) (course_of l.course) l.total (env_of l.env)) l.store

abbrev pub invariant-folds::fold_threads-loop-size : goal.invariant-folds::fold_threads-loop-size
invariant-folds::fold_threads-loop-size g l =
    Goes g.P.Port.Tells (threads_folded l.work l.calls l.by (chunking_of l.chunking) (course_of l.course) l.start l.sizes (env_of l.env)) l.fn.store
    (threads after_all (share_folded l.work l.calls l.by (chunking_of l.chunking) (course_of l.course) l.start (env_of l.env)) l.from (deal l.k l.first (drop l.k l.sizes)) l.most l.over l.values) l.store

abbrev pub decreases-folds::fold_threads-loop-size : goal.decreases-folds::fold_threads-loop-size
decreases-folds::fold_threads-loop-size g l = length l.sizes - l.k

abbrev pub invariant-folds::combined_onto-loop-value : goal.invariant-folds::combined_onto-loop-value
invariant-folds::combined_onto-loop-value g l =
    Goes g.P.Port.Tells (combined_onto l.work l.calls l.by l.nested l.fn.first l.values) l.fn.store
    (combined_onto l.work l.calls l.by l.nested l.total (drop l.k l.values)) l.store

abbrev pub decreases-folds::combined_onto-loop-value : goal.decreases-folds::combined_onto-loop-value
decreases-folds::combined_onto-loop-value g l = length l.values - l.k

-- ---- parallel loops and blocks

abbrev pub decreases-constructs::parallel_for : goal.decreases-constructs::parallel_for
decreases-constructs::parallel_for g l = per_call * l.calls + per_node * (max l.chunk (max l.iteration l.stmts)) + 29 * per_step

abbrev pub decreases-constructs::chunked_loop : goal.decreases-constructs::chunked_loop
decreases-constructs::chunked_loop g l = per_call * l.calls + per_node * (max l.iteration l.stmts) + 28 * per_step

abbrev pub decreases-constructs::dealt_loop : goal.decreases-constructs::dealt_loop
decreases-constructs::dealt_loop g l = per_call * l.calls + per_node * (max l.iteration l.stmts) + 27 * per_step

abbrev pub decreases-constructs::parallel_block : goal.decreases-constructs::parallel_block
decreases-constructs::parallel_block g l = per_call * l.calls + per_node * (max l.count l.arms) + 29 * per_step

abbrev pub decreases-constructs::dealt_arms : goal.decreases-constructs::dealt_arms
decreases-constructs::dealt_arms g l = per_call * l.calls + per_node * l.arms + 27 * per_step

abbrev pub decreases-constructs::threads_of : goal.decreases-constructs::threads_of
decreases-constructs::threads_of g l = per_call * l.calls + per_node * l.id + 12 * per_step

abbrev pub decreases-constructs::begin_chunks : goal.decreases-constructs::begin_chunks
decreases-constructs::begin_chunks g l = per_call * l.calls + per_node * l.id + 8 * per_step

abbrev pub decreases-constructs::run_threads : goal.decreases-constructs::run_threads
decreases-constructs::run_threads g l = per_call * l.calls + per_node * task_top l.task + 26 * per_step

abbrev pub decreases-constructs::run_thread : goal.decreases-constructs::run_thread
decreases-constructs::run_thread g l = per_call * l.calls + per_node * task_top l.task + 25 * per_step

abbrev pub decreases-constructs::run_share : goal.decreases-constructs::run_share
decreases-constructs::run_share g l = per_call * l.calls + per_node * task_top l.task + 24 * per_step

abbrev pub decreases-constructs::run_turn : goal.decreases-constructs::run_turn
decreases-constructs::run_turn g l = per_call * l.calls + per_node * task_top l.task + 23 * per_step

abbrev pub invariant-constructs::run_threads-loop-size : goal.invariant-constructs::run_threads-loop-size
invariant-constructs::run_threads-loop-size g l =
    Goes g.P.Port.Tells (threads_run l.work l.calls l.task l.sizes (env_of l.env)) l.fn.store
    (threads first_of_both (share_run l.work l.calls l.task (env_of l.env)) l.from (deal l.k l.first (drop l.k l.sizes)) l.most l.over tt) l.store

abbrev pub decreases-constructs::run_threads-loop-size : goal.decreases-constructs::run_threads-loop-size
decreases-constructs::run_threads-loop-size g l = length l.sizes - l.k

abbrev pub invariant-constructs::run_share-loop-i : goal.invariant-constructs::run_share-loop-i
invariant-constructs::run_share-loop-i g l =
    Goes g.P.Port.Tells (share_run l.work l.calls l.task (env_of l.env) (record { number = l.number; first = l.first; size = l.size })) l.fn.store
    (share_left l.work l.calls l.task l.number l.i (l.last - l.i) (env_of l.env)) l.store

-- ---- operators

abbrev pub decreases-chains::operators : goal.decreases-chains::operators
decreases-chains::operators g l = per_call * l.calls + per_node * (max l.left (right_of l.last)) + 16 * per_step

abbrev pub decreases-chains::operator : goal.decreases-chains::operator
decreases-chains::operator g l = per_call * l.calls + per_node * right_of l.link + 12 * per_step

abbrev pub decreases-chains::operand : goal.decreases-chains::operand
decreases-chains::operand g l = per_call * l.calls + per_node * l.id + 12 * per_step

abbrev pub decreases-chains::chain : goal.decreases-chains::chain
decreases-chains::chain g l = per_call * l.calls + per_node * l.id + 10 * per_step

abbrev pub invariant-chains::chain-loop-link : goal.invariant-chains::chain-loop-link
invariant-chains::chain-loop-link g l = record {
  below : AreBelow l.id l.links;
  on : Stands g.P.Port.Tells l.work l.calls (env_of l.env) (eval l.work l.calls (expr_at (nodes_of l.work) l.id) (env_of l.env)) l.fn.store l.links l.value l.store;
}

abbrev pub decreases-chains::chain-loop-link : goal.decreases-chains::chain-loop-link
decreases-chains::chain-loop-link g l = length l.links
