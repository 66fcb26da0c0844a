use Rattle.std.proofs.Common.{rules, arith, ap, ◌||◌, true, false, ◌≡◌, suc, ◌-◌, ◌+◌, ◌<◌, ◌≤◌, [], subst, sym, refl, Ok, Err, ◌∙◌, to_z, of_z, w64}
use Rattle.typed_tree.specs.Decoded.{reducer_at, stmts_at, stmt_at, optional_at, iteration_at, value_at, decls_at, handlers_at, body_at, expr_at, alternatives_at, arms_at, chunk_at, actuals_at, selections_at}
use Rattle.typed_tree.specs.Programs.{sub_of}
use Rattle.behaviours.specs.Paths as paths
use Rattle.run_store.specs.Environment.{env_of, part_of}
use Rattle.run_values.specs.declared.ends.End.TheVariants as end
use Rattle.run_store.specs.Shows.{Shows, ShowsAs, region_of}
use Rattle.run_parts.specs.Passing.{course_of, passed_list, returned_of}
use Rattle.run_parts.specs.Given.{in_list, value_returned}
use Rattle.run_parts.specs.Reducing.{both_checked}
use Rattle.run_parts.specs.Dealing.{chunking_of}
use Rattle.ada_meaning.specs.Stored.{first_of_both, after_all, ret}
use Rattle.run_parts.specs.Caught.{caught}
use Rattle.run_parts.proofs.Stepping.{next_fails}
use Rattle.run_store.proofs.Going.{then_shows, goes_refl}
use Rattle.run_parts.specs.Words.{nodes_of, calls_of}
use Rattle.run_walk.specs.Walk.{pass, combined, chunked_fold, dealt_fold, reduced_by_call, combined_by_call, fold_one, exec_all, while_loop, for_loop, course, in_loop, run_values, eval, fold_left, combined_onto, threads_run, share_run, threads_folded, share_folded}
use Rattle.run_walk.proofs.Looping.{while_begins, run_begins, all_step, all_ends, all_done, while_test_ends, while_stops, while_turn_ends, while_body_ends, while_step, while_spent, for_step, for_ends, for_done, for_begins, run_step, run_ends, run_done}
use Rattle.run_walk.proofs.Scoping.{body_as, call_ends, call_step, called_more, called_fails, formals_none, formals_more, formals_fails, default_more, default_fails, variable_ends, variable_more, variable_fails, constant_ends, constant_more, constant_fails}
use Rattle.run_walk.proofs.Handling.{caught_shows, chosen_some, chosen_none, guarded_other, guarded_some, guarded_none, alternative_some, alternative_none}
use Rattle.run_walk.proofs.Folding.{folds_begin, gives_as, onto_as, share_folded_as, threads_folded_as, fold_one_on, fold_one_stops, fold_one_fails, fold_step, fold_ends, fold_done, fold_none, fold_as, fold_fails, fold_share_none, fold_share_on, fold_share_ends, onto_step, onto_ends, onto_done}
use Rattle.typed_tree.specs.Chained.{right_of}
use Rattle.run_walk.proofs.Chaining.{operated, stands_begins, first_ends, stands_step, stands_ends, stands_done, all_below, last_below}
use Rattle.run_walk.proofs.Forms.{index_as, index_on, index_ends, range_holds, number_returns, number_gives, number_ends, get_on, get_ends, get_not, get_shows}
use Rattle.run_walk.proofs.Passing.{pass_step, pass_ends, pass_fails, one_more, pass_done, number_in}
use Rattle.run_walk.proofs.Giving.{scalars_none, scalars_more, scalars_fail, same_value, procedure_given}
use Rattle.run_walk.proofs.Threading.{thread_gives, thread_spent, thread_left, threads_more, threads_end, threads_fail, threads_joined, threads_spent, spent_as, gathered_none}
use Rattle.run_walk.proofs.Dealing.{threads_on, threads_ends, count_on, count_ends, loops_begin, each_on, each_ends, dealt_loop_shows, dealt_arms_shows, dealt_arms_ends, parallel_for_ends, parallel_for_on, parallel_for_stops, parallel_block_ends, parallel_block_on, parallel_block_stops, chunked_loop_on, chunked_loop_stops, chunked_loop_many, turn_none, turn_some, turn_ends, reduction_shows, parallel_reduction_shows, parallel_reduction_ends, parallel_reduction_on, parallel_reduction_stops, chunked_fold_on, chunked_fold_stops, chunked_fold_many, chunked_fold_ends, dealt_fold_ends, dealt_fold_on, dealt_fold_stops, share_begins, share_step, share_ends, share_done}
use Rattle.run_walk.specs.declared.constructs.Task.TheVariants as task
use Rattle.run_walk.specs.Threads.{took_of, folded_of}
use Rattle.run_walk.proofs.Reducing.{reduced_operator, combined_operator, passed_as, reduced_shows, combined_shows, checked_ends, checked_step, checked_stops, checked_not, reduced_on, reduced_ends, reduced_not, combined_on, combined_ends}
use Rattle.run_walk.proofs.+walk.Goals as goal

pub stmts::exec_all-returns-in_err-exec : goal.stmts::exec_all-returns-in_err-exec
stmts::exec_all-returns-in_err-exec g t c = all_ends (exec_all c.args.work.now c.args.calls (stmts_at (nodes_of c.args.work.now) c.args.id) (env_of c.args.env.now)) c.args.store.now c.loop-cell.store c.exec.new.store c.args.work.now c.args.calls (env_of c.args.env.now) (stmts_at (nodes_of c.args.work.now) c.loop-cell.at) (stmt_at (nodes_of c.args.work.now) c.in-Some.cell.first) (stmts_at (nodes_of c.args.work.now) c.in-Some.cell.rest) (search rules) c.loop-cell.invariant.on c.in_err-exec.field-0.0 _ (search rules) c.in_err-exec.ensures

pub stmts::exec_all-loop-cell-preserved : goal.stmts::exec_all-loop-cell-preserved
stmts::exec_all-loop-cell-preserved g t c = record { below = omega (arith, c.in-Some.ensures.below.1); on = all_step (exec_all c.args.work.now c.args.calls (stmts_at (nodes_of c.args.work.now) c.args.id) (env_of c.args.env.now)) c.args.store.now c.loop-cell.store c.exec.new.store c.args.work.now c.args.calls (env_of c.args.env.now) (stmts_at (nodes_of c.args.work.now) c.loop-cell.at) (stmt_at (nodes_of c.args.work.now) c.in-Some.cell.first) (stmts_at (nodes_of c.args.work.now) c.in-Some.cell.rest) (search rules) c.loop-cell.invariant.on c.in_ok-exec.ensures }

pub stmts::exec_all-returns : goal.stmts::exec_all-returns
stmts::exec_all-returns g t c = all_done (exec_all c.args.work.now c.args.calls (stmts_at (nodes_of c.args.work.now) c.args.id) (env_of c.args.env.now)) c.args.store.now c.loop-cell.store c.args.work.now c.args.calls (env_of c.args.env.now) (stmts_at (nodes_of c.args.work.now) c.loop-cell.at) (search rules) c.loop-cell.invariant.on

pub actuals::pass-returns-in_err-one : goal.actuals::pass-returns-in_err-one
actuals::pass-returns-in_err-one g t c = pass_ends (pass c.args.work.now c.args.calls (actuals_at (nodes_of c.args.work.now) c.args.id) (env_of c.args.env.now) (passed_list c.args.work.now c.args.passed)) c.args.store.now c.loop-cell.store c.args.work.now c.args.calls (env_of c.args.env.now) (passed_list c.args.work.now c.loop-cell.all) (actuals_at (nodes_of c.args.work.now) c.loop-cell.at) (actuals_at (nodes_of c.args.work.now) c.in-Some.cell.rest) c.loop-cell.invariant.on c.in-Some-actual.actual (c.in-Some.ensures.is ∙ ap (λ f. f (actuals_at (nodes_of c.args.work.now) c.in-Some.cell.rest)) c.in-Some-actual.ensures.is) c.evaluated.new.store c.in_err-one.field-0.0 _ (search rules) c.in_err-one.ensures

pub actuals::pass-returns-in-Err : goal.actuals::pass-returns-in-Err
actuals::pass-returns-in-Err g t c = pass_fails (pass c.args.work.now c.args.calls (actuals_at (nodes_of c.args.work.now) c.args.id) (env_of c.args.env.now) (passed_list c.args.work.now c.args.passed)) c.args.store.now c.loop-cell.store c.args.work.now c.args.calls (env_of c.args.env.now) (passed_list c.args.work.now c.loop-cell.all) (actuals_at (nodes_of c.args.work.now) c.loop-cell.at) (actuals_at (nodes_of c.args.work.now) c.in-Some.cell.rest) c.loop-cell.invariant.on c.in-Some-actual.actual (c.in-Some.ensures.is ∙ ap (λ f. f (actuals_at (nodes_of c.args.work.now) c.in-Some.cell.rest)) c.in-Some-actual.ensures.is) c.evaluated.new.store c.in_ok-one.one c.in_ok-one.ensures

pub actuals::pass-loop-cell-preserved-in-Ok : goal.actuals::pass-loop-cell-preserved-in-Ok
actuals::pass-loop-cell-preserved-in-Ok g t c = record { below = omega (arith, c.in-Some.ensures.below.1); on = pass_step (pass c.args.work.now c.args.calls (actuals_at (nodes_of c.args.work.now) c.args.id) (env_of c.args.env.now) (passed_list c.args.work.now c.args.passed)) c.args.store.now c.loop-cell.store c.args.work.now c.args.calls (env_of c.args.env.now) (passed_list c.args.work.now c.loop-cell.all) (actuals_at (nodes_of c.args.work.now) c.loop-cell.at) (actuals_at (nodes_of c.args.work.now) c.in-Some.cell.rest) c.loop-cell.invariant.on c.in-Some-actual.actual (c.in-Some.ensures.is ∙ ap (λ f. f (actuals_at (nodes_of c.args.work.now) c.in-Some.cell.rest)) c.in-Some-actual.ensures.is) c.evaluated.new.store c.in_ok-one.one (passed_list c.args.work.now c.push.new.self) c.in_ok-one.ensures (one_more c.args.work.now c.loop-cell.all c.push.new.self c.in_ok-one.one c.in-Ok.ensures.ok) }

pub actuals::pass-returns : goal.actuals::pass-returns
actuals::pass-returns g t c = pass_done (pass c.args.work.now c.args.calls (actuals_at (nodes_of c.args.work.now) c.args.id) (env_of c.args.env.now) (passed_list c.args.work.now c.args.passed)) c.args.store.now c.loop-cell.store c.args.work.now c.args.calls (env_of c.args.env.now) c.loop-cell.all (actuals_at (nodes_of c.args.work.now) c.loop-cell.at) (search rules) c.loop-cell.invariant.on

pub actuals::passed_in-returns-then-is_in : goal.actuals::passed_in-returns-then-is_in
actuals::passed_in-returns-then-is_in g t c = number_in c.args.work.now c.args.calls (env_of c.args.env.now) c.args.formal c.in-Some-Number.check (expr_at (nodes_of c.args.work.now) c.in-Some-Number.value) (value_at (nodes_of c.args.work.now) c.args.value) c.in_ok-x-in-Some-Number.x (to_z w64 (of_z w64 c.in_ok-x-in-Some-Number.x)) c.one.result c.args.store.now c.eval.new.store c.in_ok-x-in-Some-Number.ensures (search rules) (search rules) c.one.ensures (search rules)

pub calls::called-returns-in_ok-before-in-Some : goal.calls::called-returns-in_ok-before-in-Some
calls::called-returns-in_ok-before-in-Some g t c = rw c.leave.ensures (called_more returned_of c.args.work.now c.args.calls c.args.number c.args.nested (passed_list c.args.work.now c.args.passed.now) (sub_of (nodes_of c.args.work.now) c.in-Some.sub) (search rules) c.in_ok-before-in-Some.before c.with_formals-result.result c.args.store.now c.enter.new.self c.with_formals-result.new.store c.in_ok-before-in-Some.ensures c.with_formals-result.ensures)

pub calls::with_formals-returns-in_ok-mark-in-Some : goal.calls::with_formals-returns-in_ok-mark-in-Some
calls::with_formals-returns-in_ok-mark-in-Some g t c = rw c.end.ensures (formals_more c.args.work.now c.args.calls c.args.nested (sub_of (nodes_of c.args.work.now) c.args.sub) (passed_list c.args.work.now c.args.all.now) c.in-Some.first.now c.in-Some.others.now c.args.rest.now (search rules) c.in_ok-mark-in-Some.mark c.with_formals-result.result c.args.store.now c.begin.new.self c.with_formals-result.new.store (rw c.as_slice.ensures at c.in_ok-mark-in-Some.ensures) c.with_formals-result.ensures)

pub bodies::block-returns-in_ok-mark-in-Some-Default : goal.bodies::block-returns-in_ok-mark-in-Some-Default
bodies::block-returns-in_ok-mark-in-Some-Default g t c = rw c.end.ensures (default_more c.args.work.now c.args.calls (region_of c.args.region) (stmts_at (nodes_of c.args.work.now) c.args.stmts) (handlers_at (nodes_of c.args.work.now) c.args.handlers) (env_of c.args.env.now) (decls_at (nodes_of c.args.work.now) c.args.decls) (decls_at (nodes_of c.args.work.now) c.in-Some.cell.rest) c.in-Some-Default.object (search rules) c.in_ok-values-in-Some-Default.values c.in_ok-values-in-Some-Default.ensures c.in_ok-mark-in-Some-Default.mark c.block-result.result c.args.store.now c.begin.new.self c.block-result.new.store (rw c.as_slice.ensures at c.in_ok-mark-in-Some-Default.ensures) c.block-result.ensures)

pub bodies::block-returns-in_ok-mark-in-Some-Variable : goal.bodies::block-returns-in_ok-mark-in-Some-Variable
bodies::block-returns-in_ok-mark-in-Some-Variable g t c = rw c.end-in-Some-Variable.ensures (variable_more c.args.work.now c.args.calls (region_of c.args.region) (stmts_at (nodes_of c.args.work.now) c.args.stmts) (handlers_at (nodes_of c.args.work.now) c.args.handlers) (env_of c.args.env.now) (decls_at (nodes_of c.args.work.now) c.args.decls) (decls_at (nodes_of c.args.work.now) c.in-Some.cell.rest) c.in-Some-Variable.object (value_at (nodes_of c.args.work.now) c.in-Some-Variable.initial) (search rules) c.in_ok-values-in-Some-Variable.values c.in_ok-mark-in-Some-Variable.mark c.block-result-in-Some-Variable.result c.args.store.now c.cells.new.store c.begin-in-Some-Variable.new.self c.block-result-in-Some-Variable.new.store c.in_ok-values-in-Some-Variable.ensures (rw c.as_slice-in-Some-Variable.ensures at c.in_ok-mark-in-Some-Variable.ensures) c.block-result-in-Some-Variable.ensures)

pub bodies::block-returns-in_ok-mark-in-Some-Constant : goal.bodies::block-returns-in_ok-mark-in-Some-Constant
bodies::block-returns-in_ok-mark-in-Some-Constant g t c = rw c.end-in-Some-Constant.ensures (constant_more c.args.work.now c.args.calls (region_of c.args.region) (stmts_at (nodes_of c.args.work.now) c.args.stmts) (handlers_at (nodes_of c.args.work.now) c.args.handlers) (env_of c.args.env.now) (decls_at (nodes_of c.args.work.now) c.args.decls) (decls_at (nodes_of c.args.work.now) c.in-Some.cell.rest) c.in-Some-Constant.object (value_at (nodes_of c.args.work.now) c.in-Some-Constant.initial) (search rules) c.in_ok-values-in-Some-Constant.values c.in_ok-mark-in-Some-Constant.mark c.block-result-in-Some-Constant.result c.args.store.now c.cells-in-Some-Constant.new.store c.begin-in-Some-Constant.new.self c.block-result-in-Some-Constant.new.store c.in_ok-values-in-Some-Constant.ensures (rw c.as_slice-in-Some-Constant.ensures at c.in_ok-mark-in-Some-Constant.ensures) c.block-result-in-Some-Constant.ensures)

pub bodies::body-returns-in_err-block-in-Some : goal.bodies::body-returns-in_err-block-in-Some
bodies::body-returns-in_err-block-in-Some g t c = body_as c.args.work.now c.args.calls (body_at (nodes_of c.args.work.now) c.args.id) (decls_at (nodes_of c.args.work.now) c.in-Some.parts.decls) (stmts_at (nodes_of c.args.work.now) c.in-Some.parts.stmts) (handlers_at (nodes_of c.args.work.now) c.in-Some.parts.handlers) (region_of c.args.region) (env_of c.args.env.now) c.from_residual.result c.args.store.now c.block.new.store (search rules) (search rules)

pub bodies::body-returns-in_ok-block-in-Some : goal.bodies::body-returns-in_ok-block-in-Some
bodies::body-returns-in_ok-block-in-Some g t c = body_as c.args.work.now c.args.calls (body_at (nodes_of c.args.work.now) c.args.id) (decls_at (nodes_of c.args.work.now) c.in-Some.parts.decls) (stmts_at (nodes_of c.args.work.now) c.in-Some.parts.stmts) (handlers_at (nodes_of c.args.work.now) c.in-Some.parts.handlers) (region_of c.args.region) (env_of c.args.env.now) (Ok tt) c.args.store.now c.block.new.store (search rules) (search rules)

pub bodies::guarded-returns-in-None : goal.bodies::guarded-returns-in-None
bodies::guarded-returns-in-None g t c = guarded_none c.args.work.now c.args.calls (stmts_at (nodes_of c.args.work.now) c.args.stmts) (handlers_at (nodes_of c.args.work.now) c.args.handlers) (env_of c.args.env.now) c.args.store.now c.exec_all.new.store c.in-Err-Left-Raises.reason (search rules) (search rules)

pub bodies::guarded-returns-in-Some : goal.bodies::guarded-returns-in-Some
bodies::guarded-returns-in-Some g t c = guarded_some c.args.work.now c.args.calls (stmts_at (nodes_of c.args.work.now) c.args.stmts) (handlers_at (nodes_of c.args.work.now) c.args.handlers) (env_of c.args.env.now) c.args.store.now c.exec_all.new.store c.in-Err-Left-Raises.reason (stmts_at (nodes_of c.args.work.now) c.in-Some.found) c.exec_all-in-Some.result c.exec_all-in-Some.new.store (search rules) (search rules) c.exec_all-in-Some.ensures

pub calls::call-returns-in_err-turned : goal.calls::call-returns-in_err-turned
calls::call-returns-in_err-turned g t c = call_ends returned_of c.args.work.now c.args.nested c.args.sub (passed_list c.args.work.now c.args.passed.now) c.args.store.now c.turned.new.store c.args.calls c.in_err-turned.field-0.0 _ (search rules) c.in_err-turned.ensures

pub calls::call-returns-in_err-returned : goal.calls::call-returns-in_err-returned
calls::call-returns-in_err-returned g t c = call_step returned_of c.args.work.now c.args.nested c.args.sub (passed_list c.args.work.now c.args.passed.now) c.args.store.now c.turned.new.store c.args.calls c.from_residual-in_err-returned.result c.called.new.store (omega arith) c.in_ok-turned.ensures (search rules)

pub calls::call-returns-in_ok-returned : goal.calls::call-returns-in_ok-returned
calls::call-returns-in_ok-returned g t c = call_step returned_of c.args.work.now c.args.nested c.args.sub (passed_list c.args.work.now c.args.passed.now) c.args.store.now c.turned.new.store c.args.calls (Ok c.in_ok-returned.returned) c.called.new.store (omega arith) c.in_ok-turned.ensures c.in_ok-returned.ensures

pub loops::while_loop-loop-turn-init : goal.loops::while_loop-loop-turn-init
loops::while_loop-loop-turn-init g t c = while_begins c.args.store.now c.args.work.now c.args.calls (optional_at (nodes_of c.args.work.now) c.args.condition) (stmts_at (nodes_of c.args.work.now) c.args.stmts) (env_of c.args.env.now)

pub loops::while_stmt-returns : goal.loops::while_stmt-returns
loops::while_stmt-returns g t c = rw c.caught.ensures (caught_shows c.args.work.now c.args.calls c.args.number (while_loop c.args.work.now c.args.calls (optional_at (nodes_of c.args.work.now) c.args.condition) (stmts_at (nodes_of c.args.work.now) c.args.stmts) (env_of c.args.env.now)) c.args.store.now c.while_loop-how.new.store c.while_loop-how.result c.while_loop-how.ensures)

pub loops::for_stmt-returns : goal.loops::for_stmt-returns
loops::for_stmt-returns g t c = rw c.caught.ensures (then_shows course_of (λ a. a) (course c.args.work.now c.args.calls (iteration_at (nodes_of c.args.work.now) c.args.iteration) (env_of c.args.env.now)) (λ k. in_loop c.args.work.now c.args.calls c.args.number (for_loop c.args.work.now c.args.calls k (iteration_at (nodes_of c.args.work.now) c.args.iteration) (stmts_at (nodes_of c.args.work.now) c.args.stmts) (env_of c.args.env.now))) c.args.store.now c.begin_course.new.store c.for_loop-how.new.store c.in_ok-course.course (caught c.args.number c.for_loop-how.result) c.in_ok-course.ensures (caught_shows c.args.work.now c.args.calls c.args.number (for_loop c.args.work.now c.args.calls (course_of c.in_ok-course.course) (iteration_at (nodes_of c.args.work.now) c.args.iteration) (stmts_at (nodes_of c.args.work.now) c.args.stmts) (env_of c.args.env.now)) c.begin_course.new.store c.for_loop-how.new.store c.for_loop-how.result c.for_loop-how.ensures))

pub stmts::chosen-returns-in-None : goal.stmts::chosen-returns-in-None
stmts::chosen-returns-in-None g t c = chosen_none c.args.work.now c.args.calls (env_of c.args.env.now) (expr_at (nodes_of c.args.work.now) c.args.value) (alternatives_at (nodes_of c.args.work.now) c.args.alternatives) c.in_ok-v.v c.args.store.now c.eval.new.store c.in_ok-v.ensures (search rules)

pub stmts::chosen-returns-in_err-exec_all-in-Some : goal.stmts::chosen-returns-in_err-exec_all-in-Some
stmts::chosen-returns-in_err-exec_all-in-Some g t c = chosen_some c.args.work.now c.args.calls (env_of c.args.env.now) (expr_at (nodes_of c.args.work.now) c.args.value) (alternatives_at (nodes_of c.args.work.now) c.args.alternatives) c.in_ok-v.v c.args.store.now c.eval.new.store c.in_ok-v.ensures (stmts_at (nodes_of c.args.work.now) c.in-Some.stmts) c.from_residual-in_err-exec_all-in-Some.result c.exec_all.new.store (search rules) (search rules)

pub stmts::chosen-returns-in_ok-exec_all-in-Some : goal.stmts::chosen-returns-in_ok-exec_all-in-Some
stmts::chosen-returns-in_ok-exec_all-in-Some g t c = chosen_some c.args.work.now c.args.calls (env_of c.args.env.now) (expr_at (nodes_of c.args.work.now) c.args.value) (alternatives_at (nodes_of c.args.work.now) c.args.alternatives) c.in_ok-v.v c.args.store.now c.eval.new.store c.in_ok-v.ensures (stmts_at (nodes_of c.args.work.now) c.in-Some.stmts) (Ok tt) c.exec_all.new.store (search rules) (search rules)

pub values::run_values-loop-k-init : goal.values::run_values-loop-k-init
values::run_values-loop-k-init g t c = run_begins c.args.store.now c.args.work.now c.args.calls c.args.run.count c.args.run.first c.args.run.stride c.args.each.turns c.args.each.iterated (value_at (nodes_of c.args.work.now) c.args.each.value) (env_of c.args.env.now) c.args.out

pub values::run_values-returns-in_err-values : goal.values::run_values-returns-in_err-values
values::run_values-returns-in_err-values g t c = run_ends (run_values c.args.work.now c.args.calls 0 c.args.run.count c.args.run.first c.args.run.stride c.args.each.turns c.args.each.iterated (value_at (nodes_of c.args.work.now) c.args.each.value) (env_of c.args.env.now) c.args.out) c.args.store.now c.loop-k.store c.given.new.store c.args.work.now c.args.calls c.loop-k.k c.args.run.count c.loop-k.first c.args.run.stride c.args.each.turns c.args.each.iterated (value_at (nodes_of c.args.work.now) c.args.each.value) (env_of c.args.env.now) c.loop-k.cells (omega arith) c.loop-k.invariant c.in_err-values.field-0.0 _ (search rules) c.in_err-values.ensures

pub values::run_values-loop-k-preserved : goal.values::run_values-loop-k-preserved
values::run_values-loop-k-preserved g t c = run_step (run_values c.args.work.now c.args.calls 0 c.args.run.count c.args.run.first c.args.run.stride c.args.each.turns c.args.each.iterated (value_at (nodes_of c.args.work.now) c.args.each.value) (env_of c.args.env.now) c.args.out) c.args.store.now c.loop-k.store c.given.new.store c.args.work.now c.args.calls c.loop-k.k c.args.run.count c.loop-k.first c.args.run.stride c.args.each.turns c.args.each.iterated (value_at (nodes_of c.args.work.now) c.args.each.value) (env_of c.args.env.now) c.loop-k.cells (omega arith) c.loop-k.invariant c.in_ok-values.values c.lay.new.out c.in_ok-first.first c.in_ok-values.ensures (search rules) (search rules)

pub values::run_values-returns : goal.values::run_values-returns
values::run_values-returns g t c = run_done (run_values c.args.work.now c.args.calls 0 c.args.run.count c.args.run.first c.args.run.stride c.args.each.turns c.args.each.iterated (value_at (nodes_of c.args.work.now) c.args.each.value) (env_of c.args.env.now) c.args.out) c.args.store.now c.loop-k.store c.args.work.now c.args.calls c.loop-k.k c.args.run.count c.loop-k.first c.args.run.stride c.args.each.turns c.args.each.iterated (value_at (nodes_of c.args.work.now) c.args.each.value) (env_of c.args.env.now) c.loop-k.cells (omega arith) c.loop-k.invariant

pub values::run_values-returns-in_err-first : goal.values::run_values-returns-in_err-first
values::run_values-returns-in_err-first g t c = next_fails (λ next. next ≡ c.loop-k.first + c.args.run.stride) (run_values c.args.work.now c.args.calls 0 c.args.run.count c.args.run.first c.args.run.stride c.args.each.turns c.args.each.iterated (value_at (nodes_of c.args.work.now) c.args.each.value) (env_of c.args.env.now) c.args.out) (run_values c.args.work.now c.args.calls (c.loop-k.k + 1) (c.args.run.count - (c.loop-k.k + 1)) (c.loop-k.first + c.args.run.stride) c.args.run.stride c.args.each.turns c.args.each.iterated (value_at (nodes_of c.args.work.now) c.args.each.value) (env_of c.args.env.now) c.lay.new.out) c.args.store.now c.given.new.store _ c.in_err-first.field-0.0 (search rules) c.in_err-first.ensures (run_step (run_values c.args.work.now c.args.calls 0 c.args.run.count c.args.run.first c.args.run.stride c.args.each.turns c.args.each.iterated (value_at (nodes_of c.args.work.now) c.args.each.value) (env_of c.args.env.now) c.args.out) c.args.store.now c.loop-k.store c.given.new.store c.args.work.now c.args.calls c.loop-k.k c.args.run.count c.loop-k.first c.args.run.stride c.args.each.turns c.args.each.iterated (value_at (nodes_of c.args.work.now) c.args.each.value) (env_of c.args.env.now) c.loop-k.cells (omega arith) c.loop-k.invariant c.in_ok-values.values c.lay.new.out (c.loop-k.first + c.args.run.stride) c.in_ok-values.ensures (search rules) refl)

pub names::select_by_parts-returns-in-Some-Index : goal.names::select_by_parts-returns-in-Some-Index
names::select_by_parts-returns-in-Some-Index g t c = index_as c.args.work.now c.args.calls (env_of c.args.env.now) c.args.store.now c.index.new.store c.in-Some-Index.at (expr_at (nodes_of c.args.work.now) c.in-Some-Index.value) c.in-Some-Index.low c.in-Some-Index.high _ _ c.in-Some-Index.stride (selections_at (nodes_of c.args.work.now) c.in-Some.cell.rest) (selections_at (nodes_of c.args.work.now) c.args.id) (part_of c.args.part) c.index.result c.index.ensures (search rules) (search rules) (search rules)

pub names::index-returns-in_ok-found : goal.names::index-returns-in_ok-found
names::index-returns-in_ok-found g t c = index_on c.args.work.now c.args.calls (env_of c.args.env.now) c.args.store.now c.select_rest.new.store c.args.at (expr_at (nodes_of c.args.work.now) c.args.value) c.args.range.low c.args.range.high c.in_ok-i.i c.args.stride (selections_at (nodes_of c.args.work.now) c.args.rest) (part_of c.args.part) (part_of c.in_ok-inner.inner) (Ok c.in_ok-found.found) c.eval.new.store c.in_ok-i.ensures (search rules) (search rules) c.in_ok-found.ensures

pub names::index-returns-in_err-found : goal.names::index-returns-in_err-found
names::index-returns-in_err-found g t c = index_ends c.args.work.now c.args.calls (env_of c.args.env.now) c.args.store.now c.select_rest.new.store c.args.at (expr_at (nodes_of c.args.work.now) c.args.value) c.args.range.low c.args.range.high c.in_ok-i.i c.args.stride (selections_at (nodes_of c.args.work.now) c.args.rest) (part_of c.args.part) (part_of c.in_ok-inner.inner) c.in_err-found.field-0.0 _ c.eval.new.store (search rules) c.in_ok-i.ensures (search rules) (search rules) c.in_err-found.ensures

pub courses::begin_course-returns-then-bounds_hold : goal.courses::begin_course-returns-then-bounds_hold
courses::begin_course-returns-then-bounds_hold g t c = range_holds c.args.work.now c.args.calls (env_of c.args.env.now) c.args.store.now c.eval-in-Some-Range.new.store c.in-Some-Range.parameter c.in-Some-Range.reverse (expr_at (nodes_of c.args.work.now) c.in-Some-Range.low) (expr_at (nodes_of c.args.work.now) c.in-Some-Range.high) c.check.result (optional_at (nodes_of c.args.work.now) c.in-Some-Range.field-0-5) (iteration_at (nodes_of c.args.work.now) c.args.id) c.in_ok-l-in-Some-Range.l c.in_ok-h-in-Some-Range.h (record { low = to_z w64 (of_z w64 c.in_ok-l-in-Some-Range.l); high = to_z w64 (of_z w64 c.in_ok-h-in-Some-Range.h) }) c.eval.new.store c.in_ok-l-in-Some-Range.ensures c.in_ok-h-in-Some-Range.ensures (search rules) (search rules) (sym c.bounds_hold.ensures ∙ c.if-bounds_hold.true) (search rules)

pub stmts::return_value-returns-then-is_in : goal.stmts::return_value-returns-then-is_in
stmts::return_value-returns-then-is_in g t c = number_returns c.args.work.now c.args.calls (env_of c.args.env.now) c.args.store.now c.eval.new.store c.in-Some-Number.check (expr_at (nodes_of c.args.work.now) c.in-Some-Number.value) (value_at (nodes_of c.args.work.now) c.args.value) c.in_ok-x-in-Some-Number.x _ c.in_ok-x-in-Some-Number.ensures (search rules) (search rules) (search rules)

pub values::assigned-returns-in_ok-write-in-Some-Number : goal.values::assigned-returns-in_ok-write-in-Some-Number
values::assigned-returns-in_ok-write-in-Some-Number g t c = number_gives c.args.work.now c.args.calls (env_of c.args.env.now) c.args.store.now c.write.new.self c.in-Some-Number.check (expr_at (nodes_of c.args.work.now) c.in-Some-Number.value) (value_at (nodes_of c.args.work.now) c.args.id) (part_of c.args.part) c.in_ok-x-in-Some-Number.x _ c.eval.new.store c.in_ok-x-in-Some-Number.ensures (search rules) c.in_ok-write-in-Some-Number.ensures (search rules) (search rules)

pub values::assigned-returns-in_err-write-in-Some-Number : goal.values::assigned-returns-in_err-write-in-Some-Number
values::assigned-returns-in_err-write-in-Some-Number g t c = number_ends c.args.work.now c.args.calls (env_of c.args.env.now) c.args.store.now c.write.new.self c.in-Some-Number.check (expr_at (nodes_of c.args.work.now) c.in-Some-Number.value) (value_at (nodes_of c.args.work.now) c.args.id) (part_of c.args.part) c.in_ok-x-in-Some-Number.x _ c.eval.new.store c.in_err-write-in-Some-Number.field-0.0 _ (search rules) c.in_ok-x-in-Some-Number.ensures (search rules) c.in_err-write-in-Some-Number.ensures (search rules) (search rules)

pub chains::chain-loop-link-init : goal.chains::chain-loop-link-init
chains::chain-loop-link-init g t c = record { below = c.in_ok-chain.ensures.2; on = stands_begins c.args.work.now c.args.calls (env_of c.args.env.now) (expr_at (nodes_of c.args.work.now) c.args.id) c.in_ok-chain.chain.links (expr_at (nodes_of c.args.work.now) c.in_ok-chain.chain.first) c.in_ok-chain.ensures.0 c.args.store.now c.eval.new.store _ c.in_ok-value.value c.in_ok-value.ensures (search rules) }

pub chains::chain-returns-in_err-value : goal.chains::chain-returns-in_err-value
chains::chain-returns-in_err-value g t c = first_ends c.args.work.now c.args.calls (env_of c.args.env.now) (expr_at (nodes_of c.args.work.now) c.args.id) c.in_ok-chain.chain.links (expr_at (nodes_of c.args.work.now) c.in_ok-chain.chain.first) c.in_ok-chain.ensures.0 c.args.store.now c.eval.new.store c.in_err-value.field-0.0 _ (search rules) c.in_err-value.ensures

pub chains::chain-loop-link-preserved : goal.chains::chain-loop-link-preserved
chains::chain-loop-link-preserved g t c = record { below = all_below c.args.id c.loop-link.links c.pop.new.self c.in-Some.link c.in-Some.ensures c.loop-link.invariant.below; on = stands_step c.args.work.now c.args.calls (env_of c.args.env.now) (eval c.args.work.now c.args.calls (expr_at (nodes_of c.args.work.now) c.args.id) (env_of c.args.env.now)) c.args.store.now c.loop-link.links c.pop.new.self c.in-Some.link (to_z w64 c.loop-link.value-bits) _ _ _ c.loop-link.store c.operator.new.store c.in-Some.ensures c.loop-link.invariant.on c.in_ok-value-2.ensures (search rules) (search rules) }

pub chains::chain-returns-in_err-value-2 : goal.chains::chain-returns-in_err-value-2
chains::chain-returns-in_err-value-2 g t c = stands_ends c.args.work.now c.args.calls (env_of c.args.env.now) (eval c.args.work.now c.args.calls (expr_at (nodes_of c.args.work.now) c.args.id) (env_of c.args.env.now)) c.args.store.now c.loop-link.links c.pop.new.self c.in-Some.link (to_z w64 c.loop-link.value-bits) _ c.loop-link.store c.operator.new.store c.in_err-value-2.field-0.0 _ (search rules) c.in-Some.ensures c.loop-link.invariant.on c.in_err-value-2.ensures (search rules)

pub chains::chain-operator-requires : goal.chains::chain-operator-requires
chains::chain-operator-requires g t c = let smaller : right_of c.in-Some.link < c.args.id = last_below c.args.id c.loop-link.links c.pop.new.self c.in-Some.link c.in-Some.ensures c.loop-link.invariant.below in search rules

pub chains::chain-returns : goal.chains::chain-returns
chains::chain-returns g t c = stands_done c.args.work.now c.args.calls (env_of c.args.env.now) (eval c.args.work.now c.args.calls (expr_at (nodes_of c.args.work.now) c.args.id) (env_of c.args.env.now)) c.args.store.now c.loop-link.links (to_z w64 c.loop-link.value-bits) _ c.loop-link.store (search rules) c.loop-link.invariant.on (search rules)

pub loops::for_loop-loop-i-init : goal.loops::for_loop-loop-i-init
loops::for_loop-loop-i-init g t c = record { counted = search rules; on = for_begins c.args.store.now c.args.work.now c.args.calls (course_of c.args.course) (iteration_at (nodes_of c.args.work.now) c.args.iteration) (stmts_at (nodes_of c.args.work.now) c.args.stmts) (env_of c.args.env.now) }

pub loops::for_loop-loop-i-preserved : goal.loops::for_loop-loop-i-preserved
loops::for_loop-loop-i-preserved g t c = record { counted = c.loop-i.invariant.counted; on = for_step (for_loop c.args.work.now c.args.calls (course_of c.args.course) (iteration_at (nodes_of c.args.work.now) c.args.iteration) (stmts_at (nodes_of c.args.work.now) c.args.stmts) (env_of c.args.env.now)) c.args.store.now c.loop-i.store c.iterate.new.store c.args.work.now c.args.calls c.loop-i.i (course_of c.args.course) (iteration_at (nodes_of c.args.work.now) c.args.iteration) (stmts_at (nodes_of c.args.work.now) c.args.stmts) (env_of c.args.env.now) (omega (arith, c.loop-i.invariant.counted)) c.loop-i.invariant.on c.in_ok-iterate-in-Some.ensures }

pub loops::for_loop-returns-in-Some : goal.loops::for_loop-returns-in-Some
loops::for_loop-returns-in-Some g t c = for_done (for_loop c.args.work.now c.args.calls (course_of c.args.course) (iteration_at (nodes_of c.args.work.now) c.args.iteration) (stmts_at (nodes_of c.args.work.now) c.args.stmts) (env_of c.args.env.now)) c.args.store.now c.loop-i.store c.args.work.now c.args.calls c.loop-i.i (course_of c.args.course) (iteration_at (nodes_of c.args.work.now) c.args.iteration) (stmts_at (nodes_of c.args.work.now) c.args.stmts) (env_of c.args.env.now) (omega (arith, c.loop-i.invariant.counted)) c.loop-i.invariant.on

pub folds::fold_iterations-loop-i-preserved : goal.folds::fold_iterations-loop-i-preserved
folds::fold_iterations-loop-i-preserved g t c = fold_step c.args.work.now c.args.calls c.args.by (course_of c.args.course) (env_of c.args.env.now) (fold_left c.args.work.now c.args.calls c.args.by c.args.first (suc c.args.last - c.args.first) (course_of c.args.course) (to_z w64 (of_z w64 c.args.start)) (env_of c.args.env.now)) c.args.store.now c.loop-i.store c.fold_one.new.store c.loop-i.i (suc c.args.last) (to_z w64 c.loop-i.total-bits) (omega arith) c.loop-i.invariant _ _ _ c.in_ok-total.ensures (search rules) (search rules)

pub folds::fold_iterations-returns : goal.folds::fold_iterations-returns
folds::fold_iterations-returns g t c = gives_as (fold_left c.args.work.now c.args.calls c.args.by c.args.first (suc c.args.last - c.args.first) (course_of c.args.course) c.args.start (env_of c.args.env.now)) (to_z w64 c.loop-i.total-bits) _ c.args.store.now c.loop-i.store (fold_as c.args.work.now c.args.calls c.args.by (course_of c.args.course) (env_of c.args.env.now) c.args.first (suc c.args.last - c.args.first) (suc c.args.last - c.args.first) c.args.start (to_z w64 (of_z w64 c.args.start)) (Ok (to_z w64 c.loop-i.total-bits)) c.args.store.now c.loop-i.store refl (fold_done c.args.work.now c.args.calls c.args.by (course_of c.args.course) (env_of c.args.env.now) (fold_left c.args.work.now c.args.calls c.args.by c.args.first (suc c.args.last - c.args.first) (course_of c.args.course) (to_z w64 (of_z w64 c.args.start)) (env_of c.args.env.now)) c.args.store.now c.loop-i.store c.loop-i.store c.loop-i.i (suc c.args.last) (to_z w64 c.loop-i.total-bits) (to_z w64 c.loop-i.total-bits) (omega arith) c.loop-i.invariant refl) (search rules)) (search rules)

pub folds::fold_all-returns-in-None : goal.folds::fold_all-returns-in-None
folds::fold_all-returns-in-None g t c = fold_none c.args.work.now c.args.calls c.args.by (course_of c.args.course) (env_of c.args.env.now) (course_of c.args.course).count c.args.start _ c.args.store.now (search rules) (search rules)

pub folds::fold_all-returns-in_ok-total-in-Some : goal.folds::fold_all-returns-in_ok-total-in-Some
folds::fold_all-returns-in_ok-total-in-Some g t c = gives_as (fold_left c.args.work.now c.args.calls c.args.by 0 (course_of c.args.course).count (course_of c.args.course) c.args.start (env_of c.args.env.now)) c.in_ok-total-in-Some.total _ c.args.store.now c.fold_iterations.new.store (fold_as c.args.work.now c.args.calls c.args.by (course_of c.args.course) (env_of c.args.env.now) 0 (suc c.in-Some.last - 0) (course_of c.args.course).count c.args.start _ (Ok c.in_ok-total-in-Some.total) c.args.store.now c.fold_iterations.new.store (omega (arith, c.in-Some.ensures)) c.in_ok-total-in-Some.ensures (search rules)) (search rules)

pub folds::fold_all-returns-in_err-total-in-Some : goal.folds::fold_all-returns-in_err-total-in-Some
folds::fold_all-returns-in_err-total-in-Some g t c = fold_fails c.args.work.now c.args.calls c.args.by (course_of c.args.course) (env_of c.args.env.now) 0 (suc c.in-Some.last - 0) (course_of c.args.course).count c.args.start _ c.in_err-total-in-Some.field-0.0 _ c.args.store.now c.fold_iterations.new.store (search rules) (omega (arith, c.in-Some.ensures)) c.in_err-total-in-Some.ensures (search rules)

pub folds::combined_onto-returns-in_err-total : goal.folds::combined_onto-returns-in_err-total
folds::combined_onto-returns-in_err-total g t c = onto_as c.args.work.now c.args.calls c.args.by c.args.nested c.args.first (to_z w64 (of_z w64 c.args.first)) c.args.values.now _ c.args.store.now c.combined_two.new.store (onto_ends c.args.work.now c.args.calls c.args.by c.args.nested (combined_onto c.args.work.now c.args.calls c.args.by c.args.nested (to_z w64 (of_z w64 c.args.first)) c.args.values.now) c.args.store.now c.loop-value.store c.combined_two.new.store (to_z w64 c.loop-value.total-bits) c.args.values.now c.loop-value.k c.loop-value.invariant c.in-Some.value (search rules) _ _ c.in_err-total.field-0.0 _ (search rules) c.in_err-total.ensures (search rules) (search rules)) (search rules)

pub folds::combined_onto-loop-value-preserved : goal.folds::combined_onto-loop-value-preserved
folds::combined_onto-loop-value-preserved g t c = onto_step c.args.work.now c.args.calls c.args.by c.args.nested (combined_onto c.args.work.now c.args.calls c.args.by c.args.nested (to_z w64 (of_z w64 c.args.first)) c.args.values.now) c.args.store.now c.loop-value.store c.combined_two.new.store (to_z w64 c.loop-value.total-bits) c.args.values.now c.loop-value.k c.loop-value.invariant c.in-Some.value (search rules) _ _ _ _ c.in_ok-total.ensures (search rules) (search rules) (search rules)

pub folds::combined_onto-returns : goal.folds::combined_onto-returns
folds::combined_onto-returns g t c = gives_as (combined_onto c.args.work.now c.args.calls c.args.by c.args.nested c.args.first c.args.values.now) (to_z w64 c.loop-value.total-bits) _ c.args.store.now c.loop-value.store (onto_as c.args.work.now c.args.calls c.args.by c.args.nested c.args.first (to_z w64 (of_z w64 c.args.first)) c.args.values.now (Ok (to_z w64 c.loop-value.total-bits)) c.args.store.now c.loop-value.store (onto_done c.args.work.now c.args.calls c.args.by c.args.nested (combined_onto c.args.work.now c.args.calls c.args.by c.args.nested (to_z w64 (of_z w64 c.args.first)) c.args.values.now) c.args.store.now c.loop-value.store c.loop-value.store (to_z w64 c.loop-value.total-bits) c.args.values.now c.loop-value.k c.loop-value.invariant (to_z w64 c.loop-value.total-bits) (search rules) refl) (search rules)) (search rules)

pub constructs::parallel_for-returns-in_err-chunking : goal.constructs::parallel_for-returns-in_err-chunking
constructs::parallel_for-returns-in_err-chunking g t c = parallel_for_ends c.args.work.now c.args.calls (env_of c.args.env.now) (env_of c.in_ok-inner.inner) c.in_ok-inner.ensures c.args.store.now c.begin_chunks.new.store c.begin_chunks.new.store c.args.number (chunk_at (nodes_of c.args.work.now) c.args.chunk) (iteration_at (nodes_of c.args.work.now) c.args.iteration) (stmts_at (nodes_of c.args.work.now) c.args.stmts) c.in_ok-opened.ensures c.in_err-chunking.field-0.0 _ (search rules) c.in_err-chunking.ensures

pub constructs::parallel_for-returns-in_err-chunked_loop : goal.constructs::parallel_for-returns-in_err-chunked_loop
constructs::parallel_for-returns-in_err-chunked_loop g t c = parallel_for_stops c.args.work.now c.args.calls (env_of c.args.env.now) (env_of c.in_ok-inner.inner) c.in_ok-inner.ensures c.args.store.now c.begin_chunks.new.store c.chunked_loop.new.store c.args.number (chunk_at (nodes_of c.args.work.now) c.args.chunk) (iteration_at (nodes_of c.args.work.now) c.args.iteration) (stmts_at (nodes_of c.args.work.now) c.args.stmts) c.in_ok-opened.ensures c.in_ok-chunking.chunking c.in_err-chunked_loop.field-0.0 _ (search rules) c.in_ok-chunking.ensures c.in_err-chunked_loop.ensures

pub constructs::chunked_loop-returns-in_err-check_count : goal.constructs::chunked_loop-returns-in_err-check_count
constructs::chunked_loop-returns-in_err-check_count g t c = chunked_loop_many c.args.work.now c.args.calls c.args.number c.args.chunking (iteration_at (nodes_of c.args.work.now) c.args.iteration) (stmts_at (nodes_of c.args.work.now) c.args.stmts) (env_of c.args.env.now) c.args.store.now c.begin_course.new.store c.begin_course.new.store c.in_ok-course.course c.in_ok-course.ensures c.in_err-check_count.field-0.0 _ (search rules) c.in_err-check_count.ensures

pub constructs::chunked_loop-returns-in_err-dealt_loop : goal.constructs::chunked_loop-returns-in_err-dealt_loop
constructs::chunked_loop-returns-in_err-dealt_loop g t c = chunked_loop_stops c.args.work.now c.args.calls c.args.number c.args.chunking (iteration_at (nodes_of c.args.work.now) c.args.iteration) (stmts_at (nodes_of c.args.work.now) c.args.stmts) (env_of c.args.env.now) c.args.store.now c.begin_course.new.store c.dealt_loop.new.store c.in_ok-course.course c.in_ok-course.ensures c.in_err-dealt_loop.field-0.0 _ (search rules) c.in_ok-check_count.ensures c.in_err-dealt_loop.ensures

pub constructs::dealt_loop-returns : goal.constructs::dealt_loop-returns
constructs::dealt_loop-returns g t c = rw c.caught.ensures (dealt_loop_shows c.args.work.now c.args.calls (env_of c.args.env.now) c.args.store.now c.run_threads-how.new.store c.args.number c.args.chunking c.args.course c.args.iteration c.args.stmts c.in_ok-count.count c.in_ok-sizes.sizes c.run_threads-how.result c.in_ok-count.ensures c.in_ok-sizes.ensures (rw c.as_slice.ensures at c.run_threads-how.ensures))

pub constructs::parallel_block-returns-in_err-most : goal.constructs::parallel_block-returns-in_err-most
constructs::parallel_block-returns-in_err-most g t c = parallel_block_ends c.args.work.now c.args.calls (env_of c.args.env.now) (env_of c.in_ok-inner.inner) c.in_ok-inner.ensures c.args.store.now c.threads_of.new.store c.threads_of.new.store (optional_at (nodes_of c.args.work.now) c.args.count) (arms_at (nodes_of c.args.work.now) c.args.arms) c.in_ok-opened.ensures c.in_err-most.field-0.0 _ (search rules) c.in_err-most.ensures

pub constructs::parallel_block-returns-in_err-dealt_arms : goal.constructs::parallel_block-returns-in_err-dealt_arms
constructs::parallel_block-returns-in_err-dealt_arms g t c = parallel_block_stops c.args.work.now c.args.calls (env_of c.args.env.now) (env_of c.in_ok-inner.inner) c.in_ok-inner.ensures c.args.store.now c.threads_of.new.store c.dealt_arms.new.store (optional_at (nodes_of c.args.work.now) c.args.count) (arms_at (nodes_of c.args.work.now) c.args.arms) c.in_ok-opened.ensures c.in_ok-most.most c.in_err-dealt_arms.field-0.0 _ (search rules) c.in_ok-most.ensures c.in_err-dealt_arms.ensures

pub constructs::dealt_arms-returns : goal.constructs::dealt_arms-returns
constructs::dealt_arms-returns g t c = dealt_arms_shows c.args.work.now c.args.calls (env_of c.args.env.now) c.args.store.now c.run_threads.new.store c.args.most c.args.arms c.in_ok-count.count c.in_ok-sizes.sizes (Ok tt) c.in_ok-count.ensures (search rules) (subst (λ z. Shows g.P.Port.Tells (threads_run c.args.work.now c.args.calls (task.Arms c.args.arms) z (env_of c.args.env.now)) (Ok tt) c.args.store.now c.run_threads.new.store) c.as_slice.ensures c.in_ok-run_threads.ensures)

pub constructs::dealt_arms-returns-in_err-run_threads : goal.constructs::dealt_arms-returns-in_err-run_threads
constructs::dealt_arms-returns-in_err-run_threads g t c = dealt_arms_ends c.args.work.now c.args.calls (env_of c.args.env.now) c.args.store.now c.run_threads.new.store c.args.most c.args.arms c.in_ok-count.count c.in_ok-sizes.sizes c.in_err-run_threads.field-0.0 _ (search rules) c.in_ok-count.ensures (search rules) (subst (λ z. Shows g.P.Port.Tells (threads_run c.args.work.now c.args.calls (task.Arms c.args.arms) z (env_of c.args.env.now)) (Err c.in_err-run_threads.field-0.0) c.args.store.now c.run_threads.new.store) c.as_slice.ensures c.in_err-run_threads.ensures)

pub constructs::run_threads-loop-size-init : goal.constructs::run_threads-loop-size-init
constructs::run_threads-loop-size-init g t c = loops_begin c.args.work.now c.args.calls c.args.task c.args.sizes.now (env_of c.args.env.now) c.args.store.now c.turns-from.result c.turns-from.result c.turns-from.ensures c.turns-from.ensures

pub constructs::run_threads-loop-size-preserved : goal.constructs::run_threads-loop-size-preserved
constructs::run_threads-loop-size-preserved g t c = threads_more (threads_run c.args.work.now c.args.calls c.args.task c.args.sizes.now (env_of c.args.env.now)) first_of_both (share_run c.args.work.now c.args.calls c.args.task (env_of c.args.env.now)) c.turns-from.result c.loop-size.most c.loop-size.k c.loop-size.first c.args.sizes.now c.loop-size.over tt c.args.store.now c.loop-size.store c.rewind.new.self c.loop-size.invariant c.in-Some.size (search rules) c.rewind.ensures took_of c.run_thread.new.store c.in_ok-took.took _ _ _ tt c.in_ok-took.ensures refl c.in_ok-first.ensures (c.either-over.ensures ∙ ap (λ z. c.loop-size.over || z) (sym (spent_as c.in_ok-took.took.spent))) (gathered_none c.in_ok-took.took.spent)

pub constructs::run_threads-returns-in_err-took : goal.constructs::run_threads-returns-in_err-took
constructs::run_threads-returns-in_err-took g t c = threads_end (threads_run c.args.work.now c.args.calls c.args.task c.args.sizes.now (env_of c.args.env.now)) first_of_both (share_run c.args.work.now c.args.calls c.args.task (env_of c.args.env.now)) c.turns-from.result c.loop-size.most c.loop-size.k c.loop-size.first c.args.sizes.now c.loop-size.over tt c.args.store.now c.loop-size.store c.rewind.new.self c.loop-size.invariant c.in-Some.size (search rules) c.rewind.ensures took_of c.run_thread.new.store c.in_err-took.field-0.0 _ (search rules) c.in_err-took.ensures

pub constructs::run_threads-returns-then-over : goal.constructs::run_threads-returns-then-over
constructs::run_threads-returns-then-over g t c = threads_spent (threads_run c.args.work.now c.args.calls c.args.task c.args.sizes.now (env_of c.args.env.now)) first_of_both (share_run c.args.work.now c.args.calls c.args.task (env_of c.args.env.now)) c.turns-from.result c.loop-size.most c.loop-size.k c.loop-size.first c.args.sizes.now c.loop-size.over tt c.args.store.now c.loop-size.store c.rewind-2.new.self c.loop-size.invariant (search rules) c.rewind-2.ensures (search rules)

pub constructs::run_threads-returns-else-over : goal.constructs::run_threads-returns-else-over
constructs::run_threads-returns-else-over g t c = threads_joined (threads_run c.args.work.now c.args.calls c.args.task c.args.sizes.now (env_of c.args.env.now)) first_of_both (share_run c.args.work.now c.args.calls c.args.task (env_of c.args.env.now)) c.turns-from.result c.loop-size.most c.loop-size.k c.loop-size.first c.args.sizes.now c.loop-size.over tt c.args.store.now c.loop-size.store c.rewind-2.new.self c.loop-size.invariant (search rules) c.rewind-2.ensures (search rules)

pub constructs::run_share-loop-i-init : goal.constructs::run_share-loop-i-init
constructs::run_share-loop-i-init g t c = share_begins c.args.work.now c.args.calls c.args.task c.args.number (env_of c.args.env.now) c.args.store.now c.args.first c.args.size c.in_ok-last.last c.in_ok-last.ensures

pub constructs::run_share-returns-in_err-run_turn : goal.constructs::run_share-returns-in_err-run_turn
constructs::run_share-returns-in_err-run_turn g t c = share_ends c.args.work.now c.args.calls c.args.task c.args.number (env_of c.args.env.now) (share_run c.args.work.now c.args.calls c.args.task (env_of c.args.env.now) (record { number = c.args.number; first = c.args.first; size = c.args.size })) c.args.store.now c.loop-i.store c.run_turn.new.store c.loop-i.i c.in_ok-last.last (omega arith) c.loop-i.invariant c.in_err-run_turn.field-0.0 _ (search rules) c.in_err-run_turn.ensures

pub constructs::run_share-loop-i-preserved : goal.constructs::run_share-loop-i-preserved
constructs::run_share-loop-i-preserved g t c = share_step c.args.work.now c.args.calls c.args.task c.args.number (env_of c.args.env.now) (share_run c.args.work.now c.args.calls c.args.task (env_of c.args.env.now) (record { number = c.args.number; first = c.args.first; size = c.args.size })) c.args.store.now c.loop-i.store c.run_turn.new.store c.loop-i.i c.in_ok-last.last (omega arith) c.loop-i.invariant c.in_ok-run_turn.ensures

pub constructs::run_share-returns : goal.constructs::run_share-returns
constructs::run_share-returns g t c = share_done c.args.work.now c.args.calls c.args.task c.args.number (env_of c.args.env.now) (share_run c.args.work.now c.args.calls c.args.task (env_of c.args.env.now) (record { number = c.args.number; first = c.args.first; size = c.args.size })) c.args.store.now c.loop-i.store c.loop-i.store c.loop-i.i c.in_ok-last.last (omega arith) c.loop-i.invariant

pub constructs::run_turn-returns-in-None : goal.constructs::run_turn-returns-in-None
constructs::run_turn-returns-in-None g t c = turn_none c.args.work.now c.args.calls (env_of c.args.env.now) c.args.task c.in-Arms.arms c.args.number c.args.index c.args.store.now c.args.store.now (search rules) (search rules)

pub constructs::run_turn-returns-in_ok-exec_all-in-Some : goal.constructs::run_turn-returns-in_ok-exec_all-in-Some
constructs::run_turn-returns-in_ok-exec_all-in-Some g t c = turn_some c.args.work.now c.args.calls (env_of c.args.env.now) c.args.task c.in-Arms.arms c.args.number c.args.index c.args.store.now c.exec_all.new.store (search rules) (stmts_at (nodes_of c.args.work.now) c.in-Some.stmts) (Ok tt) (search rules) c.in_ok-exec_all-in-Some.ensures

pub constructs::run_turn-returns-in_err-exec_all-in-Some : goal.constructs::run_turn-returns-in_err-exec_all-in-Some
constructs::run_turn-returns-in_err-exec_all-in-Some g t c = turn_ends c.args.work.now c.args.calls (env_of c.args.env.now) c.args.task c.in-Arms.arms c.args.number c.args.index c.args.store.now c.exec_all.new.store (search rules) (stmts_at (nodes_of c.args.work.now) c.in-Some.stmts) c.in_err-exec_all-in-Some.field-0.0 _ (search rules) (search rules) c.in_err-exec_all-in-Some.ensures

pub constructs::run_thread-returns-in-Ok : goal.constructs::run_thread-returns-in-Ok
constructs::run_thread-returns-in-Ok g t c = thread_gives took_of c.args.most (share_run c.args.work.now c.args.calls c.args.task (env_of c.args.env.now) (record { number = c.args.number; first = c.args.first; size = c.args.size })) c.args.store.now c.run_share.new.store tt (record { spent = false; most = c.max.result }) (search rules) (search rules)

pub constructs::run_thread-returns-in-Err-Spent : goal.constructs::run_thread-returns-in-Err-Spent
constructs::run_thread-returns-in-Err-Spent g t c = thread_spent took_of c.args.most (share_run c.args.work.now c.args.calls c.args.task (env_of c.args.env.now) (record { number = c.args.number; first = c.args.first; size = c.args.size })) c.args.store.now c.run_share.new.store (record { spent = true; most = c.max-in-Err-Spent.result }) (search rules) (search rules)

pub constructs::run_thread-returns-in-Err-Left : goal.constructs::run_thread-returns-in-Err-Left
constructs::run_thread-returns-in-Err-Left g t c = thread_left took_of c.args.most (share_run c.args.work.now c.args.calls c.args.task (env_of c.args.env.now) (record { number = c.args.number; first = c.args.first; size = c.args.size })) c.args.store.now c.run_share.new.store c.in-Err-Left.how _ c.rewind.new.self (search rules) (search rules) c.rewind.ensures

pub folds::parallel_reduction-returns-in_err-chunking : goal.folds::parallel_reduction-returns-in_err-chunking
folds::parallel_reduction-returns-in_err-chunking g t c = parallel_reduction_ends c.args.work.now c.args.calls c.args.by (env_of c.args.env.now) (env_of c.in_ok-inner.inner) c.in_ok-inner.ensures (expr_at (nodes_of c.args.work.now) c.args.initial) (chunk_at (nodes_of c.args.work.now) c.args.chunk) c.args.store.now c.eval.new.store c.begin_chunks.new.store c.begin_chunks.new.store c.in_ok-start.start c.in_ok-start.ensures c.in_ok-opened.ensures c.in_err-chunking.field-0.0 _ (search rules) c.in_err-chunking.ensures

pub folds::parallel_reduction-returns-in_err-total : goal.folds::parallel_reduction-returns-in_err-total
folds::parallel_reduction-returns-in_err-total g t c = parallel_reduction_stops c.args.work.now c.args.calls c.args.by (env_of c.args.env.now) (env_of c.in_ok-inner.inner) c.in_ok-inner.ensures (expr_at (nodes_of c.args.work.now) c.args.initial) (chunk_at (nodes_of c.args.work.now) c.args.chunk) c.args.store.now c.eval.new.store c.begin_chunks.new.store c.chunked_fold.new.store c.in_ok-start.start c.in_ok-start.ensures c.in_ok-opened.ensures c.in_ok-chunking.chunking _ c.in_err-total.field-0.0 _ (search rules) c.in_ok-chunking.ensures c.in_err-total.ensures (search rules)

pub folds::chunked_fold-returns-in_err-course : goal.folds::chunked_fold-returns-in_err-course
folds::chunked_fold-returns-in_err-course g t c = chunked_fold_ends c.args.work.now c.args.calls c.args.by (env_of c.args.env.now) (env_of c.in_ok-inner.inner) c.in_ok-inner.ensures c.args.chunking c.args.start c.args.store.now c.begin_course.new.store c.in_err-course.field-0.0 _ (search rules) c.in_err-course.ensures

pub folds::chunked_fold-returns-in_err-check_count : goal.folds::chunked_fold-returns-in_err-check_count
folds::chunked_fold-returns-in_err-check_count g t c = chunked_fold_many c.args.work.now c.args.calls c.args.by (env_of c.args.env.now) (env_of c.in_ok-inner.inner) c.in_ok-inner.ensures c.args.chunking c.args.start c.args.store.now c.begin_course.new.store c.begin_course.new.store c.in_ok-course.course c.in_ok-course.ensures c.in_err-check_count.field-0.0 _ (search rules) c.in_err-check_count.ensures

pub folds::chunked_fold-returns : goal.folds::chunked_fold-returns
folds::chunked_fold-returns g t c = gives_as (chunked_fold c.args.work.now c.args.calls c.args.by (chunking_of c.args.chunking) c.args.start (env_of c.args.env.now)) c.in_ok-total.total _ c.args.store.now c.dealt_fold.new.store (chunked_fold_on c.args.work.now c.args.calls c.args.by (env_of c.args.env.now) (env_of c.in_ok-inner.inner) c.in_ok-inner.ensures c.args.chunking c.args.start c.args.store.now c.begin_course.new.store c.dealt_fold.new.store c.in_ok-course.course c.in_ok-course.ensures _ (Ok c.in_ok-total.total) c.in_ok-check_count.ensures c.in_ok-total.ensures (search rules)) (search rules)

pub folds::chunked_fold-returns-in_err-total : goal.folds::chunked_fold-returns-in_err-total
folds::chunked_fold-returns-in_err-total g t c = chunked_fold_stops c.args.work.now c.args.calls c.args.by (env_of c.args.env.now) (env_of c.in_ok-inner.inner) c.in_ok-inner.ensures c.args.chunking c.args.start c.args.store.now c.begin_course.new.store c.dealt_fold.new.store c.in_ok-course.course c.in_ok-course.ensures _ c.in_err-total.field-0.0 _ (search rules) c.in_ok-check_count.ensures c.in_err-total.ensures (search rules)

pub folds::dealt_fold-returns-in_err-values : goal.folds::dealt_fold-returns-in_err-values
folds::dealt_fold-returns-in_err-values g t c = dealt_fold_ends c.args.work.now c.args.calls c.args.by (env_of c.args.env.now) (env_of c.in_ok-inner.inner) c.in_ok-inner.ensures c.args.chunking (course_of c.args.course) c.args.start c.in_ok-count.count c.in_ok-sizes.sizes c.in_ok-count.ensures c.in_ok-sizes.ensures c.args.store.now c.fold_threads.new.store c.fold_threads.new.store _ c.in_err-values.field-0.0 _ (search rules) (subst (λ z. Shows g.P.Port.Tells (threads_folded c.args.work.now c.args.calls c.args.by (chunking_of c.args.chunking) (course_of c.args.course) (to_z w64 (of_z w64 c.args.start)) z (env_of c.in_ok-inner.inner)) (Err c.in_err-values.field-0.0) c.args.store.now c.fold_threads.new.store) c.as_slice.ensures c.in_err-values.ensures) (search rules)

pub folds::dealt_fold-returns : goal.folds::dealt_fold-returns
folds::dealt_fold-returns g t c = gives_as (dealt_fold c.args.work.now c.args.calls c.args.by (chunking_of c.args.chunking) (course_of c.args.course) c.args.start (env_of c.args.env.now)) c.in_ok-total.total _ c.args.store.now c.combined.new.store (dealt_fold_on c.args.work.now c.args.calls c.args.by (env_of c.args.env.now) (env_of c.in_ok-inner.inner) c.in_ok-inner.ensures c.args.chunking (course_of c.args.course) c.args.start c.in_ok-count.count c.in_ok-sizes.sizes c.in_ok-count.ensures c.in_ok-sizes.ensures c.args.store.now c.fold_threads.new.store c.combined.new.store _ _ c.in_ok-values.values (Ok c.in_ok-total.total) (subst (λ z. Shows g.P.Port.Tells (threads_folded c.args.work.now c.args.calls c.args.by (chunking_of c.args.chunking) (course_of c.args.course) (to_z w64 (of_z w64 c.args.start)) z (env_of c.in_ok-inner.inner)) (Ok c.in_ok-values.values) c.args.store.now c.fold_threads.new.store) c.as_slice.ensures c.in_ok-values.ensures) (subst (λ z. Shows g.P.Port.Tells (combined c.args.work.now c.args.calls c.args.by z (to_z w64 (of_z w64 c.args.start)) c.in_ok-values.values) (Ok c.in_ok-total.total) c.fold_threads.new.store c.combined.new.store) c.nested.ensures (subst (λ z. Shows g.P.Port.Tells (combined c.args.work.now c.args.calls c.args.by c.nested.result (to_z w64 (of_z w64 c.args.start)) z) (Ok c.in_ok-total.total) c.fold_threads.new.store c.combined.new.store) c.as_slice-2.ensures c.in_ok-total.ensures)) (search rules) (search rules)) (search rules)

pub folds::dealt_fold-returns-in_err-total : goal.folds::dealt_fold-returns-in_err-total
folds::dealt_fold-returns-in_err-total g t c = dealt_fold_stops c.args.work.now c.args.calls c.args.by (env_of c.args.env.now) (env_of c.in_ok-inner.inner) c.in_ok-inner.ensures c.args.chunking (course_of c.args.course) c.args.start c.in_ok-count.count c.in_ok-sizes.sizes c.in_ok-count.ensures c.in_ok-sizes.ensures c.args.store.now c.fold_threads.new.store c.combined.new.store _ _ c.in_ok-values.values c.in_err-total.field-0.0 _ (search rules) (subst (λ z. Shows g.P.Port.Tells (threads_folded c.args.work.now c.args.calls c.args.by (chunking_of c.args.chunking) (course_of c.args.course) (to_z w64 (of_z w64 c.args.start)) z (env_of c.in_ok-inner.inner)) (Ok c.in_ok-values.values) c.args.store.now c.fold_threads.new.store) c.as_slice.ensures c.in_ok-values.ensures) (subst (λ z. Shows g.P.Port.Tells (combined c.args.work.now c.args.calls c.args.by z (to_z w64 (of_z w64 c.args.start)) c.in_ok-values.values) (Err c.in_err-total.field-0.0) c.fold_threads.new.store c.combined.new.store) c.nested.ensures (subst (λ z. Shows g.P.Port.Tells (combined c.args.work.now c.args.calls c.args.by c.nested.result (to_z w64 (of_z w64 c.args.start)) z) (Err c.in_err-total.field-0.0) c.fold_threads.new.store c.combined.new.store) c.as_slice-2.ensures c.in_err-total.ensures)) (search rules) (search rules)

pub folds::fold_threads-loop-size-init : goal.folds::fold_threads-loop-size-init
folds::fold_threads-loop-size-init g t c = rw c.new-values.ensures (folds_begin c.args.work.now c.args.calls c.args.by (chunking_of c.args.chunking) (course_of c.args.course) (to_z w64 (of_z w64 c.args.start)) c.args.sizes.now (env_of c.args.env.now) c.args.store.now c.turns-from.result c.turns-from.result c.turns-from.ensures c.turns-from.ensures)

pub folds::fold_threads-loop-size-preserved : goal.folds::fold_threads-loop-size-preserved
folds::fold_threads-loop-size-preserved g t c = threads_more (threads_folded c.args.work.now c.args.calls c.args.by (chunking_of c.args.chunking) (course_of c.args.course) (to_z w64 (of_z w64 c.args.start)) c.args.sizes.now (env_of c.args.env.now)) after_all (share_folded c.args.work.now c.args.calls c.args.by (chunking_of c.args.chunking) (course_of c.args.course) (to_z w64 (of_z w64 c.args.start)) (env_of c.args.env.now)) c.turns-from.result c.loop-size.most c.loop-size.k c.loop-size.first c.args.sizes.now c.loop-size.over c.loop-size.values c.args.store.now c.loop-size.store c.rewind.new.self c.loop-size.invariant c.in-Some.size (search rules) c.rewind.ensures folded_of c.fold_thread.new.store c.in_ok-folded.folded _ _ _ _ c.in_ok-folded.ensures refl c.in_ok-first.ensures (c.either-over.ensures ∙ ap (λ z. c.loop-size.over || z) c.is_spent.ensures) c.in_ok-push_some.ensures

pub folds::fold_threads-returns-in_err-folded : goal.folds::fold_threads-returns-in_err-folded
folds::fold_threads-returns-in_err-folded g t c = threads_folded_as c.args.work.now c.args.calls c.args.by (chunking_of c.args.chunking) (course_of c.args.course) c.args.start (to_z w64 (of_z w64 c.args.start)) c.args.sizes.now (env_of c.args.env.now) _ c.args.store.now c.fold_thread.new.store (threads_end (threads_folded c.args.work.now c.args.calls c.args.by (chunking_of c.args.chunking) (course_of c.args.course) (to_z w64 (of_z w64 c.args.start)) c.args.sizes.now (env_of c.args.env.now)) after_all (share_folded c.args.work.now c.args.calls c.args.by (chunking_of c.args.chunking) (course_of c.args.course) (to_z w64 (of_z w64 c.args.start)) (env_of c.args.env.now)) c.turns-from.result c.loop-size.most c.loop-size.k c.loop-size.first c.args.sizes.now c.loop-size.over c.loop-size.values c.args.store.now c.loop-size.store c.rewind.new.self c.loop-size.invariant c.in-Some.size (search rules) c.rewind.ensures folded_of c.fold_thread.new.store c.in_err-folded.field-0.0 _ (search rules) c.in_err-folded.ensures) (search rules)

pub folds::fold_threads-returns-then-over : goal.folds::fold_threads-returns-then-over
folds::fold_threads-returns-then-over g t c = threads_folded_as c.args.work.now c.args.calls c.args.by (chunking_of c.args.chunking) (course_of c.args.course) c.args.start (to_z w64 (of_z w64 c.args.start)) c.args.sizes.now (env_of c.args.env.now) (Err end.Spent) c.args.store.now c.rewind-2.new.self (threads_spent (threads_folded c.args.work.now c.args.calls c.args.by (chunking_of c.args.chunking) (course_of c.args.course) (to_z w64 (of_z w64 c.args.start)) c.args.sizes.now (env_of c.args.env.now)) after_all (share_folded c.args.work.now c.args.calls c.args.by (chunking_of c.args.chunking) (course_of c.args.course) (to_z w64 (of_z w64 c.args.start)) (env_of c.args.env.now)) c.turns-from.result c.loop-size.most c.loop-size.k c.loop-size.first c.args.sizes.now c.loop-size.over c.loop-size.values c.args.store.now c.loop-size.store c.rewind-2.new.self c.loop-size.invariant (search rules) c.rewind-2.ensures (search rules)) (search rules)

pub folds::fold_threads-returns-else-over : goal.folds::fold_threads-returns-else-over
folds::fold_threads-returns-else-over g t c = threads_folded_as c.args.work.now c.args.calls c.args.by (chunking_of c.args.chunking) (course_of c.args.course) c.args.start (to_z w64 (of_z w64 c.args.start)) c.args.sizes.now (env_of c.args.env.now) (Ok c.loop-size.values) c.args.store.now c.rewind-2.new.self (threads_joined (threads_folded c.args.work.now c.args.calls c.args.by (chunking_of c.args.chunking) (course_of c.args.course) (to_z w64 (of_z w64 c.args.start)) c.args.sizes.now (env_of c.args.env.now)) after_all (share_folded c.args.work.now c.args.calls c.args.by (chunking_of c.args.chunking) (course_of c.args.course) (to_z w64 (of_z w64 c.args.start)) (env_of c.args.env.now)) c.turns-from.result c.loop-size.most c.loop-size.k c.loop-size.first c.args.sizes.now c.loop-size.over c.loop-size.values c.args.store.now c.loop-size.store c.rewind-2.new.self c.loop-size.invariant (search rules) c.rewind-2.ensures (search rules)) (search rules)

pub folds::fold_thread-returns-in-Ok : goal.folds::fold_thread-returns-in-Ok
folds::fold_thread-returns-in-Ok g t c = thread_gives folded_of c.args.most (share_folded c.args.work.now c.args.calls c.args.by (chunking_of c.args.chunking) (course_of c.args.course) c.args.start (env_of c.args.env.now) (record { number = c.args.number; first = c.args.first; size = c.args.size })) c.args.store.now c.fold_share.new.store c.in-Ok.value _ (search rules) (search rules)

pub folds::fold_thread-returns-in-Err-Spent : goal.folds::fold_thread-returns-in-Err-Spent
folds::fold_thread-returns-in-Err-Spent g t c = thread_spent folded_of c.args.most (share_folded c.args.work.now c.args.calls c.args.by (chunking_of c.args.chunking) (course_of c.args.course) c.args.start (env_of c.args.env.now) (record { number = c.args.number; first = c.args.first; size = c.args.size })) c.args.store.now c.fold_share.new.store _ (search rules) (search rules)

pub folds::fold_thread-returns-in-Err-Left : goal.folds::fold_thread-returns-in-Err-Left
folds::fold_thread-returns-in-Err-Left g t c = thread_left folded_of c.args.most (share_folded c.args.work.now c.args.calls c.args.by (chunking_of c.args.chunking) (course_of c.args.course) c.args.start (env_of c.args.env.now) (record { number = c.args.number; first = c.args.first; size = c.args.size })) c.args.store.now c.fold_share.new.store c.in-Err-Left.how _ c.rewind.new.self (search rules) (search rules) c.rewind.ensures

pub calls::call_checked-returns-in_err-turned : goal.calls::call_checked-returns-in_err-turned
calls::call_checked-returns-in_err-turned g t c = checked_ends c.args.work.now c.args.nested c.args.sub c.args.both (passed_list c.args.work.now c.args.passed.now) c.args.store.now c.turned.new.store c.args.calls c.in_err-turned.field-0.0 _ (search rules) c.in_err-turned.ensures

pub calls::call_checked-returns-in_ok-returned : goal.calls::call_checked-returns-in_ok-returned
calls::call_checked-returns-in_ok-returned g t c = checked_step c.args.work.now c.args.nested c.args.sub c.args.both (passed_list c.args.work.now c.args.passed.now) c.args.store.now c.turned.new.store c.args.calls (Ok c.in_ok-returned.returned) c.called.new.store (omega arith) (search rules) c.in_ok-turned.ensures c.in_ok-returned.ensures

pub calls::call_checked-returns-in_err-returned : goal.calls::call_checked-returns-in_err-returned
calls::call_checked-returns-in_err-returned g t c = checked_stops c.args.work.now c.args.nested c.args.sub c.args.both (passed_list c.args.work.now c.args.passed.now) c.args.store.now c.turned.new.store c.args.calls c.in_err-returned.field-0.0 _ c.called.new.store (search rules) (omega arith) (search rules) c.in_ok-turned.ensures c.in_err-returned.ensures

pub calls::call_checked-returns-else-hold : goal.calls::call_checked-returns-else-hold
calls::call_checked-returns-else-hold g t c = checked_not c.args.work.now c.args.nested c.args.sub c.args.both (passed_list c.args.work.now c.args.passed.now) c.args.store.now c.turned.new.store c.args.calls (omega arith) (search rules) c.in_ok-turned.ensures

pub folds::reduced_by_call-returns-in_ok-returned : goal.folds::reduced_by_call-returns-in_ok-returned
folds::reduced_by_call-returns-in_ok-returned g t c = gives_as (reduced_by_call c.args.work.now c.args.calls c.args.nested c.args.sub c.args.both) c.in_ok-returned.returned.value _ c.args.store.now c.call.new.store (reduced_on c.args.work.now c.args.calls c.args.nested c.args.sub c.args.both c.args.store.now c.call.new.store (passed_list c.args.work.now c.in_ok-passed.passed) c.in_ok-returned.returned (passed_as c.args.work.now c.args.sub c.args.both.a c.args.both.b _ _ (passed_list c.args.work.now c.in_ok-passed.passed) c.in_ok-passed.ensures (search rules) (search rules)) (search rules) (rw c.as_slice.ensures at c.in_ok-returned.ensures)) (search rules)

pub folds::reduced_by_call-returns-in_err-returned : goal.folds::reduced_by_call-returns-in_err-returned
folds::reduced_by_call-returns-in_err-returned g t c = reduced_ends c.args.work.now c.args.calls c.args.nested c.args.sub c.args.both c.args.store.now c.call.new.store (passed_list c.args.work.now c.in_ok-passed.passed) c.in_err-returned.field-0.0 _ (search rules) (passed_as c.args.work.now c.args.sub c.args.both.a c.args.both.b _ _ (passed_list c.args.work.now c.in_ok-passed.passed) c.in_ok-passed.ensures (search rules) (search rules)) (search rules) (subst (λ z. ShowsAs returned_of g.P.Port.Tells (calls_of c.args.work.now c.args.calls c.args.nested c.args.sub (ret {A = Unit {0}} tt) (passed_list c.args.work.now z)) (Err c.in_err-returned.field-0.0) c.args.store.now c.call.new.store) c.as_slice.ensures c.in_err-returned.ensures)

pub folds::reduced_by_call-returns-else-hold : goal.folds::reduced_by_call-returns-else-hold
folds::reduced_by_call-returns-else-hold g t c = reduced_not c.args.work.now c.args.calls c.args.nested c.args.sub c.args.both c.args.store.now c.args.store.now (search rules)

pub folds::combined_by_call-returns : goal.folds::combined_by_call-returns
folds::combined_by_call-returns g t c = gives_as (combined_by_call c.args.work.now c.args.calls c.args.nested c.args.sub c.args.both) c.in_ok-returned.returned.value _ c.args.store.now c.call_checked.new.store (combined_on c.args.work.now c.args.calls c.args.nested c.args.sub c.args.both c.args.store.now c.call_checked.new.store (passed_list c.args.work.now c.in_ok-passed.passed) c.in_ok-returned.returned (passed_as c.args.work.now c.args.sub c.args.both.a c.args.both.b _ _ (passed_list c.args.work.now c.in_ok-passed.passed) c.in_ok-passed.ensures (search rules) (search rules)) (subst (λ z. ShowsAs returned_of g.P.Port.Tells (calls_of c.args.work.now c.args.calls c.args.nested c.args.sub (both_checked c.args.work.now c.args.both) (passed_list c.args.work.now z)) (Ok c.in_ok-returned.returned) c.args.store.now c.call_checked.new.store) c.as_slice.ensures c.in_ok-returned.ensures)) (search rules)

pub folds::combined_by_call-returns-in_err-returned : goal.folds::combined_by_call-returns-in_err-returned
folds::combined_by_call-returns-in_err-returned g t c = combined_ends c.args.work.now c.args.calls c.args.nested c.args.sub c.args.both c.args.store.now c.call_checked.new.store (passed_list c.args.work.now c.in_ok-passed.passed) c.in_err-returned.field-0.0 _ (search rules) (passed_as c.args.work.now c.args.sub c.args.both.a c.args.both.b _ _ (passed_list c.args.work.now c.in_ok-passed.passed) c.in_ok-passed.ensures (search rules) (search rules)) (subst (λ z. ShowsAs returned_of g.P.Port.Tells (calls_of c.args.work.now c.args.calls c.args.nested c.args.sub (both_checked c.args.work.now c.args.both) (passed_list c.args.work.now z)) (Err c.in_err-returned.field-0.0) c.args.store.now c.call_checked.new.store) c.as_slice.ensures c.in_err-returned.ensures)

pub folds::fold_share-returns-then-size-eq0 : goal.folds::fold_share-returns-then-size-eq0
folds::fold_share-returns-then-size-eq0 g t c = fold_share_none c.args.work.now c.args.calls c.args.by (course_of c.args.course) c.args.start (env_of c.args.env.now) c.args.chunking c.args.number c.args.first c.args.size c.args.store.now c.args.store.now _ (search rules) (search rules)

pub folds::fold_share-returns-in_ok-total : goal.folds::fold_share-returns-in_ok-total
folds::fold_share-returns-in_ok-total g t c = gives_as (share_folded c.args.work.now c.args.calls c.args.by (chunking_of c.args.chunking) (course_of c.args.course) c.args.start (env_of c.args.env.now) (record { number = c.args.number; first = c.args.first; size = c.args.size })) c.in_ok-total.total _ c.args.store.now c.fold_iterations.new.store (fold_share_on c.args.work.now c.args.calls c.args.by (course_of c.args.course) c.args.start (env_of c.args.env.now) c.args.chunking c.args.number c.args.first c.args.size c.args.store.now c.fold_iterations.new.store (env_of c.in_ok-inner.inner) (suc c.in_ok-last.last - c.args.first) _ (Ok c.in_ok-total.total) c.in_ok-inner.ensures (omega (arith, c.in_ok-last.ensures)) c.in_ok-total.ensures (search rules)) (search rules)

pub folds::fold_share-returns-in_err-total : goal.folds::fold_share-returns-in_err-total
folds::fold_share-returns-in_err-total g t c = fold_share_ends c.args.work.now c.args.calls c.args.by (course_of c.args.course) c.args.start (env_of c.args.env.now) c.args.chunking c.args.number c.args.first c.args.size c.args.store.now c.fold_iterations.new.store (env_of c.in_ok-inner.inner) (suc c.in_ok-last.last - c.args.first) _ c.in_err-total.field-0.0 _ (search rules) c.in_ok-inner.ensures (omega (arith, c.in_ok-last.ensures)) c.in_err-total.ensures (search rules)

pub constructs::run_threads-returns-in_err-first : goal.constructs::run_threads-returns-in_err-first
constructs::run_threads-returns-in_err-first g t c = threads_fail (threads_run c.args.work.now c.args.calls c.args.task c.args.sizes.now (env_of c.args.env.now)) first_of_both (share_run c.args.work.now c.args.calls c.args.task (env_of c.args.env.now)) c.turns-from.result c.loop-size.most c.loop-size.k c.loop-size.first c.args.sizes.now c.loop-size.over tt c.args.store.now c.loop-size.store c.rewind.new.self c.loop-size.invariant c.in-Some.size (search rules) c.rewind.ensures took_of c.run_thread.new.store (λ end. end ≡ c.loop-size.first + c.in-Some.size) c.in_ok-took.took c.in_err-first.field-0.0 _ (search rules) c.in_err-first.ensures c.in_ok-took.ensures

pub folds::fold_threads-returns-in_err-first : goal.folds::fold_threads-returns-in_err-first
folds::fold_threads-returns-in_err-first g t c = threads_folded_as c.args.work.now c.args.calls c.args.by (chunking_of c.args.chunking) (course_of c.args.course) c.args.start (to_z w64 (of_z w64 c.args.start)) c.args.sizes.now (env_of c.args.env.now) _ c.args.store.now c.fold_thread.new.store (threads_fail (threads_folded c.args.work.now c.args.calls c.args.by (chunking_of c.args.chunking) (course_of c.args.course) (to_z w64 (of_z w64 c.args.start)) c.args.sizes.now (env_of c.args.env.now)) after_all (share_folded c.args.work.now c.args.calls c.args.by (chunking_of c.args.chunking) (course_of c.args.course) (to_z w64 (of_z w64 c.args.start)) (env_of c.args.env.now)) c.turns-from.result c.loop-size.most c.loop-size.k c.loop-size.first c.args.sizes.now c.loop-size.over c.loop-size.values c.args.store.now c.loop-size.store c.rewind.new.self c.loop-size.invariant c.in-Some.size (search rules) c.rewind.ensures folded_of c.fold_thread.new.store (λ end. end ≡ c.loop-size.first + c.in-Some.size) c.in_ok-folded.folded c.in_err-first.field-0.0 _ (search rules) c.in_err-first.ensures c.in_ok-folded.ensures) (search rules)

pub folds::fold_threads-returns-in_err-push_some : goal.folds::fold_threads-returns-in_err-push_some
folds::fold_threads-returns-in_err-push_some g t c = threads_folded_as c.args.work.now c.args.calls c.args.by (chunking_of c.args.chunking) (course_of c.args.course) c.args.start (to_z w64 (of_z w64 c.args.start)) c.args.sizes.now (env_of c.args.env.now) _ c.args.store.now c.fold_thread.new.store (threads_fail (threads_folded c.args.work.now c.args.calls c.args.by (chunking_of c.args.chunking) (course_of c.args.course) (to_z w64 (of_z w64 c.args.start)) c.args.sizes.now (env_of c.args.env.now)) after_all (share_folded c.args.work.now c.args.calls c.args.by (chunking_of c.args.chunking) (course_of c.args.course) (to_z w64 (of_z w64 c.args.start)) (env_of c.args.env.now)) c.turns-from.result c.loop-size.most c.loop-size.k c.loop-size.first c.args.sizes.now c.loop-size.over c.loop-size.values c.args.store.now c.loop-size.store c.rewind.new.self c.loop-size.invariant c.in-Some.size (search rules) c.rewind.ensures folded_of c.fold_thread.new.store (λ (done : Unit {0}). Unit {0}) c.in_ok-folded.folded c.in_err-push_some.field-0.0 _ (search rules) c.in_err-push_some.ensures c.in_ok-folded.ensures) (search rules)

pub texts::get-returns-in_err-write : goal.texts::get-returns-in_err-write
texts::get-returns-in_err-write g t c = get_ends c.args.work.now c.args.calls (env_of c.args.env.now) c.args.store.now c.write.new.self c.args.first c.args.root (selections_at (nodes_of c.args.work.now) c.args.selections) c.args.scalar (part_of c.variable_root.result) c.in_ok-part.part c.in_ok-value.value c.select.new.store c.get.new.self c.variable_root.ensures c.in_ok-part.ensures c.in_ok-value.ensures _ c.in_err-write.field-0.0 _ (search rules) (search rules) c.in_err-write.ensures (search rules)

pub texts::get-returns-in_ok-write : goal.texts::get-returns-in_ok-write
texts::get-returns-in_ok-write g t c = get_on c.args.work.now c.args.calls (env_of c.args.env.now) c.args.store.now c.write.new.self c.args.first c.args.root (selections_at (nodes_of c.args.work.now) c.args.selections) c.args.scalar (part_of c.variable_root.result) c.in_ok-part.part c.in_ok-value.value c.select.new.store c.get.new.self c.variable_root.ensures c.in_ok-part.ensures c.in_ok-value.ensures _ (Ok tt) (search rules) c.in_ok-write.ensures (search rules)

pub texts::get-returns-else-is_in : goal.texts::get-returns-else-is_in
texts::get-returns-else-is_in g t c = get_not c.args.work.now c.args.calls (env_of c.args.env.now) c.args.store.now c.get.new.self c.args.first c.args.root (selections_at (nodes_of c.args.work.now) c.args.selections) c.args.scalar (part_of c.variable_root.result) c.in_ok-part.part c.in_ok-value.value c.select.new.store c.get.new.self c.variable_root.ensures c.in_ok-part.ensures c.in_ok-value.ensures (search rules)

pub loops::for_loop-returns-in-None : goal.loops::for_loop-returns-in-None
loops::for_loop-returns-in-None g t c = let none : (course_of c.args.course).count ≡ 0 = search rules in for_done (for_loop c.args.work.now c.args.calls (course_of c.args.course) (iteration_at (nodes_of c.args.work.now) c.args.iteration) (stmts_at (nodes_of c.args.work.now) c.args.stmts) (env_of c.args.env.now)) c.args.store.now c.args.store.now c.args.work.now c.args.calls 0 (course_of c.args.course) (iteration_at (nodes_of c.args.work.now) c.args.iteration) (stmts_at (nodes_of c.args.work.now) c.args.stmts) (env_of c.args.env.now) (omega (arith, none)) (for_begins c.args.store.now c.args.work.now c.args.calls (course_of c.args.course) (iteration_at (nodes_of c.args.work.now) c.args.iteration) (stmts_at (nodes_of c.args.work.now) c.args.stmts) (env_of c.args.env.now))

pub folds::fold_iterations-returns-in_err-total : goal.folds::fold_iterations-returns-in_err-total
folds::fold_iterations-returns-in_err-total g t c = fold_as c.args.work.now c.args.calls c.args.by (course_of c.args.course) (env_of c.args.env.now) c.args.first (suc c.args.last - c.args.first) (suc c.args.last - c.args.first) c.args.start (to_z w64 (of_z w64 c.args.start)) _ c.args.store.now c.fold_one.new.store refl (fold_ends c.args.work.now c.args.calls c.args.by (course_of c.args.course) (env_of c.args.env.now) (fold_left c.args.work.now c.args.calls c.args.by c.args.first (suc c.args.last - c.args.first) (course_of c.args.course) (to_z w64 (of_z w64 c.args.start)) (env_of c.args.env.now)) c.args.store.now c.loop-i.store c.fold_one.new.store c.loop-i.i (suc c.args.last) (to_z w64 c.loop-i.total-bits) (omega arith) c.loop-i.invariant _ c.in_err-total.field-0.0 _ (search rules) c.in_err-total.ensures (search rules)) (search rules)

pub folds::fold_iterations-returns-in_ok-total : goal.folds::fold_iterations-returns-in_ok-total
folds::fold_iterations-returns-in_ok-total g t c = gives_as (fold_left c.args.work.now c.args.calls c.args.by c.args.first (suc c.args.last - c.args.first) (course_of c.args.course) c.args.start (env_of c.args.env.now)) c.in_ok-total.total _ c.args.store.now c.fold_one.new.store (fold_as c.args.work.now c.args.calls c.args.by (course_of c.args.course) (env_of c.args.env.now) c.args.first (suc c.args.last - c.args.first) (suc c.args.last - c.args.first) c.args.start (to_z w64 (of_z w64 c.args.start)) (Ok c.in_ok-total.total) c.args.store.now c.fold_one.new.store refl (fold_done c.args.work.now c.args.calls c.args.by (course_of c.args.course) (env_of c.args.env.now) (fold_left c.args.work.now c.args.calls c.args.by c.args.first (suc c.args.last - c.args.first) (course_of c.args.course) (to_z w64 (of_z w64 c.args.start)) (env_of c.args.env.now)) c.args.store.now c.fold_one.new.store c.fold_one.new.store (c.loop-i.i + 1) (suc c.args.last) c.in_ok-total.total c.in_ok-total.total (omega arith) (fold_step c.args.work.now c.args.calls c.args.by (course_of c.args.course) (env_of c.args.env.now) (fold_left c.args.work.now c.args.calls c.args.by c.args.first (suc c.args.last - c.args.first) (course_of c.args.course) (to_z w64 (of_z w64 c.args.start)) (env_of c.args.env.now)) c.args.store.now c.loop-i.store c.fold_one.new.store c.loop-i.i (suc c.args.last) (to_z w64 c.loop-i.total-bits) (omega arith) c.loop-i.invariant _ c.in_ok-total.total _ c.in_ok-total.ensures (search rules) refl) refl) (search rules)) (search rules)

pub folds::combined_onto-loop-value-init : goal.folds::combined_onto-loop-value-init
folds::combined_onto-loop-value-init g t c = goes_refl (combined_onto c.args.work.now c.args.calls c.args.by c.args.nested (to_z w64 (of_z w64 c.args.first)) c.args.values.now) c.args.store.now

pub folds::reduced-returns-in-Function : goal.folds::reduced-returns-in-Function
folds::reduced-returns-in-Function g t c = reduced_shows c.args.work.now c.args.calls c.args.by c.args.nested c.in-Function.at c.in-Function.sub c.in-Function.accumulator c.in-Function.value c.args.a c.args.b _ _ _ c.args.store.now c.reduced_by_call.new.store (search rules) c.reduced_by_call.ensures (search rules) (search rules)

pub folds::combined_two-returns-in-Function : goal.folds::combined_two-returns-in-Function
folds::combined_two-returns-in-Function g t c = combined_shows c.args.work.now c.args.calls c.args.by c.args.nested c.in-Function.at c.in-Function.sub c.in-Function.accumulator c.in-Function.value c.args.a c.args.b _ _ _ c.args.store.now c.combined_by_call.new.store (search rules) c.combined_by_call.ensures (search rules) (search rules)

pub folds::fold_one-returns-in_err-total-in-Some : goal.folds::fold_one-returns-in_err-total-in-Some
folds::fold_one-returns-in_err-total-in-Some g t c = fold_one_stops c.args.work.now c.args.calls c.args.by (env_of c.args.env.now).nested _ ((course_of c.args.course).bound c.args.index (env_of c.args.env.now)) (env_of c.in_ok-inner.inner) c.args.so_far c.in-Some.v _ _ c.in_ok-found.found c.args.store.now c.iterated_value.new.store c.reduced.new.store c.in_ok-found.ensures (search rules) c.in_err-total-in-Some.field-0.0 _ (search rules) c.in_err-total-in-Some.ensures c.in_ok-inner.ensures (search rules) (search rules) (search rules)

pub folds::fold_one-returns-in_ok-total-in-Some : goal.folds::fold_one-returns-in_ok-total-in-Some
folds::fold_one-returns-in_ok-total-in-Some g t c = gives_as (fold_one c.args.work.now c.args.calls c.args.by (env_of c.args.env.now).nested ((course_of c.args.course).bound c.args.index (env_of c.args.env.now)) c.args.so_far) c.in_ok-total-in-Some.total _ c.args.store.now c.reduced.new.store (fold_one_on c.args.work.now c.args.calls c.args.by (env_of c.args.env.now).nested _ ((course_of c.args.course).bound c.args.index (env_of c.args.env.now)) (env_of c.in_ok-inner.inner) c.args.so_far c.in-Some.v _ _ c.in_ok-found.found c.args.store.now c.iterated_value.new.store c.reduced.new.store c.in_ok-found.ensures (search rules) (Ok c.in_ok-total-in-Some.total) c.in_ok-total-in-Some.ensures c.in_ok-inner.ensures (search rules) (search rules) (search rules)) (search rules)

pub constructs::begin_chunks-returns-in_ok-chunking-in-Some-Each : goal.constructs::begin_chunks-returns-in_ok-chunking-in-Some-Each
constructs::begin_chunks-returns-in_ok-chunking-in-Some-Each g t c = each_on c.args.work.now c.args.calls (env_of c.args.env.now) c.in-Some-Each.parameter (expr_at (nodes_of c.args.work.now) c.in-Some-Each.low) (expr_at (nodes_of c.args.work.now) c.in-Some-Each.high) c.check.result (chunk_at (nodes_of c.args.work.now) c.args.id) c.in_ok-l-in-Some-Each.l c.in_ok-h-in-Some-Each.h _ _ c.args.store.now c.eval-in-Some-Each.new.store c.eval-in-Some-Each-2.new.store (Ok c.in_ok-chunking-in-Some-Each.chunking) (search rules) c.in_ok-l-in-Some-Each.ensures c.in_ok-h-in-Some-Each.ensures c.in_ok-chunking-in-Some-Each.ensures (search rules) (search rules)

pub constructs::begin_chunks-returns-in_err-chunking-in-Some-Each : goal.constructs::begin_chunks-returns-in_err-chunking-in-Some-Each
constructs::begin_chunks-returns-in_err-chunking-in-Some-Each g t c = each_ends c.args.work.now c.args.calls (env_of c.args.env.now) c.in-Some-Each.parameter (expr_at (nodes_of c.args.work.now) c.in-Some-Each.low) (expr_at (nodes_of c.args.work.now) c.in-Some-Each.high) c.check.result (chunk_at (nodes_of c.args.work.now) c.args.id) c.in_ok-l-in-Some-Each.l c.in_ok-h-in-Some-Each.h _ _ c.args.store.now c.eval-in-Some-Each.new.store c.eval-in-Some-Each-2.new.store c.in_err-chunking-in-Some-Each.field-0.0 _ (search rules) (search rules) c.in_ok-l-in-Some-Each.ensures c.in_ok-h-in-Some-Each.ensures c.in_err-chunking-in-Some-Each.ensures (search rules) (search rules)

pub exprs::eval_by_parts-returns-in-None : goal.exprs::eval_by_parts-returns-in-None
exprs::eval_by_parts-returns-in-None g t c = reduction_shows c.args.work.now c.args.calls (expr_at (nodes_of c.args.work.now) c.args.id) (expr_at (nodes_of c.args.work.now) c.in-Reduction.initial) c.in-Reduction.at c.in-Reduction.attribute (reducer_at (nodes_of c.args.work.now) c.in-Reduction.reducer) c.reducer.result (chunk_at (nodes_of c.args.work.now) c.in-Reduction.chunk) c.in-Reduction.iteration c.in-Reduction.value (env_of c.args.env.now) _ c.args.store.now c.reduction.new.store c.reducer.ensures (search rules) c.reduction.ensures

pub exprs::eval_by_parts-returns-in-Some : goal.exprs::eval_by_parts-returns-in-Some
exprs::eval_by_parts-returns-in-Some g t c = parallel_reduction_shows c.args.work.now c.args.calls (expr_at (nodes_of c.args.work.now) c.args.id) (expr_at (nodes_of c.args.work.now) c.in-Reduction.initial) c.in-Reduction.at c.in-Reduction.attribute (reducer_at (nodes_of c.args.work.now) c.in-Reduction.reducer) c.reducer.result (chunk_at (nodes_of c.args.work.now) c.in-Reduction.chunk) c.in-Reduction.iteration c.in-Reduction.value (env_of c.args.env.now) _ c.args.store.now c.parallel_reduction.new.store c.reducer.ensures c.in-Some.field-0 (search rules) c.parallel_reduction.ensures

pub folds::reduced-returns-in-Operator : goal.folds::reduced-returns-in-Operator
folds::reduced-returns-in-Operator g t c = reduced_operator c.args.work.now c.args.calls c.args.by c.args.nested c.in-Operator.at c.in-Operator.op c.in-Operator.class c.args.a c.args.b _ _ _ c.args.store.now c.args.store.now (search rules) c.operate.ensures (search rules) (search rules)

pub folds::combined_two-returns-in-Operator : goal.folds::combined_two-returns-in-Operator
folds::combined_two-returns-in-Operator g t c = combined_operator c.args.work.now c.args.calls c.args.by c.args.nested c.in-Operator.at c.in-Operator.op c.in-Operator.class c.args.a c.args.b _ _ _ c.args.store.now c.args.store.now (search rules) c.operate.ensures (search rules) (search rules)

pub stmts::exec-returns-in-Get : goal.stmts::exec-returns-in-Get
stmts::exec-returns-in-Get g t c = get_shows c.args.work.now c.args.calls (env_of c.args.env.now) c.args.store.now c.get.new.store (stmt_at (nodes_of c.args.work.now) c.args.id) c.in-Get.at c.in-Get.callee c.in-Get.first c.in-Get.root (selections_at (nodes_of c.args.work.now) c.in-Get.selections) c.in-Get.scalar _ (search rules) c.get.ensures

pub chains::operator-returns-in_ok-y-in-Operator : goal.chains::operator-returns-in_ok-y-in-Operator
chains::operator-returns-in_ok-y-in-Operator g t c = operated c.args.work.now c.args.calls (env_of c.args.env.now) c.in-Operator.at c.in-Operator.op c.in-Operator.class c.in-Operator.right c.args.link c.args.x _ c.in_ok-y-in-Operator.y _ c.args.store.now c.eval.new.store c.operate.result (search rules) c.in_ok-y-in-Operator.ensures c.operate.ensures (search rules) (search rules)

pub constructs::begin_chunks-returns-in_ok-most-in-Some-Count : goal.constructs::begin_chunks-returns-in_ok-most-in-Some-Count
constructs::begin_chunks-returns-in_ok-most-in-Some-Count g t c = count_on c.args.work.now c.args.calls (env_of c.args.env.now) (expr_at (nodes_of c.args.work.now) c.in-Some-Count.value) (chunk_at (nodes_of c.args.work.now) c.args.id) (search rules) c.in_ok-v-in-Some-Count.v (to_z w64 (of_z w64 c.in_ok-v-in-Some-Count.v)) c.args.store.now c.eval.new.store c.in_ok-v-in-Some-Count.ensures c.in_ok-most-in-Some-Count.most c.in_ok-most-in-Some-Count.ensures (search rules)

pub constructs::begin_chunks-returns-in_err-most-in-Some-Count : goal.constructs::begin_chunks-returns-in_err-most-in-Some-Count
constructs::begin_chunks-returns-in_err-most-in-Some-Count g t c = count_ends c.args.work.now c.args.calls (env_of c.args.env.now) (expr_at (nodes_of c.args.work.now) c.in-Some-Count.value) (chunk_at (nodes_of c.args.work.now) c.args.id) (search rules) c.in_ok-v-in-Some-Count.v (to_z w64 (of_z w64 c.in_ok-v-in-Some-Count.v)) c.args.store.now c.eval.new.store c.in_ok-v-in-Some-Count.ensures c.in_err-most-in-Some-Count.field-0.0 _ (search rules) c.in_err-most-in-Some-Count.ensures (search rules)

pub constructs::parallel_block-returns : goal.constructs::parallel_block-returns
constructs::parallel_block-returns g t c = parallel_block_on c.args.work.now c.args.calls (env_of c.args.env.now) (env_of c.in_ok-inner.inner) c.in_ok-inner.ensures c.args.store.now c.threads_of.new.store c.dealt_arms.new.store (optional_at (nodes_of c.args.work.now) c.args.count) (arms_at (nodes_of c.args.work.now) c.args.arms) c.in_ok-opened.ensures c.in_ok-most.most (Ok tt) c.in_ok-most.ensures c.in_ok-dealt_arms.ensures

pub constructs::threads_of-returns-in_ok-most-in-Some : goal.constructs::threads_of-returns-in_ok-most-in-Some
constructs::threads_of-returns-in_ok-most-in-Some g t c = threads_on c.args.work.now c.args.calls (env_of c.args.env.now) c.args.id _ c.in-Some.ensures.is c.in_ok-value-in-Some.value (to_z w64 (of_z w64 c.in_ok-value-in-Some.value)) c.args.store.now c.eval.new.store c.in_ok-value-in-Some.ensures (Ok c.in_ok-most-in-Some.most) c.in_ok-most-in-Some.ensures (search rules)

pub constructs::threads_of-returns-in_err-most-in-Some : goal.constructs::threads_of-returns-in_err-most-in-Some
constructs::threads_of-returns-in_err-most-in-Some g t c = threads_ends c.args.work.now c.args.calls (env_of c.args.env.now) c.args.id _ c.in-Some.ensures.is c.in_ok-value-in-Some.value (to_z w64 (of_z w64 c.in_ok-value-in-Some.value)) c.args.store.now c.eval.new.store c.in_ok-value-in-Some.ensures c.in_err-most-in-Some.field-0.0 _ (search rules) c.in_err-most-in-Some.ensures (search rules)

pub scalars::with_scalars-returns-in-None : goal.scalars::with_scalars-returns-in-None
scalars::with_scalars-returns-in-None g t c = λ all. scalars_none c.args.work.now c.args.calls c.args.nested (sub_of (nodes_of c.args.work.now) c.args.sub) all c.args.rest.now c.function_value.result c.args.store.now c.function_value.new.store c.in-None.ensures.cases c.function_value.ensures

pub scalars::with_scalars-returns-in_err-mark-in-Some : goal.scalars::with_scalars-returns-in_err-mark-in-Some
scalars::with_scalars-returns-in_err-mark-in-Some g t c = λ all. scalars_fail c.args.work.now c.args.calls c.args.nested (sub_of (nodes_of c.args.work.now) c.args.sub) all c.in-Some.first.now c.in-Some.others.now c.args.rest.now (search rules) c.in_err-mark-in-Some.field-0.0 _ c.args.store.now c.begin.new.self (search rules) (search rules)

pub scalars::with_scalars-returns-in_ok-mark-in-Some : goal.scalars::with_scalars-returns-in_ok-mark-in-Some
scalars::with_scalars-returns-in_ok-mark-in-Some g t c = λ all. rw c.end.ensures (scalars_more c.args.work.now c.args.calls c.args.nested (sub_of (nodes_of c.args.work.now) c.args.sub) all c.in-Some.first.now c.in-Some.others.now c.args.rest.now (search rules) c.in_ok-mark-in-Some.mark c.with_scalars-result.result c.args.store.now c.begin.new.self c.with_scalars-result.new.store (search rules) (c.with_scalars-result.ensures all))

pub scalars::called-returns-in_ok-before-in-Some : goal.scalars::called-returns-in_ok-before-in-Some
scalars::called-returns-in_ok-before-in-Some g t c = rw c.leave.ensures (called_more (value_returned c.args.given.now) c.args.work.now c.args.calls c.args.number c.args.nested (in_list c.args.given.now) (sub_of (nodes_of c.args.work.now) c.in-Some.sub) (search rules) c.in_ok-before-in-Some.before c.with_scalars-result.result c.args.store.now c.enter.new.self c.with_scalars-result.new.store c.in_ok-before-in-Some.ensures (c.with_scalars-result.ensures c.args.given.now))

pub scalars::call_scalars-returns-in_err-turned : goal.scalars::call_scalars-returns-in_err-turned
scalars::call_scalars-returns-in_err-turned g t c = call_ends (value_returned c.args.given.now) c.args.work.now c.args.nested c.args.sub (in_list c.args.given.now) c.args.store.now c.turned.new.store c.args.calls c.in_err-turned.field-0.0 _ (search rules) c.in_err-turned.ensures

pub scalars::call_scalars-returns-in_err-value : goal.scalars::call_scalars-returns-in_err-value
scalars::call_scalars-returns-in_err-value g t c = call_step (value_returned c.args.given.now) c.args.work.now c.args.nested c.args.sub (in_list c.args.given.now) c.args.store.now c.turned.new.store c.args.calls c.from_residual-in_err-value.result c.called.new.store (omega arith) c.in_ok-turned.ensures (search rules)

pub scalars::call_scalars-returns-in_ok-value : goal.scalars::call_scalars-returns-in_ok-value
scalars::call_scalars-returns-in_ok-value g t c = same_value c.args.given.now (calls_of c.args.work.now c.args.calls c.args.nested c.args.sub (ret tt) (in_list c.args.given.now)) c.in_ok-value.value (to_z w64 (of_z w64 c.in_ok-value.value)) c.args.store.now c.called.new.store (search rules) (call_step (value_returned c.args.given.now) c.args.work.now c.args.nested c.args.sub (in_list c.args.given.now) c.args.store.now c.turned.new.store c.args.calls (Ok c.in_ok-value.value) c.called.new.store (omega arith) c.in_ok-turned.ensures c.in_ok-value.ensures)

pub stmts::call_procedure-returns-in_ok-call_scalars-in-Some : goal.stmts::call_procedure-returns-in_ok-call_scalars-in-Some
stmts::call_procedure-returns-in_ok-call_scalars-in-Some g t c = procedure_given c.args.work.now c.args.calls c.args.sub (actuals_at (nodes_of c.args.work.now) c.args.actuals) (env_of c.args.env.now) c.in-Some.given c.as_slice.result.now c.nested.result c.in_ok-call_scalars-in-Some.field-0 c.args.store.now c.call_scalars.new.store c.in-Some.ensures (search rules) (search rules) c.in_ok-call_scalars-in-Some.ensures

pub folds::fold_one-returns-in_err-found : goal.folds::fold_one-returns-in_err-found
folds::fold_one-returns-in_err-found g t c = fold_one_fails c.args.work.now c.args.calls c.args.by (env_of c.args.env.now).nested ((course_of c.args.course).bound c.args.index (env_of c.args.env.now)) (env_of c.in_ok-inner.inner) c.args.so_far c.args.store.now c.iterated_value.new.store c.in_err-found.field-0.0 _ (search rules) c.in_err-found.ensures c.in_ok-inner.ensures

pub loops::for_loop-returns-in_err-iterate-in-Some : goal.loops::for_loop-returns-in_err-iterate-in-Some
loops::for_loop-returns-in_err-iterate-in-Some g t c = for_ends (for_loop c.args.work.now c.args.calls (course_of c.args.course) (iteration_at (nodes_of c.args.work.now) c.args.iteration) (stmts_at (nodes_of c.args.work.now) c.args.stmts) (env_of c.args.env.now)) c.args.store.now c.loop-i.store c.iterate.new.store c.args.work.now c.args.calls c.loop-i.i (course_of c.args.course) (iteration_at (nodes_of c.args.work.now) c.args.iteration) (stmts_at (nodes_of c.args.work.now) c.args.stmts) (env_of c.args.env.now) (omega (arith, c.loop-i.invariant.counted)) c.loop-i.invariant.on c.in_err-iterate-in-Some.field-0.0 _ (search rules) c.in_err-iterate-in-Some.ensures

pub loops::while_loop-returns-in_err-turned : goal.loops::while_loop-returns-in_err-turned
loops::while_loop-returns-in_err-turned g t c = while_turn_ends (while_loop c.args.work.now c.args.calls (optional_at (nodes_of c.args.work.now) c.args.condition) (stmts_at (nodes_of c.args.work.now) c.args.stmts) (env_of c.args.env.now)) c.args.store.now c.loop-turn.store c.holds.new.store c.args.work.now c.args.calls (suc c.args.work.now.limit - c.loop-turn.turn) (c.args.work.now.limit - c.loop-turn.turn) (optional_at (nodes_of c.args.work.now) c.args.condition) (stmts_at (nodes_of c.args.work.now) c.args.stmts) (env_of c.args.env.now) (omega arith) c.loop-turn.invariant c.in_ok-goes_on.goes_on (search rules) c.in_ok-goes_on.ensures c.turned.new.store c.in_err-turned.field-0.0 _ (search rules) c.in_err-turned.ensures

pub loops::while_loop-returns-in_err-exec_all : goal.loops::while_loop-returns-in_err-exec_all
loops::while_loop-returns-in_err-exec_all g t c = while_body_ends (while_loop c.args.work.now c.args.calls (optional_at (nodes_of c.args.work.now) c.args.condition) (stmts_at (nodes_of c.args.work.now) c.args.stmts) (env_of c.args.env.now)) c.args.store.now c.loop-turn.store c.holds.new.store c.args.work.now c.args.calls (suc c.args.work.now.limit - c.loop-turn.turn) (c.args.work.now.limit - c.loop-turn.turn) (optional_at (nodes_of c.args.work.now) c.args.condition) (stmts_at (nodes_of c.args.work.now) c.args.stmts) (env_of c.args.env.now) (omega arith) c.loop-turn.invariant c.in_ok-goes_on.goes_on (search rules) c.in_ok-goes_on.ensures c.turned.new.store c.in_ok-turned.ensures c.exec_all.new.store c.in_err-exec_all.field-0.0 _ (search rules) c.in_err-exec_all.ensures
