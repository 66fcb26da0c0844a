-- What the functions of the walk compute, a word for each.
use Rattle.std.specs.Prelude.{ℕ, suc, min, ℤ, ◌*◌, ◌-ℤ◌, Bool, not, true, false, List, [], ◌∷◌, ◌++◌, slice_get, Option, Some, None, is_some, cond}
use Rattle.ada_base.specs.Cuts.{evens, cuts_of}
use Rattle.ada_base.specs.declared.reason.Reason.{Reason}
use Rattle.ada_base.specs.declared.reason.Reason.TheVariants as reason
use Rattle.behaviours.specs.Doings.{through, folded, onto}
use Rattle.behaviours.specs.Joins.{Share, deal}
use Rattle.behaviours.specs.Paths.{VariableOf, ConstantOf, Region, Here, Exits, Returns, Raises}
use Rattle.typed_tree.specs.declared.node.Link.{Link}
use Rattle.typed_tree.specs.declared.node.Link.TheVariants as link
use Rattle.typed_tree.specs.Decoded.{expr_at, iteration_at, stmts_at, arms_at, value_at, selections_at, scalar_at}
use Rattle.typed_tree.specs.declared.scalars.Class.{Class}
use Rattle.typed_tree.specs.declared.scalars.Scalar.{Scalar}
use Rattle.typed_tree.specs.declared.scalars.Check.{Check}
use Rattle.ada_base.specs.declared.operation.Comparison.{Comparison}
use Rattle.typed_tree.specs.declared.expressions.Sign.{Sign}
use Rattle.typed_tree.specs.declared.expressions.Root.{Root}
use Rattle.typed_tree.specs.declared.expressions.Run.{Run}
use Rattle.typed_tree.specs.declared.expressions.Actual.{Actual}
use Rattle.typed_tree.specs.declared.expressions.Actual.TheVariants as actual
use Rattle.typed_tree.specs.declared.expressions.Iterated.{Iterated}
use Rattle.typed_tree.specs.Syntax.{Expr, Optional, Selections, Actuals, Value, Composite, Associations, Iteration, Chunk, Pieces, Stmt, Stmts, Alternatives, Arms, Handlers, Decls, Body, Sub}
use Rattle.typed_tree.specs.Programs.{program}
use Rattle.ada_meaning.specs.Values.{truth, bit, compares, number_in, is_member, between, to_nat, is_in, image_of}
use Rattle.ada_meaning.specs.Operations.{IndexCheck, RangeCheck, Sized, operate, reduce}
use Rattle.ada_meaning.specs.Meaning as meaning
use Rattle.ada_meaning.specs.Meaning.{Env, ObjectPart, Passed, Returned, Back, Course, Chunking, inside, variable_root, constant_root, moved, with_target, iterated_env, outset, returns, exits, value_of, sub_at}
use Rattle.ada_meaning.specs.Stored
use Rattle.ada_meaning.specs.Stored.{Stored, Took, thread, par, first_of_both, after_all, doings, bind, ret, leaves, handles, apart, reads, writes, checks, puts}
use Rattle.ada_base.specs.Image.{padded}
use Rattle.run_store.specs.Input.{got}
use Rattle.run_values.specs.Values.{unary_then}
use Rattle.run_parts.specs.declared.work.Work.{Work}
use Rattle.run_parts.specs.Dealing.{opened, count_checked, chunking_of}
use Rattle.run_parts.specs.Passing.{course_of}
use Rattle.run_walk.specs.declared.constructs.Task.{Task}
use Rattle.run_walk.specs.declared.constructs.Task.TheVariants as task
use Rattle.run_walk.specs.declared.folds.Fold.{Fold}
use Rattle.run_parts.specs.Words.{nodes_of, ops, calls_of, cells_at, read_all, write_all, back_cells, all_copied_back, reduced_by}
use Rattle.run_parts.specs.declared.reducers.Both.{Both}
use Rattle.run_parts.specs.Reducing.{both_checked}

unfoldable pub eval : Work → ℕ → Expr → Env → Stored ℤ
eval w d e env = meaning.eval (ops w) w.limit (program w.typed.now) (calls_of w d) e env

unfoldable pub holds : Work → ℕ → Optional → Env → Stored Bool
holds w d e env = meaning.holds (ops w) w.limit (program w.typed.now) (calls_of w d) e env

unfoldable pub select : Work → ℕ → Selections → Env → ObjectPart → Stored ObjectPart
select w d ss env p = meaning.select (ops w) w.limit (program w.typed.now) (calls_of w d) ss env p

unfoldable pub pass : Work → ℕ → Actuals → Env → List Passed → Stored (List Passed)
pass w d as' env so_far = meaning.pass (ops w) w.limit (program w.typed.now) (calls_of w d) as' env so_far

unfoldable pub cells : Work → ℕ → Value → Env → Stored (List ℤ)
cells w d v env = meaning.cells (ops w) w.limit (program w.typed.now) (calls_of w d) v env

unfoldable pub composite : Work → ℕ → Composite → Env → Stored (List ℤ)
composite w d c env = meaning.composite (ops w) w.limit (program w.typed.now) (calls_of w d) c env

unfoldable pub associated : Work → ℕ → Associations → Env → List ℤ → Stored (List ℤ)
associated w d as' env so_far = meaning.associated (ops w) w.limit (program w.typed.now) (calls_of w d) as' env so_far

unfoldable pub written : Work → ℕ → Pieces → Env → List ℕ → Stored (List ℕ)
written w d ps env so_far = meaning.written (ops w) w.limit (program w.typed.now) (calls_of w d) ps env so_far

unfoldable pub course : Work → ℕ → Iteration → Env → Stored Course
course w d it env = meaning.course (ops w) w.limit (program w.typed.now) (calls_of w d) it env

unfoldable pub chunking : Work → ℕ → Chunk → Env → Stored Chunking
chunking w d c env = meaning.chunking (ops w) w.limit (program w.typed.now) (calls_of w d) c env

unfoldable pub threads_of : Work → ℕ → Optional → Env → Stored ℕ
threads_of w d e env = meaning.threads_of (ops w) w.limit (program w.typed.now) (calls_of w d) e env

unfoldable pub filtered : Work → ℕ → Iteration → Env → Stored Bool
filtered w d it env = meaning.filtered (ops w) w.limit (program w.typed.now) (calls_of w d) it env

unfoldable pub exec : Work → ℕ → Stmt → Env → Stored (Unit {0})
exec w d s env = meaning.exec (ops w) w.limit (program w.typed.now) (calls_of w d) s env

unfoldable pub exec_all : Work → ℕ → Stmts → Env → Stored (Unit {0})
exec_all w d ss env = meaning.exec_all (ops w) w.limit (program w.typed.now) (calls_of w d) ss env

unfoldable pub exec_chosen : Work → ℕ → Alternatives → ℤ → Env → Stored (Unit {0})
exec_chosen w d as' v env = meaning.exec_chosen (ops w) w.limit (program w.typed.now) (calls_of w d) as' v env

unfoldable pub exec_arm : Work → ℕ → Arms → ℕ → Env → Stored (Unit {0})
exec_arm w d arms i env = meaning.exec_arm (ops w) w.limit (program w.typed.now) (calls_of w d) arms i env

unfoldable pub exec_handler : Work → ℕ → Handlers → Reason → Env → Stored (Unit {0})
exec_handler w d hs r env = meaning.exec_handler (ops w) w.limit (program w.typed.now) (calls_of w d) hs r env

module _ (w : Work) (d : ℕ) where
  -- ---- expressions

  abbrev pub variable : Root → Selections → Env → Stored ℤ
  variable r ss env = bind (select w d ss env (variable_root r env)) (λ p. reads (VariableOf p.object) p.offset)

  abbrev pub constant : Root → Selections → Env → Stored ℤ
  constant r ss env = bind (select w d ss env (constant_root r env)) (λ p. reads (ConstantOf p.object) p.offset)

  abbrev pub target : Env → Stored ℤ
  target env = reads (VariableOf env.target.object) env.target.offset

  abbrev pub unary_of : Sign → ℕ → Class → Expr → Env → Stored ℤ
  unary_of s at class e env = bind (eval w d e env) (λ v. unary_then s at class v)

  abbrev pub relation : Class → Comparison → Expr → Expr → Env → Stored ℤ
  relation class c e f env = bind (eval w d e env) (λ x. bind (eval w d f env) (λ y. ret (bit (compares c (number_in class x) (number_in class y)))))

  abbrev pub membership : Class → Bool → Expr → Expr → Expr → Env → Stored ℤ
  membership class negated e low high env =
      bind (eval w d e env) (λ x. bind (eval w d low env) (λ l. bind (eval w d high env) (λ h. ret (bit (cond negated (not (is_member class l x h)) (is_member class l x h))))))

  abbrev pub conditional : Expr → Expr → Expr → Env → Stored ℤ
  conditional c e f env = bind (eval w d c env) (λ x. cond (truth x) (eval w d e env) (eval w d f env))

  abbrev pub converted : Check → Expr → Env → Stored ℤ
  converted check e env = bind (eval w d e env) (λ v. bind (meaning.checked (ops w) check v) (λ _. ret v))

  abbrev pub call_function : ℕ → Actuals → Env → Stored ℤ
  call_function s as' env = bind (pass w d as' env []) (λ passed. bind (calls_of w d env.nested s (ret tt) passed) (λ r. ret r.value))

  -- chains of operators: one after the value of its left operand; one with its operands; all of a list over a part, the last
  -- one first; and those that are left, with the value of what comes before

  abbrev pub operator : Link → Env → ℤ → Stored ℤ
  operator (link.Operator at op class right) env x = bind (eval w d (expr_at (nodes_of w) right) env) (λ y. operate doings checks op at class x y)
  operator (link.AndThen right) env x = cond (truth x) (eval w d (expr_at (nodes_of w) right) env) (ret (bit false))
  operator (link.OrElse right) env x = cond (truth x) (ret (bit true)) (eval w d (expr_at (nodes_of w) right) env)

  abbrev pub operators : Link → Expr → Env → Stored ℤ
  operators l e env = bind (eval w d e env) (λ x. operator l env x)

  abbrev pub linked_on : List Link → Env → Stored ℤ → Stored ℤ
  linked_on [] env m = m
  linked_on (l ∷ ls) env m = bind (linked_on ls env m) (λ x. operator l env x)

  abbrev pub chain_left : List Link → Env → ℤ → Stored ℤ
  chain_left [] env v = ret v
  chain_left (l ∷ []) env v = operator l env v
  chain_left (l ∷ (k ∷ ls)) env v = bind (chain_left (k ∷ ls) env v) (λ x. operator l env x)

  -- ---- selections

  abbrev pub field : ℕ → Selections → Env → ObjectPart → Stored ObjectPart
  field offset rest env p = select w d rest env (moved p offset)

  abbrev pub index : ℕ → Expr → ℤ → ℤ → ℕ → Selections → Env → ObjectPart → Stored ObjectPart
  index at e low high stride rest env p =
      bind (eval w d e env) (λ i. bind (checks IndexCheck at (between low i high)) (λ _. select w d rest env (moved p (to_nat (i -ℤ low) * stride))))

  -- ---- what is stored

  abbrev pub assigned : Value → ObjectPart → Env → Stored (Unit {0})
  assigned v p env = bind (cells w d v env) (λ cs. write_all w p.object p.offset cs)

  abbrev pub assign : Root → Selections → Value → Env → Stored (Unit {0})
  assign r ss v env = bind (select w d ss env (variable_root r env)) (λ p. assigned v p (with_target p env))

  abbrev pub number : Check → Expr → Env → Stored (List ℤ)
  number check e env = bind (eval w d e env) (λ v. bind (meaning.checked (ops w) check v) (λ _. ret (v ∷ [])))

  abbrev pub whole_variable : Root → Selections → ℕ → Env → Stored (List ℤ)
  whole_variable r ss n env = bind (select w d ss env (variable_root r env)) (λ p. read_all w (VariableOf p.object) p.offset [] (cells_at w n))

  abbrev pub whole_constant : Root → Selections → ℕ → Env → Stored (List ℤ)
  whole_constant r ss n env = bind (select w d ss env (constant_root r env)) (λ p. read_all w (ConstantOf p.object) p.offset [] (cells_at w n))

  abbrev pub composite_if : Expr → Composite → Composite → Env → Stored (List ℤ)
  composite_if c e f env = bind (eval w d c env) (λ x. cond (truth x) (composite w d e env) (composite w d f env))

  -- the cells of one component of an association, with its turn and without
  abbrev pub placed_value : Option Iterated → ℕ → Value → Env → Stored (List ℤ)
  placed_value iterated k v env = cells w d v (iterated_env iterated k env)

  abbrev pub given : Bool → Option Iterated → ℕ → Value → Env → Stored (List ℤ)
  given turns iterated k v env = bind (meaning.value_turn (ops w) turns) (λ _. placed_value iterated k v env)

  unfoldable pub run_values : ℕ → ℕ → ℕ → ℕ → Bool → Option Iterated → Value → Env → List ℤ → Stored (List ℤ)
  run_values k n first stride turns iterated v env so_far = meaning.run_values (ops w) k n first stride (λ k. given turns iterated k v env) so_far

  unfoldable pub runs_values : List Run → Bool → Option Iterated → Value → Env → List ℤ → Stored (List ℤ)
  runs_values rs turns iterated v env so_far = meaning.runs_values (ops w) rs (λ k. given turns iterated k v env) so_far

  -- the cells of the components of an association
  unfoldable pub association_values : List Run → Option Iterated → Value → Env → List ℤ → Stored (List ℤ)
  association_values rs iterated v env so_far = runs_values rs (is_some iterated) iterated v env so_far

  -- ---- actual parameters, each evaluated, read and checked

  abbrev pub in_passed : ℕ → Value → Env → Stored Passed
  in_passed formal v env = bind (cells w d v env) (λ cs. ret (record { formal = ConstantOf formal; cells = cs; back = None }))

  abbrev pub back_to : ObjectPart → List Scalar → Option Check → Option Back
  back_to p ss check = Some (record { part = p; cells = ss; check = check })

  abbrev pub in_out_passed : ℕ → ℕ → Root → Selections → Scalar → Scalar → Env → Stored Passed
  in_out_passed formal at r ss inner outer env =
      bind (select w d ss env (variable_root r env)) (λ p. bind (reads (VariableOf p.object) p.offset) (λ v. bind (meaning.checked (ops w) (record { at = at; scalar = inner }) v) (λ _.
      ret (record { formal = VariableOf formal; cells = v ∷ []; back = back_to p (inner ∷ []) (Some (record { at = at; scalar = outer })) }))))

  abbrev pub out_passed : ℕ → ℕ → Root → Selections → Scalar → Scalar → Env → Stored Passed
  out_passed formal at r ss inner outer env =
      bind (select w d ss env (variable_root r env)) (λ p. ret (record { formal = VariableOf formal; cells = inner.low ∷ []; back = back_to p (inner ∷ []) (Some (record { at = at; scalar = outer })) }))

  abbrev pub whole_passed : ℕ → Root → Selections → ℕ → Env → Stored Passed
  whole_passed formal r ss n env =
      bind (select w d ss env (variable_root r env)) (λ p. bind (read_all w (VariableOf p.object) p.offset [] (cells_at w n)) (λ vs.
      ret (record { formal = VariableOf formal; cells = vs; back = back_to p (cells_at w n) None })))

  abbrev pub one_passed : Actual → Env → Stored Passed
  one_passed (actual.In formal v) env = in_passed formal (value_at (nodes_of w) v) env
  one_passed (actual.InOut formal at r ss inner outer) env = in_out_passed formal at r (selections_at (nodes_of w) ss) (scalar_at (nodes_of w) inner) (scalar_at (nodes_of w) outer) env
  one_passed (actual.Out formal at r ss inner outer) env = out_passed formal at r (selections_at (nodes_of w) ss) (scalar_at (nodes_of w) inner) (scalar_at (nodes_of w) outer) env
  one_passed (actual.CompositeInOut formal at r ss n) env = whole_passed formal r (selections_at (nodes_of w) ss) n env
  one_passed (actual.CompositeOut formal at r ss n) env = whole_passed formal r (selections_at (nodes_of w) ss) n env

  -- ---- calls

  abbrev pub body : Body → Region → Env → Stored (Unit {0})
  body b region env = meaning.exec_body (ops w) w.limit (program w.typed.now) (calls_of w d) b region env

  abbrev pub function_value : Sub → ℕ → Stored ℤ
  function_value sub nested = handles (bind (body sub.body Here (outset nested)) (λ _. meaning.ended (ops w) w.limit (program w.typed.now) sub.result)) returns (λ how. ret (value_of how))

  abbrev pub carried_out : Sub → ℕ → List Passed → Stored Returned
  carried_out sub nested passed = bind (function_value sub nested) (λ v. bind (back_cells w passed []) (λ vss. ret (record { value = v; cells = vss })))

  unfoldable pub with_formals : Sub → ℕ → List Passed → List Passed → Stored Returned
  with_formals sub nested all rest = meaning.with_formals (ops w) w.limit (program w.typed.now) rest (carried_out sub nested all)

  abbrev pub called_sub : Option Sub → ℕ → List Passed → Stored Returned
  called_sub None nested passed = leaves (Raises reason.ProgramError)
  called_sub (Some sub) nested passed = apart (with_formals sub nested passed passed)

  abbrev pub called : ℕ → ℕ → List Passed → Stored Returned
  called s nested passed = called_sub (sub_at (program w.typed.now).subs s) nested passed

  -- ---- reductions

  abbrev pub reduced : Fold → ℕ → ℤ → ℤ → Stored ℤ
  reduced by nested a b = reduce doings checks by.reducer by.attribute (meaning.fold_call (ops w) w.limit (program w.typed.now) (calls_of w d) by.reducer nested) a b

  abbrev pub iterated_value : Fold → Env → Stored (Option ℤ)
  iterated_value by env = meaning.iterate_value (ops w) (filtered w d (iteration_at (nodes_of w) by.iteration) env) (eval w d (expr_at (nodes_of w) by.value) env)

  abbrev pub fold_one : Fold → ℕ → Env → ℤ → Stored ℤ
  fold_one by nested env so_far = bind (iterated_value by env) (λ v. folded doings (reduced by nested) so_far v)

  -- so many iterations from one on
  unfoldable pub fold_left : Fold → ℕ → ℕ → Course → ℤ → Env → Stored ℤ
  fold_left by i n c so_far env = through doings i n so_far (λ i total. fold_one by env.nested (c.bound i env) total)

  abbrev pub reduction : Fold → Expr → Env → Stored ℤ
  reduction by initial env = bind (eval w d initial env) (λ start. bind (course w d (iteration_at (nodes_of w) by.iteration) env) (λ c. fold_left by 0 c.count c start env))

  -- where accumulators of threads are combined

  -- by a call of a function, in a thread and where accumulators are combined: there its checks come after the turn
  abbrev pub reduced_by_call : ℕ → ℕ → Both → Stored ℤ
  reduced_by_call nested s both = bind (both_checked w both) (λ _. bind (calls_of w d nested s (ret tt) (reduced_by w s both.a both.b)) (λ r. ret r.value))

  abbrev pub combined_by_call : ℕ → ℕ → Both → Stored ℤ
  combined_by_call nested s both = bind (calls_of w d nested s (both_checked w both) (reduced_by w s both.a both.b)) (λ r. ret r.value)

  abbrev pub combined_two : Fold → ℕ → ℤ → ℤ → Stored ℤ
  combined_two by nested a b = reduce doings checks by.reducer by.attribute (meaning.combine_call (ops w) w.limit (program w.typed.now) (calls_of w d) by.reducer nested) a b

  unfoldable pub combined_onto : Fold → ℕ → ℤ → List ℤ → Stored ℤ
  combined_onto by nested a bs = onto doings a bs (combined_two by nested)

  unfoldable pub combined : Fold → ℕ → ℤ → List ℤ → Stored ℤ
  combined by nested start vs = Stored.combined w.limit (cuts_of w.plan.now) start vs (combined_two by nested)

  -- what a thread folds, in a construct; and all threads
  unfoldable pub share_folded : Fold → Chunking → Course → ℤ → Env → Share → Stored ℤ
  share_folded by k c start env s = through doings s.first s.size start (λ i total. fold_one by env.nested (c.bound i (k.bound s.number env)) total)

  abbrev pub thread_folded : Fold → Chunking → Course → ℤ → ℕ → Share → Env → Stored (Took ℤ)
  thread_folded by k c start most s env = thread most (share_folded by k c start env s)

  unfoldable pub threads_folded : Fold → Chunking → Course → ℤ → List ℕ → Env → Stored (List ℤ)
  threads_folded by k c start sizes env = par after_all [] (deal 0 0 sizes) (share_folded by k c start env)

  abbrev pub dealt_fold : Fold → Chunking → Course → ℤ → Env → Stored ℤ
  dealt_fold by k c start env =
      Stored.reduces w.limit (cuts_of w.plan.now) (meaning.block_site 0) (meaning.value_cut_of k c.count) by.reducer by.attribute start (λ j i. iterated_value by (c.bound i (k.bound j (inside env))))
      (meaning.fold_call (ops w) w.limit (program w.typed.now) (calls_of w d) by.reducer (suc env.nested)) (meaning.combine_call (ops w) w.limit (program w.typed.now) (calls_of w d) by.reducer env.nested)

  abbrev pub chunked_fold : Fold → Chunking → ℤ → Env → Stored ℤ
  chunked_fold by k start env = bind (course w d (iteration_at (nodes_of w) by.iteration) (inside env)) (λ c. bind (count_checked w c.count) (λ _. dealt_fold by k c start env))

  abbrev pub parallel_reduction : Fold → Expr → Chunk → Env → Stored ℤ
  parallel_reduction by initial chunk env = bind (eval w d initial env) (λ start. bind (opened w env) (λ _. bind (chunking w d chunk (inside env)) (λ k. chunked_fold by k start env)))

  -- ---- output and input

  abbrev pub text : List ℕ → Pieces → Env → List ℕ → Stored (List ℕ)
  text bytes rest env so_far = written w d rest env (so_far ++ bytes)

  abbrev pub image : Class → Expr → Pieces → Env → List ℕ → Stored (List ℕ)
  image class e rest env so_far = bind (eval w d e env) (λ v. written w d rest env (so_far ++ image_of class v))

  abbrev pub number_field : Expr → Expr → Pieces → Env → List ℕ → Stored (List ℕ)
  number_field e width rest env so_far = bind (eval w d e env) (λ v. bind (eval w d width env) (λ n. written w d rest env (so_far ++ padded v (to_nat n))))

  abbrev pub put : Pieces → Bool → Env → Stored (Unit {0})
  put ps line env = bind (written w d ps env []) (λ bytes. puts (cond line (bytes ++ 10 ∷ []) bytes))

  abbrev pub get : ℕ → Root → Selections → Scalar → Env → Stored (Unit {0})
  get first r ss scalar env =
      bind (select w d ss env (variable_root r env)) (λ p. bind (got w.limit) (λ v. bind (checks RangeCheck first (is_in scalar v)) (λ _. writes p.object p.offset v)))

  -- ---- statements

  abbrev pub call_procedure : ℕ → Actuals → Env → Stored (Unit {0})
  call_procedure s as' env = bind (pass w d as' env []) (λ passed. bind (calls_of w d env.nested s (ret tt) passed) (λ r. all_copied_back w d passed r.cells))

  abbrev pub branch : Expr → Stmts → Stmts → Env → Stored (Unit {0})
  branch c a b env = bind (eval w d c env) (λ x. cond (truth x) (exec_all w d a env) (exec_all w d b env))

  abbrev pub exit_when : ℕ → Optional → Env → Stored (Unit {0})
  exit_when n e env = bind (holds w d e env) (λ goes. cond goes (leaves (Exits n)) (ret tt))

  abbrev pub return_value : Value → Env → Stored (Unit {0})
  return_value v env = bind (cells w d v env) (λ cs. leaves (Returns (slice_get cs 0)))

  abbrev pub chosen : Expr → Alternatives → Env → Stored (Unit {0})
  chosen e as' env = bind (eval w d e env) (λ v. exec_chosen w d as' v env)

  abbrev pub in_loop : ℕ → Stored (Unit {0}) → Stored (Unit {0})
  in_loop n m = handles m (exits n) (λ _. ret tt)

  unfoldable pub while_loop : Optional → Stmts → Env → Stored (Unit {0})
  while_loop e ss env = meaning.while_loop (ops w) (suc w.limit) (holds w d e env) (exec_all w d ss env)

  -- with so many turns left
  abbrev pub while_left : ℕ → Optional → Stmts → Env → Stored (Unit {0})
  while_left n e ss env = meaning.while_loop (ops w) n (holds w d e env) (exec_all w d ss env)

  abbrev pub while_stmt : ℕ → Optional → Stmts → Env → Stored (Unit {0})
  while_stmt n e ss env = in_loop n (while_loop e ss env)

  -- an iteration with what is bound in it
  abbrev pub iterate : Iteration → Stmts → Env → Stored (Unit {0})
  iterate it ss env = meaning.iterate (ops w) (filtered w d it env) (exec_all w d ss env)

  unfoldable pub for_loop : Course → Iteration → Stmts → Env → Stored (Unit {0})
  for_loop c it ss env = through doings 0 c.count tt (λ i _. iterate it ss (c.bound i env))

  abbrev pub for_left : ℕ → ℕ → Course → Iteration → Stmts → Env → Stored (Unit {0})
  for_left i n c it ss env = through doings i n tt (λ i _. iterate it ss (c.bound i env))

  abbrev pub for_stmt : ℕ → Iteration → Stmts → Env → Stored (Unit {0})
  for_stmt n it ss env = bind (course w d it env) (λ c. in_loop n (for_loop c it ss env))

  -- parallel loops and blocks: what is done in an iteration of a thread, in a thread, and in all of them

  abbrev pub task_turn : Task → ℕ → ℕ → Env → Stored (Unit {0})
  task_turn (task.Loop k c it ss) j i env = iterate (iteration_at (nodes_of w) it) (stmts_at (nodes_of w) ss) ((course_of c).bound i ((chunking_of k).bound j env))
  task_turn (task.Arms arms) j i env = exec_arm w d (arms_at (nodes_of w) arms) i env

  abbrev pub share_left : Task → ℕ → ℕ → ℕ → Env → Stored (Unit {0})
  share_left t j i n env = through doings i n tt (λ i _. task_turn t j i env)

  unfoldable pub share_run : Task → Env → Share → Stored (Unit {0})
  share_run t env s = share_left t s.number s.first s.size env

  abbrev pub thread_run : Task → ℕ → Share → Env → Stored (Took (Unit {0}))
  thread_run t most s env = thread most (share_run t env s)

  unfoldable pub threads_run : Task → List ℕ → Env → Stored (Unit {0})
  threads_run t sizes env = par first_of_both tt (deal 0 0 sizes) (share_run t env)

  abbrev pub dealt_loop : ℕ → Chunking → Course → Iteration → Stmts → Env → Stored (Unit {0})
  dealt_loop n k c it ss env = in_loop n (Stored.loops w.limit (cuts_of w.plan.now) (meaning.block_site 0) (meaning.cut_of k c.count) (λ j i. iterate it ss (c.bound i (k.bound j env))))

  abbrev pub chunked_loop : ℕ → Chunking → Iteration → Stmts → Env → Stored (Unit {0})
  chunked_loop n k it ss env = bind (course w d it env) (λ c. bind (count_checked w c.count) (λ _. dealt_loop n k c it ss env))

  abbrev pub parallel_for : ℕ → Chunk → Iteration → Stmts → Env → Stored (Unit {0})
  parallel_for n chunk it ss env = bind (opened w env) (λ _. bind (chunking w d chunk (inside env)) (λ k. chunked_loop n k it ss (inside env)))

  abbrev pub dealt_arms : ℕ → Arms → Env → Stored (Unit {0})
  dealt_arms most arms env = Stored.loops w.limit (cuts_of w.plan.now) (meaning.block_site 0) (Sized (evens (meaning.arms_of arms) (min most (meaning.arms_of arms)))) (λ j i. exec_arm w d arms i env)

  abbrev pub parallel_block : Optional → Arms → Env → Stored (Unit {0})
  parallel_block count arms env = bind (opened w env) (λ _. bind (threads_of w d count (inside env)) (λ most. dealt_arms most arms (inside env)))

  abbrev pub guarded : Stmts → Handlers → Env → Stored (Unit {0})
  guarded ss hs env = meaning.guarded (ops w) hs (exec_all w d ss env) (λ r. exec_handler w d hs r env)

  unfoldable pub block : Decls → Region → Stmts → Handlers → Env → Stored (Unit {0})
  block ds region ss hs env = meaning.declared (ops w) w.limit (program w.typed.now) (calls_of w d) ds region env (guarded ss hs env)
