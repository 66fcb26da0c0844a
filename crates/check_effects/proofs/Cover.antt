-- Every text touches only what it makes and what lies under its effects, and a program without clashes is free of races.
use Rattle.std.proofs.Common.{◌≡◌, ℕ, zero, suc, ◌+◌, ◌*◌, ◌<◌, ◌≤◌, min, max, ℤ, pos, ◌+ℤ◌, ◌-ℤ◌, int_lt, int_le, nat_eq, nat_lt, nat_le, List, [], ◌∷◌, ◌++◌, length, length-append, slice_get, ◌⊎◌, inl, inr, ⊎_elim, Option, Some, None, Bool, true, false, not, cond, ◌&&◌, ◌||◌, sym, subst, ap, ap₂, ◌∙◌, refl, true≢false, eqb-true, eq-eqb, ltb-true, ltb-false, arith, le_trans, is_some}
use Rattle.ada_base.specs.Cuts.{evens}
use Rattle.ada_base.specs.Image.{padded}
use Rattle.behaviours.specs.Doings.{through, folded}
use Rattle.behaviours.specs.Paths.{Leave, Exits, Returns, Raises, Entity, VariableOf, ConstantOf, Region, Everywhere, Here, Instance}
use Rattle.behaviours.specs.Events.{Keeps, Puts}
use Rattle.behaviours.specs.Joins.{Now, Share, Site, deal}
use Rattle.behaviours.specs.Behaviours.{Behaviour, Asks}
use Rattle.ada_meaning.specs.Formed.{width, composite_width}
use Rattle.std.proofs.Math.IntN.{neg_ℤ, neg_ℤ-neg_ℤ, +ℤ-neg_ℤ_cancel, +ℤ_comm, +ℤ_idr}
use native.Mathlib.Nat.{mul-add, mul-le-mul_left, mul_comm, mul-one}
use Rattle.ada_base.specs.declared.operation.Op.{Op}
use Rattle.ada_base.specs.declared.reason.Reason.{Reason}
use Rattle.ada_base.specs.declared.reason.Reason.TheVariants as reason
use Rattle.ada_base.specs.declared.operation.Op.TheVariants as op
use Rattle.ada_base.specs.Operation.{is_in_base}
use Rattle.ada_base.proofs.Readings
use Rattle.ada_base.proofs.Readings.{Relates as RelatesReadings}
use Rattle.typed_tree.specs.declared.scalars.Class.{Class}
use Rattle.typed_tree.specs.declared.scalars.Scalar.{Scalar}
use Rattle.typed_tree.specs.declared.scalars.Check.{Check}
use Rattle.typed_tree.specs.declared.expressions.Sign.{Sign}
use Rattle.typed_tree.specs.declared.expressions.Sign.TheVariants as sign
use Rattle.typed_tree.specs.declared.expressions.Root.{Root}
use Rattle.typed_tree.specs.declared.expressions.Run.{Run}
use Rattle.typed_tree.specs.declared.expressions.Reducer.{Reducer}
use Rattle.typed_tree.specs.declared.expressions.Reducer.TheVariants.{Operator, Function}
use Rattle.ada_meaning.specs.Values.{is_modular, truth, bit, is_in, between, to_nat, count, base_of, unary, is_zero, divides, overflows, result, value_or_zero, defaults, image_of, handles_reason, is_chosen, without_zeros, layout, laid, zeros}
use Rattle.ada_meaning.specs.Operations.{CheckKind, RangeCheck, IndexCheck, OverflowCheck, ZeroCheck, ByPlan, Sized, chunk_of, Operations, operate, reduce}
use Rattle.ada_meaning.specs.Meaning
use Rattle.ada_meaning.specs.Meaning.{ObjectPart, Env, Course, Chunking, Back, Passed, Returned, outset, with_target, with_handled, inside, variable_root, constant_root, array_root, iterated_env, cut_of, value_cut_of, arms_of, exits, returns, raises, value_of, reason_of, has_handlers, sub_at, moved, object_layout, most_nested, most_threads, most_iterations, most_calls}
use Rattle.typed_tree.specs.Syntax.{Expr, Static, Variable, Constant, Parameter, Target, Group, Unary, Binary, AndThen, OrElse, Relation, Membership, If, Call, Convert, Reduction, Optional, Absent, Present, Selections, Whole, Field, Index, Actuals, NoActual, In, InOut, Out, CompositeInOut, CompositeOut, Value, Number, Cells, Composite, WholeVariable, WholeConstant, WholeTarget, CompositeIf, Aggregate, Associations, NoAssociation, Association, Iteration, Range, Components, Chunk, NoChunk, Count, Each, Pieces, NoPiece, Text, Image, Padded, Decls, NoDecl, DeclareDefault, DeclareVariable, DeclareConstant, Mentions, Stmt, Null, Assign, CallProcedure, Exit, Return, ReturnValue, Raise, Reraise, IfThen, Case, Loop, For, ParallelFor, Parallel, Block, Put, Get, Stmts, End, Then, Alternatives, NoAlternative, Alternative, Arms, NoArm, Arm, Handlers, NoHandler, Handler, Body, Sub, Program}
use Rattle.check_effects.specs.Effects.{Roles, unknown, hide, is_one, selector, steps_of, root_name, name, forget, Construct, LoopOf, BlockOf, ReductionOf, Item, Holds, chunk_hidden, course_hidden, chunk_parameter, judging, iterated_hidden, InReducer, InExpr, InOptional, InSelections, InActuals, InValue, InComposite, InAssociations, InCourse, InFilter, InChunk, InPieces, InDecls, InStmt, InAll, InAlternatives, InArm, InHandlers, InBody, InThread, IsDeclared, InSub, InCallee, Selector, Any, a_distance, a_parameter, is_distance, opposite, shifted, added, role}
use Rattle.check_effects.specs.Conflicts.{Fits, Leads, Distinct, LoopsDiffer, Compared, InProgram}
use Rattle.behaviours.specs.Behaviours
use Rattle.ada_meaning.specs.Runs
use Rattle.ada_meaning.specs.Programs.{this}
use Rattle.check_effects.proofs.Distances.{sum_is, difference_is, there}
use Rattle.check_effects.proofs.Good.{none_some, some_same, Allowed, MayTouch, Can, Good, Placed, Roomy, Grown, with_object, called, ret_good, leaves_good, spent_good, checks_good, emits_good, look_good, turn_good, recalls_good, takes_good, reads_good, writes_good, choose_good, bind_good, handles_good, through_good, onto_good, elaborates_good, apart_good}
use Rattle.check_effects.proofs.Teams.{sum, team_good}
use Rattle.check_effects.proofs.Scenes.{Tie, Suits, leads_append, suits_unknown, suits_forget, suits_inside, suits_handled, suits_target, suits_hide, suits_iterated, suits_item, suits_loop, suits_chunk, suits_root, of_ret, of_leaves, of_bind, of_checks, of_apart, of_elaborates, one_of, Into, part, Exact, exact}
use Rattle.check_effects.specs.Covered.{site_of, arm_of, AreDistinct, Items, ItemsLie, items_in, items_of}
use Rattle.check_effects.proofs.Counting.{plus_zero, plus_suc, sum_evens, sum_without_zeros, BackFine, AllBack, Fitted, AllFitted, FitSoFar, length_laid, length_zeros, le_left, le_right, no_more, all_back, one_more, fit_more, fit_all}
use Rattle.check_effects.proofs.Entering.{CallInto, call_into, touched, touched_one, grown_into, more_into, constant_into}
use Rattle.check_effects.proofs.Separation.{TeamLaw}

module _ (program : Program) (fine : Construct → Type 0) where
  -- where a text is executed, whether freedom from races is asked for, and what is allowed
  pub record Scene : Type 1 where
    pub asks : Type 0
    pub now : Now
    pub roles : Roles
    pub env : Env
    pub allowed : Allowed
    pub suits : Suits now roles env
    pub sound : asks → (u : ℕ) (k : Construct) → InSub program u (Holds k) → fine k

  abbrev pub Fine : {A : Type 0} → Scene → Behaviour Instance A → Type 0
  Fine s b = Good program s.asks s.allowed b

  abbrev pub Has : Scene → (Item → Type 0) → Type 0
  Has s items = Into program fine s.asks s.now s.allowed items

  -- the same place with other names, and with more allowed
  abbrev pub naming : (s : Scene) (r : Roles) (env : Env) → Suits s.now r env → Scene
  naming s r env h = record { asks = s.asks; now = s.now; roles = r; env = env; allowed = s.allowed; suits = h; sound = s.sound }

  abbrev pub allowing : Scene → Allowed → Scene
  allowing s E = record { asks = s.asks; now = s.now; roles = s.roles; env = s.env; allowed = E; suits = s.suits; sound = s.sound }

  abbrev pub inner : Scene → Scene
  inner s = naming s s.roles (inside s.env) (suits_inside s.now s.roles s.env s.suits)

  -- in a thread that is judged
  abbrev pub judged : (now : Now) (r : Roles) (env : Env) → Suits now r env → (Item → Type 0) → Scene
  judged now r env h items = record { asks = ⊥; now = now; roles = r; env = env; allowed = Exact program now items; suits = h; sound = λ w. absurd w }

  module _ (admits : Scalar → ℤ → Type 0) (demands : Asks Instance) (limit : ℕ) (cuts : ℕ → ℕ → List ℕ) (one : Bool) (whole : (most n : ℕ) → sum (cuts most n) ≤ n) where
    abbrev ops : Operations {1}
    ops = Runs.operations Instance this admits demands limit cuts one

    seq : {A B : Type 0} (s : Scene) {m : Behaviour Instance A} {k : A → Behaviour Instance B} → Fine s m → ((a : A) → Can m a → Fine s (k a)) → Fine s (Behaviours.◌>>=◌ m k)
    seq s g h = bind_good program s.asks s.allowed g h

    done : {A : Type 0} (s : Scene) (a : A) → Fine s (Behaviours.ret a)
    done s a = ret_good program s.asks s.allowed a

    leave : {A : Type 0} (s : Scene) (x : Leave) → Fine s (Behaviours.leaves {A = A} x)
    leave s x = leaves_good program s.asks s.allowed x

    check : (s : Scene) (kind : CheckKind) (at : ℕ) (b : Bool) → Fine s (Runs.checks kind at b)
    check s kind at b = checks_good program s.asks s.allowed kind at b

    choose : {A : Type 0} (s : Scene) (b : Bool) {m n : Behaviour Instance A} → Fine s m → Fine s n → Fine s (cond b m n)
    choose s b g h = choose_good program s.asks s.allowed b g h

    caught : {A : Type 0} (s : Scene) (takes : Leave → Bool) {m : Behaviour Instance A} {k : Leave → Behaviour Instance A} → Fine s m → ((x : Leave) → Fine s (k x)) → Fine s (Behaviours.handles m takes k)
    caught s takes g h = handles_good program s.asks s.allowed takes g h

    look : (s : Scene) → Fine s ops.look
    look s = look_good program s.asks s.allowed

    turned : (s : Scene) → Fine s (Meaning.turned ops)
    turned s = seq s (look s) (λ _ _. turn_good program s.asks s.allowed limit)

    raised : {A : Type 0} (s : Scene) (r : Reason) → Fine s (Meaning.raise ops {A = A} r)
    raised s r = leave s (Raises r)

    unless : (s : Scene) (b : Bool) (r : Reason) → Fine s (Meaning.unless ops b r)
    unless s b r = choose s b (done s tt) (raised s r)

    folds : (s : Scene) {f : ℤ → ℤ → Behaviour Instance ℤ} → ((a b : ℤ) → Fine s (f a b)) → (a : ℤ) (v : Option ℤ) → Fine s (folded (Behaviours.doings Instance) f a v)
    folds s r a None = done s a
    folds s r a (Some v) = r a v

    operates : (s : Scene) (op : Op) (at : ℕ) (class : Class) (x y : ℤ) → Fine s (operate (Behaviours.doings Instance) Runs.checks op at class x y)
    operates s op at class x y =
        seq s (choose s (divides op) (check s ZeroCheck at (not (is_zero y))) (done s tt)) (λ _ _.
        seq s (choose s (overflows op) (check s OverflowCheck at _) (done s tt)) (λ _ _. done s (value_or_zero (result op class x y))))

    reduce_step : (s : Scene) (by : Reducer) (at : ℕ) {f : ℤ → ℤ → Behaviour Instance ℤ} → ((a b : ℤ) → Fine s (f a b)) → (a b : ℤ) → Fine s (reduce (Behaviours.doings Instance) Runs.checks by at f a b)
    reduce_step s (Operator t op class) at r a b = operates s op at class a b
    reduce_step s (Function t u x y) at r a b = r a b

    reads_all : (s : Scene) (x : Entity) (i : ℕ) (so_far : List ℤ) (cells : List Scalar) → ((m : ℕ) → m < length cells → MayTouch s.allowed.at false x (i + m)) → Fine s (Meaning.read_all ops x i so_far cells)
    reads_all s x i so_far [] h = done s so_far
    reads_all s x i so_far (c ∷ cs) h =
        seq s (reads_good program s.asks s.allowed admits x i c (subst (λ z. MayTouch s.allowed.at false x z) (plus_zero i) (h 0 (omega arith)))) (λ v _.
        reads_all s x (i + 1) (so_far ++ (v ∷ [])) cs (λ m lt. subst (λ z. MayTouch s.allowed.at false x z) (plus_suc i m) (h (suc m) (omega arith))))

    writes_all : (s : Scene) (x i : ℕ) (vs : List ℤ) → ((m : ℕ) → m < length vs → s.allowed.at true x (i + m)) → Fine s (Meaning.write_all ops x i vs)
    writes_all s x i [] h = done s tt
    writes_all s x i (v ∷ vs) h =
        seq s (writes_good program s.asks s.allowed x i v (subst (λ z. s.allowed.at true x z) (plus_zero i) (h 0 (omega arith)))) (λ _ _.
        writes_all s x (i + 1) vs (λ m lt. subst (λ z. s.allowed.at true x z) (plus_suc i m) (h (suc m) (omega arith))))

    read_lengths : (x : Entity) (i : ℕ) (so_far : List ℤ) (cells : List Scalar) (vs : List ℤ) → Can (Meaning.read_all ops x i so_far cells) vs → length vs ≡ length so_far + length cells
    read_lengths x i so_far [] vs c = ap length (of_ret c) ∙ sym (plus_zero (length so_far))
    read_lengths x i so_far (t ∷ ts) vs c =
        let a = of_bind c in
        let h = read_lengths x (i + 1) (so_far ++ (a.0 ∷ [])) ts vs a.2 in
        let l = length-append so_far (a.0 ∷ []) in omega arith

    read_length : (x : Entity) (i : ℕ) (cells : List Scalar) (vs : List ℤ) → Can (Meaning.read_all ops x i [] cells) vs → length vs ≡ length cells
    read_length x i cells vs c = let h = read_lengths x i [] cells vs c in omega arith

    bounds : (s : Scene) (c : Option Check) (low high : ℤ) → Fine s (Meaning.bounds_checked ops c low high)
    bounds s None low high = done s tt
    bounds s (Some c) low high = choose s (int_le low high) (check s RangeCheck c.at (is_in c.scalar low && is_in c.scalar high)) (done s tt)

    opens : (s : Scene) → Fine s (Meaning.opened ops s.env)
    opens s = seq s (look s) (λ _ _. unless s (nat_lt s.env.nested most_nested) reason.StorageError)

    most : (s : Scene) (v : ℤ) → Fine s (Meaning.most_of ops v)
    most s v = seq s (unless s (int_lt (pos 0) v) reason.ProgramError) (λ _ _. done s (min (to_nat v) most_threads))

    sign_check : (s : Scene) (g : Sign) (at : ℕ) (class : Class) (v : ℤ) → Fine s (Meaning.sign_checked ops g at class v)
    sign_check s sign.Minus at class v = check s OverflowCheck at (is_in_base (base_of class) v)
    sign_check s sign.Abs at class v = check s OverflowCheck at (is_in_base (base_of class) v)
    sign_check s sign.Not at class v = done s tt

    unary_check : (s : Scene) (g : Sign) (at : ℕ) (class : Class) (v : ℤ) → Fine s (Meaning.unary_checked ops g at class v)
    unary_check s g at class v = choose s (is_modular class) (done s tt) (sign_check s g at class v)

    one_run : (s : Scene) (k n first stride : ℕ) (so_far : List ℤ) {f : ℕ → Behaviour Instance (List ℤ)} → ((k : ℕ) → Fine s (f k)) → Fine s (Meaning.run_values ops k n first stride f so_far)
    one_run s k zero first stride so_far r = done s so_far
    one_run s k (suc n) first stride so_far r = seq s (r k) (λ cs _. one_run s (k + 1) n (first + stride) stride (laid so_far first cs) r)

    all_runs : (s : Scene) (runs : List Run) (so_far : List ℤ) {f : ℕ → Behaviour Instance (List ℤ)} → ((k : ℕ) → Fine s (f k)) → Fine s (Meaning.runs_values ops runs f so_far)
    all_runs s [] so_far r = done s so_far
    all_runs s (run ∷ runs) so_far r = seq s (one_run s 0 run.count run.first run.stride so_far r) (λ cs _. all_runs s runs cs r)

    -- values that are laid over cells leave them as many
    run_length : (k n first stride : ℕ) (so_far : List ℤ) (f : ℕ → Behaviour Instance (List ℤ)) (cs : List ℤ) → Can (Meaning.run_values ops k n first stride f so_far) cs → length cs ≡ length so_far
    run_length k zero first stride so_far f cs c = ap length (of_ret c)
    run_length k (suc n) first stride so_far f cs c = let a = of_bind c in run_length (k + 1) n (first + stride) stride (laid so_far first a.0) f cs a.2 ∙ length_laid so_far first a.0

    runs_length : (runs : List Run) (so_far : List ℤ) (f : ℕ → Behaviour Instance (List ℤ)) (cs : List ℤ) → Can (Meaning.runs_values ops runs f so_far) cs → length cs ≡ length so_far
    runs_length [] so_far f cs c = ap length (of_ret c)
    runs_length (run ∷ runs) so_far f cs c = let a = of_bind c in runs_length runs a.0 f cs a.2 ∙ run_length 0 run.count run.first run.stride so_far f a.0 a.1

    value_turns : (s : Scene) (turns : Bool) → Fine s (Meaning.value_turn ops turns)
    value_turns s turns = choose s turns (turned s) (done s tt)

    whiles : (s : Scene) (n : ℕ) {t : Behaviour Instance Bool} {b : Behaviour Instance (Unit {0})} → Fine s t → Fine s b → Fine s (Meaning.while_loop ops n t b)
    whiles s zero g h = spent_good program s.asks s.allowed
    whiles s (suc n) g h = seq s g (λ goes _. choose s goes (seq s (turned s) (λ _ _. seq s h (λ _ _. whiles s n g h))) (done s tt))

    iterates : (s : Scene) {t : Behaviour Instance Bool} {b : Behaviour Instance (Unit {0})} → Fine s t → Fine s b → Fine s (Meaning.iterate ops t b)
    iterates s g h = seq s (turned s) (λ _ _. seq s g (λ passes _. choose s passes h (done s tt)))

    iterates_value : (s : Scene) {t : Behaviour Instance Bool} {b : Behaviour Instance ℤ} → Fine s t → Fine s b → Fine s (Meaning.iterate_value ops t b)
    iterates_value s g h = seq s (turned s) (λ _ _. seq s g (λ passes _. choose s passes (seq s h (λ v _. done s (Some v))) (done s None)))

    guards : (s : Scene) (hs : Handlers) {m : Behaviour Instance (Unit {0})} {f : Reason → Behaviour Instance (Unit {0})} → Fine s m → ((r : Reason) → Fine s (f r)) → Fine s (Meaning.guarded ops hs m f)
    guards s hs g h = caught s (λ how. has_handlers hs && raises how) g (λ how. seq s (look s) (λ _ _. h (reason_of how)))

    combined : (s : Scene) (by : Reducer) (at : ℕ) (v : ℤ) (values : List ℤ) {f : ℤ → ℤ → Behaviour Instance ℤ} → ((a b : ℤ) → Fine s (f a b)) → Fine s (Runs.combined Instance this admits demands limit cuts one v values (reduce (Behaviours.doings Instance) Runs.checks by at f))
    combined s by at v [] h = done s v
    combined s by at v (a ∷ more) h = onto_good program s.asks s.allowed a more (reduce_step s by at h)

    -- input

    module _ (s : Scene) (may : s.allowed.input) where
      next : Fine s ((Meaning.reading ops).asks)
      next = seq s (turn_good program s.asks s.allowed limit) (λ _ _. takes_good program s.asks s.allowed may)

      abbrev readings : RelatesReadings {1, 1, 0} (Meaning.reading ops) (Meaning.reading ops)
      readings = record {
        R = λ {A} m n. Fine {A = A} s m;
        ret = λ {A} a. done s a;
        bind = λ {A} {B} {m} {n} {k} {l} g h. seq s g (λ a _. h a);
        asks = next;
        recalls = recalls_good program s.asks s.allowed may;
        keeps = λ h. emits_good program s.asks s.allowed (Keeps h) (λ r p. may);
        raises = λ {A} r. raised s r;
        spent = λ {A}. spent_good program s.asks s.allowed;
      }

      gets : Fine s (Meaning.got ops limit)
      gets = Readings.gets readings limit

    -- calls and what they give

    module _ (calls : ℕ → ℕ → Behaviour Instance (Unit {0}) → List Passed → Behaviour Instance Returned)
        (called_good : (s : Scene) (nested u : ℕ) (before : Behaviour Instance (Unit {0})) (passed : List Passed) → Fine s before → CallInto program fine s.now s.allowed u → Fine s (calls nested u before passed))
        (returned : (nested u : ℕ) (before : Behaviour Instance (Unit {0})) (passed : List Passed) (r : Returned) → Can (calls nested u before passed) r → AllFitted passed r.cells) (law : TeamLaw program fine demands) where
      both : (s : Scene) (at : ℕ) (x y : Scalar) (a b : ℤ) → Fine s (Meaning.both_checked ops limit program calls at x y a b)
      both s at x y a b = seq s (check s RangeCheck at (is_in x a)) (λ _ _. check s RangeCheck at (is_in y b))

      fold_call : (s : Scene) (by : Reducer) (nested : ℕ) → Has s (InReducer by) → (a b : ℤ) → Fine s (Meaning.fold_call ops limit program calls by nested a b)
      fold_call s (Operator at op class) nested k a b = done s a
      fold_call s (Function at u x y) nested k a b = seq s (both s at x y a b) (λ _ _. seq s (called_good s nested u (Behaviours.ret tt) _ (done s tt) (call_into program fine at at u refl k)) (λ r _. done s r.value))

      combine_call : (s : Scene) (by : Reducer) (nested : ℕ) → Has s (InReducer by) → (a b : ℤ) → Fine s (Meaning.combine_call ops limit program calls by nested a b)
      combine_call s (Operator at op class) nested k a b = done s a
      combine_call s (Function at u x y) nested k a b = seq s (called_good s nested u (Meaning.both_checked ops limit program calls at x y a b) _ (both s at x y a b) (call_into program fine at at u refl k)) (λ r _. done s r.value)

      -- what expressions give

      -- the value of an index that is a parameter and a distance
      parameter_value : (env : Env) (e : Expr) (x : ℤ) → Can (Meaning.eval ops limit program calls e env) x → (k : ℕ) → a_parameter e ≡ Some k → x ≡ env.parameter k
      parameter_value env (Parameter at j) x c k q = of_ret c ∙ ap env.parameter (some_same q)
      parameter_value env e x c k q = absurd (none_some q)

      distance_value : (env : Env) (e : Expr) (x : ℤ) → Can (Meaning.eval ops limit program calls e env) x → (n : ℤ) → a_distance e ≡ Some n → x ≡ n
      distance_value env (Static at value true mentions) x c n q = of_ret c ∙ only (is_distance value) q
        where
          only : (b : Bool) → cond b (Some value) None ≡ Some n → value ≡ n
          only true e = some_same e
          only false e = absurd (none_some e)
      distance_value env e x c n q = absurd (none_some q)

      opposite_value : (env : Env) (e : Expr) (x : ℤ) → Can (Meaning.eval ops limit program calls e env) x → (n : ℤ) → opposite (a_distance e) ≡ Some n → neg_ℤ x ≡ n
      opposite_value env e x c n q = go (a_distance e) refl q
        where
          go : (o : Option ℤ) → a_distance e ≡ o → opposite o ≡ Some n → neg_ℤ x ≡ n
          go None f g = absurd (none_some g)
          go (Some m) f g = ap neg_ℤ (distance_value env e x c m f) ∙ some_same g

      -- an addition or a subtraction that raises nothing gives the sum or the difference
      sum_value : (at : ℕ) (class : Class) (x y v : ℤ) → is_modular class ≡ false → Can (operate (Behaviours.doings Instance) Runs.checks op.Add at class x y) v → v ≡ x +ℤ y
      sum_value at class x y v e c = let a = of_bind c in let b = of_bind a.2 in of_ret b.2 ∙ ap value_or_zero (sum_is class x y e) ∙ there (base_of class) (x +ℤ y) (sym (ap is_some (sum_is class x y e)) ∙ of_checks OverflowCheck at (is_some (result op.Add class x y)) b.0 b.1)

      difference_value : (at : ℕ) (class : Class) (x y v : ℤ) → is_modular class ≡ false → Can (operate (Behaviours.doings Instance) Runs.checks op.Sub at class x y) v → v ≡ x -ℤ y
      difference_value at class x y v e c = let a = of_bind c in let b = of_bind a.2 in of_ret b.2 ∙ ap value_or_zero (difference_is class x y e) ∙ there (base_of class) (x -ℤ y) (sym (ap is_some (difference_is class x y e)) ∙ of_checks OverflowCheck at (is_some (result op.Sub class x y)) b.0 b.1)

      shift_fits : (now : Now) (r : Roles) (env : Env) → Suits now r env → (p : Option ℕ) (d : Option ℤ) (v : ℤ) → ((k : ℕ) (n : ℤ) → p ≡ Some k → d ≡ Some n → v ≡ env.parameter k +ℤ n) → Fits now (shifted Any (role r) p d) v
      shift_fits now r env h None d v f = tt
      shift_fits now r env h (Some k) None v f = tt
      shift_fits now r env h (Some k) (Some n) v f = subst (λ z. Fits now (role r k n) z) (sym (f k n refl refl)) (h.fit k n)

      -- an index has a value that its selector tells
      index_fits : (now : Now) (r : Roles) (env : Env) → Suits now r env → (e : Expr) (v : ℤ) → Can (Meaning.eval ops limit program calls e env) v → Fits now (selector r e) v
      index_fits now r env h (Static at value literal mentions) v c = of_ret c
      index_fits now r env h (Parameter at k) v c = subst (λ z. Fits now (selector r (Parameter at k)) z) (+ℤ_idr (env.parameter k) ∙ sym (of_ret c)) (h.fit k (pos 0))
      index_fits now r env h (Variable at from selections scalar) v c = tt
      index_fits now r env h (Constant at from selections scalar) v c = tt
      index_fits now r env h (Target at scalar) v c = tt
      index_fits now r env h (Group e) v c = tt
      index_fits now r env h (Unary at g class e) v c = tt
      index_fits now r env h (Binary at o class e f) v c = by_class (is_modular class) refl
        where
          x : ℤ
          x = (of_bind c).0

          y : ℤ
          y = (of_bind (of_bind c).2).0

          first : (k : ℕ) → a_parameter e ≡ Some k → x ≡ env.parameter k
          first = parameter_value env e x (of_bind c).1

          second : (k : ℕ) → a_parameter f ≡ Some k → y ≡ env.parameter k
          second = parameter_value env f y (of_bind (of_bind c).2).1

          either : (b : Bool) (s t : Selector) → Fits now s v → Fits now t v → Fits now (cond b s t) v
          either true s t g h = g
          either false s t g h = h

          distant : (o : Op) → is_modular class ≡ false → Can (operate (Behaviours.doings Instance) Runs.checks o at class x y) v → Fits now (added Any (role r) o e f) v
          distant op.Add m d = either (is_some (a_parameter e)) _ _
              (shift_fits now r env h (a_parameter e) (a_distance f) v (λ k n p q. sum_value at class x y v m d ∙ ap₂ ◌+ℤ◌ (first k p) (distance_value env f y (of_bind (of_bind c).2).1 n q)))
              (shift_fits now r env h (a_parameter f) (a_distance e) v (λ k n p q. sum_value at class x y v m d ∙ +ℤ_comm x y ∙ ap₂ ◌+ℤ◌ (second k p) (distance_value env e x (of_bind c).1 n q)))
          distant op.Sub m d = shift_fits now r env h (a_parameter e) (opposite (a_distance f)) v (λ k n p q. difference_value at class x y v m d ∙ ap₂ ◌+ℤ◌ (first k p) (opposite_value env f y (of_bind (of_bind c).2).1 n q))
          distant o m d = tt

          by_class : (b : Bool) → is_modular class ≡ b → Fits now (cond b Any (added Any (role r) o e f)) v
          by_class true m = tt
          by_class false m = distant o m (of_bind (of_bind c).2).2
      index_fits now r env h (AndThen e f) v c = tt
      index_fits now r env h (OrElse e f) v c = tt
      index_fits now r env h (Relation class comparison e f) v c = tt
      index_fits now r env h (Membership class negated e low high) v c = tt
      index_fits now r env h (If condition value otherwise) v c = tt
      index_fits now r env h (Call at callee u actuals) v c = tt
      index_fits now r env h (Convert check e) v c = tt
      index_fits now r env h (Reduction at attribute by initial site chunk iteration value) v c = tt

      select_leads : (now : Now) (r : Roles) (env : Env) → Suits now r env → (selections : Selections) (p q : ObjectPart) → Can (Meaning.select ops limit program calls selections env p) q → (q.object ≡ p.object) × Leads now p.offset (steps_of r selections) q.offset
      select_leads now r env h Whole p q c = let e = of_ret c in (ap (λ (z : ObjectPart). z.object) e, ap (λ (z : ObjectPart). z.offset) e)
      select_leads now r env h (Field number offset rest) p q c = select_leads now r env h rest (moved p offset) q c
      select_leads now r env h (Index at e low high stride rest) p q c =
          let a = of_bind c in let b = of_bind a.2 in
          let t = select_leads now r env h rest (moved p (to_nat (a.0 -ℤ low) * stride)) q b.2 in
          (t.0, (a.0, of_checks IndexCheck at (between low a.0 high) b.0 b.1, index_fits now r env h e a.0 a.1, t.1))

      located : (now : Now) (r : Roles) (env : Env) → Suits now r env → (from : Root) (selections : Selections) (p : ObjectPart) → Can (Meaning.select ops limit program calls selections env (variable_root from env)) p → Tie now (name r from selections) p
      located now r env h from selections p c =
          let a = suits_root now r env h from in
          let b = select_leads now r env h selections (variable_root from env) p c in
          (b.0 ∙ a.0, leads_append now 0 (variable_root from env).offset p.offset (root_name r from).steps (steps_of r selections) a.1 b.1)

      mutual
        cells_width : (v : Value) (env : Env) (cs : List ℤ) → Can (Meaning.cells ops limit program calls v env) cs → length cs ≤ width program.subtypes v
        cells_width (Number check e) env cs c = let a = of_bind c in let b = of_bind a.2 in no_more (length cs) 1 (ap length (of_ret b.2))
        cells_width (Cells d) env cs c = composite_width' d env cs c

        composite_width' : (d : Composite) (env : Env) (cs : List ℤ) → Can (Meaning.composite ops limit program calls d env) cs → length cs ≤ composite_width program.subtypes d
        composite_width' (WholeVariable at from selections subtype) env cs c = let a = of_bind c in no_more _ _ (read_length (VariableOf (a.0).object) (a.0).offset (layout program.subtypes subtype) cs a.2)
        composite_width' (WholeConstant at from selections subtype) env cs c = let a = of_bind c in no_more _ _ (read_length (ConstantOf (a.0).object) (a.0).offset (layout program.subtypes subtype) cs a.2)
        composite_width' (WholeTarget at subtype) env cs c = no_more _ _ (read_length (VariableOf env.target.object) env.target.offset (layout program.subtypes subtype) cs c)
        composite_width' (CompositeIf condition value otherwise) env cs c = let a = of_bind c in one_of (truth a.0) _ _ (length cs ≤ max (composite_width program.subtypes value) (composite_width program.subtypes otherwise)) cs
            (λ k. le_left _ _ _ (composite_width' value env cs k)) (λ k. le_right _ _ _ (composite_width' otherwise env cs k)) a.2
        composite_width' (Aggregate at size associations) env cs c = no_more _ _ (associated_length associations env (zeros size) cs c ∙ length_zeros size)

        associated_length : (a : Associations) (env : Env) (so_far cs : List ℤ) → Can (Meaning.associated ops limit program calls a env so_far) cs → length cs ≡ length so_far
        associated_length NoAssociation env so_far cs c = ap length (of_ret c)
        associated_length (Association runs i mentions value rest) env so_far cs c = let a = of_bind c in associated_length rest env a.0 cs a.2 ∙ runs_length runs so_far _ a.0 a.1

      pass_back : (s : Scene) (a : Actuals) (so_far ps : List Passed) → Has s (InActuals program.subtypes s.roles a) → AllBack s.allowed so_far → Can (Meaning.pass ops limit program calls a s.env so_far) ps → AllBack s.allowed ps
      pass_back s NoActual so_far ps k h c = subst (λ z. AllBack s.allowed z) (sym (of_ret c)) h
      pass_back s (In formal value rest) so_far ps k h c =
          let a = of_bind c in pass_back s rest _ ps (part program fine (λ i h. inr h) k) (all_back s.allowed so_far _ h tt) a.2
      pass_back s (InOut formal at from selections x y rest) so_far ps k h c =
          let a = of_bind c in let b = of_bind a.2 in let d = of_bind b.2 in
          pass_back s rest _ ps (part program fine (λ i h. inr (inr (inr h))) k)
          (all_back s.allowed so_far _ h (λ m lt. touched program fine k at true (name s.roles from selections) 1 (inr (inl refl)) a.0 (located s.now s.roles s.env s.suits from selections a.0 a.1) m lt)) d.2
      pass_back s (Out formal at from selections x y rest) so_far ps k h c =
          let a = of_bind c in
          pass_back s rest _ ps (part program fine (λ i h. inr (inr h)) k)
          (all_back s.allowed so_far _ h (λ m lt. touched program fine k at true (name s.roles from selections) 1 (inl refl) a.0 (located s.now s.roles s.env s.suits from selections a.0 a.1) m lt)) a.2
      pass_back s (CompositeInOut formal at from selections subtype rest) so_far ps k h c =
          let a = of_bind c in let b = of_bind a.2 in
          pass_back s rest _ ps (part program fine (λ i h. inr (inr (inr h))) k)
          (all_back s.allowed so_far _ h (λ m lt. touched program fine k at true (name s.roles from selections) (length (layout program.subtypes subtype)) (inr (inl refl)) a.0 (located s.now s.roles s.env s.suits from selections a.0 a.1) m lt)) b.2
      pass_back s (CompositeOut formal at from selections subtype rest) so_far ps k h c =
          let a = of_bind c in let b = of_bind a.2 in
          pass_back s rest _ ps (part program fine (λ i h. inr (inr (inr h))) k)
          (all_back s.allowed so_far _ h (λ m lt. touched program fine k at true (name s.roles from selections) (length (layout program.subtypes subtype)) (inr (inl refl)) a.0 (located s.now s.roles s.env s.suits from selections a.0 a.1) m lt)) b.2

      -- what iterations bind

      course_suits : (now : Now) (around r : Roles) (start env : Env) → Suits now around start → (it : Iteration) (c : Course) → Can (Meaning.course ops limit program calls it start) c → Suits now r env → (i : ℕ) → i < c.count → Suits now (course_hidden around it r) (c.bound i env)
      course_suits now around r start env g (Range k reverse low high check filter) c can h i lt =
          let a = of_bind can in let b = of_bind a.2 in let d = of_bind b.2 in
          subst (λ (z : Course). Suits now (hide k r) (z.bound i env)) (sym (of_ret d.2)) (suits_hide now r env k (cond reverse (b.0 -ℤ pos i) (a.0 +ℤ pos i)) h)
      course_suits now around r start env g (Components k constant at from selections number stride dimensions filter) c can h i lt =
          let a = of_bind can in let e = of_ret a.2 in
          subst (λ (z : Course). Suits now (course_hidden around (Components k constant at from selections number stride dimensions filter) r) (z.bound i env)) (sym e)
          (suits_item now r env constant false k (name around from selections) a.0 i number stride dimensions (found constant a.0 a.1) (subst (λ (z : Course). i < z.count) e lt) (λ _. tt) h)
        where
          found : (constant : Bool) (p : ObjectPart) → Can (Meaning.select ops limit program calls selections start (array_root constant from start)) p → constant ≡ false → Tie now (name around from selections) p
          found true p k e = absurd (true≢false e)
          found false p k e = located now around start g from selections p k

      chunk_suits : (now : Now) (r : Roles) (start env : Env) (chunk : Chunk) (c : Chunking) → Can (Meaning.chunking ops limit program calls chunk start) c → Suits now r env → (j : ℕ) → Suits now (chunk_hidden chunk r) (c.bound j env)
      chunk_suits now r start env NoChunk c can h j = subst (λ (z : Chunking). Suits now r (z.bound j env)) (sym (of_ret can)) h
      chunk_suits now r start env (Count e) c can h j = let a = of_bind can in let b = of_bind a.2 in subst (λ (z : Chunking). Suits now r (z.bound j env)) (sym (of_ret b.2)) h
      chunk_suits now r start env (Each k low high check) c can h j =
          let a = of_bind can in let b = of_bind a.2 in let d = of_bind b.2 in let e = of_bind d.2 in let f = of_bind e.2 in
          subst (λ (z : Chunking). Suits now (hide k r) (z.bound j env)) (sym (of_ret f.2)) (suits_hide now r env k (a.0 +ℤ pos j) h)

      from_zero : (j : ℕ) → pos 0 +ℤ pos j ≡ pos j
      from_zero j = +ℤ_comm (pos 0) (pos j) ∙ +ℤ_idr (pos j)

      own_value : (x : ℕ) (v w : ℤ) → v ≡ cond (nat_eq x x) v w
      own_value x v w = subst (λ b. v ≡ cond b v w) (sym (eq-eqb x x refl)) refl

      own_item : (constant : Bool) (x : ℕ) (p : ObjectPart) (env : Env) → p.offset ≡ (cond constant ((Meaning.with_item constant x p env).constant_item x) ((Meaning.with_item constant x p env).item x)).offset
      own_item true x p env = subst (λ b. p.offset ≡ (cond b p (env.constant_item x)).offset) (sym (eq-eqb x x refl)) refl
      own_item false x p env = subst (λ b. p.offset ≡ (cond b p (env.item x)).offset) (sym (eq-eqb x x refl)) refl

      -- the chunk parameter's values count up; `number` is what a thread has for what it does
      chunk_from : (start : Env) (chunk : Chunk) (c : Chunking) (number : Bool → ℕ → ℕ) → ((j : ℕ) → number true j ≡ j) → Can (Meaning.chunking ops limit program calls chunk start) c
          → (v : ℤ) × ((j y : ℕ) (env : Env) → is_one (chunk_parameter chunk) y ≡ true → (c.bound (number c.even j) env).parameter y ≡ v +ℤ pos j)
          × ((j : ℕ) (env : Env) → v +ℤ pos j ≡ Meaning.chunk_value chunk j (c.bound (number c.even j) env))
      chunk_from start NoChunk c number own can = (pos 0, λ j y env e. absurd (true≢false (sym e)), λ j env. from_zero j)
      chunk_from start (Count e) c number own can = (pos 0, λ j y env e. absurd (true≢false (sym e)), λ j env. from_zero j)
      chunk_from start (Each k low high check) c number own can =
          let a = of_bind can in let b = of_bind a.2 in let d = of_bind b.2 in let e = of_bind d.2 in let f = of_bind e.2 in (
            a.0,
            λ j y env q. subst (λ (z : Chunking). (z.bound (number z.even j) env).parameter y ≡ a.0 +ℤ pos j) (sym (of_ret f.2)) (go a.0 j (number true j) (own j) y env (nat_eq y k) q),
            λ j env. subst (λ (z : Chunking). a.0 +ℤ pos j ≡ (z.bound (number z.even j) env).parameter k) (sym (of_ret f.2)) (sym (go a.0 j (number true j) (own j) k env (nat_eq k k) (eq-eqb k k refl))),
          )
        where
          go : (v : ℤ) (j m : ℕ) → m ≡ j → (y : ℕ) (env : Env) (b : Bool) → b ≡ true → cond b (v +ℤ pos m) (env.parameter y) ≡ v +ℤ pos j
          go v j m e y env true q = ap (λ z. v +ℤ pos z) e
          go v j m e y env false q = absurd (true≢false (sym q))

      -- the threads of a construct that is judged

      pub record Judges (chunk : Chunk) (it : Iteration) (r : Roles) (env : Env) (k : Chunking) (c : Course) (number : Bool → ℕ → ℕ) : Type 0 where
        pub now : ℕ → ℕ → Now
        pub suits : (j i : ℕ) → i < c.count → Suits (now j i) (judging chunk it r) (c.bound i (k.bound (number k.even j) env))
        pub apart : (j l i m : ℕ) → (j ≡ l → ⊥) → (i ≡ m → ⊥) → Distinct (now j i) (now l m)
        pub same : (j i : ℕ) → now j i ≡ Meaning.now_of chunk it j i (k.bound (number k.even j) env) (c.bound i (k.bound (number k.even j) env))
        pub items : (b : Share) → b.first + b.size ≤ c.count → ItemsLie (items_in it r) now b

      same_items : (t : Option Items) (now then : ℕ → ℕ → Now) (b : Share) → ((j i : ℕ) → now j i ≡ then j i) → ItemsLie t now b → ItemsLie t then b
      same_items None now then b same h = tt
      same_items (Some t) now then b same (o, h) = (
        o,
        λ i lo hi. let (lt, leads, first) = h i lo hi in (lt, subst (λ z. Leads z 0 t.array.steps o) (same b.number i) leads, ap (λ (z : Now). z.first) (sym (same b.number i)) ∙ first),
      )

      -- by what the parameters are
      module _ (chunk : Chunk) (it : Iteration) (r : Roles) (env : Env) (k : Chunking) (c : Course) (number : Bool → ℕ → ℕ) (J : Judges chunk it r env k c number) where
        abbrev actual : ℕ → ℕ → Now
        actual j i = Meaning.now_of chunk it j i (k.bound (number k.even j) env) (c.bound i (k.bound (number k.even j) env))

        actual_suits : (j i : ℕ) → i < c.count → Suits (actual j i) (judging chunk it r) (c.bound i (k.bound (number k.even j) env))
        actual_suits j i lt = subst (λ z. Suits z (judging chunk it r) (c.bound i (k.bound (number k.even j) env))) (J.same j i) (J.suits j i lt)

        actual_apart : AreDistinct actual
        actual_apart j l i m nj ni = subst (λ z. Distinct (actual j i) z) (J.same l m) (subst (λ z. Distinct z (J.now l m)) (J.same j i) (J.apart j l i m nj ni))

        actual_items : (b : Share) → b.first + b.size ≤ c.count → ItemsLie (items_in it r) actual b
        actual_items b le = same_items (items_in it r) J.now actual b J.same (J.items b le)

      counts : (i k : ℕ) → pos i ≡ pos k → i ≡ k
      counts i k e = cc

      shift : (l : ℤ) (i k : ℕ) → l +ℤ pos i ≡ l +ℤ pos k → i ≡ k
      shift l i k e = counts i k (sym (back i) ∙ ap (λ z. z -ℤ l) e ∙ back k)
        where
          back : (n : ℕ) → l +ℤ pos n -ℤ l ≡ pos n
          back n = ap (λ z. z -ℤ l) (+ℤ_comm l (pos n)) ∙ +ℤ-neg_ℤ_cancel (pos n) l

      shift_back : (h : ℤ) (i k : ℕ) → h -ℤ pos i ≡ h -ℤ pos k → i ≡ k
      shift_back h i k e = counts i k (sym (neg_ℤ-neg_ℤ (pos i)) ∙ ap neg_ℤ (sym (+ℤ-neg_ℤ_cancel (neg_ℤ (pos i)) h) ∙ ap (λ z. z -ℤ h) (+ℤ_comm (neg_ℤ (pos i)) h ∙ e ∙ +ℤ_comm h (neg_ℤ (pos k))) ∙ +ℤ-neg_ℤ_cancel (neg_ℤ (pos k)) h) ∙ neg_ℤ-neg_ℤ (pos k))

      both_ways : (reverse : Bool) (l h : ℤ) (i k : ℕ) → cond reverse (h -ℤ pos i) (l +ℤ pos i) ≡ cond reverse (h -ℤ pos k) (l +ℤ pos k) → i ≡ k
      both_ways true l h i k e = shift_back h i k e
      both_ways false l h i k e = shift l i k e

      parts_after : (f t i m : ℕ) → i < m → f + i * t + t ≤ f + m * t
      parts_after f t i m lt = let h : t * (i + 1) ≤ t * m = mul-le-mul_left t (omega arith) in let e = mul-add t i 1 in let a = mul_comm t i in let b = mul_comm t m in let o = mul-one t in omega arith

      parts_apart : (f t i m n : ℕ) → (i ≡ m → ⊥) → f + i * t ≤ n → n < f + i * t + t → f + m * t ≤ n → n < f + m * t + t → ⊥
      parts_apart f t i m n ni le lt le' lt' = go (nat_lt i m) (nat_lt m i) refl refl
        where
          go : (a b : Bool) → nat_lt i m ≡ a → nat_lt m i ≡ b → ⊥
          go true b p q = let h = parts_after f t i m (ltb-true i m p) in omega arith
          go false true p q = let h = parts_after f t m i (ltb-true m i q) in omega arith
          go false false p q = let g = ltb-false i m p in let h = ltb-false m i q in ni (omega arith)

      plain : (now : Now) (chunk : Chunk) (r : Roles) (env : Env) → Suits now (chunk_hidden chunk (forget r)) env → Suits now (forget r) env
      plain now NoChunk r env h = h
      plain now (Count e) r env h = h
      plain now (Each k low high check) r env h = h

      judges : (s : Scene) (chunk : Chunk) (it : Iteration) (k : Chunking) (c : Course) (number : Bool → ℕ → ℕ) → ((j : ℕ) → number true j ≡ j) → Can (Meaning.chunking ops limit program calls chunk (inside s.env)) k → Can (Meaning.course ops limit program calls it (inside s.env)) c → Judges chunk it (forget s.roles) (inside s.env) k c number
      judges s chunk (Range x reverse low high check filter) k c number own can can' =
          let v = chunk_from (inside s.env) chunk k number own can in
          let a = of_bind can' in let b = of_bind a.2 in let d = of_bind b.2 in let e = of_ret d.2 in
          record {
            now = λ j i. record { loop = Some (cond reverse (b.0 -ℤ pos i) (a.0 +ℤ pos i)); chunk = v.0 +ℤ pos j; first = 0; size = 0 };
            suits = λ j i lt. let t : Now = record { loop = Some (cond reverse (b.0 -ℤ pos i) (a.0 +ℤ pos i)); chunk = v.0 +ℤ pos j; first = 0; size = 0 } in
                subst (λ (z : Course). Suits t (judging chunk (Range x reverse low high check filter) (forget s.roles)) (z.bound i (k.bound (number k.even j) (inside s.env)))) (sym e)
                (suits_loop t (forget s.roles) (k.bound (number k.even j) (inside s.env)) x (cond reverse (b.0 -ℤ pos i) (a.0 +ℤ pos i)) refl (chunk_parameter chunk) (λ y n q. ap (λ z. z +ℤ n) (v.1 j y (inside s.env) q))
                (plain t chunk s.roles (k.bound (number k.even j) (inside s.env)) (chunk_suits t (forget s.roles) (inside s.env) (inside s.env) chunk k can (suits_forget s.now t s.roles (inside s.env) (suits_inside s.now s.roles s.env s.suits)) (number k.even j))));
            apart = λ j l i m nj ni. record { chunk = λ q. nj (shift v.0 j l q); loops = λ q. ni (both_ways reverse a.0 b.0 i m q) };
            same = λ j i.
                subst (λ (z : Course). record { loop = Some (cond reverse (b.0 -ℤ pos i) (a.0 +ℤ pos i)); chunk = v.0 +ℤ pos j; first = 0; size = 0 } ≡ Meaning.now_of chunk (Range x reverse low high check filter) j i (k.bound (number k.even j) (inside s.env)) (z.bound i (k.bound (number k.even j) (inside s.env)))) (sym e)
                (ap₂ (λ (l : ℤ) (d : ℤ). let n : Now = record { loop = Some l; chunk = d; first = 0; size = 0 } in n) (own_value x (cond reverse (b.0 -ℤ pos i) (a.0 +ℤ pos i)) ((k.bound (number k.even j) (inside s.env)).parameter x)) (v.2 j (inside s.env)));
            items = λ b le. tt;
          }
      judges s chunk (Components x constant at from selections count stride dimensions filter) k c number own can can' =
          let v = chunk_from (inside s.env) chunk k number own can in
          let a = of_bind can' in let e = of_ret a.2 in
          let at_item : ℕ → ℕ → Now = λ j i. record { loop = cond constant (Some (pos i)) None; chunk = v.0 +ℤ pos j; first = (a.0).offset + i * stride; size = stride } in
          record {
            now = at_item;
            suits = λ j i lt.
                subst (λ (z : Course). Suits (at_item j i) (judging chunk (Components x constant at from selections count stride dimensions filter) (forget s.roles)) (z.bound i (k.bound (number k.even j) (inside s.env)))) (sym e)
                (suits_item (at_item j i) (record (forget s.roles) { chunk = chunk_parameter chunk }) (k.bound (number k.even j) (inside s.env)) constant true x (name (forget s.roles) from selections) a.0 i count stride dimensions
                (found (at_item j i) constant a.0 a.1) (subst (λ (z : Course). i < z.count) e lt) (λ q. (ap (λ z. cond z (Some (pos i)) None) q, refl, refl))
                (suits_chunk (at_item j i) (forget s.roles) (k.bound (number k.even j) (inside s.env)) refl (chunk_parameter chunk) (λ y n q. ap (λ z. z +ℤ n) (v.1 j y (inside s.env) q))
                (plain (at_item j i) chunk s.roles (k.bound (number k.even j) (inside s.env)) (chunk_suits (at_item j i) (forget s.roles) (inside s.env) (inside s.env) chunk k can (base (at_item j i)) (number k.even j)))));
            apart = λ j l i m nj ni. record { chunk = λ q. nj (shift v.0 j l q); loops = differ constant (a.0).offset stride i m (at_item j i) (at_item l m) refl refl refl refl ni };
            same = λ j i.
                subst (λ (z : Course). at_item j i ≡ Meaning.now_of chunk (Components x constant at from selections count stride dimensions filter) j i (k.bound (number k.even j) (inside s.env)) (z.bound i (k.bound (number k.even j) (inside s.env)))) (sym e)
                (ap₂ (λ (f : ℕ) (d : ℤ). let n : Now = record { loop = cond constant (Some (pos i)) None; chunk = d; first = f; size = stride } in n) (own_item constant x (moved a.0 (i * stride)) (k.bound (number k.even j) (inside s.env))) (v.2 j (inside s.env)));
            items = λ b le. lie constant at_item a.0 (λ j i. found (at_item j i) constant a.0 a.1) (λ j i. refl) b (subst (λ (z : Course). b.first + b.size ≤ z.count) e le);
          }
        where
          lie : (constant : Bool) (now : ℕ → ℕ → Now) (p : ObjectPart) → ((j i : ℕ) → constant ≡ false → Tie (now j i) (name (forget s.roles) from selections) p) → ((j i : ℕ) → (now j i).first ≡ p.offset + i * stride) → (b : Share) → b.first + b.size ≤ count
              → ItemsLie (items_in (Components x constant at from selections count stride dimensions filter) (forget s.roles)) now b
          lie true now p tied first b le = tt
          lie false now p tied first b le = (p.offset, λ i lo hi. ((let l = le in omega arith), (tied b.number i refl).1, first b.number i))

          base : (t : Now) → Suits t (forget s.roles) (inside s.env)
          base t = suits_forget s.now t s.roles (inside s.env) (suits_inside s.now s.roles s.env s.suits)

          found : (t : Now) (constant : Bool) (p : ObjectPart) → Can (Meaning.select ops limit program calls selections (inside s.env) (array_root constant from (inside s.env))) p → constant ≡ false → Tie t (name (forget s.roles) from selections) p
          found t true p g e = absurd (true≢false e)
          found t false p g e = located t (forget s.roles) (inside s.env) (base t) from selections p g

          differ : (b : Bool) (f t i m : ℕ) (now then : Now) → now.first ≡ f + i * t → now.size ≡ t → then.first ≡ f + m * t → then.size ≡ t → (i ≡ m → ⊥) → LoopsDiffer now then (cond b (Some (pos i)) None) (cond b (Some (pos m)) None)
          differ true f t i m now then e1 e2 e3 e4 ni = λ q. ni (counts i m q)
          differ false f t i m now then e1 e2 e3 e4 ni = λ n le lt le' lt'. parts_apart f t i m n ni (omega arith) (omega arith) (omega arith) (omega arith)

      cut_sum : (even : Bool) (greatest n : ℕ) → sum (Runs.sizes_of Instance this admits demands limit cuts one (cond even (Sized (evens n greatest)) (ByPlan greatest n))) ≤ n
      cut_sum true greatest n = sum_evens n greatest
      cut_sum false greatest n = whole greatest n

      value_cut_sum : (even : Bool) (greatest n : ℕ) → sum (Runs.sizes_of Instance this admits demands limit cuts one (cond even (Sized (without_zeros (evens n greatest))) (ByPlan greatest n))) ≤ n
      value_cut_sum true greatest n = le_trans (sum_without_zeros (evens n greatest)) (sum_evens n greatest)
      value_cut_sum false greatest n = whole greatest n

      -- constructs one by one

      abbrev in_course : (s : Scene) (it : Iteration) (c : Course) → Can (Meaning.course ops limit program calls it s.env) c → (i : ℕ) → i < c.count → Scene
      in_course s it c can i lt = naming s (course_hidden s.roles it s.roles) (c.bound i s.env) (course_suits s.now s.roles s.roles s.env s.env s.suits it c can s.suits i lt)

      abbrev in_chunk : (s : Scene) (chunk : Chunk) (it : Iteration) (k : Chunking) (c : Course) → Can (Meaning.chunking ops limit program calls chunk (inside s.env)) k → Can (Meaning.course ops limit program calls it (inside s.env)) c → (j i : ℕ) → i < c.count → Scene
      in_chunk s chunk it k c can can' j i lt = naming s (course_hidden s.roles it (chunk_hidden chunk s.roles)) (c.bound i (k.bound j (inside s.env)))
          (course_suits s.now s.roles (chunk_hidden chunk s.roles) (inside s.env) (k.bound j (inside s.env)) (suits_inside s.now s.roles s.env s.suits) it c can'
          (chunk_suits s.now s.roles (inside s.env) (inside s.env) chunk k can (suits_inside s.now s.roles s.env s.suits) j) i lt)

      -- a construct whose threads are judged apart from the text around it
      construct : {A : Type 0} (s : Scene) (site : Site) (con : Construct) → site_of con ≡ site.number → ((j l i m : ℕ) → (j ≡ l → ⊥) → (i ≡ m → ⊥) → Compared program con (arm_of con j i) (arm_of con l m)) → (s.asks → fine con)
          → AreDistinct site.now → (first_value : A) (f : ℕ → ℕ → A → Behaviour Instance A) (total : ℕ) (ns : List ℕ) → sum ns ≤ total → ((b : Share) → b.first + b.size ≤ total → ItemsLie (items_of con) site.now b)
          → ((j i : ℕ) (a : A) → i < total → Good program ⊥ (Exact program (site.now j i) (InThread program.subtypes con (arm_of con j i))) (f j i a)) → ((j i : ℕ) (a : A) → i < total → Fine s (f j i a))
          → Fine s (Behaviours.par demands one site (deal 0 0 ns) (λ c. Behaviours.within c.number (through (Behaviours.doings Instance) c.first c.size first_value (λ i a. f c.number i a))))
      construct {A} s site con same compared good distinct first_value f total ns bound items mine around =
          team_good program s.asks first_value f total demands s.allowed admits limit cuts one site ns bound (λ z b t p lives. law A first_value f site con same (good z) compared distinct total ns bound items mine b t p lives) around

      mutual
        pub eval_good : (e : Expr) (s : Scene) → Has s (InExpr program.subtypes s.roles e) → Fine s (Meaning.eval ops limit program calls e s.env)
        eval_good (Static at value literal mentions) s k = done s value
        eval_good (Variable at from selections scalar) s k = seq s (select_good selections s (variable_root from s.env) (part program fine (λ i h. inr h) k)) (λ p can.
            reads_good program s.asks s.allowed admits (VariableOf p.object) p.offset scalar (touched_one program fine k at false (name s.roles from selections) (inl refl) p (located s.now s.roles s.env s.suits from selections p can)))
        eval_good (Constant at from selections scalar) s k = seq s (select_good selections s (constant_root from s.env) k) (λ p can. reads_good program s.asks s.allowed admits (ConstantOf p.object) p.offset scalar refl)
        eval_good (Parameter at x) s k = done s (s.env.parameter x)
        eval_good (Target at scalar) s k = reads_good program s.asks s.allowed admits (VariableOf s.env.target.object) s.env.target.offset scalar (touched_one program fine k at false s.roles.target refl s.env.target s.suits.target)
        eval_good (Group e) s k = eval_good e s k
        eval_good (Unary at g class e) s k = seq s (eval_good e s k) (λ v _. seq s (unary_check s g at class (unary g class v)) (λ _ _. done s (unary g class v)))
        eval_good (Binary at op class e f) s k = seq s (eval_good e s (part program fine (λ i h. inl h) k)) (λ x _. seq s (eval_good f s (part program fine (λ i h. inr h) k)) (λ y _. operates s op at class x y))
        eval_good (AndThen e f) s k = seq s (eval_good e s (part program fine (λ i h. inl h) k)) (λ x _. choose s (truth x) (eval_good f s (part program fine (λ i h. inr h) k)) (done s (bit false)))
        eval_good (OrElse e f) s k = seq s (eval_good e s (part program fine (λ i h. inl h) k)) (λ x _. choose s (truth x) (done s (bit true)) (eval_good f s (part program fine (λ i h. inr h) k)))
        eval_good (Relation class comparison e f) s k = seq s (eval_good e s (part program fine (λ i h. inl h) k)) (λ x _. seq s (eval_good f s (part program fine (λ i h. inr h) k)) (λ y _. done s _))
        eval_good (Membership class negated e low high) s k = seq s (eval_good e s (part program fine (λ i h. inl h) k)) (λ x _. seq s (eval_good low s (part program fine (λ i h. inr (inl h)) k)) (λ l _. seq s (eval_good high s (part program fine (λ i h. inr (inr h)) k)) (λ u _. done s _)))
        eval_good (If condition value otherwise) s k = seq s (eval_good condition s (part program fine (λ i h. inl h) k)) (λ c _. choose s (truth c) (eval_good value s (part program fine (λ i h. inr (inl h)) k)) (eval_good otherwise s (part program fine (λ i h. inr (inr h)) k)))
        eval_good (Call at callee u actuals) s k = seq s (pass_good actuals [] s (part program fine (λ i h. inr h) k)) (λ passed _. seq s (called_good s s.env.nested u (Behaviours.ret tt) passed (done s tt) (call_into program fine at callee u (inl refl) k)) (λ r _. done s r.value))
        eval_good (Convert c e) s k = seq s (eval_good e s k) (λ v _. seq s (check s RangeCheck c.at (is_in c.scalar v)) (λ _ _. done s v))
        eval_good (Reduction at attribute by initial None chunk iteration value) s k =
            seq s (eval_good initial s (part program fine (λ i h. inr (inl h)) k)) (λ start _. seq s (course_good iteration s (part program fine (λ i h. inr (inr (inl h))) k)) (λ c can.
            through_good program s.asks s.allowed 0 c.count start (λ i so_far le lt. seq s
            (iterates_value s (filter_good iteration (in_course s iteration c can i (omega arith)) (part program fine (λ i h. inr (inr (inr (inl h)))) k)) (eval_good value (in_course s iteration c can i (omega arith)) (part program fine (λ i h. inr (inr (inr (inr h)))) k)))
            (λ v _. folds s (reduce_step s by attribute (fold_call s by s.env.nested (part program fine (λ i h. inl h) k))) so_far v))))
        eval_good (Reduction at attribute by initial (Some site) chunk iteration value) s k =
            seq s (eval_good initial s (part program fine (λ i h. inr (inr (inl h))) k)) (λ start _. seq s (opens s) (λ _ _.
            seq s (chunking_good chunk (inner s) (part program fine (λ i h. inr (inr (inr (inl h)))) k)) (λ c can. seq s (course_good iteration (inner s) (part program fine (λ i h. inr (inr (inr (inr (inl h))))) k)) (λ d can'.
            seq s (unless s (nat_le d.count most_iterations) reason.StorageError) (λ _ _.
            let con = ReductionOf site (forget s.roles) by chunk iteration value in
            let J = judges s chunk iteration c d (λ b j. chunk_of (cond b (Sized (without_zeros (evens d.count c.most))) (ByPlan c.most d.count)) j) (λ j. refl) can can' in
            let number : Bool → ℕ → ℕ = λ b j. chunk_of (cond b (Sized (without_zeros (evens d.count c.most))) (ByPlan c.most d.count)) j in
            let now = actual chunk iteration (forget s.roles) (inside s.env) c d number J in
            seq s (construct s (Meaning.site_at site chunk iteration (value_cut_of c d.count) c d (inside s.env)) con refl (λ j l i m nj ni. tt) (λ z. k.clean z con (inl refl)) (actual_apart chunk iteration (forget s.roles) (inside s.env) c d number J) start
            (λ j i so_far. Behaviours.◌>>=◌ (Meaning.iterate_value ops (Meaning.filtered ops limit program calls iteration (d.bound i (c.bound (chunk_of (value_cut_of c d.count) j) (inside s.env)))) (Meaning.eval ops limit program calls value (d.bound i (c.bound (chunk_of (value_cut_of c d.count) j) (inside s.env)))))
            (folded (Behaviours.doings Instance) (reduce (Behaviours.doings Instance) Runs.checks by attribute (Meaning.fold_call ops limit program calls by (suc s.env.nested))) so_far))
            d.count (Runs.sizes_of Instance this admits demands limit cuts one (value_cut_of c d.count)) (value_cut_sum c.even c.most d.count) (actual_items chunk iteration (forget s.roles) (inside s.env) c d number J)
            (λ j i so_far lt. let t = judged (now j i) (judging chunk iteration (forget s.roles)) (d.bound i (c.bound (chunk_of (value_cut_of c d.count) j) (inside s.env))) (actual_suits chunk iteration (forget s.roles) (inside s.env) c d number J j i lt) (InThread program.subtypes con j) in
            let x = exact program fine (now j i) (InThread program.subtypes con j) in
            seq t (iterates_value t (filter_good iteration t (part program fine (λ i h. inr (inl h)) x)) (eval_good value t (part program fine (λ i h. inr (inr h)) x)))
            (λ v _. folds t (reduce_step t by attribute (fold_call t by (suc s.env.nested) (part program fine (λ i h. inl h) x))) so_far v))
            (λ j i so_far lt. let t = in_chunk s chunk iteration c d can can' (chunk_of (value_cut_of c d.count) j) i lt in
            seq s (iterates_value s (filter_good iteration t (part program fine (λ i h. inr (inr (inr (inr (inr (inl h)))))) k)) (eval_good value t (part program fine (λ i h. inr (inr (inr (inr (inr (inr h)))))) k)))
            (λ v _. folds s (reduce_step s by attribute (fold_call s by (suc s.env.nested) (part program fine (λ i h. inr (inl h)) k))) so_far v)))
            (λ values _. combined s by attribute start values (combine_call s by s.env.nested (part program fine (λ i h. inr (inl h)) k))))))))

        holds_good : (e : Optional) (s : Scene) → Has s (InOptional program.subtypes s.roles e) → Fine s (Meaning.holds ops limit program calls e s.env)
        holds_good Absent s k = done s true
        holds_good (Present e) s k = seq s (eval_good e s k) (λ v _. done s (truth v))

        select_good : (g : Selections) (s : Scene) (p : ObjectPart) → Has s (InSelections program.subtypes s.roles g) → Fine s (Meaning.select ops limit program calls g s.env p)
        select_good Whole s p k = done s p
        select_good (Field number offset rest) s p k = select_good rest s (moved p offset) k
        select_good (Index at e low high stride rest) s p k = seq s (eval_good e s (part program fine (λ i h. inl h) k)) (λ v _. seq s (check s IndexCheck at (between low v high)) (λ _ _. select_good rest s (moved p (to_nat (v -ℤ low) * stride)) (part program fine (λ i h. inr h) k)))

        pass_good : (a : Actuals) (so_far : List Passed) (s : Scene) → Has s (InActuals program.subtypes s.roles a) → Fine s (Meaning.pass ops limit program calls a s.env so_far)
        pass_good NoActual so_far s k = done s so_far
        pass_good (In formal value rest) so_far s k = seq s (cells_good value s (part program fine (λ i h. inl h) k)) (λ cs _. pass_good rest _ s (part program fine (λ i h. inr h) k))
        pass_good (InOut formal at from selections x y rest) so_far s k =
            seq s (select_good selections s (variable_root from s.env) (part program fine (λ i h. inr (inr (inl h))) k)) (λ p can.
            seq s (reads_good program s.asks s.allowed admits (VariableOf p.object) p.offset y (touched_one program fine k at false (name s.roles from selections) (inl refl) p (located s.now s.roles s.env s.suits from selections p can))) (λ v _.
            seq s (check s RangeCheck at (is_in x v)) (λ _ _. pass_good rest _ s (part program fine (λ i h. inr (inr (inr h))) k))))
        pass_good (Out formal at from selections x y rest) so_far s k =
            seq s (select_good selections s (variable_root from s.env) (part program fine (λ i h. inr (inl h)) k)) (λ p can. pass_good rest _ s (part program fine (λ i h. inr (inr h)) k))
        pass_good (CompositeInOut formal at from selections subtype rest) so_far s k =
            seq s (select_good selections s (variable_root from s.env) (part program fine (λ i h. inr (inr (inl h))) k)) (λ p can.
            seq s (reads_all s (VariableOf p.object) p.offset [] (layout program.subtypes subtype) (touched program fine k at false (name s.roles from selections) (length (layout program.subtypes subtype)) (inl refl) p (located s.now s.roles s.env s.suits from selections p can))) (λ vs _.
            pass_good rest _ s (part program fine (λ i h. inr (inr (inr h))) k)))
        pass_good (CompositeOut formal at from selections subtype rest) so_far s k =
            seq s (select_good selections s (variable_root from s.env) (part program fine (λ i h. inr (inr (inl h))) k)) (λ p can.
            seq s (reads_all s (VariableOf p.object) p.offset [] (layout program.subtypes subtype) (touched program fine k at false (name s.roles from selections) (length (layout program.subtypes subtype)) (inl refl) p (located s.now s.roles s.env s.suits from selections p can))) (λ vs _.
            pass_good rest _ s (part program fine (λ i h. inr (inr (inr h))) k)))

        cells_good : (v : Value) (s : Scene) → Has s (InValue program.subtypes s.roles v) → Fine s (Meaning.cells ops limit program calls v s.env)
        cells_good (Number c e) s k = seq s (eval_good e s k) (λ v _. seq s (check s RangeCheck c.at (is_in c.scalar v)) (λ _ _. done s (v ∷ [])))
        cells_good (Cells c) s k = composite_good c s k

        composite_good : (c : Composite) (s : Scene) → Has s (InComposite program.subtypes s.roles c) → Fine s (Meaning.composite ops limit program calls c s.env)
        composite_good (WholeVariable at from selections subtype) s k = seq s (select_good selections s (variable_root from s.env) (part program fine (λ i h. inr h) k)) (λ p can.
            reads_all s (VariableOf p.object) p.offset [] (layout program.subtypes subtype) (touched program fine k at false (name s.roles from selections) (length (layout program.subtypes subtype)) (inl refl) p (located s.now s.roles s.env s.suits from selections p can)))
        composite_good (WholeConstant at from selections subtype) s k = seq s (select_good selections s (constant_root from s.env) k) (λ p can. reads_all s (ConstantOf p.object) p.offset [] (layout program.subtypes subtype) (λ m lt. refl))
        composite_good (WholeTarget at subtype) s k = reads_all s (VariableOf s.env.target.object) s.env.target.offset [] (layout program.subtypes subtype) (touched program fine k at false s.roles.target (length (layout program.subtypes subtype)) refl s.env.target s.suits.target)
        composite_good (CompositeIf condition value otherwise) s k = seq s (eval_good condition s (part program fine (λ i h. inl h) k)) (λ c _. choose s (truth c) (composite_good value s (part program fine (λ i h. inr (inl h)) k)) (composite_good otherwise s (part program fine (λ i h. inr (inr h)) k)))
        composite_good (Aggregate at size associations) s k = associated_good associations (zeros size) s k

        associated_good : (a : Associations) (so_far : List ℤ) (s : Scene) → Has s (InAssociations program.subtypes s.roles a) → Fine s (Meaning.associated ops limit program calls a s.env so_far)
        associated_good NoAssociation so_far s k = done s so_far
        associated_good (Association runs i mentions value rest) so_far s k =
            seq s (all_runs s runs so_far (λ n. seq s (value_turns s (is_some i)) (λ _ _. cells_good value (naming s (iterated_hidden i s.roles) (iterated_env i n s.env) (suits_iterated s.now s.roles s.env i n s.suits)) (part program fine (λ i h. inr (inl h)) k)))) (λ cs _.
            associated_good rest cs s (part program fine (λ i h. inr (inr h)) k))

        course_good : (it : Iteration) (s : Scene) → Has s (InCourse program.subtypes s.roles it) → Fine s (Meaning.course ops limit program calls it s.env)
        course_good (Range x reverse low high c filter) s k = seq s (eval_good low s (part program fine (λ i h. inl h) k)) (λ l _. seq s (eval_good high s (part program fine (λ i h. inr h) k)) (λ u _. seq s (bounds s c l u) (λ _ _. done s _)))
        course_good (Components x constant at from selections number stride dimensions filter) s k = seq s (select_good selections s (array_root constant from s.env) k) (λ p _. done s _)

        filter_good : (it : Iteration) (s : Scene) → Has s (InFilter program.subtypes s.roles it) → Fine s (Meaning.filtered ops limit program calls it s.env)
        filter_good (Range x reverse low high c filter) s k = holds_good filter s k
        filter_good (Components x constant at from selections number stride dimensions filter) s k = holds_good filter s k

        chunking_good : (c : Chunk) (s : Scene) → Has s (InChunk program.subtypes s.roles c) → Fine s (Meaning.chunking ops limit program calls c s.env)
        chunking_good NoChunk s k = done s _
        chunking_good (Count e) s k = seq s (eval_good e s k) (λ v _. seq s (most s v) (λ n _. done s _))
        chunking_good (Each x low high c) s k =
            seq s (eval_good low s (part program fine (λ i h. inl h) k)) (λ l _. seq s (eval_good high s (part program fine (λ i h. inr h) k)) (λ u _. seq s (bounds s c l u) (λ _ _.
            seq s (unless s (int_le l u) reason.ProgramError) (λ _ _. seq s (unless s (nat_le (count l u) most_threads) reason.StorageError) (λ _ _. done s _)))))

      written_good : (p : Pieces) (so_far : List ℕ) (s : Scene) → Has s (InPieces program.subtypes s.roles p) → Fine s (Meaning.written ops limit program calls p s.env so_far)
      written_good NoPiece so_far s k = done s so_far
      written_good (Text bytes rest) so_far s k = written_good rest (so_far ++ bytes) s k
      written_good (Image class e rest) so_far s k = seq s (eval_good e s (part program fine (λ i h. inl h) k)) (λ v _. written_good rest (so_far ++ image_of class v) s (part program fine (λ i h. inr h) k))
      written_good (Padded class e width rest) so_far s k = seq s (eval_good e s (part program fine (λ i h. inl h) k)) (λ v _. seq s (eval_good width s (part program fine (λ i h. inr (inl h)) k)) (λ w _. written_good rest (so_far ++ padded v (to_nat w)) s (part program fine (λ i h. inr (inr h)) k)))

      roomy_grown : (W : Type 0) (region : Region) (e : Entity) (E : Allowed) → Roomy program W region E → Roomy program W region (Grown program W region e E)
      roomy_grown W Here e E r = tt
      roomy_grown W Everywhere e E r = r

      -- declarations, and what sees their objects
      declared_good : {A : Type 0} (d : Decls) (region : Region) (s : Scene) → ((x : ℕ) → IsDeclared program d x → Placed program s.asks region x) → Roomy program s.asks region s.allowed → (rest : Item → Type 0) {m : Behaviour Instance A} → Has s (InDecls program.subtypes s.roles d rest)
          → ((E : Allowed) → Into program fine s.asks s.now E rest → Good program s.asks E m) → Fine s (Meaning.declared ops limit program calls d region s.env m)
      declared_good NoDecl region s placed room rest k h = h s.allowed k
      declared_good (DeclareDefault x more) region s placed room rest k h =
          elaborates_good program s.asks admits demands limit cuts one s.allowed region (VariableOf x) (defaults (object_layout program x)) (placed x (inl refl)) room
          (declared_good more region (allowing s (Grown program s.asks region (VariableOf x) s.allowed)) (λ y q. placed y (inr q)) (roomy_grown s.asks region (VariableOf x) s.allowed room) rest (grown_into program fine region x _ room k) h)
      declared_good (DeclareVariable x initial more) region s placed room rest k h = seq s (cells_good initial s (part program fine (λ i q. inl q) k)) (λ cs _.
          elaborates_good program s.asks admits demands limit cuts one s.allowed region (VariableOf x) cs (placed x (inl refl)) room
          (declared_good more region (allowing s (Grown program s.asks region (VariableOf x) s.allowed)) (λ y q. placed y (inr q)) (roomy_grown s.asks region (VariableOf x) s.allowed room) rest (grown_into program fine region x _ room (part program fine (λ i q. inr q) k)) h))
      declared_good (DeclareConstant x initial more) region s placed room rest k h = seq s (cells_good initial s (part program fine (λ i q. inl q) k)) (λ cs _.
          elaborates_good program s.asks admits demands limit cuts one s.allowed region (ConstantOf x) cs (placed x (inl refl)) room
          (declared_good more region (allowing s (Grown program s.asks region (ConstantOf x) s.allowed)) (λ y q. placed y (inr q)) (roomy_grown s.asks region (ConstantOf x) s.allowed room) rest (constant_into program fine region x (part program fine (λ i q. inr q) k)) h))
      declared_good (Mentions es more) region s placed room rest k h = declared_good more region s placed room rest (part program fine (λ i q. inr q) k) h

      copy_back : (s : Scene) (b : Option Back) (vs : List ℤ) → BackFine s.allowed b → Fitted b vs → Fine s (Meaning.copied_back ops limit program calls b vs)
      copy_back s None vs f g = done s tt
      copy_back s (Some b) vs f g = seq s (back_check b.check vs) (λ _ _. writes_all s b.part.object b.part.offset vs (λ m lt. f m (omega arith)))
        where
          back_check : (c : Option Check) (vs : List ℤ) → Fine s (Meaning.back_checked ops limit program calls c vs)
          back_check None vs = done s tt
          back_check (Some c) [] = done s tt
          back_check (Some c) (v ∷ vs) = check s RangeCheck c.at (is_in c.scalar v)

      copies_back : (s : Scene) (ps : List Passed) (vss : List (List ℤ)) → AllBack s.allowed ps → AllFitted ps vss → Fine s (Meaning.all_copied_back ops limit program calls ps vss)
      copies_back s [] vss f g = done s tt
      copies_back s (p ∷ ps) [] f g = done s tt
      copies_back s (p ∷ ps) (vs ∷ vss) f g = seq s (copy_back s p.back vs f.0 g.0) (λ _ _. copies_back s ps vss f.1 g.1)

      threads_good : (e : Optional) (s : Scene) → Has s (InOptional program.subtypes s.roles e) → Fine s (Meaning.threads_of ops limit program calls e s.env)
      threads_good Absent s k = done s most_threads
      threads_good (Present e) s k = seq s (eval_good e s k) (λ v _. most s v)

      abbrev at_arm : ℕ → ℕ → Now
      at_arm j i = record { loop = Some (pos i); chunk = pos j; first = 0; size = 0 }

      mutual
        pub exec_good : (st : Stmt) (s : Scene) → Has s (InStmt program.subtypes s.roles st) → Fine s (Meaning.exec ops limit program calls st s.env)
        exec_good Null s k = done s tt
        exec_good (Assign at from selections value) s k = seq s (select_good selections s (variable_root from s.env) (part program fine (λ i h. inr (inl h)) k)) (λ p can.
            let t = located s.now s.roles s.env s.suits from selections p can in
            let u = naming s (record s.roles { target = name s.roles from selections }) (with_target p s.env) (suits_target s.now s.roles s.env (name s.roles from selections) p t s.suits) in
            seq s (cells_good value u (part program fine (λ i h. inr (inr h)) k)) (λ cs can'. let w = cells_width value (with_target p s.env) cs can' in
            writes_all s p.object p.offset cs (λ m lt. touched program fine k at true (name s.roles from selections) (width program.subtypes value) (inl refl) p t m (omega arith))))
        exec_good (CallProcedure at callee u actuals) s k = seq s (pass_good actuals [] s (part program fine (λ i h. inr h) k)) (λ passed can. seq s (called_good s s.env.nested u (Behaviours.ret tt) passed (done s tt) (call_into program fine at callee u (inl refl) k)) (λ r can'.
            copies_back s passed r.cells (pass_back s actuals [] passed (part program fine (λ i h. inr h) k) tt can) (returned s.env.nested u (Behaviours.ret tt) passed r can')))
        exec_good (Exit loop condition) s k = seq s (holds_good condition s k) (λ goes _. choose s goes (leave s (Exits loop)) (done s tt))
        exec_good Return s k = leave s (Returns None)
        exec_good (ReturnValue value) s k = seq s (cells_good value s k) (λ cs _. leave s (Returns (slice_get cs 0)))
        exec_good (Raise r) s k = raised s r
        exec_good Reraise s k = raised s s.env.handled
        exec_good (IfThen condition stmts otherwise) s k = seq s (eval_good condition s (part program fine (λ i h. inl h) k)) (λ c _. choose s (truth c) (exec_all_good stmts s (part program fine (λ i h. inr (inl h)) k)) (exec_all_good otherwise s (part program fine (λ i h. inr (inr h)) k)))
        exec_good (Case e alternatives) s k = seq s (eval_good e s (part program fine (λ i h. inl h) k)) (λ v _. exec_chosen_good alternatives v s (part program fine (λ i h. inr h) k))
        exec_good (Loop number condition stmts) s k = caught s (exits number) (whiles s (suc limit) (holds_good condition s (part program fine (λ i h. inl h) k)) (exec_all_good stmts s (part program fine (λ i h. inr h) k))) (λ _. done s tt)
        exec_good (For number iteration stmts) s k =
            seq s (course_good iteration s (part program fine (λ i h. inl h) k)) (λ c can. caught s (exits number) (through_good program s.asks s.allowed 0 c.count tt (λ i (u : Unit {0}) le lt.
            iterates s (filter_good iteration (in_course s iteration c can i (omega arith)) (part program fine (λ i h. inr (inl h)) k)) (exec_all_good stmts (in_course s iteration c can i (omega arith)) (part program fine (λ i h. inr (inr h)) k)))) (λ _. done s tt))
        exec_good (ParallelFor number site chunk iteration stmts) s k =
            seq s (opens s) (λ _ _. seq s (chunking_good chunk (inner s) (part program fine (λ i h. inr (inl h)) k)) (λ c can. seq s (course_good iteration (inner s) (part program fine (λ i h. inr (inr (inl h))) k)) (λ d can'.
            seq s (unless s (nat_le d.count most_iterations) reason.StorageError) (λ _ _.
            let con = LoopOf site (forget s.roles) chunk iteration stmts in
            let J = judges s chunk iteration c d (λ b j. chunk_of (cond b (Sized (evens d.count c.most)) (ByPlan c.most d.count)) j) (λ j. refl) can can' in
            let dealt : Bool → ℕ → ℕ = λ b j. chunk_of (cond b (Sized (evens d.count c.most)) (ByPlan c.most d.count)) j in
            let now = actual chunk iteration (forget s.roles) (inside s.env) c d dealt J in
            caught s (exits number) (seq s (construct s (Meaning.site_at site chunk iteration (cut_of c d.count) c d (inside s.env)) con refl (λ j l i m nj ni. tt) (λ z. k.clean z con (inl refl)) (actual_apart chunk iteration (forget s.roles) (inside s.env) c d dealt J) tt
            (λ j i u. Meaning.iterate ops (Meaning.filtered ops limit program calls iteration (d.bound i (c.bound (chunk_of (cut_of c d.count) j) (inside s.env)))) (Meaning.exec_all ops limit program calls stmts (d.bound i (c.bound (chunk_of (cut_of c d.count) j) (inside s.env)))))
            d.count (Runs.sizes_of Instance this admits demands limit cuts one (cut_of c d.count)) (cut_sum c.even c.most d.count) (actual_items chunk iteration (forget s.roles) (inside s.env) c d dealt J)
            (λ j i u lt. let t = judged (now j i) (judging chunk iteration (forget s.roles)) (d.bound i (c.bound (chunk_of (cut_of c d.count) j) (inside s.env))) (actual_suits chunk iteration (forget s.roles) (inside s.env) c d dealt J j i lt) (InThread program.subtypes con j) in
            let x = exact program fine (now j i) (InThread program.subtypes con j) in
            iterates t (filter_good iteration t (part program fine (λ i h. inl h) x)) (exec_all_good stmts t (part program fine (λ i h. inr h) x)))
            (λ j i u lt. let t = in_chunk s chunk iteration c d can can' (chunk_of (cut_of c d.count) j) i lt in
            iterates s (filter_good iteration t (part program fine (λ i h. inr (inr (inr (inl h)))) k)) (exec_all_good stmts t (part program fine (λ i h. inr (inr (inr (inr h)))) k))))
            (λ _ _. done s tt)) (λ _. done s tt)))))
        exec_good (Parallel site number arms) s k =
            seq s (opens s) (λ _ _. seq s (threads_good number (inner s) (part program fine (λ i h. inr (inl h)) k)) (λ n _.
            let con = BlockOf site (forget s.roles) number arms in
            seq s (construct s (Meaning.block_site site) con refl (λ j l i m nj ni. ni) (λ z. k.clean z con (inl refl)) (λ j l i m nj ni. record { chunk = λ q. nj (counts j l q); loops = λ q. ni (counts i m q) }) tt (λ j i u. Meaning.exec_arm ops limit program calls arms i (inside s.env)) (arms_of arms) _ (sum_evens (arms_of arms) (min n (arms_of arms))) (λ b le. tt)
            (λ j i u lt. let t = judged (at_arm j i) (forget s.roles) (inside s.env) (suits_forget s.now (at_arm j i) s.roles (inside s.env) (suits_inside s.now s.roles s.env s.suits)) (InThread program.subtypes con i) in
            exec_arm_good arms i t (exact program fine (at_arm j i) (InThread program.subtypes con i)))
            (λ j i u lt. exec_arm_good arms i (inner s) (part program fine (λ x h. inr (inr (i, h))) k)))
            (λ _ _. done s tt)))
        exec_good (Block decls stmts handlers) s k = declared_good decls Here s (λ x h. tt) tt (λ j. InAll program.subtypes s.roles stmts j ⊎ InHandlers program.subtypes s.roles handlers j) k (λ E x.
            guards (allowing s E) handlers (exec_all_good stmts (allowing s E) (part program fine (λ i h. inl h) x)) (λ r. exec_handler_good handlers r (allowing s E) (part program fine (λ i h. inr h) x)))
        exec_good (Put at callee pieces line) s k = seq s (written_good pieces [] s (part program fine (λ i h. inr h) k)) (λ bytes _. emits_good program s.asks s.allowed (Puts (cond line (bytes ++ (10 ∷ [])) bytes)) (λ r p. tt))
        exec_good (Get at callee first from selections scalar) s k =
            seq s (select_good selections s (variable_root from s.env) (part program fine (λ i h. inr (inr h)) k)) (λ p can. seq s (gets s (k.blocks at callee (inl refl))) (λ v _. seq s (check s RangeCheck first (is_in scalar v)) (λ _ _.
            writes_good program s.asks s.allowed p.object p.offset v (touched_one program fine k first true (name s.roles from selections) (inr (inl refl)) p (located s.now s.roles s.env s.suits from selections p can)))))

        pub exec_all_good : (ss : Stmts) (s : Scene) → Has s (InAll program.subtypes s.roles ss) → Fine s (Meaning.exec_all ops limit program calls ss s.env)
        exec_all_good End s k = done s tt
        exec_all_good (Then st ss) s k = seq s (exec_good st s (part program fine (λ i h. inl h) k)) (λ _ _. exec_all_good ss s (part program fine (λ i h. inr h) k))

        exec_chosen_good : (a : Alternatives) (v : ℤ) (s : Scene) → Has s (InAlternatives program.subtypes s.roles a) → Fine s (Meaning.exec_chosen ops limit program calls a v s.env)
        exec_chosen_good NoAlternative v s k = raised s reason.ConstraintError
        exec_chosen_good (Alternative others choices mentions stmts rest) v s k = choose s (others || is_chosen choices v) (exec_all_good stmts s (part program fine (λ i h. inr (inl h)) k)) (exec_chosen_good rest v s (part program fine (λ i h. inr (inr h)) k))

        pub exec_arm_good : (a : Arms) (i : ℕ) (s : Scene) → Has s (InArm program.subtypes s.roles a i) → Fine s (Meaning.exec_arm ops limit program calls a i s.env)
        exec_arm_good NoArm i s k = done s tt
        exec_arm_good (Arm stmts rest) zero s k = exec_all_good stmts s k
        exec_arm_good (Arm stmts rest) (suc i) s k = exec_arm_good rest i s k

        exec_handler_good : (hs : Handlers) (r : Reason) (s : Scene) → Has s (InHandlers program.subtypes s.roles hs) → Fine s (Meaning.exec_handler ops limit program calls hs r s.env)
        exec_handler_good NoHandler r s k = raised s r
        exec_handler_good (Handler handled stmts rest) r s k =
            choose s (handles_reason handled r) (exec_all_good stmts (naming s s.roles (with_handled r s.env) (suits_handled s.now s.roles s.env r s.suits)) (part program fine (λ i h. inl h) k)) (exec_handler_good rest r s (part program fine (λ i h. inr h) k))

      pub body_good : (b : Body) (region : Region) (s : Scene) → ((x : ℕ) → IsDeclared program b.decls x → Placed program s.asks region x) → Roomy program s.asks region s.allowed
          → Has s (InDecls program.subtypes s.roles b.decls (λ j. InAll program.subtypes s.roles b.stmts j ⊎ InHandlers program.subtypes s.roles b.handlers j)) → Fine s (Meaning.exec_body ops limit program calls b region s.env)
      body_good b region s placed room k = declared_good b.decls region s placed room (λ j. InAll program.subtypes s.roles b.stmts j ⊎ InHandlers program.subtypes s.roles b.handlers j) k (λ E x.
          guards (allowing s E) b.handlers (exec_all_good b.stmts (allowing s E) (part program fine (λ i h. inl h) x)) (λ r. exec_handler_good b.handlers r (allowing s E) (part program fine (λ i h. inr h) x)))

    -- subprograms

    same_or : (x y : ℕ) (P : Type 0) → P ⊎ (P → ⊥) → ((x ≡ y) ⊎ P) ⊎ (((x ≡ y) ⊎ P) → ⊥)
    same_or x y P (inl p) = inl (inr p)
    same_or x y P (inr n) = go (nat_eq x y) refl
      where
        go : (b : Bool) → nat_eq x y ≡ b → ((x ≡ y) ⊎ P) ⊎ (((x ≡ y) ⊎ P) → ⊥)
        go true e = inl (inl (eqb-true x y e))
        go false e = inr (λ h. ⊎_elim (λ same. true≢false (sym (eq-eqb x y same) ∙ e)) n h)

    declared_or : (d : Decls) (x : ℕ) → IsDeclared program d x ⊎ (IsDeclared program d x → ⊥)
    declared_or NoDecl x = inr (λ h. h)
    declared_or (DeclareDefault y more) x = same_or x y (IsDeclared program more x) (declared_or more x)
    declared_or (DeclareVariable y initial more) x = same_or x y (IsDeclared program more x) (declared_or more x)
    declared_or (DeclareConstant y initial more) x = same_or x y (IsDeclared program more x) (declared_or more x)
    declared_or (Mentions es more) x = declared_or more x

    -- what a call's text may touch, as the text of the callee
    callee_into : (s : Scene) (u : ℕ) → CallInto program fine s.now s.allowed u → Into program fine s.asks s.now (called program s.asks s.allowed) (λ i. InSub program u i)
    callee_into s u k = record {
      touch = λ at a n h l. ⊎_elim (λ g. inl (k.touch at a n (u, 0, refl, h) g l)) (λ g. inr g) (declared_or program.body.decls a.object);
      call = λ at callee v there a n h r g l. k.touch there a n (r.0, suc r.1, (v, at, callee, h, r.2), r.3) g l;
      blocks = λ at callee h. k.reach at callee (u, 0, refl, h);
      reach = λ at callee v there last h r. k.reach there last (r.0, suc r.1, (v, at, callee, h, r.2), r.3);
      clean = λ z c h. s.sound z u c h;
    }

    -- formals are the callee's own
    abbrev with_formals : Type 0 → List Passed → Allowed → Allowed
    with_formals W [] E = E
    with_formals W (p ∷ ps) E = with_formals W ps (with_object program W p.formal E)

    formals_into : {W : Type 0} {now : Now} {E : Allowed} {items : Item → Type 0} (ps : List Passed) → Into program fine W now E items → Into program fine W now (with_formals W ps E) items
    formals_into [] k = k
    formals_into (p ∷ ps) k = formals_into ps (more_into program fine p.formal k)

    formals_good : {A : Type 0} (W : Type 0) (ps : List Passed) (E : Allowed) {m : Behaviour Instance A} → Good program W (with_formals W ps E) m → Good program W E (Meaning.with_formals ops limit program ps m)
    formals_good W [] E g = g
    formals_good W (p ∷ ps) E g = elaborates_good program W admits demands limit cuts one E Here p.formal p.cells tt tt (formals_good W ps (with_object program W p.formal E) g)

    may_more : (W : Type 0) (e : Entity) (E : Allowed) (w : Bool) (x : Entity) (i : ℕ) → MayTouch E.at w x i → MayTouch (with_object program W e E).at w x i
    may_more W e E w (VariableOf x) i h = inl h
    may_more W e E w (ConstantOf x) i h = h

    may_still : (W : Type 0) (ps : List Passed) (E : Allowed) (w : Bool) (x : Entity) (i : ℕ) → MayTouch E.at w x i → MayTouch (with_formals W ps E).at w x i
    may_still W [] E w x i h = h
    may_still W (p ∷ ps) E w x i h = may_still W ps (with_object program W p.formal E) w x i (may_more W p.formal E w x i h)

    may_new : (W : Type 0) (e : Entity) (E : Allowed) (i : ℕ) → MayTouch (with_object program W e E).at false e i
    may_new W (VariableOf x) E i = inr refl
    may_new W (ConstantOf x) E i = refl

    abbrev AllOwn : Allowed → List Passed → Type 0
    AllOwn E [] = Unit {0}
    AllOwn E (p ∷ ps) = ((i : ℕ) → MayTouch E.at false p.formal i) × AllOwn E ps

    all_own : (W : Type 0) (ps : List Passed) (E : Allowed) → AllOwn (with_formals W ps E) ps
    all_own W [] E = tt
    all_own W (p ∷ ps) E = (λ i. may_still W ps (with_object program W p.formal E) false p.formal i (may_new W p.formal E i), all_own W ps (with_object program W p.formal E))

    cells_back_good : (s : Scene) (x : Entity) (b : Option Back) → ((i : ℕ) → MayTouch s.allowed.at false x i) → Fine s (Meaning.cells_back ops limit program x b)
    cells_back_good s x None h = done s []
    cells_back_good s x (Some b) h = reads_all s x 0 [] b.cells (λ m lt. h (0 + m))

    back_cells_good : (s : Scene) (ps : List Passed) (so_far : List (List ℤ)) → AllOwn s.allowed ps → Fine s (Meaning.back_cells ops limit program ps so_far)
    back_cells_good s [] so_far h = done s so_far
    back_cells_good s (p ∷ ps) so_far h = seq s (cells_back_good s p.formal p.back h.0) (λ vs _. back_cells_good s ps (so_far ++ (vs ∷ [])) h.1)

    ended_good : (s : Scene) (result : Option Scalar) → Fine s (Meaning.ended ops limit program result)
    ended_good s None = done s (pos 0)
    ended_good s (Some r) = raised s reason.ProgramError

    of_formals : {A : Type 0} (ps : List Passed) (m : Behaviour Instance A) (v : A) → Can (Meaning.with_formals ops limit program ps m) v → Can m v
    of_formals [] m v c = c
    of_formals (p ∷ ps) m v c = of_formals ps m v (of_elaborates p.formal p.cells (Meaning.with_formals ops limit program ps m) v c)

    one_fitted : (x : Entity) (b : Option Back) (vs : List ℤ) → Can (Meaning.cells_back ops limit program x b) vs → Fitted b vs
    one_fitted x None vs c = tt
    one_fitted x (Some b) vs c = let e = read_length x 0 b.cells vs c in omega arith

    back_fits : (qs ps : List Passed) (so_far vss : List (List ℤ)) → FitSoFar qs so_far → Can (Meaning.back_cells ops limit program ps so_far) vss → AllFitted (qs ++ ps) vss
    back_fits qs [] so_far vss h c = subst (λ z. AllFitted (qs ++ []) z) (sym (of_ret c)) (fit_all qs so_far h)
    back_fits qs (p ∷ ps) so_far vss h c =
        let a = of_bind c in
        subst (λ z. AllFitted z vss) (one_more qs p ps) (back_fits (qs ++ (p ∷ [])) ps (so_far ++ (a.0 ∷ [])) vss (fit_more qs so_far p a.0 h (one_fitted p.formal p.back a.0 a.1)) a.2)

    back_fitted : (ps : List Passed) (vss : List (List ℤ)) → Can (Meaning.back_cells ops limit program ps []) vss → AllFitted ps vss
    back_fitted ps vss c = back_fits [] ps [] vss tt c

    module _ (law : TeamLaw program fine demands) where
      abbrev CallsGood : (ℕ → ℕ → Behaviour Instance (Unit {0}) → List Passed → Behaviour Instance Returned) → Type 1
      CallsGood calls = (s : Scene) (nested u : ℕ) (before : Behaviour Instance (Unit {0})) (passed : List Passed) → Fine s before → CallInto program fine s.now s.allowed u → Fine s (calls nested u before passed)

      abbrev CallsFit : (ℕ → ℕ → Behaviour Instance (Unit {0}) → List Passed → Behaviour Instance Returned) → Type 1
      CallsFit calls = (nested u : ℕ) (before : Behaviour Instance (Unit {0})) (passed : List Passed) (r : Returned) → Can (calls nested u before passed) r → AllFitted passed r.cells

      sub_fits : (calls : ℕ → ℕ → Behaviour Instance (Unit {0}) → List Passed → Behaviour Instance Returned) (callee : Option Sub) (nested : ℕ) (passed : List Passed) (r : Returned) → Can (Meaning.exec_sub ops limit program calls callee nested passed) r → AllFitted passed r.cells
      sub_fits calls None nested passed r c = absurd (of_leaves c)
      sub_fits calls (Some sub) nested passed r c =
          let a = of_bind (of_formals passed _ r (of_apart c)) in let b = of_bind a.2 in
          subst (λ (z : Returned). AllFitted passed z.cells) (sym (of_ret b.2)) (back_fitted passed b.0 b.1)

      pub call_fits : (depth : ℕ) → CallsFit (Meaning.call ops limit program depth)
      call_fits zero nested u before passed r c = let a = of_bind c in absurd (of_leaves a.2)
      call_fits (suc depth) nested u before passed r c = let a = of_bind c in let b = of_bind a.2 in sub_fits (Meaning.call ops limit program depth) (sub_at program.subs u) nested passed r b.2

      sub_good : (calls : ℕ → ℕ → Behaviour Instance (Unit {0}) → List Passed → Behaviour Instance Returned) → CallsGood calls → CallsFit calls → (s : Scene) (callee : Option Sub) (nested : ℕ) (passed : List Passed)
          → Into program fine s.asks s.now (called program s.asks s.allowed) (λ i. InCallee program callee i) → Fine s (Meaning.exec_sub ops limit program calls callee nested passed)
      sub_good calls good fit s None nested passed k = raised s reason.ProgramError
      sub_good calls good fit s (Some sub) nested passed k =
          apart_good program s.asks s.allowed (formals_good s.asks passed (called program s.asks s.allowed)
          (seq inside_it (caught inside_it returns (seq inside_it (body_good calls good fit law sub.body Here inside_it (λ x h. tt) tt (formals_into passed k)) (λ _ _. ended_good inside_it sub.result)) (λ how. done inside_it (value_of how)))
          (λ v _. seq inside_it (back_cells_good inside_it passed [] (all_own s.asks passed (called program s.asks s.allowed))) (λ vss _. done inside_it (record { value = v; cells = vss })))))
        where
          inside_it : Scene
          inside_it = record { asks = s.asks; now = s.now; roles = unknown; env = outset nested; allowed = with_formals s.asks passed (called program s.asks s.allowed); suits = suits_unknown s.now nested; sound = s.sound }

      pub call_good : (depth : ℕ) → CallsGood (Meaning.call ops limit program depth)
      call_good zero s nested u before passed g k = seq s (turned s) (λ _ _. raised s reason.StorageError)
      call_good (suc depth) s nested u before passed g k =
          seq s (turned s) (λ _ _. seq s g (λ _ _. sub_good (Meaning.call ops limit program depth) (call_good depth) (call_fits depth) s (sub_at program.subs u) nested passed (callee_into s u k)))

      -- the main procedure, at which all is allowed
      pub main_good : (W : Type 0) → (W → (k : Construct) → InProgram program (Holds k) → fine k) → (now : Now) → Good program W (record { at = λ w x n. Unit {0}; global = λ w x n. Unit {0}; input = Unit {0} }) (Meaning.main ops limit program)
      main_good W clean now = caught s (λ how. not (raises how)) (body_good (Meaning.call ops limit program most_calls) (call_good most_calls) (call_fits most_calls) law program.body Everywhere s (λ x h. h) (λ w x n. tt) k) (λ _. done s tt)
        where
          s : Scene
          s = record { asks = W; now = now; roles = unknown; env = outset 0; allowed = record { at = λ w x n. Unit {0}; global = λ w x n. Unit {0}; input = Unit {0} }; suits = suits_unknown now 0; sound = λ z u c h. clean z c (inr (u, h)) }

          k : Into program fine W now (record { at = λ w x n. Unit {0}; global = λ w x n. Unit {0}; input = Unit {0} }) (λ i. InBody program.subtypes program.body i)
          k = record { touch = λ at a n h l. tt; call = λ at callee u there a n h r g l. tt; blocks = λ at callee h. tt; reach = λ at callee u there last h r. tt; clean = λ z c h. clean z c (inl h) }
