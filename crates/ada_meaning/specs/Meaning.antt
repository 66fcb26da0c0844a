-- What programs do, over any operations: the dynamic semantics of the manual, a construct a clause, in the order of
-- evaluation.
use Rattle.std.specs.Prelude.{ℕ, zero, suc, ◌+◌, ◌*◌, min, ℤ, pos, ◌+ℤ◌, ◌-ℤ◌, int_lt, int_le, nat_eq, nat_lt, nat_le, List, [], ◌∷◌, ◌++◌, slice_get, Option, Some, None, is_some, Bool, true, false, not, ◌&&◌, ◌||◌, cond}
use Rattle.ada_base.specs.declared.reason.Reason.{Reason}
use Rattle.ada_base.specs.declared.reason.Reason.TheVariants as reason
use Rattle.ada_base.specs.Operation.{is_in_base}
use Rattle.ada_base.specs.Input
use Rattle.ada_base.specs.Input.{Reading}
use Rattle.typed_tree.specs.declared.scalars.Class.{Class}
use Rattle.typed_tree.specs.declared.scalars.Scalar.{Scalar}
use Rattle.typed_tree.specs.declared.scalars.Check.{Check}
use Rattle.typed_tree.specs.declared.expressions.Sign.{Sign}
use Rattle.typed_tree.specs.declared.expressions.Sign.TheVariants as sign
use Rattle.typed_tree.specs.declared.expressions.Root.{Root}
use Rattle.typed_tree.specs.declared.expressions.Root.TheVariants as root
use Rattle.typed_tree.specs.declared.expressions.Run.{Run}
use Rattle.typed_tree.specs.declared.expressions.Iterated.{Iterated}
use Rattle.typed_tree.specs.declared.expressions.Reducer.{Reducer}
use Rattle.typed_tree.specs.declared.expressions.Reducer.TheVariants.{Operator, Function}
use Rattle.typed_tree.specs.declared.program.Formal.{Formal}
use Rattle.typed_tree.specs.declared.program.Object.{Object}
use Rattle.typed_tree.specs.Syntax.{Expr, Static, Variable, Constant, Parameter, Target, Group, Unary, Binary, AndThen, OrElse, Relation, Membership, If, Call, Convert, Reduction, Optional, Absent, Present, Selections, Whole, Field, Index, Actuals, NoActual, In, InOut, Out, CompositeInOut, CompositeOut, Value, Number, Cells, Composite, WholeVariable, WholeConstant, WholeTarget, CompositeIf, Aggregate, Associations, NoAssociation, Association, Iteration, Range, Components, Chunk, NoChunk, Count, Each, Pieces, NoPiece, Text, Image, Padded, Decls, NoDecl, DeclareDefault, DeclareVariable, DeclareConstant, Mentions, Stmt, Null, Assign, CallProcedure, Exit, Return, ReturnValue, Raise, Reraise, IfThen, Case, Loop, For, ParallelFor, Parallel, Block, Put, Get, Stmts, End, Then, Alternatives, NoAlternative, Alternative, Arms, NoArm, Arm, Handlers, NoHandler, Handler, Body, Sub, Program}
use Rattle.ada_base.specs.Cuts.{evens}
use Rattle.ada_base.specs.Image.{padded}
use Rattle.behaviours.specs.Doings.{through, folded}
use Rattle.behaviours.specs.Paths.{Leave, Exits, Returns, Raises, Entity, VariableOf, ConstantOf, Region, Everywhere, Here}
use Rattle.behaviours.specs.Joins.{Now, Site}
use Rattle.ada_meaning.specs.Values.{truth, bit, is_modular, number_in, is_member, is_in, between, to_nat, count, base_of, unary, compares, is_chosen, handles_reason, without_zeros, layout, defaults, laid, zeros, image_of}
use Rattle.ada_meaning.specs.Operations.{RangeCheck, IndexCheck, OverflowCheck, Cut, ByPlan, Sized, chunk_of, Operations, operate, reduce}

-- an object and how many cells of it come before
pub record ObjectPart : Type 0 where
  pub object : ℕ
  pub offset : ℕ

abbrev pub moved : ObjectPart → ℕ → ObjectPart
moved p n = record { object = p.object; offset = p.offset + n }

abbrev pub nowhere : ObjectPart
nowhere = record { object = 0; offset = 0 }

-- what names stand for that aren't objects: the values of parameters, the components that items name, the target of
-- the assignment; the exception that is handled; and how many parallel constructs are around
pub record Env : Type 0 where
  pub parameter : ℕ → ℤ
  pub item : ℕ → ObjectPart
  pub constant_item : ℕ → ObjectPart
  pub target : ObjectPart
  pub handled : Reason
  pub nested : ℕ

-- where a body begins, with so many constructs around
abbrev pub outset : ℕ → Env
outset n = record { parameter = λ k. pos 0; item = λ k. nowhere; constant_item = λ k. nowhere; target = nowhere; handled = reason.ProgramError; nested = n }

abbrev pub with_parameter : ℕ → ℤ → Env → Env
with_parameter k v env = record env { parameter = λ j. cond (nat_eq j k) v (env.parameter j) }

abbrev pub with_item : Bool → ℕ → ObjectPart → Env → Env
with_item true k p env = record env { constant_item = λ j. cond (nat_eq j k) p (env.constant_item j) }
with_item false k p env = record env { item = λ j. cond (nat_eq j k) p (env.item j) }

abbrev pub with_target : ObjectPart → Env → Env
with_target p env = record env { target = p }

abbrev pub with_handled : Reason → Env → Env
with_handled r env = record env { handled = r }

abbrev pub inside : Env → Env
inside env = record env { nested = suc env.nested }

abbrev pub variable_root : Root → Env → ObjectPart
variable_root (root.Object x) env = record { object = x; offset = 0 }
variable_root (root.Item k) env = env.item k

abbrev pub constant_root : Root → Env → ObjectPart
constant_root (root.Object x) env = record { object = x; offset = 0 }
constant_root (root.Item k) env = env.constant_item k

-- the root of an array that an iteration goes through, which may be a constant
abbrev pub array_root : Bool → Root → Env → ObjectPart
array_root true r env = constant_root r env
array_root false r env = variable_root r env

-- how many iterations there are, and what is bound in each
pub record Course : Type 0 where
  pub count : ℕ
  pub bound : ℕ → Env → Env

-- the greatest number of threads, and with a chunk parameter what is bound in each
pub record Chunking : Type 0 where
  pub most : ℕ
  pub even : Bool
  pub bound : ℕ → Env → Env

-- where a parameter is copied back, the subtypes of the formal's cells, and the check of a scalar
pub record Back : Type 0 where
  pub part : ObjectPart
  pub cells : List Scalar
  pub check : Option Check

-- an actual parameter that was evaluated: the formal, its first cells, and where it is copied back
pub record Passed : Type 0 where
  pub formal : Entity
  pub cells : List ℤ
  pub back : Option Back

-- what a call gives: a function's value, and the cells that are copied back
pub record Returned : Type 0 where
  pub value : ℤ
  pub cells : List (List ℤ)

abbrev pub object_of : Entity → ℕ
object_of (VariableOf x) = x
object_of (ConstantOf x) = x

-- threads where no number is asked for, and constructs and calls that may be active; iterations of a construct
abbrev pub most_threads : ℕ
most_threads = 4096

abbrev pub most_nested : ℕ
most_nested = 16

abbrev pub most_calls : ℕ
most_calls = 1000

abbrev pub most_iterations : ℕ
most_iterations = 4611686018427387904

abbrev pub cut_of : Chunking → ℕ → Cut
cut_of k n = cond k.even (Sized (evens n k.most)) (ByPlan k.most n)

-- a value sequence has only the chunks that aren't empty
abbrev pub value_cut_of : Chunking → ℕ → Cut
value_cut_of k n = cond k.even (Sized (without_zeros (evens n k.most))) (ByPlan k.most n)

-- what the parameters of a construct are in iteration i of thread j, in these environments: of the thread, and of the
-- iteration in it. Where there is no chunk parameter any value that tells threads apart serves for it, and so does the
-- number of the iteration where a constant array is gone through, to which no name in an effect leads
abbrev pub chunk_value : Chunk → ℕ → Env → ℤ
chunk_value NoChunk j env = pos j
chunk_value (Count e) j env = pos j
chunk_value (Each k low high check) j env = env.parameter k

abbrev pub now_of : Chunk → Iteration → (j i : ℕ) → Env → Env → Now
now_of chunk (Range k reverse low high check filter) j i thread env = record { loop = Some (env.parameter k); chunk = chunk_value chunk j thread; first = 0; size = 0 }
now_of chunk (Components k constant at r selections number stride dimensions filter) j i thread env = record {
  loop = cond constant (Some (pos i)) None;
  chunk = chunk_value chunk j thread;
  first = (cond constant (env.constant_item k) (env.item k)).offset;
  size = stride;
}

abbrev pub site_at : ℕ → Chunk → Iteration → Cut → Chunking → Course → Env → Site
site_at site chunk iteration cut k c env = record { number = site; now = λ j i. now_of chunk iteration j i (k.bound (chunk_of cut j) env) (c.bound i (k.bound (chunk_of cut j) env)) }

-- in a block an iteration is an arm
abbrev pub block_site : ℕ → Site
block_site site = record { number = site; now = λ j i. record { loop = Some (pos i); chunk = pos j; first = 0; size = 0 } }

abbrev pub exits : ℕ → Leave → Bool
exits loop (Exits other) = nat_eq loop other
exits loop (Returns v) = false
exits loop (Raises r) = false

abbrev pub returns : Leave → Bool
returns (Exits other) = false
returns (Returns v) = true
returns (Raises r) = false

abbrev pub raises : Leave → Bool
raises (Exits other) = false
raises (Returns v) = false
raises (Raises r) = true

abbrev pub value_of : Leave → ℤ
value_of (Returns (Some v)) = v
value_of _ = pos 0

abbrev pub reason_of : Leave → Reason
reason_of (Raises r) = r
reason_of _ = reason.ProgramError

abbrev pub has_handlers : Handlers → Bool
has_handlers NoHandler = false
has_handlers (Handler handled stmts rest) = true

abbrev pub arms_of : Arms → ℕ
arms_of NoArm = 0
arms_of (Arm stmts rest) = suc (arms_of rest)

abbrev pub iterated_env : Option Iterated → ℕ → Env → Env
iterated_env None k env = env
iterated_env (Some i) k env = with_parameter i.parameter (i.first +ℤ pos k) env

abbrev pub formal_at : List Formal → ℕ → ℕ
formal_at [] k = 0
formal_at (f ∷ fs) zero = f.object
formal_at (f ∷ fs) (suc k) = formal_at fs k

abbrev pub formals_of : List Sub → ℕ → List Formal
formals_of [] s = []
formals_of (sub ∷ subs) zero = sub.formals
formals_of (sub ∷ subs) (suc s) = formals_of subs s

abbrev pub sub_at : List Sub → ℕ → Option Sub
sub_at [] s = None
sub_at (sub ∷ subs) zero = Some sub
sub_at (sub ∷ subs) (suc s) = sub_at subs s

abbrev pub object_layout : Program → ℕ → List Scalar
object_layout program x = go (slice_get program.objects x)
  where
    go : Option Object → List Scalar
    go None = []
    go (Some o) = layout program.subtypes o.subtype

module _ {ℓ} (ops : Operations {ℓ}) where
  open ops use {doings, Doing, ret, ◌>>=◌, reads, writes, elaborates, apart, turn, look, checks, leaves, spent, handles, puts, recalls, keeps, takes, loops, reduces}

  infixl 10 ◌>>=◌
  -- a turn, before which a cancel is looked for
  abbrev pub turned : Doing (Unit {0})
  turned = look >>= λ _. turn

  abbrev pub raise : {A : Type 0} → Reason → Doing A
  raise r = leaves (Raises r)

  abbrev pub unless : Bool → Reason → Doing (Unit {0})
  unless holds r = cond holds (ret tt) (raise r)

  -- cells

  -- cells of an object from one on, behind those that were read so far
  abbrev pub read_all : Entity → ℕ → List ℤ → List Scalar → Doing (List ℤ)
  read_all x offset so_far [] = ret so_far
  read_all x offset so_far (s ∷ ss) = do
    v ← reads x offset s
    read_all x (offset + 1) (so_far ++ (v ∷ [])) ss

  abbrev pub write_all : ℕ → ℕ → List ℤ → Doing (Unit {0})
  write_all x offset [] = ret tt
  write_all x offset (v ∷ vs) = do
    _ ← writes x offset v
    write_all x (offset + 1) vs

  abbrev pub checked : Check → ℤ → Doing (Unit {0})
  checked c v = checks RangeCheck c.at (is_in c.scalar v)

  -- the bounds of a range that has a value are in its subtype (3.5)
  abbrev pub bounds_checked : Option Check → ℤ → ℤ → Doing (Unit {0})
  bounds_checked None low high = ret tt
  bounds_checked (Some c) low high = cond (int_le low high) (checks RangeCheck c.at (is_in c.scalar low && is_in c.scalar high)) (ret tt)

  -- parallel constructs (5.5): one more may be active

  abbrev pub opened : Env → Doing (Unit {0})
  opened env = look >>= λ _. unless (nat_lt env.nested most_nested) reason.StorageError

  abbrev pub most_of : ℤ → Doing ℕ
  most_of v = do
    _ ← unless (int_lt (pos 0) v) reason.ProgramError
    ret (min (to_nat v) most_threads)

  -- operators

  abbrev pub sign_checked : Sign → ℕ → Class → ℤ → Doing (Unit {0})
  sign_checked sign.Minus at class v = checks OverflowCheck at (is_in_base (base_of class) v)
  sign_checked sign.Abs at class v = checks OverflowCheck at (is_in_base (base_of class) v)
  sign_checked sign.Not at class v = ret tt

  -- a modular type has a result always
  abbrev pub unary_checked : Sign → ℕ → Class → ℤ → Doing (Unit {0})
  unary_checked s at class v = cond (is_modular class) (ret tt) (sign_checked s at class v)

  -- aggregates (4.3): cells over which the values of a run's components are laid, one after the other

  abbrev pub run_values : ℕ → ℕ → ℕ → ℕ → (ℕ → Doing (List ℤ)) → List ℤ → Doing (List ℤ)
  run_values k zero first stride value so_far = ret so_far
  run_values k (suc n) first stride value so_far = do
    cs ← value k
    run_values (k + 1) n (first + stride) stride value (laid so_far first cs)

  abbrev pub runs_values : List Run → (ℕ → Doing (List ℤ)) → List ℤ → Doing (List ℤ)
  runs_values [] value so_far = ret so_far
  runs_values (r ∷ rs) value so_far = do
    cs ← run_values 0 r.count r.first r.stride value so_far
    runs_values rs value cs

  -- what comes before each evaluation of an association's value: a turn, where the association is iterated
  abbrev pub value_turn : Bool → Doing (Unit {0})
  value_turn turns = cond turns turned (ret tt)

  -- loops (5.5)

  abbrev pub while_loop : ℕ → Doing Bool → Doing (Unit {0}) → Doing (Unit {0})
  while_loop zero test body = spent
  while_loop (suc more) test body = do
    goes_on ← test
    cond goes_on (turned >>= λ _. body >>= λ _. while_loop more test body) (ret tt)

  -- an iteration: its turn, its filter, and what is done where that passes
  abbrev pub iterate : Doing Bool → Doing (Unit {0}) → Doing (Unit {0})
  iterate test body = do
    _ ← turned
    passes ← test
    cond passes body (ret tt)

  abbrev pub iterate_value : Doing Bool → Doing ℤ → Doing (Option ℤ)
  iterate_value test value = do
    _ ← turned
    passes ← test
    cond passes (value >>= λ v. ret (Some v)) (ret None)

  -- statements whose exceptions are handled (11.4); where there are handlers a cancel is looked for at each raise
  abbrev pub guarded : Handlers → Doing (Unit {0}) → (Reason → Doing (Unit {0})) → Doing (Unit {0})
  guarded handlers body handler = handles body (λ how. has_handlers handlers && raises how) (λ how. look >>= λ _. handler (reason_of how))

  -- input (A.10.8): each byte that is asked for takes a turn

  abbrev pub reading : Reading {ℓ}
  reading = record { Doing = Doing; ret = ret; ◌>>=◌ = ◌>>=◌; asks = turn >>= λ _. takes; recalls = recalls; keeps = keeps; raises = raise; spent = spent }

  abbrev pub got : ℕ → Doing ℤ
  got limit = Input.got reading limit

  module _ (limit : ℕ) (program : Program) (calls : ℕ → ℕ → Doing (Unit {0}) → List Passed → Doing Returned) where
    abbrev pub cells_of : ℕ → List Scalar
    cells_of subtype = layout program.subtypes subtype

    -- the two actual parameters of a function that reduces
    abbrev pub reduced_by : ℕ → ℤ → ℤ → List Passed
    reduced_by s a b =
        record { formal = ConstantOf (formal_at (formals_of program.subs s) 0); cells = a ∷ []; back = None }
        ∷ record { formal = ConstantOf (formal_at (formals_of program.subs s) 1); cells = b ∷ []; back = None } ∷ []

    abbrev pub both_checked : ℕ → Scalar → Scalar → ℤ → ℤ → Doing (Unit {0})
    both_checked at accumulator value a b = do
      _ ← checks RangeCheck at (is_in accumulator a)
      checks RangeCheck at (is_in value b)

    -- the call of a reducer in a thread, and where accumulators are combined: there the checks come after the turn
    abbrev pub fold_call : Reducer → ℕ → ℤ → ℤ → Doing ℤ
    fold_call (Operator at op class) nested a b = ret a
    fold_call (Function at s accumulator value) nested a b = do
      _ ← both_checked at accumulator value a b
      r ← calls nested s (ret tt) (reduced_by s a b)
      ret r.value

    abbrev pub combine_call : Reducer → ℕ → ℤ → ℤ → Doing ℤ
    combine_call (Operator at op class) nested a b = ret a
    combine_call (Function at s accumulator value) nested a b = do
      r ← calls nested s (both_checked at accumulator value a b) (reduced_by s a b)
      ret r.value

    abbrev mutual
      -- 4.4
      pub eval : Expr → Env → Doing ℤ
      eval (Static at value literal mentions) env = ret value
      eval (Variable at r selections scalar) env = do
        p ← select selections env (variable_root r env)
        reads (VariableOf p.object) p.offset scalar
      eval (Constant at r selections scalar) env = do
        p ← select selections env (constant_root r env)
        reads (ConstantOf p.object) p.offset scalar
      eval (Parameter at k) env = ret (env.parameter k)
      eval (Target at scalar) env = reads (VariableOf env.target.object) env.target.offset scalar
      eval (Group e) env = eval e env
      eval (Unary at s class e) env = do
        v ← eval e env
        _ ← unary_checked s at class (unary s class v)
        ret (unary s class v)
      eval (Binary at op class e f) env = do
        x ← eval e env
        y ← eval f env
        operate doings checks op at class x y
      eval (AndThen e f) env = do
        x ← eval e env
        cond (truth x) (eval f env) (ret (bit false))
      eval (OrElse e f) env = do
        x ← eval e env
        cond (truth x) (ret (bit true)) (eval f env)
      eval (Relation class comparison e f) env = do
        x ← eval e env
        y ← eval f env
        ret (bit (compares comparison (number_in class x) (number_in class y)))
      eval (Membership class negated e low high) env = do
        x ← eval e env
        l ← eval low env
        h ← eval high env
        ret (bit (cond negated (not (is_member class l x h)) (is_member class l x h)))
      eval (If condition value otherwise) env = do
        c ← eval condition env
        cond (truth c) (eval value env) (eval otherwise env)
      eval (Call at callee s actuals) env = do
        passed ← pass actuals env []
        r ← calls env.nested s (ret tt) passed
        ret r.value
      eval (Convert check e) env = do
        v ← eval e env
        _ ← checked check v
        ret v
      eval (Reduction at attribute by initial None chunk iteration value) env = do
        start ← eval initial env
        c ← course iteration env
        through doings 0 c.count start (λ i so_far.
            iterate_value (filtered iteration (c.bound i env)) (eval value (c.bound i env))
            >>= λ v. folded doings (reduce doings checks by attribute (fold_call by env.nested)) so_far v)
      eval (Reduction at attribute by initial (Some site) chunk iteration value) env = do
        start ← eval initial env
        _ ← opened env
        k ← chunking chunk (inside env)
        c ← course iteration (inside env)
        _ ← unless (nat_le c.count most_iterations) reason.StorageError
        reduces (site_at site chunk iteration (value_cut_of k c.count) k c (inside env)) (value_cut_of k c.count) by attribute start
            (λ j i. iterate_value (filtered iteration (c.bound i (k.bound j (inside env)))) (eval value (c.bound i (k.bound j (inside env)))))
            (fold_call by (suc env.nested)) (combine_call by env.nested)

      -- whether an expression that may be left out is there and False
      pub holds : Optional → Env → Doing Bool
      holds Absent env = ret true
      holds (Present e) env = do
        v ← eval e env
        ret (truth v)

      -- the part that selections lead to (4.1.1, 4.1.3)
      pub select : Selections → Env → ObjectPart → Doing ObjectPart
      select Whole env p = ret p
      select (Field number offset rest) env p = select rest env (moved p offset)
      select (Index at e low high stride rest) env p = do
        i ← eval e env
        _ ← checks IndexCheck at (between low i high)
        select rest env (moved p (to_nat (i -ℤ low) * stride))

      -- actual parameters, evaluated, read and checked from left to right (6.4.1)
      pub pass : Actuals → Env → List Passed → Doing (List Passed)
      pass NoActual env so_far = ret so_far
      pass (In formal value rest) env so_far = do
        cs ← cells value env
        pass rest env (so_far ++ (record { formal = ConstantOf formal; cells = cs; back = None } ∷ []))
      pass (InOut formal at r selections inner outer rest) env so_far = do
        p ← select selections env (variable_root r env)
        v ← reads (VariableOf p.object) p.offset outer
        _ ← checked (record { at = at; scalar = inner }) v
        pass rest env (so_far ++ (record { formal = VariableOf formal; cells = v ∷ []; back = Some (record { part = p; cells = inner ∷ []; check = Some (record { at = at; scalar = outer }) }) } ∷ []))
      pass (Out formal at r selections inner outer rest) env so_far = do
        p ← select selections env (variable_root r env)
        pass rest env (so_far ++ (record { formal = VariableOf formal; cells = inner.low ∷ []; back = Some (record { part = p; cells = inner ∷ []; check = Some (record { at = at; scalar = outer }) }) } ∷ []))
      pass (CompositeInOut formal at r selections subtype rest) env so_far = do
        p ← select selections env (variable_root r env)
        vs ← read_all (VariableOf p.object) p.offset [] (cells_of subtype)
        pass rest env (so_far ++ (record { formal = VariableOf formal; cells = vs; back = Some (record { part = p; cells = cells_of subtype; check = None }) } ∷ []))
      pass (CompositeOut formal at r selections subtype rest) env so_far = do
        p ← select selections env (variable_root r env)
        vs ← read_all (VariableOf p.object) p.offset [] (cells_of subtype)
        pass rest env (so_far ++ (record { formal = VariableOf formal; cells = vs; back = Some (record { part = p; cells = cells_of subtype; check = None }) } ∷ []))

      -- the cells of what is stored
      pub cells : Value → Env → Doing (List ℤ)
      cells (Number check e) env = do
        v ← eval e env
        _ ← checked check v
        ret (v ∷ [])
      cells (Cells c) env = composite c env

      pub composite : Composite → Env → Doing (List ℤ)
      composite (WholeVariable at r selections subtype) env = do
        p ← select selections env (variable_root r env)
        read_all (VariableOf p.object) p.offset [] (cells_of subtype)
      composite (WholeConstant at r selections subtype) env = do
        p ← select selections env (constant_root r env)
        read_all (ConstantOf p.object) p.offset [] (cells_of subtype)
      composite (WholeTarget at subtype) env = read_all (VariableOf env.target.object) env.target.offset [] (cells_of subtype)
      composite (CompositeIf condition value otherwise) env = do
        c ← eval condition env
        cond (truth c) (composite value env) (composite otherwise env)
      composite (Aggregate at size associations) env = associated associations env (zeros size)

      -- the components that associations give, from left to right (4.3)
      pub associated : Associations → Env → List ℤ → Doing (List ℤ)
      associated NoAssociation env so_far = ret so_far
      associated (Association runs iterated mentions value rest) env so_far = do
        cs ← runs_values runs (λ k. value_turn (is_some iterated) >>= λ _. cells value (iterated_env iterated k env)) so_far
        associated rest env cs

      -- the range or array of an iteration, evaluated once (5.5, 5.5.2)
      pub course : Iteration → Env → Doing Course
      course (Range k reverse low high check filter) env = do
        l ← eval low env
        h ← eval high env
        _ ← bounds_checked check l h
        ret (record { count = count l h; bound = λ i. with_parameter k (cond reverse (h -ℤ pos i) (l +ℤ pos i)) })
      course (Components k constant at r selections number stride dimensions filter) env = do
        p ← select selections env (array_root constant r env)
        ret (record { count = number; bound = λ i. with_item constant k (moved p (i * stride)) })

      pub filtered : Iteration → Env → Doing Bool
      filtered (Range k reverse low high check filter) env = holds filter env
      filtered (Components k constant at r selections number stride dimensions filter) env = holds filter env

      -- a chunk specification (5.5)
      pub chunking : Chunk → Env → Doing Chunking
      chunking NoChunk env = ret (record { most = most_threads; even = false; bound = λ j e. e })
      chunking (Count e) env = do
        v ← eval e env
        n ← most_of v
        ret (record { most = n; even = false; bound = λ j e. e })
      chunking (Each k low high check) env = do
        l ← eval low env
        h ← eval high env
        _ ← bounds_checked check l h
        _ ← unless (int_le l h) reason.ProgramError
        _ ← unless (nat_le (count l h) most_threads) reason.StorageError
        ret (record { most = count l h; even = true; bound = λ j. with_parameter k (l +ℤ pos j) })

    -- the bytes of a piece of output (A.10.6 to A.10.8)
    abbrev pub written : Pieces → Env → List ℕ → Doing (List ℕ)
    written NoPiece env so_far = ret so_far
    written (Text bytes rest) env so_far = written rest env (so_far ++ bytes)
    written (Image class e rest) env so_far = do
      v ← eval e env
      written rest env (so_far ++ image_of class v)
    written (Padded class e width rest) env so_far = do
      v ← eval e env
      w ← eval width env
      written rest env (so_far ++ padded v (to_nat w))

    -- declarations are elaborated in order, and what follows sees their objects (3.11)
    abbrev pub declared : {A : Type 0} → Decls → Region → Env → Doing A → Doing A
    declared NoDecl region env rest = rest
    declared (DeclareDefault x more) region env rest = elaborates region (VariableOf x) (defaults (object_layout program x)) (declared more region env rest)
    declared (DeclareVariable x initial more) region env rest = do
      cs ← cells initial env
      elaborates region (VariableOf x) cs (declared more region env rest)
    declared (DeclareConstant x initial more) region env rest = do
      cs ← cells initial env
      elaborates region (ConstantOf x) cs (declared more region env rest)
    declared (Mentions es more) region env rest = declared more region env rest

    -- what is copied back after a normal return, from left to right (6.4.1)
    abbrev pub back_checked : Option Check → List ℤ → Doing (Unit {0})
    back_checked None vs = ret tt
    back_checked (Some c) [] = ret tt
    back_checked (Some c) (v ∷ vs) = checked c v

    abbrev pub copied_back : Option Back → List ℤ → Doing (Unit {0})
    copied_back None vs = ret tt
    copied_back (Some b) vs = do
      _ ← back_checked b.check vs
      write_all b.part.object b.part.offset vs

    abbrev pub all_copied_back : List Passed → List (List ℤ) → Doing (Unit {0})
    all_copied_back [] vss = ret tt
    all_copied_back (p ∷ ps) [] = ret tt
    all_copied_back (p ∷ ps) (vs ∷ vss) = do
      _ ← copied_back p.back vs
      all_copied_back ps vss

    -- the number of a parallel block's threads, where one is asked for (5.6.1)
    abbrev pub threads_of : Optional → Env → Doing ℕ
    threads_of Absent env = ret most_threads
    threads_of (Present e) env = eval e env >>= λ v. most_of v

    abbrev mutual
      -- 5.1
      pub exec : Stmt → Env → Doing (Unit {0})
      exec Null env = ret tt
      exec (Assign at r selections value) env = do
        p ← select selections env (variable_root r env)
        cs ← cells value (with_target p env)
        write_all p.object p.offset cs
      exec (CallProcedure at callee s actuals) env = do
        passed ← pass actuals env []
        r ← calls env.nested s (ret tt) passed
        all_copied_back passed r.cells
      exec (Exit loop condition) env = do
        goes ← holds condition env
        cond goes (leaves (Exits loop)) (ret tt)
      exec Return env = leaves (Returns None)
      exec (ReturnValue value) env = do
        cs ← cells value env
        leaves (Returns (slice_get cs 0))
      exec (Raise r) env = raise r
      exec Reraise env = raise env.handled
      exec (IfThen condition stmts otherwise) env = do
        c ← eval condition env
        cond (truth c) (exec_all stmts env) (exec_all otherwise env)
      exec (Case e alternatives) env = do
        v ← eval e env
        exec_chosen alternatives v env
      exec (Loop number condition stmts) env = handles (while_loop (suc limit) (holds condition env) (exec_all stmts env)) (exits number) (λ _. ret tt)
      exec (For number iteration stmts) env = do
        c ← course iteration env
        handles (through doings 0 c.count tt (λ i _. iterate (filtered iteration (c.bound i env)) (exec_all stmts (c.bound i env)))) (exits number) (λ _. ret tt)
      exec (ParallelFor number site chunk iteration stmts) env = do
        _ ← opened env
        k ← chunking chunk (inside env)
        c ← course iteration (inside env)
        _ ← unless (nat_le c.count most_iterations) reason.StorageError
        handles (loops (site_at site chunk iteration (cut_of k c.count) k c (inside env)) (cut_of k c.count) (λ j i.
            iterate (filtered iteration (c.bound i (k.bound j (inside env)))) (exec_all stmts (c.bound i (k.bound j (inside env))))))
            (exits number) (λ _. ret tt)
      exec (Parallel site number arms) env = do
        _ ← opened env
        most ← threads_of number (inside env)
        loops (block_site site) (Sized (evens (arms_of arms) (min most (arms_of arms)))) (λ j i. exec_arm arms i (inside env))
      exec (Block decls stmts handlers) env = declared decls Here env (guarded handlers (exec_all stmts env) (λ r. exec_handler handlers r env))
      exec (Put at callee pieces line) env = do
        bytes ← written pieces env []
        puts (cond line (bytes ++ (10 ∷ [])) bytes)
      exec (Get at callee first r selections scalar) env = do
        p ← select selections env (variable_root r env)
        v ← got limit
        _ ← checks RangeCheck first (is_in scalar v)
        writes p.object p.offset v

      pub exec_all : Stmts → Env → Doing (Unit {0})
      exec_all End env = ret tt
      exec_all (Then s ss) env = do
        _ ← exec s env
        exec_all ss env

      -- the first alternative that has the value (5.4)
      pub exec_chosen : Alternatives → ℤ → Env → Doing (Unit {0})
      exec_chosen NoAlternative v env = raise reason.ConstraintError
      exec_chosen (Alternative others choices mentions stmts rest) v env = cond (others || is_chosen choices v) (exec_all stmts env) (exec_chosen rest v env)

      pub exec_arm : Arms → ℕ → Env → Doing (Unit {0})
      exec_arm NoArm i env = ret tt
      exec_arm (Arm stmts rest) zero env = exec_all stmts env
      exec_arm (Arm stmts rest) (suc i) env = exec_arm rest i env

      -- what handles a raise: the first handler that names it, or none (11.4)
      pub exec_handler : Handlers → Reason → Env → Doing (Unit {0})
      exec_handler NoHandler r env = raise r
      exec_handler (Handler handled stmts rest) r env = cond (handles_reason handled r) (exec_all stmts (with_handled r env)) (exec_handler rest r env)

    abbrev pub exec_body : Body → Region → Env → Doing (Unit {0})
    exec_body b region env = declared b.decls region env (guarded b.handlers (exec_all b.stmts env) (λ r. exec_handler b.handlers r env))

  module _ (limit : ℕ) (program : Program) where
    -- the formals of a call with their first cells, written from left to right
    abbrev pub with_formals : {A : Type 0} → List Passed → Doing A → Doing A
    with_formals [] rest = rest
    with_formals (p ∷ ps) rest = elaborates Here p.formal p.cells (with_formals ps rest)

    -- the cells of the formals that are copied back
    abbrev pub cells_back : Entity → Option Back → Doing (List ℤ)
    cells_back x None = ret []
    cells_back x (Some b) = read_all x 0 [] b.cells

    abbrev pub back_cells : List Passed → List (List ℤ) → Doing (List (List ℤ))
    back_cells [] so_far = ret so_far
    back_cells (p ∷ ps) so_far = do
      vs ← cells_back p.formal p.back
      back_cells ps (so_far ++ (vs ∷ []))

    -- a function that reaches its end raises Program_Error (6.5)
    abbrev pub ended : Option Scalar → Doing ℤ
    ended None = ret (pos 0)
    ended (Some result) = raise reason.ProgramError

    abbrev pub exec_sub : (ℕ → ℕ → Doing (Unit {0}) → List Passed → Doing Returned) → Option Sub → ℕ → List Passed → Doing Returned
    exec_sub calls None nested passed = raise reason.ProgramError
    exec_sub calls (Some sub) nested passed = apart (with_formals passed (do
      v ← handles (exec_body limit program calls sub.body Here (outset nested) >>= λ _. ended sub.result) returns (λ how. ret (value_of how))
      vss ← back_cells passed []
      ret (record { value = v; cells = vss })))

    -- a call where so many more may be active (6.4): its turn, the count of active calls, what is still to be checked, the copies
    abbrev pub call : ℕ → ℕ → ℕ → Doing (Unit {0}) → List Passed → Doing Returned
    call zero nested s before passed = turned >>= λ _. raise reason.StorageError
    call (suc depth) nested s before passed = do
      _ ← turned
      _ ← before
      exec_sub (call depth) (sub_at program.subs s) nested passed

    -- the main procedure (10.2), which only an exception leaves
    abbrev pub main : Doing (Unit {0})
    main = handles (exec_body limit program (call most_calls) program.body Everywhere (outset 0)) (λ how. not (raises how)) (λ _. ret tt)
