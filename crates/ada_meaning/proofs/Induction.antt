-- Two readings of the operations that are related, operation by operation, give related meanings to every program.
use Rattle.std.proofs.Common.{is_some, ◌≡◌, ℕ, zero, suc, ◌+◌, ◌*◌, min, ℤ, pos, ◌-ℤ◌, int_lt, int_le, nat_lt, nat_le, List, [], ◌∷◌, ◌++◌, slice_get, Option, Some, None, Bool, true, false, not, cond, ◌&&◌, ◌||◌, refl, true≢false, ◌∙◌, sym}
use Rattle.ada_base.specs.declared.operation.Op.{Op}
use Rattle.ada_base.specs.declared.reason.Reason.{Reason}
use Rattle.ada_base.specs.declared.reason.Reason.TheVariants as reason
use Rattle.ada_base.specs.Operation.{is_in_base}
use Rattle.ada_base.proofs.Readings
use Rattle.ada_base.proofs.Readings.{Relates as RelatesReadings}
use Rattle.typed_tree.specs.declared.scalars.Class.{Class}
use Rattle.typed_tree.specs.declared.scalars.Scalar.{Scalar}
use Rattle.typed_tree.specs.declared.scalars.Check.{Check}
use Rattle.typed_tree.specs.declared.expressions.Sign.{Sign}
use Rattle.typed_tree.specs.declared.expressions.Sign.TheVariants as sign
use Rattle.typed_tree.specs.declared.expressions.Run.{Run}
use Rattle.typed_tree.specs.declared.expressions.Reducer.{Reducer}
use Rattle.typed_tree.specs.declared.expressions.Reducer.TheVariants.{Operator, Function}
use Rattle.ada_base.specs.Cuts.{evens}
use Rattle.ada_base.specs.Image.{padded}
use Rattle.ada_base.specs.Input.{Held}
use Rattle.behaviours.specs.Doings.{through, folded}
use Rattle.behaviours.specs.Joins.{Site}
use Rattle.behaviours.specs.Paths.{Leave, Exits, Returns, Raises, Entity, VariableOf, ConstantOf, Region, Everywhere, Here}
use Rattle.ada_meaning.specs.Values.{result, truth, bit, is_modular, is_in, between, to_nat, count, base_of, unary, is_zero, divides, overflows, value_or_zero, defaults, laid, zeros, image_of, handles_reason, is_chosen}
use Rattle.ada_meaning.specs.Operations.{CheckKind, RangeCheck, IndexCheck, OverflowCheck, ZeroCheck, Cut, Sized, Operations, zero_checked, overflow_checked, operate, reduce}
use Rattle.ada_meaning.specs.Meaning
use Rattle.ada_meaning.specs.Meaning.{ObjectPart, Env, Back, Passed, Returned, outset, with_target, with_handled, inside, variable_root, constant_root, array_root, iterated_env, cut_of, value_cut_of, arms_of, exits, returns, raises, value_of, reason_of, has_handlers, sub_at, moved, object_layout, most_nested, most_threads, most_iterations, most_calls}
use Rattle.ada_meaning.specs.Nonblocking.{MayCall, MayReduce, KeepsExpr, KeepsOptional, KeepsSelections, KeepsActuals, KeepsValue, KeepsComposite, KeepsAssociations, KeepsIteration, KeepsChunk, KeepsPieces, KeepsDecls, Keeps, KeepsAll, KeepsAlternatives, KeepsArms, KeepsHandlers, KeepsBody, KeepsSubs, KeepsRule, nonblocking_of}
use Rattle.typed_tree.specs.Syntax.{Expr, Static, Variable, Constant, Parameter, Target, Group, Unary, Binary, AndThen, OrElse, Relation, Membership, If, Call, Convert, Reduction, Optional, Absent, Present, Selections, Whole, Field, Index, Actuals, NoActual, In, InOut, Out, CompositeInOut, CompositeOut, Value, Number, Cells, Composite, WholeVariable, WholeConstant, WholeTarget, CompositeIf, Aggregate, Associations, NoAssociation, Association, Iteration, Range, Components, Chunk, NoChunk, Count, Each, Pieces, NoPiece, Text, Image, Padded, Decls, NoDecl, DeclareDefault, DeclareVariable, DeclareConstant, Mentions, Stmt, Null, Assign, CallProcedure, Exit, Return, ReturnValue, Raise, Reraise, IfThen, Case, Loop, For, ParallelFor, Parallel, Block, Put, Get, Stmts, End, Then, Alternatives, NoAlternative, Alternative, Arms, NoArm, Arm, Handlers, NoHandler, Handler, Body, Sub, Program}

pub record Relates {ℓ κ ν} (o : Operations {ℓ}) (q : Operations {κ}) : Type (ℓ ⊔ κ ⊔ (ν + 1) ⊔ 1) where
  -- where input and output are allowed; inside a thread they aren't asked for
  pub World : Type 0
  pub Open : World → Type 0
  pub inner : World → World
  pub R : {A : Type 0} → World → o.Doing A → q.Doing A → Type ν
  pub ret : {A : Type 0} (w : World) (a : A) → R w (o.ret a) (q.ret a)
  pub bind : {A B : Type 0} (w : World) {m : o.Doing A} {n : q.Doing A} {k : A → o.Doing B} {l : A → q.Doing B} → R w m n → ((a : A) → R w (k a) (l a)) → R w (o.◌>>=◌ m k) (q.◌>>=◌ n l)
  pub reads : (w : World) (x : Entity) (i : ℕ) (s : Scalar) → R w (o.reads x i s) (q.reads x i s)
  pub writes : (w : World) (x i : ℕ) (v : ℤ) → R w (o.writes x i v) (q.writes x i v)
  -- what is visible everywhere is elaborated where input and output are allowed: by the main procedure itself
  pub elaborates : {A : Type 0} (w : World) (region : Region) → (region ≡ Everywhere → Open w) → (x : Entity) (vs : List ℤ) {m : o.Doing A} {n : q.Doing A} → R w m n → R w (o.elaborates region x vs m) (q.elaborates region x vs n)
  pub apart : {A : Type 0} (w : World) {m : o.Doing A} {n : q.Doing A} → R w m n → R w (o.apart m) (q.apart n)
  pub turn : (w : World) → R w o.turn q.turn
  pub look : (w : World) → R w o.look q.look
  pub checks : (w : World) (kind : CheckKind) (at : ℕ) (holds : Bool) → R w (o.checks kind at holds) (q.checks kind at holds)
  pub leaves : {A : Type 0} (w : World) (x : Leave) → R w (o.leaves {A = A} x) (q.leaves x)
  pub spent : {A : Type 0} (w : World) → R w (o.spent {A = A}) q.spent
  pub handles : {A : Type 0} (w : World) {m : o.Doing A} {n : q.Doing A} (takes : Leave → Bool) {h : Leave → o.Doing A} {g : Leave → q.Doing A} → R w m n → ((x : Leave) → R w (h x) (g x)) → R w (o.handles m takes h) (q.handles n takes g)
  pub puts : (w : World) → Open w → (bytes : List ℕ) → R w (o.puts bytes) (q.puts bytes)
  pub recalls : (w : World) → Open w → R w o.recalls q.recalls
  pub keeps : (w : World) → Open w → (h : Held) → R w (o.keeps h) (q.keeps h)
  pub takes : (w : World) → Open w → R w o.takes q.takes
  pub loops : (w : World) (site : Site) (cut : Cut) {f : ℕ → ℕ → o.Doing (Unit {0})} {g : ℕ → ℕ → q.Doing (Unit {0})} → ((j i : ℕ) → R (inner w) (f j i) (g j i)) → R w (o.loops site cut f) (q.loops site cut g)
  pub reduces : (w : World) (site : Site) (cut : Cut) (by : Reducer) (at : ℕ) (v : ℤ) {f : ℕ → ℕ → o.Doing (Option ℤ)} {g : ℕ → ℕ → q.Doing (Option ℤ)} {c c' : ℤ → ℤ → o.Doing ℤ} {d d' : ℤ → ℤ → q.Doing ℤ}
      → ((j i : ℕ) → R (inner w) (f j i) (g j i)) → ((a b : ℤ) → R (inner w) (c a b) (d a b)) → ((a b : ℤ) → R w (c' a b) (d' a b)) → R w (o.reduces site cut by at v f c c') (q.reduces site cut by at v g d d')

module _ {ℓ κ ν} {o : Operations {ℓ}} {q : Operations {κ}} (rel : Relates {ℓ, κ, ν} o q) where
  open rel use {R, World, Open, inner}

  -- what programs are put together from

  choose : {A : Type 0} (w : World) (b : Bool) {m k : o.Doing A} {n l : q.Doing A} → R w m n → R w k l → R w (cond b m k) (cond b n l)
  choose w true r s = r
  choose w false r s = s

  raised : {A : Type 0} (w : World) (r : Reason) → R w (Meaning.raise o {A = A} r) (Meaning.raise q r)
  raised w r = rel.leaves w (Raises r)

  unless : (w : World) (b : Bool) (r : Reason) → R w (Meaning.unless o b r) (Meaning.unless q b r)
  unless w b r = choose w b (rel.ret w tt) (raised w r)

  turned : (w : World) → R w (Meaning.turned o) (Meaning.turned q)
  turned w = rel.bind w (rel.look w) (λ _. rel.turn w)

  throughout : {A : Type 0} (w : World) (first size : ℕ) (a : A) {f : ℕ → A → o.Doing A} {g : ℕ → A → q.Doing A} → ((i : ℕ) (b : A) → R w (f i b) (g i b)) → R w (through o.doings first size a f) (through q.doings first size a g)
  throughout w first zero a r = rel.ret w a
  throughout w first (suc size) a r = rel.bind w (r first a) (λ b. throughout w (suc first) size b r)

  folds : (w : World) {f : ℤ → ℤ → o.Doing ℤ} {g : ℤ → ℤ → q.Doing ℤ} → ((a b : ℤ) → R w (f a b) (g a b)) → (a : ℤ) (v : Option ℤ) → R w (folded o.doings f a v) (folded q.doings g a v)
  folds w r a None = rel.ret w a
  folds w r a (Some v) = r a v

  zero_check : (w : World) (op : Op) (at : ℕ) (y : ℤ) → R w (zero_checked o.doings o.checks op at y) (zero_checked q.doings q.checks op at y)
  zero_check w op at y = choose w (divides op) (rel.checks w ZeroCheck at (not (is_zero y))) (rel.ret w tt)

  overflow_check : (w : World) (op : Op) (at : ℕ) (z : Option ℤ) → R w (overflow_checked o.doings o.checks op at z) (overflow_checked q.doings q.checks op at z)
  overflow_check w op at z = choose w (overflows op) (rel.checks w OverflowCheck at _) (rel.ret w tt)

  operates : (w : World) (op : Op) (at : ℕ) (class : Class) (x y : ℤ) → R w (operate o.doings o.checks op at class x y) (operate q.doings q.checks op at class x y)
  operates w op at class x y =
      rel.bind w (zero_check w op at y) (λ _. rel.bind w (overflow_check w op at (result op class x y)) (λ _. rel.ret w (value_or_zero (result op class x y))))

  reduce_step : (w : World) (by : Reducer) (at : ℕ) {f : ℤ → ℤ → o.Doing ℤ} {g : ℤ → ℤ → q.Doing ℤ} → ((a b : ℤ) → R w (f a b) (g a b)) → (a b : ℤ) → R w (reduce o.doings o.checks by at f a b) (reduce q.doings q.checks by at g a b)
  reduce_step w (Operator t op class) at r a b = operates w op at class a b
  reduce_step w (Function t s x y) at r a b = r a b

  reads_all : (w : World) (x : Entity) (i : ℕ) (so_far : List ℤ) (cells : List Scalar) → R w (Meaning.read_all o x i so_far cells) (Meaning.read_all q x i so_far cells)
  reads_all w x i so_far [] = rel.ret w so_far
  reads_all w x i so_far (s ∷ ss) = rel.bind w (rel.reads w x i s) (λ v. reads_all w x (i + 1) (so_far ++ (v ∷ [])) ss)

  writes_all : (w : World) (x i : ℕ) (vs : List ℤ) → R w (Meaning.write_all o x i vs) (Meaning.write_all q x i vs)
  writes_all w x i [] = rel.ret w tt
  writes_all w x i (v ∷ vs) = rel.bind w (rel.writes w x i v) (λ _. writes_all w x (i + 1) vs)

  check : (w : World) (c : Check) (v : ℤ) → R w (Meaning.checked o c v) (Meaning.checked q c v)
  check w c v = rel.checks w RangeCheck c.at (is_in c.scalar v)

  bounds : (w : World) (c : Option Check) (low high : ℤ) → R w (Meaning.bounds_checked o c low high) (Meaning.bounds_checked q c low high)
  bounds w None low high = rel.ret w tt
  bounds w (Some c) low high = choose w (int_le low high) (rel.checks w RangeCheck c.at (is_in c.scalar low && is_in c.scalar high)) (rel.ret w tt)

  opens : (w : World) (env : Env) → R w (Meaning.opened o env) (Meaning.opened q env)
  opens w env = rel.bind w (rel.look w) (λ _. unless w (nat_lt env.nested most_nested) reason.StorageError)

  most : (w : World) (v : ℤ) → R w (Meaning.most_of o v) (Meaning.most_of q v)
  most w v = rel.bind w (unless w (int_lt (pos 0) v) reason.ProgramError) (λ _. rel.ret w (min (to_nat v) most_threads))

  sign_check : (w : World) (s : Sign) (at : ℕ) (class : Class) (v : ℤ) → R w (Meaning.sign_checked o s at class v) (Meaning.sign_checked q s at class v)
  sign_check w sign.Minus at class v = rel.checks w OverflowCheck at (is_in_base (base_of class) v)
  sign_check w sign.Abs at class v = rel.checks w OverflowCheck at (is_in_base (base_of class) v)
  sign_check w sign.Not at class v = rel.ret w tt

  unary_check : (w : World) (s : Sign) (at : ℕ) (class : Class) (v : ℤ) → R w (Meaning.unary_checked o s at class v) (Meaning.unary_checked q s at class v)
  unary_check w s at class v = choose w (is_modular class) (rel.ret w tt) (sign_check w s at class v)

  one_run : (w : World) (k n first stride : ℕ) (so_far : List ℤ) {f : ℕ → o.Doing (List ℤ)} {g : ℕ → q.Doing (List ℤ)} → ((k : ℕ) → R w (f k) (g k)) → R w (Meaning.run_values o k n first stride f so_far) (Meaning.run_values q k n first stride g so_far)
  one_run w k zero first stride so_far r = rel.ret w so_far
  one_run w k (suc n) first stride so_far r = rel.bind w (r k) (λ cs. one_run w (k + 1) n (first + stride) stride (laid so_far first cs) r)

  all_runs : (w : World) (runs : List Run) (so_far : List ℤ) {f : ℕ → o.Doing (List ℤ)} {g : ℕ → q.Doing (List ℤ)} → ((k : ℕ) → R w (f k) (g k)) → R w (Meaning.runs_values o runs f so_far) (Meaning.runs_values q runs g so_far)
  all_runs w [] so_far r = rel.ret w so_far
  all_runs w (run ∷ runs) so_far r = rel.bind w (one_run w 0 run.count run.first run.stride so_far r) (λ cs. all_runs w runs cs r)

  value_turns : (w : World) (turns : Bool) → R w (Meaning.value_turn o turns) (Meaning.value_turn q turns)
  value_turns w turns = choose w turns (turned w) (rel.ret w tt)

  whiles : (w : World) (n : ℕ) {t : o.Doing Bool} {u : q.Doing Bool} {b : o.Doing (Unit {0})} {c : q.Doing (Unit {0})} → R w t u → R w b c → R w (Meaning.while_loop o n t b) (Meaning.while_loop q n u c)
  whiles w zero r s = rel.spent w
  whiles w (suc n) r s = rel.bind w r (λ goes_on. choose w goes_on (rel.bind w (turned w) (λ _. rel.bind w s (λ _. whiles w n r s))) (rel.ret w tt))

  iterates : (w : World) {t : o.Doing Bool} {u : q.Doing Bool} {b : o.Doing (Unit {0})} {c : q.Doing (Unit {0})} → R w t u → R w b c → R w (Meaning.iterate o t b) (Meaning.iterate q u c)
  iterates w r s = rel.bind w (turned w) (λ _. rel.bind w r (λ passes. choose w passes s (rel.ret w tt)))

  iterates_value : (w : World) {t : o.Doing Bool} {u : q.Doing Bool} {b : o.Doing ℤ} {c : q.Doing ℤ} → R w t u → R w b c → R w (Meaning.iterate_value o t b) (Meaning.iterate_value q u c)
  iterates_value w r s = rel.bind w (turned w) (λ _. rel.bind w r (λ passes. choose w passes (rel.bind w s (λ v. rel.ret w (Some v))) (rel.ret w None)))

  guards : (w : World) (hs : Handlers) {m : o.Doing (Unit {0})} {n : q.Doing (Unit {0})} {f : Reason → o.Doing (Unit {0})} {g : Reason → q.Doing (Unit {0})} → R w m n → ((r : Reason) → R w (f r) (g r)) → R w (Meaning.guarded o hs m f) (Meaning.guarded q hs n g)
  guards w hs r s = rel.handles w (λ how. has_handlers hs && raises how) r (λ how. rel.bind w (rel.look w) (λ _. s (reason_of how)))

  -- input

  module _ (w : World) (allowed : Open w) where
    next : R w ((Meaning.reading o).asks) ((Meaning.reading q).asks)
    next = rel.bind w (rel.turn w) (λ _. rel.takes w allowed)

    abbrev readings : RelatesReadings {ℓ, κ, ν} (Meaning.reading o) (Meaning.reading q)
    readings = record {
      R = λ {A} m n. R {A = A} w m n;
      ret = λ {A} a. rel.ret w a;
      bind = λ {A} {B} {m} {n} {k} {l} r s. rel.bind w r s;
      asks = next;
      recalls = rel.recalls w allowed;
      keeps = rel.keeps w allowed;
      raises = λ {A} r. raised w r;
      spent = λ {A}. rel.spent w;
    }

    gets : (limit : ℕ) → R w (Meaning.got o limit) (Meaning.got q limit)
    gets = Readings.gets readings

  -- places in the text: the world, and whether blocking calls are allowed there

  pub record Spot : Type 0 where
    pub world : World
    pub blocking : Bool
    pub fine : blocking ≡ true → Open world

  here_only : (w : World) → Here ≡ Everywhere → Open w
  here_only w e = absurd (cc)

  never : {A : Type 0} → false ≡ true → A
  never e = absurd (true≢false (sym e))

  -- text of a construct, outside its threads and in them
  abbrev quiet : Spot → Spot
  quiet h = record { world = h.world; blocking = false; fine = never }

  abbrev threaded : Spot → Spot
  threaded h = record { world = inner h.world; blocking = false; fine = never }

  module _ (limit : ℕ) (program : Program) (nonblocking : ℕ → Bool) where
    abbrev SameCalls : (ℕ → ℕ → o.Doing (Unit {0}) → List Passed → o.Doing Returned) → (ℕ → ℕ → q.Doing (Unit {0}) → List Passed → q.Doing Returned) → Type (ℓ ⊔ κ ⊔ ν)
    SameCalls calls calls' = (h : Spot) (nested s : ℕ) (before : o.Doing (Unit {0})) (before' : q.Doing (Unit {0})) (passed : List Passed) → MayCall nonblocking h.blocking s → R h.world before before' → R h.world (calls nested s before passed) (calls' nested s before' passed)

    module _ (calls : ℕ → ℕ → o.Doing (Unit {0}) → List Passed → o.Doing Returned) (calls' : ℕ → ℕ → q.Doing (Unit {0}) → List Passed → q.Doing Returned) (same : SameCalls calls calls') where
      both : (h : Spot) (at : ℕ) (x y : Scalar) (a b : ℤ) → R h.world (Meaning.both_checked o limit program calls at x y a b) (Meaning.both_checked q limit program calls' at x y a b)
      both h at x y a b = rel.bind h.world (rel.checks h.world RangeCheck at (is_in x a)) (λ _. rel.checks h.world RangeCheck at (is_in y b))

      fold_call : (h : Spot) (by : Reducer) (nested : ℕ) → MayReduce nonblocking h.blocking by → (a b : ℤ) → R h.world (Meaning.fold_call o limit program calls by nested a b) (Meaning.fold_call q limit program calls' by nested a b)
      fold_call h (Operator at op class) nested k a b = rel.ret h.world a
      fold_call h (Function at s x y) nested k a b =
          rel.bind h.world (both h at x y a b) (λ _. rel.bind h.world (same h nested s (o.ret tt) (q.ret tt) (Meaning.reduced_by o limit program calls s a b) k (rel.ret h.world tt)) (λ r. rel.ret h.world r.value))

      combine_call : (h : Spot) (by : Reducer) (nested : ℕ) → MayReduce nonblocking h.blocking by → (a b : ℤ) → R h.world (Meaning.combine_call o limit program calls by nested a b) (Meaning.combine_call q limit program calls' by nested a b)
      combine_call h (Operator at op class) nested k a b = rel.ret h.world a
      combine_call h (Function at s x y) nested k a b =
          rel.bind h.world (same h nested s (Meaning.both_checked o limit program calls at x y a b) (Meaning.both_checked q limit program calls' at x y a b) (Meaning.reduced_by o limit program calls s a b) k (both h at x y a b)) (λ r. rel.ret h.world r.value)

      mutual
        pub eval : (e : Expr) (env : Env) (h : Spot) → KeepsExpr nonblocking e h.blocking → R h.world (Meaning.eval o limit program calls e env) (Meaning.eval q limit program calls' e env)
        eval (Static at v literal mentions) env h k = rel.ret h.world v
        eval (Variable at r selections scalar) env h k = rel.bind h.world (select selections env (variable_root r env) h k) (λ p. rel.reads h.world (VariableOf p.object) p.offset scalar)
        eval (Constant at r selections scalar) env h k = rel.bind h.world (select selections env (constant_root r env) h k) (λ p. rel.reads h.world (ConstantOf p.object) p.offset scalar)
        eval (Parameter at x) env h k = rel.ret h.world (env.parameter x)
        eval (Target at scalar) env h k = rel.reads h.world (VariableOf env.target.object) env.target.offset scalar
        eval (Group e) env h k = eval e env h k
        eval (Unary at s class e) env h k = rel.bind h.world (eval e env h k) (λ v. rel.bind h.world (unary_check h.world s at class (unary s class v)) (λ _. rel.ret h.world (unary s class v)))
        eval (Binary at op class e f) env h k = rel.bind h.world (eval e env h k.0) (λ x. rel.bind h.world (eval f env h k.1) (λ y. operates h.world op at class x y))
        eval (AndThen e f) env h k = rel.bind h.world (eval e env h k.0) (λ x. choose h.world (truth x) (eval f env h k.1) (rel.ret h.world (bit false)))
        eval (OrElse e f) env h k = rel.bind h.world (eval e env h k.0) (λ x. choose h.world (truth x) (rel.ret h.world (bit true)) (eval f env h k.1))
        eval (Relation class comparison e f) env h k = rel.bind h.world (eval e env h k.0) (λ x. rel.bind h.world (eval f env h k.1) (λ y. rel.ret h.world _))
        eval (Membership class negated e low high) env h k = rel.bind h.world (eval e env h k.0) (λ x. rel.bind h.world (eval low env h k.1) (λ l. rel.bind h.world (eval high env h k.2) (λ u. rel.ret h.world _)))
        eval (If condition value otherwise) env h k = rel.bind h.world (eval condition env h k.0) (λ c. choose h.world (truth c) (eval value env h k.1) (eval otherwise env h k.2))
        eval (Call at callee s actuals) env h k = rel.bind h.world (pass actuals env [] h k.1) (λ passed. rel.bind h.world (same h env.nested s (o.ret tt) (q.ret tt) passed k.0 (rel.ret h.world tt)) (λ r. rel.ret h.world r.value))
        eval (Convert c e) env h k = rel.bind h.world (eval e env h k) (λ v. rel.bind h.world (check h.world c v) (λ _. rel.ret h.world v))
        eval (Reduction at attribute by initial None chunk iteration value) env h k =
            rel.bind h.world (eval initial env h k.2) (λ start. rel.bind h.world (course iteration env h k.4) (λ c.
            throughout h.world 0 c.count start (λ i so_far. rel.bind h.world
            (iterates_value h.world (filtered iteration (c.bound i env) h k.4) (eval value (c.bound i env) h k.5))
            (λ v. folds h.world (reduce_step h.world by attribute (fold_call h by env.nested k.1)) so_far v))))
        eval (Reduction at attribute by initial (Some site) chunk iteration value) env h k =
            rel.bind h.world (eval initial env h k.2) (λ start. rel.bind h.world (opens h.world env) (λ _.
            rel.bind h.world (chunking chunk (inside env) (quiet h) k.3) (λ c. rel.bind h.world (course iteration (inside env) (quiet h) k.4) (λ d.
            rel.bind h.world (unless h.world (nat_le d.count most_iterations) reason.StorageError) (λ _.
            rel.reduces h.world (Meaning.site_at site chunk iteration (value_cut_of c d.count) c d (inside env)) (value_cut_of c d.count) by attribute start
            (λ j i. iterates_value (inner h.world) (filtered iteration (d.bound i (c.bound j (inside env))) (threaded h) k.4) (eval value (d.bound i (c.bound j (inside env))) (threaded h) k.5))
            (fold_call (threaded h) by (suc env.nested) k.1) (combine_call h by env.nested k.0))))))

        pub holds : (e : Optional) (env : Env) (h : Spot) → KeepsOptional nonblocking e h.blocking → R h.world (Meaning.holds o limit program calls e env) (Meaning.holds q limit program calls' e env)
        holds Absent env h k = rel.ret h.world true
        holds (Present e) env h k = rel.bind h.world (eval e env h k) (λ v. rel.ret h.world (truth v))

        pub select : (s : Selections) (env : Env) (p : ObjectPart) (h : Spot) → KeepsSelections nonblocking s h.blocking → R h.world (Meaning.select o limit program calls s env p) (Meaning.select q limit program calls' s env p)
        select Whole env p h k = rel.ret h.world p
        select (Field number offset rest) env p h k = select rest env (moved p offset) h k
        select (Index at e low high stride rest) env p h k = rel.bind h.world (eval e env h k.0) (λ i. rel.bind h.world (rel.checks h.world IndexCheck at (between low i high)) (λ _. select rest env (moved p (to_nat (i -ℤ low) * stride)) h k.1))

        pub pass : (a : Actuals) (env : Env) (so_far : List Passed) (h : Spot) → KeepsActuals nonblocking a h.blocking → R h.world (Meaning.pass o limit program calls a env so_far) (Meaning.pass q limit program calls' a env so_far)
        pass NoActual env so_far h k = rel.ret h.world so_far
        pass (In formal value rest) env so_far h k = rel.bind h.world (cells value env h k.0) (λ cs. pass rest env _ h k.1)
        pass (InOut formal at r selections x y rest) env so_far h k = rel.bind h.world (select selections env (variable_root r env) h k.0) (λ p. rel.bind h.world (rel.reads h.world (VariableOf p.object) p.offset y) (λ v. rel.bind h.world (check h.world (record { at = at; scalar = x }) v) (λ _. pass rest env _ h k.1)))
        pass (Out formal at r selections x y rest) env so_far h k = rel.bind h.world (select selections env (variable_root r env) h k.0) (λ p. pass rest env _ h k.1)
        pass (CompositeInOut formal at r selections subtype rest) env so_far h k = rel.bind h.world (select selections env (variable_root r env) h k.0) (λ p. rel.bind h.world (reads_all h.world (VariableOf p.object) p.offset [] (Meaning.cells_of o limit program calls subtype)) (λ vs. pass rest env _ h k.1))
        pass (CompositeOut formal at r selections subtype rest) env so_far h k = rel.bind h.world (select selections env (variable_root r env) h k.0) (λ p. rel.bind h.world (reads_all h.world (VariableOf p.object) p.offset [] (Meaning.cells_of o limit program calls subtype)) (λ vs. pass rest env _ h k.1))

        pub cells : (v : Value) (env : Env) (h : Spot) → KeepsValue nonblocking v h.blocking → R h.world (Meaning.cells o limit program calls v env) (Meaning.cells q limit program calls' v env)
        cells (Number c e) env h k = rel.bind h.world (eval e env h k) (λ v. rel.bind h.world (check h.world c v) (λ _. rel.ret h.world (v ∷ [])))
        cells (Cells c) env h k = composite c env h k

        pub composite : (c : Composite) (env : Env) (h : Spot) → KeepsComposite nonblocking c h.blocking → R h.world (Meaning.composite o limit program calls c env) (Meaning.composite q limit program calls' c env)
        composite (WholeVariable at r selections subtype) env h k = rel.bind h.world (select selections env (variable_root r env) h k) (λ p. reads_all h.world (VariableOf p.object) p.offset [] (Meaning.cells_of o limit program calls subtype))
        composite (WholeConstant at r selections subtype) env h k = rel.bind h.world (select selections env (constant_root r env) h k) (λ p. reads_all h.world (ConstantOf p.object) p.offset [] (Meaning.cells_of o limit program calls subtype))
        composite (WholeTarget at subtype) env h k = reads_all h.world (VariableOf env.target.object) env.target.offset [] (Meaning.cells_of o limit program calls subtype)
        composite (CompositeIf condition value otherwise) env h k = rel.bind h.world (eval condition env h k.0) (λ c. choose h.world (truth c) (composite value env h k.1) (composite otherwise env h k.2))
        composite (Aggregate at size associations) env h k = associated associations env (zeros size) h k

        pub associated : (a : Associations) (env : Env) (so_far : List ℤ) (h : Spot) → KeepsAssociations nonblocking a h.blocking → R h.world (Meaning.associated o limit program calls a env so_far) (Meaning.associated q limit program calls' a env so_far)
        associated NoAssociation env so_far h k = rel.ret h.world so_far
        associated (Association runs i mentions value rest) env so_far h k =
            rel.bind h.world (all_runs h.world runs so_far (λ n. rel.bind h.world (value_turns h.world (is_some i)) (λ _. cells value (iterated_env i n env) h k.1))) (λ cs. associated rest env cs h k.2)

        pub course : (i : Iteration) (env : Env) (h : Spot) → KeepsIteration nonblocking i h.blocking → R h.world (Meaning.course o limit program calls i env) (Meaning.course q limit program calls' i env)
        course (Range x reverse low high c filter) env h k = rel.bind h.world (eval low env h k.0) (λ l. rel.bind h.world (eval high env h k.1) (λ u. rel.bind h.world (bounds h.world c l u) (λ _. rel.ret h.world _)))
        course (Components x constant at r selections number stride dimensions filter) env h k = rel.bind h.world (select selections env (array_root constant r env) h k.0) (λ p. rel.ret h.world _)

        pub filtered : (i : Iteration) (env : Env) (h : Spot) → KeepsIteration nonblocking i h.blocking → R h.world (Meaning.filtered o limit program calls i env) (Meaning.filtered q limit program calls' i env)
        filtered (Range x reverse low high c filter) env h k = holds filter env h k.2
        filtered (Components x constant at r selections number stride dimensions filter) env h k = holds filter env h k.1

        pub chunking : (c : Chunk) (env : Env) (h : Spot) → KeepsChunk nonblocking c h.blocking → R h.world (Meaning.chunking o limit program calls c env) (Meaning.chunking q limit program calls' c env)
        chunking NoChunk env h k = rel.ret h.world _
        chunking (Count e) env h k = rel.bind h.world (eval e env h k) (λ v. rel.bind h.world (most h.world v) (λ n. rel.ret h.world _))
        chunking (Each x low high c) env h k =
            rel.bind h.world (eval low env h k.0) (λ l. rel.bind h.world (eval high env h k.1) (λ u. rel.bind h.world (bounds h.world c l u) (λ _.
            rel.bind h.world (unless h.world (int_le l u) reason.ProgramError) (λ _. rel.bind h.world (unless h.world (nat_le (count l u) most_threads) reason.StorageError) (λ _. rel.ret h.world _)))))

      written : (p : Pieces) (env : Env) (so_far : List ℕ) (h : Spot) → KeepsPieces nonblocking p h.blocking → R h.world (Meaning.written o limit program calls p env so_far) (Meaning.written q limit program calls' p env so_far)
      written NoPiece env so_far h k = rel.ret h.world so_far
      written (Text bytes rest) env so_far h k = written rest env (so_far ++ bytes) h k
      written (Image class e rest) env so_far h k = rel.bind h.world (eval e env h k.0) (λ v. written rest env (so_far ++ image_of class v) h k.1)
      written (Padded class e width rest) env so_far h k = rel.bind h.world (eval e env h k.0) (λ v. rel.bind h.world (eval width env h k.1) (λ w. written rest env (so_far ++ padded v (to_nat w)) h k.2))

      declared : {A : Type 0} (d : Decls) (region : Region) (env : Env) (h : Spot) (u : region ≡ Everywhere → Open h.world) {m : o.Doing A} {n : q.Doing A} → KeepsDecls nonblocking d h.blocking → R h.world m n → R h.world (Meaning.declared o limit program calls d region env m) (Meaning.declared q limit program calls' d region env n)
      declared NoDecl region env h u k r = r
      declared (DeclareDefault x more) region env h u k r = rel.elaborates h.world region u (VariableOf x) (defaults (object_layout program x)) (declared more region env h u k r)
      declared (DeclareVariable x initial more) region env h u k r = rel.bind h.world (cells initial env h k.0) (λ cs. rel.elaborates h.world region u (VariableOf x) cs (declared more region env h u k.1 r))
      declared (DeclareConstant x initial more) region env h u k r = rel.bind h.world (cells initial env h k.0) (λ cs. rel.elaborates h.world region u (ConstantOf x) cs (declared more region env h u k.1 r))
      declared (Mentions es more) region env h u k r = declared more region env h u k.1 r

      back_check : (w : World) (c : Option Check) (vs : List ℤ) → R w (Meaning.back_checked o limit program calls c vs) (Meaning.back_checked q limit program calls' c vs)
      back_check w None vs = rel.ret w tt
      back_check w (Some c) [] = rel.ret w tt
      back_check w (Some c) (v ∷ vs) = check w c v

      copy_back : (w : World) (b : Option Back) (vs : List ℤ) → R w (Meaning.copied_back o limit program calls b vs) (Meaning.copied_back q limit program calls' b vs)
      copy_back w None vs = rel.ret w tt
      copy_back w (Some b) vs = rel.bind w (back_check w b.check vs) (λ _. writes_all w b.part.object b.part.offset vs)

      copies_back : (w : World) (ps : List Passed) (vss : List (List ℤ)) → R w (Meaning.all_copied_back o limit program calls ps vss) (Meaning.all_copied_back q limit program calls' ps vss)
      copies_back w [] vss = rel.ret w tt
      copies_back w (p ∷ ps) [] = rel.ret w tt
      copies_back w (p ∷ ps) (vs ∷ vss) = rel.bind w (copy_back w p.back vs) (λ _. copies_back w ps vss)

      threads : (e : Optional) (env : Env) (h : Spot) → KeepsOptional nonblocking e h.blocking → R h.world (Meaning.threads_of o limit program calls e env) (Meaning.threads_of q limit program calls' e env)
      threads Absent env h k = rel.ret h.world most_threads
      threads (Present e) env h k = rel.bind h.world (eval e env h k) (λ v. most h.world v)

      mutual
        pub exec : (s : Stmt) (env : Env) (h : Spot) → Keeps nonblocking s h.blocking → R h.world (Meaning.exec o limit program calls s env) (Meaning.exec q limit program calls' s env)
        exec Null env h k = rel.ret h.world tt
        exec (Assign at r selections value) env h k = rel.bind h.world (select selections env (variable_root r env) h k.0) (λ p. rel.bind h.world (cells value (with_target p env) h k.1) (λ cs. writes_all h.world p.object p.offset cs))
        exec (CallProcedure at callee s actuals) env h k = rel.bind h.world (pass actuals env [] h k.1) (λ passed. rel.bind h.world (same h env.nested s (o.ret tt) (q.ret tt) passed k.0 (rel.ret h.world tt)) (λ r. copies_back h.world passed r.cells))
        exec (Exit loop condition) env h k = rel.bind h.world (holds condition env h k) (λ goes. choose h.world goes (rel.leaves h.world (Exits loop)) (rel.ret h.world tt))
        exec Return env h k = rel.leaves h.world (Returns None)
        exec (ReturnValue value) env h k = rel.bind h.world (cells value env h k) (λ cs. rel.leaves h.world (Returns (slice_get cs 0)))
        exec (Raise r) env h k = raised h.world r
        exec Reraise env h k = raised h.world env.handled
        exec (IfThen condition stmts otherwise) env h k = rel.bind h.world (eval condition env h k.0) (λ c. choose h.world (truth c) (exec_all stmts env h k.1) (exec_all otherwise env h k.2))
        exec (Case e alternatives) env h k = rel.bind h.world (eval e env h k.0) (λ v. exec_chosen alternatives v env h k.1)
        exec (Loop number condition stmts) env h k = rel.handles h.world (exits number) (whiles h.world (suc limit) (holds condition env h k.0) (exec_all stmts env h k.1)) (λ _. rel.ret h.world tt)
        exec (For number iteration stmts) env h k =
            rel.bind h.world (course iteration env h k.0) (λ c. rel.handles h.world (exits number)
            (throughout h.world 0 c.count tt (λ i _. iterates h.world (filtered iteration (c.bound i env) h k.0) (exec_all stmts (c.bound i env) h k.1))) (λ _. rel.ret h.world tt))
        exec (ParallelFor number site chunk iteration stmts) env h k =
            rel.bind h.world (opens h.world env) (λ _. rel.bind h.world (chunking chunk (inside env) (quiet h) k.0) (λ c. rel.bind h.world (course iteration (inside env) (quiet h) k.1) (λ d.
            rel.bind h.world (unless h.world (nat_le d.count most_iterations) reason.StorageError) (λ _. rel.handles h.world (exits number) (rel.loops h.world (Meaning.site_at site chunk iteration (cut_of c d.count) c d (inside env)) (cut_of c d.count) (λ j i.
            iterates (inner h.world) (filtered iteration (d.bound i (c.bound j (inside env))) (threaded h) k.1) (exec_all stmts (d.bound i (c.bound j (inside env))) (threaded h) k.2))) (λ _. rel.ret h.world tt)))))
        exec (Parallel site number arms) env h k =
            rel.bind h.world (opens h.world env) (λ _. rel.bind h.world (threads number (inside env) (quiet h) k.0) (λ n.
            rel.loops h.world (Meaning.block_site site) (Sized (evens (arms_of arms) (min n (arms_of arms)))) (λ j i. exec_arm arms i (inside env) (threaded h) k.1)))
        exec (Block decls stmts handlers) env h k = declared decls Here env h (here_only h.world) k.0 (guards h.world handlers (exec_all stmts env h k.1) (λ r. exec_handler handlers r env h k.2))
        exec (Put at callee pieces line) env h k = rel.bind h.world (written pieces env [] h k.0) (λ bytes. rel.puts h.world (h.fine k.1) (cond line (bytes ++ (10 ∷ [])) bytes))
        exec (Get at callee first r selections scalar) env h k =
            rel.bind h.world (select selections env (variable_root r env) h k.0) (λ p. rel.bind h.world (gets h.world (h.fine k.1) limit) (λ v. rel.bind h.world (rel.checks h.world RangeCheck first (is_in scalar v)) (λ _. rel.writes h.world p.object p.offset v)))

        pub exec_all : (ss : Stmts) (env : Env) (h : Spot) → KeepsAll nonblocking ss h.blocking → R h.world (Meaning.exec_all o limit program calls ss env) (Meaning.exec_all q limit program calls' ss env)
        exec_all End env h k = rel.ret h.world tt
        exec_all (Then s ss) env h k = rel.bind h.world (exec s env h k.0) (λ _. exec_all ss env h k.1)

        pub exec_chosen : (a : Alternatives) (v : ℤ) (env : Env) (h : Spot) → KeepsAlternatives nonblocking a h.blocking → R h.world (Meaning.exec_chosen o limit program calls a v env) (Meaning.exec_chosen q limit program calls' a v env)
        exec_chosen NoAlternative v env h k = raised h.world reason.ConstraintError
        exec_chosen (Alternative others choices mentions stmts rest) v env h k = choose h.world (others || is_chosen choices v) (exec_all stmts env h k.1) (exec_chosen rest v env h k.2)

        pub exec_arm : (a : Arms) (i : ℕ) (env : Env) (h : Spot) → KeepsArms nonblocking a h.blocking → R h.world (Meaning.exec_arm o limit program calls a i env) (Meaning.exec_arm q limit program calls' a i env)
        exec_arm NoArm i env h k = rel.ret h.world tt
        exec_arm (Arm stmts rest) zero env h k = exec_all stmts env h k.0
        exec_arm (Arm stmts rest) (suc i) env h k = exec_arm rest i env h k.1

        pub exec_handler : (hs : Handlers) (r : Reason) (env : Env) (h : Spot) → KeepsHandlers nonblocking hs h.blocking → R h.world (Meaning.exec_handler o limit program calls hs r env) (Meaning.exec_handler q limit program calls' hs r env)
        exec_handler NoHandler r env h k = raised h.world r
        exec_handler (Handler handled stmts rest) r env h k = choose h.world (handles_reason handled r) (exec_all stmts (with_handled r env) h k.0) (exec_handler rest r env h k.1)

      pub body : (b : Body) (region : Region) (env : Env) (h : Spot) → (region ≡ Everywhere → Open h.world) → KeepsBody nonblocking b h.blocking → R h.world (Meaning.exec_body o limit program calls b region env) (Meaning.exec_body q limit program calls' b region env)
      body b region env h u k = declared b.decls region env h u k.decls (guards h.world b.handlers (exec_all b.stmts env h k.stmts) (λ r. exec_handler b.handlers r env h k.handlers))

  module _ (limit : ℕ) (program : Program) where
    formals : {A : Type 0} (w : World) (ps : List Passed) {m : o.Doing A} {n : q.Doing A} → R w m n → R w (Meaning.with_formals o limit program ps m) (Meaning.with_formals q limit program ps n)
    formals w [] r = r
    formals w (p ∷ ps) r = rel.elaborates w Here (here_only w) p.formal p.cells (formals w ps r)

    cells_back : (w : World) (x : Entity) (b : Option Back) → R w (Meaning.cells_back o limit program x b) (Meaning.cells_back q limit program x b)
    cells_back w x None = rel.ret w []
    cells_back w x (Some b) = reads_all w x 0 [] b.cells

    backs : (w : World) (ps : List Passed) (so_far : List (List ℤ)) → R w (Meaning.back_cells o limit program ps so_far) (Meaning.back_cells q limit program ps so_far)
    backs w [] so_far = rel.ret w so_far
    backs w (p ∷ ps) so_far = rel.bind w (cells_back w p.formal p.back) (λ vs. backs w ps (so_far ++ (vs ∷ [])))

    ended : (w : World) (result : Option Scalar) → R w (Meaning.ended o limit program result) (Meaning.ended q limit program result)
    ended w None = rel.ret w (pos 0)
    ended w (Some s) = raised w reason.ProgramError

    -- a subprogram's text, where it is called
    callee : (h : Spot) (main nonblocking : Bool) → (h.blocking ≡ false → nonblocking ≡ true) → (not nonblocking && not main) ≡ true → Open h.world
    callee h main true may e = never e
    callee h main false may e = h.fine (go h.blocking refl)
      where
        go : (b : Bool) → h.blocking ≡ b → h.blocking ≡ true
        go true e = e
        go false e = never (may e)

    abbrev at_callee : (h : Spot) (main nonblocking : Bool) → (h.blocking ≡ false → nonblocking ≡ true) → Spot
    at_callee h main nonblocking may = record { world = h.world; blocking = not nonblocking && not main; fine = callee h main nonblocking may }

    -- what is found is so
    abbrev IfFound : Option Sub → (Sub → Type 0) → Type 0
    IfFound None P = Unit {0}
    IfFound (Some sub) P = P sub

    abbrev Kept : (ℕ → Bool) → Bool → Bool → Sub → Type 0
    Kept nonblocking main known sub = KeepsBody nonblocking sub.body (not sub.nonblocking && not main) × (sub.nonblocking ≡ known)

    found : (nonblocking : ℕ → Bool) (main : Bool) (subs : List Sub) (s : ℕ) → KeepsSubs nonblocking main subs → IfFound (sub_at subs s) (Kept nonblocking main (nonblocking_of subs s))
    found nonblocking main [] s k = tt
    found nonblocking main (sub ∷ subs) zero k = (k.0, refl)
    found nonblocking main (sub ∷ subs) (suc s) k = found nonblocking main subs s k.1

    module _ (keeps : KeepsRule program) where
      abbrev marked : ℕ → Bool
      marked = nonblocking_of program.subs

      sub_body : (calls : ℕ → ℕ → o.Doing (Unit {0}) → List Passed → o.Doing Returned) (calls' : ℕ → ℕ → q.Doing (Unit {0}) → List Passed → q.Doing Returned) → SameCalls limit program marked calls calls'
          → (callee : Option Sub) (known : Bool) → IfFound callee (Kept marked program.nonblocking known) → (nested : ℕ) (passed : List Passed) (h : Spot) → (h.blocking ≡ false → known ≡ true)
          → R h.world (Meaning.exec_sub o limit program calls callee nested passed) (Meaning.exec_sub q limit program calls' callee nested passed)
      sub_body calls calls' same None known k nested passed h may = raised h.world reason.ProgramError
      sub_body calls calls' same (Some sub) known k nested passed h may =
          rel.apart h.world (formals h.world passed (rel.bind h.world (rel.handles h.world returns
          (rel.bind h.world (body limit program marked calls calls' same sub.body Here (outset nested) (at_callee h program.nonblocking sub.nonblocking (λ e. k.1 ∙ may e)) (here_only h.world) k.0) (λ _. ended h.world sub.result))
          (λ how. rel.ret h.world (value_of how))) (λ v. rel.bind h.world (backs h.world passed []) (λ vss. rel.ret h.world (record { value = v; cells = vss })))))

      pub calls : (depth : ℕ) → SameCalls limit program marked (Meaning.call o limit program depth) (Meaning.call q limit program depth)
      calls zero h nested s before before' passed may r = rel.bind h.world (turned h.world) (λ _. raised h.world reason.StorageError)
      calls (suc depth) h nested s before before' passed may r =
          rel.bind h.world (turned h.world) (λ _. rel.bind h.world r (λ _.
          sub_body (Meaning.call o limit program depth) (Meaning.call q limit program depth) (calls depth) (sub_at program.subs s) (marked s) (found marked program.nonblocking program.subs s keeps.subs) nested passed h may))

      -- the whole program
      pub main : (w : World) → Open w → R w (Meaning.main o limit program) (Meaning.main q limit program)
      main w allowed =
          rel.handles w (λ how. not (raises how)) (body limit program marked (Meaning.call o limit program most_calls) (Meaning.call q limit program most_calls) (calls most_calls) program.body Everywhere (outset 0)
          (record { world = w; blocking = not program.nonblocking; fine = λ _. allowed }) (λ e. allowed) keeps.body) (λ _. rel.ret w tt)
