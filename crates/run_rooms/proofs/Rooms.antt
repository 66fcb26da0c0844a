-- Each program has a number of slots with which its runs by notes lack none: one for each object that is declared or passed.
use Rattle.std.proofs.Common.{ℕ, zero, suc, ◌+◌, ◌*◌, ◌<◌, ◌≤◌, min, ℤ, pos, ◌-ℤ◌, int_lt, int_le, nat_lt, nat_le, List, [], ◌∷◌, ◌++◌, length, replicate, slice_get, Option, Some, None, is_some, Result, Bool, true, false, not, cond, ◌&&◌, ◌||◌, sym, subst, arith}
use Rattle.std.proofs.lemmas.List.{length-replicate}
use Rattle.ada_base.specs.declared.reason.Reason.{Reason}
use Rattle.ada_base.specs.declared.reason.Reason.TheVariants as reason
use Rattle.ada_base.specs.Operation.{is_in_base}
use Rattle.ada_base.specs.Cuts.{evens, cuts_of}
use Rattle.ada_base.specs.Image.{padded}
use Rattle.ada_base.proofs.Readings
use Rattle.ada_base.proofs.Readings.{Relates}
use Rattle.typed_tree.specs.declared.scalars.Class.{Class}
use Rattle.typed_tree.specs.declared.scalars.Scalar.{Scalar}
use Rattle.typed_tree.specs.declared.scalars.Check.{Check}
use Rattle.typed_tree.specs.declared.expressions.Sign.{Sign}
use Rattle.typed_tree.specs.declared.expressions.Sign.TheVariants as sign
use Rattle.typed_tree.specs.declared.expressions.Run.{Run}
use Rattle.typed_tree.specs.declared.expressions.Reducer.{Reducer}
use Rattle.typed_tree.specs.declared.expressions.Reducer.TheVariants.{Operator, Function}
use Rattle.behaviours.specs.Paths.{Exits, Returns, Raises, Entity, VariableOf, ConstantOf, Region, Everywhere, Here}
use Rattle.ada_meaning.specs.Values.{truth, bit, is_in, between, to_nat, count, base_of, is_modular, unary, defaults, laid, zeros, image_of, handles_reason, is_chosen}
use Rattle.ada_meaning.specs.Operations.{RangeCheck, IndexCheck, OverflowCheck, Sized, Operations}
use Rattle.ada_meaning.specs.Stored
use Rattle.ada_meaning.specs.Stored.{State, Cause, Stored, NoRoom, key, noted, noted_outset, no_slot}
use Rattle.ada_meaning.specs.Meaning
use Rattle.ada_meaning.specs.Meaning.{ObjectPart, Env, Back, Passed, Returned, outset, with_target, with_handled, inside, variable_root, constant_root, array_root, iterated_env, cut_of, value_cut_of, arms_of, exits, returns, raises, value_of, reason_of, has_handlers, sub_at, moved, object_layout, formal_at, formals_of, most_nested, most_threads, most_iterations, most_calls}
use Rattle.typed_tree.specs.Syntax.{Expr, Static, Variable, Constant, Parameter, Target, Group, Unary, Binary, AndThen, OrElse, Relation, Membership, If, Call, Convert, Reduction, Optional, Absent, Present, Selections, Whole, Field, Index, Actuals, NoActual, In, InOut, Out, CompositeInOut, CompositeOut, Value, Number, Cells, Composite, WholeVariable, WholeConstant, WholeTarget, CompositeIf, Aggregate, Associations, NoAssociation, Association, Iteration, Range, Components, Chunk, NoChunk, Count, Each, Pieces, NoPiece, Text, Image, Padded, Decls, NoDecl, DeclareDefault, DeclareVariable, DeclareConstant, Mentions, Stmt, Null, Assign, CallProcedure, Exit, Return, ReturnValue, Raise, Reraise, IfThen, Case, Loop, For, ParallelFor, Parallel, Block, Put, Get, Stmts, End, Then, Alternatives, NoAlternative, Alternative, Arms, NoArm, Arm, Handlers, NoHandler, Handler, Body, Sub, Program}
use Rattle.run_rooms.specs.Law.{RoomLaw}
use Rattle.run_rooms.proofs.Operations.{Any, Ends, Has, ret_has, leaves_has, spent_has, checks_has, turn_has, look_has, reads_has, writes_has, puts_has, recalls_has, keeps_has, takes_has, bind_has, then_has, choose, handles_has, apart_has, elaborates_has}
use Rattle.run_rooms.proofs.Constructs.{through_has, folded_has, operate_has, reduce_has, loops_have, reduces_have}

-- it holds from some number on
abbrev Enough : (ℕ → Type 1) → Type 1
Enough F = (low : ℕ) × ((n : ℕ) → low ≤ n → F n)

none : {F : ℕ → Type 1} → ((n : ℕ) → F n) → Enough F
none f = (0, λ n l. f n)

one : {F G : ℕ → Type 1} → Enough F → ((n : ℕ) → F n → G n) → Enough G
one (a, f) k = (a, λ n l. k n (f n l))

two : {F G H : ℕ → Type 1} → Enough F → Enough G → ((n : ℕ) → F n → G n → H n) → Enough H
two (a, f) (b, g) k = (a + b, λ n l. k n (f n (omega (arith, l))) (g n (omega (arith, l))))

three : {F G H I : ℕ → Type 1} → Enough F → Enough G → Enough H → ((n : ℕ) → F n → G n → H n → I n) → Enough I
three (a, f) (b, g) (c, h) k = (a + b + c, λ n l. k n (f n (omega (arith, l))) (g n (omega (arith, l))) (h n (omega (arith, l))))

four : {F G H I J : ℕ → Type 1} → Enough F → Enough G → Enough H → Enough I → ((n : ℕ) → F n → G n → H n → I n → J n) → Enough J
four (a, f) (b, g) (c, h) (d, i) k = (a + b + c + d, λ n l. k n (f n (omega (arith, l))) (g n (omega (arith, l))) (h n (omega (arith, l))) (i n (omega (arith, l))))

-- an object's slot is among so many
record Slot (x : Entity) (n : ℕ) : Type 1 where
  pub is : key x < n

slot : (x : Entity) → Enough (Slot x)
slot x = (key x + 1, λ n l. record { is = omega (arith, l) })

-- what is passed has slots
abbrev Below : ℕ → List Passed → Type 0
Below n [] = Unit {0}
Below n (p ∷ ps) = (key p.formal < n) × Below n ps

below_more : (n : ℕ) (ps : List Passed) (p : Passed) → Below n ps → key p.formal < n → Below n (ps ++ (p ∷ []))
below_more n [] p b l = (l, tt)
below_more n (q ∷ ps) p (k, b) l = (k, below_more n ps p b l)

abbrev CallsOf : Type 1
CallsOf = ℕ → ℕ → Stored (Unit {0}) → List Passed → Stored Returned

abbrev Sound : ℕ → CallsOf → Type 1
Sound n calls = (nested s : ℕ) (before : Stored (Unit {0})) (passed : List Passed) → Has n Any before → Below n passed → Has n Any (calls nested s before passed)

-- a run's limit and plan, and the calls of subprograms, which lack no slot
record Around (n : ℕ) : Type 1 where
  pub limit : ℕ
  pub cuts : ℕ → ℕ → List ℕ
  pub calls : CallsOf
  pub sound : Sound n calls

abbrev ops : {n : ℕ} → Around n → Operations {1}
ops a = Stored.noted_operations a.limit a.cuts

module _ {n : ℕ} where
  turned : (limit : ℕ) (cuts : ℕ → ℕ → List ℕ) → Has n Any (Meaning.turned (Stored.noted_operations limit cuts))
  turned limit cuts = then_has look_has (λ _. turn_has limit)

  unless : (limit : ℕ) (cuts : ℕ → ℕ → List ℕ) (b : Bool) (r : Reason) → Has n Any (Meaning.unless (Stored.noted_operations limit cuts) b r)
  unless limit cuts b r = choose b (ret_has tt tt) (leaves_has (Raises r))

  reads_all : (limit : ℕ) (cuts : ℕ → ℕ → List ℕ) (x : Entity) (i : ℕ) (so_far : List ℤ) (cells : List Scalar) → Has n Any (Meaning.read_all (Stored.noted_operations limit cuts) x i so_far cells)
  reads_all limit cuts x i so_far [] = ret_has so_far tt
  reads_all limit cuts x i so_far (s ∷ ss) = then_has (reads_has x i) (λ v. reads_all limit cuts x (i + 1) (so_far ++ (v ∷ [])) ss)

  module _ (a : Around n) where
    writes_all : (x i : ℕ) (vs : List ℤ) → Has n Any (Meaning.write_all (ops a) x i vs)
    writes_all x i [] = ret_has tt tt
    writes_all x i (v ∷ vs) = then_has (writes_has x i v) (λ _. writes_all x (i + 1) vs)

    bounds : (c : Option Check) (low high : ℤ) → Has n Any (Meaning.bounds_checked (ops a) c low high)
    bounds None low high = ret_has tt tt
    bounds (Some c) low high = choose (int_le low high) (checks_has RangeCheck c.at (is_in c.scalar low && is_in c.scalar high)) (ret_has tt tt)

    opens : (env : Env) → Has n Any (Meaning.opened (ops a) env)
    opens env = then_has look_has (λ _. unless a.limit a.cuts (nat_lt env.nested most_nested) reason.StorageError)

    most : (v : ℤ) → Has n Any (Meaning.most_of (ops a) v)
    most v = then_has (unless a.limit a.cuts (int_lt (pos 0) v) reason.ProgramError) (λ _. ret_has (min (to_nat v) most_threads) tt)

    sign_check : (s : Sign) (at : ℕ) (class : Class) (v : ℤ) → Has n Any (Meaning.sign_checked (ops a) s at class v)
    sign_check sign.Minus at class v = checks_has OverflowCheck at (is_in_base (base_of class) v)
    sign_check sign.Abs at class v = checks_has OverflowCheck at (is_in_base (base_of class) v)
    sign_check sign.Not at class v = ret_has tt tt

    unary_check : (s : Sign) (at : ℕ) (class : Class) (v : ℤ) → Has n Any (Meaning.unary_checked (ops a) s at class v)
    unary_check s at class v = choose (is_modular class) (ret_has tt tt) (sign_check s at class v)

    one_run : (k size first stride : ℕ) (so_far : List ℤ) {f : ℕ → Stored (List ℤ)} → ((k : ℕ) → Has n Any (f k)) → Has n Any (Meaning.run_values (ops a) k size first stride f so_far)
    one_run k zero first stride so_far r = ret_has so_far tt
    one_run k (suc size) first stride so_far r = then_has (r k) (λ cs. one_run (k + 1) size (first + stride) stride (laid so_far first cs) r)

    all_runs : (runs : List Run) (so_far : List ℤ) {f : ℕ → Stored (List ℤ)} → ((k : ℕ) → Has n Any (f k)) → Has n Any (Meaning.runs_values (ops a) runs f so_far)
    all_runs [] so_far r = ret_has so_far tt
    all_runs (run ∷ runs) so_far r = then_has (one_run 0 run.count run.first run.stride so_far r) (λ cs. all_runs runs cs r)

    value_turns : (turns : Bool) → Has n Any (Meaning.value_turn (ops a) turns)
    value_turns turns = choose turns (turned a.limit a.cuts) (ret_has tt tt)

    whiles : (k : ℕ) {t : Stored Bool} {b : Stored (Unit {0})} → Has n Any t → Has n Any b → Has n Any (Meaning.while_loop (ops a) k t b)
    whiles zero r s = spent_has
    whiles (suc k) r s = then_has r (λ goes_on. choose goes_on (then_has (turned a.limit a.cuts) (λ _. then_has s (λ _. whiles k r s))) (ret_has tt tt))

    iterates : {t : Stored Bool} {b : Stored (Unit {0})} → Has n Any t → Has n Any b → Has n Any (Meaning.iterate (ops a) t b)
    iterates r s = then_has (turned a.limit a.cuts) (λ _. then_has r (λ passes. choose passes s (ret_has tt tt)))

    iterates_value : {t : Stored Bool} {b : Stored ℤ} → Has n Any t → Has n Any b → Has n Any (Meaning.iterate_value (ops a) t b)
    iterates_value r s = then_has (turned a.limit a.cuts) (λ _. then_has r (λ passes. choose passes (then_has s (λ v. ret_has (Some v) tt)) (ret_has None tt)))

    guards : (hs : Handlers) {m : Stored (Unit {0})} {f : Reason → Stored (Unit {0})} → Has n Any m → ((r : Reason) → Has n Any (f r)) → Has n Any (Meaning.guarded (ops a) hs m f)
    guards hs r s = handles_has (λ how. has_handlers hs && raises how) r (λ how. then_has look_has (λ _. s (reason_of how)))

    next : Has n Any (Meaning.reading (ops a)).asks
    next = then_has (turn_has a.limit) (λ _. takes_has)

    abbrev readings : Relates {1, 1, 0} (Meaning.reading (ops a)) (Meaning.reading (ops a))
    readings = record {
      R = λ {A} m k. Has {A = A} n Any m;
      ret = λ {A} v. ret_has v tt;
      bind = λ {A} {B} {m} {n} {k} {l} r s. then_has r s;
      asks = next;
      recalls = recalls_has;
      keeps = λ h. keeps_has h;
      raises = λ {A} r. leaves_has (Raises r);
      spent = λ {A}. spent_has;
    }

    gets : (limit : ℕ) → Has n Any (Meaning.got (ops a) limit)
    gets limit = Readings.gets readings limit

module _ (program : Program) where
  abbrev formal : ℕ → ℕ → Entity
  formal s k = ConstantOf (formal_at (formals_of program.subs s) k)

  abbrev Evals : Expr → ℕ → Type 1
  Evals e n = (a : Around n) (env : Env) → Has n Any (Meaning.eval (ops a) a.limit program a.calls e env)

  abbrev Holds : Optional → ℕ → Type 1
  Holds e n = (a : Around n) (env : Env) → Has n Any (Meaning.holds (ops a) a.limit program a.calls e env)

  abbrev Selects : Selections → ℕ → Type 1
  Selects s n = (a : Around n) (env : Env) (p : ObjectPart) → Has n Any (Meaning.select (ops a) a.limit program a.calls s env p)

  abbrev Passes : Actuals → ℕ → Type 1
  Passes x n = (a : Around n) (env : Env) (so_far : List Passed) → Below n so_far → Has n (Below n) (Meaning.pass (ops a) a.limit program a.calls x env so_far)

  abbrev Values : Value → ℕ → Type 1
  Values v n = (a : Around n) (env : Env) → Has n Any (Meaning.cells (ops a) a.limit program a.calls v env)

  abbrev Composites : Composite → ℕ → Type 1
  Composites c n = (a : Around n) (env : Env) → Has n Any (Meaning.composite (ops a) a.limit program a.calls c env)

  abbrev Associates : Associations → ℕ → Type 1
  Associates x n = (a : Around n) (env : Env) (so_far : List ℤ) → Has n Any (Meaning.associated (ops a) a.limit program a.calls x env so_far)

  -- what is gone through, and its filter
  record Iterates (i : Iteration) (n : ℕ) : Type 1 where
    pub course : (a : Around n) (env : Env) → Has n Any (Meaning.course (ops a) a.limit program a.calls i env)
    pub filtered : (a : Around n) (env : Env) → Has n Any (Meaning.filtered (ops a) a.limit program a.calls i env)

  abbrev Chunks : Chunk → ℕ → Type 1
  Chunks c n = (a : Around n) (env : Env) → Has n Any (Meaning.chunking (ops a) a.limit program a.calls c env)

  -- the calls of a reducer
  record Folds (by : Reducer) (n : ℕ) : Type 1 where
    pub in_threads : (a : Around n) (nested : ℕ) (x y : ℤ) → Has n Any (Meaning.fold_call (ops a) a.limit program a.calls by nested x y)
    pub behind : (a : Around n) (nested : ℕ) (x y : ℤ) → Has n Any (Meaning.combine_call (ops a) a.limit program a.calls by nested x y)

  both : {n : ℕ} (a : Around n) (at : ℕ) (x y : Scalar) (v w : ℤ) → Has n Any (Meaning.both_checked (ops a) a.limit program a.calls at x y v w)
  both a at x y v w = then_has (checks_has RangeCheck at (is_in x v)) (λ _. checks_has RangeCheck at (is_in y w))

  folds : (by : Reducer) → Enough (Folds by)
  folds (Operator at op class) = none (λ n. record { in_threads = λ a nested x y. ret_has x tt; behind = λ a nested x y. ret_has x tt })
  folds (Function at s x y) = two (slot (formal s 0)) (slot (formal s 1)) (λ n f g. record {
    in_threads = λ a nested v w. then_has (both a at x y v w) (λ _. then_has (a.sound nested s (Stored.ret tt) (Meaning.reduced_by (ops a) a.limit program a.calls s v w) (ret_has tt tt) (f.is, (g.is, tt))) (λ r. ret_has r.value tt));
    behind = λ a nested v w. then_has (a.sound nested s (Meaning.both_checked (ops a) a.limit program a.calls at x y v w) (Meaning.reduced_by (ops a) a.limit program a.calls s v w) (both a at x y v w) (f.is, (g.is, tt))) (λ r. ret_has r.value tt);
  })

  checked : {n : ℕ} (a : Around n) (c : Check) (v : ℤ) → Has n Any (Meaning.checked (ops a) c v)
  checked a c v = checks_has RangeCheck c.at (is_in c.scalar v)

  -- the parts of a parallel reduction
  record Parts (r : Reducer) (e : Expr) (i : Iteration) (f : Expr) (n : ℕ) : Type 1 where
    pub initial : Evals e n
    pub iteration : Iterates i n
    pub value : Evals f n
    pub by : Folds r n

  mutual
    eval : (e : Expr) → Enough (Evals e)
    eval (Static at v literal mentions) = none (λ n a env. ret_has v tt)
    eval (Variable at r selections scalar) = one (select selections) (λ n p a env. then_has (p a env (variable_root r env)) (λ q. reads_has (VariableOf q.object) q.offset))
    eval (Constant at r selections scalar) = one (select selections) (λ n p a env. then_has (p a env (constant_root r env)) (λ q. reads_has (ConstantOf q.object) q.offset))
    eval (Parameter at x) = none (λ n a env. ret_has (env.parameter x) tt)
    eval (Target at scalar) = none (λ n a env. reads_has (VariableOf env.target.object) env.target.offset)
    eval (Group e) = one (eval e) (λ n h a env. h a env)
    eval (Unary at s class e) = one (eval e) (λ n h a env. then_has (h a env) (λ v. then_has (unary_check a s at class (unary s class v)) (λ _. ret_has (unary s class v) tt)))
    eval (Binary at op class e f) = two (eval e) (eval f) (λ n h g a env. then_has (h a env) (λ x. then_has (g a env) (λ y. operate_has op at class x y)))
    eval (AndThen e f) = two (eval e) (eval f) (λ n h g a env. then_has (h a env) (λ x. choose (truth x) (g a env) (ret_has (bit false) tt)))
    eval (OrElse e f) = two (eval e) (eval f) (λ n h g a env. then_has (h a env) (λ x. choose (truth x) (ret_has (bit true) tt) (g a env)))
    eval (Relation class comparison e f) = two (eval e) (eval f) (λ n h g a env. then_has (h a env) (λ x. then_has (g a env) (λ y. ret_has _ tt)))
    eval (Membership class negated e low high) = three (eval e) (eval low) (eval high) (λ n h l u a env. then_has (h a env) (λ x. then_has (l a env) (λ y. then_has (u a env) (λ z. ret_has _ tt))))
    eval (If condition value otherwise) = three (eval condition) (eval value) (eval otherwise) (λ n c h g a env. then_has (c a env) (λ x. choose (truth x) (h a env) (g a env)))
    eval (Call at callee s actuals) = one (pass actuals) (λ n p a env. bind_has (p a env [] tt) (λ passed b. then_has (a.sound env.nested s (Stored.ret tt) passed (ret_has tt tt) b) (λ r. ret_has r.value tt)))
    eval (Convert c e) = one (eval e) (λ n h a env. then_has (h a env) (λ v. then_has (checked a c v) (λ _. ret_has v tt)))
    eval (Reduction at attribute by initial None chunk iteration value) = four (eval initial) (iterate iteration) (eval value) (folds by) (λ n h i g f a env.
        then_has (h a env) (λ start. then_has (i.course a env) (λ c. through_has 0 c.count start (λ k so_far. then_has
        (iterates_value a (i.filtered a (c.bound k env)) (g a (c.bound k env)))
        (λ v. folded_has (reduce_has by attribute (f.in_threads a env.nested)) so_far v)))))
    eval (Reduction at attribute by initial (Some site) chunk iteration value) = two (four (eval initial) (iterate iteration) (eval value) (folds by) (λ n h i g f. record { initial = h; iteration = i; value = g; by = f })) (chunks chunk) (λ n (p : Parts by initial iteration value n) k a env.
        then_has (p.initial a env) (λ start. then_has (opens a env) (λ _. then_has (k a (inside env)) (λ c. then_has (p.iteration.course a (inside env)) (λ d.
        then_has (unless a.limit a.cuts (nat_le d.count most_iterations) reason.StorageError) (λ _.
        reduces_have a.limit a.cuts (Meaning.site_at site chunk iteration (value_cut_of c d.count) c d (inside env)) (value_cut_of c d.count) by attribute start
        (λ j i. iterates_value a (p.iteration.filtered a (d.bound i (c.bound j (inside env)))) (p.value a (d.bound i (c.bound j (inside env)))))
        (p.by.in_threads a (suc env.nested)) (p.by.behind a env.nested)))))))

    optional : (e : Optional) → Enough (Holds e)
    optional Absent = none (λ n a env. ret_has true tt)
    optional (Present e) = one (eval e) (λ n h a env. then_has (h a env) (λ v. ret_has (truth v) tt))

    select : (s : Selections) → Enough (Selects s)
    select Whole = none (λ n a env p. ret_has p tt)
    select (Field number offset rest) = one (select rest) (λ n r a env p. r a env (moved p offset))
    select (Index at e low high stride rest) = two (eval e) (select rest) (λ n h r a env p. then_has (h a env) (λ i. then_has (checks_has IndexCheck at (between low i high)) (λ _. r a env (moved p (to_nat (i -ℤ low) * stride)))))

    pass : (x : Actuals) → Enough (Passes x)
    pass NoActual = none (λ n a env so_far b. ret_has so_far b)
    pass (In x value rest) = three (slot (ConstantOf x)) (cells value) (pass rest) (λ n l h r a env so_far b. then_has (h a env) (λ cs. r a env _ (below_more n so_far _ b l.is)))
    pass (InOut x at root selections inner outer rest) = three (slot (VariableOf x)) (select selections) (pass rest) (λ n l h r a env so_far b.
        then_has (h a env (variable_root root env)) (λ p. then_has (reads_has (VariableOf p.object) p.offset) (λ v. then_has (checked a (record { at = at; scalar = inner }) v) (λ _. r a env _ (below_more n so_far _ b l.is)))))
    pass (Out x at root selections inner outer rest) = three (slot (VariableOf x)) (select selections) (pass rest) (λ n l h r a env so_far b.
        then_has (h a env (variable_root root env)) (λ p. r a env _ (below_more n so_far _ b l.is)))
    pass (CompositeInOut x at root selections subtype rest) = three (slot (VariableOf x)) (select selections) (pass rest) (λ n l h r a env so_far b.
        then_has (h a env (variable_root root env)) (λ p. then_has (reads_all a.limit a.cuts (VariableOf p.object) p.offset [] (Meaning.cells_of (ops a) a.limit program a.calls subtype)) (λ vs. r a env _ (below_more n so_far _ b l.is))))
    pass (CompositeOut x at root selections subtype rest) = three (slot (VariableOf x)) (select selections) (pass rest) (λ n l h r a env so_far b.
        then_has (h a env (variable_root root env)) (λ p. then_has (reads_all a.limit a.cuts (VariableOf p.object) p.offset [] (Meaning.cells_of (ops a) a.limit program a.calls subtype)) (λ vs. r a env _ (below_more n so_far _ b l.is))))

    cells : (v : Value) → Enough (Values v)
    cells (Number c e) = one (eval e) (λ n h a env. then_has (h a env) (λ v. then_has (checked a c v) (λ _. ret_has (v ∷ []) tt)))
    cells (Cells c) = one (composite c) (λ n h a env. h a env)

    composite : (c : Composite) → Enough (Composites c)
    composite (WholeVariable at r selections subtype) = one (select selections) (λ n h a env. then_has (h a env (variable_root r env)) (λ p. reads_all a.limit a.cuts (VariableOf p.object) p.offset [] (Meaning.cells_of (ops a) a.limit program a.calls subtype)))
    composite (WholeConstant at r selections subtype) = one (select selections) (λ n h a env. then_has (h a env (constant_root r env)) (λ p. reads_all a.limit a.cuts (ConstantOf p.object) p.offset [] (Meaning.cells_of (ops a) a.limit program a.calls subtype)))
    composite (WholeTarget at subtype) = none (λ n a env. reads_all a.limit a.cuts (VariableOf env.target.object) env.target.offset [] (Meaning.cells_of (ops a) a.limit program a.calls subtype))
    composite (CompositeIf condition value otherwise) = three (eval condition) (composite value) (composite otherwise) (λ n c h g a env. then_has (c a env) (λ x. choose (truth x) (h a env) (g a env)))
    composite (Aggregate at size associations) = one (associated associations) (λ n h a env. h a env (zeros size))

    associated : (x : Associations) → Enough (Associates x)
    associated NoAssociation = none (λ n a env so_far. ret_has so_far tt)
    associated (Association runs i mentions value rest) = two (cells value) (associated rest) (λ n h r a env so_far.
        then_has (all_runs a runs so_far (λ k. then_has (value_turns a (is_some i)) (λ _. h a (iterated_env i k env)))) (λ cs. r a env cs))

    iterate : (i : Iteration) → Enough (Iterates i)
    iterate (Range x reverse low high c filter) = three (eval low) (eval high) (optional filter) (λ n l h f. record {
      course = λ a env. then_has (l a env) (λ v. then_has (h a env) (λ w. then_has (bounds a c v w) (λ _. ret_has _ tt)));
      filtered = λ a env. f a env;
    })
    iterate (Components x constant at r selections number stride dimensions filter) = two (select selections) (optional filter) (λ n h f. record {
      course = λ a env. then_has (h a env (array_root constant r env)) (λ p. ret_has _ tt);
      filtered = λ a env. f a env;
    })

    chunks : (c : Chunk) → Enough (Chunks c)
    chunks NoChunk = none (λ n a env. ret_has _ tt)
    chunks (Count e) = one (eval e) (λ n h a env. then_has (h a env) (λ v. then_has (most a v) (λ m. ret_has _ tt)))
    chunks (Each x low high c) = two (eval low) (eval high) (λ n l h a env. then_has (l a env) (λ v. then_has (h a env) (λ w. then_has (bounds a c v w) (λ _.
        then_has (unless a.limit a.cuts (int_le v w) reason.ProgramError) (λ _. then_has (unless a.limit a.cuts (nat_le (count v w) most_threads) reason.StorageError) (λ _. ret_has _ tt))))))

  abbrev Writes : Pieces → ℕ → Type 1
  Writes p n = (a : Around n) (env : Env) (so_far : List ℕ) → Has n Any (Meaning.written (ops a) a.limit program a.calls p env so_far)

  written : (p : Pieces) → Enough (Writes p)
  written NoPiece = none (λ n a env so_far. ret_has so_far tt)
  written (Text bytes rest) = one (written rest) (λ n r a env so_far. r a env (so_far ++ bytes))
  written (Image class e rest) = two (eval e) (written rest) (λ n h r a env so_far. then_has (h a env) (λ v. r a env (so_far ++ image_of class v)))
  written (Padded class e width rest) = three (eval e) (eval width) (written rest) (λ n h g r a env so_far. then_has (h a env) (λ v. then_has (g a env) (λ w. r a env (so_far ++ padded v (to_nat w)))))

  abbrev Declares : Decls → ℕ → Type 1
  Declares d n = (A : Type 0) (a : Around n) (region : Region) (env : Env) (m : Stored A) → Has n Any m → Has n Any (Meaning.declared (ops a) a.limit program a.calls d region env m)

  declared : (d : Decls) → Enough (Declares d)
  declared NoDecl = none (λ n A a region env m h. h)
  declared (DeclareDefault x more) = two (slot (VariableOf x)) (declared more) (λ n l d A a region env m h. elaborates_has region (VariableOf x) (defaults (object_layout program x)) l.is (d A a region env m h))
  declared (DeclareVariable x initial more) = three (slot (VariableOf x)) (cells initial) (declared more) (λ n l v d A a region env m h. then_has (v a env) (λ cs. elaborates_has region (VariableOf x) cs l.is (d A a region env m h)))
  declared (DeclareConstant x initial more) = three (slot (ConstantOf x)) (cells initial) (declared more) (λ n l v d A a region env m h. then_has (v a env) (λ cs. elaborates_has region (ConstantOf x) cs l.is (d A a region env m h)))
  declared (Mentions es more) = one (declared more) (λ n d A a region env m h. d A a region env m h)

  module _ {n : ℕ} (a : Around n) where
    back_check : (c : Option Check) (vs : List ℤ) → Has n Any (Meaning.back_checked (ops a) a.limit program a.calls c vs)
    back_check None vs = ret_has tt tt
    back_check (Some c) [] = ret_has tt tt
    back_check (Some c) (v ∷ vs) = checked a c v

    copy_back : (b : Option Back) (vs : List ℤ) → Has n Any (Meaning.copied_back (ops a) a.limit program a.calls b vs)
    copy_back None vs = ret_has tt tt
    copy_back (Some b) vs = then_has (back_check b.check vs) (λ _. writes_all a b.part.object b.part.offset vs)

    copies_back : (ps : List Passed) (vss : List (List ℤ)) → Has n Any (Meaning.all_copied_back (ops a) a.limit program a.calls ps vss)
    copies_back [] vss = ret_has tt tt
    copies_back (p ∷ ps) [] = ret_has tt tt
    copies_back (p ∷ ps) (vs ∷ vss) = then_has (copy_back p.back vs) (λ _. copies_back ps vss)

  abbrev Threads : Optional → ℕ → Type 1
  Threads e n = (a : Around n) (env : Env) → Has n Any (Meaning.threads_of (ops a) a.limit program a.calls e env)

  threads : (e : Optional) → Enough (Threads e)
  threads Absent = none (λ n a env. ret_has most_threads tt)
  threads (Present e) = one (eval e) (λ n h a env. then_has (h a env) (λ v. most a v))

  abbrev Execs : Stmt → ℕ → Type 1
  Execs s n = (a : Around n) (env : Env) → Has n Any (Meaning.exec (ops a) a.limit program a.calls s env)

  abbrev ExecsAll : Stmts → ℕ → Type 1
  ExecsAll ss n = (a : Around n) (env : Env) → Has n Any (Meaning.exec_all (ops a) a.limit program a.calls ss env)

  abbrev ExecsChosen : Alternatives → ℕ → Type 1
  ExecsChosen x n = (a : Around n) (v : ℤ) (env : Env) → Has n Any (Meaning.exec_chosen (ops a) a.limit program a.calls x v env)

  abbrev ExecsArm : Arms → ℕ → Type 1
  ExecsArm x n = (a : Around n) (i : ℕ) (env : Env) → Has n Any (Meaning.exec_arm (ops a) a.limit program a.calls x i env)

  abbrev ExecsHandler : Handlers → ℕ → Type 1
  ExecsHandler hs n = (a : Around n) (r : Reason) (env : Env) → Has n Any (Meaning.exec_handler (ops a) a.limit program a.calls hs r env)

  mutual
    exec : (s : Stmt) → Enough (Execs s)
    exec Null = none (λ n a env. ret_has tt tt)
    exec (Assign at r selections value) = two (select selections) (cells value) (λ n p v a env. then_has (p a env (variable_root r env)) (λ q. then_has (v a (with_target q env)) (λ cs. writes_all a q.object q.offset cs)))
    exec (CallProcedure at callee s actuals) = one (pass actuals) (λ n p a env. bind_has (p a env [] tt) (λ passed b. then_has (a.sound env.nested s (Stored.ret tt) passed (ret_has tt tt) b) (λ r. copies_back a passed r.cells)))
    exec (Exit loop condition) = one (optional condition) (λ n h a env. then_has (h a env) (λ goes. choose goes (leaves_has (Exits loop)) (ret_has tt tt)))
    exec Return = none (λ n a env. leaves_has (Returns None))
    exec (ReturnValue value) = one (cells value) (λ n h a env. then_has (h a env) (λ cs. leaves_has (Returns (slice_get cs 0))))
    exec (Raise r) = none (λ n a env. leaves_has (Raises r))
    exec Reraise = none (λ n a env. leaves_has (Raises env.handled))
    exec (IfThen condition stmts otherwise) = three (eval condition) (exec_all stmts) (exec_all otherwise) (λ n c h g a env. then_has (c a env) (λ x. choose (truth x) (h a env) (g a env)))
    exec (Case e alternatives) = two (eval e) (exec_chosen alternatives) (λ n h g a env. then_has (h a env) (λ v. g a v env))
    exec (Loop number condition stmts) = two (optional condition) (exec_all stmts) (λ n c h a env. handles_has (exits number) (whiles a (suc a.limit) (c a env) (h a env)) (λ _. ret_has tt tt))
    exec (For number iteration stmts) = two (iterate iteration) (exec_all stmts) (λ n i h a env.
        then_has (i.course a env) (λ c. handles_has (exits number) (through_has 0 c.count tt (λ k _. iterates a (i.filtered a (c.bound k env)) (h a (c.bound k env)))) (λ _. ret_has tt tt)))
    exec (ParallelFor number site chunk iteration stmts) = three (chunks chunk) (iterate iteration) (exec_all stmts) (λ n k i h a env.
        then_has (opens a env) (λ _. then_has (k a (inside env)) (λ c. then_has (i.course a (inside env)) (λ d. then_has (unless a.limit a.cuts (nat_le d.count most_iterations) reason.StorageError) (λ _. handles_has (exits number)
        (loops_have a.limit a.cuts (Meaning.site_at site chunk iteration (cut_of c d.count) c d (inside env)) (cut_of c d.count) (λ j x.
        iterates a (i.filtered a (d.bound x (c.bound j (inside env)))) (h a (d.bound x (c.bound j (inside env)))))) (λ _. ret_has tt tt))))))
    exec (Parallel site number arms) = two (threads number) (exec_arm arms) (λ n t h a env.
        then_has (opens a env) (λ _. then_has (t a (inside env)) (λ m. loops_have a.limit a.cuts (Meaning.block_site site) (Sized (evens (arms_of arms) (min m (arms_of arms)))) (λ j i. h a i (inside env)))))
    exec (Block decls stmts handlers) = three (declared decls) (exec_all stmts) (exec_handler handlers) (λ n d h g a env. d (Unit {0}) a Here env _ (guards a handlers (h a env) (λ r. g a r env)))
    exec (Put at callee pieces line) = one (written pieces) (λ n h a env. then_has (h a env []) (λ bytes. puts_has (cond line (bytes ++ (10 ∷ [])) bytes)))
    exec (Get at callee first r selections scalar) = one (select selections) (λ n p a env.
        then_has (p a env (variable_root r env)) (λ q. then_has (gets a a.limit) (λ v. then_has (checks_has RangeCheck first (is_in scalar v)) (λ _. writes_has q.object q.offset v))))

    exec_all : (ss : Stmts) → Enough (ExecsAll ss)
    exec_all End = none (λ n a env. ret_has tt tt)
    exec_all (Then s ss) = two (exec s) (exec_all ss) (λ n h g a env. then_has (h a env) (λ _. g a env))

    exec_chosen : (x : Alternatives) → Enough (ExecsChosen x)
    exec_chosen NoAlternative = none (λ n a v env. leaves_has (Raises reason.ConstraintError))
    exec_chosen (Alternative others choices mentions stmts rest) = two (exec_all stmts) (exec_chosen rest) (λ n h g a v env. choose (others || is_chosen choices v) (h a env) (g a v env))

    exec_arm : (x : Arms) → Enough (ExecsArm x)
    exec_arm NoArm = none (λ n a i env. ret_has tt tt)
    exec_arm (Arm stmts rest) = two (exec_all stmts) (exec_arm rest) (λ n h g a i env. by_number h g a i env)
      where
        by_number : {n : ℕ} → ExecsAll stmts n → ExecsArm rest n → (a : Around n) (i : ℕ) (env : Env) → Has n Any (Meaning.exec_arm (ops a) a.limit program a.calls (Arm stmts rest) i env)
        by_number h g a zero env = h a env
        by_number h g a (suc i) env = g a i env

    exec_handler : (hs : Handlers) → Enough (ExecsHandler hs)
    exec_handler NoHandler = none (λ n a r env. leaves_has (Raises r))
    exec_handler (Handler handled stmts rest) = two (exec_all stmts) (exec_handler rest) (λ n h g a r env. choose (handles_reason handled r) (h a (with_handled r env)) (g a r env))

  abbrev Bodies : Body → ℕ → Type 1
  Bodies b n = (a : Around n) (region : Region) (env : Env) → Has n Any (Meaning.exec_body (ops a) a.limit program a.calls b region env)

  body : (b : Body) → Enough (Bodies b)
  body b = three (declared b.decls) (exec_all b.stmts) (exec_handler b.handlers) (λ n d h g a region env. d (Unit {0}) a region env _ (guards a b.handlers (h a env) (λ r. g a r env)))

  -- subprograms

  module _ {n : ℕ} (limit : ℕ) (cuts : ℕ → ℕ → List ℕ) where
    formals : {A : Type 0} (ps : List Passed) {m : Stored A} → Below n ps → Has n Any m → Has n Any (Meaning.with_formals (Stored.noted_operations limit cuts) limit program ps m)
    formals [] b h = h
    formals (p ∷ ps) b h = elaborates_has Here p.formal p.cells b.0 (formals ps b.1 h)

    cells_back : (x : Entity) (b : Option Back) → Has n Any (Meaning.cells_back (Stored.noted_operations limit cuts) limit program x b)
    cells_back x None = ret_has [] tt
    cells_back x (Some b) = reads_all limit cuts x 0 [] b.cells

    backs : (ps : List Passed) (so_far : List (List ℤ)) → Has n Any (Meaning.back_cells (Stored.noted_operations limit cuts) limit program ps so_far)
    backs [] so_far = ret_has so_far tt
    backs (p ∷ ps) so_far = then_has (cells_back p.formal p.back) (λ vs. backs ps (so_far ++ (vs ∷ [])))

    ended : (result : Option Scalar) → Has n Any (Meaning.ended (Stored.noted_operations limit cuts) limit program result)
    ended None = ret_has (pos 0) tt
    ended (Some s) = leaves_has (Raises reason.ProgramError)

  -- the bodies of all subprograms
  abbrev AllBodies : List Sub → ℕ → Type 1
  AllBodies [] n = Unit {1}
  AllBodies (sub ∷ subs) n = Bodies sub.body n × AllBodies subs n

  bodies : (subs : List Sub) → Enough (AllBodies subs)
  bodies [] = none (λ n. tt)
  bodies (sub ∷ subs) = two (body sub.body) (bodies subs) (λ n h g. (h, g))

  abbrev OneBody : Option Sub → ℕ → Type 1
  OneBody None n = Unit {1}
  OneBody (Some sub) n = Bodies sub.body n

  found : (n : ℕ) (subs : List Sub) (s : ℕ) → AllBodies subs n → OneBody (sub_at subs s) n
  found n [] s k = tt
  found n (sub ∷ subs) zero k = k.0
  found n (sub ∷ subs) (suc s) k = found n subs s k.1

  module _ {n : ℕ} (limit : ℕ) (cuts : ℕ → ℕ → List ℕ) (all : AllBodies program.subs n) where
    sub_has : (calls : CallsOf) → Sound n calls → (callee : Option Sub) → OneBody callee n → (nested : ℕ) (passed : List Passed) → Below n passed → Has n Any (Meaning.exec_sub (Stored.noted_operations limit cuts) limit program calls callee nested passed)
    sub_has calls sound None k nested passed b = leaves_has (Raises reason.ProgramError)
    sub_has calls sound (Some sub) k nested passed b =
        apart_has (formals limit cuts passed b (then_has (handles_has returns
        (then_has (k (record { limit = limit; cuts = cuts; calls = calls; sound = sound }) Here (outset nested)) (λ _. ended limit cuts sub.result))
        (λ how. ret_has (value_of how) tt)) (λ v. then_has (backs limit cuts passed []) (λ vss. ret_has _ tt))))

    calls_have : (depth : ℕ) → Sound n (Meaning.call (Stored.noted_operations limit cuts) limit program depth)
    calls_have zero nested s before passed h b = then_has (turned limit cuts) (λ _. leaves_has (Raises reason.StorageError))
    calls_have (suc depth) nested s before passed h b =
        then_has (turned limit cuts) (λ _. then_has h (λ _. sub_has (Meaning.call (Stored.noted_operations limit cuts) limit program depth) (calls_have depth) (sub_at program.subs s) (found n program.subs s all) nested passed b))

  -- the whole program
  record Roomy (n : ℕ) : Type 1 where
    pub has : (limit : ℕ) (cuts : ℕ → ℕ → List ℕ) → Has n Any (Meaning.main (Stored.noted_operations limit cuts) limit program)

  main : Enough Roomy
  main = two (body program.body) (bodies program.subs) (λ n h all. record {
    has = λ limit cuts. handles_has (λ how. not (raises how))
        (h (record { limit = limit; cuts = cuts; calls = Meaning.call (Stored.noted_operations limit cuts) limit program most_calls; sound = calls_have limit cuts all most_calls }) Everywhere (outset 0)) (λ _. ret_has tt tt);
  })

pub room_law : RoomLaw
room_law program = (slots, λ set input before notes e. subst (λ (r : Result (Unit {0}) Cause). Ends Any r) e ((h set.limit (cuts_of set.plan)).fits (noted_outset slots input before notes) (long, long)).1)
  where
    slots : ℕ
    slots = (main program).0

    h : (limit : ℕ) (cuts : ℕ → ℕ → List ℕ) → Has slots Any (Meaning.main (Stored.noted_operations limit cuts) limit program)
    h = ((main program).1 slots (omega arith)).has

    long : slots ≤ length (replicate slots no_slot)
    long = subst (λ z. slots ≤ z) (sym (length-replicate slots no_slot)) (omega arith)
