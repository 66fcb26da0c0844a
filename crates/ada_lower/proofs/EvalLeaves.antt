-- Expressions are left by raises only.
use Rattle.std.proofs.Common.{◌≡◌, ℕ, zero, suc, ◌+◌, ℤ, List, [], ◌∷◌, ◌++◌, Option, Some, None, is_some, Result, Ok, Err, Bool, true, false, cond, subst}
use Rattle.ada_base.specs.Input.{Held}
use Rattle.ada_base.specs.declared.operation.Op.{Op}
use Rattle.ada_base.specs.declared.reason.Reason.{Reason}
use Rattle.ada_base.specs.declared.reason.Reason.TheVariants as reason
use Rattle.behaviours.specs.Doings.{through, onto, folded}
use Rattle.behaviours.specs.Joins.{Site, Share}
use Rattle.behaviours.specs.Paths.{Leave, Exits, Returns, Raises, Entity, VariableOf, Region}
use Rattle.typed_tree.specs.declared.scalars.Check.{Check}
use Rattle.typed_tree.specs.declared.scalars.Class.{Class}
use Rattle.typed_tree.specs.declared.scalars.Scalar.{Scalar}
use Rattle.typed_tree.specs.declared.expressions.Reducer.{Reducer}
use Rattle.typed_tree.specs.declared.expressions.Reducer.TheVariants.{Operator, Function}
use Rattle.typed_tree.specs.declared.expressions.Run.{Run}
use Rattle.typed_tree.specs.declared.expressions.Sign.{Sign}
use Rattle.typed_tree.specs.declared.expressions.Sign.TheVariants as sign
use Rattle.typed_tree.specs.Syntax.{Expr, Static, Variable, Constant, Parameter, Target, Group, Unary, Binary, AndThen, OrElse, Relation, Membership, If, Call, Convert, Reduction, Optional, Absent, Present, Selections, Whole, Field, Index, Actuals, NoActual, In, InOut, Out, CompositeInOut, CompositeOut, Value, Number, Cells, Composite, WholeVariable, WholeConstant, WholeTarget, CompositeIf, Aggregate, Associations, NoAssociation, Association, Iteration, Range, Components, Chunk, NoChunk, Count, Each, Program}
use Rattle.ada_meaning.specs.Values.{is_modular}
use Rattle.ada_meaning.specs.Operations.{CheckKind, RangeCheck, IndexCheck, OverflowCheck, ZeroCheck, Operations, operate, reduce}
use Rattle.ada_meaning.specs.Stored as stored
use Rattle.ada_meaning.specs.Stored.{Stored, Cause, Left, OutOfTurns, NoRoom, CutOff, Misnoted, Address}
use Rattle.ada_meaning.specs.Meaning
use Rattle.ada_meaning.specs.Meaning.{Env, ObjectPart, Passed, Returned, inside}
use Rattle.ada_lower.proofs.ForkLeaves.{only_ret, only_leaves, only_bind, only_look, only_turn, only_handles}
use Rattle.ada_lower.proofs.JoinLeaves.{only_noted}

ok_left : {A : Type 0} {a : A} {l : Leave} → ◌≡◌ {A = Result A Cause} (Ok a) (Err (Left l)) → ⊥
ok_left e = cc

pub leave_is : {A : Type 0} {w l : Leave} → ◌≡◌ {A = Result A Cause} (Err (Left w)) (Err (Left l)) → w ≡ l
leave_is e = cc

-- by what a part may be left
pub record Closed (may : Leave → Type 0) {A : Type 0} (m : Stored A) : Type 0 where
  pub by : (s : stored.State) (l : Leave) → (m.does s).end ≡ Err (Left l) → may l

pub closed_weak : {may may' : Leave → Type 0} {A : Type 0} {m : Stored A} → ((l : Leave) → may l → may' l) → Closed may m → Closed may' m
closed_weak h k = record { by = λ s l e. h l (k.by s l e) }

-- raises alone
abbrev pub Raised : Leave → Type 0
Raised (Exits n) = ⊥
Raised (Returns v) = ⊥
Raised (Raises r) = Unit {0}

pub c_handles : (may may' : Leave → Type 0) {A : Type 0} (m : Stored A) (takes : Leave → Bool) (h : Leave → Stored A) → Closed may' m → ((w : Leave) → takes w ≡ true → Closed may (h w)) → ((w : Leave) → takes w ≡ false → may' w → may w) → Closed may (stored.handles m takes h)
c_handles may may' m takes h hm hh past = record { by = only_handles may may' m takes h hm.by (λ w e. (hh w e).by) past }

module _ (may : Leave → Type 0) where
  pub c_ret : {A : Type 0} (a : A) → Closed may (stored.ret a)
  c_ret a = record { by = only_ret may a }

  pub c_leaves : {A : Type 0} (w : Leave) → may w → Closed may (stored.leaves {A = A} w)
  c_leaves w m = record { by = only_leaves may w m }

  pub c_bind : {A B : Type 0} {m : Stored A} {k : A → Stored B} → Closed may m → ((a : A) → Closed may (k a)) → Closed may (stored.bind m k)
  c_bind {A} {B} {m} {k} hm hk = record { by = only_bind may m k hm.by (λ a. (hk a).by) }

  pub c_cond : {A : Type 0} (b : Bool) {m n : Stored A} → Closed may m → Closed may n → Closed may (cond b m n)
  c_cond true hm hn = hm
  c_cond false hm hn = hn

  pub c_look : Closed may stored.look
  c_look = record { by = only_look may }

  pub c_turn : (limit : ℕ) → Closed may (stored.turn limit)
  c_turn limit = record { by = only_turn may limit }

  pub c_through : {A : Type 0} (f : ℕ → A → Stored A) → ((i : ℕ) (a : A) → Closed may (f i a)) → (first size : ℕ) (a : A) → Closed may (through stored.doings first size a f)
  c_through f h first zero a = c_ret a
  c_through f h first (suc size) a = c_bind (h first a) (λ b. c_through f h (suc first) size b)

  pub c_spent : {A : Type 0} → Closed may (stored.spent {A = A})
  unfolding stored.spent
  c_spent {A} = record { by = λ s l e. absurd (let z : ◌≡◌ {A = Result A Cause} (Err OutOfTurns) (Err (Left l)) = e in cc) }

  pub c_puts : (piece : List ℕ) → Closed may (stored.puts piece)
  unfolding stored.puts
  c_puts piece = record { by = λ s l e. absurd (ok_left e) }

  pub c_recalls : Closed may stored.recalls
  unfolding stored.recalls
  c_recalls = record { by = λ s l e. absurd (ok_left e) }

  pub c_keeps : (h : Held) → Closed may (stored.keeps h)
  unfolding stored.keeps
  c_keeps h = record { by = λ s l e. absurd (ok_left e) }

  pub c_takes : Closed may stored.takes
  unfolding stored.takes
  c_takes = record { by = λ s l e. go s s.input l e }
    where
      go : (s : stored.State) (bs : List ℕ) (l : Leave) → (stored.taken_from s bs).end ≡ Err (Left l) → may l
      go s [] l e = absurd (ok_left e)
      go s (b ∷ rest) l e = absurd (ok_left e)

  pub c_elaborates : {A : Type 0} (region : Region) (y : Entity) (vs : List ℤ) {m : Stored A} → Closed may m → Closed may (stored.elaborates region y vs m)
  unfolding stored.elaborates
  c_elaborates {A} region y vs {m} h = record { by = λ s l e. go s (stored.has_room region y s) l e }
    where
      go : (s : stored.State) (b : Bool) (l : Leave) → (let r = m.does (stored.begun region y vs s) in cond b (stored.at (stored.ended region y s r.state) r.end) (stored.at s (Err NoRoom))).end ≡ Err (Left l) → may l
      go s true l e = h.by _ l e
      go s false l e = absurd (let z : ◌≡◌ {A = Result A Cause} (Err NoRoom) (Err (Left l)) = e in cc)

  pub c_apart : {A : Type 0} {m : Stored A} → Closed may m → Closed may (stored.apart m)
  unfolding stored.apart
  c_apart h = record { by = λ s l e. h.by _ l e }

  pub c_noted : {A B : Type 0} (team : Site) (f : B → A → B) (body : Share → Stored A) → ((j : Share) → Closed may (body j)) → (b : B) (js : List Share) → Closed may (stored.noted_team team f b js body)
  unfolding stored.noted_team
  c_noted team f body h b js = record { by = only_noted may f (λ j. stored.visited j (body j)) (λ j. (h j).by) b js }

  module _ (raises : (r : Reason) → may (Raises r)) where
    pub c_raise : {A : Type 0} (r : Reason) → Closed may (stored.leaves {A = A} (Raises r))
    c_raise r = c_leaves (Raises r) (raises r)

    pub c_reads : (y : Entity) (i : ℕ) → Closed may (stored.reads y i)
    unfolding stored.reads
    c_reads y i = record { by = λ s l e. go s (stored.place_of s y i) l e }
      where
        value : (s : stored.State) (o : Option ℤ) (l : Leave) → (stored.value_read s o).end ≡ Err (Left l) → may l
        value s None l e = subst may (leave_is e) (raises reason.ProgramError)
        value s (Some v) l e = absurd (ok_left e)

        go : (s : stored.State) (p : Option Address) (l : Leave) → (stored.read_at s p).end ≡ Err (Left l) → may l
        go s None l e = value s None l e
        go s (Some a) l e = value s (stored.cell_at s a) l e

    pub c_writes : (y i : ℕ) (v : ℤ) → Closed may (stored.writes y i v)
    unfolding stored.writes
    c_writes y i v = record { by = λ s l e. go s (stored.place_of s (VariableOf y) i) l e }
      where
        go : (s : stored.State) (p : Option Address) (l : Leave) → (stored.written_at s p v).end ≡ Err (Left l) → may l
        go s None l e = subst may (leave_is e) (raises reason.ProgramError)
        go s (Some a) l e = absurd (ok_left e)

    pub c_checks : (k : CheckKind) (token : ℕ) (b : Bool) → Closed may (stored.checks k token b)
    c_checks k token true = c_ret tt
    c_checks k token false = c_raise reason.ConstraintError

    pub c_folded : (f : ℤ → ℤ → Stored ℤ) → ((a b : ℤ) → Closed may (f a b)) → (a : ℤ) (o : Option ℤ) → Closed may (folded stored.doings f a o)
    c_folded f h a None = c_ret a
    c_folded f h a (Some v) = h a v

    pub c_onto : (f : ℤ → ℤ → Stored ℤ) → ((a b : ℤ) → Closed may (f a b)) → (a : ℤ) (bs : List ℤ) → Closed may (onto stored.doings a bs f)
    c_onto f h a [] = c_ret a
    c_onto f h a (b ∷ bs) = c_bind (h a b) (λ z. c_onto f h z bs)

    pub c_operate : (op : Op) (at : ℕ) (class : Class) (a b : ℤ) → Closed may (operate stored.doings stored.checks op at class a b)
    c_operate op at class a b = c_bind (c_cond _ (c_checks ZeroCheck at _) (c_ret tt)) (λ _. c_bind (c_cond _ (c_checks OverflowCheck at _) (c_ret tt)) (λ _. c_ret _))

    pub c_reduce : (by : Reducer) (at : ℕ) (call : ℤ → ℤ → Stored ℤ) → ((a b : ℤ) → Closed may (call a b)) → (a b : ℤ) → Closed may (reduce stored.doings stored.checks by at call a b)
    c_reduce (Operator token op class) at call h a b = c_operate op at class a b
    c_reduce (Function token sub accumulator value) at call h a b = h a b

    module _ (limit : ℕ) (cuts : ℕ → ℕ → List ℕ) where
      abbrev ops : Operations {1}
      ops = stored.noted_operations limit cuts

      pub c_turned : Closed may (Meaning.turned ops)
      c_turned = c_bind c_look (λ _. c_turn limit)

      pub c_read_all : (y : Entity) (i : ℕ) (so_far : List ℤ) (ss : List Scalar) → Closed may (Meaning.read_all ops y i so_far ss)
      c_read_all y i so_far [] = c_ret so_far
      c_read_all y i so_far (z ∷ zs) = c_bind (c_reads y i) (λ v. c_read_all y (i + 1) (so_far ++ (v ∷ [])) zs)

      pub c_write_all : (y i : ℕ) (vs : List ℤ) → Closed may (Meaning.write_all ops y i vs)
      c_write_all y i [] = c_ret tt
      c_write_all y i (v ∷ vs) = c_bind (c_writes y i v) (λ _. c_write_all y (i + 1) vs)

      pub c_checked : (k : Check) (v : ℤ) → Closed may (Meaning.checked ops k v)
      c_checked k v = c_checks RangeCheck k.at _

      c_bounds : (k : Option Check) (l h : ℤ) → Closed may (Meaning.bounds_checked ops k l h)
      c_bounds None l h = c_ret tt
      c_bounds (Some k) l h = c_cond _ (c_checks RangeCheck k.at _) (c_ret tt)

      pub c_unless : (b : Bool) (r : Reason) → Closed may (Meaning.unless ops b r)
      c_unless b r = c_cond b (c_ret tt) (c_raise r)

      pub c_opened : (env : Env) → Closed may (Meaning.opened ops env)
      c_opened env = c_bind c_look (λ _. c_unless _ _)

      pub c_most : (v : ℤ) → Closed may (Meaning.most_of ops v)
      c_most v = c_bind (c_unless _ _) (λ _. c_ret _)

      c_sign : (z : Sign) (at : ℕ) (class : Class) (v : ℤ) → Closed may (Meaning.sign_checked ops z at class v)
      c_sign sign.Minus at class v = c_checks OverflowCheck at _
      c_sign sign.Abs at class v = c_checks OverflowCheck at _
      c_sign sign.Not at class v = c_ret tt

      c_unary : (z : Sign) (at : ℕ) (class : Class) (v : ℤ) → Closed may (Meaning.unary_checked ops z at class v)
      c_unary z at class v = go (is_modular class)
        where
          go : (b : Bool) → Closed may (cond b (stored.ret tt) (Meaning.sign_checked ops z at class v))
          go true = c_ret tt
          go false = c_sign z at class v

      c_run : (k n first stride : ℕ) (value : ℕ → Stored (List ℤ)) (so_far : List ℤ) → ((k : ℕ) → Closed may (value k)) → Closed may (Meaning.run_values ops k n first stride value so_far)
      c_run k zero first stride value so_far h = c_ret so_far
      c_run k (suc n) first stride value so_far h = c_bind (h k) (λ cs. c_run (k + 1) n (first + stride) stride value _ h)

      c_runs : (rs : List Run) (value : ℕ → Stored (List ℤ)) (so_far : List ℤ) → ((k : ℕ) → Closed may (value k)) → Closed may (Meaning.runs_values ops rs value so_far)
      c_runs [] value so_far h = c_ret so_far
      c_runs (r ∷ rs) value so_far h = c_bind (c_run 0 r.count r.first r.stride value so_far h) (λ cs. c_runs rs value cs h)

      c_value_turn : (turns : Bool) → Closed may (Meaning.value_turn ops turns)
      c_value_turn true = c_turned
      c_value_turn false = c_ret tt

      pub c_while : (n : ℕ) (test : Stored Bool) (body : Stored (Unit {0})) → Closed may test → Closed may body → Closed may (Meaning.while_loop ops n test body)
      c_while zero test body ht hb = c_spent
      c_while (suc n) test body ht hb = c_bind ht (λ b. c_cond b (c_bind c_turned (λ _. c_bind hb (λ _. c_while n test body ht hb))) (c_ret tt))

      pub c_iterate : (test : Stored Bool) (body : Stored (Unit {0})) → Closed may test → Closed may body → Closed may (Meaning.iterate ops test body)
      c_iterate test body ht hb = c_bind c_turned (λ _. c_bind ht (λ b. c_cond b hb (c_ret tt)))

      pub c_iterate_value : (test : Stored Bool) (value : Stored ℤ) → Closed may test → Closed may value → Closed may (Meaning.iterate_value ops test value)
      c_iterate_value test value ht hv = c_bind c_turned (λ _. c_bind ht (λ b. c_cond b (c_bind hv (λ v. c_ret _)) (c_ret None)))

      module _ (program : Program) (calls : ℕ → ℕ → Stored (Unit {0}) → List Passed → Stored Returned) (calls_only : (n s : ℕ) (before : Stored (Unit {0})) (passed : List Passed) → Closed may before → Closed may (calls n s before passed)) where
        pub c_fold_call : (by : Reducer) (n : ℕ) (a b : ℤ) → Closed may (Meaning.fold_call ops limit program calls by n a b)
        c_fold_call (Operator at op class) n a b = c_ret a
        c_fold_call (Function at s accumulator value) n a b = c_bind (c_bind (c_checks RangeCheck at _) (λ _. c_checks RangeCheck at _)) (λ _. c_bind (calls_only n s (stored.ret tt) _ (c_ret tt)) (λ r. c_ret _))

        c_combine_call : (by : Reducer) (n : ℕ) (a b : ℤ) → Closed may (Meaning.combine_call ops limit program calls by n a b)
        c_combine_call (Operator at op class) n a b = c_ret a
        c_combine_call (Function at s accumulator value) n a b = c_bind (calls_only n s _ _ (c_bind (c_checks RangeCheck at _) (λ _. c_checks RangeCheck at _))) (λ r. c_ret _)

        c_combined : (initial : ℤ) (vs : List ℤ) (f : ℤ → ℤ → Stored ℤ) → ((a b : ℤ) → Closed may (f a b)) → Closed may (stored.combined limit cuts initial vs f)
        c_combined initial [] f h = c_ret initial
        c_combined initial (a ∷ more) f h = c_onto f h a more

        mutual
          pub c_eval : (e : Expr) (env : Env) → Closed may (Meaning.eval ops limit program calls e env)
          c_eval (Static at value literal mentions) env = c_ret value
          c_eval (Variable at r selections scalar) env = c_bind (c_select selections env _) (λ p. c_reads _ _)
          c_eval (Constant at r selections scalar) env = c_bind (c_select selections env _) (λ p. c_reads _ _)
          c_eval (Parameter at k) env = c_ret _
          c_eval (Target at scalar) env = c_reads _ _
          c_eval (Group e) env = c_eval e env
          c_eval (Unary at z class e) env = c_bind (c_eval e env) (λ v. c_bind (c_unary z at class _) (λ _. c_ret _))
          c_eval (Binary at op class e f) env = c_bind (c_eval e env) (λ v. c_bind (c_eval f env) (λ w. c_operate op at class v w))
          c_eval (AndThen e f) env = c_bind (c_eval e env) (λ v. c_cond _ (c_eval f env) (c_ret _))
          c_eval (OrElse e f) env = c_bind (c_eval e env) (λ v. c_cond _ (c_ret _) (c_eval f env))
          c_eval (Relation class comparison e f) env = c_bind (c_eval e env) (λ v. c_bind (c_eval f env) (λ w. c_ret _))
          c_eval (Membership class negated e low high) env = c_bind (c_eval e env) (λ v. c_bind (c_eval low env) (λ l. c_bind (c_eval high env) (λ h. c_ret _)))
          c_eval (If condition value otherwise) env = c_bind (c_eval condition env) (λ v. c_cond _ (c_eval value env) (c_eval otherwise env))
          c_eval (Call at callee s actuals) env = c_bind (c_pass actuals env []) (λ passed. c_bind (calls_only env.nested s (stored.ret tt) passed (c_ret tt)) (λ r. c_ret _))
          c_eval (Convert check e) env = c_bind (c_eval e env) (λ v. c_bind (c_checked check v) (λ _. c_ret v))
          c_eval (Reduction at attribute by initial None chunk iteration value) env =
              c_bind (c_eval initial env) (λ start. c_bind (c_course iteration env) (λ k.
              c_through _ (λ i so_far. c_bind (c_iterate_value _ _ (c_filtered iteration (k.bound i env)) (c_eval value (k.bound i env))) (λ v. c_folded _ (c_reduce by attribute _ (c_fold_call by env.nested)) so_far v)) 0 k.count start))
          c_eval (Reduction at attribute by initial (Some site) chunk iteration value) env =
              c_bind (c_eval initial env) (λ start. c_bind (c_opened env) (λ _. c_bind (c_chunking chunk (inside env)) (λ j. c_bind (c_course iteration (inside env)) (λ k. c_bind (c_unless _ _) (λ _.
              c_bind (c_noted _ _ _ (λ share. c_through _ (λ i so_far. c_bind (c_iterate_value _ _ (c_filtered iteration _) (c_eval value _)) (λ v. c_folded _ (c_reduce by attribute _ (c_fold_call by (suc env.nested))) so_far v)) share.first share.size start) [] _)
              (λ vs. c_combined start vs _ (c_reduce by attribute _ (c_combine_call by env.nested))))))))

          pub c_holds : (o : Optional) (env : Env) → Closed may (Meaning.holds ops limit program calls o env)
          c_holds Absent env = c_ret true
          c_holds (Present e) env = c_bind (c_eval e env) (λ v. c_ret _)

          pub c_select : (z : Selections) (env : Env) (p : ObjectPart) → Closed may (Meaning.select ops limit program calls z env p)
          c_select Whole env p = c_ret p
          c_select (Field number offset rest) env p = c_select rest env _
          c_select (Index at e low high stride rest) env p = c_bind (c_eval e env) (λ i. c_bind (c_checks IndexCheck at _) (λ _. c_select rest env _))

          pub c_pass : (as' : Actuals) (env : Env) (so_far : List Passed) → Closed may (Meaning.pass ops limit program calls as' env so_far)
          c_pass NoActual env so_far = c_ret so_far
          c_pass (In formal value rest) env so_far = c_bind (c_cells value env) (λ cs. c_pass rest env _)
          c_pass (InOut formal at r selections inner outer rest) env so_far = c_bind (c_select selections env _) (λ p. c_bind (c_reads _ _) (λ v. c_bind (c_checks RangeCheck at _) (λ _. c_pass rest env _)))
          c_pass (Out formal at r selections inner outer rest) env so_far = c_bind (c_select selections env _) (λ p. c_pass rest env _)
          c_pass (CompositeInOut formal at r selections subtype rest) env so_far = c_bind (c_select selections env _) (λ p. c_bind (c_read_all _ _ _ _) (λ vs. c_pass rest env _))
          c_pass (CompositeOut formal at r selections subtype rest) env so_far = c_bind (c_select selections env _) (λ p. c_bind (c_read_all _ _ _ _) (λ vs. c_pass rest env _))

          pub c_cells : (v : Value) (env : Env) → Closed may (Meaning.cells ops limit program calls v env)
          c_cells (Number check e) env = c_bind (c_eval e env) (λ v. c_bind (c_checked check v) (λ _. c_ret _))
          c_cells (Cells value) env = c_composite value env

          c_composite : (v : Composite) (env : Env) → Closed may (Meaning.composite ops limit program calls v env)
          c_composite (WholeVariable at r selections subtype) env = c_bind (c_select selections env _) (λ p. c_read_all _ _ _ _)
          c_composite (WholeConstant at r selections subtype) env = c_bind (c_select selections env _) (λ p. c_read_all _ _ _ _)
          c_composite (WholeTarget at subtype) env = c_read_all _ _ _ _
          c_composite (CompositeIf condition value otherwise) env = c_bind (c_eval condition env) (λ v. c_cond _ (c_composite value env) (c_composite otherwise env))
          c_composite (Aggregate at size associations) env = c_associated associations env _

          c_associated : (as' : Associations) (env : Env) (so_far : List ℤ) → Closed may (Meaning.associated ops limit program calls as' env so_far)
          c_associated NoAssociation env so_far = c_ret so_far
          c_associated (Association runs iterated mentions value rest) env so_far = c_bind (c_runs runs _ so_far (λ k. c_bind (c_value_turn (is_some iterated)) (λ _. c_cells value _))) (λ cs. c_associated rest env cs)

          pub c_course : (it : Iteration) (env : Env) → Closed may (Meaning.course ops limit program calls it env)
          c_course (Range k reverse low high check filter) env = c_bind (c_eval low env) (λ l. c_bind (c_eval high env) (λ h. c_bind (c_bounds check l h) (λ _. c_ret _)))
          c_course (Components k constant at r selections number stride dimensions filter) env = c_bind (c_select selections env _) (λ p. c_ret _)

          pub c_filtered : (it : Iteration) (env : Env) → Closed may (Meaning.filtered ops limit program calls it env)
          c_filtered (Range k reverse low high check filter) env = c_holds filter env
          c_filtered (Components k constant at r selections number stride dimensions filter) env = c_holds filter env

          pub c_chunking : (chunk : Chunk) (env : Env) → Closed may (Meaning.chunking ops limit program calls chunk env)
          c_chunking NoChunk env = c_ret _
          c_chunking (Count e) env = c_bind (c_eval e env) (λ v. c_bind (c_most v) (λ n. c_ret _))
          c_chunking (Each k low high check) env = c_bind (c_eval low env) (λ l. c_bind (c_eval high env) (λ h. c_bind (c_bounds check l h) (λ _. c_bind (c_unless _ _) (λ _. c_bind (c_unless _ _) (λ _. c_ret _)))))
