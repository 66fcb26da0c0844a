-- Values that are the same each time, and do nothing.
use Rattle.std.proofs.Common.{◌≡◌, ℕ, zero, suc, ◌+◌, ℤ, List, [], ◌∷◌, ◌++◌, length, Option, Some, None, Result, Ok, Err, Bool, true, false, ◌&&◌, refl, sym, ap, ◌∙◌, subst, arith}
use Rattle.behaviours.specs.Paths.{Leave, Entity}
use Rattle.typed_tree.specs.declared.scalars.Scalar.{Scalar}
use Rattle.typed_tree.specs.declared.expressions.Run.{Run}
use Rattle.typed_tree.specs.Syntax.{Expr, Static, Variable, Constant, Parameter, Target, Group, Unary, Binary, AndThen, OrElse, Relation, Membership, If, Call, Convert, Reduction, Selections, Whole, Field, Index, Value, Number, Cells, Composite, WholeVariable, WholeConstant, WholeTarget, CompositeIf, Aggregate, Associations, NoAssociation, Association, Program}
use Rattle.ada_meaning.specs.Operations.{CheckKind, RangeCheck, Operations}
use Rattle.ada_meaning.specs.Values
use Rattle.ada_meaning.specs.Stored as stored
use Rattle.ada_meaning.specs.Stored.{Stored, Cause, Address, Touch}
use Rattle.ada_meaning.specs.Meaning
use Rattle.ada_meaning.specs.Meaning.{Env, ObjectPart, Passed, Returned}
use Rattle.stack_code.specs.declared.code.Code.{Code}
use Rattle.ada_lower.specs.Driven.{Dyn, Fixed, Step}
use Rattle.typed_tree.specs.Statics.{is_whole}
use Rattle.lower_emission.specs.Repeats.{is_plain_expr, is_plain, is_plain_composite, are_plain}
use Rattle.ada_lower.specs.Fits.{Ghost, Ends, Lands, Asks}
use Rattle.ada_lower.proofs.Framework.{Doing, does_assoc, asks_split, asks_join, none_sound}
use Rattle.ada_lower.proofs.Operands.{laid_nil}
use Rattle.ada_lower.proofs.Doubled.{many, laid_append}

-- ---- parts that leave the state as it was

pub record Steady {A : Type 0} (m : Stored A) : Type 0 where
  pub by : (s : stored.State) → (m.does s).state ≡ s

s_ret : {A : Type 0} (a : A) → Steady (stored.ret a)
unfolding stored.ret
s_ret a = record { by = λ s. refl }

s_leaves : {A : Type 0} (l : Leave) → Steady (stored.leaves {A = A} l)
unfolding stored.leaves
s_leaves l = record { by = λ s. refl }

s_bind : {A B : Type 0} {m : Stored A} {k : A → Stored B} → Steady m → ((a : A) → Steady (k a)) → Steady (stored.bind m k)
unfolding stored.bind
s_bind {A} {B} {m} {k} hm hk = record { by = λ s. go s (m.does s).state (m.does s).end (hm.by s) }
  where
    go : (s t : stored.State) (e : Result A Cause) → t ≡ s → (stored.next t e k).state ≡ s
    go s t (Ok a) is = (hk a).by t ∙ is
    go s t (Err z) is = is

s_reads : (y : Entity) (i : ℕ) → Steady (stored.reads y i)
unfolding stored.reads
s_reads y i = record { by = λ s. go s (stored.place_of s y i) }
  where
    value : (s : stored.State) (o : Option ℤ) → (stored.value_read s o).state ≡ s
    value s None = refl
    value s (Some v) = refl

    go : (s : stored.State) (p : Option Address) → (stored.read_at s p).state ≡ s
    go s None = refl
    go s (Some a) = value s (stored.cell_at s a)

s_checks : (k : CheckKind) (token : ℕ) (b : Bool) → Steady (stored.checks k token b)
s_checks k token true = s_ret tt
s_checks k token false = s_leaves _

pub both : (a b : Bool) → (a && b) ≡ true → (a ≡ true) × (b ≡ true)
both true b e = (refl, e)
both false b e = absurd (let z : false ≡ true = e in cc)

module _ (limit : ℕ) (cuts : ℕ → ℕ → List ℕ) where
  abbrev ops : Operations {1}
  ops = stored.noted_operations limit cuts

  s_read_all : (y : Entity) (i : ℕ) (so_far : List ℤ) (ss : List Scalar) → Steady (Meaning.read_all ops y i so_far ss)
  s_read_all y i so_far [] = s_ret so_far
  s_read_all y i so_far (z ∷ zs) = s_bind (s_reads y i) (λ v. s_read_all y (i + 1) (so_far ++ (v ∷ [])) zs)

  s_run : (k n first stride : ℕ) (value : ℕ → Stored (List ℤ)) (so_far : List ℤ) → ((k : ℕ) → Steady (value k)) → Steady (Meaning.run_values ops k n first stride value so_far)
  s_run k zero first stride value so_far h = s_ret so_far
  s_run k (suc n) first stride value so_far h = s_bind (h k) (λ cs. s_run (k + 1) n (first + stride) stride value _ h)

  s_runs : (rs : List Run) (value : ℕ → Stored (List ℤ)) (so_far : List ℤ) → ((k : ℕ) → Steady (value k)) → Steady (Meaning.runs_values ops rs value so_far)
  s_runs [] value so_far h = s_ret so_far
  s_runs (r ∷ rs) value so_far h = s_bind (s_run 0 r.count r.first r.stride value so_far h) (λ cs. s_runs rs value cs h)

  module _ (program : Program) (calls : ℕ → ℕ → Stored (Unit {0}) → List Passed → Stored Returned) where
    -- a whole object is where it is
    s_select : (z : Selections) → is_whole z ≡ true → (env : Env) (p : ObjectPart) → Steady (Meaning.select ops limit program calls z env p)
    s_select Whole e env p = s_ret p
    s_select (Field number offset rest) e env p = absurd (let z : false ≡ true = e in cc)
    s_select (Index at e' low high stride rest) e env p = absurd (let z : false ≡ true = e in cc)

    s_eval : (e : Expr) → is_plain_expr e ≡ true → (env : Env) → Steady (Meaning.eval ops limit program calls e env)
    s_eval (Static at value literal mentions) p env = s_ret value
    s_eval (Variable at r selections scalar) p env = s_bind (s_select selections p env _) (λ q. s_reads _ _)
    s_eval (Constant at r selections scalar) p env = s_bind (s_select selections p env _) (λ q. s_reads _ _)
    s_eval (Parameter at k) p env = s_ret _
    s_eval (Target at scalar) p env = s_reads _ _
    s_eval (Group e) p env = absurd (let z : false ≡ true = p in cc)
    s_eval (Unary at z class e) p env = absurd (let z : false ≡ true = p in cc)
    s_eval (Binary at op class e f) p env = absurd (let z : false ≡ true = p in cc)
    s_eval (AndThen e f) p env = absurd (let z : false ≡ true = p in cc)
    s_eval (OrElse e f) p env = absurd (let z : false ≡ true = p in cc)
    s_eval (Relation class comparison e f) p env = absurd (let z : false ≡ true = p in cc)
    s_eval (Membership class negated e low high) p env = absurd (let z : false ≡ true = p in cc)
    s_eval (If condition value otherwise) p env = absurd (let z : false ≡ true = p in cc)
    s_eval (Call at callee s actuals) p env = absurd (let z : false ≡ true = p in cc)
    s_eval (Convert check e) p env = absurd (let z : false ≡ true = p in cc)
    s_eval (Reduction at attribute by initial site chunk iteration value) p env = absurd (let z : false ≡ true = p in cc)

    mutual
      pub s_cells : (v : Value) → is_plain v ≡ true → (env : Env) → Steady (Meaning.cells ops limit program calls v env)
      s_cells (Number check e) p env = s_bind (s_eval e p env) (λ v. s_bind (s_checks RangeCheck check.at _) (λ _. s_ret _))
      s_cells (Cells value) p env = s_composite value p env

      s_composite : (v : Composite) → is_plain_composite v ≡ true → (env : Env) → Steady (Meaning.composite ops limit program calls v env)
      s_composite (WholeVariable at r selections subtype) p env = s_bind (s_select selections p env _) (λ q. s_read_all _ _ _ _)
      s_composite (WholeConstant at r selections subtype) p env = s_bind (s_select selections p env _) (λ q. s_read_all _ _ _ _)
      s_composite (WholeTarget at subtype) p env = s_read_all _ _ _ _
      s_composite (CompositeIf condition value otherwise) p env = absurd (let z : false ≡ true = p in cc)
      s_composite (Aggregate at size associations) p env = s_associated associations p env _

      s_associated : (as' : Associations) → are_plain as' ≡ true → (env : Env) (so_far : List ℤ) → Steady (Meaning.associated ops limit program calls as' env so_far)
      s_associated NoAssociation p env so_far = s_ret so_far
      s_associated (Association runs None mentions value rest) p env so_far =
          let (p1, p2) = both (is_plain value) (are_plain rest) p in
          s_bind (s_runs runs _ so_far (λ k. s_bind (s_ret tt) (λ _. s_cells value p1 env))) (λ cs. s_associated rest p2 env cs)
      s_associated (Association runs (Some x) mentions value rest) p env so_far = absurd (let z : false ≡ true = p in cc)

    pub s_value : (v : Value) → is_plain v ≡ true → (env : Env) → Steady (stored.bind (stored.ret (tt {0})) (λ _. Meaning.cells ops limit program calls v env))
    s_value v p env = s_bind (s_ret (tt {0})) (λ _. s_cells v p env)

  -- ---- the same value in each component of a run

  abbrev pub copies : ℕ → ℕ → ℕ → List ℤ → List ℤ → List ℤ
  copies zero first stride cs cur = cur
  copies (suc n) first stride cs cur = copies n (first + stride) stride cs (Values.laid cur first cs)

  pub copies_are : (n first size : ℕ) (cs cur : List ℤ) → length cs ≡ size → copies n first size cs cur ≡ Values.laid cur first (many n cs)
  copies_are zero first size cs cur len = sym (laid_nil cur first)
  copies_are (suc n) first size cs cur len = copies_are n (first + size) size cs (Values.laid cur first cs) len ∙ laid_append cur cs (many n cs) first (first + size) (omega (arith, len))

  run_again : (m : Stored (List ℤ)) (s : stored.State) (cs : List ℤ) → m.does s ≡ stored.at s (Ok cs) → (n k first stride : ℕ) (cur : List ℤ) → (Meaning.run_values ops k n first stride (λ k. m) cur).does s ≡ stored.at s (Ok (copies n first stride cs cur))
  unfolding stored.bind stored.ret
  run_again m s cs is zero k first stride cur = refl
  run_again m s cs is (suc n) k first stride cur =
      ap (λ r. stored.next r.state r.end (λ cs. Meaning.run_values ops (k + 1) n (first + stride) stride (λ k. m) (Values.laid cur first cs))) is
      ∙ run_again m s cs is n (k + 1) (first + stride) stride (Values.laid cur first cs)

module _ (limit : ℕ) (cuts : ℕ → ℕ → List ℕ) (c : Code) (f : Fixed) (x : Ends) where
  -- what follows a value that leaves the state as it was
  abbrev Alike : {B : Type 0} → Ghost → Stored B → Stored B → stored.State → Type 0
  Alike g a b s = (a.does s ≡ b.does s) × (Asks f g (a.touches s) (a.visits s) → Asks f g (b.touches s) (b.visits s))

  does_alike : {A B : Type 0} {g j : Ghost} {q : B → Type 0} {from : Dyn → Step} {goal : B → Dyn → Step} (m : Stored A) (k k' : A → Stored B) → ((s : stored.State) (a : A) → m.does s ≡ stored.at s (Ok a) → Alike g (k a) (k' a) s) → Steady m
      → Doing limit c f x g j q (stored.bind m k') from goal → Doing limit c f x g j q (stored.bind m k) from goal
  unfolding stored.bind
  does_alike {A} {B} {g} {j} {q} {from} {goal} m k k' same steady h = record {
    by = λ s d fit al.
        let (a1, a2) = asks_split limit c f x g (m.touches s) _ (m.visits s) _ al in
        let t : stored.State = (m.does s).state in
        let is : t ≡ s = steady.by s in
        let at_t : m.does t ≡ m.does s = ap m.does is in
        subst (λ r. Lands limit c f x q j (from d) s.turns goal r.state r.end) (sym (ends t (m.does s).end (at_t ∙ as_is (m.does s))))
        (h.by s d fit (asks_join limit c f x g (m.touches s) _ (m.visits s) _ a1 (touches t (m.does s).end (at_t ∙ as_is (m.does s)) a2)));
  }
    where
      as_is : (r : stored.After A) → r ≡ stored.at r.state r.end
      as_is r = refl

      ends : (t : stored.State) (e : Result A Cause) → m.does t ≡ stored.at t e → stored.next t e k ≡ stored.next t e k'
      ends t (Ok a) is = (same t a is).0
      ends t (Err z) is = refl

      touches : (t : stored.State) (e : Result A Cause) → m.does t ≡ stored.at t e → Asks f g (stored.next_touches t e k) (stored.next_visits t e k) → Asks f g (stored.next_touches t e k') (stored.next_visits t e k')
      touches t (Ok a) is al = (same t a is).1 al
      touches t (Err z) is al = (tt, none_sound limit c f x f.asked)

  -- a run of such values is as one value that is copied
  pub does_again : {B : Type 0} {g j : Ghost} {q : B → Type 0} {from : Dyn → Step} {goal : B → Dyn → Step} (m : Stored (List ℤ)) → Steady m → (k n first stride : ℕ) (cur : List ℤ) (then : List ℤ → Stored B)
      → Doing limit c f x g j q (stored.bind m (λ cs. then (copies limit cuts (suc n) first stride cs cur))) from goal
      → Doing limit c f x g j q (stored.bind (Meaning.run_values (stored.noted_operations limit cuts) k (suc n) first stride (λ k. m) cur) then) from goal
  unfolding stored.bind
  does_again {B} {g} m steady k n first stride cur then h =
      does_assoc limit c f x m (λ cs. rest cs) then
      (does_alike m (λ cs. stored.bind (rest cs) then) (λ cs. then (copies limit cuts (suc n) first stride cs cur)) same steady h)
    where
      rest : List ℤ → Stored (List ℤ)
      rest cs = Meaning.run_values (stored.noted_operations limit cuts) (k + 1) n (first + stride) stride (λ k. m) (Values.laid cur first cs)

      same : (s : stored.State) (cs : List ℤ) → m.does s ≡ stored.at s (Ok cs) → Alike g (stored.bind (rest cs) then) (then (copies limit cuts (suc n) first stride cs cur)) s
      same s cs is =
          let e : (rest cs).does s ≡ stored.at s (Ok (copies limit cuts (suc n) first stride cs cur)) = run_again limit cuts m s cs is n (k + 1) (first + stride) stride (Values.laid cur first cs) in (
            ap (λ r. stored.next r.state r.end then) e,
            λ al. subst (λ r. Asks f g (stored.next_touches r.state r.end then) (stored.next_visits r.state r.end then)) e (asks_split limit c f x g ((rest cs).touches s) _ ((rest cs).visits s) _ al).1,
          )
