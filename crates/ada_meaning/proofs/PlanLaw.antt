-- The runs of every program agree with its planned run.
use Rattle.std.proofs.Common.{◌≡◌, ℕ, ℤ, List, [], ◌∷◌, Option, Some, None, Bool, true, false, cond, not, is_some, refl, true≢false, ◌∙◌, sym}
use Rattle.ada_base.specs.declared.operation.Op.{Op}
use Rattle.typed_tree.specs.declared.scalars.Class.{Class}
use Rattle.typed_tree.specs.declared.expressions.Reducer.{Reducer}
use Rattle.typed_tree.specs.declared.expressions.Reducer.TheVariants.{Operator, Function}
use Rattle.typed_tree.specs.Syntax.{Program}
use Rattle.behaviours.specs.Doings.{through, folded}
use Rattle.behaviours.specs.Paths.{Instance, apart_of}
use Rattle.behaviours.specs.Events.{Looks}
use Rattle.behaviours.specs.Joins.{Site, Share, deal}
use Rattle.behaviours.specs.Behaviours.{Behaviour, asks_at_once}
use Rattle.ada_meaning.specs.Values.{result, divides, overflows, is_zero, value_or_zero}
use Rattle.ada_meaning.specs.Operations.{ZeroCheck, OverflowCheck, Cut, chunk_of, Operations, reduce, zero_checked, overflow_checked, operate}
use Rattle.ada_meaning.specs.Meaning.{main}
use Rattle.behaviours.specs.Behaviours
use Rattle.ada_meaning.specs.Runs
use Rattle.ada_meaning.specs.Runs.{anything}
use Rattle.ada_meaning.specs.Programs.{this}
use Rattle.ada_meaning.specs.Planned
use Rattle.ada_meaning.specs.Planned.{Planned}
use Rattle.ada_meaning.specs.Nonblocking.{KeepsRule}
use Rattle.ada_meaning.proofs.Agrees.{Agrees, ret_agrees, bind_agrees, reads_agrees, writes_agrees, elaborates_agree, apart_agrees, turn_agrees, look_agrees, checks_agree, leaves_agrees, spent_agrees, handles_agrees, puts_agrees, recalls_agrees, keeps_agrees, takes_agrees, within_agrees, through_agrees, onto_agrees}
use Rattle.ada_meaning.proofs.Quiet.{Quiet, ret_quiet, bind_quiet, reads_quiet, writes_quiet, elaborates_quiet, turn_quiet, checks_quiet, leaves_quiet, spent_quiet, handles_quiet, emits_quiet, within_quiet, through_quiet, onto_quiet}
use Rattle.ada_meaning.proofs.Threads.{par_agrees, par_quiet}
use Rattle.ada_meaning.proofs.Induction
use Rattle.ada_meaning.proofs.Induction.{Relates}

module _ (limit : ℕ) (cuts : ℕ → ℕ → List ℕ) (one : Bool) where
  abbrev runs : Operations {1}
  runs = Runs.operations Instance this anything asks_at_once limit cuts one

  abbrev plans : Operations {0}
  plans = Planned.operations limit cuts

  -- where nothing is put out unless that is allowed
  pub record AgreesIn {A : Type 0} (w : Bool) (b : Behaviour Instance A) (g : Planned A) : Type 0 where
    pub agrees : Agrees one b g
    pub quiet : w ≡ false → Quiet b

  pub quietly : {A : Type 0} (w : Bool) (b : Behaviour Instance A) (g : Planned A) → Agrees one b g → Quiet b → AgreesIn w b g
  quietly w b g a q = record { agrees = a; quiet = λ e. q }

  -- silent, and so related inside a thread
  pub record Silent {A : Type 0} (b : Behaviour Instance A) (g : Planned A) : Type 0 where
    pub agrees : Agrees one b g
    pub quiet : Quiet b

  pub silent : {A : Type 0} {b : Behaviour Instance A} {g : Planned A} → AgreesIn false b g → Silent b g
  silent r = record { agrees = r.agrees; quiet = r.quiet refl }

  both : {A B : Type 0} (m : Behaviour Instance A) (n : Planned A) (k : A → Behaviour Instance B) (l : A → Planned B) → Silent m n → ((a : A) → Silent (k a) (l a)) → Silent (Behaviours.◌>>=◌ m k) (Planned.◌>>=◌ n l)
  both m n k l r s = record { agrees = bind_agrees one m n k l r.agrees (λ a. (s a).agrees); quiet = bind_quiet m k r.quiet (λ a. (s a).quiet) }

  gives : {A : Type 0} (a : A) → Silent (runs.ret a) (plans.ret a)
  gives a = record { agrees = ret_agrees one a; quiet = ret_quiet a }

  choose : {A : Type 0} (c : Bool) {m k : Behaviour Instance A} {n l : Planned A} → Silent m n → Silent k l → Silent (cond c m k) (cond c n l)
  choose true r s = r
  choose false r s = s

  pub operates : (op : Op) (at : ℕ) (class : Class) (x y : ℤ) → Silent (operate runs.doings runs.checks op at class x y) (operate plans.doings plans.checks op at class x y)
  operates op at class x y =
      let z = result op class x y in
      both (zero_checked runs.doings runs.checks op at y) (zero_checked plans.doings plans.checks op at y)
      (λ _. runs.◌>>=◌ (overflow_checked runs.doings runs.checks op at z) (λ _. runs.ret (value_or_zero z)))
      (λ _. plans.◌>>=◌ (overflow_checked plans.doings plans.checks op at z) (λ _. plans.ret (value_or_zero z)))
      (choose (divides op) (record { agrees = checks_agree one ZeroCheck at (not (is_zero y)); quiet = checks_quiet ZeroCheck at (not (is_zero y)) }) (gives tt))
      (λ _. both (overflow_checked runs.doings runs.checks op at z) (overflow_checked plans.doings plans.checks op at z) (λ _. runs.ret (value_or_zero z)) (λ _. plans.ret (value_or_zero z))
      (choose (overflows op) (record { agrees = checks_agree one OverflowCheck at (is_some z); quiet = checks_quiet OverflowCheck at (is_some z) }) (gives tt))
      (λ _. gives (value_or_zero z)))

  reduces_step : (by : Reducer) (at : ℕ) (f : ℤ → ℤ → Behaviour Instance ℤ) (g : ℤ → ℤ → Planned ℤ) → ((a b : ℤ) → Silent (f a b) (g a b)) → (a b : ℤ) → Silent (reduce runs.doings runs.checks by at f a b) (reduce plans.doings plans.checks by at g a b)
  reduces_step (Operator t op class) at f g r a b = operates op at class a b
  reduces_step (Function t s x y) at f g r a b = r a b

  folds : (f : ℤ → ℤ → Behaviour Instance ℤ) (g : ℤ → ℤ → Planned ℤ) → ((a b : ℤ) → Silent (f a b) (g a b)) → (a : ℤ) (v : Option ℤ) → Silent (folded runs.doings f a v) (folded plans.doings g a v)
  folds f g r a None = gives a
  folds f g r a (Some v) = r a v

  goes_through : {A : Type 0} (first size : ℕ) (a : A) (f : ℕ → A → Behaviour Instance A) (g : ℕ → A → Planned A) → ((i : ℕ) (b : A) → Silent (f i b) (g i b)) → Silent (through runs.doings first size a f) (through plans.doings first size a g)
  goes_through first size a f g r = record { agrees = through_agrees one first size a f g (λ i b. (r i b).agrees); quiet = through_quiet first size a f (λ i b. (r i b).quiet) }

  enters : {A : Type 0} (i : ℕ) (m : Behaviour Instance A) (n : Planned A) → Silent m n → Silent (Behaviours.within i m) (Planned.within i n)
  enters i m n r = record { agrees = within_agrees one i m n r.agrees; quiet = within_quiet i m r.quiet }

  loop_thread : (f : ℕ → ℕ → Behaviour Instance (Unit {0})) (g : ℕ → ℕ → Planned (Unit {0})) → ((j i : ℕ) → Silent (f j i) (g j i)) → (c : Share) → Silent (Runs.loop_thread f c) (Planned.loop_thread g c)
  loop_thread f g r c = enters c.number (through runs.doings c.first c.size tt (λ i _. f c.number i)) (through plans.doings c.first c.size tt (λ i _. g c.number i)) (goes_through c.first c.size tt (λ i _. f c.number i) (λ i _. g c.number i) (λ i _. r c.number i))

  dealt_loops : (site : Site) (cut : Cut) (f : ℕ → ℕ → Behaviour Instance (Unit {0})) (g : ℕ → ℕ → Planned (Unit {0})) → ((j i : ℕ) → Silent (f j i) (g j i)) → Silent (Behaviours.◌>>=◌ (Behaviours.par asks_at_once one site (deal 0 0 (Runs.sizes_of Instance this anything asks_at_once limit cuts one cut)) (Runs.loop_thread f)) (λ _. Behaviours.ret {A = Unit {0}} tt)) (Planned.◌>>=◌ (Planned.par (deal 0 0 (Runs.sizes_of Instance this anything asks_at_once limit cuts one cut)) (Planned.loop_thread g)) (λ _. Planned.ret {A = Unit {0}} tt))
  dealt_loops site cut f g r =
      let js = deal 0 0 (Runs.sizes_of Instance this anything asks_at_once limit cuts one cut) in
      both (Behaviours.par asks_at_once one site js (Runs.loop_thread f)) (Planned.par js (Planned.loop_thread g)) (λ _. runs.ret tt) (λ _. plans.ret tt)
      (record {
        agrees = par_agrees limit cuts one site js (Runs.loop_thread f) (Planned.loop_thread g) (λ c. (loop_thread f g r c).agrees) (λ c. (loop_thread f g r c).quiet);
        quiet = par_quiet limit cuts one site js (Runs.loop_thread f) (λ c. (loop_thread f g r c).quiet);
      }) (λ _. gives tt)

  pub loops : (site : Site) (cut : Cut) (f : ℕ → ℕ → Behaviour Instance (Unit {0})) (g : ℕ → ℕ → Planned (Unit {0})) → ((j i : ℕ) → Silent (f j i) (g j i)) → Silent (runs.loops site cut f) (plans.loops site cut g)
  loops site cut f g r = dealt_loops site cut (λ j. f (chunk_of cut j)) (λ j. g (chunk_of cut j)) (λ j. r (chunk_of cut j))

  fold_thread : (by : Reducer) (at : ℕ) (v : ℤ) (f : ℕ → ℕ → Behaviour Instance (Option ℤ)) (g : ℕ → ℕ → Planned (Option ℤ)) (c : ℤ → ℤ → Behaviour Instance ℤ) (d : ℤ → ℤ → Planned ℤ)
      → ((j i : ℕ) → Silent (f j i) (g j i)) → ((a b : ℤ) → Silent (c a b) (d a b)) → (k : Share) → Silent (Runs.fold_thread by at v f c k) (Planned.fold_thread by at v g d k)
  fold_thread by at v f g c d r t k =
      let step : ℕ → ℤ → Behaviour Instance ℤ = λ i so_far. runs.◌>>=◌ (f k.number i) (folded runs.doings (reduce runs.doings runs.checks by at c) so_far) in
      let step' : ℕ → ℤ → Planned ℤ = λ i so_far. plans.◌>>=◌ (g k.number i) (folded plans.doings (reduce plans.doings plans.checks by at d) so_far) in
      enters k.number (through runs.doings k.first k.size v step) (through plans.doings k.first k.size v step')
      (goes_through k.first k.size v step step' (λ i so_far. both (f k.number i) (g k.number i) (folded runs.doings (reduce runs.doings runs.checks by at c) so_far) (folded plans.doings (reduce plans.doings plans.checks by at d) so_far)
      (r k.number i) (λ o. folds (reduce runs.doings runs.checks by at c) (reduce plans.doings plans.checks by at d) (reduces_step by at c d t) so_far o)))

  pub accumulators : (by : Reducer) (at : ℕ) (v : ℤ) (f : ℕ → ℕ → Behaviour Instance (Option ℤ)) (g : ℕ → ℕ → Planned (Option ℤ)) (c : ℤ → ℤ → Behaviour Instance ℤ) (d : ℤ → ℤ → Planned ℤ)
      → ((j i : ℕ) → Silent (f j i) (g j i)) → ((a b : ℤ) → Silent (c a b) (d a b)) → (site : Site) (js : List Share)
      → Silent (Behaviours.par asks_at_once one site js (Runs.fold_thread by at v f c)) (Planned.par js (Planned.fold_thread by at v g d))
  accumulators by at v f g c d r t site js = record {
    agrees = par_agrees limit cuts one site js (Runs.fold_thread by at v f c) (Planned.fold_thread by at v g d) (λ k. (fold_thread by at v f g c d r t k).agrees) (λ k. (fold_thread by at v f g c d r t k).quiet);
    quiet = par_quiet limit cuts one site js (Runs.fold_thread by at v f c) (λ k. (fold_thread by at v f g c d r t k).quiet);
  }

  -- where accumulators are combined something may be put out
  pub step_in : (w : Bool) (by : Reducer) (at : ℕ) (f : ℤ → ℤ → Behaviour Instance ℤ) (g : ℤ → ℤ → Planned ℤ) → ((a b : ℤ) → AgreesIn w (f a b) (g a b)) → (a b : ℤ) → AgreesIn w (reduce runs.doings runs.checks by at f a b) (reduce plans.doings plans.checks by at g a b)
  step_in w (Operator t op class) at f g r a b = quietly w (operate runs.doings runs.checks op at class a b) (operate plans.doings plans.checks op at class a b) (operates op at class a b).agrees (operates op at class a b).quiet
  step_in w (Function t s x y) at f g r a b = r a b

  combines : (w : Bool) (f : ℤ → ℤ → Behaviour Instance ℤ) (g : ℤ → ℤ → Planned ℤ) → ((a b : ℤ) → AgreesIn w (f a b) (g a b)) → (v : ℤ) (values : List ℤ)
      → AgreesIn w (Runs.combined Instance this anything asks_at_once limit cuts one v values f) (Planned.combined limit cuts v values g)
  combines w f g r v [] = quietly w (runs.ret v) (plans.ret v) (ret_agrees one v) (ret_quiet v)
  combines w f g r v (a ∷ more) = record { agrees = onto_agrees one a more f g (λ b c. (r b c).agrees); quiet = λ e. onto_quiet a more f (λ b c. (r b c).quiet e) }

  pub reduces : (w : Bool) (site : Site) (cut : Cut) (by : Reducer) (at : ℕ) (v : ℤ) (f : ℕ → ℕ → Behaviour Instance (Option ℤ)) (g : ℕ → ℕ → Planned (Option ℤ)) (c c' : ℤ → ℤ → Behaviour Instance ℤ) (d d' : ℤ → ℤ → Planned ℤ)
      → ((j i : ℕ) → Silent (f j i) (g j i)) → ((a b : ℤ) → Silent (c a b) (d a b)) → ((a b : ℤ) → AgreesIn w (c' a b) (d' a b)) → AgreesIn w (runs.reduces site cut by at v f c c') (plans.reduces site cut by at v g d d')
  reduces w site cut by at v f g c c' d d' r t u =
      let js = deal 0 0 (Runs.sizes_of Instance this anything asks_at_once limit cuts one cut) in
      let m = Behaviours.par asks_at_once one site js (Runs.fold_thread by at v (λ j. f (chunk_of cut j)) c) in
      let n = Planned.par js (Planned.fold_thread by at v (λ j. g (chunk_of cut j)) d) in
      let k = λ (values : List ℤ). Runs.combined Instance this anything asks_at_once limit cuts one v values (reduce runs.doings runs.checks by at c') in
      let l = λ (values : List ℤ). Planned.combined limit cuts v values (reduce plans.doings plans.checks by at d') in
      let a = accumulators by at v (λ j. f (chunk_of cut j)) (λ j. g (chunk_of cut j)) c d (λ j. r (chunk_of cut j)) t site js in
      let b = λ (values : List ℤ). combines w (reduce runs.doings runs.checks by at c') (reduce plans.doings plans.checks by at d') (step_in w by at c' d' u) v values in
      record { agrees = bind_agrees one m n k l a.agrees (λ values. (b values).agrees); quiet = λ e. bind_quiet m k a.quiet (λ values. (b values).quiet e) }

  unfoldable pub agree : Relates {1, 0, 0} runs plans
  agree = record {
    World = Bool;
    Open = λ w. w ≡ true;
    inner = λ w. false;
    R = λ {A} w b g. AgreesIn w b g;
    ret = λ w a. quietly w (runs.ret a) (plans.ret a) (ret_agrees one a) (ret_quiet a);
    bind = λ {A} {B} w {m} {n} {k} {l} r s. record { agrees = bind_agrees one m n k l r.agrees (λ a. (s a).agrees); quiet = λ e. bind_quiet m k (r.quiet e) (λ a. (s a).quiet e) };
    reads = λ w x i cell. quietly w (runs.reads x i cell) (plans.reads x i cell) (reads_agrees one x i cell) (reads_quiet x i cell);
    writes = λ w x i v. quietly w (runs.writes x i v) (plans.writes x i v) (writes_agrees one x i v) (writes_quiet x i v);
    elaborates = λ {A} w region u x vs {m} {n} r. record { agrees = elaborates_agree limit cuts one region x vs m n r.agrees; quiet = λ e. elaborates_quiet limit cuts one region x vs m (r.quiet e) };
    apart = λ {A} w {m} {n} r. record { agrees = apart_agrees one m n r.agrees; quiet = λ e s. r.quiet e (apart_of s) };
    turn = λ w. quietly w runs.turn plans.turn (turn_agrees one limit) (turn_quiet limit);
    look = λ w. quietly w runs.look plans.look (look_agrees one) (emits_quiet Looks (λ z. z));
    checks = λ w kind at holds. quietly w (runs.checks kind at holds) (plans.checks kind at holds) (checks_agree one kind at holds) (checks_quiet kind at holds);
    leaves = λ {A} w x. quietly w (runs.leaves x) (plans.leaves x) (leaves_agrees one x) (leaves_quiet x);
    spent = λ {A} w. quietly w runs.spent plans.spent (spent_agrees one) spent_quiet;
    handles = λ {A} w {m} {n} takes {h} {g} r s. record { agrees = handles_agrees one m n takes h g r.agrees (λ x. (s x).agrees); quiet = λ e. handles_quiet m takes h (r.quiet e) (λ x. (s x).quiet e) };
    puts = λ w allowed bytes. record { agrees = puts_agrees one bytes; quiet = λ e. absurd (true≢false (sym allowed ∙ e)) };
    recalls = λ w allowed. record { agrees = recalls_agrees one; quiet = λ e. absurd (true≢false (sym allowed ∙ e)) };
    keeps = λ w allowed h. record { agrees = keeps_agrees one h; quiet = λ e. absurd (true≢false (sym allowed ∙ e)) };
    takes = λ w allowed. record { agrees = takes_agrees one; quiet = λ e. absurd (true≢false (sym allowed ∙ e)) };
    loops = λ w site cut {f} {g} r. quietly w (runs.loops site cut f) (plans.loops site cut g) (loops site cut f g (λ j i. silent (r j i))).agrees (loops site cut f g (λ j i. silent (r j i))).quiet;
    reduces = λ w site cut by at v {f} {g} {c} {c'} {d} {d'} r t u. reduces w site cut by at v f g c c' d d' (λ j i. silent (r j i)) (λ a b. silent (t a b)) u;
  }

  -- whatever a program does under a plan, the planned run does
  pub program_agrees : (program : Program) → KeepsRule program → Agrees one (main runs limit program) (main plans limit program)
  unfolding agree
  program_agrees program keeps = (Induction.main agree limit program keeps true refl).agrees
