-- Where the rule on blocking calls is kept no thread of a construct takes input or puts output.
use Rattle.std.proofs.Common.{◌≡◌, ℕ, ℤ, List, [], ◌∷◌, Option, Some, None, Bool, true, false, cond, not, is_some, refl, sym, ◌∙◌, true≢false}
use Rattle.ada_base.specs.declared.operation.Op.{Op}
use Rattle.typed_tree.specs.declared.scalars.Class.{Class}
use Rattle.typed_tree.specs.declared.expressions.Reducer.{Reducer}
use Rattle.typed_tree.specs.declared.expressions.Reducer.TheVariants.{Operator, Function}
use Rattle.typed_tree.specs.Syntax.{Program}
use Rattle.behaviours.specs.Doings.{through, folded}
use Rattle.behaviours.specs.Paths.{VariableOf, Instance, Path, Scope, find, apart_of}
use Rattle.behaviours.specs.Events.{Looks}
use Rattle.behaviours.specs.Joins.{Site, Share, deal}
use Rattle.behaviours.specs.Behaviours
use Rattle.behaviours.specs.Behaviours.{Behaviour, MayTrace, AllSilent, asks_silent}
use Rattle.ada_meaning.specs.Values.{result, divides, overflows, is_zero, value_or_zero}
use Rattle.ada_meaning.specs.Operations.{ZeroCheck, OverflowCheck, Operations, Cut, chunk_of, zero_checked, overflow_checked, operate, reduce}
use Rattle.ada_meaning.specs.Meaning.{main}
use Rattle.ada_meaning.specs.Runs
use Rattle.ada_meaning.specs.Runs.{anything}
use Rattle.ada_meaning.specs.Programs.{this}
use Rattle.ada_meaning.specs.Nonblocking.{KeepsRule}
use Rattle.ada_meaning.proofs.Stops
use Rattle.ada_meaning.proofs.Stops.{nothing}
use Rattle.ada_meaning.proofs.Quiet.{Quiet, ret_quiet, bind_quiet, reads_quiet, writes_quiet, elaborates_quiet, turn_quiet, checks_quiet, leaves_quiet, spent_quiet, handles_quiet, emits_quiet, within_quiet, through_quiet, onto_quiet}
use Rattle.ada_meaning.proofs.Threads.{par_quiet}
use Rattle.ada_meaning.proofs.Induction
use Rattle.ada_meaning.proofs.Induction.{Relates}

cond_quiet : {A : Type 0} (c : Bool) (m n : Behaviour Instance A) → Quiet m → Quiet n → Quiet (cond c m n)
cond_quiet true m n q r = q
cond_quiet false m n q r = r

operate_quiet : (op : Op) (at : ℕ) (class : Class) (x y : ℤ) → Quiet (operate (Behaviours.doings Instance) Runs.checks op at class x y)
operate_quiet op at class x y =
    let d = Behaviours.doings Instance in
    let z = result op class x y in
    bind_quiet (zero_checked d Runs.checks op at y) (λ _. Behaviours.◌>>=◌ (overflow_checked d Runs.checks op at z) (λ _. Behaviours.ret (value_or_zero z)))
    (cond_quiet (divides op) (Runs.checks ZeroCheck at (not (is_zero y))) (Behaviours.ret tt) (checks_quiet ZeroCheck at (not (is_zero y))) (ret_quiet tt))
    (λ _. bind_quiet (overflow_checked d Runs.checks op at z) (λ _. Behaviours.ret (value_or_zero z))
    (cond_quiet (overflows op) (Runs.checks OverflowCheck at (is_some z)) (Behaviours.ret tt) (checks_quiet OverflowCheck at (is_some z)) (ret_quiet tt))
    (λ _. ret_quiet (value_or_zero z)))

reduce_quiet : (by : Reducer) (at : ℕ) (f : ℤ → ℤ → Behaviour Instance ℤ) → ((a b : ℤ) → Quiet (f a b)) → (a b : ℤ) → Quiet (reduce (Behaviours.doings Instance) Runs.checks by at f a b)
reduce_quiet (Operator t op class) at f q a b = operate_quiet op at class a b
reduce_quiet (Function t sub x y) at f q a b = q a b

folded_quiet : (f : ℤ → ℤ → Behaviour Instance ℤ) → ((a b : ℤ) → Quiet (f a b)) → (a : ℤ) (v : Option ℤ) → Quiet (folded (Behaviours.doings Instance) f a v)
folded_quiet f q a None = ret_quiet a
folded_quiet f q a (Some v) = q a v

loop_quiet : (f : ℕ → ℕ → Behaviour Instance (Unit {0})) → ((j i : ℕ) → Quiet (f j i)) → (c : Share) → Quiet (Runs.loop_thread f c)
loop_quiet f q c = within_quiet c.number (through (Behaviours.doings Instance) c.first c.size tt (λ i _. f c.number i)) (through_quiet c.first c.size tt (λ i _. f c.number i) (λ i _. q c.number i))

fold_quiet : (by : Reducer) (at : ℕ) (v : ℤ) (f : ℕ → ℕ → Behaviour Instance (Option ℤ)) (call : ℤ → ℤ → Behaviour Instance ℤ) → ((j i : ℕ) → Quiet (f j i)) → ((a b : ℤ) → Quiet (call a b)) → (c : Share) → Quiet (Runs.fold_thread by at v f call c)
fold_quiet by at v f call q r c =
    let d = Behaviours.doings Instance in
    let rest = folded d (reduce d Runs.checks by at call) in
    within_quiet c.number (through d c.first c.size v (λ i so_far. Behaviours.◌>>=◌ (f c.number i) (rest so_far)))
    (through_quiet c.first c.size v (λ i so_far. Behaviours.◌>>=◌ (f c.number i) (rest so_far)) (λ i so_far. bind_quiet (f c.number i) (rest so_far) (q c.number i) (folded_quiet (reduce d Runs.checks by at call) (reduce_quiet by at call r) so_far)))

all_silent : {A : Type 0} (body : Share → Behaviour Instance A) → ((j : Share) → Quiet (body j)) → (s : Scope Instance) (p : Path Instance) (js : List Share) → AllSilent (λ j tr. MayTrace (body j) s p tr) js
all_silent body q s p [] = tt
all_silent body q s p (j ∷ js) = (λ tr m h. q j s p tr m.early m.path m.end m.run h, all_silent body q s p js)

module _ (limit : ℕ) (cuts : ℕ → ℕ → List ℕ) (one : Bool) where
  abbrev ops : Operations {1}
  ops = Runs.operations Instance this anything asks_silent limit cuts one

  abbrev Safe : {A : Type 0} → Behaviour Instance A → Type 0
  Safe b = Stops.Safe Instance this anything limit cuts b

  -- what is asked of threads is so, and where blocking calls aren't allowed there are none
  record Keeping {A : Type 0} (w : Bool) (b : Behaviour Instance A) : Type 0 where
    pub safe : Safe b
    pub quiet : w ≡ false → Quiet b

  at_once : {A : Type 0} (w : Bool) (b : Behaviour Instance A) → Safe b → Quiet b → Keeping w b
  at_once w b s q = record { safe = s; quiet = λ e. q }

  opened : {A : Type 0} (w : Bool) (b : Behaviour Instance A) → w ≡ true → Safe b → Keeping w b
  opened w b allowed s = record { safe = s; quiet = λ e. absurd (true≢false (sym allowed ∙ e)) }

  bind_keeping : {A B : Type 0} (w : Bool) (m : Behaviour Instance A) (k : A → Behaviour Instance B) → Keeping w m → ((a : A) → Keeping w (k a)) → Keeping w (Behaviours.◌>>=◌ m k)
  bind_keeping w m k r f = record { safe = Stops.bind_safe Instance this anything limit cuts m k r.safe (λ a. (f a).safe); quiet = λ e. bind_quiet m k (r.quiet e) (λ a. (f a).quiet e) }

  par_keeping : {A : Type 0} (w : Bool) (site : Site) (js : List Share) (body : Share → Behaviour Instance A) → ((j : Share) → Safe (body j)) → ((j : Share) → Quiet (body j)) → Keeping w (Behaviours.par asks_silent one site js body)
  par_keeping w site js body h q = record {
    safe = λ s p. (all_silent body q s p js, Stops.each_safe Instance this anything limit cuts body h js s p);
    quiet = λ e. par_quiet limit cuts one site js body q;
  }

  loops : (w : Bool) (site : Site) (cut : Cut) (f : ℕ → ℕ → Behaviour Instance (Unit {0})) → ((j i : ℕ) → Keeping false (f j i)) → Keeping w (ops.loops site cut f)
  loops w site cut f r =
      let g = λ (j : ℕ). f (chunk_of cut j) in
      let js = deal 0 0 (Runs.sizes_of Instance this anything asks_silent limit cuts one cut) in
      bind_keeping w (Behaviours.par asks_silent one site js (Runs.loop_thread g)) (λ _. Behaviours.ret tt)
      (par_keeping w site js (Runs.loop_thread g) (Stops.loop_safe Instance this anything limit cuts g (λ j i. (r (chunk_of cut j) i).safe)) (loop_quiet g (λ j i. (r (chunk_of cut j) i).quiet refl)))
      (λ _. at_once w (Behaviours.ret tt) (λ s p. tt) (ret_quiet tt))

  step : (w : Bool) (by : Reducer) (at : ℕ) (f : ℤ → ℤ → Behaviour Instance ℤ) → ((a b : ℤ) → Keeping w (f a b)) → (a b : ℤ) → Keeping w (reduce (Behaviours.doings Instance) Runs.checks by at f a b)
  step w by at f r a b = record { safe = Stops.reduce_safe Instance this anything limit cuts by at f (λ x y. (r x y).safe) a b; quiet = λ e. reduce_quiet by at f (λ x y. (r x y).quiet e) a b }

  combined : (w : Bool) (v : ℤ) (values : List ℤ) (f : ℤ → ℤ → Behaviour Instance ℤ) → ((a b : ℤ) → Keeping w (f a b)) → Keeping w (Runs.combined Instance this anything asks_silent limit cuts one v values f)
  combined w v [] f r = at_once w (Behaviours.ret v) (λ s p. tt) (ret_quiet v)
  combined w v (a ∷ more) f r = record { safe = Stops.onto_safe Instance this anything limit cuts a more f (λ x y. (r x y).safe); quiet = λ e. onto_quiet a more f (λ x y. (r x y).quiet e) }

  reduces : (w : Bool) (site : Site) (cut : Cut) (by : Reducer) (at : ℕ) (v : ℤ) (f : ℕ → ℕ → Behaviour Instance (Option ℤ)) (c c' : ℤ → ℤ → Behaviour Instance ℤ) → ((j i : ℕ) → Keeping false (f j i)) → ((a b : ℤ) → Keeping false (c a b)) → ((a b : ℤ) → Keeping w (c' a b))
      → Keeping w (ops.reduces site cut by at v f c c')
  reduces w site cut by at v f c c' r t u =
      let g = λ (j : ℕ). f (chunk_of cut j) in
      let js = deal 0 0 (Runs.sizes_of Instance this anything asks_silent limit cuts one cut) in
      let fold = reduce (Behaviours.doings Instance) Runs.checks by at c' in
      bind_keeping w (Behaviours.par asks_silent one site js (Runs.fold_thread by at v g c)) (λ values. Runs.combined Instance this anything asks_silent limit cuts one v values fold)
      (par_keeping w site js (Runs.fold_thread by at v g c) (Stops.fold_safe Instance this anything limit cuts by at v g c (λ j i. (r (chunk_of cut j) i).safe) (λ a b. (t a b).safe)) (fold_quiet by at v g c (λ j i. (r (chunk_of cut j) i).quiet refl) (λ a b. (t a b).quiet refl)))
      (λ values. combined w v values fold (step w by at c' u))

  keeping : Relates {1, 0, 0} ops nothing
  keeping = record {
    World = Bool;
    Open = λ w. w ≡ true;
    inner = λ w. false;
    R = λ w b n. Keeping w b;
    ret = λ w a. at_once w (Behaviours.ret a) (λ s p. tt) (ret_quiet a);
    bind = λ {A} {B} w {m} {n} {k} {l} r f. bind_keeping w m k r f;
    reads = λ w x i cell. at_once w (Runs.reads anything x i cell) (λ s p. Stops.safe_where Instance this anything limit cuts _ (λ y t q. tt) (find s x i) s p) (reads_quiet x i cell);
    writes = λ w x i v. at_once w (Behaviours.writes x i v) (λ s p. Stops.safe_where Instance this anything limit cuts _ (λ y t q. tt) (find s (VariableOf x) i) s p) (writes_quiet x i v);
    elaborates = λ {A} w region u x vs {m} {n} r. record { safe = λ s p. r.safe _ _; quiet = λ e. elaborates_quiet limit cuts one region x vs m (r.quiet e) };
    apart = λ {A} w {m} {n} r. record { safe = λ s p. r.safe (apart_of s) p; quiet = λ e s. r.quiet e (apart_of s) };
    turn = λ w. at_once w (Behaviours.turn limit) (λ s p. tt) (turn_quiet limit);
    look = λ w. at_once w (Behaviours.emits Looks) (λ s p. tt) (emits_quiet Looks (λ z. z));
    checks = λ w kind at holds. at_once w (Runs.checks kind at holds) (Stops.checks_safe Instance this anything limit cuts kind at holds) (checks_quiet kind at holds);
    leaves = λ {A} w x. at_once w (Behaviours.leaves x) (λ s p. tt) (leaves_quiet x);
    spent = λ {A} w. at_once w Behaviours.spent (λ s p. tt) spent_quiet;
    handles = λ {A} w {m} {n} takes {h} {g} r f. record { safe = λ s p. (r.safe s p, λ how mid front x run e. (f how).safe s mid); quiet = λ e. handles_quiet m takes h (r.quiet e) (λ x. (f x).quiet e) };
    puts = λ w allowed bytes. opened w (ops.puts bytes) allowed (λ s p. tt);
    recalls = λ w allowed. opened w ops.recalls allowed (λ s p. tt);
    keeps = λ w allowed h. opened w (ops.keeps h) allowed (λ s p. tt);
    takes = λ w allowed. opened w ops.takes allowed (λ s p. tt);
    loops = λ w site cut {f} {g} r. loops w site cut f r;
    reduces = λ w site cut by at v {f} {g} {c} {c'} {d} {d'} r t u. reduces w site cut by at v f c c' r t u;
  }

  pub program_silent : (program : Program) → KeepsRule program → Safe (main ops limit program)
  unfolding keeping
  program_silent program keeps = (Induction.main keeping limit program keeps true refl).safe
