-- Claims about one reading, by the induction for two: whatever a program does, it may be stopped before it begins; and
-- with one worker nothing is asked of its threads.
use Rattle.std.proofs.Common.{◌≡◌, ℕ, zero, suc, ℤ, List, [], ◌∷◌, Option, Some, None, Bool, true, false, cond, not, is_some, ltb, inl, inr, refl, ltb-true, ltb-false}
use Rattle.typed_tree.specs.declared.scalars.Scalar.{Scalar}
use Rattle.typed_tree.specs.declared.expressions.Reducer.{Reducer}
use Rattle.typed_tree.specs.declared.expressions.Reducer.TheVariants.{Operator, Function}
use Rattle.typed_tree.specs.Syntax.{Program}
use Rattle.ada_base.specs.Input.{Nothing}
use Rattle.behaviours.specs.Doings.{through, onto, folded}
use Rattle.behaviours.specs.Paths.{Entity, VariableOf, Instance, Path, Scope, Stopped, find, apart_of, enter}
use Rattle.behaviours.specs.Joins.{Share, deal}
use Rattle.behaviours.specs.Behaviours.{Behaviour, Asks, EachSafe}
use Rattle.ada_meaning.specs.Values.{result, divides, overflows, is_zero}
use Rattle.ada_meaning.specs.Operations.{CheckKind, ZeroCheck, OverflowCheck, Operations, reduce, chunk_of}
use Rattle.ada_meaning.specs.Meaning.{main}
use Rattle.behaviours.specs.Behaviours
use Rattle.ada_meaning.specs.Runs
use Rattle.ada_meaning.specs.Nonblocking.{KeepsRule}
use Rattle.ada_meaning.proofs.Induction
use Rattle.ada_meaning.proofs.Induction.{Relates}

-- the reading that says nothing
abbrev pub nothing : Operations {0}
nothing = record {
  doings = record { Doing = λ A. Unit {0}; ret = λ a. tt; ◌>>=◌ = λ m k. tt };
  reads = λ x i s. tt;
  writes = λ x i v. tt;
  elaborates = λ region x vs m. tt;
  apart = λ m. tt;
  turn = tt;
  look = tt;
  checks = λ kind at holds. tt;
  leaves = λ x. tt;
  spent = tt;
  handles = λ m takes h. tt;
  puts = λ bytes. tt;
  recalls = tt;
  keeps = λ h. tt;
  takes = tt;
  loops = λ site cut f. tt;
  reduces = λ site cut by at v f c d. tt;
}

module _ (P : Type 0) (new : Instance → P) (admits : Scalar → ℤ → Type 0) (asks : Asks P) (limit : ℕ) (cuts : ℕ → ℕ → List ℕ) (one : Bool) where
  abbrev ops : Operations {1}
  ops = Runs.operations P new admits asks limit cuts one

  abbrev Stops : {A : Type 0} → Behaviour P A → Type 0
  Stops b = (s : Scope P) (p : Path P) → b.runs s p [] false p Stopped

  turn_stops : Stops (Behaviours.turn {P = P} limit)
  turn_stops s p = go (ltb p.turns limit) refl
    where
      go : (b : Bool) → ltb p.turns limit ≡ b → (Behaviours.turn {P = P} limit).runs s p [] false p Stopped
      go true e = inl (ltb-true p.turns limit e, (refl, inr (refl, refl, refl)))
      go false e = inr (ltb-false p.turns limit e, (refl, inr (refl, refl, refl)))

  checks_stops : (kind : CheckKind) (at : ℕ) (holds : Bool) → Stops (Runs.checks {P = P} kind at holds)
  checks_stops kind at true s p = (refl, inr (refl, refl, refl))
  checks_stops kind at false s p = (refl, inr (refl, refl, refl))

  bind_stops : {A B : Type 0} (b : Behaviour P A) (k : A → Behaviour P B) → Stops b → Stops (Behaviours.◌>>=◌ b k)
  bind_stops b k h s p = inr (Stopped, refl, h s p)

  stops_where : {A : Type 0} (f : P → Behaviour P A) → ((x : P) → Stops (f x)) → (x : Option P) → Stops (Behaviours.where_found f x)
  stops_where f h None s p = (refl, inr (refl, refl, refl))
  stops_where f h (Some x) s p = h x s p

  reads_stop : (x : Entity) (i : ℕ) (cell : Scalar) → Stops (Runs.reads {P = P} admits x i cell)
  reads_stop x i cell s p = stops_where _ (λ y t q. inr (refl, refl, refl, refl)) (find s x i) s p

  writes_stop : (x i : ℕ) (v : ℤ) → Stops (Behaviours.writes {P = P} x i v)
  writes_stop x i v s p = stops_where _ (λ y t q. (refl, inr (refl, refl, refl))) (find s (VariableOf x) i) s p

  stops : Relates {1, 0, 0} ops nothing
  stops = record {
    World = Unit {0};
    Open = λ w. Unit {0};
    inner = λ w. tt;
    R = λ w b n. Stops b;
    ret = λ w a s p. (refl, inr (refl, refl, refl));
    bind = λ {A} {B} w {m} {n} {k} {l} r f. bind_stops m k r;
    reads = λ w x i cell. reads_stop x i cell;
    writes = λ w x i v. writes_stop x i v;
    elaborates = λ {A} w region u x vs {m} {n} r s p. inr (refl, refl, refl, (_, refl));
    apart = λ {A} w {m} {n} r s p. r (apart_of s) p;
    turn = λ w. turn_stops;
    look = λ w s p. (refl, inr (refl, refl, refl));
    checks = λ w kind at holds. checks_stops kind at holds;
    leaves = λ {A} w x s p. (refl, inr (refl, refl, refl));
    spent = λ {A} w s p. (refl, inr (refl, refl, refl));
    handles = λ {A} w {m} {n} takes {h} {g} r f s p. inr (r s p, tt);
    puts = λ w allowed bytes s p. (refl, inr (refl, refl, refl));
    recalls = λ w allowed s p. (Nothing, (refl, inr (refl, refl, refl)));
    keeps = λ w allowed h s p. (refl, inr (refl, refl, refl));
    takes = λ w allowed s p. (None, (refl, inr (refl, refl, refl)));
    loops = λ w site cut {f} {g} r s p. inr (Stopped, refl, inr (refl, refl, refl, refl));
    reduces = λ w site cut by at v {f} {g} {c} {c'} {d} {d'} r t u s p. inr (Stopped, refl, inr (refl, refl, refl, refl));
  }

  -- whatever a program does, it may be stopped before it begins
  pub program_stops : (program : Program) → KeepsRule program → Stops (main ops limit program)
  unfolding stops
  program_stops program keeps = Induction.main stops limit program keeps tt tt

-- with one worker the threads are taken in order, and no race is to be feared

module _ (P : Type 0) (new : Instance → P) (admits : Scalar → ℤ → Type 0) (limit : ℕ) (cuts : ℕ → ℕ → List ℕ) where
  abbrev alone : Operations {1}
  alone = Runs.operations P new admits Behaviours.asks_at_once limit cuts true

  abbrev pub Safe : {A : Type 0} → Behaviour P A → Type 0
  Safe b = (s : Scope P) (p : Path P) → b.safe s p

  pub safe_where : {A : Type 0} (f : P → Behaviour P A) → ((x : P) → Safe (f x)) → (x : Option P) → Safe (Behaviours.where_found f x)
  safe_where f h None s p = tt
  safe_where f h (Some x) s p = h x s p

  pub checks_safe : (kind : CheckKind) (at : ℕ) (holds : Bool) → Safe (Runs.checks {P = P} kind at holds)
  checks_safe kind at true s p = tt
  checks_safe kind at false s p = tt

  pub bind_safe : {A B : Type 0} (m : Behaviour P A) (k : A → Behaviour P B) → Safe m → ((a : A) → Safe (k a)) → Safe (Behaviours.◌>>=◌ m k)
  bind_safe m k h f s p = (h s p, λ a mid front x run. f a s mid)

  cond_safe : (b : Bool) (m n : Behaviour P (Unit {0})) → Safe m → Safe n → Safe (cond b m n)
  cond_safe true m n h g = h
  cond_safe false m n h g = g

  through_safe : {A : Type 0} (first n : ℕ) (a : A) (f : ℕ → A → Behaviour P A) → ((i : ℕ) (b : A) → Safe (f i b)) → Safe (through (Behaviours.doings P) first n a f)
  through_safe first zero a f h s p = tt
  through_safe first (suc n) a f h s p = (h first a s p, λ b mid front x run. through_safe (suc first) n b f h s mid)

  pub onto_safe : (a : ℤ) (more : List ℤ) (f : ℤ → ℤ → Behaviour P ℤ) → ((b c : ℤ) → Safe (f b c)) → Safe (onto (Behaviours.doings P) a more f)
  onto_safe a [] f h s p = tt
  onto_safe a (b ∷ more) f h s p = (h a b s p, λ c mid front x run. onto_safe c more f h s mid)

  folded_safe : (f : ℤ → ℤ → Behaviour P ℤ) → ((b c : ℤ) → Safe (f b c)) → (a : ℤ) (v : Option ℤ) → Safe (folded (Behaviours.doings P) f a v)
  folded_safe f h a None s p = tt
  folded_safe f h a (Some v) s p = h a v s p

  pub reduce_safe : (by : Reducer) (at : ℕ) (f : ℤ → ℤ → Behaviour P ℤ) → ((b c : ℤ) → Safe (f b c)) → (a b : ℤ) → Safe (reduce (Behaviours.doings P) Runs.checks by at f a b)
  reduce_safe (Operator t op class) at f h a b s p = (
    cond_safe (divides op) (Runs.checks ZeroCheck at (not (is_zero b))) (Behaviours.ret tt) (checks_safe ZeroCheck at (not (is_zero b))) (λ s p. tt) s p,
    λ u mid front x run. (
      cond_safe (overflows op) (Runs.checks OverflowCheck at (is_some (result op class a b))) (Behaviours.ret tt) (checks_safe OverflowCheck at (is_some (result op class a b))) (λ s p. tt) s mid,
      λ u mid front x run. tt,
    ),
  )
  reduce_safe (Function t sub x y) at f h a b s p = h a b s p

  pub each_safe : {A : Type 0} (body : Share → Behaviour P A) → ((j : Share) → Safe (body j)) → (js : List Share) (s : Scope P) (p : Path P) → EachSafe body s p js
  each_safe body h [] s p = tt
  each_safe body h (j ∷ js) s p = (h j s p, each_safe body h js s p)

  pub combined_safe : (v : ℤ) (values : List ℤ) (f : ℤ → ℤ → Behaviour P ℤ) → ((b c : ℤ) → Safe (f b c)) → Safe (Runs.combined P new admits Behaviours.asks_at_once limit cuts true v values f)
  combined_safe v [] f h s p = tt
  combined_safe v (a ∷ more) f h s p = onto_safe a more f h s p

  pub loop_safe : (f : ℕ → ℕ → Behaviour P (Unit {0})) → ((j i : ℕ) → Safe (f j i)) → (c : Share) → Safe (Runs.loop_thread f c)
  loop_safe f h c s p = through_safe c.first c.size tt (λ i _. f c.number i) (λ i _. h c.number i) s (enter c.number p)

  pub fold_safe : (by : Reducer) (at : ℕ) (v : ℤ) (f : ℕ → ℕ → Behaviour P (Option ℤ)) (call : ℤ → ℤ → Behaviour P ℤ) → ((j i : ℕ) → Safe (f j i)) → ((a b : ℤ) → Safe (call a b)) → (c : Share) → Safe (Runs.fold_thread by at v f call c)
  fold_safe by at v f call h g c s p = through_safe c.first c.size v
      (λ i so_far. Behaviours.◌>>=◌ (f c.number i) (folded (Behaviours.doings P) (reduce (Behaviours.doings P) Runs.checks by at call) so_far))
      (λ i so_far. bind_safe (f c.number i) (folded (Behaviours.doings P) (reduce (Behaviours.doings P) Runs.checks by at call) so_far) (h c.number i) (folded_safe (reduce (Behaviours.doings P) Runs.checks by at call) (reduce_safe by at call g) so_far)) s (enter c.number p)

  one_safe : Relates {1, 0, 0} alone nothing
  one_safe = record {
    World = Unit {0};
    Open = λ w. Unit {0};
    inner = λ w. tt;
    R = λ w b n. Safe b;
    ret = λ w a s p. tt;
    bind = λ {A} {B} w {m} {n} {k} {l} r f. bind_safe m k r f;
    reads = λ w x i cell s p. safe_where _ (λ y t q. tt) (find s x i) s p;
    writes = λ w x i v s p. safe_where _ (λ y t q. tt) (find s (VariableOf x) i) s p;
    elaborates = λ {A} w region u x vs {m} {n} r s p. r _ _;
    apart = λ {A} w {m} {n} r s p. r (apart_of s) p;
    turn = λ w s p. tt;
    look = λ w s p. tt;
    checks = λ w kind at holds. checks_safe kind at holds;
    leaves = λ {A} w x s p. tt;
    spent = λ {A} w s p. tt;
    handles = λ {A} w {m} {n} takes {h} {g} r f s p. (r s p, λ how mid front x run e. f how s mid);
    puts = λ w allowed bytes s p. tt;
    recalls = λ w allowed s p. tt;
    keeps = λ w allowed h s p. tt;
    takes = λ w allowed s p. tt;
    loops = λ w site cut {f} {g} r s p. ((tt, each_safe (Runs.loop_thread (λ j. f (chunk_of cut j))) (loop_safe (λ j. f (chunk_of cut j)) (λ j. r (chunk_of cut j))) (deal 0 0 (Runs.sizes_of P new admits Behaviours.asks_at_once limit cuts true cut)) s p), λ us mid front x run. tt);
    reduces = λ w site cut by at v {f} {g} {c} {c'} {d} {d'} r t u s p. (
      (tt, each_safe (Runs.fold_thread by at v (λ j. f (chunk_of cut j)) c) (fold_safe by at v (λ j. f (chunk_of cut j)) c (λ j. r (chunk_of cut j)) t) (deal 0 0 (Runs.sizes_of P new admits Behaviours.asks_at_once limit cuts true cut)) s p),
      λ values mid front x run. combined_safe v values (reduce (Behaviours.doings P) Runs.checks by at c') (reduce_safe by at c' u) s mid,
    );
  }

  pub program_safe : (program : Program) → KeepsRule program → Safe (main alone limit program)
  unfolding one_safe
  program_safe program keeps = Induction.main one_safe limit program keeps tt tt
