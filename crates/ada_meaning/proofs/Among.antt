-- Runs in which reads give less, less is asked of threads, or they are taken in order, among those in which reads give more,
-- more is asked, or threads are taken in any order.
use Rattle.std.proofs.Common.{ℕ, zero, suc, ℤ, List, [], ◌∷◌, ◌⊎◌, inl, inr, Option, Some, None, Bool, true, false, ◌||◌, ◌≡◌, refl, sym, subst, true≢false}
use Rattle.typed_tree.specs.declared.scalars.Scalar.{Scalar}
use Rattle.typed_tree.specs.declared.expressions.Reducer.{Reducer}
use Rattle.typed_tree.specs.declared.expressions.Reducer.TheVariants.{Operator, Function}
use Rattle.typed_tree.specs.Syntax.{Program}
use Rattle.behaviours.specs.Doings.{through, onto, folded}
use Rattle.behaviours.specs.Paths.{ThreadName, Leave, Entity, Region, Instance, End, Gives, Leaves, Spent, Stopped, Path, Scope, find, apart_of, enter, is_inside}
use Rattle.behaviours.specs.Events.{Reads, Trace, Shuffle}
use Rattle.behaviours.specs.Joins.{Site, Ran, Share, deal, EachRan, FirstEnds, Form, Joins, JoinsInOrder, SomeEnds, traces}
use Rattle.behaviours.proofs.Shuffle.{shuffle_in_order}
use Rattle.behaviours.specs.Behaviours.{Asks, Behaviour, EachSafe, MayTrace, ThreadApart, ThreadsApart, asks_apart, asks_at_once}
use Rattle.ada_meaning.specs.Operations.{Cut, chunk_of, Operations, operate, reduce}
use Rattle.ada_meaning.specs.Meaning.{main}
use Rattle.behaviours.specs.Behaviours
use Rattle.ada_meaning.specs.Runs
use Rattle.ada_meaning.specs.Programs.{this}
use Rattle.ada_meaning.specs.Nonblocking.{KeepsRule}
use Rattle.ada_meaning.proofs.Induction
use Rattle.ada_meaning.proofs.Induction.{Relates}

-- its runs are runs of the other, and it is safe where that is
pub record Among {A : Type 0} (b c : Behaviour Instance A) : Type 0 where
  pub runs : (s : Scope Instance) (p : Path Instance) (tr : Trace Instance) (y : Bool) (p' : Path Instance) (e : End A) → b.runs s p tr y p' e → c.runs s p tr y p' e
  pub safe : (s : Scope Instance) (p : Path Instance) → c.safe s p → b.safe s p

itself : {A : Type 0} (b : Behaviour Instance A) → Among b b
itself b = record { runs = λ s p tr y p' e r. r; safe = λ s p h. h }

bind_among : {A B : Type 0} (b c : Behaviour Instance A) (k l : A → Behaviour Instance B) → Among b c → ((a : A) → Among (k a) (l a)) → Among (Behaviours.◌>>=◌ b k) (Behaviours.◌>>=◌ c l)
bind_among {A} {B} b c k l h i = record { runs = go; safe = λ s p f. (h.safe s p f.0, λ a mid front x run. (i a).safe s mid (f.1 a mid front x (h.runs s p front x mid (Gives a) run))) }
  where
    go : (s : Scope Instance) (p : Path Instance) (tr : Trace Instance) (y : Bool) (p' : Path Instance) (e : End B) → (Behaviours.◌>>=◌ b k).runs s p tr y p' e → (Behaviours.◌>>=◌ c l).runs s p tr y p' e
    go s p tr y p' e (inl (a, mid, front, back, x, z, eq, ey, one, two)) = inl (a, mid, front, back, x, z, eq, ey, h.runs s p front x mid (Gives a) one, (i a).runs s mid back z p' e two)
    go s p tr y p' e (inr (end, carries, one)) = inr (end, carries, h.runs s p tr y p' end one)

handles_among : {A : Type 0} (b c : Behaviour Instance A) (takes : Leave → Bool) (k l : Leave → Behaviour Instance A) → Among b c → ((x : Leave) → Among (k x) (l x)) → Among (Behaviours.handles b takes k) (Behaviours.handles c takes l)
handles_among {A} b c takes k l h i = record { runs = go; safe = λ s p f. (h.safe s p f.0, λ how mid front x run t. (i how).safe s mid (f.1 how mid front x (h.runs s p front x mid (Leaves how) run) t)) }
  where
    go : (s : Scope Instance) (p : Path Instance) (tr : Trace Instance) (y : Bool) (p' : Path Instance) (e : End A) → (Behaviours.handles b takes k).runs s p tr y p' e → (Behaviours.handles c takes l).runs s p tr y p' e
    go s p tr y p' e (inl (how, mid, front, back, x, z, eq, ey, one, t, two)) = inl (how, mid, front, back, x, z, eq, ey, h.runs s p front x mid (Leaves how) one, t, (i how).runs s mid back z p' e two)
    go s p tr y p' e (inr (one, u)) = inr (h.runs s p tr y p' e one, u)

reads_among : (admits also : Scalar → ℤ → Type 0) → ((cell : Scalar) (v : ℤ) → admits cell v → also cell v) → (x : Entity) (i : ℕ) (cell : Scalar) → Among (Runs.reads admits x i cell) (Runs.reads also x i cell)
reads_among admits also wider x i cell = record { runs = λ s. runs s (find s x i); safe = λ s. safe s (find s x i) }
  where
    runs : (s : Scope Instance) (l : Option Instance) (p : Path Instance) (tr : Trace Instance) (y : Bool) (p' : Path Instance) (e : End ℤ)
        → (Behaviours.where_found (λ x. Behaviours.at_once (λ p tr y p' e. ((v : ℤ) × admits cell v × Behaviours.Did p (Reads x i v ∷ []) p (Gives v) tr y p' e) ⊎ Behaviours.Unbegun p tr y p' e)) l).runs s p tr y p' e
        → (Behaviours.where_found (λ x. Behaviours.at_once (λ p tr y p' e. ((v : ℤ) × also cell v × Behaviours.Did p (Reads x i v ∷ []) p (Gives v) tr y p' e) ⊎ Behaviours.Unbegun p tr y p' e)) l).runs s p tr y p' e
    runs s None p tr y p' e r = r
    runs s (Some l) p tr y p' e (inl (v, a, d)) = inl (v, wider cell v a, d)
    runs s (Some l) p tr y p' e (inr d) = inr d

    safe : (s : Scope Instance) (l : Option Instance) (p : Path Instance)
        → (Behaviours.where_found (λ x. Behaviours.at_once (λ p tr y p' e. ((v : ℤ) × also cell v × Behaviours.Did p (Reads x i v ∷ []) p (Gives v) tr y p' e) ⊎ Behaviours.Unbegun p tr y p' e)) l).safe s p
        → (Behaviours.where_found (λ x. Behaviours.at_once (λ p tr y p' e. ((v : ℤ) × admits cell v × Behaviours.Did p (Reads x i v ∷ []) p (Gives v) tr y p' e) ⊎ Behaviours.Unbegun p tr y p' e)) l).safe s p
    safe s None p h = h
    safe s (Some l) p h = h

through_among : {A : Type 0} (first n : ℕ) (a : A) (f g : ℕ → A → Behaviour Instance A) → ((i : ℕ) (a : A) → Among (f i a) (g i a)) → Among (through (Behaviours.doings Instance) first n a f) (through (Behaviours.doings Instance) first n a g)
through_among first zero a f g h = itself (Behaviours.ret a)
through_among first (suc n) a f g h = bind_among (f first a) (g first a) (λ b. through (Behaviours.doings Instance) (suc first) n b f) (λ b. through (Behaviours.doings Instance) (suc first) n b g) (h first a) (λ b. through_among (suc first) n b f g h)

onto_among : (a : ℤ) (more : List ℤ) (f g : ℤ → ℤ → Behaviour Instance ℤ) → ((x y : ℤ) → Among (f x y) (g x y)) → Among (onto (Behaviours.doings Instance) a more f) (onto (Behaviours.doings Instance) a more g)
onto_among a [] f g h = itself (Behaviours.ret a)
onto_among a (b ∷ more) f g h = bind_among (f a b) (g a b) (λ c. onto (Behaviours.doings Instance) c more f) (λ c. onto (Behaviours.doings Instance) c more g) (h a b) (λ c. onto_among c more f g h)

reduce_among : (by : Reducer) (at : ℕ) (f g : ℤ → ℤ → Behaviour Instance ℤ) → ((x y : ℤ) → Among (f x y) (g x y)) → (x y : ℤ) → Among (reduce (Behaviours.doings Instance) Runs.checks by at f x y) (reduce (Behaviours.doings Instance) Runs.checks by at g x y)
reduce_among (Operator t op class) at f g h x y = itself (operate (Behaviours.doings Instance) Runs.checks op at class x y)
reduce_among (Function t sub a v) at f g h x y = h x y

folded_among : (f g : ℤ → ℤ → Behaviour Instance ℤ) → ((x y : ℤ) → Among (f x y) (g x y)) → (a : ℤ) (v : Option ℤ) → Among (folded (Behaviours.doings Instance) f a v) (folded (Behaviours.doings Instance) g a v)
folded_among f g h a None = itself (Behaviours.ret a)
folded_among f g h a (Some v) = h a v

within_among : {A : Type 0} (i : ℕ) (b c : Behaviour Instance A) → Among b c → Among (Behaviours.within i b) (Behaviours.within i c)
within_among i b c h = record { runs = λ s p tr y p' e r. (r.0, r.1, h.runs s (enter i p) tr y r.0 e r.2); safe = λ s p. h.safe s (enter i p) }

-- threads

each_ran : {A : Type 0} (f g : Share → Behaviour Instance A) → ((j : Share) → Among (f j) (g j)) → (s : Scope Instance) (p : Path Instance) (js : List Share) (rs : List (Ran Instance A)) → EachRan (λ j. (f j).runs s) p js rs → EachRan (λ j. (g j).runs s) p js rs
each_ran f g h s p [] rs e = e
each_ran f g h s p (j ∷ js) rs (r, more, eq, ran, each) = (r, more, eq, (h j).runs s p r.trace r.early r.path r.end ran, each_ran f g h s p js more each)

each_safe : {A : Type 0} (f g : Share → Behaviour Instance A) → ((j : Share) → Among (f j) (g j)) → (s : Scope Instance) (p : Path Instance) (js : List Share) → EachSafe g s p js → EachSafe f s p js
each_safe f g h s p [] e = tt
each_safe f g h s p (j ∷ js) e = ((h j).safe s p e.0, each_safe f g h s p js e.1)

thread_apart : (may also : Share → Trace Instance → Type 0) → ((j : Share) (tr : Trace Instance) → may j tr → also j tr) → (j : Share) (js : List Share) → ThreadApart also j js → ThreadApart may j js
thread_apart may also h j [] a = tt
thread_apart may also h j (k ∷ ks) a = (λ t u x y. a.0 t u (h j t x) (h k u y), thread_apart may also h j ks a.1)

threads_apart : (may also : Share → Trace Instance → Type 0) → ((j : Share) (tr : Trace Instance) → may j tr → also j tr) → (js : List Share) → ThreadsApart also js → ThreadsApart may js
threads_apart may also h [] a = tt
threads_apart may also h (j ∷ js) a = (thread_apart may also h j js a.0, threads_apart may also h js a.1)

-- what is taken in order by the second is by the first
abbrev pub Fewer : Bool → Bool → Type 0
Fewer ordered wide = wide ≡ true → ordered ≡ true

not_fewer : Fewer false true → ⊥
not_fewer f = true≢false (sym (f refl))

-- more is asked where a thread may have more traces, by one rule and by the other
abbrev pub AsksMore : Asks Instance → Asks Instance → Type 1
AsksMore asks more =
    (ordered wide : Bool) (who : ThreadName) (site : Site) (c : ℕ) (s : Scope Instance) (js : List Share) (may also : Share → Trace Instance → Type 0) → Fewer ordered wide → ((j : Share) (tr : Trace Instance) → may j tr → also j tr)
    → more wide who site c s js also → asks ordered who site c s js may

pub apart_more : AsksMore asks_apart asks_apart
apart_more ordered wide who site c s js may also f h a = threads_apart may also h js a

pub at_once_more : AsksMore asks_at_once asks_at_once
at_once_more true wide who site c s js may also f h a = tt
at_once_more false true who site c s js may also f h a = absurd (not_fewer f)
at_once_more false false who site c s js may also f h a = threads_apart may also h js a

pub fewer_at_once : AsksMore asks_at_once asks_apart
fewer_at_once true wide who site c s js may also f h a = tt
fewer_at_once false wide who site c s js may also f h a = threads_apart may also h js a

-- threads that are taken in order are among those that are taken in any order

first_is_some : {A : Type 0} (p : Path Instance) (rs : List (Ran Instance A)) (e : End A) → FirstEnds p rs e → SomeEnds rs e
first_is_some p [] e h = h
first_is_some p (r ∷ rs) e (inl h) = inl h.0
first_is_some p (r ∷ rs) e (inr h) = inr (first_is_some p rs e h.1)

joins_in_order : {A : Type 0} (p : Path Instance) (rs : List (Ran Instance A)) (e : End (List A)) → JoinsInOrder p rs e → Joins rs e
joins_in_order p rs (Gives values) h = h
joins_in_order p rs (Leaves x) h = first_is_some p rs (Leaves x) h
joins_in_order p rs Spent h = h
joins_in_order p rs Stopped h = tt

form_wider : {A : Type 0} (ordered wide : Bool) (p : Path Instance) (rs : List (Ran Instance A)) (tr : Trace Instance) (e : End (List A)) → Fewer ordered wide → Form ordered p rs tr e → Form wide p rs tr e
form_wider true true p rs tr e f h = h
form_wider true false p rs tr e f h = (subst (λ z. Shuffle (traces rs) z) (sym h.0) (shuffle_in_order (traces rs)), joins_in_order p rs e h.1)
form_wider false true p rs tr e f h = absurd (not_fewer f)
form_wider false false p rs tr e f h = h

inside_fewer : (one many inside : Bool) → Fewer one many → Fewer (one || inside) (many || inside)
inside_fewer true many inside f e = refl
inside_fewer false true inside f e = absurd (not_fewer f)
inside_fewer false false inside f e = e

module _ (admits also : Scalar → ℤ → Type 0) (wider : (cell : Scalar) (v : ℤ) → admits cell v → also cell v) (asks more : Asks Instance) (asked : AsksMore asks more) (limit : ℕ) (cuts : ℕ → ℕ → List ℕ) (one many : Bool) (fewer : Fewer one many) where
  abbrev narrow : Operations {1}
  narrow = Runs.operations Instance this admits asks limit cuts one

  abbrev wide : Operations {1}
  wide = Runs.operations Instance this also more limit cuts many

  elaborates_among : {A : Type 0} (region : Region) (x : Entity) (vs : List ℤ) (b c : Behaviour Instance A) → Among b c → Among (narrow.elaborates region x vs b) (wide.elaborates region x vs c)
  elaborates_among {A} region x vs b c h = record { runs = go; safe = λ s p. h.safe _ _ }
    where
      go : (s : Scope Instance) (p : Path Instance) (tr : Trace Instance) (y : Bool) (p' : Path Instance) (e : End A) → (narrow.elaborates region x vs b).runs s p tr y p' e → (wide.elaborates region x vs c).runs s p tr y p' e
      go s p tr y p' e (inl (rest, eq, run)) = inl (rest, eq, h.runs _ _ rest y p' e run)
      go s p tr y p' e (inr stopped) = inr stopped

  par_among : {A : Type 0} (site : Site) (js : List Share) (f g : Share → Behaviour Instance A) → ((j : Share) → Among (f j) (g j))
      → Among (Behaviours.par asks one site js f) (Behaviours.par more many site js g)
  par_among {A} site js f g h = record {
    runs = go;
    safe = λ s p a. (
      asked (one || is_inside p) (many || is_inside p) p.name site p.constructs s js (λ j tr. MayTrace (f j) s p tr) (λ j tr. MayTrace (g j) s p tr) (inside_fewer one many (is_inside p) fewer)
          (λ j tr m. record { early = m.early; path = m.path; end = m.end; run = (h j).runs s p tr m.early m.path m.end m.run }) a.0,
      each_safe f g h s p js a.1,
    );
  }
    where
      go : (s : Scope Instance) (p : Path Instance) (tr : Trace Instance) (y : Bool) (p' : Path Instance) (e : End (List A)) → (Behaviours.par asks one site js f).runs s p tr y p' e
          → (Behaviours.par more many site js g).runs s p tr y p' e
      go s p tr y p' e (inl (rs, each, form, ey, ep)) = inl (rs, each_ran f g h s p js rs each, form_wider (one || is_inside p) (many || is_inside p) p rs tr e (inside_fewer one many (is_inside p) fewer) form, ey, ep)
      go s p tr y p' e (inr u) = inr u

  loops_among : (site : Site) (cut : Cut) (f g : ℕ → ℕ → Behaviour Instance (Unit {0})) → ((j i : ℕ) → Among (f j i) (g j i)) → Among (narrow.loops site cut f) (wide.loops site cut g)
  loops_among site cut f g h =
      let js = deal 0 0 (Runs.sizes_of Instance this also more limit cuts many cut) in
      let thread = λ (k : Share). within_among k.number (through (Behaviours.doings Instance) k.first k.size tt (λ i _. f (chunk_of cut k.number) i)) (through (Behaviours.doings Instance) k.first k.size tt (λ i _. g (chunk_of cut k.number) i))
      (through_among k.first k.size tt (λ i _. f (chunk_of cut k.number) i) (λ i _. g (chunk_of cut k.number) i) (λ i _. h (chunk_of cut k.number) i)) in
      bind_among (Behaviours.par asks one site js (Runs.loop_thread (λ j. f (chunk_of cut j)))) (Behaviours.par more many site js (Runs.loop_thread (λ j. g (chunk_of cut j))))
      (λ _. Behaviours.ret tt) (λ _. Behaviours.ret tt) (par_among site js (Runs.loop_thread (λ j. f (chunk_of cut j))) (Runs.loop_thread (λ j. g (chunk_of cut j))) thread) (λ _. itself (Behaviours.ret tt))

  combined_among : (v : ℤ) (values : List ℤ) (f g : ℤ → ℤ → Behaviour Instance ℤ) → ((x y : ℤ) → Among (f x y) (g x y)) → Among (Runs.combined Instance this admits asks limit cuts one v values f) (Runs.combined Instance this also more limit cuts many v values g)
  combined_among v [] f g h = itself (Behaviours.ret v)
  combined_among v (a ∷ more) f g h = onto_among a more f g h

  reduces_among : (site : Site) (cut : Cut) (by : Reducer) (at : ℕ) (v : ℤ) (f g : ℕ → ℕ → Behaviour Instance (Option ℤ)) (c c' d d' : ℤ → ℤ → Behaviour Instance ℤ) → ((j i : ℕ) → Among (f j i) (g j i)) → ((x y : ℤ) → Among (c x y) (d x y)) → ((x y : ℤ) → Among (c' x y) (d' x y))
      → Among (narrow.reduces site cut by at v f c c') (wide.reduces site cut by at v g d d')
  reduces_among site cut by at v f g c c' d d' h r u =
      let js = deal 0 0 (Runs.sizes_of Instance this also more limit cuts many cut) in
      let fold = reduce (Behaviours.doings Instance) Runs.checks by at in
      let step = λ (k : Share) (i : ℕ) (a : ℤ). bind_among (f (chunk_of cut k.number) i) (g (chunk_of cut k.number) i) (folded (Behaviours.doings Instance) (fold c) a) (folded (Behaviours.doings Instance) (fold d) a) (h (chunk_of cut k.number) i) (folded_among (fold c) (fold d) (reduce_among by at c d r) a) in
      let thread = λ (k : Share). within_among k.number
      (through (Behaviours.doings Instance) k.first k.size v (λ i a. Behaviours.◌>>=◌ (f (chunk_of cut k.number) i) (folded (Behaviours.doings Instance) (fold c) a)))
      (through (Behaviours.doings Instance) k.first k.size v (λ i a. Behaviours.◌>>=◌ (g (chunk_of cut k.number) i) (folded (Behaviours.doings Instance) (fold d) a)))
      (through_among k.first k.size v (λ i a. Behaviours.◌>>=◌ (f (chunk_of cut k.number) i) (folded (Behaviours.doings Instance) (fold c) a)) (λ i a. Behaviours.◌>>=◌ (g (chunk_of cut k.number) i) (folded (Behaviours.doings Instance) (fold d) a)) (step k)) in
      bind_among (Behaviours.par asks one site js (Runs.fold_thread by at v (λ j. f (chunk_of cut j)) c)) (Behaviours.par more many site js (Runs.fold_thread by at v (λ j. g (chunk_of cut j)) d))
      (λ values. Runs.combined Instance this admits asks limit cuts one v values (fold c')) (λ values. Runs.combined Instance this also more limit cuts many v values (fold d'))
      (par_among site js (Runs.fold_thread by at v (λ j. f (chunk_of cut j)) c) (Runs.fold_thread by at v (λ j. g (chunk_of cut j)) d) thread)
      (λ values. combined_among v values (fold c') (fold d') (reduce_among by at c' d' u))

  among : Relates {1, 1, 0} narrow wide
  among = record {
    World = Unit {0};
    Open = λ w. Unit {0};
    inner = λ w. tt;
    R = λ {A} w b c. Among b c;
    ret = λ w a. itself (Behaviours.ret a);
    bind = λ {A} {B} w {m} {n} {k} {l} r s. bind_among m n k l r s;
    reads = λ w. reads_among admits also wider;
    writes = λ w x i v. itself (Behaviours.writes x i v);
    elaborates = λ {A} w region u x vs {m} {n} r. elaborates_among region x vs m n r;
    apart = λ {A} w {m} {n} r. record { runs = λ s. r.runs (apart_of s); safe = λ s. r.safe (apart_of s) };
    turn = λ w. itself (Behaviours.turn limit);
    look = λ w. itself narrow.look;
    checks = λ w kind at holds. itself (Runs.checks kind at holds);
    leaves = λ {A} w x. itself (Behaviours.leaves x);
    spent = λ {A} w. itself Behaviours.spent;
    handles = λ {A} w {m} {n} takes {h} {g} r s. handles_among m n takes h g r s;
    puts = λ w u bytes. itself (narrow.puts bytes);
    recalls = λ w u. itself Behaviours.recalls;
    keeps = λ w u h. itself (narrow.keeps h);
    takes = λ w u. itself Behaviours.takes;
    loops = λ w site cut {f} {g} r. loops_among site cut f g r;
    reduces = λ w site cut by at v {f} {g} {c} {c'} {d} {d'} r t u. reduces_among site cut by at v f g c c' d d' r t u;
  }

  pub program_among : (program : Program) → KeepsRule program → Among (main narrow limit program) (main wide limit program)
  unfolding among
  program_among program keeps = Induction.main among limit program keeps tt tt
