-- Stored runs of every program are among its runs.
use Rattle.std.proofs.Common.{◌≤◌, nat_eq, inl, inr, arith, ◌≡◌, ℕ, zero, suc, min, ℤ, length, replicate, List, [], ◌∷◌, ◌++◌, Option, Some, None, Result, Ok, Err, Bool, true, false, cond, not, is_some, refl, sym, subst, ap, ◌∙◌, true≢false, append-nil, append_assoc, drop}
use Rattle.std.proofs.Math.Seq.{drop-append_seam}
use Rattle.ada_base.specs.declared.operation.Op.{Op}
use Rattle.typed_tree.specs.declared.scalars.Class.{Class}
use Rattle.typed_tree.specs.declared.expressions.Reducer.{Reducer}
use Rattle.typed_tree.specs.declared.expressions.Reducer.TheVariants.{Operator, Function}
use Rattle.typed_tree.specs.Syntax.{Program}
use Rattle.ada_base.specs.Cuts.{cuts_of}
use Rattle.behaviours.specs.Doings.{through, onto, folded}
use Rattle.behaviours.specs.Paths.{Leave, Exits, Returns, Raises, Everywhere, Instance, End, Stopped, Path, start, nothing_visible}
use Rattle.behaviours.specs.Events.{Trace, Takes, Puts, output_of}
use Rattle.behaviours.specs.Memory.{after, empty}
use Rattle.behaviours.specs.Joins.{Site, Share, deal}
use Rattle.behaviours.specs.Behaviours.{Behaviour, Asks, asks_at_once}
use Rattle.ada_meaning.specs.Values.{result, divides, overflows, is_zero, value_or_zero}
use Rattle.ada_meaning.specs.Operations.{ZeroCheck, OverflowCheck, Cut, ByPlan, Sized, chunk_of, Operations, reduce, zero_checked, overflow_checked, operate}
use Rattle.ada_meaning.specs.Meaning
use Rattle.ada_meaning.specs.Meaning.{main, raises, exec_body, call, most_calls}
use Rattle.behaviours.specs.Behaviours
use Rattle.ada_meaning.specs.Runs
use Rattle.ada_meaning.specs.Runs.{anything}
use Rattle.ada_meaning.specs.Programs.{this, Setting, input_of}
use Rattle.ada_meaning.specs.Nonblocking.{KeepsRule}
use Rattle.ada_meaning.specs.Deeds.{Deed, StopsBetween}
use Rattle.ada_meaning.proofs.Between.{between}
use Rattle.ada_meaning.specs.Law.{IsPermitted, BeginsRun, EndsAs, behaviour}
use Rattle.ada_meaning.specs.Stored
use Rattle.ada_meaning.specs.declared.slots.Slot.{Slot}
use Rattle.ada_base.specs.Notes.{Schedule, InOrder, ByNotes}
use Rattle.ada_meaning.specs.Stored.{State, no_slot, slot_at, Stored, After, at, Cause, Left, OutOfTurns, NoRoom, CutOff, Misnoted, Outage, MemoryFault, InputFault, OutputFault, Stop, Goes, Fails, Computes, stored, outset, noted, noted_outset, put_out, outcome_of, handled}
use Rattle.ada_meaning.specs.StoredLaw.{StoredLaw, NotedLaw, StoppedLaw, NotedStoppedLaw, JournalLaw, SomeLaw, StoredSequentialLaw}
use Rattle.ada_meaning.proofs.Induction
use Rattle.ada_meaning.proofs.Induction.{Relates}
use Rattle.ada_meaning.proofs.Lays.{Mode, threaded, Tie, Tied, Has, Visible, finals_right}
use Rattle.ada_meaning.proofs.Simulates.{log, bounded_look_simulates, halted_stops, end_of, Came, Halted, StopsWith, Told, Simulates, ret_simulates, leaves_simulates, spent_simulates, checks_simulates, look_simulates, turn_simulates, reads_simulates, writes_simulates, puts_simulates, recalls_simulates, keeps_simulates, takes_simulates, bind_simulates, handles_simulates, apart_simulates, elaborates_simulates}
use Rattle.ada_meaning.proofs.Woven.{gathered_all, par_simulates, noted_simulates}
use Rattle.ada_meaning.proofs.Law.{one_sequential_law}

module _ (input : List ℕ) (asks : Asks Instance) (limit : ℕ) (cuts : ℕ → ℕ → List ℕ) (one : Bool) where
  abbrev pub runs : Operations {1}
  runs = Runs.operations Instance this anything asks limit cuts one

  abbrev stores : Operations {1}
  stores = Stored.operations limit cuts

  module _ (b : Mode) where
    abbrev Like : {A : Type 0} → Stored A → Behaviour Instance A → Type 0
    Like m g = Simulates input b m g

    gives : {A : Type 0} (a : A) → Like (stores.ret a) (runs.ret a)
    gives a = ret_simulates input b a

    choose : {A : Type 0} (c : Bool) {m n : Stored A} {g h : Behaviour Instance A} → Like m g → Like n h → Like (cond c m n) (cond c g h)
    choose true r s = r
    choose false r s = s

    both : {A B : Type 0} (m : Stored A) (g : Behaviour Instance A) (k : A → Stored B) (l : A → Behaviour Instance B) → Like m g → ((a : A) → Like (k a) (l a)) → Like (stores.◌>>=◌ m k) (runs.◌>>=◌ g l)
    both m g k l r s = bind_simulates input b m g k l r s

    operates : (op : Op) (token : ℕ) (class : Class) (x y : ℤ) → Like (operate stores.doings stores.checks op token class x y) (operate runs.doings runs.checks op token class x y)
    operates op token class x y =
        let z = result op class x y in
        both (zero_checked stores.doings stores.checks op token y) (zero_checked runs.doings runs.checks op token y)
        (λ _. stores.◌>>=◌ (overflow_checked stores.doings stores.checks op token z) (λ _. stores.ret (value_or_zero z)))
        (λ _. runs.◌>>=◌ (overflow_checked runs.doings runs.checks op token z) (λ _. runs.ret (value_or_zero z)))
        (choose (divides op) (checks_simulates input b ZeroCheck token (not (is_zero y))) (gives tt))
        (λ _. both (overflow_checked stores.doings stores.checks op token z) (overflow_checked runs.doings runs.checks op token z) (λ _. stores.ret (value_or_zero z)) (λ _. runs.ret (value_or_zero z))
        (choose (overflows op) (checks_simulates input b OverflowCheck token (is_some z)) (gives tt))
        (λ _. gives (value_or_zero z)))

    reduces_step : (by : Reducer) (token : ℕ) (f : ℤ → ℤ → Stored ℤ) (g : ℤ → ℤ → Behaviour Instance ℤ) → ((x y : ℤ) → Like (f x y) (g x y)) → (x y : ℤ) → Like (reduce stores.doings stores.checks by token f x y) (reduce runs.doings runs.checks by token g x y)
    reduces_step (Operator t op class) token f g r x y = operates op token class x y
    reduces_step (Function t s v w) token f g r x y = r x y

    folds : (f : ℤ → ℤ → Stored ℤ) (g : ℤ → ℤ → Behaviour Instance ℤ) → ((x y : ℤ) → Like (f x y) (g x y)) → (x : ℤ) (v : Option ℤ) → Like (folded stores.doings f x v) (folded runs.doings g x v)
    folds f g r x None = gives x
    folds f g r x (Some v) = r x v

    goes_through : {A : Type 0} (first size : ℕ) (a : A) (f : ℕ → A → Stored A) (g : ℕ → A → Behaviour Instance A) → ((i : ℕ) (a : A) → Like (f i a) (g i a)) → Like (through stores.doings first size a f) (through runs.doings first size a g)
    goes_through first zero a f g r = gives a
    goes_through first (suc size) a f g r = both (f first a) (g first a) (λ c. through stores.doings (suc first) size c f) (λ c. through runs.doings (suc first) size c g) (r first a) (λ c. goes_through (suc first) size c f g r)

    goes_onto : (a : ℤ) (more : List ℤ) (f : ℤ → ℤ → Stored ℤ) (g : ℤ → ℤ → Behaviour Instance ℤ) → ((x y : ℤ) → Like (f x y) (g x y)) → Like (onto stores.doings a more f) (onto runs.doings a more g)
    goes_onto a [] f g r = gives a
    goes_onto a (c ∷ more) f g r = both (f a c) (g a c) (λ d. onto stores.doings d more f) (λ d. onto runs.doings d more g) (r a c) (λ d. goes_onto d more f g r)

    combines : (initial : ℤ) (values : List ℤ) (f : ℤ → ℤ → Stored ℤ) (g : ℤ → ℤ → Behaviour Instance ℤ) → ((x y : ℤ) → Like (f x y) (g x y)) → Like (Stored.combined limit cuts initial values f) (Runs.combined Instance this anything asks limit cuts one initial values g)
    combines initial [] f g r = gives initial
    combines initial (a ∷ more) f g r = goes_onto a more f g r

  -- constructs

  pub same_sizes : (cut : Cut) → Stored.sizes_of limit cuts cut ≡ Runs.sizes_of Instance this anything asks limit cuts one cut
  same_sizes (ByPlan most n) = refl
  same_sizes (Sized sizes) = refl

  -- threads in order, or by notes
  abbrev team : {A B : Type 0} → Bool → Site → (B → A → B) → B → List Share → (Share → Stored A) → Stored B
  team false site f b0 js body = Stored.par f b0 js body
  team true site f b0 js body = Stored.noted_team site f b0 js body

  abbrev pub Suits : Bool → Mode → Type 0
  Suits false b = b.ordered ≡ true
  Suits true b = (one ≡ true → b.ordered ≡ true) × (b.outermost ≡ false → b.ordered ≡ true)

  module _ {A B C : Type 0} (b : Mode) (alone : one ≡ true → b.ordered ≡ true) (inside_ordered : b.outermost ≡ false → b.ordered ≡ true) (f : B → A → B) (body : Share → Stored A) (g : Share → Behaviour Instance A) (r : (j : Share) → Simulates input threaded (body j) (g j)) (site : Site) (js : List Share) (b0 : B)
      (k : B → Stored C) (l : List A → Behaviour Instance C) (t : (values : List A) → Simulates input b (k (gathered_all f b0 values)) (l values)) where
    visit_simulates : (j : Share) → Simulates input threaded (Stored.visited j (body j)) (g j)
    visit_simulates j = record { stops = (r j).stops; does = (r j).does; halts = (r j).halts }

    abbrev team_behaviour : Behaviour Instance C
    team_behaviour = Behaviours.◌>>=◌ (Behaviours.par asks one site js (λ j. Behaviours.within j.number (g j))) l

    par_of : Simulates input b (Stored.bind (Stored.noted_par f b0 js (λ j. Stored.visited j (body j))) k) team_behaviour
    par_of = noted_simulates input f b (λ j. Stored.visited j (body j)) g visit_simulates asks limit cuts one site js b0 k l t alone inside_ordered

    noted_team_simulates : Simulates input b (Stored.bind (Stored.noted_team site f b0 js body) k) team_behaviour
    unfolding Stored.bind Stored.noted_team
    noted_team_simulates = record { stops = par_of.stops; does = par_of.does; halts = par_of.halts }

  pub team_simulates : {A B C : Type 0} (noted : Bool) (b : Mode) → Suits noted b → (f : B → A → B) (body : Share → Stored A) (g : Share → Behaviour Instance A) → ((j : Share) → Simulates input threaded (body j) (g j)) → (site : Site) (js : List Share) (b0 : B) (k : B → Stored C) (l : List A → Behaviour Instance C)
      → ((values : List A) → Simulates input b (k (gathered_all f b0 values)) (l values)) → Simulates input b (Stored.bind (team noted site f b0 js body) k) (Behaviours.◌>>=◌ (Behaviours.par asks one site js (λ j. Behaviours.within j.number (g j))) l)
  team_simulates false b o f body g r site js b0 k l t = par_simulates input f b body g r asks limit cuts one site js b0 k l t o
  team_simulates true b o f body g r site js b0 k l t = noted_team_simulates b o.0 o.1 f body g r site js b0 k l t

  module _ (noted : Bool) (b : Mode) (suits : Suits noted b) where
    dealt_loops : (site : Site) (js : List Share) (f : ℕ → ℕ → Stored (Unit {0})) (g : ℕ → ℕ → Behaviour Instance (Unit {0})) → ((j i : ℕ) → Simulates input threaded (f j i) (g j i))
        → Simulates input b (Stored.bind (team noted site Stored.first_of_both tt js (Stored.loop_thread f)) (λ _. Stored.ret {A = Unit {0}} tt)) (Behaviours.◌>>=◌ (Behaviours.par asks one site js (Runs.loop_thread g)) (λ _. Behaviours.ret {A = Unit {0}} tt))
    dealt_loops site js f g r =
        team_simulates noted b suits Stored.first_of_both (Stored.loop_thread f) (λ c. through runs.doings c.first c.size tt (λ i _. g c.number i))
        (λ c. goes_through threaded c.first c.size tt (λ i _. f c.number i) (λ i _. g c.number i) (λ i _. r c.number i))
        site js tt (λ _. Stored.ret tt) (λ _. Behaviours.ret tt) (λ values. ret_simulates input b tt)

    pub loops : (site : Site) (cut : Cut) (f : ℕ → ℕ → Stored (Unit {0})) (g : ℕ → ℕ → Behaviour Instance (Unit {0})) → ((j i : ℕ) → Simulates input threaded (f j i) (g j i))
        → Simulates input b (Stored.bind (team noted site Stored.first_of_both tt (deal 0 0 (Stored.sizes_of limit cuts cut)) (Stored.loop_thread (λ j. f (chunk_of cut j)))) (λ _. Stored.ret {A = Unit {0}} tt)) (runs.loops site cut g)
    loops site cut f g r =
        subst (λ z. Simulates input b (Stored.bind (team noted site Stored.first_of_both tt (deal 0 0 z) (Stored.loop_thread (λ j. f (chunk_of cut j)))) (λ _. Stored.ret {A = Unit {0}} tt)) (runs.loops site cut g)) (sym (same_sizes cut))
        (dealt_loops site (deal 0 0 (Runs.sizes_of Instance this anything asks limit cuts one cut)) (λ j. f (chunk_of cut j)) (λ j. g (chunk_of cut j)) (λ j. r (chunk_of cut j)))

  pub all_gathered : (vs values : List ℤ) → gathered_all Stored.after_all vs values ≡ vs ++ values
  all_gathered vs [] = sym (append-nil vs)
  all_gathered vs (v ∷ values) = all_gathered (vs ++ (v ∷ [])) values ∙ append_assoc vs (v ∷ []) values

  module _ (noted : Bool) (b : Mode) (suits : Suits noted b) where
    dealt_reduces : (site : Site) (js : List Share) (by : Reducer) (token : ℕ) (v : ℤ) (f : ℕ → ℕ → Stored (Option ℤ)) (g : ℕ → ℕ → Behaviour Instance (Option ℤ)) (c c' : ℤ → ℤ → Stored ℤ) (d d' : ℤ → ℤ → Behaviour Instance ℤ)
        → ((j i : ℕ) → Simulates input threaded (f j i) (g j i)) → ((x y : ℤ) → Simulates input threaded (c x y) (d x y)) → ((x y : ℤ) → Simulates input b (c' x y) (d' x y))
        → Simulates input b (Stored.bind (team noted site Stored.after_all [] js (Stored.fold_thread by token v f c)) (λ values. Stored.combined limit cuts v values (reduce stores.doings stores.checks by token c')))
        (Behaviours.◌>>=◌ (Behaviours.par asks one site js (Runs.fold_thread by token v g d)) (λ values. Runs.combined Instance this anything asks limit cuts one v values (reduce runs.doings runs.checks by token d')))
    dealt_reduces site js by token v f g c c' d d' r t u =
        team_simulates noted b suits Stored.after_all (Stored.fold_thread by token v f c) (λ k. through runs.doings k.first k.size v (λ i so_far. runs.◌>>=◌ (g k.number i) (folded runs.doings (reduce runs.doings runs.checks by token d) so_far)))
        (λ k. goes_through threaded k.first k.size v (λ i so_far. stores.◌>>=◌ (f k.number i) (folded stores.doings (reduce stores.doings stores.checks by token c) so_far)) (λ i so_far. runs.◌>>=◌ (g k.number i) (folded runs.doings (reduce runs.doings runs.checks by token d) so_far))
        (λ i so_far. both threaded (f k.number i) (g k.number i) (folded stores.doings (reduce stores.doings stores.checks by token c) so_far) (folded runs.doings (reduce runs.doings runs.checks by token d) so_far)
        (r k.number i) (λ o. folds threaded (reduce stores.doings stores.checks by token c) (reduce runs.doings runs.checks by token d) (reduces_step threaded by token c d t) so_far o)))
        site js [] (λ values. Stored.combined limit cuts v values (reduce stores.doings stores.checks by token c')) (λ values. Runs.combined Instance this anything asks limit cuts one v values (reduce runs.doings runs.checks by token d'))
        (λ values. subst (λ z. Simulates input b (Stored.combined limit cuts v z (reduce stores.doings stores.checks by token c')) (Runs.combined Instance this anything asks limit cuts one v values (reduce runs.doings runs.checks by token d'))) (sym (all_gathered [] values))
        (combines b v values (reduce stores.doings stores.checks by token c') (reduce runs.doings runs.checks by token d') (reduces_step b by token c' d' u)))

    pub reduces : (site : Site) (cut : Cut) (by : Reducer) (token : ℕ) (v : ℤ) (f : ℕ → ℕ → Stored (Option ℤ)) (g : ℕ → ℕ → Behaviour Instance (Option ℤ)) (c c' : ℤ → ℤ → Stored ℤ) (d d' : ℤ → ℤ → Behaviour Instance ℤ)
        → ((j i : ℕ) → Simulates input threaded (f j i) (g j i)) → ((x y : ℤ) → Simulates input threaded (c x y) (d x y)) → ((x y : ℤ) → Simulates input b (c' x y) (d' x y))
        → Simulates input b (Stored.bind (team noted site Stored.after_all [] (deal 0 0 (Stored.sizes_of limit cuts cut)) (Stored.fold_thread by token v (λ j. f (chunk_of cut j)) c)) (λ values. Stored.combined limit cuts v values (reduce stores.doings stores.checks by token c'))) (runs.reduces site cut by token v g d d')
    reduces site cut by token v f g c c' d d' r t u =
        subst (λ z. Simulates input b (Stored.bind (team noted site Stored.after_all [] (deal 0 0 z) (Stored.fold_thread by token v (λ j. f (chunk_of cut j)) c)) (λ values. Stored.combined limit cuts v values (reduce stores.doings stores.checks by token c'))) (runs.reduces site cut by token v g d d')) (sym (same_sizes cut))
        (dealt_reduces site (deal 0 0 (Runs.sizes_of Instance this anything asks limit cuts one cut)) by token v (λ j. f (chunk_of cut j)) (λ j. g (chunk_of cut j)) c c' d d' (λ j. r (chunk_of cut j)) t u)

  -- with blocking calls or without, in order
  abbrev pub in_order : Bool → Mode
  in_order w = record { outermost = w; ordered = true }

  simulates : Relates {1, 1, 0} stores runs
  simulates = record {
    World = Bool;
    Open = λ w. w ≡ true;
    inner = λ w. false;
    R = λ {A} w m g. Simulates input (in_order w) m g;
    ret = λ w a. ret_simulates input (in_order w) a;
    bind = λ {A} {B} w {m} {n} {k} {l} r s. bind_simulates input (in_order w) m n k l r s;
    reads = λ w x i cell. reads_simulates input (in_order w) x i cell;
    writes = λ w x i v. writes_simulates input (in_order w) x i v;
    elaborates = λ {A} w region u x vs {m} {n} r. elaborates_simulates input asks limit cuts one (in_order w) m n r x vs region u;
    apart = λ {A} w {m} {n} r. apart_simulates input (in_order w) m n r;
    turn = λ w. turn_simulates input (in_order w) limit;
    look = λ w. look_simulates input (in_order w);
    checks = λ w kind token holds. checks_simulates input (in_order w) kind token holds;
    leaves = λ {A} w x. leaves_simulates input (in_order w) x;
    spent = λ {A} w. spent_simulates input (in_order w);
    handles = λ {A} w {m} {n} takes {h} {g} r s. handles_simulates input (in_order w) m n takes h g r s;
    puts = λ w allowed bytes. puts_simulates input (in_order w) allowed bytes;
    recalls = λ w allowed. recalls_simulates input (in_order w) allowed;
    keeps = λ w allowed held. keeps_simulates input (in_order w) allowed held;
    takes = λ w allowed. takes_simulates input (in_order w) allowed;
    loops = λ w site cut {f} {g} r. loops false (in_order w) refl site cut f g r;
    reduces = λ w site cut by token v {f} {g} {c} {c'} {d} {d'} r t u. reduces false (in_order w) refl site cut by token v f g c c' d d' r t u;
  }

  pub program_simulates : (program : Program) → KeepsRule program → Simulates input (in_order true) (main stores limit program) (main runs limit program)
  unfolding simulates
  program_simulates program keeps = Induction.main simulates limit program keeps true refl

  abbrev pub notes : Operations {1}
  notes = Stored.noted_operations limit cuts

  -- the outermost path by notes, unless there is one worker
  abbrev pub by_notes : Bool → Mode
  by_notes w = record { outermost = w; ordered = cond w one true }

  pub suits_notes : (w : Bool) → Suits true (by_notes w)
  suits_notes true = (λ e. e, λ e. absurd (true≢false e))
  suits_notes false = (λ e. refl, λ e. refl)

  unfoldable pub notes_simulate : Relates {1, 1, 0} notes runs
  notes_simulate = record {
    World = Bool;
    Open = λ w. w ≡ true;
    inner = λ w. false;
    R = λ {A} w m g. Simulates input (by_notes w) m g;
    ret = λ w a. ret_simulates input (by_notes w) a;
    bind = λ {A} {B} w {m} {n} {k} {l} r s. bind_simulates input (by_notes w) m n k l r s;
    reads = λ w x i cell. reads_simulates input (by_notes w) x i cell;
    writes = λ w x i v. writes_simulates input (by_notes w) x i v;
    elaborates = λ {A} w region u x vs {m} {n} r. elaborates_simulates input asks limit cuts one (by_notes w) m n r x vs region u;
    apart = λ {A} w {m} {n} r. apart_simulates input (by_notes w) m n r;
    turn = λ w. turn_simulates input (by_notes w) limit;
    look = λ w. bounded_look_simulates input (by_notes w);
    checks = λ w kind token holds. checks_simulates input (by_notes w) kind token holds;
    leaves = λ {A} w x. leaves_simulates input (by_notes w) x;
    spent = λ {A} w. spent_simulates input (by_notes w);
    handles = λ {A} w {m} {n} takes {h} {g} r s. handles_simulates input (by_notes w) m n takes h g r s;
    puts = λ w allowed bytes. puts_simulates input (by_notes w) allowed bytes;
    recalls = λ w allowed. recalls_simulates input (by_notes w) allowed;
    keeps = λ w allowed held. keeps_simulates input (by_notes w) allowed held;
    takes = λ w allowed. takes_simulates input (by_notes w) allowed;
    loops = λ w site cut {f} {g} r. loops true (by_notes w) (suits_notes w) site cut f g r;
    reduces = λ w site cut by token v {f} {g} {c} {c'} {d} {d'} r t u. reduces true (by_notes w) (suits_notes w) site cut by token v f g c c' d d' r t u;
  }

  pub noted_program_simulates : (program : Program) → KeepsRule program → Simulates input (by_notes true) (main notes limit program) (main runs limit program)
  unfolding notes_simulate
  noted_program_simulates program keeps = Induction.main notes_simulate limit program keeps true refl

-- programs

slot_none : (slots k : ℕ) → slot_at (replicate slots no_slot) k ≡ no_slot
slot_none zero k = refl
slot_none (suc slots) zero = refl
slot_none (suc slots) (suc k) = slot_none slots k

-- what stands behind a beginning
behind : (before out rest : List ℕ) → out ≡ before ++ rest → drop (length before) out ≡ rest
behind before out rest e = ap (drop (length before)) e ∙ drop-append_seam before rest

whole : (before out rest : List ℕ) → out ≡ before ++ rest → out ≡ before ++ drop (length before) out
whole before out rest e = e ∙ ap (λ z. before ++ z) (sym (behind before out rest e))

-- where a program begins, whether what it does outside is kept or not
abbrev pub outset_keeping : ℕ → List ℕ → List ℕ → Schedule → Option (List Deed) → State
outset_keeping slots input before notes so_far = record (outset slots input before) { notes = notes; done = so_far }

pub visible_outset : (slots : ℕ) (input before : List ℕ) (notes : Schedule) (so_far : Option (List Deed)) → Visible [] [] (outset_keeping slots input before notes so_far) nothing_visible
visible_outset slots input before notes so_far = record {
  here = λ x. ap (λ (z : Slot). nat_eq z.frame 1) (slot_none slots (Stored.key x));
  everywhere = λ x. ap (λ (z : Slot). nat_eq z.frame 1) (slot_none slots (Stored.key x));
  low = λ k. subst (λ (z : Slot). z.frame ≤ 1) (sym (slot_none slots k)) (omega arith);
}

none_tied : (c : Tie) → Tied [] [] c → ⊥
none_tied c (inl t) = t
none_tied c (inr t) = t

pub has_outset : (b : Mode) (slots : ℕ) (input before : List ℕ) (notes : Schedule) (so_far : Option (List Deed)) → b.outermost ≡ true → (b.ordered ≡ true → notes ≡ InOrder) → Has input b [] [] (outset_keeping slots input before notes so_far) start (empty (input_of input))
has_outset b slots input before notes so_far main_path ordered = record {
  one = λ c d t. absurd (none_tied c t);
  apart = λ c d i j t. absurd (none_tied c t);
  right = λ c i t. absurd (none_tied c t);
  zeros = λ c i t. absurd t;
  kept = λ c t. absurd t;
  past = λ c t. absurd (none_tied c t);
  new = λ e l i o le. refl;
  outer = λ e. refl;
  inside = λ e. absurd (true≢false (sym main_path ∙ e));
  ordered = ordered;
  taken = let z : 0 ≡ min 0 (length input) = omega arith in z;
  rest = refl;
  held = refl;
  bytes = refl;
  declared = refl;
}

-- only an exception leaves the main procedure
only_raises : (r : After (Unit {0})) (e : Result (Unit {0}) Cause) (t : State) (x : Leave) → handled r.state e (λ how. not (raises how)) (λ how. Stored.ret tt) ≡ at t (Err (Left x)) → raises x ≡ true
unfolding Stored.ret Stored.handles
only_raises r (Ok u) t x e = absurd (no (ap (λ (z : After (Unit {0})). z.end) e))
  where
    no : ◌≡◌ {A = Result (Unit {0}) Cause} (Ok u) (Err (Left x)) → ⊥
    no e = absurd (cc)
only_raises r (Err OutOfTurns) t x e = absurd (no (ap (λ (z : After (Unit {0})). z.end) e))
  where
    no : ◌≡◌ {A = Result (Unit {0}) Cause} (Err OutOfTurns) (Err (Left x)) → ⊥
    no e = absurd (cc)
only_raises r (Err NoRoom) t x e = absurd (no (ap (λ (z : After (Unit {0})). z.end) e))
  where
    no : ◌≡◌ {A = Result (Unit {0}) Cause} (Err NoRoom) (Err (Left x)) → ⊥
    no e = absurd (cc)
only_raises r (Err CutOff) t x e = absurd (no (ap (λ (z : After (Unit {0})). z.end) e))
  where
    no : ◌≡◌ {A = Result (Unit {0}) Cause} (Err CutOff) (Err (Left x)) → ⊥
    no e = absurd (cc)
only_raises r (Err Misnoted) t x e = absurd (no (ap (λ (z : After (Unit {0})). z.end) e))
  where
    no : ◌≡◌ {A = Result (Unit {0}) Cause} (Err Misnoted) (Err (Left x)) → ⊥
    no e = absurd (cc)
only_raises r (Err (Left y)) t x e = go (raises y) refl e
  where
    left : ◌≡◌ {A = Result (Unit {0}) Cause} (Err (Left y)) (Err (Left x)) → y ≡ x
    left e = cc

    no : ◌≡◌ {A = Result (Unit {0}) Cause} (Ok tt) (Err (Left x)) → ⊥
    no e = absurd (cc)

    go : (c : Bool) → raises y ≡ c → cond (not c) ((Stored.ret {A = Unit {0}} tt).does r.state) (at r.state (Err (Left y))) ≡ at t (Err (Left x)) → raises x ≡ true
    go true is e = sym (ap raises (left (ap (λ (z : After (Unit {0})). z.end) e))) ∙ is
    go false is e = absurd (no (ap (λ (z : After (Unit {0})). z.end) e))

-- a whole program in order or by notes
module _ (program : Program) (set : Setting) (slots : ℕ) (input before : List ℕ) (notes : Schedule) (so_far : Option (List Deed)) (b : Mode) (main_path : b.outermost ≡ true) (ordered : b.ordered ≡ true → notes ≡ InOrder) (inside : Stored (Unit {0}))
    (sim : Simulates input b (Stored.handles inside (λ how. not (raises how)) (λ how. Stored.ret tt)) (behaviour program set)) where
  abbrev whole_run : Stored (Unit {0})
  whole_run = Stored.handles inside (λ how. not (raises how)) (λ how. Stored.ret tt)

  abbrev first : State
  first = outset_keeping slots input before notes so_far

  abbrev from : Trace Instance → Bool → Path Instance → End (Unit {0}) → Type 0
  from tr y p e = (behaviour program set).runs nothing_visible start tr y p e

  came : Came input b [] [] first start (empty (input_of input)) ((behaviour program set).runs nothing_visible start) (whole_run.does first) (log whole_run first)
  came = sim.does [] [] first nothing_visible start (empty (input_of input)) (visible_outset slots input before notes so_far) (has_outset b slots input before notes so_far main_path ordered) refl

  stops_between : KeepsRule program → (front back : List Deed) → whole_run.deeds first ≡ front ++ back → StopsBetween program set input front back
  stops_between keeps front back e = between program set keeps input came.trace came.early came.path (end_of (whole_run.does first).end) came.run came.fits front back (came.deeds ∙ e)

  -- one that ends by itself
  permitted_end : (t : State) (e : Result (Unit {0}) Cause) (answer : Result (Unit {0}) Stop) → Came input b [] [] first start (empty (input_of input)) ((behaviour program set).runs nothing_visible start) (at t e) (log whole_run first)
      → ((tr : Trace Instance) (p : Path Instance) (end : End (Unit {0})) → end ≡ end_of e → put_out before t ≡ output_of tr → EndsAs program set tr p end (put_out before t) (Stored.ending_of answer))
      → (t.output ≡ before ++ put_out before t) × ((early : Bool) × IsPermitted program set input early (outcome_of program before answer t))
  permitted_end t e answer d ends = (
    whole before t.output (output_of d.trace) d.output,
    (
      d.early,
      record {
        trace = d.trace;
        path = d.path;
        end = end_of e;
        run = d.run;
        fits = d.fits;
        ends = ends d.trace d.path (end_of e) refl (behind before t.output (output_of d.trace) d.output);
        taken = d.has.taken;
        finals = finals_right input b [] d.ties t d.path (after (empty (input_of input)) d.trace) d.has program;
      },
    ),
  )

  begins : (tr : Trace Instance) → StopsWith ((behaviour program set).runs nothing_visible start) tr → BeginsRun program set tr
  begins tr k = record { rest = []; early = k.0; path = k.1; end = Stopped; run = subst (λ z. from z k.0 k.1 Stopped) (sym (append-nil tr)) k.2 }

  permitted_fault : (f : Outage) (t : State) → Halted input b first start (empty (input_of input)) ((behaviour program set).runs nothing_visible start) f t → (t.output ≡ before ++ put_out before t) × ((early : Bool) × IsPermitted program set input early (outcome_of program before (Err (Fails f)) t))
  permitted_fault f t d = (
    followed f d.told,
    (
      d.early,
      record {
        trace = d.trace;
        path = d.path;
        end = Stopped;
        run = d.run;
        fits = d.fits;
        ends = ends f d.told;
        taken = d.taken;
        finals = d.finals program;
      },
    ),
  )
    where
      followed : (f : Outage) → Told f before t.output d.trace d.path (StopsWith ((behaviour program set).runs nothing_visible start)) → t.output ≡ before ++ put_out before t
      followed MemoryFault k = whole before t.output (output_of d.trace) k
      followed InputFault k = whole before t.output (output_of d.trace) k.0
      followed OutputFault k = whole before t.output (output_of d.trace ++ k.0) k.2

      ends : (f : Outage) → Told f before t.output d.trace d.path (StopsWith ((behaviour program set).runs nothing_visible start)) → EndsAs program set d.trace d.path Stopped (put_out before t) (Stored.ending_of (Err (Fails f)))
      ends MemoryFault k = (refl, behind before t.output (output_of d.trace) k)
      ends InputFault k = (refl, behind before t.output (output_of d.trace) k.0, (k.1.0, begins (d.trace ++ (Takes d.path.taken k.1.0 ∷ [])) k.1.1))
      ends OutputFault k = (refl, (k.0, k.1, behind before t.output (output_of d.trace ++ k.0) k.2, begins (d.trace ++ (Puts (k.0 ++ k.1) ∷ [])) k.3))

  permitted : (answer : Result (Unit {0}) Stop) (t : State) → Computes whole_run first answer t → (t.output ≡ before ++ put_out before t) × ((early : Bool) × IsPermitted program set input early (outcome_of program before answer t))
  unfolding Stored.handles
  permitted (Ok u) t c = permitted_end t (Ok u) (Ok u) (subst (λ z. Came input b [] [] first start (empty (input_of input)) ((behaviour program set).runs nothing_visible start) z (log whole_run first)) c came) (λ tr p end e o. (e, o))
  permitted (Err (Goes OutOfTurns)) t c = permitted_end t (Err OutOfTurns) (Err (Goes OutOfTurns)) (subst (λ z. Came input b [] [] first start (empty (input_of input)) ((behaviour program set).runs nothing_visible start) z (log whole_run first)) c came) (λ tr p end e o. (e, o))
  permitted (Err (Goes NoRoom)) t c = permitted_end t (Err NoRoom) (Err (Goes NoRoom)) (subst (λ z. Came input b [] [] first start (empty (input_of input)) ((behaviour program set).runs nothing_visible start) z (log whole_run first)) c came) (λ tr p end e o. (e, o))
  permitted (Err (Goes CutOff)) t c = permitted_end t (Err CutOff) (Err (Goes CutOff)) (subst (λ z. Came input b [] [] first start (empty (input_of input)) ((behaviour program set).runs nothing_visible start) z (log whole_run first)) c came) (λ tr p end e o. (e, o))
  permitted (Err (Goes Misnoted)) t c = permitted_end t (Err Misnoted) (Err (Goes Misnoted)) (subst (λ z. Came input b [] [] first start (empty (input_of input)) ((behaviour program set).runs nothing_visible start) z (log whole_run first)) c came) (λ tr p end e o. (e, o))
  permitted (Err (Goes (Left x))) t c = by x c
    where
      by : (x : Leave) → Computes whole_run first (Err (Goes (Left x))) t → (t.output ≡ before ++ put_out before t) × ((early : Bool) × IsPermitted program set input early (outcome_of program before (Err (Goes (Left x))) t))
      by (Raises r) c = permitted_end t (Err (Left (Raises r))) (Err (Goes (Left (Raises r)))) (subst (λ z. Came input b [] [] first start (empty (input_of input)) ((behaviour program set).runs nothing_visible start) z (log whole_run first)) c came) (λ tr p end e o. (e, o))
      by (Exits n) c = absurd (true≢false (sym (only_raises (inside.does first) (inside.does first).end t (Exits n) c)))
      by (Returns v) c = absurd (true≢false (sym (only_raises (inside.does first) (inside.does first).end t (Returns v) c)))
  permitted (Err (Fails f)) t c = permitted_fault f t (halted_stops input b whole_run (behaviour program set) sim [] [] first nothing_visible start (empty (input_of input)) (visible_outset slots input before notes so_far) (has_outset b slots input before notes so_far main_path ordered) refl f t c)

module _ (program : Program) (set : Setting) (slots : ℕ) (input before : List ℕ) (keeps : KeepsRule program) where
  abbrev in_order_mode : Mode
  in_order_mode = in_order input asks_at_once set.limit (cuts_of set.plan) set.one true

  stored_permitted : (answer : Result (Unit {0}) Stop) (t : State) → Computes (stored program set) (outset slots input before) answer t → (t.output ≡ before ++ put_out before t) × ((early : Bool) × IsPermitted program set input early (outcome_of program before answer t))
  stored_permitted answer t c =
      let ops = stores input asks_at_once set.limit (cuts_of set.plan) set.one in
      permitted program set slots input before InOrder None in_order_mode refl (λ e. refl) (exec_body ops set.limit program (call ops set.limit program most_calls) program.body Everywhere (Meaning.outset 0))
      (program_simulates input asks_at_once set.limit (cuts_of set.plan) set.one program keeps) answer t c

  noted_permitted : (notes : Schedule) → (set.one ≡ true → notes ≡ InOrder) → (answer : Result (Unit {0}) Stop) (t : State) → Computes (noted program set) (noted_outset slots input before notes) answer t
      → (t.output ≡ before ++ put_out before t) × ((early : Bool) × IsPermitted program set input early (outcome_of program before answer t))
  noted_permitted schedule alone answer t c =
      let ops = notes input asks_at_once set.limit (cuts_of set.plan) set.one in
      permitted program set slots input before schedule (Some []) (by_notes input asks_at_once set.limit (cuts_of set.plan) set.one true) refl alone (exec_body ops set.limit program (call ops set.limit program most_calls) program.body Everywhere (Meaning.outset 0))
      (noted_program_simulates input asks_at_once set.limit (cuts_of set.plan) set.one program keeps) answer t c

  stored_between : (front back : List Deed) → (stored program set).deeds (outset slots input before) ≡ front ++ back → StopsBetween program set input front back
  stored_between front back e =
      let ops = stores input asks_at_once set.limit (cuts_of set.plan) set.one in
      stops_between program set slots input before InOrder None in_order_mode refl (λ e. refl) (exec_body ops set.limit program (call ops set.limit program most_calls) program.body Everywhere (Meaning.outset 0))
      (program_simulates input asks_at_once set.limit (cuts_of set.plan) set.one program keeps) keeps front back e

  noted_between : (notes : Schedule) → (set.one ≡ true → notes ≡ InOrder) → (front back : List Deed) → (noted program set).deeds (noted_outset slots input before notes) ≡ front ++ back → StopsBetween program set input front back
  noted_between schedule alone front back e =
      let ops = notes input asks_at_once set.limit (cuts_of set.plan) set.one in
      stops_between program set slots input before schedule (Some []) (by_notes input asks_at_once set.limit (cuts_of set.plan) set.one true) refl alone (exec_body ops set.limit program (call ops set.limit program most_calls) program.body Everywhere (Meaning.outset 0))
      (noted_program_simulates input asks_at_once set.limit (cuts_of set.plan) set.one program keeps) keeps front back e

pub stored_law : StoredLaw
stored_law program set slots input before answer t keeps c = stored_permitted program set slots input before keeps answer t c

pub noted_law : NotedLaw
noted_law program set slots input before notes answer t keeps alone c = noted_permitted program set slots input before keeps notes alone answer t c

pub stopped_law : StoppedLaw
stopped_law program set slots input before keeps front back e = stored_between program set slots input before keeps front back e

pub noted_stopped_law : NotedStoppedLaw
noted_stopped_law program set slots input before notes keeps alone front back e = noted_between program set slots input before keeps notes alone front back e

answered_computes : {A : Type 0} (m : Stored A) (s : State) (e : Result A Cause) → (m.does s).end ≡ e → Computes m s (Stored.answered e) (m.does s).state
answered_computes m s (Ok a) is = ap (λ z. at (m.does s).state z) is
answered_computes m s (Err c) is = ap (λ z. at (m.does s).state z) is

pub some_law : SomeLaw
some_law program set slots input keeps =
    let r = (stored program set).does (outset slots input []) in
    (stored_permitted program set slots input [] keeps (Stored.answered r.end) r.state (answered_computes (stored program set) (outset slots input []) r.end refl)).1

pub journal_law : JournalLaw
journal_law program set slots input notes o keeps many (used, is, itself) =
    let r = (noted program set).does (noted_outset slots input [] (ByNotes notes)) in
    let p = (noted_permitted program set slots input [] keeps (ByNotes notes) (λ e. absurd (true≢false (sym e ∙ many))) (Stored.answered r.end) r.state (answered_computes (noted program set) (noted_outset slots input [] (ByNotes notes)) r.end refl)).1 in
    (p.0, subst (λ z. IsPermitted program set input p.0 z) (sym is) p.1)

-- with one worker, which no stored run tells from more
pub stored_sequential_law : StoredSequentialLaw
stored_sequential_law program set slots input before answer t keeps plan calm c itself =
    let p = (stored_permitted program (record { plan = set.plan; one = true; limit = set.limit }) slots input before keeps answer t c).1 in
    (one_sequential_law program (record { plan = set.plan; one = true; limit = set.limit }) input keeps plan refl calm).0 p.0 (outcome_of program before answer t) p.1 itself
