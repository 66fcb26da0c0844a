-- The threads that a run by notes begins are so as is asked of the constructs of the program's runs.
use Rattle.std.proofs.Common.{◌≡◌, ℕ, zero, suc, ℤ, List, [], ◌∷◌, Option, Some, None, Result, Ok, Err, ◌⊎◌, inl, inr, Bool, true, false, cond, not, is_some, refl, sym, subst, ◌||◌, ◌+◌, length, le_refl}
use Rattle.typed_tree.specs.declared.expressions.Reducer.{Reducer}
use Rattle.typed_tree.specs.declared.expressions.Reducer.TheVariants.{Operator, Function}
use Rattle.typed_tree.specs.Syntax.{Program}
use Rattle.ada_base.specs.Cuts.{cuts_of}
use Rattle.behaviours.specs.Doings.{through, onto, folded}
use Rattle.behaviours.specs.Paths.{Leave, Entity, Region, Everywhere, Here, Instance, Path, Scope, declares, apart_of, one_elaboration, enter, leave, is_inside, start, nothing_visible}
use Rattle.behaviours.specs.Events.{Trace}
use Rattle.behaviours.specs.Memory.{Memory, put_all, after, empty}
use Rattle.behaviours.specs.Joins.{Share, Site, deal}
use Rattle.behaviours.specs.Behaviours.{Behaviour, Asks, MayTrace, EachSafe}
use Rattle.behaviours.specs.Behaviours
use Rattle.ada_meaning.specs.Values.{result, divides, overflows, is_zero, value_or_zero}
use Rattle.ada_meaning.specs.Operations.{CheckKind, ZeroCheck, OverflowCheck, Cut, chunk_of, Operations, reduce, zero_checked, overflow_checked}
use Rattle.ada_meaning.specs.Meaning.{main}
use Rattle.ada_meaning.specs.Runs
use Rattle.ada_meaning.specs.Runs.{anything}
use Rattle.ada_meaning.specs.Programs.{this, Setting, input_of, runs_of}
use Rattle.ada_meaning.specs.Nonblocking.{KeepsRule}
use Rattle.ada_meaning.specs.Planned.{here}
use Rattle.ada_meaning.specs.Touched.{EachTeam}
use Rattle.ada_meaning.specs.Stored
use Rattle.ada_base.specs.Notes.{Schedule, InOrder}
use Rattle.ada_meaning.specs.Stored.{State, Touch, Thread, Team, Visit, ThreadOf, TeamOf, Stored, After, at, Cause, Left, OutOfTurns, NoRoom, CutOff, Misnoted, begun, has_room, noted, noted_outset}
use Rattle.ada_meaning.proofs.Induction
use Rattle.ada_meaning.proofs.Induction.{Relates}
use Rattle.ada_meaning.proofs.Lays.{Mode, threaded, Tie, Has, Visible, visible_same, has_moved}
use Rattle.ada_meaning.proofs.Elaborated.{stacked, kept, has_here, has_everywhere, visible_here, visible_everywhere, visible_apart}
use Rattle.ada_meaning.proofs.Simulates.{Log, log, Came, Simulates, before_level, AllShow, show_more, EachVisit, fine_append, FineFor, end_of, ret_simulates, leaves_simulates, bind_simulates}
use Rattle.ada_meaning.proofs.Woven.{gathered_all, EachFine, noted_fine_par, noted_fine_after}
use Rattle.ada_meaning.proofs.StoredProof.{runs, notes, by_notes, suits_notes, notes_simulate, team_simulates, same_sizes, all_gathered, visible_outset, has_outset}

-- one of these threads
abbrev pub IsShare : Share → List Share → Type 0
IsShare j [] = ⊥
IsShare j (k ∷ ks) = (j ≡ k) ⊎ IsShare j ks

-- what is known of a thread of a construct: it is one of those, and has a trace with an action for each cell that it touches
abbrev pub Known : List Tie → List Tie → State → (Share → Trace Instance → Type 0) → List Share → Thread → Type 0
Known ls gs s may js b = IsShare b.share js × ((tr : Trace Instance) × may b.share tr × AllShow ls gs s tr b.touches)

abbrev pub AllKnown : List Tie → List Tie → State → (Share → Trace Instance → Type 0) → List Share → List Thread → Type 0
AllKnown ls gs s may js [] = Unit {0}
AllKnown ls gs s may js (b ∷ bs) = Known ls gs s may js b × AllKnown ls gs s may js bs

-- what is asked of a construct tells so much of its threads
abbrev pub LawFor : List ℕ → Asks Instance → (Team → Type 0) → Type 1
LawFor input asks F =
    (b : Mode) (ls gs : List Tie) (s : State) (t : Scope Instance) (p : Path Instance) (n : Memory) → Visible ls gs s t → Has input b ls gs s p n → (ordered : Bool) (site : Site) (js : List Share) (may : Share → Trace Instance → Type 0)
    → asks ordered p.name site p.constructs t js may → (bs : List Thread) → AllKnown ls gs s may js bs → (u : State) → F (record { site = site; begun = s; ended = u; threads = bs })

-- a team is so, and no thread is loose
abbrev OfTeam : (Team → Type 0) → Visit → Type 0
OfTeam F (ThreadOf b) = ⊥
OfTeam F (TeamOf t) = F t

-- a team is so, and a thread is known
abbrev InTeam : (Team → Type 0) → (Thread → Type 0) → Visit → Type 0
InTeam F G (ThreadOf b) = G b
InTeam F G (TeamOf t) = F t

in_team : (F : Team → Type 0) (G : Thread → Type 0) (vs : List Visit) → EachVisit (OfTeam F) vs → EachVisit (InTeam F G) vs
in_team F G [] h = tt
in_team F G (ThreadOf b ∷ vs) h = absurd h.0
in_team F G (TeamOf t ∷ vs) h = (h.0, in_team F G vs h.1)

teams_so : (F : Team → Type 0) (G : Thread → Type 0) (vs : List Visit) → EachVisit (InTeam F G) vs → EachVisit (OfTeam F) (Stored.teams vs)
teams_so F G [] h = tt
teams_so F G (ThreadOf b ∷ vs) h = teams_so F G vs h.1
teams_so F G (TeamOf t ∷ vs) h = (h.0, teams_so F G vs h.1)

each_team : (F : Team → Type 0) (vs : List Visit) → EachVisit (OfTeam F) vs → EachTeam F vs
each_team F [] h = tt
each_team F (ThreadOf b ∷ vs) h = absurd h.0
each_team F (TeamOf t ∷ vs) h = (h.0, each_team F vs h.1)

loose_known : (F : Team → Type 0) (ls gs : List Tie) (s : State) (may : Share → Trace Instance → Type 0) (js : List Share) (vs : List Visit) → EachVisit (InTeam F (Known ls gs s may js)) vs → AllKnown ls gs s may js (Stored.loose vs)
loose_known F ls gs s may js [] h = tt
loose_known F ls gs s may js (ThreadOf b ∷ vs) h = (h.0, loose_known F ls gs s may js vs h.1)
loose_known F ls gs s may js (TeamOf t ∷ vs) h = loose_known F ls gs s may js vs h.1

module _ (input : List ℕ) (asks : Asks Instance) (limit : ℕ) (cuts : ℕ → ℕ → List ℕ) (one : Bool) (P : Team → Type 0) (law : LawFor input asks P) where
  abbrev ops : Operations {1}
  ops = runs input asks limit cuts one

  abbrev stores : Operations {1}
  stores = notes input asks limit cuts one

  abbrev mode : Bool → Mode
  mode w = by_notes input asks limit cuts one w

  abbrev F : Visit → Type 0
  F = OfTeam P

  record Seen {A : Type 0} (w : Bool) (m : Stored A) (g : Behaviour Instance A) : Type 0 where
    pub sim : Simulates input (mode w) m g
    pub fine : FineFor input F (mode w) m g

  plain : {A : Type 0} (w : Bool) (m : Stored A) (g : Behaviour Instance A) → Simulates input (mode w) m g → ((s : State) → m.visits s ≡ []) → Seen w m g
  plain w m g sim none = record { sim = sim; fine = λ ls gs s t p n v h e safe. subst (λ z. EachVisit F z) (sym (none s)) tt }

  ret_seen : {A : Type 0} (w : Bool) (a : A) → Seen w (Stored.ret a) (Behaviours.ret a)
  unfolding Stored.ret
  ret_seen w a = plain w (Stored.ret a) (Behaviours.ret a) (ret_simulates input (mode w) a) (λ s. refl)

  leaves_seen : {A : Type 0} (w : Bool) (x : Leave) → Seen {A = A} w (Stored.leaves x) (Behaviours.leaves x)
  unfolding Stored.leaves
  leaves_seen {A} w x = plain w (Stored.leaves {A = A} x) (Behaviours.leaves x) (leaves_simulates input (mode w) x) (λ s. refl)

  checks_seen : (w : Bool) (kind : CheckKind) (token : ℕ) (holds : Bool) → Seen w (Stored.checks kind token holds) (Runs.checks kind token holds)
  checks_seen w kind token true = ret_seen w tt
  checks_seen w kind token false = leaves_seen w _

  bind_seen : {A B : Type 0} (w : Bool) (m : Stored A) (g : Behaviour Instance A) (k : A → Stored B) (l : A → Behaviour Instance B) → Seen w m g → ((a : A) → Seen w (k a) (l a)) → Seen w (Stored.bind m k) (Behaviours.◌>>=◌ g l)
  unfolding Stored.bind
  bind_seen {A} {B} w m g k l first rest = record {
    sim = bind_simulates input (mode w) m g k l first.sim (λ a. (rest a).sim);
    fine = λ ls gs s t p n v h e safe.
        fine_append F (m.visits s) (Stored.next_visits (m.does s).state (m.does s).end k) (first.fine ls gs s t p n v h e safe.0)
        (go ls gs s t p n v safe (m.does s) (log m s) (m.does s).end refl (first.sim.does ls gs s t p n v h e));
  }
    where
      go : (ls gs : List Tie) (s : State) (t : Scope Instance) (p : Path Instance) (n : Memory) → Visible ls gs s t → (Behaviours.◌>>=◌ g l).safe t p → (r : After A) (ds : Log) (e : Result A Cause) → r.end ≡ e → Came input (mode w) ls gs s p n (g.runs t p) r ds → EachVisit F (Stored.next_visits r.state e k)
      go ls gs s t p n v safe r ds (Ok a) eq d =
          (rest a).fine ls d.ties r.state t d.path (after n d.trace) (visible_same ls gs d.ties s r.state t d.grows d.same v) d.has d.turns (safe.1 a d.path d.trace d.early (subst (λ z. g.runs t p d.trace d.early d.path (end_of z)) eq d.run))
      go ls gs s t p n v safe r ds (Err c) eq d = tt

  handles_seen : {A : Type 0} (w : Bool) (m : Stored A) (g : Behaviour Instance A) (takes : Leave → Bool) (k : Leave → Stored A) (l : Leave → Behaviour Instance A) → Seen w m g → ((x : Leave) → Seen w (k x) (l x)) → Seen w (Stored.handles m takes k) (Behaviours.handles g takes l)
  unfolding Stored.handles notes_simulate
  handles_seen {A} w m g takes k l first rest = record {
    sim = (notes_simulate input asks limit cuts one).handles w takes first.sim (λ x. (rest x).sim);
    fine = λ ls gs s t p n v h e safe.
        fine_append F (m.visits s) (Stored.handled_visits (m.does s).state (m.does s).end takes k) (first.fine ls gs s t p n v h e safe.0)
        (go ls gs s t p n v safe (m.does s) (log m s) (m.does s).end refl (first.sim.does ls gs s t p n v h e));
  }
    where
      taken : (ls gs : List Tie) (s : State) (t : Scope Instance) (p : Path Instance) (n : Memory) → Visible ls gs s t → (Behaviours.handles g takes l).safe t p → (r : After A) (ds : Log) (x : Leave) → r.end ≡ Err (Left x) → Came input (mode w) ls gs s p n (g.runs t p) r ds → (c : Bool) → takes x ≡ c → EachVisit F (cond c ((k x).visits r.state) [])
      taken ls gs s t p n v safe r ds x eq d true is =
          (rest x).fine ls d.ties r.state t d.path (after n d.trace) (visible_same ls gs d.ties s r.state t d.grows d.same v) d.has d.turns (safe.1 x d.path d.trace d.early (subst (λ z. g.runs t p d.trace d.early d.path (end_of z)) eq d.run) is)
      taken ls gs s t p n v safe r ds x eq d false is = tt

      go : (ls gs : List Tie) (s : State) (t : Scope Instance) (p : Path Instance) (n : Memory) → Visible ls gs s t → (Behaviours.handles g takes l).safe t p → (r : After A) (ds : Log) (e : Result A Cause) → r.end ≡ e → Came input (mode w) ls gs s p n (g.runs t p) r ds → EachVisit F (Stored.handled_visits r.state e takes k)
      go ls gs s t p n v safe r ds (Ok a) eq d = tt
      go ls gs s t p n v safe r ds (Err (Left x)) eq d = taken ls gs s t p n v safe r ds x eq d (takes x) refl
      go ls gs s t p n v safe r ds (Err OutOfTurns) eq d = tt
      go ls gs s t p n v safe r ds (Err NoRoom) eq d = tt
      go ls gs s t p n v safe r ds (Err CutOff) eq d = tt
      go ls gs s t p n v safe r ds (Err Misnoted) eq d = tt

  apart_seen : {A : Type 0} (w : Bool) (m : Stored A) (g : Behaviour Instance A) → Seen w m g → Seen w (Stored.apart m) (Behaviours.apart g)
  unfolding Stored.apart notes_simulate
  apart_seen w m g first = record {
    sim = (notes_simulate input asks limit cuts one).apart w first.sim;
    fine = λ ls gs s t p n v h e safe.
        let s1 : State = record s { frame = s.frame + 1 } in
        first.fine ls gs s1 (apart_of t) p n (visible_apart ls gs s t v) (has_moved input (mode w) ls gs s p n h s1 p n refl refl refl refl refl refl (λ x f. f) refl (le_refl p.elaborations) refl h.taken h.rest h.held) e safe;
  }

  elaborates_seen : {A : Type 0} (w : Bool) (region : Region) → (region ≡ Everywhere → w ≡ true) → (x : Entity) (vs : List ℤ) (m : Stored A) (g : Behaviour Instance A) → Seen w m g → Seen w (Stored.elaborates region x vs m) (Behaviours.elaborates this region x vs g)
  unfolding Stored.elaborates notes_simulate
  elaborates_seen {A} w region u x vs m g first = record {
    sim = (notes_simulate input asks limit cuts one).elaborates w region u x vs first.sim;
    fine = λ ls gs s t p n v h e safe. go region u ls gs s t p n v h e safe (has_room region x s) refl;
  }
    where
      go : (region : Region) → (region ≡ Everywhere → w ≡ true) → (ls gs : List Tie) (s : State) (t : Scope Instance) (p : Path Instance) (n : Memory) → Visible ls gs s t → Has input (mode w) ls gs s p n → s.turns ≡ p.turns → (Behaviours.elaborates this region x vs g).safe t p
          → (c : Bool) → has_room region x s ≡ c → EachVisit F (cond c (m.visits (begun region x vs s)) [])
      go region u ls gs s t p n v h e safe false room = tt
      go Here u ls gs s t p n v h e safe true room =
          first.fine (stacked input (mode w) ls gs s p n h x vs ∷ ls) gs (begun Here x vs s) (declares Here x (here x p) (length vs) t) (one_elaboration Here (here x p) p) (put_all n (here x p) 0 vs) (visible_here ls gs s t v x vs (here x p) room) (has_here input (mode w) ls gs s p n h x vs) e safe
      go Everywhere u ls gs s t p n v h e safe true room =
          first.fine ls (kept input (mode w) ls gs s p n h x vs ∷ gs) (begun Everywhere x vs s) (declares Everywhere x (here x p) (length vs) t) (one_elaboration Everywhere (here x p) p) (put_all n (here x p) 0 vs) (visible_everywhere ls gs s t v x vs (here x p) room)
          (has_everywhere input (mode w) ls gs s p n h x vs (u refl)) e safe

  choose : {A : Type 0} (w : Bool) (c : Bool) {m k : Stored A} {g l : Behaviour Instance A} → Seen w m g → Seen w k l → Seen w (cond c m k) (cond c g l)
  choose w true r s = r
  choose w false r s = s

  goes_through : {A : Type 0} (w : Bool) (first size : ℕ) (a : A) (f : ℕ → A → Stored A) (g : ℕ → A → Behaviour Instance A) → ((i : ℕ) (a : A) → Seen w (f i a) (g i a)) → Seen w (through stores.doings first size a f) (through ops.doings first size a g)
  goes_through w first zero a f g r = ret_seen w a
  goes_through w first (suc size) a f g r = bind_seen w (f first a) (g first a) (λ c. through stores.doings (suc first) size c f) (λ c. through ops.doings (suc first) size c g) (r first a) (λ c. goes_through w (suc first) size c f g r)

  goes_onto : (w : Bool) (a : ℤ) (more : List ℤ) (f : ℤ → ℤ → Stored ℤ) (g : ℤ → ℤ → Behaviour Instance ℤ) → ((x y : ℤ) → Seen w (f x y) (g x y)) → Seen w (onto stores.doings a more f) (onto ops.doings a more g)
  goes_onto w a [] f g r = ret_seen w a
  goes_onto w a (c ∷ more) f g r = bind_seen w (f a c) (g a c) (λ d. onto stores.doings d more f) (λ d. onto ops.doings d more g) (r a c) (λ d. goes_onto w d more f g r)

  folds : (w : Bool) (f : ℤ → ℤ → Stored ℤ) (g : ℤ → ℤ → Behaviour Instance ℤ) → ((x y : ℤ) → Seen w (f x y) (g x y)) → (x : ℤ) (v : Option ℤ) → Seen w (folded stores.doings f x v) (folded ops.doings g x v)
  folds w f g r x None = ret_seen w x
  folds w f g r x (Some v) = r x v

  reduces_step : (w : Bool) (by : Reducer) (token : ℕ) (f : ℤ → ℤ → Stored ℤ) (g : ℤ → ℤ → Behaviour Instance ℤ) → ((x y : ℤ) → Seen w (f x y) (g x y)) → (x y : ℤ) → Seen w (reduce stores.doings stores.checks by token f x y) (reduce ops.doings ops.checks by token g x y)
  reduces_step w (Operator t op class) token f g r x y =
      let z = result op class x y in
      bind_seen w (zero_checked stores.doings stores.checks op token y) (zero_checked ops.doings ops.checks op token y)
      (λ _. stores.◌>>=◌ (overflow_checked stores.doings stores.checks op token z) (λ _. stores.ret (value_or_zero z)))
      (λ _. ops.◌>>=◌ (overflow_checked ops.doings ops.checks op token z) (λ _. ops.ret (value_or_zero z)))
      (choose w (divides op) (checks_seen w ZeroCheck token (not (is_zero y))) (ret_seen w tt))
      (λ _. bind_seen w (overflow_checked stores.doings stores.checks op token z) (overflow_checked ops.doings ops.checks op token z) (λ _. stores.ret (value_or_zero z)) (λ _. ops.ret (value_or_zero z))
      (choose w (overflows op) (checks_seen w OverflowCheck token (is_some z)) (ret_seen w tt))
      (λ _. ret_seen w (value_or_zero z)))
  reduces_step w (Function t s v y') token f g r x y = r x y

  combines : (w : Bool) (initial : ℤ) (values : List ℤ) (f : ℤ → ℤ → Stored ℤ) (g : ℤ → ℤ → Behaviour Instance ℤ) → ((x y : ℤ) → Seen w (f x y) (g x y)) → Seen w (Stored.combined limit cuts initial values f) (Runs.combined Instance this anything asks limit cuts one initial values g)
  combines w initial [] f g r = ret_seen w initial
  combines w initial (a ∷ more) f g r = goes_onto w a more f g r

  -- constructs

  module _ {A B C : Type 0} (w : Bool) (f : B → A → B) (body : Share → Stored A) (g : Share → Behaviour Instance A) (r : (j : Share) → Seen false (body j) (g j)) (site : Site) (js : List Share) (b0 : B) (k : B → Stored C) (l : List A → Behaviour Instance C) (t : (values : List A) → Seen w (k (gathered_all f b0 values)) (l values)) where
    abbrev thread : Share → Behaviour Instance A
    thread j = Behaviours.within j.number (g j)

    abbrev team : Behaviour Instance C
    team = Behaviours.◌>>=◌ (Behaviours.par asks one site js thread) l

    visit_simulates : (j : Share) → Simulates input threaded (Stored.visited j (body j)) (g j)
    visit_simulates j = record { stops = (r j).sim.stops; does = (r j).sim.does; halts = (r j).sim.halts }

    -- in one construct
    module _ (ls gs : List Tie) (s : State) (sc : Scope Instance) (p : Path Instance) where
      abbrev may : Share → Trace Instance → Type 0
      may j tr = MayTrace (thread j) sc p tr

      abbrev G : Visit → Type 0
      G = InTeam P (Known ls gs s may js)

      each_fine : (rest : List Share) → ((j : Share) → IsShare j rest → IsShare j js) → EachSafe thread sc p rest → EachFine input f (mode w) (λ j. Stored.visited j (body j)) g visit_simulates ls gs sc p G s rest
      each_fine [] among safe = tt
      each_fine (j ∷ rest) among safe = (
        (λ u n v h e level.
            let d = (r j).sim.does ls gs u sc (enter j.number p) n v h e in (
              (
                among j (inl refl),
                (
                  d.trace,
                  record { early = d.early; path = leave p d.path; end = end_of ((body j).does u).end; run = (d.path, refl, d.run) },
                  show_more ls gs ls gs u s d.trace d.trace (λ a z. before_level s u level a z) (λ c i z y. z) (λ Q z. z) ((body j).touches u) (d.touched refl),
                ),
              ),
              in_team P (Known ls gs s may js) ((body j).visits u) ((r j).fine ls gs u sc (enter j.number p) n v h e safe.0),
            )),
        each_fine rest (λ k z. among k (inr z)) safe.1,
      )

    team_seen : Seen w (Stored.bind (Stored.noted_team site f b0 js body) k) team
    unfolding Stored.bind Stored.noted_team
    team_seen = record {
      sim = team_simulates input asks limit cuts one true (mode w) (suits_notes input asks limit cuts one w) f body g (λ j. (r j).sim) site js b0 k l (λ values. (t values).sim);
      fine = λ ls gs s sc p n v h e safe.
          let suits = suits_notes input asks limit cuts one w in
          let m = Stored.noted_par f b0 js (λ j. Stored.visited j (body j)) in
          let inner = noted_fine_par input f (mode w) (λ j. Stored.visited j (body j)) g visit_simulates asks limit cuts one site js b0 k l (λ values. (t values).sim) suits.0 suits.1 ls gs s sc p n v h e (G ls gs s sc p) (each_fine ls gs s sc p js (λ j z. z) safe.0.1) in (
            (law (mode w) ls gs s sc p n v h (one || is_inside p) site js (may ls gs s sc p) safe.0.0 (Stored.loose (m.visits s)) (loose_known P ls gs s (may ls gs s sc p) js (m.visits s) inner) (m.does s).state),
            fine_append F (Stored.teams (m.visits s)) (Stored.next_visits (m.does s).state (m.does s).end k) (teams_so P (Known ls gs s (may ls gs s sc p) js) (m.visits s) inner)
                (noted_fine_after input f (mode w) (λ j. Stored.visited j (body j)) g visit_simulates asks limit cuts one site js b0 k l (λ values. (t values).sim) suits.0 suits.1 ls gs s sc p n v h e F (λ values. (t values).fine) safe),
          );
    }

  loops_seen : (w : Bool) (site : Site) (cut : Cut) (f : ℕ → ℕ → Stored (Unit {0})) (g : ℕ → ℕ → Behaviour Instance (Unit {0})) → ((j i : ℕ) → Seen false (f j i) (g j i)) → Seen w (stores.loops site cut f) (ops.loops site cut g)
  loops_seen w site cut f g r =
      subst (λ z. Seen w (Stored.bind (Stored.noted_team site Stored.first_of_both tt (deal 0 0 z) (Stored.loop_thread (λ j. f (chunk_of cut j)))) (λ _. Stored.ret {A = Unit {0}} tt)) (ops.loops site cut g)) (sym (same_sizes input asks limit cuts one cut))
      (team_seen w Stored.first_of_both (Stored.loop_thread (λ j. f (chunk_of cut j))) (λ c. through ops.doings c.first c.size tt (λ i _. g (chunk_of cut c.number) i))
      (λ c. goes_through false c.first c.size tt (λ i _. f (chunk_of cut c.number) i) (λ i _. g (chunk_of cut c.number) i) (λ i _. r (chunk_of cut c.number) i))
      site (deal 0 0 (Runs.sizes_of Instance this anything asks limit cuts one cut)) tt (λ _. Stored.ret tt) (λ _. Behaviours.ret tt) (λ values. ret_seen w tt))

  reduces_seen : (w : Bool) (site : Site) (cut : Cut) (by : Reducer) (token : ℕ) (v : ℤ) (f : ℕ → ℕ → Stored (Option ℤ)) (g : ℕ → ℕ → Behaviour Instance (Option ℤ)) (c c' : ℤ → ℤ → Stored ℤ) (d d' : ℤ → ℤ → Behaviour Instance ℤ)
      → ((j i : ℕ) → Seen false (f j i) (g j i)) → ((x y : ℤ) → Seen false (c x y) (d x y)) → ((x y : ℤ) → Seen w (c' x y) (d' x y)) → Seen w (stores.reduces site cut by token v f c c') (ops.reduces site cut by token v g d d')
  reduces_seen w site cut by token v f g c c' d d' r t u =
      subst (λ z. Seen w (Stored.bind (Stored.noted_team site Stored.after_all [] (deal 0 0 z) (Stored.fold_thread by token v (λ j. f (chunk_of cut j)) c)) (λ values. Stored.combined limit cuts v values (reduce stores.doings stores.checks by token c'))) (ops.reduces site cut by token v g d d')) (sym (same_sizes input asks limit cuts one cut))
      (team_seen w Stored.after_all (Stored.fold_thread by token v (λ j. f (chunk_of cut j)) c) (λ k. through ops.doings k.first k.size v (λ i so_far. ops.◌>>=◌ (g (chunk_of cut k.number) i) (folded ops.doings (reduce ops.doings ops.checks by token d) so_far)))
      (λ k. goes_through false k.first k.size v (λ i so_far. stores.◌>>=◌ (f (chunk_of cut k.number) i) (folded stores.doings (reduce stores.doings stores.checks by token c) so_far)) (λ i so_far. ops.◌>>=◌ (g (chunk_of cut k.number) i) (folded ops.doings (reduce ops.doings ops.checks by token d) so_far))
      (λ i so_far. bind_seen false (f (chunk_of cut k.number) i) (g (chunk_of cut k.number) i) (folded stores.doings (reduce stores.doings stores.checks by token c) so_far) (folded ops.doings (reduce ops.doings ops.checks by token d) so_far)
      (r (chunk_of cut k.number) i) (λ o. folds false (reduce stores.doings stores.checks by token c) (reduce ops.doings ops.checks by token d) (reduces_step false by token c d t) so_far o)))
      site (deal 0 0 (Runs.sizes_of Instance this anything asks limit cuts one cut)) [] (λ values. Stored.combined limit cuts v values (reduce stores.doings stores.checks by token c')) (λ values. Runs.combined Instance this anything asks limit cuts one v values (reduce ops.doings ops.checks by token d'))
      (λ values. subst (λ z. Seen w (Stored.combined limit cuts v z (reduce stores.doings stores.checks by token c')) (Runs.combined Instance this anything asks limit cuts one v values (reduce ops.doings ops.checks by token d'))) (sym (all_gathered input asks limit cuts one [] values))
      (combines w v values (reduce stores.doings stores.checks by token c') (reduce ops.doings ops.checks by token d') (reduces_step w by token c' d' u))))

  seen : Relates {1, 1, 0} stores ops
  unfolding notes_simulate Stored.spent Stored.reads Stored.writes Stored.turn Stored.look Stored.puts Stored.recalls Stored.keeps Stored.takes
  seen = record {
    World = Bool;
    Open = λ w. w ≡ true;
    inner = λ w. false;
    R = λ {A} w m g. Seen w m g;
    ret = λ w a. ret_seen w a;
    bind = λ {A} {B} w {m} {n} {k} {l} r s. bind_seen w m n k l r s;
    reads = λ w x i cell. plain w (Stored.reads x i) (Runs.reads anything x i cell) ((notes_simulate input asks limit cuts one).reads w x i cell) (λ s. refl);
    writes = λ w x i v. plain w (Stored.writes x i v) (Behaviours.writes x i v) ((notes_simulate input asks limit cuts one).writes w x i v) (λ s. refl);
    elaborates = λ {A} w region u x vs {m} {n} r. elaborates_seen w region u x vs m n r;
    apart = λ {A} w {m} {n} r. apart_seen w m n r;
    turn = λ w. plain w (Stored.turn limit) (Behaviours.turn limit) ((notes_simulate input asks limit cuts one).turn w) (λ s. refl);
    look = λ w. plain w Stored.look ops.look ((notes_simulate input asks limit cuts one).look w) (λ s. refl);
    checks = λ w kind token holds. checks_seen w kind token holds;
    leaves = λ {A} w x. leaves_seen w x;
    spent = λ {A} w. plain w (Stored.spent {A = A}) Behaviours.spent ((notes_simulate input asks limit cuts one).spent {A = A} w) (λ s. refl);
    handles = λ {A} w {m} {n} takes {h} {g} r s. handles_seen w m n takes h g r s;
    puts = λ w allowed bytes. plain w (Stored.puts bytes) (ops.puts bytes) ((notes_simulate input asks limit cuts one).puts w allowed bytes) (λ s. refl);
    recalls = λ w allowed. plain w Stored.recalls ops.recalls ((notes_simulate input asks limit cuts one).recalls w allowed) (λ s. refl);
    keeps = λ w allowed held. plain w (Stored.keeps held) (ops.keeps held) ((notes_simulate input asks limit cuts one).keeps w allowed held) (λ s. refl);
    takes = λ w allowed. plain w Stored.takes ops.takes ((notes_simulate input asks limit cuts one).takes w allowed) (λ s. refl);
    loops = λ w site cut {f} {g} r. loops_seen w site cut f g r;
    reduces = λ w site cut by token v {f} {g} {c} {c'} {d} {d'} r t u. reduces_seen w site cut by token v f g c c' d d' r t u;
  }

  program_seen : (program : Program) → KeepsRule program → Seen true (main stores limit program) (main ops limit program)
  unfolding seen
  program_seen program keeps = Induction.main seen limit program keeps true refl

-- the threads that a program's run by notes begins
pub program_visits : (program : Program) (set : Setting) (slots : ℕ) (input before : List ℕ) (schedule : Schedule) (asks : Asks Instance) (F : Team → Type 0) → LawFor input asks F → KeepsRule program → (set.one ≡ true → schedule ≡ InOrder)
    → (runs_of anything asks program set).safe nothing_visible start → EachTeam F ((noted program set).visits (noted_outset slots input before schedule))
program_visits program set slots input before schedule asks F law keeps alone safe =
    let b = by_notes input asks set.limit (cuts_of set.plan) set.one true in
    each_team F ((noted program set).visits (noted_outset slots input before schedule))
    ((program_seen input asks set.limit (cuts_of set.plan) set.one F law program keeps).fine [] [] (noted_outset slots input before schedule) nothing_visible start (empty (input_of input)) (visible_outset slots input before schedule (Some [])) (has_outset b slots input before schedule (Some []) refl alone) refl safe)
