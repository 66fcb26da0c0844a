-- The threads of a construct in the stored run, one after the other, are one of the runs of the construct.
use Rattle.std.proofs.Common.{◌≡◌, ℕ, nat_eq, ◌≤◌, min, max, List, [], ◌∷◌, ◌++◌, length, drop, Option, Some, None, Result, Ok, Err, ◌⊎◌, inl, inr, ⊎_elim, Bool, true, false, cond, ◌||◌, refl, sym, subst, ap, ap₂, ◌∙◌, true≢false, arith, le_refl, append_assoc, append-nil}
use Rattle.typed_tree.specs.Syntax.{Program}
use Rattle.behaviours.specs.Paths.{Leave, Instance, End, Gives, Leaves, Spent, Stopped, Path, Scope, enter, leave, joined, is_inside}
use Rattle.behaviours.specs.Events.{Trace, output_of, in_order}
use Rattle.behaviours.specs.Memory.{Memory, after, Fits}
use Rattle.behaviours.specs.Joins.{Site, Ran, Share, traces, EachRan, most_turns, AllGive, SomeEnds, NoneLeft, Joins, JoinsInOrder, FirstEnds, Idle, Form, some_early}
use Rattle.behaviours.specs.Behaviours.{Behaviour, Asks, is_left}
use Rattle.behaviours.specs.Behaviours
use Rattle.ada_meaning.specs.Programs.{finals}
use Rattle.ada_meaning.specs.Stored
use Rattle.ada_base.specs.Notes.{Schedule, InOrder, ByNotes, ThreadNote, Whole, NotBegun, CutAfter, ConstructNote}
use Rattle.ada_meaning.specs.Stored.{State, Visit, After, at, Stored, Cause, Left, OutOfTurns, NoRoom, CutOff, Misnoted, Outage, MemoryFault, Unbegun, Stops, next, next_halts, finals_of, took, gathered, is_spent}
use Rattle.ada_meaning.specs.Deeds.{deeds_of}
use Rattle.ada_meaning.proofs.Fronts.{deeds_append}
use Rattle.behaviours.proofs.Shuffle.{fits_append, after_append, shuffle_in_order}
use Rattle.ada_meaning.proofs.Agrees.{output_of_append, gives-ne-leaves, gives-ne-stopped, spent-ne-stopped, or_left, or_right}
use Rattle.ada_meaning.proofs.Ties.{goes_enter, goes_joined}
use Rattle.ada_meaning.proofs.Lays.{Mode, threaded, Tie, Tied, Has, Visible, Same, same_refl, same_trans, visible_same, has_moved, has_renoted, finals_right}
use Rattle.ada_meaning.proofs.Simulates.{EachVisit, fine_append, FineFor, Log, none, both, log, next_log, both_none, Level, level_refl, level_trans, before_level, AllShow, show_more, show_both, came_at, halted_now, halted_stops, end_of, Within, StopsWith, Told, Came, Halted, Simulates, came_as, came_then, halted_after}

-- all that is gathered
abbrev pub gathered_all : {A B : Type 0} → (B → A → B) → B → List A → B
gathered_all f b [] = b
gathered_all f b (v ∷ vs) = gathered_all f (f b v) vs

spent-ne-leaves : {A : Type 0} {x : Leave} → ◌≡◌ {A = End A} Spent (Leaves x) → ⊥
spent-ne-leaves e = absurd (cc)

ok-ne-err : {A C : Type 0} {a : A} {c : C} → ◌≡◌ {A = Result A C} (Err c) (Ok a) → ⊥
ok-ne-err e = absurd (cc)

ok_inj : {A C : Type 0} {a b : A} → ◌≡◌ {A = Result A C} (Ok a) (Ok b) → a ≡ b
ok_inj e = cc

first_some : {A : Type 0} (p : Path Instance) (rs : List (Ran Instance A)) (e : End A) → FirstEnds p rs e → SomeEnds rs e
first_some p [] e h = absurd h
first_some p (r ∷ rs) e (inl h) = inl h.0
first_some p (r ∷ rs) e (inr h) = inr (first_some p rs e h.1)

ordered_joined : {A : Type 0} (p : Path Instance) (rs : List (Ran Instance A)) (e : End (List A)) → JoinsInOrder p rs e → Joins rs e
ordered_joined p rs (Gives values) h = h
ordered_joined p rs (Leaves x) h = first_some p rs (Leaves x) h
ordered_joined p rs Spent h = h
ordered_joined p rs Stopped h = tt

forms : {A : Type 0} (o : Bool) (p : Path Instance) (rs : List (Ran Instance A)) (e : End (List A)) → JoinsInOrder p rs e → Form o p rs (in_order (traces rs)) e
forms true p rs e h = (refl, h)
forms false p rs e h = (shuffle_in_order (traces rs), ordered_joined p rs e h)

turns_least : {A : Type 0} (n : ℕ) (rs : List (Ran Instance A)) → n ≤ most_turns n rs
turns_least n [] = le_refl n
turns_least n (r ∷ rs) = let h = turns_least n rs in omega arith

-- how ends fit notes

-- an end that is neither left nor spent
abbrev Failing : Cause → Type 0
Failing (Left x) = ⊥
Failing OutOfTurns = ⊥
Failing NoRoom = Unit {0}
Failing CutOff = Unit {0}
Failing Misnoted = Unit {0}

record Fitting {A : Type 0} (fits : Result A Cause → Result (Option Leave) Cause) : Type 0 where
  pub left : (e : Result A Cause) (x : Leave) → fits e ≡ Ok (Some x) → end_of e ≡ Leaves x
  pub fails : (e : Result A Cause) (c : Cause) → fits e ≡ Err c → Failing c

failing : {B : Type 0} {c d : Cause} → Failing c → ◌≡◌ {A = Result B Cause} (Err c) (Err d) → Failing d
failing {B} {c} {d} f e = subst Failing (same e) f
  where
    same : ◌≡◌ {A = Result B Cause} (Err c) (Err d) → c ≡ d
    same e = cc

ok-ne-err' : {B : Type 0} {b : B} {c : Cause} → ◌≡◌ {A = Result B Cause} (Ok b) (Err c) → ⊥
ok-ne-err' e = absurd (cc)

none-ne-some : {x : Leave} → ◌≡◌ {A = Option Leave} None (Some x) → ⊥
none-ne-some e = absurd (cc)

some_inj : {x y : Leave} → ◌≡◌ {A = Option Leave} (Some x) (Some y) → x ≡ y
some_inj e = cc

chosen_fits : {A : Type 0} → Fitting {A = A} Stored.fits_chosen
chosen_fits {A} = record { left = left; fails = fails }
  where
    left : (e : Result A Cause) (x : Leave) → Stored.fits_chosen e ≡ Ok (Some x) → end_of e ≡ Leaves x
    left (Ok a) x e = absurd (ok-ne-err e)
    left (Err (Left y)) x e = ap Leaves (some_inj (ok_inj e))
    left (Err OutOfTurns) x e = absurd (ok-ne-err e)
    left (Err NoRoom) x e = absurd (ok-ne-err e)
    left (Err CutOff) x e = absurd (ok-ne-err e)
    left (Err Misnoted) x e = absurd (ok-ne-err e)

    fails : (e : Result A Cause) (c : Cause) → Stored.fits_chosen e ≡ Err c → Failing c
    fails (Ok a) c e = failing tt e
    fails (Err (Left y)) c e = absurd (ok-ne-err' e)
    fails (Err OutOfTurns) c e = failing tt e
    fails (Err NoRoom) c e = failing tt e
    fails (Err CutOff) c e = failing tt e
    fails (Err Misnoted) c e = failing tt e

whole_fits : {A : Type 0} → Fitting {A = A} Stored.fits_whole
whole_fits {A} = record { left = left; fails = fails }
  where
    left : (e : Result A Cause) (x : Leave) → Stored.fits_whole e ≡ Ok (Some x) → end_of e ≡ Leaves x
    left (Ok a) x e = absurd (none-ne-some (ok_inj e))
    left (Err (Left y)) x e = absurd (none-ne-some (ok_inj e))
    left (Err OutOfTurns) x e = absurd (none-ne-some (ok_inj e))
    left (Err NoRoom) x e = absurd (ok-ne-err e)
    left (Err CutOff) x e = absurd (ok-ne-err e)
    left (Err Misnoted) x e = absurd (ok-ne-err e)

    fails : (e : Result A Cause) (c : Cause) → Stored.fits_whole e ≡ Err c → Failing c
    fails (Ok a) c e = absurd (ok-ne-err' e)
    fails (Err (Left y)) c e = absurd (ok-ne-err' e)
    fails (Err OutOfTurns) c e = absurd (ok-ne-err' e)
    fails (Err NoRoom) c e = failing tt e
    fails (Err CutOff) c e = failing tt e
    fails (Err Misnoted) c e = failing tt e

cut_fits : {A : Type 0} → Fitting {A = A} Stored.fits_cut
cut_fits {A} = record { left = left; fails = fails }
  where
    left : (e : Result A Cause) (x : Leave) → Stored.fits_cut e ≡ Ok (Some x) → end_of e ≡ Leaves x
    left (Ok a) x e = absurd (ok-ne-err e)
    left (Err (Left y)) x e = absurd (ok-ne-err e)
    left (Err OutOfTurns) x e = absurd (ok-ne-err e)
    left (Err NoRoom) x e = absurd (ok-ne-err e)
    left (Err CutOff) x e = absurd (none-ne-some (ok_inj e))
    left (Err Misnoted) x e = absurd (ok-ne-err e)

    fails : (e : Result A Cause) (c : Cause) → Stored.fits_cut e ≡ Err c → Failing c
    fails (Ok a) c e = failing tt e
    fails (Err (Left y)) c e = failing tt e
    fails (Err OutOfTurns) c e = failing tt e
    fails (Err NoRoom) c e = failing tt e
    fails (Err CutOff) c e = absurd (ok-ne-err' e)
    fails (Err Misnoted) c e = failing tt e

-- into a thread, and out of it

module _ (input : List ℕ) (b : Mode) (ls gs : List Tie) (s : State) (p : Path Instance) (n : Memory) (h : Has input b ls gs s p n) where
  pub has_enter : s.notes ≡ InOrder → (j : ℕ) → Has input threaded ls gs s (enter j p) n
  has_enter q j = record {
    one = h.one;
    apart = h.apart;
    right = h.right;
    zeros = h.zeros;
    kept = h.kept;
    past = λ c t f. h.past c t (goes_enter j p c.instance f);
    new = λ e. absurd (true≢false (sym e));
    outer = λ e. absurd (true≢false (sym e));
    inside = λ e f. no f;
    ordered = λ e. q;
    taken = h.taken;
    rest = h.rest;
    held = h.held;
    bytes = h.bytes;
    declared = h.declared;
  }
    where
      no : (j ∷ p.constructs ∷ p.name) ≡ [] → ⊥
      no f = absurd (cc)

  pub has_back : (gs' : List Tie) (s' : State) (j : ℕ) (q : Path Instance) (n' : Memory) → Has input threaded ls gs' s' q n' → Within ls gs gs' (enter j p) q n n' → Has input b ls gs s' p n'
  has_back gs' s' j q n' k w =
      let k' : Has input threaded ls gs s' q n' = subst (λ z. Has input threaded ls z s' q n') w.ties k in
      record {
        one = h.one;
        apart = h.apart;
        right = k'.right;
        zeros = k'.zeros;
        kept = h.kept;
        past = h.past;
        new = λ e l i o le. w.frame l i (o ∙ h.outer e) (λ c t same. h.past c t (inl (ap (λ (z : Instance). z.thread) same ∙ o, let z = ap (λ (z : Instance). z.number) same in omega arith))) ∙ h.new e l i o le;
        outer = h.outer;
        inside = h.inside;
        ordered = λ e. k'.ordered refl;
        taken = k'.taken ∙ ap (λ z. min z (length input)) w.taken;
        rest = k'.rest ∙ ap (λ z. drop z input) w.taken;
        held = k'.held;
        bytes = k'.bytes;
        declared = subst (λ z. Rattle.ada_meaning.proofs.Lays.Matches gs z s'.declared) w.globals k'.declared;
      }

module _ (input : List ℕ) (b : Mode) (ls gs : List Tie) (s : State) (p : Path Instance) (n : Memory) (h : Has input b ls gs s p n) where
  -- into a thread with other counts, in order; and out of it
  pub in_thread : (turns : ℕ) (left : Option ℕ) (j : ℕ) → Has input threaded ls gs (record s { turns = turns; left = left; notes = InOrder }) (enter j p) n
  in_thread turns left j = has_enter input (record b { ordered = false }) ls gs (record s { turns = turns; left = left; notes = InOrder }) p n (loose turns left) refl j
    where
      loose : (turns : ℕ) (left : Option ℕ) → Has input (record b { ordered = false }) ls gs (record s { turns = turns; left = left; notes = InOrder }) p n
      loose turns left = has_renoted input (record b { ordered = false }) ls gs s p n (record {
        one = h.one;
        apart = h.apart;
        right = h.right;
        zeros = h.zeros;
        kept = h.kept;
        past = h.past;
        new = h.new;
        outer = h.outer;
        inside = h.inside;
        ordered = λ e. absurd (true≢false (sym e));
        taken = h.taken;
        rest = h.rest;
        held = h.held;
        bytes = h.bytes;
        declared = h.declared;
      }) turns left InOrder (λ e. refl)

  pub out_of_thread : (gs' : List Tie) (s' : State) (j : ℕ) (q : Path Instance) (n' : Memory) → Has input threaded ls gs' s' q n' → Within ls gs gs' (enter j p) q n n' → (turns : ℕ) (left : Option ℕ) (notes : Schedule) → (b.ordered ≡ true → notes ≡ InOrder)
      → Has input b ls gs (record s' { turns = turns; left = left; notes = notes }) p n'
  out_of_thread gs' s' j q n' k w turns left notes o = has_renoted input b ls gs s' p n' (has_back input b ls gs s p n h gs' s' j q n' k w) turns left notes o

module _ (input : List ℕ) {A B : Type 0} (f : B → A → B) (b : Mode) (body : Share → Stored A) (inner : Share → Behaviour Instance A) (sim : (j : Share) → Simulates input threaded (body j) (inner j)) where
  abbrev pub thread : Share → Behaviour Instance A
  thread j = Behaviours.within j.number (inner j)

  module _ (ls gs : List Tie) (t : Scope Instance) (p : Path Instance) where
    abbrev Each : List Share → List (Ran Instance A) → Type 0
    Each js rs = EachRan (λ j. (thread j).runs t) p js rs

    abbrev trace_of : List (Ran Instance A) → Trace Instance
    trace_of rs = in_order (traces rs)

    -- threads that aren't begun
    abbrev idle_rans : List Share → List (Ran Instance A)
    idle_rans [] = []
    idle_rans (j ∷ js) = record { trace = []; early = false; path = p; end = Stopped } ∷ idle_rans js

    idle_each : (js : List Share) → Each js (idle_rans js)
    idle_each [] = refl
    idle_each (j ∷ js) = (record { trace = []; early = false; path = p; end = Stopped }, idle_rans js, refl, (enter j.number p, refl, (sim j).stops t (enter j.number p)), idle_each js)

    idle_idle : (js : List Share) → Idle p (idle_rans js)
    idle_idle [] = tt
    idle_idle (j ∷ js) = ((refl, refl, refl, refl), idle_idle js)

    idle_trace : (js : List Share) → trace_of (idle_rans js) ≡ []
    idle_trace [] = refl
    idle_trace (j ∷ js) = idle_trace js

    idle_turns : (js : List Share) → most_turns p.turns (idle_rans js) ≡ p.turns
    idle_turns [] = refl
    idle_turns (j ∷ js) = let h = idle_turns js in let k : max p.turns (most_turns p.turns (idle_rans js)) ≡ p.turns = omega arith in k

    abbrev Ends : Bool → B → List (Ran Instance A) → Result B Cause → Type 0
    Ends over b0 rs (Ok v) = (over ≡ false) × ((values : List A) × AllGive rs values × (v ≡ gathered_all f b0 values))
    Ends over b0 rs (Err (Left x)) = FirstEnds p rs (Leaves x)
    Ends over b0 rs (Err OutOfTurns) = NoneLeft rs × ((over ≡ true) ⊎ SomeEnds rs Spent)
    Ends over b0 rs (Err NoRoom) = FirstEnds p rs Stopped
    Ends over b0 rs (Err CutOff) = FirstEnds p rs Stopped
    Ends over b0 rs (Err Misnoted) = FirstEnds p rs Stopped

    -- what threads from one on have done
    record Woven (most : ℕ) (over : Bool) (b0 : B) (s : State) (n : Memory) (js : List Share) (r : After B) (ds : Log) : Type 0 where
      pub rans : List (Ran Instance A)
      pub each : Each js rans
      pub fits : Fits n (trace_of rans)
      pub has : Has input b ls gs r.state p (after n (trace_of rans))
      pub same : Same s r.state
      pub output : r.state.output ≡ s.output ++ output_of (trace_of rans)
      pub deeds : deeds_of (trace_of rans) ≡ ds.deeds
      pub level : Level s r.state
      pub touched : AllShow ls gs s (trace_of rans) ds.touches
      pub turns : r.state.turns ≡ max most (most_turns p.turns rans)
      pub frame : (l : Instance) (i : ℕ) → l.thread ≡ [] → ((c : Tie) → Tied ls gs c → c.instance ≡ l → ⊥) → (after n (trace_of rans)).cells l i ≡ n.cells l i
      pub ends : Ends over b0 rans r.end

    abbrev turned : State → ℕ → State
    turned s m = record s { turns = m }

    turned_same : (s : State) (m : ℕ) → Same s (turned s m)
    turned_same s m = record { here = λ k. refl; everywhere = λ k. refl; frame = refl; room = refl; everywhere_room = refl }

    has_turned : (s : State) (m : ℕ) (n : Memory) → Has input b ls gs s p n → Has input b ls gs (turned s m) p n
    has_turned s m n h = has_moved input b ls gs s p n h (turned s m) p n refl refl refl refl refl refl (λ x f. f) refl (le_refl p.elaborations) refl h.taken h.rest h.held

    visible_turned : (s : State) (m : ℕ) → Visible ls gs s t → Visible ls gs (turned s m) t
    visible_turned s m v = visible_same ls gs gs s (turned s m) t (λ c k. k) (turned_same s m) v

    abbrev Rest : List Share → Type 0
    Rest js = (most : ℕ) (over : Bool) (b0 : B) (s : State) (n : Memory) → Visible ls gs s t → Has input b ls gs s p n → s.notes ≡ InOrder → p.turns ≤ most → Woven most over b0 s n js ((Stored.threads f body p.turns js most over b0).does s) (log (Stored.threads f body p.turns js most over b0) s)

    abbrev Thread : Share → State → Memory → After A → Log → Type 0
    Thread j s n r ds = Came input threaded ls gs (turned s p.turns) (enter j.number p) n ((inner j).runs t (enter j.number p)) r ds

    woven_none : (most : ℕ) (over : Bool) (b0 : B) (s : State) (n : Memory) → Has input b ls gs s p n → p.turns ≤ most → (c : Bool) → over ≡ c → Woven most over b0 s n [] ((cond c Stored.spent (Stored.ret b0)).does (turned s most)) (log (cond c Stored.spent (Stored.ret b0)) (turned s most))
    unfolding Stored.spent Stored.ret
    woven_none most over b0 s n h le c is = go c is
      where
        made : (e : Result B Cause) → Ends over b0 [] e → Woven most over b0 s n [] (at (turned s most) e) none
        made e ends = record {
          rans = [];
          each = refl;
          fits = tt;
          has = has_turned s most n h;
          same = turned_same s most;
          output = sym (append-nil s.output);
          deeds = refl;
          level = record { cells = refl; kept = refl };
          touched = tt;
          turns = let z : most ≡ max most p.turns = omega arith in z;
          frame = λ l i o k. refl;
          ends = ends;
        }

        go : (c : Bool) → over ≡ c → Woven most over b0 s n [] ((cond c Stored.spent (Stored.ret b0)).does (turned s most)) (log (cond c Stored.spent (Stored.ret b0)) (turned s most))
        go true e = made (Err OutOfTurns) (tt, inl e)
        go false e = made (Ok b0) (e, ([], refl, refl))

    -- a thread that goes to its end, and then the others
    module _ (j : Share) (js : List Share) (most : ℕ) (over : Bool) (b0 : B) (s : State) (n : Memory) (v : Visible ls gs s t) (h : Has input b ls gs s p n) (le : p.turns ≤ most) (r : After A) (ds : Log) (d : Thread j s n r ds) where
      abbrev ran_to : End A → Ran Instance A
      ran_to e = record { trace = d.trace; early = d.early; path = leave p d.path; end = e }

      visible_then : Visible ls gs r.state t
      visible_then = visible_same ls gs gs (turned s p.turns) r.state t (λ c k. k) d.same (visible_turned s p.turns v)

      has_then : Has input b ls gs r.state p (after n d.trace)
      has_then = has_back input b ls gs (turned s p.turns) p n (has_turned s p.turns n h) d.ties r.state j.number d.path (after n d.trace) d.has (d.within refl)

      level_run : Level s r.state
      level_run = let z = d.level refl in record { cells = z.cells; kept = z.kept }

      touched_run : AllShow ls gs s d.trace ds.touches
      touched_run = show_more ls gs ls gs (turned s p.turns) s d.trace d.trace (λ a z. before_level s (turned s p.turns) (record { cells = refl; kept = refl }) a z) (λ c i z y. z) (λ F z. z) ds.touches (d.touched refl)

      woven_then : (end : End A) → (inner j).runs t (enter j.number p) d.trace d.early d.path end → (over' : Bool) (b' : B) (r' : After B) (es : Log) → (w : Woven (max most r.state.turns) over' b' r.state (after n d.trace) js r' es) → Ends over b0 (ran_to end ∷ w.rans) r'.end → Woven most over b0 s n (j ∷ js) r' (both ds es)
      woven_then end run over' b' r' es w ends = record {
        rans = ran_to end ∷ w.rans;
        each = (ran_to end, w.rans, refl, (d.path, refl, run), w.each);
        fits = fits_append d.trace (trace_of w.rans) n d.fits w.fits;
        has = subst (λ z. Has input b ls gs r'.state p z) (sym (after_append d.trace (trace_of w.rans) n)) w.has;
        same = same_trans s r.state r'.state (same_trans s (turned s p.turns) r.state (turned_same s p.turns) d.same) w.same;
        output = w.output ∙ ap (λ o. o ++ output_of (trace_of w.rans)) d.output ∙ append_assoc s.output (output_of d.trace) (output_of (trace_of w.rans)) ∙ ap (λ o. s.output ++ o) (sym (output_of_append d.trace (trace_of w.rans)));
        deeds = deeds_append d.trace (trace_of w.rans) ∙ ap₂ (λ y z. y ++ z) d.deeds w.deeds;
        level = level_trans s r.state r'.state level_run w.level;
        touched = show_both ls gs s r.state d.trace (trace_of w.rans) ds.touches es.touches level_run touched_run w.touched;
        turns = let k = w.turns in let e = d.turns in let z : r'.state.turns ≡ max most (max d.path.turns (most_turns p.turns w.rans)) = omega arith in z;
        frame = λ l i o c. ap (λ (z : Memory). z.cells l i) (after_append d.trace (trace_of w.rans) n) ∙ w.frame l i o c ∙ (d.within refl).frame l i o c;
        ends = ends;
      }

      woven_left : (end : End A) (c : Cause) → (inner j).runs t (enter j.number p) d.trace d.early d.path end → Ends over b0 (ran_to end ∷ idle_rans js) (Err c) → Woven most over b0 s n (j ∷ js) (at (turned r.state (max most r.state.turns)) (Err c)) (both ds none)
      woven_left end c run ends = record {
        rans = ran_to end ∷ idle_rans js;
        each = (ran_to end, idle_rans js, refl, (d.path, refl, run), idle_each js);
        fits = subst (λ z. Fits n z) same_trace d.fits;
        has = has_turned r.state (max most r.state.turns) (after n (trace_of (ran_to end ∷ idle_rans js))) (subst (λ z. Has input b ls gs r.state p (after n z)) same_trace has_then);
        same = same_trans s r.state (turned r.state (max most r.state.turns)) (same_trans s (turned s p.turns) r.state (turned_same s p.turns) d.same) (turned_same r.state (max most r.state.turns));
        output = subst (λ z. r.state.output ≡ s.output ++ output_of z) same_trace d.output;
        deeds = ap deeds_of (sym same_trace) ∙ d.deeds ∙ sym (append-nil ds.deeds);
        level = record { cells = level_run.cells; kept = level_run.kept };
        touched = subst (λ z. AllShow ls gs s z (ds.touches ++ [])) same_trace (subst (λ z. AllShow ls gs s d.trace z) (sym (append-nil ds.touches)) touched_run);
        turns = let k = idle_turns js in let e = d.turns in let z : max most r.state.turns ≡ max most (max d.path.turns (most_turns p.turns (idle_rans js))) = omega arith in z;
        frame = λ l i o c. ap (λ z. (after n z).cells l i) (sym same_trace) ∙ (d.within refl).frame l i o c;
        ends = ends;
      }
        where
          same_trace : d.trace ≡ trace_of (ran_to end ∷ idle_rans js)
          same_trace = sym (append-nil d.trace) ∙ ap (λ z. d.trace ++ z) (sym (idle_trace js))

      gives_then : (a : A) → r.end ≡ Ok a → Rest js → Woven most over b0 s n (j ∷ js) ((Stored.threads f body p.turns js (max most r.state.turns) (over || false) (f b0 a)).does r.state) (both ds (log (Stored.threads f body p.turns js (max most r.state.turns) (over || false) (f b0 a)) r.state))
      gives_then a eq rest =
          let r' = (Stored.threads f body p.turns js (max most r.state.turns) (over || false) (f b0 a)).does r.state in
          let w = rest (max most r.state.turns) (over || false) (f b0 a) r.state (after n d.trace) visible_then has_then (d.has.ordered refl) (omega arith) in
          woven_then (Gives a) (subst (λ z. (inner j).runs t (enter j.number p) d.trace d.early d.path (end_of z)) eq d.run) (over || false) (f b0 a) r' (log (Stored.threads f body p.turns js (max most r.state.turns) (over || false) (f b0 a)) r.state) w (ends w.rans r'.end w.ends)
        where
          ends : (rs : List (Ran Instance A)) (e : Result B Cause) → Ends (over || false) (f b0 a) rs e → Ends over b0 (ran_to (Gives a) ∷ rs) e
          ends rs (Ok v) k = (or_left over false k.0, (a ∷ k.1.0, (a, k.1.0, refl, refl, k.1.1), k.1.2))
          ends rs (Err (Left x)) k = inr ((λ y e. gives-ne-leaves e, λ e. gives-ne-stopped e), k)
          ends rs (Err NoRoom) k = inr ((λ y e. gives-ne-leaves e, λ e. gives-ne-stopped e), k)
          ends rs (Err CutOff) k = inr ((λ y e. gives-ne-leaves e, λ e. gives-ne-stopped e), k)
          ends rs (Err Misnoted) k = inr ((λ y e. gives-ne-leaves e, λ e. gives-ne-stopped e), k)
          ends rs (Err OutOfTurns) k = ((λ y e. gives-ne-leaves e, λ e. gives-ne-stopped e, k.0), ⊎_elim (λ e. inl (or_true over e)) (λ e. inr (inr e)) k.1)
            where
              or_true : (c : Bool) → (c || false) ≡ true → c ≡ true
              or_true true e = refl
              or_true false e = e

      spent_then : r.end ≡ Err OutOfTurns → Rest js → Woven most over b0 s n (j ∷ js) ((Stored.threads f body p.turns js (max most r.state.turns) (over || true) b0).does r.state) (both ds (log (Stored.threads f body p.turns js (max most r.state.turns) (over || true) b0) r.state))
      spent_then eq rest =
          let r' = (Stored.threads f body p.turns js (max most r.state.turns) (over || true) b0).does r.state in
          let w = rest (max most r.state.turns) (over || true) b0 r.state (after n d.trace) visible_then has_then (d.has.ordered refl) (omega arith) in
          woven_then Spent (subst (λ z. (inner j).runs t (enter j.number p) d.trace d.early d.path (end_of z)) eq d.run) (over || true) b0 r' (log (Stored.threads f body p.turns js (max most r.state.turns) (over || true) b0) r.state) w (ends w.rans r'.end w.ends)
        where
          ends : (rs : List (Ran Instance A)) (e : Result B Cause) → Ends (over || true) b0 rs e → Ends over b0 (ran_to Spent ∷ rs) e
          ends rs (Ok v) k = absurd (true≢false (or_right over true k.0))
          ends rs (Err (Left x)) k = inr ((λ y e. absurd (spent-ne-leaves e), λ e. spent-ne-stopped e), k)
          ends rs (Err NoRoom) k = inr ((λ y e. absurd (spent-ne-leaves e), λ e. spent-ne-stopped e), k)
          ends rs (Err CutOff) k = inr ((λ y e. absurd (spent-ne-leaves e), λ e. spent-ne-stopped e), k)
          ends rs (Err Misnoted) k = inr ((λ y e. absurd (spent-ne-leaves e), λ e. spent-ne-stopped e), k)
          ends rs (Err OutOfTurns) k = ((λ y e. absurd (spent-ne-leaves e), λ e. spent-ne-stopped e, k.0), inr (inl refl))

      woven_next : (e : Result A Cause) → r.end ≡ e → Rest js
          → Woven most over b0 s n (j ∷ js) (next (took most r.state e).state (took most r.state e).end (λ k. Stored.threads f body p.turns js k.most (over || is_spent k.value) (gathered f b0 k.value))) (both ds (next_log (took most r.state e).state (took most r.state e).end (λ k. Stored.threads f body p.turns js k.most (over || is_spent k.value) (gathered f b0 k.value))))
      woven_next (Ok a) eq rest = gives_then a eq rest
      woven_next (Err (Left x)) eq rest = woven_left (Leaves x) (Left x) (subst (λ z. (inner j).runs t (enter j.number p) d.trace d.early d.path (end_of z)) eq d.run) (inl (refl, idle_idle js))
      woven_next (Err NoRoom) eq rest = woven_left Stopped NoRoom (subst (λ z. (inner j).runs t (enter j.number p) d.trace d.early d.path (end_of z)) eq d.run) (inl (refl, idle_idle js))
      woven_next (Err CutOff) eq rest = woven_left Stopped CutOff (subst (λ z. (inner j).runs t (enter j.number p) d.trace d.early d.path (end_of z)) eq d.run) (inl (refl, idle_idle js))
      woven_next (Err Misnoted) eq rest = woven_left Stopped Misnoted (subst (λ z. (inner j).runs t (enter j.number p) d.trace d.early d.path (end_of z)) eq d.run) (inl (refl, idle_idle js))
      woven_next (Err OutOfTurns) eq rest = spent_then eq rest

    thread_came : (j : Share) (s : State) (n : Memory) → Visible ls gs s t → Has input b ls gs s p n → s.notes ≡ InOrder → Thread j s n ((body j).does (turned s p.turns)) (log (body j) (turned s p.turns))
    thread_came j s n v h q = (sim j).does ls gs (turned s p.turns) t (enter j.number p) n (visible_turned s p.turns v) (has_enter input b ls gs (turned s p.turns) p n (has_turned s p.turns n h) q j.number) refl

    woven : (js : List Share) → Rest js
    unfolding Stored.bind Stored.rewinds Stored.thread Stored.spent Stored.ret
    woven [] most over b0 s n v h q le = woven_none most over b0 s n h le over refl
    woven (j ∷ js) most over b0 s n v h q le = woven_next j js most over b0 s n v h le ((body j).does (turned s p.turns)) (log (body j) (turned s p.turns)) (thread_came j s n v h q) ((body j).does (turned s p.turns)).end refl (woven js)

    -- where memory fails

    record Paused (s : State) (n : Memory) (js : List Share) (u : State) : Type 0 where
      pub rans : List (Ran Instance A)
      pub each : Each js rans
      pub fits : Fits n (trace_of rans)
      pub output : u.output ≡ s.output ++ output_of (trace_of rans)
      pub stopped : FirstEnds p rans Stopped ⊎ NoneLeft rans
      pub taken : u.taken ≡ min p.taken (length input)
      pub finals_at : (program : Program) → finals_of program u.kept u.declared ≡ finals program (after n (trace_of rans)) p.globals

    abbrev Pauses : State → Memory → List Share → Outage → State → Type 0
    Pauses s n js f u = (f ≡ MemoryFault) × Paused s n js u

    -- before the first of them
    paused_now : (js : List Share) (s : State) (m : ℕ) (n : Memory) → Has input b ls gs s p n → Paused s n js (turned s m)
    paused_now js s m n h = record {
      rans = idle_rans js;
      each = idle_each js;
      fits = subst (λ z. Fits n z) (sym (idle_trace js)) tt;
      output = sym (append-nil s.output) ∙ ap (λ z. s.output ++ output_of z) (sym (idle_trace js));
      stopped = first js;
      taken = h.taken;
      finals_at = λ program. finals_right input b ls gs s p n h program ∙ ap (λ z. finals program (after n z) p.globals) (sym (idle_trace js));
    }
      where
        first : (js : List Share) → FirstEnds p (idle_rans js) Stopped ⊎ NoneLeft (idle_rans js)
        first [] = inr tt
        first (j ∷ js) = inl (inl (refl, idle_idle js))

    pauses_now : (js : List Share) (s w : State) (m : ℕ) (n : Memory) → Has input b ls gs s p n → turned s m ≡ w → (f : Outage) (u : State) → Unbegun w f u → Pauses s n js f u
    pauses_now js s w m n h same f u k = (k.0, subst (λ z. Paused s n js z) (same ∙ sym k.1) (paused_now js s m n h))

    abbrev RestPauses : List Share → Type 0
    RestPauses js = (most : ℕ) (over : Bool) (b0 : B) (s : State) (n : Memory) → Visible ls gs s t → Has input b ls gs s p n → s.notes ≡ InOrder → (fault : Outage) (u : State) → Stops (Stored.threads f body p.turns js most over b0) s fault u → Pauses s n js fault u

    pauses_none : (most : ℕ) (over : Bool) (b0 : B) (s : State) (n : Memory) → Has input b ls gs s p n → (fault : Outage) (u : State) → Stops (Stored.threads f body p.turns [] most over b0) s fault u → Pauses s n [] fault u
    unfolding Stored.bind Stored.rewinds Stored.thread Stored.spent Stored.ret
    pauses_none most over b0 s n h fault u (inl k) = pauses_now [] s s s.turns n h refl fault u k
    pauses_none most over b0 s n h fault u (inr (inl (inl k))) = pauses_now [] s s s.turns n h refl fault u k
    pauses_none most over b0 s n h fault u (inr (inl (inr k))) = absurd k
    pauses_none most over b0 s n h fault u (inr (inr (inl k))) = pauses_now [] s (turned s most) most n h refl fault u k
    pauses_none most over b0 s n h fault u (inr (inr (inr k))) = absurd (go over k)
      where
        go : (c : Bool) → (cond c Stored.spent (Stored.ret b0)).halts (turned s most) fault u → ⊥
        go true k = k
        go false k = k

    module _ (j : Share) (js : List Share) (most : ℕ) (over : Bool) (b0 : B) (s : State) (n : Memory) (v : Visible ls gs s t) (h : Has input b ls gs s p n) (q : s.notes ≡ InOrder) (fault : Outage) (u : State) where
      -- in this thread
      pauses_here : Stops (body j) (turned s p.turns) fault u → Pauses s n (j ∷ js) fault u
      pauses_here k = (
        w.0,
        record {
          rans = record { trace = d.trace; early = d.early; path = leave p d.path; end = Stopped } ∷ idle_rans js;
          each = (record { trace = d.trace; early = d.early; path = leave p d.path; end = Stopped }, idle_rans js, refl, (d.path, refl, d.run), idle_each js);
          fits = subst (λ z. Fits n z) same_trace d.fits;
          output = subst (λ z. Told z s.output u.output d.trace d.path (StopsWith ((inner j).runs t (enter j.number p)))) w.0 d.told ∙ ap (λ z. s.output ++ output_of z) same_trace;
          stopped = inl (inl (refl, idle_idle js));
          taken = d.taken ∙ ap (λ z. min z (length input)) w.1;
          finals_at = λ program. d.finals program ∙ ap (λ z. finals program (after n d.trace) z) w.2 ∙ ap (λ z. finals program (after n z) p.globals) same_trace;
        },
      )
        where
          d : Halted input threaded (turned s p.turns) (enter j.number p) n ((inner j).runs t (enter j.number p)) fault u
          d = halted_stops input threaded (body j) (inner j) (sim j) ls gs (turned s p.turns) t (enter j.number p) n (visible_turned s p.turns v) (has_enter input b ls gs (turned s p.turns) p n (has_turned s p.turns n h) q j.number) refl fault u k

          w : (fault ≡ MemoryFault) × (d.path.taken ≡ p.taken) × (d.path.globals ≡ p.globals)
          w = d.within refl

          same_trace : d.trace ≡ d.trace ++ trace_of (idle_rans js)
          same_trace = sym (append-nil d.trace) ∙ ap (λ z. d.trace ++ z) (sym (idle_trace js))

      -- in a later one
      module _ (r : After A) (ds : Log) (d : Thread j s n r ds) where
        paused_then : (end : End A) → ((x : Leave) → end ≡ Leaves x → ⊥) → (end ≡ Stopped → ⊥) → (inner j).runs t (enter j.number p) d.trace d.early d.path end → Paused r.state (after n d.trace) js u → Paused s n (j ∷ js) u
        paused_then end no_leave no_stop run w = record {
          rans = record { trace = d.trace; early = d.early; path = leave p d.path; end = end } ∷ w.rans;
          each = (record { trace = d.trace; early = d.early; path = leave p d.path; end = end }, w.rans, refl, (d.path, refl, run), w.each);
          fits = fits_append d.trace (trace_of w.rans) n d.fits w.fits;
          output = w.output ∙ ap (λ o. o ++ output_of (trace_of w.rans)) d.output ∙ append_assoc s.output (output_of d.trace) (output_of (trace_of w.rans)) ∙ ap (λ o. s.output ++ o) (sym (output_of_append d.trace (trace_of w.rans)));
          stopped = ⊎_elim (λ k. inl (inr ((no_leave, no_stop), k))) (λ k. inr (no_leave, no_stop, k)) w.stopped;
          taken = w.taken;
          finals_at = λ program. w.finals_at program ∙ ap (λ (z : Memory). finals program z p.globals) (sym (after_append d.trace (trace_of w.rans) n));
        }

        abbrev visible_later : Visible ls gs r.state t
        visible_later = visible_same ls gs gs (turned s p.turns) r.state t (λ c k. k) d.same (visible_turned s p.turns v)

        abbrev has_later : Has input b ls gs r.state p (after n d.trace)
        has_later = has_back input b ls gs (turned s p.turns) p n (has_turned s p.turns n h) d.ties r.state j.number d.path (after n d.trace) d.has (d.within refl)

        pauses_later : (e : Result A Cause) → r.end ≡ e → RestPauses js → next_halts (took most r.state e).state (took most r.state e).end (λ k. Stored.threads f body p.turns js k.most (over || is_spent k.value) (gathered f b0 k.value)) fault u → Pauses s n (j ∷ js) fault u
        pauses_later (Ok a) eq rest c =
            let w = rest (max most r.state.turns) (over || false) (f b0 a) r.state (after n d.trace) visible_later has_later (d.has.ordered refl) fault u c in
            (w.0, paused_then (Gives a) (λ y e. gives-ne-leaves e) (λ e. gives-ne-stopped e) (subst (λ z. (inner j).runs t (enter j.number p) d.trace d.early d.path (end_of z)) eq d.run) w.1)
        pauses_later (Err (Left x)) eq rest c = absurd c
        pauses_later (Err NoRoom) eq rest c = absurd c
        pauses_later (Err CutOff) eq rest c = absurd c
        pauses_later (Err Misnoted) eq rest c = absurd c
        pauses_later (Err OutOfTurns) eq rest c =
            let w = rest (max most r.state.turns) (over || true) b0 r.state (after n d.trace) visible_later has_later (d.has.ordered refl) fault u c in
            (w.0, paused_then Spent (λ y e. spent-ne-leaves e) (λ e. spent-ne-stopped e) (subst (λ z. (inner j).runs t (enter j.number p) d.trace d.early d.path (end_of z)) eq d.run) w.1)

      pauses_next : RestPauses js → Stops (Stored.threads f body p.turns (j ∷ js) most over b0) s fault u → Pauses s n (j ∷ js) fault u
      unfolding Stored.bind Stored.rewinds Stored.thread Stored.spent Stored.ret
      pauses_next rest (inl k) = pauses_now (j ∷ js) s s s.turns n h refl fault u k
      pauses_next rest (inr (inl (inl k))) = pauses_now (j ∷ js) s s s.turns n h refl fault u k
      pauses_next rest (inr (inl (inr k))) = absurd k
      pauses_next rest (inr (inr (inl k))) = pauses_now (j ∷ js) s (turned s p.turns) p.turns n h refl fault u k
      pauses_next rest (inr (inr (inr (inl k)))) = pauses_here k
      pauses_next rest (inr (inr (inr (inr k)))) = pauses_later ((body j).does (turned s p.turns)) (log (body j) (turned s p.turns)) (thread_came j s n v h q) ((body j).does (turned s p.turns)).end refl rest k

    pauses : (js : List Share) → RestPauses js
    pauses [] most over b0 s n v h q fault u k = pauses_none most over b0 s n h fault u k
    pauses (j ∷ js) most over b0 s n v h q fault u k = pauses_next j js most over b0 s n v h q fault u (pauses js) k

    -- by notes, each thread by its own

    abbrev Chosen : Option Leave → List (Ran Instance A) → Result B Cause → Type 0
    Chosen how rs (Ok v) = ⊥
    Chosen how rs (Err (Left x)) = (how ≡ Some x) ⊎ SomeEnds rs (Leaves x)
    Chosen how rs (Err OutOfTurns) = ⊥
    Chosen how rs (Err NoRoom) = Unit {0}
    Chosen how rs (Err CutOff) = Unit {0}
    Chosen how rs (Err Misnoted) = Unit {0}

    failed : (how : Option Leave) (rs : List (Ran Instance A)) (c : Cause) → Failing c → Chosen how rs (Err c)
    failed how rs (Left x) f = absurd f
    failed how rs OutOfTurns f = f
    failed how rs NoRoom f = tt
    failed how rs CutOff f = tt
    failed how rs Misnoted f = tt

    -- what threads from one on have done
    record Noted (how : Option Leave) (s : State) (n : Memory) (js : List Share) (r : After B) (ds : Log) : Type 0 where
      pub rans : List (Ran Instance A)
      pub each : Each js rans
      pub fits : Fits n (trace_of rans)
      pub has : Has input b ls gs r.state p (after n (trace_of rans))
      pub same : Same s r.state
      pub output : r.state.output ≡ s.output ++ output_of (trace_of rans)
      pub deeds : deeds_of (trace_of rans) ≡ ds.deeds
      pub level : Level s r.state
      pub touched : AllShow ls gs s (trace_of rans) ds.touches
      pub turns : r.state.turns ≡ max s.turns (most_turns p.turns rans)
      pub frame : (l : Instance) (i : ℕ) → l.thread ≡ [] → ((c : Tie) → Tied ls gs c → c.instance ≡ l → ⊥) → (after n (trace_of rans)).cells l i ≡ n.cells l i
      pub ends : Chosen how rans r.end

    -- no further one
    noted_at : (how : Option Leave) (s : State) (n : Memory) → Has input b ls gs s p n → p.turns ≤ s.turns → (js : List Share) (e : Result B Cause) → Chosen how (idle_rans js) e → Noted how s n js (at s e) none
    noted_at how s n h le js e ends = record {
      rans = idle_rans js;
      each = idle_each js;
      fits = subst (λ z. Fits n z) (sym (idle_trace js)) tt;
      has = subst (λ z. Has input b ls gs s p (after n z)) (sym (idle_trace js)) h;
      same = same_refl s;
      output = sym (append-nil s.output) ∙ ap (λ z. s.output ++ output_of z) (sym (idle_trace js));
      deeds = ap deeds_of (idle_trace js);
      level = level_refl s;
      touched = tt;
      turns = let k = idle_turns js in let z : s.turns ≡ max s.turns (most_turns p.turns (idle_rans js)) = omega arith in z;
      frame = λ l i o c. ap (λ z. (after n z).cells l i) (idle_trace js);
      ends = ends;
    }

    abbrev NotedRest : ℕ → List Share → Type 0
    NotedRest chosen js = (ns : List ThreadNote) (how : Option Leave) (s : State) (n : Memory) → Visible ls gs s t → Has input b ls gs s p n → p.turns ≤ s.turns → Noted how s n js ((Stored.chosen_threads body p.turns chosen js ns how).does s) (log (Stored.chosen_threads {A = A} {B = B} body p.turns chosen js ns how) s)

    abbrev into : State → Option ℕ → State
    into s left = record s { turns = p.turns; left = left; notes = InOrder }

    abbrev back : State → State → State
    back s u = record u { turns = max s.turns u.turns; left = s.left; notes = s.notes }

    into_same : (s : State) (left : Option ℕ) → Same s (into s left)
    into_same s left = record { here = λ k. refl; everywhere = λ k. refl; frame = refl; room = refl; everywhere_room = refl }

    back_same : (s u : State) → Same u (back s u)
    back_same s u = record { here = λ k. refl; everywhere = λ k. refl; frame = refl; room = refl; everywhere_room = refl }

    some_or : (x how : Option Leave) (y : Leave) → Stored.or_else x how ≡ Some y → (x ≡ Some y) ⊎ (how ≡ Some y)
    some_or None how y e = inr e
    some_or (Some x) how y e = inl e

    -- a thread that is run so far
    module _ (j : Share) (js : List Share) (how : Option Leave) (s : State) (n : Memory) (v : Visible ls gs s t) (h : Has input b ls gs s p n) (le : p.turns ≤ s.turns) (left : Option ℕ) where
      abbrev r : After A
      r = (body j).does (into s left)

      abbrev made : Log
      made = log (body j) (into s left)

      d : Came input threaded ls gs (into s left) (enter j.number p) n ((inner j).runs t (enter j.number p)) r made
      d = (sim j).does ls gs (into s left) t (enter j.number p) n (visible_same ls gs gs s (into s left) t (λ c k. k) (into_same s left) v) (in_thread input b ls gs s p n h p.turns left j.number) refl

      abbrev so_far : Ran Instance A
      so_far = record { trace = d.trace; early = d.early; path = leave p d.path; end = end_of r.end }

      abbrev u : State
      u = back s r.state

      same_u : Same s u
      same_u = same_trans s r.state u (same_trans s (into s left) r.state (into_same s left) d.same) (back_same s r.state)

      has_u : Has input b ls gs u p (after n d.trace)
      has_u = out_of_thread input b ls gs s p n h d.ties r.state j.number d.path (after n d.trace) d.has (d.within refl) (max s.turns r.state.turns) s.left s.notes h.ordered

      level_u : Level s u
      level_u = let z = d.level refl in record { cells = z.cells; kept = z.kept }

      touched_u : AllShow ls gs s d.trace made.touches
      touched_u = show_more ls gs ls gs (into s left) s d.trace d.trace (λ a z. before_level s (into s left) (record { cells = refl; kept = refl }) a z) (λ c i z y. z) (λ F z. z) made.touches (d.touched refl)

      noted_then : (how' : Option Leave) (r' : After B) (es : Log) (w : Noted how' u (after n d.trace) js r' es) → Chosen how (so_far ∷ w.rans) r'.end → Noted how s n (j ∷ js) r' (both made es)
      noted_then how' r' es w ends = record {
        rans = so_far ∷ w.rans;
        each = (so_far, w.rans, refl, (d.path, refl, d.run), w.each);
        fits = fits_append d.trace (trace_of w.rans) n d.fits w.fits;
        has = subst (λ z. Has input b ls gs r'.state p z) (sym (after_append d.trace (trace_of w.rans) n)) w.has;
        same = same_trans s u r'.state same_u w.same;
        output = w.output ∙ ap (λ o. o ++ output_of (trace_of w.rans)) d.output ∙ append_assoc s.output (output_of d.trace) (output_of (trace_of w.rans)) ∙ ap (λ o. s.output ++ o) (sym (output_of_append d.trace (trace_of w.rans)));
        deeds = deeds_append d.trace (trace_of w.rans) ∙ ap₂ (λ y z. y ++ z) d.deeds w.deeds;
        level = level_trans s u r'.state level_u w.level;
        touched = show_both ls gs s u d.trace (trace_of w.rans) made.touches es.touches level_u touched_u w.touched;
        turns = let k = w.turns in let e = d.turns in let z : r'.state.turns ≡ max s.turns (max d.path.turns (most_turns p.turns w.rans)) = omega arith in z;
        frame = λ l i o c. ap (λ (z : Memory). z.cells l i) (after_append d.trace (trace_of w.rans) n) ∙ w.frame l i o c ∙ (d.within refl).frame l i o c;
        ends = ends;
      }

      noted_next : (fits : Result A Cause → Result (Option Leave) Cause) → Fitting fits → (chosen : ℕ) (ns : List ThreadNote) → NotedRest chosen js → (e : Result (Option Leave) Cause) → fits r.end ≡ e
          → Noted how s n (j ∷ js) (next u e (λ x. Stored.chosen_threads body p.turns chosen js ns (Stored.or_else x how))) (both made (next_log {B = B} u e (λ x. Stored.chosen_threads body p.turns chosen js ns (Stored.or_else x how))))
      noted_next fits fitting chosen ns rest (Ok x) eq =
          let how' = Stored.or_else x how in
          let r' : After B = (Stored.chosen_threads body p.turns chosen js ns how').does u in
          let w = rest ns how' u (after n d.trace) (visible_same ls gs gs s u t (λ c k. k) same_u v) has_u (omega arith) in
          noted_then how' r' (log (Stored.chosen_threads {A = A} {B = B} body p.turns chosen js ns how') u) w (ends w.rans r'.end w.ends)
        where
          ends : (rs : List (Ran Instance A)) (e : Result B Cause) → Chosen (Stored.or_else x how) rs e → Chosen how (so_far ∷ rs) e
          ends rs (Ok v) k = absurd k
          ends rs (Err (Left y)) k = ⊎_elim (λ z. ⊎_elim (λ z. inr (inl (fitting.left r.end y (eq ∙ ap Ok z)))) (λ z. inl z) (some_or x how y z)) (λ z. inr (inr z)) k
          ends rs (Err OutOfTurns) k = k
          ends rs (Err NoRoom) k = tt
          ends rs (Err CutOff) k = tt
          ends rs (Err Misnoted) k = tt
      noted_next fits fitting chosen ns rest (Err c) eq =
          let f = fitting.fails r.end c eq in
          let w = noted_at None u (after n d.trace) has_u (omega arith) js (Err c) (failed None (idle_rans js) c f) in
          noted_then None (at u (Err c)) none w (failed how (so_far ∷ w.rans) c f)

    -- a thread that isn't begun
    abbrev skipped : Ran Instance A
    skipped = record { trace = []; early = false; path = p; end = Stopped }

    noted_skipped : (j : Share) (js : List Share) (how : Option Leave) (s : State) (n : Memory) (r : After B) (ds : Log) → Noted how s n js r ds → Noted how s n (j ∷ js) r ds
    noted_skipped j js how s n r ds w = record {
      rans = skipped ∷ w.rans;
      each = (skipped, w.rans, refl, (enter j.number p, refl, (sim j).stops t (enter j.number p)), w.each);
      fits = w.fits;
      has = w.has;
      same = w.same;
      output = w.output;
      deeds = w.deeds;
      level = w.level;
      touched = w.touched;
      turns = let k = w.turns in let l = turns_least p.turns w.rans in let z : r.state.turns ≡ max s.turns (max p.turns (most_turns p.turns w.rans)) = omega arith in z;
      frame = w.frame;
      ends = ends r.end w.ends;
    }
      where
        ends : (e : Result B Cause) → Chosen how w.rans e → Chosen how (skipped ∷ w.rans) e
        ends (Ok v) k = k
        ends (Err (Left y)) k = ⊎_elim (λ z. inl z) (λ z. inr (inr z)) k
        ends (Err OutOfTurns) k = k
        ends (Err NoRoom) k = tt
        ends (Err CutOff) k = tt
        ends (Err Misnoted) k = tt

    by_thread : (chosen : ℕ) (j : Share) (js : List Share) (c : Bool) (note : ThreadNote) (ns : List ThreadNote) → NotedRest chosen js → (how : Option Leave) (s : State) (n : Memory) → Visible ls gs s t → Has input b ls gs s p n → p.turns ≤ s.turns
        → Noted how s n (j ∷ js) (let r = (Stored.by_thread_note c note p.turns (body j)).does s in next r.state r.end (λ x. Stored.chosen_threads body p.turns chosen js ns (Stored.or_else x how)))
        (both (log (Stored.by_thread_note c note p.turns (body j)) s) (let r = (Stored.by_thread_note c note p.turns (body j)).does s in next_log {B = B} r.state r.end (λ x. Stored.chosen_threads body p.turns chosen js ns (Stored.or_else x how))))
    unfolding Stored.noted_thread Stored.misnoted Stored.ret
    by_thread chosen j js true Whole ns rest how s n v h le = noted_next j js how s n v h le None Stored.fits_chosen chosen_fits chosen ns rest (Stored.fits_chosen (r j js how s n v h le None).end) refl
    by_thread chosen j js true NotBegun ns rest how s n v h le = noted_at how s n h le (j ∷ js) (Err Misnoted) tt
    by_thread chosen j js true (CutAfter looks) ns rest how s n v h le = noted_at how s n h le (j ∷ js) (Err Misnoted) tt
    by_thread chosen j js false Whole ns rest how s n v h le = noted_next j js how s n v h le None Stored.fits_whole whole_fits chosen ns rest (Stored.fits_whole (r j js how s n v h le None).end) refl
    by_thread chosen j js false NotBegun ns rest how s n v h le = noted_skipped j js how s n ((Stored.chosen_threads body p.turns chosen js ns how).does s) (log (Stored.chosen_threads {A = A} {B = B} body p.turns chosen js ns how) s) (rest ns how s n v h le)
    by_thread chosen j js false (CutAfter looks) ns rest how s n v h le = noted_next j js how s n v h le (Some looks) Stored.fits_cut cut_fits chosen ns rest (Stored.fits_cut (r j js how s n v h le (Some looks)).end) refl

    chosen_woven : (chosen : ℕ) (js : List Share) → NotedRest chosen js
    unfolding Stored.bind Stored.misnoted Stored.leaves
    chosen_woven chosen [] [] None s n v h le = noted_at None s n h le [] (Err Misnoted) tt
    chosen_woven chosen [] [] (Some x) s n v h le = noted_at (Some x) s n h le [] (Err (Left x)) (inl refl)
    chosen_woven chosen [] (note ∷ ns) how s n v h le = noted_at how s n h le [] (Err Misnoted) tt
    chosen_woven chosen (j ∷ js) [] how s n v h le = noted_at how s n h le (j ∷ js) (Err Misnoted) tt
    chosen_woven chosen (j ∷ js) (note ∷ ns) how s n v h le = by_thread chosen j js (nat_eq j.number chosen) note ns (chosen_woven chosen js) how s n v h le

    -- the threads that are begun, where the construct was come to in a state with as many cells

    module _ (F : Visit → Type 0) (s0 : State) where
      abbrev pub ThreadFine : Share → Type 0
      ThreadFine j = (u : State) (n : Memory) → Visible ls gs u t → Has input threaded ls gs u (enter j.number p) n → u.turns ≡ p.turns → Level s0 u → EachVisit F ((body j).visits u)

      abbrev pub EachFine : List Share → Type 0
      EachFine [] = Unit {0}
      EachFine (j ∷ js) = ThreadFine j × EachFine js

      abbrev FineRest : List Share → Type 0
      FineRest js = (most : ℕ) (over : Bool) (b0 : B) (s : State) (n : Memory) → Visible ls gs s t → Has input b ls gs s p n → s.notes ≡ InOrder → p.turns ≤ most → Level s0 s → EachFine js → EachVisit F ((Stored.threads f body p.turns js most over b0).visits s)

      fine_next : (j : Share) (js : List Share) (most : ℕ) (over : Bool) (b0 : B) (s : State) (n : Memory) → Visible ls gs s t → Has input b ls gs s p n → p.turns ≤ most → Level s0 s → EachFine js → FineRest js → (r : After A) (ds : Log) → Thread j s n r ds → (e : Result A Cause)
          → EachVisit F (Stored.next_visits (took most r.state e).state (took most r.state e).end (λ k. Stored.threads f body p.turns js k.most (over || is_spent k.value) (gathered f b0 k.value)))
      fine_next j js most over b0 s n v h le level fs rest r ds d (Ok a) =
          rest (max most r.state.turns) (over || false) (f b0 a) r.state (after n d.trace) (visible_then j js most over b0 s n v h le r ds d) (has_then j js most over b0 s n v h le r ds d) (d.has.ordered refl) (omega arith) (level_trans s0 s r.state level (level_run j js most over b0 s n v h le r ds d)) fs
      fine_next j js most over b0 s n v h le level fs rest r ds d (Err OutOfTurns) =
          rest (max most r.state.turns) (over || true) b0 r.state (after n d.trace) (visible_then j js most over b0 s n v h le r ds d) (has_then j js most over b0 s n v h le r ds d) (d.has.ordered refl) (omega arith) (level_trans s0 s r.state level (level_run j js most over b0 s n v h le r ds d)) fs
      fine_next j js most over b0 s n v h le level fs rest r ds d (Err (Left x)) = tt
      fine_next j js most over b0 s n v h le level fs rest r ds d (Err NoRoom) = tt
      fine_next j js most over b0 s n v h le level fs rest r ds d (Err CutOff) = tt
      fine_next j js most over b0 s n v h le level fs rest r ds d (Err Misnoted) = tt

      fine_none : (c : Bool) (b0 : B) (s : State) → EachVisit F ((cond c Stored.spent (Stored.ret b0)).visits s)
      unfolding Stored.spent Stored.ret
      fine_none true b0 s = tt
      fine_none false b0 s = tt

      fine_threads : (js : List Share) → FineRest js
      unfolding Stored.bind Stored.rewinds Stored.thread
      fine_threads [] most over b0 s n v h q le level fs = fine_none over b0 (turned s most)
      fine_threads (j ∷ js) most over b0 s n v h q le level fs =
          let r = (body j).does (turned s p.turns) in
          fine_append F ((body j).visits (turned s p.turns)) (Stored.next_visits (took most r.state r.end).state (took most r.state r.end).end (λ k. Stored.threads f body p.turns js k.most (over || is_spent k.value) (gathered f b0 k.value)))
          (fs.0 (turned s p.turns) n (visible_turned s p.turns v) (has_enter input b ls gs (turned s p.turns) p n (has_turned s p.turns n h) q j.number) refl (level_trans s0 s (turned s p.turns) level (record { cells = refl; kept = refl })))
          (fine_next j js most over b0 s n v h le level fs.1 (fine_threads js) r (log (body j) (turned s p.turns)) (thread_came j s n v h q) r.end)

      -- by notes

      abbrev FineChosen : ℕ → List Share → Type 0
      FineChosen chosen js = (ns : List ThreadNote) (how : Option Leave) (s : State) (n : Memory) → Visible ls gs s t → Has input b ls gs s p n → p.turns ≤ s.turns → Level s0 s → EachFine js → EachVisit F ((Stored.chosen_threads {A = A} {B = B} body p.turns chosen js ns how).visits s)

      module _ (j : Share) (js : List Share) (how : Option Leave) (s : State) (n : Memory) (v : Visible ls gs s t) (h : Has input b ls gs s p n) (le : p.turns ≤ s.turns) (level : Level s0 s) (fs : EachFine (j ∷ js)) (left : Option ℕ) (chosen : ℕ) (ns : List ThreadNote) (rest : FineChosen chosen js) where
        run_fine : EachVisit F ((body j).visits (into s left))
        run_fine = fs.0 (into s left) n (visible_same ls gs gs s (into s left) t (λ c k. k) (into_same s left) v) (in_thread input b ls gs s p n h p.turns left j.number) refl (level_trans s0 s (into s left) level (record { cells = refl; kept = refl }))

        after_fine : (e : Result (Option Leave) Cause) → EachVisit F (Stored.next_visits {B = B} (u j js how s n v h le left) e (λ x. Stored.chosen_threads body p.turns chosen js ns (Stored.or_else x how)))
        after_fine (Ok x) = rest ns (Stored.or_else x how) (u j js how s n v h le left) (after n (d j js how s n v h le left).trace) (visible_same ls gs gs s (u j js how s n v h le left) t (λ c k. k) (same_u j js how s n v h le left) v) (has_u j js how s n v h le left) (omega arith) (level_trans s0 s (u j js how s n v h le left) level (level_u j js how s n v h le left)) fs.1
        after_fine (Err c) = tt

        both_fine : (fits : Result A Cause → Result (Option Leave) Cause) → EachVisit F ((body j).visits (into s left) ++ Stored.next_visits {B = B} (u j js how s n v h le left) (fits (r j js how s n v h le left).end) (λ x. Stored.chosen_threads body p.turns chosen js ns (Stored.or_else x how)))
        both_fine fits = fine_append F ((body j).visits (into s left)) (Stored.next_visits {B = B} (u j js how s n v h le left) (fits (r j js how s n v h le left).end) (λ x. Stored.chosen_threads body p.turns chosen js ns (Stored.or_else x how))) run_fine (after_fine (fits (r j js how s n v h le left).end))

      by_thread_fine : (chosen : ℕ) (j : Share) (js : List Share) (c : Bool) (note : ThreadNote) (ns : List ThreadNote) → FineChosen chosen js → (how : Option Leave) (s : State) (n : Memory) → Visible ls gs s t → Has input b ls gs s p n → p.turns ≤ s.turns → Level s0 s → EachFine (j ∷ js)
          → EachVisit F ((Stored.by_thread_note c note p.turns (body j)).visits s ++ (let r = (Stored.by_thread_note c note p.turns (body j)).does s in Stored.next_visits {B = B} r.state r.end (λ x. Stored.chosen_threads body p.turns chosen js ns (Stored.or_else x how))))
      unfolding Stored.noted_thread Stored.misnoted Stored.ret
      by_thread_fine chosen j js true Whole ns rest how s n v h le level fs = both_fine j js how s n v h le level fs None chosen ns rest Stored.fits_chosen
      by_thread_fine chosen j js true NotBegun ns rest how s n v h le level fs = tt
      by_thread_fine chosen j js true (CutAfter looks) ns rest how s n v h le level fs = tt
      by_thread_fine chosen j js false Whole ns rest how s n v h le level fs = both_fine j js how s n v h le level fs None chosen ns rest Stored.fits_whole
      by_thread_fine chosen j js false NotBegun ns rest how s n v h le level fs = rest ns how s n v h le level fs.1
      by_thread_fine chosen j js false (CutAfter looks) ns rest how s n v h le level fs = both_fine j js how s n v h le level fs (Some looks) chosen ns rest Stored.fits_cut

      fine_chosen : (chosen : ℕ) (js : List Share) → FineChosen chosen js
      unfolding Stored.bind Stored.misnoted Stored.leaves
      fine_chosen chosen [] [] None s n v h le level fs = tt
      fine_chosen chosen [] [] (Some x) s n v h le level fs = tt
      fine_chosen chosen [] (note ∷ ns) how s n v h le level fs = tt
      fine_chosen chosen (j ∷ js) [] how s n v h le level fs = tt
      fine_chosen chosen (j ∷ js) (note ∷ ns) how s n v h le level fs = by_thread_fine chosen j js (nat_eq j.number chosen) note ns (fine_chosen chosen js) how s n v h le level fs

      fine_by_note : (b0 : B) (js : List Share) (s : State) (n : Memory) → Visible ls gs s t → Has input b ls gs s p n → s.turns ≡ p.turns → Level s0 s → EachFine js → (chosen : Option ℕ) (ns : List ThreadNote) → EachVisit F ((Stored.by_note f b0 js body chosen ns).visits s)
      unfolding Stored.none_chosen Stored.par
      fine_by_note b0 js s n v h e level fs None ns =
          let s1 : State = record s { notes = InOrder } in
          subst (λ z. EachVisit F ((Stored.threads f body z js z false b0).visits s1)) (sym e)
          (fine_threads js p.turns false b0 s1 n (visible_same ls gs gs s s1 t (λ c k. k) (record { here = λ k. refl; everywhere = λ k. refl; frame = refl; room = refl; everywhere_room = refl }) v) (has_renoted input b ls gs s p n h s.turns s.left InOrder (λ z. refl)) refl (le_refl p.turns)
          (level_trans s0 s s1 level (record { cells = refl; kept = refl })) fs)
      fine_by_note b0 js s n v h e level fs (Some chosen) ns =
          subst (λ z. EachVisit F ((Stored.chosen_threads {A = A} {B = B} body z chosen js ns None).visits s)) (sym e) (fine_chosen chosen js ns None s n v h (omega arith) level fs)

      fine_by_notes : (b0 : B) (js : List Share) (s : State) (n : Memory) → Visible ls gs s t → Has input b ls gs s p n → s.turns ≡ p.turns → Level s0 s → EachFine js → (notes : Schedule) → s.notes ≡ notes → EachVisit F ((Stored.by_notes f b0 js body notes).visits s)
      unfolding Stored.par Stored.bind Stored.renotes Stored.misnoted
      fine_by_notes b0 js s n v h e level fs InOrder is = subst (λ z. EachVisit F ((Stored.threads f body z js z false b0).visits s)) (sym e) (fine_threads js p.turns false b0 s n v h is (le_refl p.turns) level fs)
      fine_by_notes b0 js s n v h e level fs (ByNotes []) is = tt
      fine_by_notes b0 js s n v h e level fs (ByNotes (c ∷ cs)) is =
          let s1 : State = record s { notes = ByNotes cs } in
          fine_by_note b0 js s1 n (visible_same ls gs gs s s1 t (λ c k. k) (record { here = λ k. refl; everywhere = λ k. refl; frame = refl; room = refl; everywhere_room = refl }) v) (has_renoted input b ls gs s p n h s.turns s.left (ByNotes cs) (λ o. absurd (no (sym is ∙ h.ordered o)))) e
          (level_trans s0 s s1 level (record { cells = refl; kept = refl })) fs c.chosen c.threads
        where
          no : ◌≡◌ {A = Schedule} (ByNotes (c ∷ cs)) InOrder → ⊥
          no e = absurd (cc)

  -- the construct, and what comes after it

  module _ (asks : Asks Instance) (limit : ℕ) (cuts : ℕ → ℕ → List ℕ) (one : Bool) (site : Site) (js : List Share) (b0 : B) {C : Type 0} (k : B → Stored C) (l : List A → Behaviour Instance C) (after_sim : (values : List A) → Simulates input b (k (gathered_all f b0 values)) (l values)) where
    abbrev construct : Behaviour Instance (List A)
    construct = Behaviours.par asks one site js thread

    abbrev whole : Behaviour Instance C
    whole = Behaviours.◌>>=◌ construct l

    abbrev joined_path : Path Instance → List (Ran Instance A) → Path Instance
    joined_path p rs = joined p (most_turns p.turns rs)

    carried : (D E : Type 0) (c : Cause) → Behaviours.Carries {A = D} {B = E} (end_of (Err c)) (end_of (Err c))
    carried D E (Left x) = refl
    carried D E OutOfTurns = refl
    carried D E NoRoom = refl
    carried D E CutOff = refl
    carried D E Misnoted = refl

    module _ (ls gs : List Tie) (t : Scope Instance) (p : Path Instance) (s : State) (n : Memory) where
      abbrev traced : List (Ran Instance A) → Trace Instance
      traced rs = trace_of ls gs t p rs

      abbrev Run : List (Ran Instance A) → End (List A) → Type 0
      Run rs e = construct.runs t p (traced rs) (some_early rs || is_left e) (joined_path p rs) e

      par_run : (rs : List (Ran Instance A)) → Each ls gs t p js rs → (e : End (List A)) → JoinsInOrder p rs e → Run rs e
      par_run rs each e o = inl (rs, each, forms (one || is_inside p) p rs e o, refl, refl)

      -- the construct itself
      construct_came : (rs : List (Ran Instance A)) (u : State) (ds : Log) → deeds_of (traced rs) ≡ ds.deeds → Level s u → AllShow ls gs s (traced rs) ds.touches → Fits n (traced rs) → Has input b ls gs u p (after n (traced rs)) → Same s u → u.output ≡ s.output ++ output_of (traced rs) → u.turns ≡ max p.turns (most_turns p.turns rs)
          → ((l : Instance) (i : ℕ) → l.thread ≡ [] → ((c : Tie) → Tied ls gs c → c.instance ≡ l → ⊥) → (after n (traced rs)).cells l i ≡ n.cells l i) → (e : Result (List A) Cause) → Run rs (end_of e) → Came input b ls gs s p n (construct.runs t p) (at u e) ds
      construct_came rs u ds deeds level touched fits has same output turns frame e run = record {
        trace = traced rs;
        early = some_early rs || is_left (end_of e);
        path = joined_path p rs;
        ties = gs;
        run = run;
        fits = fits;
        has = has_moved input b ls gs u p (after n (traced rs)) has u (joined_path p rs) (after n (traced rs)) refl refl refl refl refl refl (goes_joined p (most_turns p.turns rs)) refl (le_refl p.elaborations) refl has.taken has.rest has.held;
        grows = λ c z. z;
        same = same;
        turns = let y = turns_least p.turns rs in let z : u.turns ≡ most_turns p.turns rs = omega arith in z;
        output = output;
        deeds = deeds;
        level = λ z. level;
        touched = λ z. touched;
        within = λ z. record { ties = refl; taken = refl; globals = refl; frame = frame };
      }

      -- what a construct came to
      abbrev Built : State → Result B Cause → Log → Type 0
      Built u (Ok value) ds = (values : List A) × Came input b ls gs s p n (construct.runs t p) (at u (Ok values)) ds × (value ≡ gathered_all f b0 values)
      Built u (Err c) ds = Came input b ls gs s p n (construct.runs t p) (at u (Err c)) ds

      par_built : (r : After B) (ds : Log) (e : Result B Cause) → r.end ≡ e → Woven ls gs t p p.turns false b0 s n js r ds → Built r.state e ds
      par_built r ds e eq w = go e (subst (λ z. Ends ls gs t p false b0 w.rans z) eq w.ends)
        where
          came : (e : Result (List A) Cause) → JoinsInOrder p w.rans (end_of e) → Came input b ls gs s p n (construct.runs t p) (at r.state e) ds
          came e o = construct_came w.rans r.state ds w.deeds w.level w.touched w.fits w.has w.same w.output w.turns w.frame e (par_run w.rans w.each (end_of e) o)

          go : (e : Result B Cause) → Ends ls gs t p false b0 w.rans e → Built r.state e ds
          go (Ok value) k = (k.1.0, came (Ok k.1.0) k.1.1, k.1.2)
          go (Err (Left x)) k = came (Err (Left x)) k
          go (Err NoRoom) k = came (Err NoRoom) (inl k)
          go (Err CutOff) k = came (Err CutOff) (inl k)
          go (Err Misnoted) k = came (Err Misnoted) (inl k)
          go (Err OutOfTurns) k = came (Err OutOfTurns) (k.0, ⊎_elim (λ z. absurd (true≢false (sym z))) (λ z. z) k.1)

      module _ (v : Visible ls gs s t) where
        whole_came : (u : State) (ds : Log) (e : Result B Cause) → Built u e ds → Came input b ls gs s p n (whole.runs t p) (next u e k) (both ds (next_log u e k))
        whole_came u ds (Ok value) g =
            let d = g.1 in
            subst (λ z. Came input b ls gs s p n (whole.runs t p) ((k z).does u) (both ds (log (k z) u))) (sym g.2)
            (let c = (after_sim g.0).does ls d.ties u t d.path (after n d.trace) (visible_same ls gs d.ties s u t d.grows d.same v) d.has d.turns in
            came_then input b ls gs s p n (construct.runs t p) ((l g.0).runs t d.path) (whole.runs t p) (at u (Ok g.0)) ((k (gathered_all f b0 g.0)).does u) ds (log (k (gathered_all f b0 g.0)) u) d c (d.early || c.early) ((k (gathered_all f b0 g.0)).does u).end
            (inl (g.0, d.path, d.trace, c.trace, d.early, c.early, refl, refl, d.run, c.run)))
        whole_came u ds (Err x) d = came_as input b ls gs s p n (construct.runs t p) (whole.runs t p) (at u (Err x)) (Err x) ds (both ds none) (both_none ds) d d.early (inr (end_of (Err x), carried (List A) C x, d.run))

        whole_later : (u : State) (ds : Log) (e : Result B Cause) → Built u e ds → (fault : Outage) (x : State) → next_halts u e k fault x → Halted input b s p n (whole.runs t p) fault x
        whole_later u ds (Ok value) g fault x c =
            let d = g.1 in
            halted_after input b s u x p d.path n (after n d.trace) d.trace ((l g.0).runs t d.path) (whole.runs t p) fault refl d.fits d.output (λ e. let z = d.within e in (z.taken, z.globals))
            (λ tr y p' q. (d.early || y, inl (g.0, d.path, d.trace, tr, d.early, y, refl, refl, d.run, q)))
            (halted_stops input b (k (gathered_all f b0 g.0)) (l g.0) (after_sim g.0) ls d.ties u t d.path (after n d.trace) (visible_same ls gs d.ties s u t d.grows d.same v) d.has d.turns fault x (subst (λ z. Stops (k z) u fault x) g.2 c))
        whole_later u ds (Err x) g fault w c = absurd c

      whole_paused : (fault : Outage) (u : State) → Pauses ls gs t p s n js fault u → Halted input b s p n (whole.runs t p) fault u
      whole_paused fault u (is, w) = subst (λ z. Halted input b s p n (whole.runs t p) z u) (sym is) (record {
        trace = trace_of ls gs t p w.rans;
        early = some_early w.rans || false;
        path = joined_path p w.rans;
        run = inr (Stopped, refl, par_run w.rans w.each Stopped w.stopped);
        fits = w.fits;
        told = w.output;
        taken = w.taken;
        finals = w.finals_at;
        within = λ z. (refl, refl, refl);
      })

    whole_stops : (t : Scope Instance) (p : Path Instance) → whole.runs t p [] false p Stopped
    whole_stops t p = inr (Stopped, refl, inr (refl, refl, refl, refl))

    -- by notes: not with one worker, and not in a thread

    abbrev Free : Path Instance → Type 0
    Free p = (one || is_inside p) ≡ false

    free : one ≡ false → (p : Path Instance) → p.name ≡ [] → Free p
    free alone p e = subst (λ z. (z || is_inside p) ≡ false) (sym alone) (subst (λ z. is_inside (record p { name = z }) ≡ false) (sym e) refl)

    module _ (ls gs : List Tie) (s0 s : State) (t : Scope Instance) (p : Path Instance) (n : Memory) (v : Visible ls gs s t) (h : Has input b ls gs s p n) (begun : s.turns ≡ p.turns) (was : Same s0 s) (flat : Level s0 s) (put : s.output ≡ s0.output) (o : Free p) where
      free_run : (rs : List (Ran Instance A)) → Each ls gs t p js rs → (e : End (List A)) → Joins rs e → Run ls gs t p s0 n rs e
      free_run rs each e joins = inl (rs, each, subst (λ z. Form z p rs (trace_of ls gs t p rs) e) (sym o) (shuffle_in_order (traces rs), joins), refl, refl)

      free_came : (rs : List (Ran Instance A)) (u : State) (ds : Log) → deeds_of (trace_of ls gs t p rs) ≡ ds.deeds → Level s u → AllShow ls gs s (trace_of ls gs t p rs) ds.touches → Each ls gs t p js rs → Fits n (trace_of ls gs t p rs) → Has input b ls gs u p (after n (trace_of ls gs t p rs)) → Same s u → u.output ≡ s.output ++ output_of (trace_of ls gs t p rs) → u.turns ≡ max p.turns (most_turns p.turns rs)
          → ((l : Instance) (i : ℕ) → l.thread ≡ [] → ((c : Tie) → Tied ls gs c → c.instance ≡ l → ⊥) → (after n (trace_of ls gs t p rs)).cells l i ≡ n.cells l i) → (e : Result (List A) Cause) → Joins rs (end_of e) → Came input b ls gs s0 p n (construct.runs t p) (at u e) ds
      free_came rs u ds deeds level touched each fits has same output turns frame e joins =
          construct_came ls gs t p s0 n rs u ds deeds (level_trans s0 s u flat level) (show_more ls gs ls gs s s0 (trace_of ls gs t p rs) (trace_of ls gs t p rs) (λ a z. before_level s0 s flat a z) (λ c i z y. z) (λ F z. z) ds.touches touched) fits has (same_trans s0 s u was same) (output ∙ ap (λ z. z ++ output_of (trace_of ls gs t p rs)) put) turns frame e (free_run rs each (end_of e) joins)

      -- with a chosen thread
      chosen_built : (r : After B) (ds : Log) (e : Result B Cause) → r.end ≡ e → Noted ls gs t p None s n js r ds → Built ls gs t p s0 n r.state e ds
      chosen_built r ds e eq w = go e (subst (λ z. Chosen ls gs t p None w.rans z) eq w.ends)
        where
          came : (e : Result (List A) Cause) → Joins w.rans (end_of e) → Came input b ls gs s0 p n (construct.runs t p) (at r.state e) ds
          came e joins = free_came w.rans r.state ds w.deeds w.level w.touched w.each w.fits w.has w.same w.output (w.turns ∙ ap (λ z. max z (most_turns p.turns w.rans)) begun) w.frame e joins

          go : (e : Result B Cause) → Chosen ls gs t p None w.rans e → Built ls gs t p s0 n r.state e ds
          go (Ok value) k = absurd k
          go (Err (Left x)) k = came (Err (Left x)) (⊎_elim (λ z. absurd (none-ne-some z)) (λ z. z) k)
          go (Err OutOfTurns) k = absurd k
          go (Err NoRoom) k = came (Err NoRoom) tt
          go (Err CutOff) k = came (Err CutOff) tt
          go (Err Misnoted) k = came (Err Misnoted) tt

      -- without one
      abbrev renoted : After B → State
      renoted r = record r.state { notes = s.notes }

      none_built : (r : After B) (ds : Log) (e : Result B Cause) → r.end ≡ e → Woven ls gs t p p.turns false b0 (record s { notes = InOrder }) n js r ds → Built ls gs t p s0 n (renoted r) (Stored.fits_none e) ds
      none_built r ds e eq w = go e (subst (λ z. Ends ls gs t p false b0 w.rans z) eq w.ends)
        where
          in_order_same : Same s (record s { notes = InOrder })
          in_order_same = record { here = λ k. refl; everywhere = λ k. refl; frame = refl; room = refl; everywhere_room = refl }

          same : Same s (renoted r)
          same = let z = same_trans s (record s { notes = InOrder }) r.state in_order_same w.same in record { here = z.here; everywhere = z.everywhere; frame = z.frame; room = z.room; everywhere_room = z.everywhere_room }

          came : (e : Result (List A) Cause) → Joins w.rans (end_of e) → Came input b ls gs s0 p n (construct.runs t p) (at (renoted r) e) ds
          came e joins = free_came w.rans (renoted r) ds w.deeds (record { cells = w.level.cells; kept = w.level.kept })
              (show_more ls gs ls gs (record s { notes = InOrder }) s (trace_of ls gs t p w.rans) (trace_of ls gs t p w.rans) (λ a z. before_level s (record s { notes = InOrder }) (record { cells = refl; kept = refl }) a z) (λ c i z y. z) (λ F z. z) ds.touches w.touched) w.each w.fits (has_renoted input b ls gs r.state p (after n (trace_of ls gs t p w.rans)) w.has r.state.turns r.state.left s.notes h.ordered) same w.output w.turns w.frame e joins

          go : (e : Result B Cause) → Ends ls gs t p false b0 w.rans e → Built ls gs t p s0 n (renoted r) (Stored.fits_none e) ds
          go (Ok value) k = (k.1.0, came (Ok k.1.0) k.1.1, k.1.2)
          go (Err (Left x)) k = came (Err Misnoted) tt
          go (Err NoRoom) k = came (Err NoRoom) tt
          go (Err CutOff) k = came (Err CutOff) tt
          go (Err Misnoted) k = came (Err Misnoted) tt
          go (Err OutOfTurns) k = came (Err OutOfTurns) (k.0, ⊎_elim (λ z. absurd (true≢false (sym z))) (λ z. z) k.1)

      noted_built : (chosen : Option ℕ) (ns : List ThreadNote) → let r = (Stored.by_note f b0 js body chosen ns).does s in Built ls gs t p s0 n r.state r.end (log (Stored.by_note f b0 js body chosen ns) s)
      unfolding Stored.none_chosen Stored.par
      noted_built None ns =
          let s1 : State = record s { notes = InOrder } in
          let r = (Stored.threads f body s.turns js s.turns false b0).does s1 in
          none_built r (log (Stored.threads f body s.turns js s.turns false b0) s1) r.end refl
          (subst (λ z. Woven ls gs t p p.turns false b0 s1 n js ((Stored.threads f body z js z false b0).does s1) (log (Stored.threads f body z js z false b0) s1)) (sym begun)
          (woven ls gs t p js p.turns false b0 s1 n (visible_same ls gs gs s s1 t (λ c k. k) (record { here = λ k. refl; everywhere = λ k. refl; frame = refl; room = refl; everywhere_room = refl }) v) (has_renoted input b ls gs s p n h s.turns s.left InOrder (λ z. refl)) refl (le_refl p.turns)))
      noted_built (Some chosen) ns =
          let r = (Stored.chosen_threads body s.turns chosen js ns None).does s in
          chosen_built r (log (Stored.chosen_threads {A = A} {B = B} body s.turns chosen js ns None) s) r.end refl (subst (λ z. Noted ls gs t p None s n js ((Stored.chosen_threads body z chosen js ns None).does s) (log (Stored.chosen_threads {A = A} {B = B} body z chosen js ns None) s)) (sym begun) (chosen_woven ls gs t p chosen js ns None s n v h (omega arith)))

    -- where it is taken in order
    module _ (ls gs : List Tie) (s : State) (t : Scope Instance) (p : Path Instance) (n : Memory) (v : Visible ls gs s t) (h : Has input b ls gs s p n) (e : s.turns ≡ p.turns) (q : s.notes ≡ InOrder) where
      abbrev all : After B
      all = (Stored.threads f body s.turns js s.turns false b0).does s

      abbrev all_deeds : Log
      all_deeds = log (Stored.threads f body s.turns js s.turns false b0) s

      all_woven : Woven ls gs t p p.turns false b0 s n js all all_deeds
      all_woven = subst (λ z. Woven ls gs t p p.turns false b0 s n js ((Stored.threads f body z js z false b0).does s) (log (Stored.threads f body z js z false b0) s)) (sym e) (woven ls gs t p js p.turns false b0 s n v h q (le_refl p.turns))

      pub par_does : Came input b ls gs s p n (whole.runs t p) ((Stored.bind (Stored.par f b0 js body) k).does s) (log (Stored.bind (Stored.par f b0 js body) k) s)
      unfolding Stored.bind Stored.par
      par_does = whole_came ls gs t p s n v all.state all_deeds all.end (par_built ls gs t p s n all all_deeds all.end refl all_woven)

      pub par_halts : (fault : Outage) (u : State) → (Stored.bind (Stored.par f b0 js body) k).halts s fault u → Halted input b s p n (whole.runs t p) fault u
      unfolding Stored.bind Stored.par
      par_halts fault u c = ⊎_elim
          (λ c. whole_paused ls gs t p s n fault u (pauses ls gs t p js p.turns false b0 s n v h q fault u (subst (λ z. Stops (Stored.threads f body z js z false b0) s fault u) e c)))
          (λ c. whole_later ls gs t p s n v all.state all_deeds all.end (par_built ls gs t p s n all all_deeds all.end refl all_woven) fault u c) c

    pub par_simulates : b.ordered ≡ true → Simulates input b (Stored.bind (Stored.par f b0 js body) k) whole
    par_simulates o = record {
      stops = whole_stops;
      does = λ ls gs s t p n v h e. par_does ls gs s t p n v h e (h.ordered o);
      halts = λ ls gs s t p n v h e fault u c. par_halts ls gs s t p n v h e (h.ordered o) fault u c;
    }

    module _ (alone : one ≡ true → b.ordered ≡ true) (threads_ordered : b.outermost ≡ false → b.ordered ≡ true) where
      -- a note is taken, if there is one
      module _ (ls gs : List Tie) (s : State) (t : Scope Instance) (p : Path Instance) (n : Memory) (v : Visible ls gs s t) (h : Has input b ls gs s p n) (e : s.turns ≡ p.turns) where
        abbrev By : Schedule → After B
        By notes = (Stored.by_notes f b0 js body notes).does s

        abbrev Deeds : Schedule → Log
        Deeds notes = log (Stored.by_notes f b0 js body notes) s

        in_notes : (cs : List ConstructNote) → s.notes ≡ ByNotes cs → b.ordered ≡ true → ⊥
        in_notes cs is o = absurd (no (sym is ∙ h.ordered o))
          where
            no : ◌≡◌ {A = Schedule} (ByNotes cs) InOrder → ⊥
            no e = absurd (cc)

        choose : (c : Bool) → (c ≡ true → b.ordered ≡ true) → (b.ordered ≡ true → ⊥) → c ≡ false
        choose true k un = absurd (un (k refl))
        choose false k un = refl

        choose_open : (c : Bool) → b.outermost ≡ c → (b.ordered ≡ true → ⊥) → p.name ≡ []
        choose_open true k un = h.outer k
        choose_open false k un = absurd (un (threads_ordered k))

        is_free : (cs : List ConstructNote) → s.notes ≡ ByNotes cs → Free p
        is_free cs is = free (choose one alone (in_notes cs is)) p (choose_open b.outermost refl (in_notes cs is))

        by_built : (notes : Schedule) → s.notes ≡ notes → (notes ≡ InOrder → ⊥) → Built ls gs t p s n (By notes).state (By notes).end (Deeds notes)
        unfolding Stored.bind Stored.renotes Stored.misnoted
        by_built InOrder is ne = absurd (ne refl)
        by_built (ByNotes []) is ne = came_at input b ls gs s p n (construct.runs t p) (Err Misnoted) h e (inr (refl, refl, refl, refl))
        by_built (ByNotes (c ∷ cs)) is ne =
            let s1 : State = record s { notes = ByNotes cs } in
            let same : Same s s1 = record { here = λ k. refl; everywhere = λ k. refl; frame = refl; room = refl; everywhere_room = refl } in
            noted_built ls gs s s1 t p n (visible_same ls gs gs s s1 t (λ c k. k) same v) (has_renoted input b ls gs s p n h s.turns s.left (ByNotes cs) (λ o. absurd (in_notes (c ∷ cs) is o))) e same (record { cells = refl; kept = refl }) refl (is_free (c ∷ cs) is) c.chosen c.threads

        noted_does : (notes : Schedule) → s.notes ≡ notes → Came input b ls gs s p n (whole.runs t p) (next (By notes).state (By notes).end k) (both (Deeds notes) (next_log (By notes).state (By notes).end k))
        unfolding Stored.bind
        noted_does InOrder is = par_does ls gs s t p n v h e is
        noted_does (ByNotes cs) is = whole_came ls gs t p s n v (By (ByNotes cs)).state (Deeds (ByNotes cs)) (By (ByNotes cs)).end (by_built (ByNotes cs) is no)
          where
            no : ◌≡◌ {A = Schedule} (ByNotes cs) InOrder → ⊥
            no e = absurd (cc)

        noted_halts : (notes : Schedule) → s.notes ≡ notes → (fault : Outage) (u : State) → (Unbegun s fault u ⊎ (Stored.by_notes f b0 js body notes).halts s fault u) ⊎ next_halts (By notes).state (By notes).end k fault u → Halted input b s p n (whole.runs t p) fault u
        unfolding Stored.bind Stored.misnoted
        noted_halts InOrder is fault u c = par_halts ls gs s t p n v h e is fault u c
        noted_halts (ByNotes cs) is fault u (inl (inl c)) = halted_now input b ls gs s p n (whole.runs t p) fault u h (whole_stops t p) c
        noted_halts (ByNotes []) is fault u (inl (inr c)) = absurd c
        noted_halts (ByNotes (note ∷ cs)) is fault u (inl (inr c)) = absurd c
        noted_halts (ByNotes cs) is fault u (inr c) = whole_later ls gs t p s n v (By (ByNotes cs)).state (Deeds (ByNotes cs)) (By (ByNotes cs)).end (by_built (ByNotes cs) is no) fault u c
          where
            no : ◌≡◌ {A = Schedule} (ByNotes cs) InOrder → ⊥
            no e = absurd (cc)

      pub noted_simulates : Simulates input b (Stored.bind (Stored.noted_par f b0 js body) k) whole
      unfolding Stored.bind Stored.noted_par
      noted_simulates = record {
        stops = whole_stops;
        does = λ ls gs s t p n v h e. noted_does ls gs s t p n v h e s.notes refl;
        halts = λ ls gs s t p n v h e fault u c. noted_halts ls gs s t p n v h e s.notes refl fault u c;
      }

      -- the threads that are begun in it and after it
      module _ (ls gs : List Tie) (s : State) (t : Scope Instance) (p : Path Instance) (n : Memory) (v : Visible ls gs s t) (h : Has input b ls gs s p n) (e : s.turns ≡ p.turns) where
        pub noted_fine_par : (F : Visit → Type 0) → EachFine ls gs t p F s js → EachVisit F ((Stored.noted_par f b0 js body).visits s)
        unfolding Stored.noted_par
        noted_fine_par F fs = fine_by_notes ls gs t p F s b0 js s n v h e (level_refl s) fs s.notes refl

        module _ (F : Visit → Type 0) (fine_after : (values : List A) → FineFor input F b (k (gathered_all f b0 values)) (l values)) (safe : whole.safe t p) where
          fine_then : (u : State) (ds : Log) (e : Result B Cause) → Built ls gs t p s n u e ds → EachVisit F (Stored.next_visits u e k)
          fine_then u ds (Ok value) (values, d, is) =
              subst (λ z. EachVisit F ((k z).visits u)) (sym is) (fine_after values ls d.ties u t d.path (after n d.trace) (visible_same ls gs d.ties s u t d.grows d.same v) d.has d.turns (safe.1 values d.path d.trace d.early d.run))
          fine_then u ds (Err c) g = tt

          fine_by : (notes : Schedule) → s.notes ≡ notes → EachVisit F (Stored.next_visits (By ls gs s t p n v h e notes).state (By ls gs s t p n v h e notes).end k)
          unfolding Stored.par
          fine_by InOrder is =
              fine_then (all ls gs s t p n v h e is).state (all_deeds ls gs s t p n v h e is) (all ls gs s t p n v h e is).end (par_built ls gs t p s n (all ls gs s t p n v h e is) (all_deeds ls gs s t p n v h e is) (all ls gs s t p n v h e is).end refl (all_woven ls gs s t p n v h e is))
          fine_by (ByNotes cs) is = fine_then (By ls gs s t p n v h e (ByNotes cs)).state (Deeds ls gs s t p n v h e (ByNotes cs)) (By ls gs s t p n v h e (ByNotes cs)).end (by_built ls gs s t p n v h e (ByNotes cs) is no)
            where
              no : ◌≡◌ {A = Schedule} (ByNotes cs) InOrder → ⊥
              no e = absurd (cc)

          pub noted_fine_after : EachVisit F (Stored.next_visits ((Stored.noted_par f b0 js body).does s).state ((Stored.noted_par f b0 js body).does s).end k)
          unfolding Stored.noted_par
          noted_fine_after = fine_by s.notes refl
