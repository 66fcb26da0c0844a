-- What the stored run does is one of the runs, operation by operation.
use Rattle.std.proofs.Common.{◌≡◌, ℕ, zero, suc, ◌+◌, ◌<◌, ◌≤◌, min, ℤ, List, [], ◌∷◌, ◌++◌, length, drop, Option, Some, None, Result, Ok, Err, ◌⊎◌, inl, inr, ⊎_elim, Bool, true, false, cond, ◌||◌, refl, sym, subst, ap, ap₂, ◌∙◌, true≢false, arith, le_refl, append_assoc, append-nil, ltb, ltb-true, ltb-false, length-set}
use Rattle.ada_base.specs.declared.reason.Reason.TheVariants as reason
use Rattle.typed_tree.specs.declared.scalars.Scalar.{Scalar}
use Rattle.typed_tree.specs.Syntax.{Program}
use Rattle.ada_base.specs.Input.{Held, Nothing}
use Rattle.behaviours.specs.Paths.{Leave, Raises, Entity, VariableOf, Region, Everywhere, Here, Instance, End, Gives, Leaves, Stopped, Path, Scope, find, declares, apart_of, one_turn, one_taken, one_elaboration}
use Rattle.behaviours.specs.Events.{Event, Reads, Writes, Recalls, Keeps, Takes, Puts, Looks, Trace, output_of}
use Rattle.behaviours.specs.Memory.{Memory, put, put_all, hold, after, Fits}
use Rattle.behaviours.specs.Behaviours.{Behaviour, Asks}
use Rattle.ada_meaning.specs.Operations.{CheckKind}
use Rattle.behaviours.specs.Paths
use Rattle.behaviours.specs.Behaviours
use Rattle.ada_meaning.specs.Runs
use Rattle.ada_meaning.specs.Runs.{anything}
use Rattle.ada_meaning.specs.Programs.{this, input_of, finals}
use Rattle.ada_meaning.specs.Planned.{here}
use Rattle.ada_meaning.specs.Stored
use Rattle.ada_meaning.specs.Stored.{State, Touch, Visit, Kept, Stacked, After, at, Stored, Cause, Left, OutOfTurns, NoRoom, CutOff, Misnoted, Outage, MemoryFault, InputFault, OutputFault, Unbegun, Stops, next, next_halts, handled_halts, handled, place_of, Address, put_at, read_at, written_at, value_read, begun, ended, has_room, taken_from, finals_of}
use Rattle.ada_meaning.specs.Deeds.{Deed, Asked, PutOut, deeds_of}
use Rattle.ada_meaning.specs.Touched.{Before}
use Rattle.behaviours.specs.Events
use Rattle.std.proofs.lemmas.List.{length-take-le, length-append}
use Rattle.behaviours.proofs.Shuffle.{fits_append, after_append}
use Rattle.ada_meaning.proofs.Fronts.{deeds_append, fillings_silent}
use Rattle.ada_meaning.proofs.Agrees.{output_of_append, fillings_fit, after_fillings, output_fillings}
use Rattle.ada_meaning.proofs.Ties.{put_all_other}
use Rattle.ada_meaning.proofs.Cells.{put_elsewhere}
use Rattle.ada_meaning.proofs.Lays.{Mode, Tie, place, Tied, Grows, Has, Visible, Same, same_refl, same_trans, visible_same, Found, found, put_rest, rest_same, has_moved, has_put, finals_right}
use Rattle.ada_meaning.proofs.Elaborated.{stacked, kept, has_here, has_everywhere, has_ended, has_ended_everywhere, same_ended, visible_here, visible_everywhere, visible_apart}

abbrev pub end_of : {A : Type 0} → Result A Cause → End A
end_of (Ok a) = Gives a
end_of (Err (Left x)) = Leaves x
end_of (Err OutOfTurns) = Paths.Spent
end_of (Err NoRoom) = Stopped
end_of (Err CutOff) = Stopped
end_of (Err Misnoted) = Stopped

-- from a path, as the runs of a behaviour
abbrev pub From : Type 0 → Type 1
From A = Trace Instance → Bool → Path Instance → End A → Type 0

-- what a part does inside a thread
pub record Within (ls gs gs' : List Tie) (p p' : Path Instance) (m m' : Memory) : Type 0 where
  pub ties : gs' ≡ gs
  pub taken : p'.taken ≡ p.taken
  pub globals : p'.globals ≡ p.globals
  pub frame : (l : Instance) (i : ℕ) → l.thread ≡ [] → ((c : Tie) → Tied ls gs c → c.instance ≡ l → ⊥) → m'.cells l i ≡ m.cells l i

abbrev pub StopsWith : {A : Type 0} → From A → Trace Instance → Type 0
StopsWith F tr = (y : Bool) × (q : Path Instance) × F tr y q Stopped

-- what was put out, and what was about to be done
abbrev pub Told : Outage → List ℕ → List ℕ → Trace Instance → Path Instance → (Trace Instance → Type 0) → Type 0
Told MemoryFault o o' tr p stops = o' ≡ o ++ output_of tr
Told InputFault o o' tr p stops = (o' ≡ o ++ output_of tr) × ((b : Option ℕ) × stops (tr ++ (Takes p.taken b ∷ [])))
Told OutputFault o o' tr p stops = (passed : List ℕ) × (rest : List ℕ) × (o' ≡ o ++ (output_of tr ++ passed)) × stops (tr ++ (Puts (passed ++ rest) ∷ []))

-- what a part did and touched

pub record Log : Type 0 where
  pub deeds : List Deed
  pub touches : List Touch

abbrev pub none : Log
none = record { deeds = []; touches = [] }

abbrev pub both : Log → Log → Log
both v w = record { deeds = v.deeds ++ w.deeds; touches = v.touches ++ w.touches }

abbrev pub log : {A : Type 0} → Stored A → State → Log
log m s = record { deeds = m.deeds s; touches = m.touches s }

abbrev pub next_log : {A B : Type 0} → State → Result A Cause → (A → Stored B) → Log
next_log s e k = record { deeds = Stored.next_deeds s e k; touches = Stored.next_touches s e k }

abbrev pub handled_log : {A : Type 0} → State → Result A Cause → (Leave → Bool) → (Leave → Stored A) → Log
handled_log s e takes k = record { deeds = Stored.handled_deeds s e takes k; touches = Stored.handled_touches s e takes k }

abbrev named : Bool → Option Address → Log
named w a = record { deeds = []; touches = Stored.touched w a }

pub both_none : (w : Log) → w ≡ both w none
both_none w = ap₂ (λ d t. let v : Log = record { deeds = d; touches = t } in v) (sym (append-nil w.deeds)) (sym (append-nil w.touches))

-- as many cells
pub record Level (s u : State) : Type 0 where
  pub cells : length u.cells ≡ length s.cells
  pub kept : length u.kept ≡ length s.kept

pub level_refl : (s : State) → Level s s
level_refl s = record { cells = refl; kept = refl }

pub level_trans : (s t u : State) → Level s t → Level t u → Level s u
level_trans s t u g h = record { cells = h.cells ∙ g.cells; kept = h.kept ∙ g.kept }

pub before_level : (s u : State) → Level s u → (a : Address) → Before s a → Before u a
before_level s u g (Kept a) b = let e = g.kept in omega arith
before_level s u g (Stacked a) b = let e = g.cells in omega arith

level_put : (s : State) (a : Address) (v : ℤ) → Level s (put_at s a v)
level_put s (Kept a) v = record { cells = refl; kept = length-set s.kept a v }
level_put s (Stacked a) v = record { cells = length-set s.cells a v; kept = refl }

-- each cell that is touched, and was there, is one of an instance that the trace has an action at
abbrev pub Acts : Bool → Instance → ℕ → Event Instance → Type 0
Acts true l i (Writes x j v) = (x ≡ l) × (j ≡ i)
Acts false l i (Reads x j v) = (x ≡ l) × (j ≡ i)
Acts w l i e = ⊥

abbrev pub Shows : List Tie → List Tie → State → Trace Instance → Touch → Type 0
Shows ls gs s tr t = Before s t.place → (c : Tie) × (i : ℕ) × Tied ls gs c × (i < c.cells) × (t.place ≡ place c i) × Events.Has (Acts t.writes c.instance i) tr

abbrev pub AllShow : List Tie → List Tie → State → Trace Instance → List Touch → Type 0
AllShow ls gs s tr [] = Unit {0}
AllShow ls gs s tr (t ∷ ts) = Shows ls gs s tr t × AllShow ls gs s tr ts

has_left : (F : Event Instance → Type 0) (t u : Trace Instance) → Events.Has F t → Events.Has F (t ++ u)
has_left F [] u h = absurd h
has_left F (e ∷ t) u (inl h) = inl h
has_left F (e ∷ t) u (inr h) = inr (has_left F t u h)

has_right : (F : Event Instance → Type 0) (t u : Trace Instance) → Events.Has F u → Events.Has F (t ++ u)
has_right F [] u h = h
has_right F (e ∷ t) u h = inr (has_right F t u h)

-- the same of other ties, an earlier state and a longer trace
pub show_more : (ls gs ls' gs' : List Tie) (s s' : State) (tr tr' : Trace Instance) → ((a : Address) → Before s' a → Before s a) → ((c : Tie) (i : ℕ) → Tied ls gs c → Before s' (place c i) → Tied ls' gs' c) → ((F : Event Instance → Type 0) → Events.Has F tr → Events.Has F tr')
    → (ts : List Touch) → AllShow ls gs s tr ts → AllShow ls' gs' s' tr' ts
show_more ls gs ls' gs' s s' tr tr' before tied has [] h = tt
show_more ls gs ls' gs' s s' tr tr' before tied has (t ∷ ts) h =
    ((λ b. let k = h.0 (before t.place b) in (k.0, k.1, tied k.0 k.1 k.2 (subst (λ z. Before s' z) k.4 b), k.3, k.4, has (Acts t.writes (k.0).instance k.1) k.5)), show_more ls gs ls' gs' s s' tr tr' before tied has ts h.1)

show_append : (ls gs : List Tie) (s : State) (tr : Trace Instance) (ts us : List Touch) → AllShow ls gs s tr ts → AllShow ls gs s tr us → AllShow ls gs s tr (ts ++ us)
show_append ls gs s tr [] us h k = k
show_append ls gs s tr (t ∷ ts) us h k = (h.0, show_append ls gs s tr ts us h.1 k)

-- one and then another
pub show_both : (ls gs : List Tie) (s u : State) (t w : Trace Instance) (ts us : List Touch) → Level s u → AllShow ls gs s t ts → AllShow ls gs u w us → AllShow ls gs s (t ++ w) (ts ++ us)
show_both ls gs s u t w ts us level h k =
    show_append ls gs s (t ++ w) ts us (show_more ls gs ls gs s s t (t ++ w) (λ a b. b) (λ c i z b. z) (λ F x. has_left F t w x) ts h)
    (show_more ls gs ls gs u s w (t ++ w) (λ a b. before_level s u level a b) (λ c i z b. z) (λ F x. has_right F t w x) us k)

-- each visit is so
abbrev pub EachVisit : (Visit → Type 0) → List Visit → Type 0
EachVisit F [] = Unit {0}
EachVisit F (v ∷ vs) = F v × EachVisit F vs

pub fine_append : (F : Visit → Type 0) (vs ws : List Visit) → EachVisit F vs → EachVisit F ws → EachVisit F (vs ++ ws)
fine_append F [] ws h k = k
fine_append F (v ∷ vs) ws h k = (h.0, fine_append F vs ws h.1 k)

module _ (input : List ℕ) where
  -- a run, and what the stored run has after it
  pub record Came {A : Type 0} (b : Mode) (ls gs : List Tie) (s : State) (p : Path Instance) (m : Memory) (F : From A) (r : After A) (ds : Log) : Type 0 where
    pub trace : Trace Instance
    pub early : Bool
    pub path : Path Instance
    pub ties : List Tie
    pub run : F trace early path (end_of r.end)
    pub fits : Fits m trace
    pub has : Has input b ls ties r.state path (after m trace)
    pub grows : Grows gs ties
    pub same : Same s r.state
    pub turns : r.state.turns ≡ path.turns
    pub output : r.state.output ≡ s.output ++ output_of trace
    pub deeds : deeds_of trace ≡ ds.deeds
    pub level : b.outermost ≡ false → Level s r.state
    pub touched : b.outermost ≡ false → AllShow ls gs s trace ds.touches
    pub within : b.outermost ≡ false → Within ls gs ties p path m (after m trace)

  -- a run that is stopped, where the stored run comes to a fault
  pub record Halted {A : Type 0} (b : Mode) (s : State) (p : Path Instance) (m : Memory) (F : From A) (f : Outage) (t : State) : Type 0 where
    pub trace : Trace Instance
    pub early : Bool
    pub path : Path Instance
    pub run : F trace early path Stopped
    pub fits : Fits m trace
    pub told : Told f s.output t.output trace path (StopsWith F)
    pub taken : t.taken ≡ min path.taken (length input)
    pub finals : (program : Program) → finals_of program t.kept t.declared ≡ finals program (after m trace) path.globals
    pub within : b.outermost ≡ false → (f ≡ MemoryFault) × (path.taken ≡ p.taken) × (path.globals ≡ p.globals)

  pub record Simulates {A : Type 0} (b : Mode) (m : Stored A) (g : Behaviour Instance A) : Type 0 where
    pub stops : (t : Scope Instance) (p : Path Instance) → g.runs t p [] false p Stopped
    pub does : (ls gs : List Tie) (s : State) (t : Scope Instance) (p : Path Instance) (n : Memory) → Visible ls gs s t → Has input b ls gs s p n → s.turns ≡ p.turns → Came b ls gs s p n (g.runs t p) (m.does s) (log m s)
    pub halts : (ls gs : List Tie) (s : State) (t : Scope Instance) (p : Path Instance) (n : Memory) → Visible ls gs s t → Has input b ls gs s p n → s.turns ≡ p.turns → (f : Outage) (u : State) → m.halts s f u → Halted b s p n (g.runs t p) f u

  -- where what is asked of the constructs of a behaviour is so, so are the threads that the stored run begins
  abbrev pub FineFor : {A : Type 0} → (Visit → Type 0) → Mode → Stored A → Behaviour Instance A → Type 0
  FineFor F b m g = (ls gs : List Tie) (s : State) (t : Scope Instance) (p : Path Instance) (n : Memory) → Visible ls gs s t → Has input b ls gs s p n → s.turns ≡ p.turns → g.safe t p → EachVisit F (m.visits s)

  -- runs put together

  module _ (b : Mode) (ls gs : List Tie) (s : State) (p : Path Instance) (m : Memory) where
    -- nothing was done
    pub came_at : {A : Type 0} (F : From A) (e : Result A Cause) → Has input b ls gs s p m → s.turns ≡ p.turns → F [] false p (end_of e) → Came b ls gs s p m F (at s e) none
    came_at F e h turns run = record {
      trace = [];
      early = false;
      path = p;
      ties = gs;
      run = run;
      fits = tt;
      has = h;
      grows = λ c t. t;
      same = same_refl s;
      turns = turns;
      output = sym (append-nil s.output);
      deeds = refl;
      level = λ k. level_refl s;
      touched = λ k. tt;
      within = λ e. record { ties = refl; taken = refl; globals = refl; frame = λ l i o n. refl };
    }

    -- the same, told of another behaviour
    pub came_as : {A B : Type 0} (F : From A) (G : From B) (r : After A) (e : Result B Cause) (ds es : Log) → ds ≡ es → (d : Came b ls gs s p m F r ds) (z : Bool) → G d.trace z d.path (end_of e) → Came b ls gs s p m G (at r.state e) es
    came_as F G r e ds es same d z run = record {
      trace = d.trace;
      early = z;
      path = d.path;
      ties = d.ties;
      run = run;
      fits = d.fits;
      has = d.has;
      grows = d.grows;
      same = d.same;
      turns = d.turns;
      output = d.output;
      deeds = d.deeds ∙ ap (λ (z : Log). z.deeds) same;
      level = d.level;
      touched = λ k. subst (λ (z : Log). AllShow ls gs s d.trace z.touches) same (d.touched k);
      within = d.within;
    }

    -- one and then another
    pub came_then : {A B C : Type 0} (F : From A) (G : From B) (K : From C) (r : After A) (r' : After B) (ds es : Log) (d : Came b ls gs s p m F r ds) (e : Came b ls d.ties r.state d.path (after m d.trace) G r' es) (z : Bool) (end : Result C Cause) → K (d.trace ++ e.trace) z e.path (end_of end)
        → Came b ls gs s p m K (at r'.state end) (both ds es)
    came_then F G K r r' ds es d e z end run = record {
      trace = d.trace ++ e.trace;
      early = z;
      path = e.path;
      ties = e.ties;
      run = run;
      fits = fits_append d.trace e.trace m d.fits e.fits;
      has = subst (λ n. Has input b ls e.ties r'.state e.path n) (sym (after_append d.trace e.trace m)) e.has;
      grows = λ c t. e.grows c (d.grows c t);
      same = same_trans s r.state r'.state d.same e.same;
      turns = e.turns;
      output = e.output ∙ ap (λ o. o ++ output_of e.trace) d.output ∙ append_assoc s.output (output_of d.trace) (output_of e.trace) ∙ ap (λ o. s.output ++ o) (sym (output_of_append d.trace e.trace));
      deeds = deeds_append d.trace e.trace ∙ ap₂ (λ y z. y ++ z) d.deeds e.deeds;
      level = λ k. level_trans s r.state r'.state (d.level k) (e.level k);
      touched = λ k. show_both ls gs s r.state d.trace e.trace ds.touches es.touches (d.level k) (d.touched k) (subst (λ z. AllShow ls z r.state e.trace es.touches) (d.within k).ties (e.touched k));
      within = λ k. let v = d.within k in let w = e.within k in record {
        ties = w.ties ∙ v.ties;
        taken = w.taken ∙ v.taken;
        globals = w.globals ∙ v.globals;
        frame = λ l i o n. ap (λ (z : Memory). z.cells l i) (after_append d.trace e.trace m) ∙ w.frame l i o (λ c t. n c (subst (λ z. Tied ls z c) v.ties t)) ∙ v.frame l i o n;
      };
    }

    -- it isn't begun
    pub halted_now : {A : Type 0} (F : From A) (f : Outage) (u : State) → Has input b ls gs s p m → F [] false p Stopped → Unbegun s f u → Halted b s p m F f u
    halted_now F f u h run (e, g) = subst (λ z. Halted b s p m F z u) (sym e) (subst (λ z. Halted b s p m F MemoryFault z) (sym g) here_now)
      where
        here_now : Halted b s p m F MemoryFault s
        here_now = record {
          trace = [];
          early = false;
          path = p;
          run = run;
          fits = tt;
          told = sym (append-nil s.output);
          taken = h.taken;
          finals = λ program. finals_right input b ls gs s p m h program;
          within = λ e. (refl, refl, refl);
        }

  told_after : (f : Outage) (o v o' : List ℕ) (front tr : Trace Instance) (p : Path Instance) (stops stops' : Trace Instance → Type 0) → v ≡ o ++ output_of front → ((w : Trace Instance) → stops w → stops' (front ++ w)) → Told f v o' tr p stops → Told f o o' (front ++ tr) p stops'
  told_after f o v o' front tr p stops stops' e h told = go f told
    where
      outs : (w : List ℕ) → v ++ (output_of tr ++ w) ≡ o ++ (output_of (front ++ tr) ++ w)
      outs w = ap (λ z. z ++ (output_of tr ++ w)) e ∙ append_assoc o (output_of front) (output_of tr ++ w) ∙ ap (λ z. o ++ z) (sym (append_assoc (output_of front) (output_of tr) w) ∙ ap (λ z. z ++ w) (sym (output_of_append front tr)))

      plain : v ++ output_of tr ≡ o ++ output_of (front ++ tr)
      plain = ap (λ z. v ++ z) (sym (append-nil (output_of tr))) ∙ outs [] ∙ ap (λ z. o ++ z) (append-nil (output_of (front ++ tr)))

      go : (f : Outage) → Told f v o' tr p stops → Told f o o' (front ++ tr) p stops'
      go MemoryFault t = t ∙ plain
      go InputFault (t, (b, k)) = (t ∙ plain, (b, subst stops' (sym (append_assoc front tr (Takes p.taken b ∷ []))) (h (tr ++ (Takes p.taken b ∷ [])) k)))
      go OutputFault (passed, rest, t, k) = (passed, rest, t ∙ outs passed, subst stops' (sym (append_assoc front tr (Puts (passed ++ rest) ∷ []))) (h (tr ++ (Puts (passed ++ rest) ∷ [])) k))

  -- a fault after a trace
  pub halted_after : {A B : Type 0} (b : Mode) (s u t : State) (p q : Path Instance) (m n : Memory) (front : Trace Instance) (G : From A) (K : From B) (f : Outage) → n ≡ after m front → Fits m front → u.output ≡ s.output ++ output_of front
      → (b.outermost ≡ false → (q.taken ≡ p.taken) × (q.globals ≡ p.globals)) → ((w : Trace Instance) (y : Bool) (p' : Path Instance) → G w y p' Stopped → (z : Bool) × K (front ++ w) z p' Stopped) → Halted b u q n G f t → Halted b s p m K f t
  halted_after b s u t p q m n front G K f same fits output inner runs h = record {
    trace = front ++ h.trace;
    early = (runs h.trace h.early h.path h.run).0;
    path = h.path;
    run = (runs h.trace h.early h.path h.run).1;
    fits = fits_append front h.trace m fits (subst (λ z. Fits z h.trace) same h.fits);
    told = told_after f s.output u.output t.output front h.trace h.path (StopsWith G) (StopsWith K) output (λ w k. let r = runs w k.0 k.1 k.2 in (r.0, k.1, r.1)) h.told;
    taken = h.taken;
    finals = λ program. h.finals program ∙ ap (λ z. finals program (after z h.trace) h.path.globals) same ∙ ap (λ z. finals program z h.path.globals) (sym (after_append front h.trace m));
    within = λ e. let w = h.within e in let i = inner e in (w.0, w.1 ∙ i.0, w.2 ∙ i.1);
  }

  -- what is done at once

  -- it may stop only before it begins
  pub simulates_at : {A : Type 0} (b : Mode) (m : Stored A) (g : Behaviour Instance A) → ((s : State) (f : Outage) (u : State) → m.halts s f u → ⊥) → ((t : Scope Instance) (p : Path Instance) → g.runs t p [] false p Stopped)
      → ((ls gs : List Tie) (s : State) (t : Scope Instance) (p : Path Instance) (n : Memory) → Visible ls gs s t → Has input b ls gs s p n → s.turns ≡ p.turns → Came b ls gs s p n (g.runs t p) (m.does s) (log m s)) → Simulates b m g
  simulates_at b m g now stops does = record {
    stops = stops;
    does = does;
    halts = λ ls gs s t p n v h e f u k. absurd (now s f u k);
  }

  -- not begun, or later
  pub halted_stops : {A : Type 0} (b : Mode) (m : Stored A) (g : Behaviour Instance A) → Simulates b m g → (ls gs : List Tie) (s : State) (t : Scope Instance) (p : Path Instance) (n : Memory) → Visible ls gs s t → Has input b ls gs s p n → s.turns ≡ p.turns
      → (f : Outage) (u : State) → Stops m s f u → Halted b s p n (g.runs t p) f u
  halted_stops b m g first ls gs s t p n v h e f u (inl k) = halted_now b ls gs s p n (g.runs t p) f u h (first.stops t p) k
  halted_stops b m g first ls gs s t p n v h e f u (inr k) = first.halts ls gs s t p n v h e f u k

  pub ret_simulates : {A : Type 0} (b : Mode) (a : A) → Simulates b (Stored.ret a) (Behaviours.ret a)
  unfolding Stored.ret
  ret_simulates b a = simulates_at b (Stored.ret a) (Behaviours.ret a) (λ s f u k. k) (λ t p. (refl, inr (refl, refl, refl)))
      (λ ls gs s t p n v h e. came_at b ls gs s p n ((Behaviours.ret a).runs t p) (Ok a) h e (refl, inl (refl, refl, inl refl)))

  pub leaves_simulates : {A : Type 0} (b : Mode) (x : Leave) → Simulates {A = A} b (Stored.leaves x) (Behaviours.leaves x)
  unfolding Stored.leaves
  leaves_simulates {A} b x = simulates_at b (Stored.leaves {A = A} x) (Behaviours.leaves x) (λ s f u k. k) (λ t p. (refl, inr (refl, refl, refl)))
      (λ ls gs s t p n v h e. came_at b ls gs s p n ((Behaviours.leaves x).runs t p) (Err (Left x)) h e (refl, inl (refl, refl, inl refl)))

  pub spent_simulates : {A : Type 0} (b : Mode) → Simulates {A = A} b Stored.spent Behaviours.spent
  unfolding Stored.spent
  spent_simulates {A} b = simulates_at b (Stored.spent {A = A}) Behaviours.spent (λ s f u k. k) (λ t p. (refl, inr (refl, refl, refl)))
      (λ ls gs s t p n v h e. came_at b ls gs s p n (Behaviours.spent.runs t p) (Err OutOfTurns) h e (refl, inl (refl, refl, inl refl)))

  pub checks_simulates : (b : Mode) (kind : CheckKind) (token : ℕ) (holds : Bool) → Simulates b (Stored.checks kind token holds) (Runs.checks kind token holds)
  checks_simulates b kind token true = ret_simulates b tt
  checks_simulates b kind token false = leaves_simulates b (Raises reason.ConstraintError)

  -- an event in a step that moves nothing that is tied
  came_event : {A : Type 0} (b : Mode) (ls gs : List Tie) (s s' : State) (p p' : Path Instance) (m : Memory) (F : From A) (a : A) (event : Event Instance) → Fits m (event ∷ []) → F (event ∷ []) false p' (Gives a)
      → Has input b ls gs s' p' (after m (event ∷ [])) → Same s s' → s'.turns ≡ p'.turns → s'.output ≡ s.output ++ output_of (event ∷ [])
      → (b.outermost ≡ false → Within ls gs gs p p' m (after m (event ∷ []))) → (ts : List Touch) → (b.outermost ≡ false → Level s s') → (b.outermost ≡ false → AllShow ls gs s (event ∷ []) ts) → Came b ls gs s p m F (at s' (Ok a)) (record { deeds = deeds_of (event ∷ []); touches = ts })
  came_event b ls gs s s' p p' m F a event fits run has same turns output within ts level touched = record {
    trace = event ∷ [];
    early = false;
    path = p';
    ties = gs;
    run = run;
    fits = fits;
    has = has;
    grows = λ c t. t;
    same = same;
    turns = turns;
    output = output;
    deeds = refl;
    level = level;
    touched = touched;
    within = within;
  }

  pub look_simulates : (b : Mode) → Simulates b (Stored.ret tt) (Behaviours.emits Looks)
  unfolding Stored.ret
  look_simulates b = simulates_at b (Stored.ret tt) (Behaviours.emits Looks) (λ s f u k. k) (λ t p. (refl, inr (refl, refl, refl)))
      (λ ls gs s t p n v h e. came_event b ls gs s s p p n ((Behaviours.emits Looks).runs t p) tt Looks (tt, tt) (refl, inl (refl, refl, inl refl)) h (same_refl s) e (sym (append-nil s.output))
      (λ k. record { ties = refl; taken = refl; globals = refl; frame = λ l i o c. refl }) [] (λ k. level_refl s) (λ k. tt))

  -- one that may be the last
  pub bounded_look_simulates : (b : Mode) → Simulates b Stored.look (Behaviours.emits Looks)
  unfolding Stored.look
  bounded_look_simulates b = simulates_at b Stored.look (Behaviours.emits Looks) (λ s f u k. k) (λ t p. (refl, inr (refl, refl, refl))) (λ ls gs s t p n v h e. go ls gs s t p n h e s.left)
    where
      go : (ls gs : List Tie) (s : State) (t : Scope Instance) (p : Path Instance) (n : Memory) → Has input b ls gs s p n → s.turns ≡ p.turns → (left : Option ℕ) → Came b ls gs s p n ((Behaviours.emits Looks).runs t p) (Stored.looked s left) none
      go ls gs s t p n h e None = came_event b ls gs s s p p n ((Behaviours.emits Looks).runs t p) tt Looks (tt, tt) (refl, inl (refl, refl, inl refl)) h (same_refl s) e (sym (append-nil s.output))
          (λ k. record { ties = refl; taken = refl; globals = refl; frame = λ l i o c. refl }) [] (λ k. level_refl s) (λ k. tt)
      go ls gs s t p n h e (Some zero) = came_at b ls gs s p n ((Behaviours.emits Looks).runs t p) (Err CutOff) h e (refl, inr (refl, refl, refl))
      go ls gs s t p n h e (Some (suc looks)) =
          came_event b ls gs s (record s { left = Some looks }) p p n ((Behaviours.emits Looks).runs t p) tt Looks (tt, tt) (refl, inl (refl, refl, inl refl))
          (has_moved input b ls gs s p n h (record s { left = Some looks }) p n refl refl refl refl refl refl (λ x f. f) refl (le_refl p.elaborations) refl h.taken h.rest h.held)
          (record { here = λ k. refl; everywhere = λ k. refl; frame = refl; room = refl; everywhere_room = refl }) e (sym (append-nil s.output)) (λ k. record { ties = refl; taken = refl; globals = refl; frame = λ l i o c. refl }) [] (λ k. record { cells = refl; kept = refl }) (λ k. tt)

  pub turn_simulates : (b : Mode) (limit : ℕ) → Simulates b (Stored.turn limit) (Behaviours.turn limit)
  unfolding Stored.turn
  turn_simulates b limit = simulates_at b (Stored.turn limit) (Behaviours.turn limit) (λ s f u k. k) (λ t p. stop p (ltb p.turns limit) refl) (λ ls gs s t p n v h e. go ls gs s t p n h e (ltb s.turns limit) refl)
    where
      stop : (p : Path Instance) (c : Bool) → ltb p.turns limit ≡ c → (Behaviours.turn {P = Instance} limit).runs Paths.nothing_visible p [] false p Stopped
      stop p true e = inl (ltb-true p.turns limit e, (refl, inr (refl, refl, refl)))
      stop p false e = inr (ltb-false p.turns limit e, (refl, inr (refl, refl, refl)))

      go : (ls gs : List Tie) (s : State) (t : Scope Instance) (p : Path Instance) (n : Memory) → Has input b ls gs s p n → s.turns ≡ p.turns → (c : Bool) → ltb s.turns limit ≡ c
          → Came b ls gs s p n ((Behaviours.turn limit).runs t p) (cond c (at (record s { turns = s.turns + 1 }) (Ok tt)) (at s (Err OutOfTurns))) none
      go ls gs s t p n h e true lt = record {
        trace = [];
        early = false;
        path = one_turn p;
        ties = gs;
        run = inl (let k = ltb-true s.turns limit lt in omega arith, (refl, inl (refl, refl, inl refl)));
        fits = tt;
        has = has_moved input b ls gs s p n h (record s { turns = s.turns + 1 }) (one_turn p) n refl refl refl refl refl refl (λ x f. f) refl (le_refl p.elaborations) refl h.taken h.rest h.held;
        grows = λ c t. t;
        same = record { here = λ k. refl; everywhere = λ k. refl; frame = refl; room = refl; everywhere_room = refl };
        turns = let z : s.turns + 1 ≡ suc p.turns = omega arith in z;
        output = sym (append-nil s.output);
        deeds = refl;
        level = λ k. record { cells = refl; kept = refl };
        touched = λ k. tt;
        within = λ k. record { ties = refl; taken = refl; globals = refl; frame = λ l i o c. refl };
      }
      go ls gs s t p n h e false le = came_at b ls gs s p n ((Behaviours.turn limit).runs t p) (Err OutOfTurns) h e (inr (let k = ltb-false s.turns limit le in omega arith, (refl, inl (refl, refl, inl refl))))

  -- cells

  where_stops : {A : Type 0} (f : Instance → Behaviour Instance A) → ((x : Instance) (t : Scope Instance) (p : Path Instance) → (f x).runs t p [] false p Stopped) → (x : Option Instance) (t : Scope Instance) (p : Path Instance) → (Behaviours.where_found f x).runs t p [] false p Stopped
  where_stops f h None t p = (refl, inr (refl, refl, refl))
  where_stops f h (Some x) t p = h x t p

  abbrev read : Instance → ℕ → Scalar → Behaviour Instance ℤ
  read x i cell = Behaviours.at_once (λ p tr y p' e. ((v : ℤ) × anything cell v × Behaviours.Did p (Reads x i v ∷ []) p (Gives v) tr y p' e) ⊎ Behaviours.Unbegun p tr y p' e)

  pub reads_simulates : (b : Mode) (x : Entity) (i : ℕ) (cell : Scalar) → Simulates b (Stored.reads x i) (Runs.reads anything x i cell)
  unfolding Stored.reads
  reads_simulates b x i cell = simulates_at b (Stored.reads x i) (Runs.reads anything x i cell) (λ s f u k. k) (λ t p. where_stops (λ l. read l i cell) (λ l t p. inr (refl, refl, refl, refl)) (find t x i) t p)
      (λ ls gs s t p n v h e. go ls gs s t p n h e (place_of s x i) (find t x i) (found ls gs s t x i v))
    where
      go : (ls gs : List Tie) (s : State) (t : Scope Instance) (p : Path Instance) (n : Memory) → Has input b ls gs s p n → s.turns ≡ p.turns → (a : Option Address) (l : Option Instance) → Found ls gs i a l
          → Came b ls gs s p n ((Behaviours.where_found (λ l. read l i cell) l).runs t p) (read_at s a) (named false a)
      go ls gs s t p n h e a l (inl (ea, el)) =
          subst (λ z. Came b ls gs s p n ((Behaviours.where_found (λ l. read l i cell) z).runs t p) (read_at s a) (named false a)) (sym el)
          (subst (λ z. Came b ls gs s p n ((Behaviours.leaves {A = ℤ} (Raises reason.ProgramError)).runs t p) (read_at s z) (named false z)) (sym ea)
          (came_at b ls gs s p n ((Behaviours.leaves {A = ℤ} (Raises reason.ProgramError)).runs t p) (Err (Left (Raises reason.ProgramError))) h e (refl, inl (refl, refl, inl refl))))
      go ls gs s t p n h e a l (inr (c, tied, lt, ea, el)) =
          subst (λ z. Came b ls gs s p n ((Behaviours.where_found (λ l. read l i cell) z).runs t p) (read_at s a) (named false a)) (sym el)
          (subst (λ z. Came b ls gs s p n ((read c.instance i cell).runs t p) (read_at s z) (named false z)) (sym ea)
          (subst (λ z. Came b ls gs s p n ((read c.instance i cell).runs t p) (value_read s z) (named false (Some (place c i)))) (sym (h.right c i tied lt))
          (came_event b ls gs s s p p n ((read c.instance i cell).runs t p) (n.cells c.instance i) (Reads c.instance i (n.cells c.instance i)) (refl, tt) (inl (n.cells c.instance i, tt, (refl, inl (refl, refl, inl refl))))
          h (same_refl s) e (sym (append-nil s.output)) (λ k. record { ties = refl; taken = refl; globals = refl; frame = λ l i o c. refl })
          (Stored.touched false (Some (place c i))) (λ k. level_refl s) (λ k. ((λ before. (c, i, tied, lt, refl, inl (refl, refl))), tt)))))

  pub writes_simulates : (b : Mode) (x i : ℕ) (v : ℤ) → Simulates b (Stored.writes x i v) (Behaviours.writes x i v)
  unfolding Stored.writes
  writes_simulates b x i v = simulates_at b (Stored.writes x i v) (Behaviours.writes x i v) (λ s f u k. k) (λ t p. where_stops (λ l. Behaviours.emits (Writes l i v)) (λ l t p. (refl, inr (refl, refl, refl))) (find t (VariableOf x) i) t p)
      (λ ls gs s t p n vis h e. go ls gs s t p n h e (place_of s (VariableOf x) i) (find t (VariableOf x) i) (found ls gs s t (VariableOf x) i vis))
    where
      go : (ls gs : List Tie) (s : State) (t : Scope Instance) (p : Path Instance) (n : Memory) → Has input b ls gs s p n → s.turns ≡ p.turns → (a : Option Address) (l : Option Instance) → Found ls gs i a l
          → Came b ls gs s p n ((Behaviours.where_found (λ l. Behaviours.emits (Writes l i v)) l).runs t p) (written_at s a v) (named true a)
      go ls gs s t p n h e a l (inl (ea, el)) =
          subst (λ z. Came b ls gs s p n ((Behaviours.where_found (λ l. Behaviours.emits (Writes l i v)) z).runs t p) (written_at s a v) (named true a)) (sym el)
          (subst (λ z. Came b ls gs s p n ((Behaviours.leaves {A = Unit {0}} (Raises reason.ProgramError)).runs t p) (written_at s z v) (named true z)) (sym ea)
          (came_at b ls gs s p n ((Behaviours.leaves {A = Unit {0}} (Raises reason.ProgramError)).runs t p) (Err (Left (Raises reason.ProgramError))) h e (refl, inl (refl, refl, inl refl))))
      go ls gs s t p n h e a l (inr (c, tied, lt, ea, el)) =
          let r = put_rest s (place c i) v in
          subst (λ z. Came b ls gs s p n ((Behaviours.where_found (λ l. Behaviours.emits (Writes l i v)) z).runs t p) (written_at s a v) (named true a)) (sym el)
          (subst (λ z. Came b ls gs s p n ((Behaviours.emits (Writes c.instance i v)).runs t p) (written_at s z v) (named true z)) (sym ea)
          (came_event b ls gs s (put_at s (place c i) v) p p n ((Behaviours.emits (Writes c.instance i v)).runs t p) tt (Writes c.instance i v) (tt, tt) (refl, inl (refl, refl, inl refl))
          (has_put input b ls gs s p n h c i v tied lt) (rest_same s (put_at s (place c i) v) r) (r.turns ∙ e) (r.output ∙ sym (append-nil s.output))
          (λ k. record { ties = refl; taken = refl; globals = refl; frame = λ l j o none. put_other_instance n c.instance l i j v (none c tied) })
          (Stored.touched true (Some (place c i))) (λ k. level_put s (place c i) v) (λ k. ((λ before. (c, i, tied, lt, refl, inl (refl, refl))), tt))))
        where
          put_other_instance : (m : Memory) (x y : Instance) (i j : ℕ) (v : ℤ) → (x ≡ y → ⊥) → (put m x i v).cells y j ≡ m.cells y j
          put_other_instance m x y i j v ne = put_elsewhere m x y i j v (λ e f. ne f)

  -- output and input, where they are allowed

  pub puts_simulates : (b : Mode) → b.outermost ≡ true → (piece : List ℕ) → Simulates b (Stored.puts piece) (Behaviours.emits (Puts piece))
  unfolding Stored.puts
  puts_simulates b o piece = record {
    stops = λ t p. (refl, inr (refl, refl, refl));
    does = λ ls gs s t p n v h e. came_event b ls gs s (record s { output = s.output ++ piece; done = Stored.also_done (PutOut piece) s.done }) p p n ((Behaviours.emits (Puts piece)).runs t p) tt (Puts piece) (tt, tt) (refl, inl (refl, refl, inl refl))
        (has_moved input b ls gs s p n h (record s { output = s.output ++ piece; done = Stored.also_done (PutOut piece) s.done }) p n refl refl refl refl refl refl (λ x f. f) refl (le_refl p.elaborations) refl h.taken h.rest h.held)
        (record { here = λ k. refl; everywhere = λ k. refl; frame = refl; room = refl; everywhere_room = refl }) e (ap (λ z. s.output ++ z) (sym (append-nil piece))) (λ k. absurd (true≢false (sym o ∙ k))) [] (λ k. absurd (true≢false (sym o ∙ k))) (λ k. tt);
    halts = λ ls gs s t p n v h e f u k. fault ls gs s t p n h f u k.0 k.1.0 k.1.1 k.1.2 k.1.3;
  }
    where
      fault : (ls gs : List Tie) (s : State) (t : Scope Instance) (p : Path Instance) (n : Memory) → Has input b ls gs s p n → (f : Outage) (u : State) → f ≡ OutputFault → (passed rest : List ℕ) → piece ≡ passed ++ rest → u ≡ record s { output = s.output ++ passed }
          → Halted b s p n ((Behaviours.emits (Puts piece)).runs t p) f u
      fault ls gs s t p n h f u ef passed rest split eu =
          subst (λ z. Halted b s p n ((Behaviours.emits (Puts piece)).runs t p) z u) (sym ef)
          (subst (λ z. Halted b s p n ((Behaviours.emits (Puts piece)).runs t p) OutputFault z) (sym eu)
          (record {
            trace = [];
            early = false;
            path = p;
            run = (refl, inr (refl, refl, refl));
            fits = tt;
            told = (passed, rest, refl, (false, p, (refl, inl (ap (λ z. Puts z ∷ []) (sym split), refl, inr refl))));
            taken = h.taken;
            finals = λ program. finals_right input b ls gs s p n h program;
            within = λ k. absurd (true≢false (sym o ∙ k));
          }))

  pub recalls_simulates : (b : Mode) → b.outermost ≡ true → Simulates b Stored.recalls Behaviours.recalls
  unfolding Stored.recalls
  recalls_simulates b o = simulates_at b Stored.recalls Behaviours.recalls (λ s f u k. k) (λ t p. (Nothing, (refl, inr (refl, refl, refl))))
      (λ ls gs s t p n v h e. came_event b ls gs s s p p n (Behaviours.recalls.runs t p) s.held (Recalls s.held) (h.held, tt) (s.held, (refl, inl (refl, refl, inl refl))) h (same_refl s) e (sym (append-nil s.output)) (λ k. absurd (true≢false (sym o ∙ k))) [] (λ k. level_refl s) (λ k. tt))

  pub keeps_simulates : (b : Mode) → b.outermost ≡ true → (held : Held) → Simulates b (Stored.keeps held) (Behaviours.emits (Keeps held))
  unfolding Stored.keeps
  keeps_simulates b o held = simulates_at b (Stored.keeps held) (Behaviours.emits (Keeps held)) (λ s f u k. k) (λ t p. (refl, inr (refl, refl, refl)))
      (λ ls gs s t p n v h e. came_event b ls gs s (record s { held = held }) p p n ((Behaviours.emits (Keeps held)).runs t p) tt (Keeps held) (tt, tt) (refl, inl (refl, refl, inl refl))
      (has_moved input b ls gs s p n h (record s { held = held }) p (hold n held) refl refl refl refl refl refl (λ x f. f) refl (le_refl p.elaborations) refl h.taken h.rest refl)
      (record { here = λ k. refl; everywhere = λ k. refl; frame = refl; room = refl; everywhere_room = refl }) e (sym (append-nil s.output)) (λ k. absurd (true≢false (sym o ∙ k))) [] (λ k. record { cells = refl; kept = refl }) (λ k. tt))

  input_none : (bytes : List ℕ) (n : ℕ) → [] ≡ drop n bytes → (input_of bytes n ≡ None) × (drop (suc n) bytes ≡ []) × (length bytes ≤ n)
  input_none [] zero e = (refl, refl, le_refl 0)
  input_none [] (suc n) e = (refl, refl, let h : 0 ≤ suc n = omega arith in h)
  input_none (c ∷ bytes) zero e = absurd (no e)
    where
      no : (◌≡◌ {A = List ℕ} [] (c ∷ bytes)) → ⊥
      no e = cc
  input_none (c ∷ bytes) (suc n) e = let h = input_none bytes n e in (h.0, h.1, let k = h.2 in omega arith)

  input_some : (bytes : List ℕ) (n c : ℕ) (rest : List ℕ) → c ∷ rest ≡ drop n bytes → (input_of bytes n ≡ Some c) × (drop (suc n) bytes ≡ rest) × (n < length bytes)
  input_some [] zero c rest e = absurd (no e)
    where
      no : (◌≡◌ {A = List ℕ} (c ∷ rest) []) → ⊥
      no e = cc
  input_some [] (suc n) c rest e = absurd (no e)
    where
      no : (◌≡◌ {A = List ℕ} (c ∷ rest) []) → ⊥
      no e = cc
  input_some (d ∷ bytes) zero c rest e = (ap Some (first e), second e, let h : 0 < suc (length bytes) = omega arith in h)
    where
      first : c ∷ rest ≡ d ∷ bytes → d ≡ c
      first e = cc

      second : c ∷ rest ≡ d ∷ bytes → bytes ≡ rest
      second e = cc
  input_some (d ∷ bytes) (suc n) c rest e = let h = input_some bytes n c rest e in (h.0, h.1, let k = h.2 in omega arith)

  pub takes_simulates : (b : Mode) → b.outermost ≡ true → Simulates b Stored.takes Behaviours.takes
  unfolding Stored.takes
  takes_simulates b o = record {
    stops = λ t p. (None, (refl, inr (refl, refl, refl)));
    does = λ ls gs s t p n v h e. go ls gs s t p n h e s.input refl;
    halts = λ ls gs s t p n v h e f u k. fault ls gs s t p n h f u k.0 k.1;
  }
    where
      came : (ls gs : List Tie) (s s' : State) (t : Scope Instance) (p : Path Instance) (n : Memory) → Has input b ls gs s p n → s.turns ≡ p.turns → (c : Option ℕ) → input_of input p.taken ≡ c
          → s'.cells ≡ s.cells → s'.kept ≡ s.kept → s'.declared ≡ s.declared → s'.notes ≡ s.notes → s'.taken ≡ min (suc p.taken) (length input) → s'.input ≡ drop (suc p.taken) input → s'.held ≡ s.held → s'.turns ≡ s.turns → s'.output ≡ s.output → Same s s'
          → Came b ls gs s p n (Behaviours.takes.runs t p) (at s' (Ok c)) (record { deeds = Asked ∷ []; touches = [] })
      came ls gs s s' t p n h e c is cells kept declared notes taken rest held turns output same =
          came_event b ls gs s s' p (one_taken p) n (Behaviours.takes.runs t p) c (Takes p.taken c) (sym is ∙ sym (ap (λ (f : ℕ → Option ℕ). f p.taken) h.bytes), tt) (c, (refl, inl (refl, refl, inl refl)))
          (has_moved input b ls gs s p n h s' (one_taken p) n cells kept declared notes refl refl (λ x f. f) refl (le_refl p.elaborations) refl taken rest (held ∙ h.held))
          same (turns ∙ e) (output ∙ sym (append-nil s.output)) (λ k. absurd (true≢false (sym o ∙ k))) [] (λ k. absurd (true≢false (sym o ∙ k))) (λ k. tt)

      go : (ls gs : List Tie) (s : State) (t : Scope Instance) (p : Path Instance) (n : Memory) → Has input b ls gs s p n → s.turns ≡ p.turns → (left : List ℕ) → s.input ≡ left → Came b ls gs s p n (Behaviours.takes.runs t p) (taken_from s left) (record { deeds = Asked ∷ []; touches = [] })
      go ls gs s t p n h e [] is =
          let k = input_none input p.taken (sym is ∙ h.rest) in
          came ls gs s (record s { done = Stored.also_done Asked s.done }) t p n h e None k.0 refl refl refl refl (h.taken ∙ (let z = k.2 in let y : min p.taken (length input) ≡ min (suc p.taken) (length input) = omega arith in y)) (is ∙ sym k.1) refl refl refl
          (record { here = λ k. refl; everywhere = λ k. refl; frame = refl; room = refl; everywhere_room = refl })
      go ls gs s t p n h e (c ∷ rest) is =
          let k = input_some input p.taken c rest (sym is ∙ h.rest) in
          came ls gs s (record s { taken = s.taken + 1; input = rest; done = Stored.also_done Asked s.done }) t p n h e (Some c) k.0 refl refl refl refl
          (let z = k.2 in let w = h.taken in let y : s.taken + 1 ≡ min (suc p.taken) (length input) = omega arith in y) (sym k.1) refl refl refl (record { here = λ k. refl; everywhere = λ k. refl; frame = refl; room = refl; everywhere_room = refl })

      fault : (ls gs : List Tie) (s : State) (t : Scope Instance) (p : Path Instance) (n : Memory) → Has input b ls gs s p n → (f : Outage) (u : State) → f ≡ InputFault → u ≡ s → Halted b s p n (Behaviours.takes.runs t p) f u
      fault ls gs s t p n h f u ef eu =
          subst (λ z. Halted b s p n (Behaviours.takes.runs t p) z u) (sym ef)
          (subst (λ z. Halted b s p n (Behaviours.takes.runs t p) InputFault z) (sym eu)
          (record {
            trace = [];
            early = false;
            path = p;
            run = (None, (refl, inr (refl, refl, refl)));
            fits = tt;
            told = (sym (append-nil s.output), (None, (false, one_taken p, (None, (refl, inl (refl, refl, inr refl))))));
            taken = h.taken;
            finals = λ program. finals_right input b ls gs s p n h program;
            within = λ k. absurd (true≢false (sym o ∙ k));
          }))

  -- one thing and then another

  pub bind_simulates : {A B : Type 0} (b : Mode) (m : Stored A) (g : Behaviour Instance A) (k : A → Stored B) (l : A → Behaviour Instance B) → Simulates b m g → ((a : A) → Simulates b (k a) (l a)) → Simulates b (Stored.bind m k) (Behaviours.◌>>=◌ g l)
  unfolding Stored.bind
  bind_simulates {A} {B} b m g k l first rest = record {
    stops = λ t p. inr (Stopped, refl, first.stops t p);
    does = λ ls gs s t p n v h e. go ls gs s t p n v (m.does s) (log m s) (m.does s).end refl (first.does ls gs s t p n v h e);
    halts = λ ls gs s t p n v h e f u c. ⊎_elim
        (λ c. halted_after b s s u p p n n [] (g.runs t p) ((Behaviours.◌>>=◌ g l).runs t p) f refl tt (sym (append-nil s.output)) (λ e. (refl, refl)) (λ w y q r. (y, inr (Stopped, refl, r))) (halted_stops b m g first ls gs s t p n v h e f u c))
        (λ c. later ls gs s t p n v (m.does s) (log m s) (m.does s).end refl (first.does ls gs s t p n v h e) f u c) c;
  }
    where
      go : (ls gs : List Tie) (s : State) (t : Scope Instance) (p : Path Instance) (n : Memory) → Visible ls gs s t → (r : After A) (ds : Log) (e : Result A Cause) → r.end ≡ e → Came b ls gs s p n (g.runs t p) r ds
          → Came b ls gs s p n ((Behaviours.◌>>=◌ g l).runs t p) (next r.state e k) (both ds (next_log r.state e k))
      go ls gs s t p n v r ds (Ok a) eq d =
          let c = (rest a).does ls d.ties r.state t d.path (after n d.trace) (visible_same ls gs d.ties s r.state t d.grows d.same v) d.has d.turns in
          came_then b ls gs s p n (g.runs t p) ((l a).runs t d.path) ((Behaviours.◌>>=◌ g l).runs t p) r ((k a).does r.state) ds (log (k a) r.state) d c (d.early || c.early) ((k a).does r.state).end
          (inl (a, d.path, d.trace, c.trace, d.early, c.early, refl, refl, subst (λ z. g.runs t p d.trace d.early d.path (end_of z)) eq d.run, c.run))
      go ls gs s t p n v r ds (Err (Left x)) eq d = came_as b ls gs s p n (g.runs t p) ((Behaviours.◌>>=◌ g l).runs t p) r (Err (Left x)) ds (both ds none) (both_none ds) d d.early (inr (Leaves x, refl, subst (λ z. g.runs t p d.trace d.early d.path (end_of z)) eq d.run))
      go ls gs s t p n v r ds (Err OutOfTurns) eq d = came_as b ls gs s p n (g.runs t p) ((Behaviours.◌>>=◌ g l).runs t p) r (Err OutOfTurns) ds (both ds none) (both_none ds) d d.early (inr (Paths.Spent, refl, subst (λ z. g.runs t p d.trace d.early d.path (end_of z)) eq d.run))
      go ls gs s t p n v r ds (Err NoRoom) eq d = came_as b ls gs s p n (g.runs t p) ((Behaviours.◌>>=◌ g l).runs t p) r (Err NoRoom) ds (both ds none) (both_none ds) d d.early (inr (Stopped, refl, subst (λ z. g.runs t p d.trace d.early d.path (end_of z)) eq d.run))
      go ls gs s t p n v r ds (Err CutOff) eq d = came_as b ls gs s p n (g.runs t p) ((Behaviours.◌>>=◌ g l).runs t p) r (Err CutOff) ds (both ds none) (both_none ds) d d.early (inr (Stopped, refl, subst (λ z. g.runs t p d.trace d.early d.path (end_of z)) eq d.run))
      go ls gs s t p n v r ds (Err Misnoted) eq d = came_as b ls gs s p n (g.runs t p) ((Behaviours.◌>>=◌ g l).runs t p) r (Err Misnoted) ds (both ds none) (both_none ds) d d.early (inr (Stopped, refl, subst (λ z. g.runs t p d.trace d.early d.path (end_of z)) eq d.run))

      later : (ls gs : List Tie) (s : State) (t : Scope Instance) (p : Path Instance) (n : Memory) → Visible ls gs s t → (r : After A) (ds : Log) (e : Result A Cause) → r.end ≡ e → Came b ls gs s p n (g.runs t p) r ds → (f : Outage) (u : State) → next_halts r.state e k f u
          → Halted b s p n ((Behaviours.◌>>=◌ g l).runs t p) f u
      later ls gs s t p n v r ds (Ok a) eq d f u c =
          halted_after b s r.state u p d.path n (after n d.trace) d.trace ((l a).runs t d.path) ((Behaviours.◌>>=◌ g l).runs t p) f refl d.fits d.output (λ e. let w = d.within e in (w.taken, w.globals))
          (λ w y p' q. (d.early || y, inl (a, d.path, d.trace, w, d.early, y, refl, refl, subst (λ z. g.runs t p d.trace d.early d.path (end_of z)) eq d.run, q)))
          (halted_stops b (k a) (l a) (rest a) ls d.ties r.state t d.path (after n d.trace) (visible_same ls gs d.ties s r.state t d.grows d.same v) d.has d.turns f u c)
      later ls gs s t p n v r ds (Err x) eq d f u c = absurd c

  pub handles_simulates : {A : Type 0} (b : Mode) (m : Stored A) (g : Behaviour Instance A) (takes : Leave → Bool) (k : Leave → Stored A) (l : Leave → Behaviour Instance A) → Simulates b m g → ((x : Leave) → Simulates b (k x) (l x)) → Simulates b (Stored.handles m takes k) (Behaviours.handles g takes l)
  unfolding Stored.handles
  handles_simulates {A} b m g takes k l first rest = record {
    stops = λ t p. inr (first.stops t p, tt);
    does = λ ls gs s t p n v h e. go ls gs s t p n v (m.does s) (log m s) (m.does s).end refl (first.does ls gs s t p n v h e);
    halts = λ ls gs s t p n v h e f u c. ⊎_elim
        (λ c. halted_after b s s u p p n n [] (g.runs t p) ((Behaviours.handles g takes l).runs t p) f refl tt (sym (append-nil s.output)) (λ e. (refl, refl)) (λ w y q r. (y, inr (r, tt))) (halted_stops b m g first ls gs s t p n v h e f u c))
        (λ c. later ls gs s t p n v (m.does s) (log m s) (m.does s).end refl (first.does ls gs s t p n v h e) f u c) c;
  }
    where
      untaken : (ls gs : List Tie) (s : State) (t : Scope Instance) (p : Path Instance) (n : Memory) (r : After A) (ds : Log) (e : Result A Cause) → r.end ≡ e → Behaviours.Untaken takes (end_of e) → Came b ls gs s p n (g.runs t p) r ds
          → Came b ls gs s p n ((Behaviours.handles g takes l).runs t p) (at r.state e) (both ds none)
      untaken ls gs s t p n r ds e eq un d = came_as b ls gs s p n (g.runs t p) ((Behaviours.handles g takes l).runs t p) r e ds (both ds none) (both_none ds) d d.early (inr (subst (λ z. g.runs t p d.trace d.early d.path (end_of z)) eq d.run, un))

      taken : (ls gs : List Tie) (s : State) (t : Scope Instance) (p : Path Instance) (n : Memory) → Visible ls gs s t → (r : After A) (ds : Log) (x : Leave) → r.end ≡ Err (Left x) → takes x ≡ true → Came b ls gs s p n (g.runs t p) r ds
          → Came b ls gs s p n ((Behaviours.handles g takes l).runs t p) ((k x).does r.state) (both ds (log (k x) r.state))
      taken ls gs s t p n v r ds x eq is d =
          let c = (rest x).does ls d.ties r.state t d.path (after n d.trace) (visible_same ls gs d.ties s r.state t d.grows d.same v) d.has d.turns in
          came_then b ls gs s p n (g.runs t p) ((l x).runs t d.path) ((Behaviours.handles g takes l).runs t p) r ((k x).does r.state) ds (log (k x) r.state) d c (d.early || c.early) ((k x).does r.state).end
          (inl (x, d.path, d.trace, c.trace, d.early, c.early, refl, refl, subst (λ z. g.runs t p d.trace d.early d.path (end_of z)) eq d.run, is, c.run))

      go : (ls gs : List Tie) (s : State) (t : Scope Instance) (p : Path Instance) (n : Memory) → Visible ls gs s t → (r : After A) (ds : Log) (e : Result A Cause) → r.end ≡ e → Came b ls gs s p n (g.runs t p) r ds
          → Came b ls gs s p n ((Behaviours.handles g takes l).runs t p) (handled r.state e takes k) (both ds (handled_log r.state e takes k))
      go ls gs s t p n v r ds (Ok a) eq d = untaken ls gs s t p n r ds (Ok a) eq tt d
      go ls gs s t p n v r ds (Err OutOfTurns) eq d = untaken ls gs s t p n r ds (Err OutOfTurns) eq tt d
      go ls gs s t p n v r ds (Err NoRoom) eq d = untaken ls gs s t p n r ds (Err NoRoom) eq tt d
      go ls gs s t p n v r ds (Err CutOff) eq d = untaken ls gs s t p n r ds (Err CutOff) eq tt d
      go ls gs s t p n v r ds (Err Misnoted) eq d = untaken ls gs s t p n r ds (Err Misnoted) eq tt d
      go ls gs s t p n v r ds (Err (Left x)) eq d = choose (takes x) refl
        where
          choose : (c : Bool) → takes x ≡ c → Came b ls gs s p n ((Behaviours.handles g takes l).runs t p) (cond c ((k x).does r.state) (at r.state (Err (Left x)))) (both ds (record { deeds = cond c ((k x).deeds r.state) []; touches = cond c ((k x).touches r.state) [] }))
          choose true is = taken ls gs s t p n v r ds x eq is d
          choose false is = untaken ls gs s t p n r ds (Err (Left x)) eq is d

      later : (ls gs : List Tie) (s : State) (t : Scope Instance) (p : Path Instance) (n : Memory) → Visible ls gs s t → (r : After A) (ds : Log) (e : Result A Cause) → r.end ≡ e → Came b ls gs s p n (g.runs t p) r ds → (f : Outage) (u : State) → handled_halts r.state e takes k f u
          → Halted b s p n ((Behaviours.handles g takes l).runs t p) f u
      later ls gs s t p n v r ds (Ok a) eq d f u c = absurd c
      later ls gs s t p n v r ds (Err OutOfTurns) eq d f u c = absurd c
      later ls gs s t p n v r ds (Err NoRoom) eq d f u c = absurd c
      later ls gs s t p n v r ds (Err CutOff) eq d f u c = absurd c
      later ls gs s t p n v r ds (Err Misnoted) eq d f u c = absurd c
      later ls gs s t p n v r ds (Err (Left x)) eq d f u c = choose (takes x) refl c
        where
          choose : (o : Bool) → takes x ≡ o → cond o (Stops (k x) r.state f u) ⊥ → Halted b s p n ((Behaviours.handles g takes l).runs t p) f u
          choose true is c =
              halted_after b s r.state u p d.path n (after n d.trace) d.trace ((l x).runs t d.path) ((Behaviours.handles g takes l).runs t p) f refl d.fits d.output (λ e. let w = d.within e in (w.taken, w.globals))
              (λ w y p' q. (d.early || y, inl (x, d.path, d.trace, w, d.early, y, refl, refl, subst (λ z. g.runs t p d.trace d.early d.path (end_of z)) eq d.run, is, q)))
              (halted_stops b (k x) (l x) (rest x) ls d.ties r.state t d.path (after n d.trace) (visible_same ls gs d.ties s r.state t d.grows d.same v) d.has d.turns f u c)
          choose false is c = absurd c

  -- frames and elaborations

  pub apart_simulates : {A : Type 0} (b : Mode) (m : Stored A) (g : Behaviour Instance A) → Simulates b m g → Simulates b (Stored.apart m) (Behaviours.apart g)
  unfolding Stored.apart
  apart_simulates {A} b m g first = record {
    stops = λ t p. first.stops (apart_of t) p;
    does = λ ls gs s t p n v h e. came ls gs s t p n (m.does (record s { frame = s.frame + 1 })) (log m (record s { frame = s.frame + 1 })) (first.does ls gs (record s { frame = s.frame + 1 }) (apart_of t) p n (visible_apart ls gs s t v) (framed ls gs s p n h) e);
    halts = λ ls gs s t p n v h e f u c. subst (λ z. Halted b s p n ((Behaviours.apart g).runs t p) f z) (sym c.2)
        (fault ls gs s t p n f c.0 (halted_stops b m g first ls gs (record s { frame = s.frame + 1 }) (apart_of t) p n (visible_apart ls gs s t v) (framed ls gs s p n h) e f c.0 c.1));
  }
    where
      framed : (ls gs : List Tie) (s : State) (p : Path Instance) (n : Memory) → Has input b ls gs s p n → Has input b ls gs (record s { frame = s.frame + 1 }) p n
      framed ls gs s p n h = has_moved input b ls gs s p n h (record s { frame = s.frame + 1 }) p n refl refl refl refl refl refl (λ x f. f) refl (le_refl p.elaborations) refl h.taken h.rest h.held

      came : (ls gs : List Tie) (s : State) (t : Scope Instance) (p : Path Instance) (n : Memory) (r : After A) (ds : Log) → Came b ls gs (record s { frame = s.frame + 1 }) p n (g.runs (apart_of t) p) r ds
          → Came b ls gs s p n ((Behaviours.apart g).runs t p) (at (record r.state { frame = s.frame }) r.end) ds
      came ls gs s t p n r ds d = record {
        trace = d.trace;
        early = d.early;
        path = d.path;
        ties = d.ties;
        run = d.run;
        fits = d.fits;
        has = has_moved input b ls d.ties r.state d.path (after n d.trace) d.has (record r.state { frame = s.frame }) d.path (after n d.trace) refl refl refl refl refl refl (λ x f. f) refl (le_refl d.path.elaborations) refl d.has.taken d.has.rest d.has.held;
        grows = d.grows;
        same = record { here = d.same.here; everywhere = d.same.everywhere; frame = refl; room = d.same.room; everywhere_room = d.same.everywhere_room };
        turns = d.turns;
        output = d.output;
        deeds = d.deeds;
        level = λ k. let z = d.level k in record { cells = z.cells; kept = z.kept };
        touched = λ k. show_more ls gs ls gs (record s { frame = s.frame + 1 }) s d.trace d.trace (λ a z. before_level s (record s { frame = s.frame + 1 }) (record { cells = refl; kept = refl }) a z) (λ c i z y. z) (λ F z. z) ds.touches (d.touched k);
        within = d.within;
      }

      fault : (ls gs : List Tie) (s : State) (t : Scope Instance) (p : Path Instance) (n : Memory) (f : Outage) (u : State) → Halted b (record s { frame = s.frame + 1 }) p n (g.runs (apart_of t) p) f u → Halted b s p n ((Behaviours.apart g).runs t p) f (record u { frame = s.frame })
      fault ls gs s t p n f u d = record { trace = d.trace; early = d.early; path = d.path; run = d.run; fits = d.fits; told = d.told; taken = d.taken; finals = d.finals; within = d.within }

  module _ (asks : Asks Instance) (limit : ℕ) (cuts : ℕ → ℕ → List ℕ) (one : Bool) where
    abbrev elaborated : {A : Type 0} → Region → Entity → List ℤ → Behaviour Instance A → Behaviour Instance A
    elaborated region x vs g = Behaviours.elaborates this region x vs g

    module _ {A : Type 0} (b : Mode) (m : Stored A) (g : Behaviour Instance A) (first : Simulates b m g) (x : Entity) (vs : List ℤ) where
      module _ (ls gs : List Tie) (s : State) (t : Scope Instance) (p : Path Instance) (n : Memory) (v : Visible ls gs s t) (h : Has input b ls gs s p n) (e : s.turns ≡ p.turns) where
        abbrev l : Instance
        l = here x p

        abbrev made : Memory
        made = put_all n l 0 vs

        module _ (region : Region) (r : After A) (ds : Log) where
          filled_output : (tr : Trace Instance) (o o' : List ℕ) → o' ≡ o ++ output_of tr → o' ≡ o ++ output_of (Behaviours.fillings l 0 vs ++ tr)
          filled_output tr o o' k = k ∙ ap (λ z. o ++ z) (sym (output_fillings l 0 vs tr))

          -- what comes of the part comes of the whole
          came_filled : (ls' gs' : List Tie) (s' u : State) (d : Came b ls' gs' s' (one_elaboration region l p) made (g.runs (declares region x l (length vs) t) (one_elaboration region l p)) r ds) → s'.output ≡ s.output
              → Has input b ls d.ties u d.path (after made d.trace) → Grows gs d.ties → Same s u → u.turns ≡ d.path.turns → u.output ≡ r.state.output → (b.outermost ≡ false → Level s u) → (b.outermost ≡ false → AllShow ls gs s d.trace ds.touches) → (b.outermost ≡ false → Within ls gs d.ties p d.path n (after made d.trace))
              → Came b ls gs s p n ((elaborated region x vs g).runs t p) (at u r.end) ds
          came_filled ls' gs' s' u d before has grows same turns output level touched within = record {
            trace = Behaviours.fillings l 0 vs ++ d.trace;
            early = d.early;
            path = d.path;
            ties = d.ties;
            run = inl (d.trace, refl, d.run);
            fits = fillings_fit l 0 vs d.trace n d.fits;
            has = subst (λ z. Has input b ls d.ties u d.path z) (sym (after_fillings l 0 vs d.trace n)) has;
            grows = grows;
            same = same;
            turns = turns;
            output = filled_output d.trace s.output u.output (output ∙ d.output ∙ ap (λ z. z ++ output_of d.trace) before);
            deeds = deeds_append (Behaviours.fillings l 0 vs) d.trace ∙ ap (λ z. z ++ deeds_of d.trace) (fillings_silent l 0 vs) ∙ d.deeds;
            level = level;
            touched = λ k. show_more ls gs ls gs s s d.trace (Behaviours.fillings l 0 vs ++ d.trace) (λ a z. z) (λ c i z y. z) (λ F z. has_right F (Behaviours.fillings l 0 vs) d.trace z) ds.touches (touched k);
            within = λ k. let w = within k in record { ties = w.ties; taken = w.taken; globals = w.globals; frame = λ l' i o c. ap (λ (z : Memory). z.cells l' i) (after_fillings l 0 vs d.trace n) ∙ w.frame l' i o c };
          }

        level_ended : (u : State) → Level (begun Here x vs s) u → Level s (ended Here x s u)
        level_ended u g = record { cells = length-take-le (length s.cells) u.cells (let e = length-append s.cells vs in let k = g.cells in omega arith); kept = g.kept }

        before_here : (a : Address) → Before s a → Before (begun Here x vs s) a
        before_here (Kept a) z = z
        before_here (Stacked a) z = let e = length-append s.cells vs in omega arith

        -- the new object's cells weren't there
        own_apart : (c : Tie) (i : ℕ) → Tied (stacked input b ls gs s p n h x vs ∷ ls) gs c → Before s (place c i) → Tied ls gs c
        own_apart c i (inl (inl e)) z = absurd (behind (subst (λ (y : Tie). Before s (place y i)) e z))
          where
            behind : Before s (place (stacked input b ls gs s p n h x vs) i) → ⊥
            behind z = omega arith
        own_apart c i (inl (inr e)) z = inl e
        own_apart c i (inr e) z = inr e

        came_here : has_room Here x s ≡ true → (r : After A) (ds : Log) → Came b (stacked input b ls gs s p n h x vs ∷ ls) gs (begun Here x vs s) (one_elaboration Here l p) made (g.runs (declares Here x l (length vs) t) (one_elaboration Here l p)) r ds
            → Came b ls gs s p n ((elaborated Here x vs g).runs t p) (at (ended Here x s r.state) r.end) ds
        came_here room r ds d =
            came_filled Here r ds (stacked input b ls gs s p n h x vs ∷ ls) gs (begun Here x vs s) (ended Here x s r.state) d refl
            (has_ended input b ls gs s p n h x vs d.ties r.state d.path (after made d.trace) d.has) d.grows (same_ended Here x vs s r.state room d.same) d.turns refl
            (λ k. level_ended r.state (d.level k)) (λ k. show_more (stacked input b ls gs s p n h x vs ∷ ls) gs ls gs (begun Here x vs s) s d.trace d.trace (λ a z. before_here a z) own_apart (λ F z. z) ds.touches (d.touched k))
            (λ k. let w = d.within k in record {
              ties = w.ties;
              taken = w.taken;
              globals = w.globals;
              frame = λ l' i o c.
                  let ne : l ≡ l' → ⊥ = λ z. h.inside k (ap (λ (y : Instance). y.thread) z ∙ o) in
                  w.frame l' i o (λ c' tied. ⊎_elim (λ tied. ⊎_elim (λ is same. ne (ap (λ (y : Tie). y.instance) (sym is) ∙ same)) (λ tied. c c' (inl tied)) tied) (λ tied. c c' (inr tied)) tied) ∙ put_all_other vs n l l' 0 i ne;
            })

        came_everywhere : b.outermost ≡ true → has_room Everywhere x s ≡ true → (r : After A) (ds : Log) → Came b ls (kept input b ls gs s p n h x vs ∷ gs) (begun Everywhere x vs s) (one_elaboration Everywhere l p) made (g.runs (declares Everywhere x l (length vs) t) (one_elaboration Everywhere l p)) r ds
            → Came b ls gs s p n ((elaborated Everywhere x vs g).runs t p) (at (ended Everywhere x s r.state) r.end) ds
        came_everywhere o room r ds d =
            came_filled Everywhere r ds ls (kept input b ls gs s p n h x vs ∷ gs) (begun Everywhere x vs s) (ended Everywhere x s r.state) d refl
            (has_ended_everywhere input b ls gs s p n h x vs d.ties r.state d.path (after made d.trace) d.has) (λ c tied. d.grows c (inr tied)) (same_ended Everywhere x vs s r.state room d.same) d.turns refl
            (λ k. absurd (true≢false (sym o ∙ k))) (λ k. absurd (true≢false (sym o ∙ k))) (λ k. absurd (true≢false (sym o ∙ k)))

      stop : (region : Region) (t : Scope Instance) (p : Path Instance) → (elaborated region x vs g).runs t p [] false p Stopped
      stop region t p = inr (refl, refl, refl, (_, refl))

      halted_filled : (region : Region) (s s' u u' : State) (t : Scope Instance) (p : Path Instance) (n : Memory) (f : Outage) → s'.output ≡ s.output → u'.output ≡ u.output → u'.taken ≡ u.taken → u'.kept ≡ u.kept → u'.declared ≡ u.declared
          → (b.outermost ≡ false → (one_elaboration region (here x p) p).globals ≡ p.globals)
          → Halted b s' (one_elaboration region (here x p) p) (put_all n (here x p) 0 vs) (g.runs (declares region x (here x p) (length vs) t) (one_elaboration region (here x p) p)) f u → Halted b s p n ((elaborated region x vs g).runs t p) f u'
      halted_filled region s s' u u' t p n f before output taken kept declared same d =
          let l = here x p in
          record {
            trace = Behaviours.fillings l 0 vs ++ d.trace;
            early = d.early;
            path = d.path;
            run = inl (d.trace, refl, d.run);
            fits = fillings_fit l 0 vs d.trace n d.fits;
            told = told_after f s.output s'.output u'.output (Behaviours.fillings l 0 vs) d.trace d.path (StopsWith (g.runs (declares region x l (length vs) t) (one_elaboration region l p))) (StopsWith ((elaborated region x vs g).runs t p))
                (before ∙ sym (append-nil s.output) ∙ ap (λ z. s.output ++ z) (sym nothing_out)) (λ w k. (k.0, k.1, inl (w, refl, k.2))) (subst (λ z. Told f s'.output z d.trace d.path (StopsWith (g.runs (declares region x l (length vs) t) (one_elaboration region l p)))) (sym output) d.told);
            taken = taken ∙ d.taken;
            finals = λ program. ap₂ (λ z w. finals_of program z w) kept declared ∙ d.finals program ∙ ap (λ z. finals program z d.path.globals) (sym (after_fillings l 0 vs d.trace n));
            within = λ k. let w = d.within k in (w.0, w.1 ∙ elaborated_taken region, w.2 ∙ same k);
          }
        where
          nothing_out : output_of (Behaviours.fillings (here x p) 0 vs) ≡ []
          nothing_out = ap output_of (sym (append-nil (Behaviours.fillings (here x p) 0 vs))) ∙ output_fillings (here x p) 0 vs []

          elaborated_taken : (region : Region) → (one_elaboration region (here x p) p).taken ≡ p.taken
          elaborated_taken Everywhere = refl
          elaborated_taken Here = refl

      module _ (ls gs : List Tie) (s : State) (t : Scope Instance) (p : Path Instance) (n : Memory) (v : Visible ls gs s t) (h : Has input b ls gs s p n) (e : s.turns ≡ p.turns) where
        does_here : (c : Bool) → has_room Here x s ≡ c → Came b ls gs s p n ((elaborated Here x vs g).runs t p) (cond c (at (ended Here x s (m.does (begun Here x vs s)).state) (m.does (begun Here x vs s)).end) (at s (Err NoRoom))) (record { deeds = cond c (m.deeds (begun Here x vs s)) []; touches = cond c (m.touches (begun Here x vs s)) [] })
        does_here true room = came_here ls gs s t p n v h e room (m.does (begun Here x vs s)) (log m (begun Here x vs s))
            (first.does (stacked input b ls gs s p n h x vs ∷ ls) gs (begun Here x vs s) (declares Here x (here x p) (length vs) t) (one_elaboration Here (here x p) p) (put_all n (here x p) 0 vs) (visible_here ls gs s t v x vs (here x p) room) (has_here input b ls gs s p n h x vs) e)
        does_here false room = came_at b ls gs s p n ((elaborated Here x vs g).runs t p) (Err NoRoom) h e (stop Here t p)

        does_everywhere : b.outermost ≡ true → (c : Bool) → has_room Everywhere x s ≡ c → Came b ls gs s p n ((elaborated Everywhere x vs g).runs t p) (cond c (at (ended Everywhere x s (m.does (begun Everywhere x vs s)).state) (m.does (begun Everywhere x vs s)).end) (at s (Err NoRoom))) (record { deeds = cond c (m.deeds (begun Everywhere x vs s)) []; touches = cond c (m.touches (begun Everywhere x vs s)) [] })
        does_everywhere o true room = came_everywhere ls gs s t p n v h e o room (m.does (begun Everywhere x vs s)) (log m (begun Everywhere x vs s))
            (first.does ls (kept input b ls gs s p n h x vs ∷ gs) (begun Everywhere x vs s) (declares Everywhere x (here x p) (length vs) t) (one_elaboration Everywhere (here x p) p) (put_all n (here x p) 0 vs) (visible_everywhere ls gs s t v x vs (here x p) room) (has_everywhere input b ls gs s p n h x vs o) e)
        does_everywhere o false room = came_at b ls gs s p n ((elaborated Everywhere x vs g).runs t p) (Err NoRoom) h e (stop Everywhere t p)

        halts_here : (f : Outage) (w : State) → has_room Here x s ≡ true → (u : State) → Stops m (begun Here x vs s) f u → w ≡ ended Here x s u → Halted b s p n ((elaborated Here x vs g).runs t p) f w
        halts_here f w room u k is = subst (λ z. Halted b s p n ((elaborated Here x vs g).runs t p) f z) (sym is) (halted_filled Here s (begun Here x vs s) u (ended Here x s u) t p n f refl refl refl refl refl (λ k. refl)
            (halted_stops b m g first (stacked input b ls gs s p n h x vs ∷ ls) gs (begun Here x vs s) (declares Here x (here x p) (length vs) t) (one_elaboration Here (here x p) p) (put_all n (here x p) 0 vs) (visible_here ls gs s t v x vs (here x p) room) (has_here input b ls gs s p n h x vs) e f u k))

        halts_everywhere : b.outermost ≡ true → (f : Outage) (w : State) → has_room Everywhere x s ≡ true → (u : State) → Stops m (begun Everywhere x vs s) f u → w ≡ ended Everywhere x s u → Halted b s p n ((elaborated Everywhere x vs g).runs t p) f w
        halts_everywhere o f w room u k is = subst (λ z. Halted b s p n ((elaborated Everywhere x vs g).runs t p) f z) (sym is) (halted_filled Everywhere s (begun Everywhere x vs s) u (ended Everywhere x s u) t p n f refl refl refl refl refl (λ k. absurd (true≢false (sym o ∙ k)))
            (halted_stops b m g first ls (kept input b ls gs s p n h x vs ∷ gs) (begun Everywhere x vs s) (declares Everywhere x (here x p) (length vs) t) (one_elaboration Everywhere (here x p) p) (put_all n (here x p) 0 vs) (visible_everywhere ls gs s t v x vs (here x p) room) (has_everywhere input b ls gs s p n h x vs o) e f u k))

      pub elaborates_simulates : (region : Region) → (region ≡ Everywhere → b.outermost ≡ true) → Simulates b (Stored.elaborates region x vs m) (elaborated region x vs g)
      unfolding Stored.elaborates
      elaborates_simulates Here u = record {
        stops = stop Here;
        does = λ ls gs s t p n v h e. does_here ls gs s t p n v h e (has_room Here x s) refl;
        halts = λ ls gs s t p n v h e f w c. halts_here ls gs s t p n v h e f w c.0 c.1.0 c.1.1 c.1.2;
      }
      elaborates_simulates Everywhere u = record {
        stops = stop Everywhere;
        does = λ ls gs s t p n v h e. does_everywhere ls gs s t p n v h e (u refl) (has_room Everywhere x s) refl;
        halts = λ ls gs s t p n v h e f w c. halts_everywhere ls gs s t p n v h e (u refl) f w c.0 c.1.0 c.1.1 c.1.2;
      }
