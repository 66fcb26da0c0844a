-- Behaviours: the runs that a part of a program may have, and what is asked of the threads of the constructs that they
-- come to.
use Rattle.std.specs.Prelude.{◌≡◌, length, ℕ, suc, ◌<◌, ◌≤◌, ℤ, List, [], ◌∷◌, ◌++◌, Option, Some, None, ◌⊎◌, Bool, true, false, ◌||◌}
use Rattle.ada_base.specs.declared.reason.Reason.TheVariants as reason
use Rattle.ada_base.specs.Input.{Held}
use Rattle.behaviours.specs.Doings.{Doings}
use Rattle.behaviours.specs.Paths.{Leave, Raises, Entity, VariableOf, Region, ThreadName, Instance, End, Gives, Leaves, Spent, Stopped, Path, Scope, find, declares, apart_of, one_turn, one_taken, one_elaboration, enter, leave, joined, is_inside}
use Rattle.behaviours.specs.Events.{Event, Reads, Writes, Recalls, Takes, Trace, Apart, Has, IsInputOutput}
use Rattle.behaviours.specs.Joins.{Share, Site, Runs, Ran, EachRan, Form, most_turns, some_early}

-- an end that is no value is that of what stands around
abbrev pub Carries : {A B : Type 0} → End A → End B → Type 0
Carries (Gives a) e = ⊥
Carries (Leaves x) e = e ≡ Leaves x
Carries Spent e = e ≡ Spent
Carries Stopped e = e ≡ Stopped

-- an end that isn't one of these leaves
abbrev pub Untaken : {A : Type 0} → (Leave → Bool) → End A → Type 0
Untaken takes (Gives a) = Unit {0}
Untaken takes (Leaves x) = takes x ≡ false
Untaken takes Spent = Unit {0}
Untaken takes Stopped = Unit {0}

abbrev pub is_left : {A : Type 0} → End A → Bool
is_left (Gives a) = false
is_left (Leaves x) = true
is_left Spent = false
is_left Stopped = false

-- the runs where these objects are visible; and that what is asked of each construct that they come to is so
pub record Behaviour (P A : Type 0) : Type 1 where
  pub runs : Scope P → Runs P A
  pub safe : Scope P → Path P → Type 0

module _ {P : Type 0} where
  -- what is done at once, or isn't begun; in place of its end a path may stop
  abbrev pub Did : {A : Type 0} → Path P → Trace P → Path P → End A → Trace P → Bool → Path P → End A → Type 0
  Did p act q end tr y p' e = (y ≡ false) × (((tr ≡ act) × (p' ≡ q) × ((e ≡ end) ⊎ (e ≡ Stopped))) ⊎ ((tr ≡ []) × (p' ≡ p) × (e ≡ Stopped)))

  abbrev pub Unbegun : {A : Type 0} → Path P → Trace P → Bool → Path P → End A → Type 0
  Unbegun p tr y p' e = (tr ≡ []) × (y ≡ false) × (p' ≡ p) × (e ≡ Stopped)

  abbrev pub at_once : {A : Type 0} → Runs P A → Behaviour P A
  at_once m = record { runs = λ s. m; safe = λ s p. Unit {0} }

  abbrev pub ret : {A : Type 0} → A → Behaviour P A
  ret a = at_once (λ p tr y p' e. Did p [] p (Gives a) tr y p' e)

  infixl 10 ◌>>=◌
  abbrev pub ◌>>=◌ : {A B : Type 0} → Behaviour P A → (A → Behaviour P B) → Behaviour P B
  ◌>>=◌ {A} {B} m k = record {
    runs = λ s p tr y p' e.
        ((a : A) × (mid : Path P) × (front : Trace P) × (back : Trace P) × (x : Bool) × (z : Bool) × (tr ≡ front ++ back) × (y ≡ (x || z)) × m.runs s p front x mid (Gives a) × (k a).runs s mid back z p' e)
        ⊎ ((end : End A) × Carries end e × m.runs s p tr y p' end);
    safe = λ s p. m.safe s p × ((a : A) (mid : Path P) (front : Trace P) (x : Bool) → m.runs s p front x mid (Gives a) → (k a).safe s mid);
  }

  abbrev pub leaves : {A : Type 0} → Leave → Behaviour P A
  leaves x = at_once (λ p tr y p' e. Did p [] p (Leaves x) tr y p' e)

  abbrev pub spent : {A : Type 0} → Behaviour P A
  spent = at_once (λ p tr y p' e. Did p [] p Spent tr y p' e)

  abbrev pub emits : Event P → Behaviour P (Unit {0})
  emits event = at_once (λ p tr y p' e. Did p (event ∷ []) p (Gives tt) tr y p' e)

  abbrev pub with_scope : {A : Type 0} → (Scope P → Behaviour P A) → Behaviour P A
  with_scope f = record { runs = λ s. (f s).runs s; safe = λ s. (f s).safe s }

  -- an object that isn't visible, and a cell that it hasn't, can't be named
  abbrev pub where_found : {A : Type 0} → (P → Behaviour P A) → Option P → Behaviour P A
  where_found f None = leaves (Raises reason.ProgramError)
  where_found f (Some x) = f x

  -- any value that is admitted for the cell
  abbrev pub reads : (ℤ → Type 0) → Entity → ℕ → Behaviour P ℤ
  reads admits object i = with_scope (λ s. where_found (λ x. at_once (λ p tr y p' e.
      ((v : ℤ) × admits v × Did p (Reads x i v ∷ []) p (Gives v) tr y p' e) ⊎ Unbegun p tr y p' e)) (find s object i))

  abbrev pub writes : ℕ → ℕ → ℤ → Behaviour P (Unit {0})
  writes object i v = with_scope (λ s. where_found (λ x. emits (Writes x i v)) (find s (VariableOf object) i))

  abbrev pub apart : {A : Type 0} → Behaviour P A → Behaviour P A
  apart m = record { runs = λ s. m.runs (apart_of s); safe = λ s. m.safe (apart_of s) }

  abbrev pub turn : ℕ → Behaviour P (Unit {0})
  turn limit = at_once (λ p tr y p' e. ((p.turns < limit) × Did p [] (one_turn p) (Gives tt) tr y p' e) ⊎ ((limit ≤ p.turns) × Did p [] p Spent tr y p' e))

  abbrev pub handles : {A : Type 0} → Behaviour P A → (Leave → Bool) → (Leave → Behaviour P A) → Behaviour P A
  handles m takes h = record {
    runs = λ s p tr y p' e.
        ((how : Leave) × (mid : Path P) × (front : Trace P) × (back : Trace P) × (x : Bool) × (z : Bool) × (tr ≡ front ++ back) × (y ≡ (x || z)) × m.runs s p front x mid (Leaves how) × (takes how ≡ true) × (h how).runs s mid back z p' e)
        ⊎ (m.runs s p tr y p' e × Untaken takes e);
    safe = λ s p. m.safe s p × ((how : Leave) (mid : Path P) (front : Trace P) (x : Bool) → m.runs s p front x mid (Leaves how) → takes how ≡ true → (h how).safe s mid);
  }

  abbrev pub recalls : Behaviour P Held
  recalls = at_once (λ p tr y p' e. (h : Held) × Did p (Recalls h ∷ []) p (Gives h) tr y p' e)

  -- any byte, or the end
  abbrev pub takes : Behaviour P (Option ℕ)
  takes = at_once (λ p tr y p' e. (b : Option ℕ) × Did p (Takes p.taken b ∷ []) (one_taken p) (Gives b) tr y p' e)

  -- the first cells of an instance are written one by one
  abbrev pub fillings : P → ℕ → List ℤ → Trace P
  fillings x i [] = []
  fillings x i (v ∷ vs) = Writes x i v ∷ fillings x (suc i) vs

  -- a beginning of a trace
  abbrev pub Begins : Trace P → Trace P → Type 0
  Begins tr whole = (rest : Trace P) × (whole ≡ tr ++ rest)

  abbrev pub within : {A : Type 0} → ℕ → Behaviour P A → Behaviour P A
  within i m = record {
    runs = λ s p tr y p' e. (q : Path P) × (p' ≡ leave p q) × m.runs s (enter i p) tr y q e;
    safe = λ s p. m.safe s (enter i p);
  }

  abbrev pub EachSafe : {A : Type 0} → (Share → Behaviour P A) → Scope P → Path P → List Share → Type 0
  EachSafe body s p [] = Unit {0}
  EachSafe body s p (j ∷ js) = (body j).safe s p × EachSafe body s p js

  -- the traces that a thread may have
  pub record MayTrace {A : Type 0} (m : Behaviour P A) (s : Scope P) (p : Path P) (tr : Trace P) : Type 0 where
    pub early : Bool
    pub path : Path P
    pub end : End A
    pub run : m.runs s p tr early path end

abbrev pub doings : Type 0 → Doings {1}
doings P = record { Doing = Behaviour P; ret = ret; ◌>>=◌ = ◌>>=◌ }

-- instances are named by anything that tells them apart
module _ {P : Type 0} (new : Instance → P) where
  abbrev here : Entity → Path P → P
  here object p = new (record { thread = p.name; number = p.elaborations; object = object })

  -- a new instance, whose cells are written
  abbrev pub elaborates : {A : Type 0} → Region → Entity → List ℤ → Behaviour P A → Behaviour P A
  elaborates region object cells m = record {
    runs = λ s p tr y p' e.
        ((rest : Trace P) × (tr ≡ fillings (here object p) 0 cells ++ rest) × m.runs (declares region object (here object p) (length cells) s) (one_elaboration region (here object p) p) rest y p' e)
        ⊎ ((y ≡ false) × (p' ≡ p) × (e ≡ Stopped) × Begins tr (fillings (here object p) 0 cells));
    safe = λ s p. m.safe (declares region object (here object p) (length cells) s) (one_elaboration region (here object p) p);
  }

-- what is asked of the threads of a construct: whether they are taken in order, the thread around it, the site, the
-- number of the construct there, the objects that are visible, the threads and the traces that each may have
abbrev pub Asks : Type 0 → Type 1
Asks P = (ordered : Bool) → ThreadName → Site → (construct : ℕ) → Scope P → List Share → (Share → Trace P → Type 0) → Type 0

module _ {P : Type 0} (asks : Asks P) (one : Bool) where
  -- each thread has a run of its own; with one worker, and inside a thread, they are taken in order
  abbrev pub par : {A : Type 0} → Site → List Share → (Share → Behaviour P A) → Behaviour P (List A)
  par {A} site js body = record {
    runs = λ s p tr y p' e.
        ((rs : List (Ran P A)) × EachRan (λ j. (body j).runs s) p js rs × Form (one || is_inside p) p rs tr e × (y ≡ (some_early rs || is_left e)) × (p' ≡ joined p (most_turns p.turns rs)))
        ⊎ Unbegun p tr y p' e;
    safe = λ s p. asks (one || is_inside p) p.name site p.constructs s js (λ j tr. MayTrace (body j) s p tr) × EachSafe body s p js;
  }

-- no run of a thread has a race with a run of one of these
abbrev pub ThreadApart : {P : Type 0} → (Share → Trace P → Type 0) → Share → List Share → Type 0
ThreadApart {P} may j [] = Unit {0}
ThreadApart {P} may j (k ∷ ks) = ((t u : Trace P) → may j t → may k u → Apart t u) × ThreadApart may j ks

abbrev pub ThreadsApart : {P : Type 0} → (Share → Trace P → Type 0) → List Share → Type 0
ThreadsApart may [] = Unit {0}
ThreadsApart may (j ∷ js) = ThreadApart may j js × ThreadsApart may js

-- no two threads of a construct have a race
abbrev pub asks_apart : {P : Type 0} → Asks P
asks_apart ordered who site c s js may = ThreadsApart may js

-- the same of those that may run at once; where threads are taken in order nothing is asked
abbrev pub asks_at_once : {P : Type 0} → Asks P
asks_at_once true who site c s js may = Unit {0}
asks_at_once false who site c s js may = ThreadsApart may js

abbrev pub asks_nothing : {P : Type 0} → Asks P
asks_nothing ordered who site c s js may = Unit {0}

-- no thread of a construct takes input or puts output
abbrev pub AllSilent : {P : Type 0} → (Share → Trace P → Type 0) → List Share → Type 0
AllSilent may [] = Unit {0}
AllSilent {P} may (j ∷ js) = ((tr : Trace P) → may j tr → Has IsInputOutput tr → ⊥) × AllSilent may js

abbrev pub asks_silent : {P : Type 0} → Asks P
asks_silent ordered who site c s js may = AllSilent may js
