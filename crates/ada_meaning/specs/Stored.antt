-- The run that is made with a stack of cells: threads in order under a plan, objects found by tables of slots, and what
-- it leaves where memory, input or output fail.
use Rattle.std.specs.Prelude.{◌≡◌, length, ℕ, zero, suc, ◌+◌, ◌*◌, max, ℤ, pos, nat_eq, nat_lt, List, [], ◌∷◌, ◌++◌, take, drop, set, replicate, slice_get, Option, Some, None, Result, Ok, Err, ◌⊎◌, Bool, true, false, ◌||◌, cond}
use Rattle.ada_base.specs.declared.reason.Reason.TheVariants as reason
use Rattle.ada_meaning.specs.declared.slots.Slot.{Slot}
use Rattle.ada_meaning.specs.declared.slots.Variable.{Variable}
use Rattle.typed_tree.specs.declared.expressions.Reducer.{Reducer}
use Rattle.typed_tree.specs.Syntax.{Program}
use Rattle.ada_base.specs.Cuts.{cuts_of}
use Rattle.ada_base.specs.Input.{Held, Nothing}
use Rattle.ada_base.specs.Notes.{ThreadNote, Whole, NotBegun, CutAfter, Schedule, InOrder, ByNotes}
use Rattle.behaviours.specs.Doings.{Doings, through, onto, folded}
use Rattle.behaviours.specs.Paths.{Leave, Raises, Exits, Returns, Entity, VariableOf, ConstantOf, Region, Everywhere, Here}
use Rattle.behaviours.specs.Joins.{Site, Share, deal}
use Rattle.ada_meaning.specs.Operations.{CheckKind, Cut, ByPlan, Sized, chunk_of, Operations, reduce}
use Rattle.ada_meaning.specs.Meaning.{main, object_layout}
use Rattle.ada_meaning.specs.Programs.{Setting}
use Rattle.ada_meaning.specs.Deeds.{Deed, Asked, PutOut}
use Rattle.ada_meaning.specs.Law.{Ending, Ended, Raised, TurnsSpent, ReadFault, WriteFault, NoMemory, Outcome}

abbrev pub no_slot : Slot
no_slot = record { frame = 0; address = 0; cells = 0 }

pub record State : Type 0 where
  -- the cells of the objects in scope, those elaborated last at the end; the cells of what is visible everywhere
  pub cells : List ℤ
  pub kept : List ℤ
  -- the slots of what a frame elaborated, and of what is visible everywhere, by `key`
  pub here : List Slot
  pub everywhere : List Slot
  pub frame : ℕ
  pub turns : ℕ
  -- the bytes of input that came, what a Get left, and the bytes that are still to come
  pub taken : ℕ
  pub held : Held
  pub input : List ℕ
  pub output : List ℕ
  pub declared : List Variable
  -- the looks that may still be passed, if they have a bound; and the notes that are left
  pub left : Option ℕ
  pub notes : Schedule
  -- what was asked of the input and put out so far, in order, where that is kept
  pub done : Option (List Deed)

-- how a part ends without a value, by itself: it is left, its turns are spent, the tables have no room for an object, no
-- more looks may be passed, or a note doesn't fit
pub data Cause : Type 0 where
  Left : Leave → Cause
  OutOfTurns : Cause
  NoRoom : Cause
  CutOff : Cause
  Misnoted : Cause

-- why it can't go on
pub data Outage : Type 0 where
  MemoryFault : Outage
  InputFault : Outage
  OutputFault : Outage

pub record After (A : Type 0) : Type 0 where
  pub state : State
  pub end : Result A Cause

abbrev pub at : {A : Type 0} → State → Result A Cause → After A
at s e = record { state = s; end = e }

-- a cell of what is visible everywhere, or one of the stack
pub data Address : Type 0 where
  Kept : ℕ → Address
  Stacked : ℕ → Address

-- a cell that is read or written
pub record Touch : Type 0 where
  pub place : Address
  pub writes : Bool

-- a thread that is begun, where it begins and what it comes to, and the cells that it names; the threads of a construct, in
-- order, with where that begins and what it comes to
pub record Thread : Type 0 where
  pub share : Share
  pub begun : State
  pub ended : State
  pub touches : List Touch

pub record Team : Type 0 where
  pub site : Site
  pub begun : State
  pub ended : State
  pub threads : List Thread

pub data Visit : Type 0 where
  ThreadOf : Thread → Visit
  TeamOf : Team → Visit

-- threads that aren't in a team yet; and the teams
abbrev pub loose : List Visit → List Thread
loose [] = []
loose (ThreadOf t ∷ vs) = t ∷ loose vs
loose (TeamOf t ∷ vs) = loose vs

abbrev pub teams : List Visit → List Visit
teams [] = []
teams (ThreadOf t ∷ vs) = teams vs
teams (TeamOf t ∷ vs) = TeamOf t ∷ teams vs

-- what a part does, and the states in which it may be left, once it has begun, for want of memory or by a fault of input
-- or output; the cells that it names on the way, in order; what it asks of the input and puts out; and the teams of threads
-- that are begun. The first cells of a new object aren't among those named: they lie behind all that were there.
pub record Stored (A : Type 0) : Type 1 where
  pub does : State → After A
  pub halts : State → Outage → State → Type 0
  pub touches : State → List Touch
  pub deeds : State → List Deed
  pub visits : State → List Visit

-- it isn't begun for want of memory
abbrev pub Unbegun : State → Outage → State → Type 0
Unbegun s f t = (f ≡ MemoryFault) × (t ≡ s)

abbrev pub Stops : {A : Type 0} → Stored A → State → Outage → State → Type 0
Stops m s f t = Unbegun s f t ⊎ m.halts s f t

-- from a state to a state, and a value, at once
abbrev pub steps : {A : Type 0} → (State → After A) → Stored A
steps f = record { does = f; halts = λ s f t. ⊥; touches = λ s. []; deeds = λ s. []; visits = λ s. [] }

unfoldable pub ret : {A : Type 0} → A → Stored A
ret a = steps (λ s. at s (Ok a))

abbrev pub next : {A B : Type 0} → State → Result A Cause → (A → Stored B) → After B
next s (Ok a) k = (k a).does s
next s (Err c) k = at s (Err c)

abbrev pub next_halts : {A B : Type 0} → State → Result A Cause → (A → Stored B) → Outage → State → Type 0
next_halts s (Ok a) k f t = Stops (k a) s f t
next_halts s (Err c) k f t = ⊥

abbrev pub next_touches : {A B : Type 0} → State → Result A Cause → (A → Stored B) → List Touch
next_touches s (Ok a) k = (k a).touches s
next_touches s (Err c) k = []

abbrev pub next_deeds : {A B : Type 0} → State → Result A Cause → (A → Stored B) → List Deed
next_deeds s (Ok a) k = (k a).deeds s
next_deeds s (Err c) k = []

abbrev pub next_visits : {A B : Type 0} → State → Result A Cause → (A → Stored B) → List Visit
next_visits s (Ok a) k = (k a).visits s
next_visits s (Err c) k = []

unfoldable pub bind : {A B : Type 0} → Stored A → (A → Stored B) → Stored B
bind m k = record {
  does = λ s. let r = m.does s in next r.state r.end k;
  halts = λ s f t. Stops m s f t ⊎ (let r = m.does s in next_halts r.state r.end k f t);
  touches = λ s. m.touches s ++ (let r = m.does s in next_touches r.state r.end k);
  deeds = λ s. m.deeds s ++ (let r = m.does s in next_deeds r.state r.end k);
  visits = λ s. m.visits s ++ (let r = m.does s in next_visits r.state r.end k);
}

infixl 10 ◌>>=◌
abbrev pub ◌>>=◌ : {A B : Type 0} → Stored A → (A → Stored B) → Stored B
m >>= k = bind m k

unfoldable pub leaves : {A : Type 0} → Leave → Stored A
leaves x = steps (λ s. at s (Err (Left x)))

unfoldable pub spent : {A : Type 0} → Stored A
spent = steps (λ s. at s (Err OutOfTurns))

unfoldable pub misnoted : {A : Type 0} → Stored A
misnoted = steps (λ s. at s (Err Misnoted))

-- cells

abbrev pub key : Entity → ℕ
key (VariableOf x) = x * 2
key (ConstantOf x) = x * 2 + 1

abbrev pub or_none : Option Slot → Slot
or_none None = no_slot
or_none (Some x) = x

abbrev pub slot_at : List Slot → ℕ → Slot
slot_at slots k = or_none (slice_get slots k)

abbrev pub within : (ℕ → Address) → Slot → ℕ → Option Address
within f slot i = cond (nat_lt i slot.cells) (Some (f (slot.address + i))) None

-- the place of a cell of an object, if it is visible and has a cell at the offset
abbrev pub place_of : State → Entity → ℕ → Option Address
place_of s x i =
    let h = slot_at s.here (key x) in
    let e = slot_at s.everywhere (key x) in
    cond (nat_eq h.frame s.frame) (within Stacked h i) (cond (nat_eq e.frame 1) (within Kept e i) None)

abbrev pub cell_at : State → Address → Option ℤ
cell_at s (Kept a) = slice_get s.kept a
cell_at s (Stacked a) = slice_get s.cells a

abbrev pub put_at : State → Address → ℤ → State
put_at s (Kept a) v = record s { kept = set s.kept a v }
put_at s (Stacked a) v = record s { cells = set s.cells a v }

-- what can't be named raises Program_Error
abbrev pub none_named : {A : Type 0} → State → After A
none_named s = at s (Err (Left (Raises reason.ProgramError)))

abbrev pub value_read : State → Option ℤ → After ℤ
value_read s None = none_named s
value_read s (Some v) = at s (Ok v)

abbrev pub read_at : State → Option Address → After ℤ
read_at s None = none_named s
read_at s (Some a) = value_read s (cell_at s a)

abbrev pub written_at : State → Option Address → ℤ → After (Unit {0})
written_at s None v = none_named s
written_at s (Some a) v = at (put_at s a v) (Ok tt)

abbrev pub touched : Bool → Option Address → List Touch
touched writes None = []
touched writes (Some a) = record { place = a; writes = writes } ∷ []

-- whatever the cell's subtype
unfoldable pub reads : Entity → ℕ → Stored ℤ
reads x i = record { does = λ s. read_at s (place_of s x i); halts = λ s f t. ⊥; touches = λ s. touched false (place_of s x i); deeds = λ s. []; visits = λ s. [] }

unfoldable pub writes : ℕ → ℕ → ℤ → Stored (Unit {0})
writes x i v = record { does = λ s. written_at s (place_of s (VariableOf x) i) v; halts = λ s f t. ⊥; touches = λ s. touched true (place_of s (VariableOf x) i); deeds = λ s. []; visits = λ s. [] }

-- elaborations

abbrev pub declares : Entity → ℕ → ℕ → List Variable → List Variable
declares (VariableOf x) a n gs = gs ++ (record { object = x; address = a; cells = n } ∷ [])
declares (ConstantOf x) a n gs = gs

-- an object gets its cells, and what it is in the tables
abbrev pub begun : Region → Entity → List ℤ → State → State
begun Here x vs s = record s {
  cells = s.cells ++ vs;
  here = set s.here (key x) (record { frame = s.frame; address = length s.cells; cells = length vs });
}
begun Everywhere x vs s = record s {
  kept = s.kept ++ vs;
  everywhere = set s.everywhere (key x) (record { frame = 1; address = length s.kept; cells = length vs });
  declared = declares x (length s.kept) (length vs) s.declared;
}

-- from where it had been elaborated: what it was before in the tables, and the stack as long as before
abbrev pub ended : Region → Entity → State → State → State
ended Here x s u = record u { cells = take (length s.cells) u.cells; here = set u.here (key x) (slot_at s.here (key x)) }
ended Everywhere x s u = record u { everywhere = set u.everywhere (key x) (slot_at s.everywhere (key x)) }

-- the table of a region has a slot for the object
abbrev pub has_room : Region → Entity → State → Bool
has_room Here x s = nat_lt (key x) (length s.here)
has_room Everywhere x s = nat_lt (key x) (length s.everywhere)

unfoldable pub elaborates : {A : Type 0} → Region → Entity → List ℤ → Stored A → Stored A
elaborates region x vs m = record {
  does = λ s. let r = m.does (begun region x vs s) in cond (has_room region x s) (at (ended region x s r.state) r.end) (at s (Err NoRoom));
  halts = λ s f t. (has_room region x s ≡ true) × ((u : State) × Stops m (begun region x vs s) f u × (t ≡ ended region x s u));
  touches = λ s. cond (has_room region x s) (m.touches (begun region x vs s)) [];
  deeds = λ s. cond (has_room region x s) (m.deeds (begun region x vs s)) [];
  visits = λ s. cond (has_room region x s) (m.visits (begun region x vs s)) [];
}

-- a new frame
unfoldable pub apart : {A : Type 0} → Stored A → Stored A
apart m = record {
  does = λ s. let r = m.does (record s { frame = s.frame + 1 }) in at (record r.state { frame = s.frame }) r.end;
  halts = λ s f t. (u : State) × Stops m (record s { frame = s.frame + 1 }) f u × (t ≡ record u { frame = s.frame });
  touches = λ s. m.touches (record s { frame = s.frame + 1 });
  deeds = λ s. m.deeds (record s { frame = s.frame + 1 });
  visits = λ s. m.visits (record s { frame = s.frame + 1 });
}

-- turns, looks, checks, ends

unfoldable pub turn : ℕ → Stored (Unit {0})
turn limit = steps (λ s. cond (nat_lt s.turns limit) (at (record s { turns = s.turns + 1 }) (Ok tt)) (at s (Err OutOfTurns)))

abbrev pub looked : State → Option ℕ → After (Unit {0})
looked s None = at s (Ok tt)
looked s (Some zero) = at s (Err CutOff)
looked s (Some (suc n)) = at (record s { left = Some n }) (Ok tt)

-- one look fewer may be passed; where none may, the path is cut
unfoldable pub look : Stored (Unit {0})
look = steps (λ s. looked s s.left)

abbrev pub checks : CheckKind → ℕ → Bool → Stored (Unit {0})
checks kind token true = ret tt
checks kind token false = leaves (Raises reason.ConstraintError)

abbrev pub handled : {A : Type 0} → State → Result A Cause → (Leave → Bool) → (Leave → Stored A) → After A
handled s (Ok a) takes h = at s (Ok a)
handled s (Err (Left x)) takes h = cond (takes x) ((h x).does s) (at s (Err (Left x)))
handled s (Err OutOfTurns) takes h = at s (Err OutOfTurns)
handled s (Err NoRoom) takes h = at s (Err NoRoom)
handled s (Err CutOff) takes h = at s (Err CutOff)
handled s (Err Misnoted) takes h = at s (Err Misnoted)

abbrev pub handled_halts : {A : Type 0} → State → Result A Cause → (Leave → Bool) → (Leave → Stored A) → Outage → State → Type 0
handled_halts s (Ok a) takes h f t = ⊥
handled_halts s (Err (Left x)) takes h f t = cond (takes x) (Stops (h x) s f t) ⊥
handled_halts s (Err OutOfTurns) takes h f t = ⊥
handled_halts s (Err NoRoom) takes h f t = ⊥
handled_halts s (Err CutOff) takes h f t = ⊥
handled_halts s (Err Misnoted) takes h f t = ⊥

abbrev pub handled_touches : {A : Type 0} → State → Result A Cause → (Leave → Bool) → (Leave → Stored A) → List Touch
handled_touches s (Err (Left x)) takes h = cond (takes x) ((h x).touches s) []
handled_touches s _ takes h = []

abbrev pub handled_deeds : {A : Type 0} → State → Result A Cause → (Leave → Bool) → (Leave → Stored A) → List Deed
handled_deeds s (Err (Left x)) takes h = cond (takes x) ((h x).deeds s) []
handled_deeds s _ takes h = []

abbrev pub handled_visits : {A : Type 0} → State → Result A Cause → (Leave → Bool) → (Leave → Stored A) → List Visit
handled_visits s (Err (Left x)) takes h = cond (takes x) ((h x).visits s) []
handled_visits s _ takes h = []

unfoldable pub handles : {A : Type 0} → Stored A → (Leave → Bool) → (Leave → Stored A) → Stored A
handles m takes h = record {
  does = λ s. let r = m.does s in handled r.state r.end takes h;
  halts = λ s f t. Stops m s f t ⊎ (let r = m.does s in handled_halts r.state r.end takes h f t);
  touches = λ s. m.touches s ++ (let r = m.does s in handled_touches r.state r.end takes h);
  deeds = λ s. m.deeds s ++ (let r = m.does s in handled_deeds r.state r.end takes h);
  visits = λ s. m.visits s ++ (let r = m.does s in handled_visits r.state r.end takes h);
}

-- output and input

-- a list of deeds, where it is kept, with one more
abbrev pub also_done : Deed → Option (List Deed) → Option (List Deed)
also_done d None = None
also_done d (Some ds) = Some (ds ++ (d ∷ []))

-- of a piece that isn't put out whole a part may have passed
unfoldable pub puts : List ℕ → Stored (Unit {0})
puts piece = record {
  does = λ s. at (record s { output = s.output ++ piece; done = also_done (PutOut piece) s.done }) (Ok tt);
  halts = λ s f t. (f ≡ OutputFault) × ((passed : List ℕ) × (rest : List ℕ) × (piece ≡ passed ++ rest) × (t ≡ record s { output = s.output ++ passed }));
  touches = λ s. [];
  deeds = λ s. PutOut piece ∷ [];
  visits = λ s. [];
}

unfoldable pub recalls : Stored Held
recalls = steps (λ s. at s (Ok s.held))

unfoldable pub keeps : Held → Stored (Unit {0})
keeps h = steps (λ s. at (record s { held = h }) (Ok tt))

abbrev pub taken_from : State → List ℕ → After (Option ℕ)
taken_from s [] = at (record s { done = also_done Asked s.done }) (Ok None)
taken_from s (b ∷ rest) = at (record s { taken = s.taken + 1; input = rest; done = also_done Asked s.done }) (Ok (Some b))

unfoldable pub takes : Stored (Option ℕ)
takes = record { does = λ s. taken_from s s.input; halts = λ s f t. (f ≡ InputFault) × (t ≡ s); touches = λ s. []; deeds = λ s. Asked ∷ []; visits = λ s. [] }

-- threads, each of which counts its turns from where the construct began

abbrev pub doings : Doings {1}
doings = record { Doing = Stored; ret = ret; ◌>>=◌ = ◌>>=◌ }

unfoldable pub rewinds : ℕ → Stored (Unit {0})
rewinds n = steps (λ s. at (record s { turns = n }) (Ok tt))

abbrev pub with_turns : {A : Type 0} → (ℕ → Stored A) → Stored A
with_turns f = record { does = λ s. (f s.turns).does s; halts = λ s. (f s.turns).halts s; touches = λ s. (f s.turns).touches s; deeds = λ s. (f s.turns).deeds s; visits = λ s. (f s.turns).visits s }

-- what a thread gives, unless its turns are spent; and the greatest count of turns so far
pub record Took (A : Type 0) : Type 0 where
  pub value : Option A
  pub most : ℕ

abbrev pub took : {A : Type 0} → ℕ → State → Result A Cause → After (Took A)
took most s (Ok a) = at s (Ok (record { value = Some a; most = max most s.turns }))
took most s (Err (Left x)) = at (record s { turns = max most s.turns }) (Err (Left x))
took most s (Err OutOfTurns) = at s (Ok (record { value = None; most = max most s.turns }))
took most s (Err NoRoom) = at (record s { turns = max most s.turns }) (Err NoRoom)
took most s (Err CutOff) = at (record s { turns = max most s.turns }) (Err CutOff)
took most s (Err Misnoted) = at (record s { turns = max most s.turns }) (Err Misnoted)

unfoldable pub thread : {A : Type 0} → ℕ → Stored A → Stored (Took A)
thread most m = record { does = λ s. let r = m.does s in took most r.state r.end; halts = m.halts; touches = m.touches; deeds = m.deeds; visits = m.visits }

abbrev pub is_spent : {A : Type 0} → Option A → Bool
is_spent None = true
is_spent (Some a) = false

-- what is gathered of the threads so far, and one more
abbrev pub gathered : {A B : Type 0} → (B → A → B) → B → Option A → B
gathered f b None = b
gathered f b (Some a) = f b a

-- threads from the first on; one that is left is the last
abbrev pub threads : {A B : Type 0} → (B → A → B) → (Share → Stored A) → ℕ → List Share → ℕ → Bool → B → Stored B
threads f body from [] most over b = rewinds most >>= λ _. cond over spent (ret b)
threads f body from (j ∷ js) most over b = do
  _ ← rewinds from
  k ← thread most (body j)
  threads f body from js k.most (over || is_spent k.value) (gathered f b k.value)

unfoldable pub par : {A B : Type 0} → (B → A → B) → B → List Share → (Share → Stored A) → Stored B
par f b js body = with_turns (λ n. threads f body n js n false b)

-- Threads of an outermost construct by a note. Inside a thread constructs are taken in order. No state within is one in
-- which such a construct is left: where memory fails in it, its run has the beginning of this one.

abbrev pub unhalted : {A : Type 0} → Stored A → Stored A
unhalted m = record { does = m.does; halts = λ s f t. ⊥; touches = m.touches; deeds = m.deeds; visits = m.visits }

-- from a count of turns on, with so many looks; the greatest count of turns is kept
unfoldable pub noted_thread : {A B : Type 0} → ℕ → Option ℕ → (Result A Cause → Result B Cause) → Stored A → Stored B
noted_thread from left fits m = record {
  does = λ s. let r = m.does (record s { turns = from; left = left; notes = InOrder }) in at (record r.state { turns = max s.turns r.state.turns; left = s.left; notes = s.notes }) (fits r.end);
  halts = λ s f t. ⊥;
  touches = λ s. m.touches (record s { turns = from; left = left; notes = InOrder });
  deeds = λ s. m.deeds (record s { turns = from; left = left; notes = InOrder });
  visits = λ s. m.visits (record s { turns = from; left = left; notes = InOrder });
}

-- how ends fit notes, and what left a thread: the chosen one is left
abbrev pub fits_chosen : {A : Type 0} → Result A Cause → Result (Option Leave) Cause
fits_chosen (Ok a) = Err Misnoted
fits_chosen (Err (Left x)) = Ok (Some x)
fits_chosen (Err OutOfTurns) = Err Misnoted
fits_chosen (Err NoRoom) = Err NoRoom
fits_chosen (Err CutOff) = Err CutOff
fits_chosen (Err Misnoted) = Err Misnoted

-- another one comes to any end of its own
abbrev pub fits_whole : {A : Type 0} → Result A Cause → Result (Option Leave) Cause
fits_whole (Ok a) = Ok None
fits_whole (Err (Left x)) = Ok None
fits_whole (Err OutOfTurns) = Ok None
fits_whole (Err NoRoom) = Err NoRoom
fits_whole (Err CutOff) = Err CutOff
fits_whole (Err Misnoted) = Err Misnoted

-- or it is cut
abbrev pub fits_cut : {A : Type 0} → Result A Cause → Result (Option Leave) Cause
fits_cut (Ok a) = Err Misnoted
fits_cut (Err (Left x)) = Err Misnoted
fits_cut (Err OutOfTurns) = Err Misnoted
fits_cut (Err NoRoom) = Err NoRoom
fits_cut (Err CutOff) = Ok None
fits_cut (Err Misnoted) = Err Misnoted

-- without a chosen one none is left
abbrev pub fits_none : {A : Type 0} → Result A Cause → Result A Cause
fits_none (Ok a) = Ok a
fits_none (Err (Left x)) = Err Misnoted
fits_none (Err OutOfTurns) = Err OutOfTurns
fits_none (Err NoRoom) = Err NoRoom
fits_none (Err CutOff) = Err CutOff
fits_none (Err Misnoted) = Err Misnoted

abbrev pub by_thread_note : {A : Type 0} → (chosen : Bool) → ThreadNote → ℕ → Stored A → Stored (Option Leave)
by_thread_note true Whole from m = noted_thread from None fits_chosen m
by_thread_note true NotBegun from m = misnoted
by_thread_note true (CutAfter looks) from m = misnoted
by_thread_note false Whole from m = noted_thread from None fits_whole m
by_thread_note false NotBegun from m = ret None
by_thread_note false (CutAfter looks) from m = noted_thread from (Some looks) fits_cut m

abbrev pub or_else : Option Leave → Option Leave → Option Leave
or_else None y = y
or_else (Some x) y = Some x

abbrev pub left_by : {B : Type 0} → Option Leave → Stored B
left_by None = misnoted
left_by (Some x) = leaves x

-- threads from one on, each by its note, and what left the chosen one, if that is among those before
abbrev pub chosen_threads : {A B : Type 0} → (Share → Stored A) → (from chosen : ℕ) → List Share → List ThreadNote → Option Leave → Stored B
chosen_threads body from chosen [] [] how = left_by how
chosen_threads body from chosen [] (n ∷ ns) how = misnoted
chosen_threads body from chosen (j ∷ js) [] how = misnoted
chosen_threads body from chosen (j ∷ js) (n ∷ ns) how = do
  x ← by_thread_note (nat_eq j.number chosen) n from (body j)
  chosen_threads body from chosen js ns (or_else x how)

unfoldable pub renotes : Schedule → Stored (Unit {0})
renotes notes = steps (λ s. at (record s { notes = notes }) (Ok tt))

abbrev pub with_notes : {A : Type 0} → (Schedule → Stored A) → Stored A
with_notes f = record { does = λ s. (f s.notes).does s; halts = λ s. (f s.notes).halts s; touches = λ s. (f s.notes).touches s; deeds = λ s. (f s.notes).deeds s; visits = λ s. (f s.notes).visits s }

-- all threads in order, none of which is left
unfoldable pub none_chosen : {B : Type 0} → Stored B → Stored B
none_chosen m = record {
  does = λ s. let r = m.does (record s { notes = InOrder }) in at (record r.state { notes = s.notes }) (fits_none r.end);
  halts = λ s f t. ⊥;
  touches = λ s. m.touches (record s { notes = InOrder });
  deeds = λ s. m.deeds (record s { notes = InOrder });
  visits = λ s. m.visits (record s { notes = InOrder });
}

abbrev pub by_note : {A B : Type 0} → (B → A → B) → B → List Share → (Share → Stored A) → Option ℕ → List ThreadNote → Stored B
by_note f b js body None notes = none_chosen (par f b js body)
by_note f b js body (Some chosen) notes = with_turns (λ n. chosen_threads body n chosen js notes None)

abbrev pub by_notes : {A B : Type 0} → (B → A → B) → B → List Share → (Share → Stored A) → Schedule → Stored B
by_notes f b js body InOrder = par f b js body
by_notes f b js body (ByNotes []) = misnoted
by_notes f b js body (ByNotes (c ∷ cs)) = unhalted (renotes (ByNotes cs) >>= λ _. by_note f b js body c.chosen c.threads)

unfoldable pub noted_par : {A B : Type 0} → (B → A → B) → B → List Share → (Share → Stored A) → Stored B
noted_par f b js body = with_notes (by_notes f b js body)

-- the same, and what its threads are
abbrev pub visited : {A : Type 0} → Share → Stored A → Stored A
visited j m = record m { visits = λ u. ThreadOf (record { share = j; begun = u; ended = (m.does u).state; touches = m.touches u }) ∷ m.visits u }

abbrev pub as_team : {A : Type 0} → Site → Stored A → Stored A
as_team site m = record m { visits = λ s. TeamOf (record { site = site; begun = s; ended = (m.does s).state; threads = loose (m.visits s) }) ∷ teams (m.visits s) }

unfoldable pub noted_team : {A B : Type 0} → Site → (B → A → B) → B → List Share → (Share → Stored A) → Stored B
noted_team site f b js body = as_team site (noted_par f b js (λ j. visited j (body j)))

abbrev pub loop_thread : (ℕ → ℕ → Stored (Unit {0})) → Share → Stored (Unit {0})
loop_thread body c = through doings c.first c.size tt (λ i _. body c.number i)

abbrev pub fold_thread : Reducer → ℕ → ℤ → (ℕ → ℕ → Stored (Option ℤ)) → (ℤ → ℤ → Stored ℤ) → Share → Stored ℤ
fold_thread by token initial value call c = through doings c.first c.size initial (λ i so_far. value c.number i >>= folded doings (reduce doings checks by token call) so_far)

abbrev pub first_of_both : Unit {0} → Unit {0} → Unit {0}
first_of_both a b = tt

abbrev pub after_all : List ℤ → ℤ → List ℤ
after_all vs v = vs ++ (v ∷ [])

module _ (limit : ℕ) (cuts : ℕ → ℕ → List ℕ) where
  abbrev pub sizes_of : Cut → List ℕ
  sizes_of (ByPlan most n) = cuts most n
  sizes_of (Sized sizes) = sizes

  abbrev pub loops : Site → Cut → (ℕ → ℕ → Stored (Unit {0})) → Stored (Unit {0})
  loops site cut body = par first_of_both tt (deal 0 0 (sizes_of cut)) (loop_thread (λ j. body (chunk_of cut j))) >>= λ _. ret tt

  abbrev pub combined : ℤ → List ℤ → (ℤ → ℤ → Stored ℤ) → Stored ℤ
  combined initial [] f = ret initial
  combined initial (a ∷ more) f = onto doings a more f

  abbrev pub reduces : Site → Cut → Reducer → ℕ → ℤ → (ℕ → ℕ → Stored (Option ℤ)) → (ℤ → ℤ → Stored ℤ) → (ℤ → ℤ → Stored ℤ) → Stored ℤ
  reduces site cut by token initial value call combine =
      par after_all [] (deal 0 0 (sizes_of cut)) (fold_thread by token initial (λ j. value (chunk_of cut j)) call)
      >>= λ accumulators. combined initial accumulators (reduce doings checks by token combine)

  -- in order, and no look has a bound
  abbrev pub operations : Operations {1}
  operations = record {
    doings = doings;
    reads = λ x i cell. reads x i;
    writes = writes;
    elaborates = elaborates;
    apart = apart;
    turn = turn limit;
    look = ret tt;
    checks = checks;
    leaves = leaves;
    spent = spent;
    handles = handles;
    puts = puts;
    recalls = recalls;
    keeps = keeps;
    takes = takes;
    loops = loops;
    reduces = reduces;
  }

  abbrev pub noted_loops : Site → Cut → (ℕ → ℕ → Stored (Unit {0})) → Stored (Unit {0})
  noted_loops site cut body = noted_team site first_of_both tt (deal 0 0 (sizes_of cut)) (loop_thread (λ j. body (chunk_of cut j))) >>= λ _. ret tt

  abbrev pub noted_reduces : Site → Cut → Reducer → ℕ → ℤ → (ℕ → ℕ → Stored (Option ℤ)) → (ℤ → ℤ → Stored ℤ) → (ℤ → ℤ → Stored ℤ) → Stored ℤ
  noted_reduces site cut by token initial value call combine =
      noted_team site after_all [] (deal 0 0 (sizes_of cut)) (fold_thread by token initial (λ j. value (chunk_of cut j)) call)
      >>= λ accumulators. combined initial accumulators (reduce doings checks by token combine)

  -- by notes, and with a bound of looks
  abbrev pub noted_operations : Operations {1}
  noted_operations = record {
    doings = doings;
    reads = λ x i cell. reads x i;
    writes = writes;
    elaborates = elaborates;
    apart = apart;
    turn = turn limit;
    look = look;
    checks = checks;
    leaves = leaves;
    spent = spent;
    handles = handles;
    puts = puts;
    recalls = recalls;
    keeps = keeps;
    takes = takes;
    loops = noted_loops;
    reduces = noted_reduces;
  }

-- what code computes

-- how a part ends, by itself or not
pub data Stop : Type 0 where
  Goes : Cause → Stop
  Fails : Outage → Stop

-- from one state a part comes to another with this answer
abbrev pub Computes : {A : Type 0} → Stored A → State → Result A Stop → State → Type 0
Computes m s (Ok a) t = m.does s ≡ at t (Ok a)
Computes m s (Err (Goes c)) t = m.does s ≡ at t (Err c)
Computes m s (Err (Fails f)) t = Stops m s f t

-- a whole from one state goes on as a rest from another: what a loop keeps
pub record Continues {A : Type 0} (whole : Stored A) (begun : State) (rest : Stored A) (now : State) : Type 0 where
  pub same : whole.does begun ≡ rest.does now
  pub stops : (f : Outage) (t : State) → Stops rest now f t → Stops whole begun f t

-- whole programs

-- where a program begins: with room for so many slots, these bytes to be read, and this output before it
abbrev pub outset : ℕ → List ℕ → List ℕ → State
outset slots input before = record {
  cells = [];
  kept = [];
  here = replicate slots no_slot;
  everywhere = replicate slots no_slot;
  frame = 1;
  turns = 0;
  taken = 0;
  held = Nothing;
  input = input;
  output = before;
  declared = [];
  left = None;
  notes = InOrder;
  done = None;
}

abbrev pub stored : Program → Setting → Stored (Unit {0})
stored program set = main (operations set.limit (cuts_of set.plan)) set.limit program

-- where a program begins that is run by notes; what it does outside is kept
abbrev pub noted_outset : ℕ → List ℕ → List ℕ → Schedule → State
noted_outset slots input before notes = record (outset slots input before) { notes = notes; done = Some [] }

abbrev pub noted : Program → Setting → Stored (Unit {0})
noted program set = main (noted_operations set.limit (cuts_of set.plan)) set.limit program

-- so many of the values, and zeros where there are no more
abbrev pub filled : ℕ → List ℤ → List ℤ
filled zero vs = []
filled (suc n) [] = pos 0 ∷ filled n []
filled (suc n) (v ∷ vs) = v ∷ filled n vs

abbrev pub final_of : Program → List ℤ → Variable → List ℤ
final_of program kept g = filled (length (object_layout program g.object)) (take g.cells (drop g.address kept))

abbrev pub finals_of : Program → List ℤ → List Variable → List (List ℤ)
finals_of program kept [] = []
finals_of program kept (g ∷ gs) = final_of program kept g ∷ finals_of program kept gs

-- a main procedure isn't left by an exit or a return
abbrev pub ending_of : Result (Unit {0}) Stop → Ending
ending_of (Ok u) = Ended
ending_of (Err (Goes (Left (Raises r)))) = Raised r
ending_of (Err (Goes (Left (Exits n)))) = Ended
ending_of (Err (Goes (Left (Returns v)))) = Ended
ending_of (Err (Goes OutOfTurns)) = TurnsSpent
ending_of (Err (Goes NoRoom)) = NoMemory
ending_of (Err (Goes CutOff)) = NoMemory
ending_of (Err (Goes Misnoted)) = NoMemory
ending_of (Err (Fails MemoryFault)) = NoMemory
ending_of (Err (Fails InputFault)) = ReadFault
ending_of (Err (Fails OutputFault)) = WriteFault

-- what was put out behind that which was there before
abbrev pub put_out : List ℕ → State → List ℕ
put_out before t = drop (length before) t.output

abbrev pub outcome_of : Program → List ℕ → Result (Unit {0}) Stop → State → Outcome
outcome_of program before answer t = record { output = put_out before t; taken = t.taken; finals = finals_of program t.kept t.declared; ending = ending_of answer }

-- where nothing fails

abbrev pub answered : {A : Type 0} → Result A Cause → Result A Stop
answered (Ok a) = Ok a
answered (Err c) = Err (Goes c)

abbrev pub comes_to : Program → Setting → ℕ → List ℕ → Outcome
comes_to program set slots input = let r = (stored program set).does (outset slots input []) in outcome_of program [] (answered r.end) r.state
