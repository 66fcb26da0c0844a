-- What code shows of a part of a run that it carries out.
use Rattle.std.specs.Prelude.{◌≡◌, ◌⊎◌, ℕ, ◌+◌, ℤ, List, length, take, drop, set, slice_get, nat_lt, Option, Some, None, Result, Ok, Err, true, false}
use Rattle.ada_base.specs.declared.reason.Reason.TheVariants as reason
use Rattle.ada_meaning.specs.declared.slots.Slot.{Slot}
use Rattle.ada_meaning.specs.declared.slots.Variable.{Variable}
use Rattle.ada_port.specs.Counts.{Risen}
use Rattle.run_outside.specs.Outside.{Outside, Faults, Keeps}
use Rattle.behaviours.specs.Paths as operations
use Rattle.behaviours.specs.Paths.{Entity, VariableOf, ConstantOf, Region, Here, Everywhere}
use Rattle.ada_meaning.specs.Stored.{State, Stored, Left, OutOfTurns, MemoryFault, InputFault, OutputFault, Outage, Stops, at, key, slot_at, begun, has_room, declares}
use Rattle.run_store.specs.declared.objects.Mark.{Mark}
use Rattle.run_values.specs.declared.ends.Leave.{Leave}
use Rattle.run_values.specs.declared.ends.Leave.TheVariants as leave
use Rattle.run_values.specs.declared.ends.End.{End}
use Rattle.run_values.specs.declared.ends.End.TheVariants as end
use Rattle.run_store.specs.declared.objects.Object.{Object}
use Rattle.run_store.specs.declared.objects.Object.TheVariants as object
use Rattle.run_store.specs.declared.objects.Region as ends
use Rattle.run_store.specs.declared.objects.Region.TheVariants as region

-- ---- the state of a run, whose input is what came so far, what the source tells to be left, and how often the outside has failed

pub record Image : Type 0 where
  pub state : State
  pub coming : List ℕ
  pub faults : Faults

-- the outside of a run
abbrev pub outside_of : Image → Outside
outside_of s = record { held = s.state.held; came = s.state.input; coming = s.coming; put = s.state.output; faults = s.faults }

-- a state as it faces a whole input, of which it has what didn't come so far
abbrev pub facing : List ℕ → State → State
facing w s = record s { input = drop (length s.input) w }

abbrev pub leave_of : Leave → operations.Leave
leave_of (leave.Exits n) = operations.Exits n
leave_of (leave.Returns v) = operations.Returns v
leave_of (leave.Raises r) = operations.Raises r

abbrev pub entity_of : Object → Entity
entity_of (object.Variable x) = VariableOf x
entity_of (object.Constant x) = ConstantOf x

-- a fault of a device is answered where its count rose, and nowhere else
abbrev pub Causes : {A : Type 0} → Result A End → Faults → Faults → Type 0
Causes (Ok a) f g = g ≡ f
Causes (Err (end.Left x)) f g = g ≡ f
Causes (Err end.Spent) f g = g ≡ f
Causes (Err end.NoMemory) f g = g ≡ f
Causes (Err end.ReadFault) f g = Risen f.input g.input × (g.output ≡ f.output)
Causes (Err end.WriteFault) f g = (g.input ≡ f.input) × Risen f.output g.output

-- the answer of a part that goes from a state to a state, where the value stands for one of the meaning's
abbrev pub Answers : {A B : Type 0} → (B → A) → Stored A → Result B End → State → State → Type 0
Answers f m (Ok b) s t = m.does s ≡ at t (Ok (f b))
Answers f m (Err (end.Left x)) s t = m.does s ≡ at t (Err (Left (leave_of x)))
Answers f m (Err end.Spent) s t = m.does s ≡ at t (Err OutOfTurns)
Answers f m (Err end.NoMemory) s t = Stops m s MemoryFault t
Answers f m (Err end.ReadFault) s t = Stops m s InputFault t
Answers f m (Err end.WriteFault) s t = Stops m s OutputFault t

-- what code shows of a part: an input that may be the whole one after it may have been it before, and on each such input the
-- part comes to this answer
abbrev pub ShowsAs : {A B : Type 0} → (B → A) → (List ℕ → Outside → Type 0) → Stored A → Result B End → Image → Image → Type 0
ShowsAs f Tells m r s t =
    Causes r s.faults t.faults
    × Keeps Tells (outside_of s) (outside_of t)
    × ((w : List ℕ) → Tells w (outside_of t) → Answers f m r (facing w s.state) (facing w t.state))

abbrev pub Shows : {A : Type 0} → (List ℕ → Outside → Type 0) → Stored A → Result A End → Image → Image → Type 0
Shows Tells m r s t = ShowsAs (λ a. a) Tells m r s t

-- a part that can't fail, and has no answer
abbrev pub Does : (List ℕ → Outside → Type 0) → Stored (Unit {0}) → Image → Image → Type 0
Does Tells m s t =
    (t.faults ≡ s.faults)
    × Keeps Tells (outside_of s) (outside_of t)
    × ((w : List ℕ) → Tells w (outside_of t) → m.does (facing w s.state) ≡ at (facing w t.state) (Ok tt))

-- a value, where there is one, is what the part comes to on each input that may be the whole one, and the state is left as
-- it is; the value stands for one of the meaning's
abbrev pub GivesAs : {A B : Type 0} → (B → A) → (List ℕ → Outside → Type 0) → Stored A → Image → Option B → Type 0
GivesAs f Tells m s None = Unit {0}
GivesAs f Tells m s (Some b) = (w : List ℕ) → Tells w (outside_of s) → m.does (facing w s.state) ≡ at (facing w s.state) (Ok (f b))

abbrev pub Gives : {A : Type 0} → (List ℕ → Outside → Type 0) → Stored A → Image → Option A → Type 0
Gives Tells m s r = GivesAs (λ a. a) Tells m s r

-- ---- instances of objects

abbrev pub region_of : ends.Region → Region
region_of region.Here = Here
region_of region.Everywhere = Everywhere

abbrev pub table_of : Region → State → List Slot
table_of Here s = s.here
table_of Everywhere s = s.everywhere

-- an object has got its cells; and what it was
abbrev pub Begins : Region → Object → List ℤ → Result Mark End → Image → Image → Type 0
Begins region x vs (Ok mark) s t = (t.faults ≡ s.faults) × (has_room region (entity_of x) s.state ≡ true) × (mark.slot ≡ slot_at (table_of region s.state) (key (entity_of x))) × (mark.height ≡ length s.state.cells) × (t.state ≡ begun region (entity_of x) vs s.state) × (t.coming ≡ s.coming)
Begins region x vs (Err end.NoMemory) s t = t ≡ s
Begins region x vs (Err _) s t = ⊥

abbrev pub cut_back : Region → Object → Mark → State → State
cut_back Here x mark s = record s { cells = take mark.height s.cells; here = set s.here (key (entity_of x)) mark.slot }
cut_back Everywhere x mark s = record s { everywhere = set s.everywhere (key (entity_of x)) mark.slot }

abbrev pub finished : Region → Object → Mark → Image → Image
finished region x mark s = record s { state = cut_back region x mark s.state }

-- a variable that is visible everywhere is listed
abbrev pub Declares : Object → Slot → Result (Unit {0}) End → List Variable → List Variable → Type 0
Declares x slot (Ok u) old new = new ≡ declares (entity_of x) slot.address slot.cells old
Declares x slot (Err end.NoMemory) old new = new ≡ old
Declares x slot (Err _) old new = ⊥

-- ---- frames

abbrev pub unframed : ℕ → Image → Image
unframed frame s = record s { state = record (s.state) { frame = frame } }

-- a new frame, and the one before
abbrev pub Enters : Result ℕ End → Image → Image → Type 0
Enters (Ok before) s t = (before ≡ s.state.frame) × (t ≡ unframed (s.state.frame + 1) s)
Enters (Err end.NoMemory) s t = t ≡ s
Enters (Err _) s t = ⊥

-- a cell of an object that is there
abbrev pub IsCell : List ℤ → Slot → ℕ → Result ℤ End → Type 0
IsCell cells slot i (Ok v) = (nat_lt i slot.cells ≡ true) × (slice_get cells (slot.address + i) ≡ Some v)
IsCell cells slot i (Err (end.Left x)) = (leave_of x ≡ operations.Raises reason.ProgramError) × ((nat_lt i slot.cells ≡ false) ⊎ ((nat_lt i slot.cells ≡ true) × (slice_get cells (slot.address + i) ≡ None)))
IsCell cells slot i (Err end.NoMemory) = Unit {0}
IsCell cells slot i (Err _) = ⊥

abbrev pub IsSet : List ℤ → Slot → ℕ → ℤ → Result (Unit {0}) End → List ℤ → Type 0
IsSet cells slot i v (Ok u) cells' = (nat_lt i slot.cells ≡ true) × (cells' ≡ set cells (slot.address + i) v)
IsSet cells slot i v (Err (end.Left x)) cells' = (leave_of x ≡ operations.Raises reason.ProgramError) × (nat_lt i slot.cells ≡ false) × (cells' ≡ cells)
IsSet cells slot i v (Err end.NoMemory) cells' = cells' ≡ cells
IsSet cells slot i v (Err _) cells' = ⊥

-- a whole from one state goes on as a rest from another
pub record Goes {A : Type 0} (Tells : List ℕ → Outside → Type 0) (whole : Stored A) (s : Image) (rest : Stored A) (t : Image) : Type 0 where
  pub faults : t.faults ≡ s.faults
  pub keeps : Keeps Tells (outside_of s) (outside_of t)
  pub same : (w : List ℕ) → Tells w (outside_of t) → whole.does (facing w s.state) ≡ rest.does (facing w t.state)
  pub stops : (w : List ℕ) → Tells w (outside_of t) → (f : Outage) (u : State) → Stops rest (facing w t.state) f u → Stops whole (facing w s.state) f u
