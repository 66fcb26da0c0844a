-- What the loop keeps from stop to stop.
use Rattle.std.specs.Prelude.{◌≡◌, ℕ, ◌-◌, ◌≤◌, List, None, Result, Ok, Err}
use Rattle.ada_base.specs.Notes.{ConstructNote}
use Rattle.ada_io.specs.declared.input.GetEnd.TheVariants as end
use Rattle.ada_io.specs.declared.input.GetEnd.{GetEnd}
use Rattle.ada_io.specs.declared.input.Got.{Got}
use Rattle.ada_meaning.specs.Deeds.{Deed}
use Rattle.typed_tree.specs.Syntax.{Program}
use Rattle.ada_meaning.specs.Law.{IsPlan}
use Rattle.ada_meaning.specs.Programs.{Setting}
use Rattle.ada_port.specs.declared.ports.Failed.{Failed}
use Rattle.cell_memory.specs.Sight.{Sight, OwnThere, lower_length}
use Rattle.stack_code.specs.declared.code.Code.{Code}
use Rattle.stack_code.specs.declared.path.Io.{Io}
use Rattle.stack_code.specs.declared.path.Io.TheVariants as io
use Rattle.stack_code.specs.declared.path.Gave.TheVariants as gave
use Rattle.stack_code.specs.Tops.{IsTopped}
use Rattle.ada_machine.specs.States.{Ready, state_of}
use Rattle.ada_machine.specs.declared.machine.Machine.{Machine}
use Rattle.run_outside.specs.Outside.{HasGot, HasPut, Keeps, MayBe, Outside}
use Rattle.run_machine_laws.specs.Programs.{IsLoaded}
use Rattle.run_machine.specs.Asked.{HasAnswered, ReadTo}
use Rattle.run_machine.specs.Running.{Causes, Over, Running}
use Rattle.run_machine.specs.declared.ends.How.{How}
use Rattle.run_machine.specs.declared.ends.How.TheVariants as how

-- a machine that is ready on a main view, where the run stands
pub record IsOn (InTells : Type 0) (set : Setting) (c : Code) (frame : ℕ) (before : List ℕ) (m : Machine) (v : Sight) (o : Outside) : Type 0 where
  pub program : Program
  pub slots : ℕ
  pub loaded : IsLoaded program c frame slots
  pub plan : IsPlan set.plan
  pub ready : Ready c m v.cells
  pub within : m.turns ≤ set.limit
  pub main : v.held ≡ None
  pub there : OwnThere v
  pub tops : IsTopped (lower_length v) (state_of m v.cells)
  pub told : List ConstructNote
  pub front : List Deed
  pub runs : Running InTells set c frame before told front (state_of m v.cells) o

-- a view of no thread, whose cells are there
abbrev pub IsMain : Sight → Type 0
IsMain v = (v.held ≡ None) × OwnThere v

-- the run ended so, and left this view
pub record Ends (InTells : Type 0) (set : Setting) (c : Code) (frame : ℕ) (before : List ℕ) (how : How) (o o' : Outside) (v : Sight) : Type 0 where
  pub cause : Causes how o.faults o'.faults
  pub back : Keeps (MayBe InTells) o o'
  pub over : Over InTells set c frame before how o' v.cells
  pub main : IsMain v

-- no device failed, and an input that may be the whole one may have been it before
abbrev pub Kept : (InTells : Type 0) → Outside → Outside → Type 0
Kept InTells o o' = Keeps (MayBe InTells) o o' × (o'.faults ≡ o.faults)

-- it stands at the next stop, or the run ended there
abbrev pub StopsSo : (InTells : Type 0) (set : Setting) (c : Code) (frame : ℕ) (before : List ℕ) → Result (Unit {0}) How → Machine → Sight → Outside → Outside → Type 0
StopsSo InTells set c frame before (Ok u) m v o o' = IsOn InTells set c frame before m v o' × Kept InTells o o'
StopsSo InTells set c frame before (Err how) m v o o' = Ends InTells set c frame before how o o' v

-- a Get came to that, and how it ended is told
abbrev pub GotSo : Result (Unit {0}) How → GetEnd → Type 0
GotSo (Ok u) (end.Number v) = Unit {0}
GotSo (Ok u) (end.Raise r) = Unit {0}
GotSo (Err how.TurnsSpent) end.Spent = Unit {0}
GotSo (Err how.ReadFault) end.ReadFault = Unit {0}
GotSo r e = ⊥

abbrev pub WroteSo : Result (Unit {0}) How → Result (Unit {0}) Failed → Code → Machine → Machine → Type 0
WroteSo (Ok u) (Ok v) c m m' = HasAnswered c gave.Nothing m m'
WroteSo (Err how.WriteFault) (Err f) c m m' = Unit {0}
WroteSo r s c m m' = ⊥

-- what the machine asked for was done; or memory was wanting for it, and nothing was
abbrev pub Reads : (InTells : Type 0) → ℕ → Code → Result (Unit {0}) How → Machine → Machine → Outside → Outside → Type 0
Reads InTells limit c (Err how.NoMemory) m m' o o' = o' ≡ o
Reads InTells limit c r m m' o o' = (got : Got) × HasGot (MayBe InTells) (limit - m.turns) got o o' × ReadTo c got m m' × GotSo r got.end

abbrev pub Answers : (InTells : Type 0) → ℕ → Code → Io → Result (Unit {0}) How → Machine → Machine → Outside → Outside → Type 0
Answers InTells limit c (io.Write piece) r m m' o o' = (s : Result (Unit {0}) Failed) × HasPut (MayBe InTells) piece s o o' × WroteSo r s c m m'
Answers InTells limit c io.Take r m m' o o' = Reads InTells limit c r m m' o o'
