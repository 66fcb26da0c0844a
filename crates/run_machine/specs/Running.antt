-- A run of the machine on a program's code, with its input and its output.
use Rattle.std.specs.Prelude.{◌≡◌, ℕ, nat_eq, length, drop, List, ◌++◌, true, Option, Some}
use Rattle.ada_base.specs.Cells.{Cell}
use Rattle.ada_base.specs.Cuts.{Plan, cuts_of}
use Rattle.ada_base.specs.Notes.{ConstructNote, InOrder, ByNotes}
use Rattle.typed_tree.specs.Syntax.{Program}
use Rattle.ada_meaning.specs.Deeds.{Deed}
use Rattle.ada_meaning.specs.Law as law
use Rattle.ada_meaning.specs.Law.{Ending}
use Rattle.ada_meaning.specs.Programs.{Setting}
use Rattle.ada_port.specs.Counts.{Risen}
use Rattle.stack_code.specs.declared.code.Code.{Code}
use Rattle.stack_code.specs.declared.instr.Instr.{Instr}
use Rattle.stack_code.specs.declared.instr.Instr.TheVariants.{Send, SendLn, Get}
use Rattle.stack_code.specs.Machine.{State}
use Rattle.ada_lower.specs.Driven.{World, On, Safe}
use Rattle.machine_paths.specs.Constructing.{with_schedule}
use Rattle.run_outside.specs.Outside.{Faults, Keeps, MayBe, Outside}
use Rattle.run_machine_laws.specs.Looping.{At}
use Rattle.run_machine_laws.specs.Programs.{IsLoaded}
use Rattle.run_machine_laws.specs.Telling.{EndsBy, Tells}
use Rattle.run_machine.specs.declared.ends.How.{How}
use Rattle.run_machine.specs.declared.ends.How.TheVariants as how

-- with one worker constructs are run in order
abbrev pub setting_of : Plan → (limit workers : ℕ) → Setting
setting_of plan limit workers = record { plan = plan; one = nat_eq workers 1; limit = limit }

abbrev pub ending_of : How → Ending
ending_of how.Ended = law.Ended
ending_of (how.Raised r) = law.Raised r
ending_of how.TurnsSpent = law.TurnsSpent
ending_of how.ReadFault = law.ReadFault
ending_of how.WriteFault = law.WriteFault
ending_of how.NoMemory = law.NoMemory

-- a fault of a device is answered where its count rose, and nowhere else
abbrev pub Causes : How → Faults → Faults → Type 0
Causes how.ReadFault f g = Risen f.input g.input × (g.output ≡ f.output)
Causes how.WriteFault f g = (g.input ≡ f.input) × Risen f.output g.output
Causes _ f g = g ≡ f

-- instructions that ask for output, and for input
abbrev pub IsSending : Option Instr → Type 0
IsSending (Some Send) = Unit {0}
IsSending (Some SendLn) = Unit {0}
IsSending o = ⊥

abbrev pub IsGetting : Option Instr → Type 0
IsGetting (Some Get) = Unit {0}
IsGetting o = ⊥

module _ (InTells : Type 0) (set : Setting) (c : Code) (frame : ℕ) (before : List ℕ) where
  -- what the machine's path has of the outside, where these bytes are the whole input and these deeds were done
  abbrev pub world_of : Outside → (whole : List ℕ) → List Deed → World
  world_of o w front = record { taken = length o.came; held = o.held; input = drop (length o.came) w; output = o.put; notes = InOrder; plan = cuts_of set.plan; done = Some front }

  -- the run stands there on each input that may be the whole one, by the notes that were told; and whatever notes follow, its
  -- threads go well on their views
  pub record Running (told : List ConstructNote) (front : List Deed) (s : State) (o : Outside) : Type 0 where
    pub at : (w : List ℕ) → MayBe InTells w o → At set c frame w before told front s (world_of o w front)
    pub safe : (w : List ℕ) → MayBe InTells w o → (ns : List ConstructNote) → Safe set.limit c true (On (with_schedule (ByNotes ns) (record { state = s; world = world_of o w front })))

  -- it ended so, by the notes that were told, and left these cells
  pub record Over (how : How) (o : Outside) (cells : List Cell) : Type 0 where
    pub told : List ConstructNote
    pub output : List ℕ
    pub put : o.put ≡ before ++ output
    pub ends : (w : List ℕ) → MayBe InTells w o → EndsBy set c frame w before told (ending_of how) output (length o.came) cells

  -- a whole run: it ended as is told, of each program whose code that is
  pub record Runs (how : How) (o o' : Outside) (cells : List Cell) : Type 0 where
    pub cause : Causes how o.faults o'.faults
    pub back : Keeps (MayBe InTells) o o'
    pub over : Over how o' cells
    pub tells : (program : Program) (slots : ℕ) → IsLoaded program c frame slots → (w : List ℕ) → MayBe InTells w o' → Tells program set w (ending_of how) over.output (length o'.came) cells
