-- What the machine goes on with.
use Rattle.std.specs.Prelude.{◌≡◌, ℕ, ◌+◌, true, false, List, [], ◌∷◌, Some, Result, Ok, Err, slice_get}
use Rattle.ada_base.specs.Cells.{Cell}
use Rattle.ada_base.specs.Cuts.{Plan}
use Rattle.ada_io.specs.declared.input.GetEnd.TheVariants.{Number, Raise, ReadFault, Spent}
use Rattle.ada_io.specs.declared.input.GetEnd.{GetEnd}
use Rattle.ada_io.specs.declared.input.Got.{Got}
use Rattle.cell_strip.specs.declared.region.Region.{Region}
use Rattle.stack_code.specs.declared.code.Code.{Code}
use Rattle.stack_code.specs.declared.code.CodeSite.{CodeSite}
use Rattle.stack_code.specs.declared.path.Asked.{Asked}
use Rattle.stack_code.specs.declared.path.Gave.{Gave}
use Rattle.stack_code.specs.declared.path.Gave.TheVariants as gave
use Rattle.stack_code.specs.declared.path.Leave.TheVariants as leave
use Rattle.stack_code.specs.Machine.{State, resumed, sees}
use Rattle.ada_lower.specs.Lending.{Owns}
use Rattle.ada_machine.specs.States.{Ready, state_of}
use Rattle.ada_machine.specs.declared.machine.Machine.{Machine}
use Rattle.ada_workers.specs.Orders.{AllFine, all_out}
use Rattle.machine_paths.specs.Constructing.{shares_of, starts_at}
use Rattle.machine_paths.specs.Threads.{runs}
use Rattle.ada_threads.specs.Lent.{owner_from}
use Rattle.ada_threads.specs.Sites.{SiteRan}
use Rattle.ada_threads.specs.declared.site.Told.{Told}
use Rattle.run_machine.specs.declared.ends.How.{How}
use Rattle.run_machine.specs.declared.ends.How.TheVariants as how

-- it went on with that answer
pub record HasAnswered (c : Code) (g : Gave) (m m' : Machine) : Type 0 where
  pub state : (cells : List Cell) → state_of m' cells ≡ resumed c g (state_of m cells)
  pub ready : (cells : List Cell) → Ready c m' cells

abbrev pub with_turns : ℕ → Machine → Machine
with_turns n m = record m { turns = n }

abbrev pub ReadBy : Code → GetEnd → Machine → Machine → Type 0
ReadBy c (Number v) m m' = HasAnswered c (gave.Numbers (v ∷ [])) m m'
ReadBy c (Raise r) m m' = HasAnswered c (gave.Left (leave.Raise r)) m m'
ReadBy c ReadFault m m' = Unit {0}
ReadBy c Spent m m' = Unit {0}

-- by how a Get ended, each of whose askings took a turn
abbrev pub ReadTo : Code → Got → Machine → Machine → Type 0
ReadTo c got m m' = ReadBy c got.end (with_turns (m.turns + got.took) m) m'

-- the threads of a fork go well on the views that workers give them, whose regions are what their leases lend
abbrev pub IsFineFork : ℕ → Code → Plan → Asked → State → Type 0
IsFineFork limit c plan q s = (site : CodeSite) → slice_get c.sites q.site ≡ Some site → (areas : List (List Region)) → Owns site q (sees s) (shares_of plan site q) (owner_from 0 areas)
    → AllFine runs (all_out s.cells areas) s.cells (starts_at limit c plan site q s) areas

-- the threads of a construct came to that: the machine goes on, or its turns are over
abbrev pub BuiltSo : ℕ → Code → Plan → Asked → (workers : ℕ) → Result (Unit {0}) How → Machine → List Cell → Machine → List Cell → Type 0
BuiltSo limit c plan q workers (Ok u) m cells m' cells' = (t : Told) × (t.spent ≡ false) × SiteRan limit c plan q workers t m cells m' cells'
BuiltSo limit c plan q workers (Err how.TurnsSpent) m cells m' cells' = (t : Told) × (t.spent ≡ true) × SiteRan limit c plan q workers t m cells m' cells'
BuiltSo limit c plan q workers (Err how.NoMemory) m cells m' cells' = Unit {0}
BuiltSo limit c plan q workers (Err x) m cells m' cells' = ⊥
