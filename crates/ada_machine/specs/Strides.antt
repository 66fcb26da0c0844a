-- What a stretch of instructions comes to.
use Rattle.std.specs.Prelude.{ℕ, ◌<◌, ◌≤◌, List, Option, Some, None}
use Rattle.stack_code.specs.declared.code.Code.{Code}
use Rattle.stack_code.specs.declared.instr.Instr.{Instr}
use Rattle.stack_code.specs.declared.instr.Instr.TheVariants.{Turn, CallAt, Ret, RetV}
use Rattle.stack_code.specs.Machine.{State, Comes}
use Rattle.stack_code.specs.Stands.{rank}
use Rattle.ada_base.specs.Cells.{Cell}
use Rattle.ada_machine.specs.declared.machine.Machine.{Machine}
use Rattle.ada_machine.specs.declared.machine.Stop.{Stop}
use Rattle.ada_machine.specs.Played.{AsksMore}
use Rattle.ada_machine.specs.States.{state_of, ReadyThen, StopsAt}

-- the instructions that it hands on: those that ask for more than operands, cells and turns
abbrev pub IsHandedOn : Instr → Type 0
IsHandedOn Turn = ⊥
IsHandedOn i = AsksMore i

-- those of them that the loop doesn't have in itself
abbrev pub IsRare : Instr → Type 0
IsRare (CallAt sub n) = ⊥
IsRare Ret = ⊥
IsRare RetV = ⊥
IsRare i = IsHandedOn i

-- it came to a raise, or it stopped
abbrev pub StridesTo : (limit : ℕ) → Code → Option Stop → State → State → Type 0
StridesTo limit c None p q = Comes limit c p q
StridesTo limit c (Some s) p q = StopsAt limit c s p q

-- the rank has fallen where it goes on
abbrev pub FallenThen : Option Stop → (rank' rank : ℕ) → Type 0
FallenThen None r' r = r' < r
FallenThen (Some s) r' r = Unit {0}

pub record Strides (limit : ℕ) (c : Code) (r : Option Stop) (m : Machine) (cells : List Cell) (m' : Machine) (cells' : List Cell) : Type 0 where
  pub goes : StridesTo limit c r (state_of m cells) (state_of m' cells')
  pub ready : ReadyThen r c m' cells'
  pub within : m'.turns ≤ limit
  pub falls : FallenThen r (rank c limit (state_of m' cells')) (rank c limit (state_of m cells))
