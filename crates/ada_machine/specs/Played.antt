-- What an instruction comes to that asks for no more than operands and cells.
use Rattle.std.specs.Prelude.{◌≡◌, ℕ, ℤ, pos, negsuc, ◌^◌, ◌-◌, ◌≤◌, ◌<◌, List, reverse, Option, Some, None, IsSomeAnd, cond, true}
use Rattle.ada_base.specs.declared.reason.Reason.{Reason}
use Rattle.ada_base.specs.declared.reason.Reason.TheVariants.{Declared}
use Rattle.stack_code.specs.declared.instr.Instr.{Instr}
use Rattle.stack_code.specs.declared.instr.Instr.TheVariants.{Turn, Call, CallAt, CallTo, Part, Repeat, Again, Ret, RetV, Exit, Leave, LeaveV, Fork, Nest, Unnest, Words, Img, Bool, Wide, Send, SendLn, Get, End, EndV, Halt, Combine, UImg, Reraise}
use Rattle.ada_base.specs.Cells.{Cell, seen, written}
use Rattle.stack_code.specs.Deeds.{Deed, GoesOn, Fails, Loads, Stores, Points, on_one, reason_of}
use Rattle.stack_code.specs.Machine.{points}
use Rattle.ada_machine.specs.declared.memory.Placed.{Placed}
use Rattle.ada_machine.specs.declared.memory.Placed.TheVariants.{At, Outside}
use Rattle.ada_machine.specs.declared.operands.Computed.{Computed}
use Rattle.ada_machine.specs.declared.operands.Computed.TheVariants.{To, Failed, Beyond, Other}

-- the cell of a number, where it is one
abbrev pub cell_of : ℤ → ℕ
cell_of (pos n) = n
cell_of (negsuc n) = 2 ^ 64 - 1 - n

-- each cell that it reads is there to read, each that it writes to write, and each address that it moves is a cell's or the end
abbrev pub IsClear : Deed → List Cell → Type 0
IsClear (Loads a k) cells = IsSomeAnd (seen cells a) (λ v. IsClear (k v) cells)
IsClear (Stores a v d) cells = IsSomeAnd (written cells a v) (λ cells. IsClear d cells)
IsClear (Points a d) cells = (points cells a ≡ true) × IsClear d cells
IsClear d cells = Unit {0}

-- where it goes on, or what it raises, with that stack and these cells
pub data Played : Type 0 where
  Onward : (to : ℕ) (stack : List ℤ) (cells : List Cell) → Played
  Raised : (reason : Reason) (stack : List ℤ) (cells : List Cell) → Played
  Neither : Played

abbrev pub on_value : Option ℤ → (ℤ → Played) → Played
on_value None k = Neither
on_value (Some v) k = k v

abbrev pub on_cells : Option (List Cell) → (List Cell → Played) → Played
on_cells None k = Neither
on_cells (Some cells) k = k cells

abbrev pub plays : Deed → List Cell → Played
plays (GoesOn to st) cells = Onward to st cells
plays (Fails r st) cells = Raised r st cells
plays (Loads a k) cells = on_value (seen cells a) (λ v. plays (k v) cells)
plays (Stores a v d) cells = on_cells (written cells a v) (λ cells. plays d cells)
plays (Points a d) cells = cond (points cells a) (plays d cells) Neither
plays d cells = Neither

-- the deed would raise a declared exception of a number above 32 bits
abbrev pub Exceeds : Deed → Type 0
Exceeds (Fails (Declared n) st) = 2 ^ 32 ≤ n
Exceeds d = ⊥

-- RERAISE on a number of no exception of 32 bits
abbrev pub Strays : Instr → (stack : List ℤ) → Type 0
Strays Reraise st = Exceeds (on_one st (λ n st. Fails (reason_of n) st))
Strays i st = ⊥

-- an exception, where its number is one of 32 bits
abbrev pub IsReason : Reason → Option Reason → Type 0
IsReason r (Some q) = q ≡ r
IsReason (Declared n) None = 2 ^ 32 ≤ n
IsReason r None = ⊥

-- the deed is done with the operands alone
abbrev pub Does : Deed → Computed → (new : List ℤ) → Type 0
Does d (To pc) new = d ≡ GoesOn pc new
Does d (Failed reason) new = d ≡ Fails reason new
Does d Beyond new = ⊥
Does d Other new = ⊥

-- or the exception that it would raise has such a number, and the stack is as it was
abbrev pub Settles : Deed → Computed → (old new : List ℤ) → Type 0
Settles d (To pc) old new = d ≡ GoesOn pc new
Settles d (Failed reason) old new = d ≡ Fails reason new
Settles d Beyond old new = Exceeds d × (new ≡ old)
Settles d Other old new = ⊥

-- the same of vectors, whose last item is a stack's top
abbrev pub Computes : Deed → Computed → (new : List ℤ) → Type 0
Computes d r new = Does d r (reverse new)

abbrev pub ComputesOr : Deed → Computed → (old new : List ℤ) → Type 0
ComputesOr d r old new = Settles d r (reverse old) (reverse new)

-- the deed is done with operands and cells
abbrev pub PlaysIn : Deed → Computed → (new : List ℤ) → (cells cells' : List Cell) → Type 0
PlaysIn d (To pc) new cells cells' = plays d cells ≡ Onward pc new cells'
PlaysIn d (Failed reason) new cells cells' = plays d cells ≡ Raised reason new cells'
PlaysIn d Beyond new cells cells' = ⊥
PlaysIn d Other new cells cells' = ⊥

abbrev pub Plays : Deed → Computed → (new : List ℤ) → (cells cells' : List Cell) → Type 0
Plays d r new cells cells' = PlaysIn d r (reverse new) cells cells'

-- an address of a cell or the end of all cells, where there is one
abbrev pub IsThere : List Cell → Option ℤ → Type 0
IsThere cells None = Unit {0}
IsThere cells (Some a) = points cells a ≡ true

-- a number of 63 bits, as each such address is
abbrev pub IsNear : ℤ → Type 0
IsNear (pos n) = n < 2 ^ 63
IsNear (negsuc n) = ⊥

-- an index finds its component, or is outside
abbrev pub IsPlaced : Option ℤ → Placed → Type 0
IsPlaced o (At to) = o ≡ Some to
IsPlaced o Outside = o ≡ None

-- the instructions that ask for more
abbrev pub AsksMore : Instr → Type 0
AsksMore Turn = Unit {0}
AsksMore (Call sub) = Unit {0}
AsksMore (CallAt sub n) = Unit {0}
AsksMore (CallTo sub n to) = Unit {0}
AsksMore Part = Unit {0}
AsksMore (Repeat rounds) = Unit {0}
AsksMore (Again to) = Unit {0}
AsksMore Ret = Unit {0}
AsksMore RetV = Unit {0}
AsksMore (Exit loop) = Unit {0}
AsksMore Leave = Unit {0}
AsksMore LeaveV = Unit {0}
AsksMore (Fork site) = Unit {0}
AsksMore Nest = Unit {0}
AsksMore Unnest = Unit {0}
AsksMore (Words text) = Unit {0}
AsksMore Img = Unit {0}
AsksMore UImg = Unit {0}
AsksMore Bool = Unit {0}
AsksMore (Wide width) = Unit {0}
AsksMore Send = Unit {0}
AsksMore SendLn = Unit {0}
AsksMore Get = Unit {0}
AsksMore End = Unit {0}
AsksMore EndV = Unit {0}
AsksMore Halt = Unit {0}
AsksMore (Combine sub) = Unit {0}
AsksMore _ = ⊥

abbrev pub Outcome : Deed → Instr → Computed → (old new : List ℤ) → (cells cells' : List Cell) → Type 0
Outcome d i (To pc) old new cells cells' = plays d cells ≡ Onward pc (reverse new) cells'
Outcome d i (Failed reason) old new cells cells' = plays d cells ≡ Raised reason (reverse new) cells'
Outcome d i Beyond old new cells cells' = Strays i (reverse old) × (reverse new ≡ reverse old) × (cells' ≡ cells)
Outcome d i Other old new cells cells' = AsksMore i × (new ≡ old) × (cells' ≡ cells)
