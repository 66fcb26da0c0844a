-- The laws of the machine.
use Rattle.std.specs.Prelude.{◌≡◌, ℕ, ◌≤◌, List, None}
use Rattle.stack_code.specs.declared.code.Around.{Around}
use Rattle.stack_code.specs.declared.code.Code.{Code}
use Rattle.ada_base.specs.Cells.{Cell}
use Rattle.stack_code.specs.Framed.{Framed, filled, Same}
use Rattle.stack_code.specs.Looks.{counting, looks_of, Counts}
use Rattle.stack_code.specs.Machine.{State, Cut, step, run, Comes, Comes_to}
use Rattle.stack_code.specs.Runs.{IsAtLook}
use Rattle.stack_code.specs.Stands.{IsForward, Stands, Keeps, Falls, rank}
use Rattle.stack_code.specs.Tops.{IsTopped, StaysTopped}
use Rattle.stack_code.specs.Valid.{IsValid}

-- valid code never lacks an operand and never goes astray; in forward code something falls at each step
abbrev pub StandingLaw : Type 0
StandingLaw = (limit : ℕ) (c : Code) (low : Around) (s : State) → IsValid c → Stands c low s → Keeps c low (step limit c s) × (IsForward c → s.turns ≤ limit → Falls c limit (rank c limit s) (step limit c s))

-- a run that stands before a look is, counted by its looks, cut there
abbrev pub CutLaw : Type 0
CutLaw = (limit : ℕ) (c : Code) (p q : State) → p.left ≡ None → Comes limit c p q → IsAtLook limit c q → (k : ℕ) × Comes_to limit c (counting k p) Cut (counting 0 q)

-- a step takes just its looks, where they are counted
abbrev pub LookLaw : Type 0
LookLaw = (limit : ℕ) (c : Code) (s : State) → s.left ≡ None → Counts (step limit c s) (looks_of c s) (λ n. step limit c (counting n s))

-- a run that isn't stuck is the same run on a memory that has the cells which are gone, and leaves those alone
abbrev pub FrameLaw : Type 0
FrameLaw = (outer : List Cell) (limit : ℕ) (c : Code) (n : ℕ) (s : State) → Framed outer s → Same outer (run limit c n s) (run limit c n (filled outer s))

-- the cells of bodies that wait are never taken off
abbrev pub TopLaw : Type 0
TopLaw = (low limit : ℕ) (c : Code) (n : ℕ) (s : State) → IsTopped low s → StaysTopped low (run limit c n s)
