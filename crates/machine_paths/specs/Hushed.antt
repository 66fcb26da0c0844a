-- Code whose threads ask for no input or output, and begin behind their forks.
use Rattle.std.specs.Prelude.{◌≡◌, ℕ, ◌<◌, Bool, true, Some, slice_get}
use Rattle.stack_code.specs.declared.code.Around.{Around}
use Rattle.stack_code.specs.declared.code.Around.TheVariants.{Sub, Site}
use Rattle.stack_code.specs.declared.code.Code.{Code}
use Rattle.stack_code.specs.declared.code.CodeSite.{CodeSite}
use Rattle.stack_code.specs.declared.code.Spot.{Spot}
use Rattle.stack_code.specs.declared.instr.Instr.{Instr}
use Rattle.stack_code.specs.declared.instr.Instr.TheVariants.{Call, CallAt, CallTo, Combine, Fork}
use Rattle.ada_base.specs.declared.reason.Reason.{Reason}
use Rattle.stack_code.specs.declared.path.Gave.{Gave}
use Rattle.stack_code.specs.declared.path.Gave.TheVariants as gave
use Rattle.stack_code.specs.declared.path.Leave.{Leave}
use Rattle.stack_code.specs.declared.path.Leave.TheVariants.{Raise}
use Rattle.stack_code.specs.Answers.{IsIo}

-- the bodies of threads, and of subprograms of which that is told
abbrev pub IsQuiet : (ℕ → Bool) → Around → Type 0
IsQuiet quiet (Sub k) = quiet k ≡ true
IsQuiet quiet (Site k) = Unit {0}

abbrev pub CallsIt : Instr → ℕ → Type 0
CallsIt (Call k) sub = k ≡ sub
CallsIt (CallAt k n) sub = k ≡ sub
CallsIt (CallTo k n to) sub = k ≡ sub
CallsIt (Combine k) sub = k ≡ sub
CallsIt i sub = ⊥

-- no instruction of a quiet body asks for input or output (9.5), and it calls quiet ones alone
pub record IsHushed (c : Code) (quiet : ℕ → Bool) : Type 0 where
  pub asks : (at : ℕ) (i : Instr) (s : Spot) → slice_get c.instrs at ≡ Some i → slice_get c.spots at ≡ Some s → IsQuiet quiet s.body → IsIo (Some i) → ⊥
  pub calls : (at : ℕ) (i : Instr) (s : Spot) → slice_get c.instrs at ≡ Some i → slice_get c.spots at ≡ Some s → IsQuiet quiet s.body → (sub : ℕ) → CallsIt i sub → quiet sub ≡ true

-- the threads of a construct begin at a later instruction than its fork
abbrev pub BeginsLater : Code → Type 0
BeginsLater c = (at site : ℕ) (s : CodeSite) → slice_get c.instrs at ≡ Some (Fork site) → slice_get c.sites site ≡ Some s → at < s.entry

-- of a reduction's threads none leaves but by a raise
abbrev pub LeavesWell : Bool → Leave → Type 0
LeavesWell reduces l = reduces ≡ true → (r : Reason) × (l ≡ Raise r)

abbrev pub GaveWell : Bool → Gave → Type 0
GaveWell reduces gave.Nothing = ⊥
GaveWell reduces (gave.Numbers vs) = Unit {0}
GaveWell reduces (gave.Left l) = LeavesWell reduces l
