-- Raises: the numbers of reasons, the entry that takes one, and bodies that it ends.
use Rattle.std.proofs.Common.{◌≡◌, ℕ, List, [], ◌∷◌, Option, Some, None, ℤ, pos, negsuc, refl, map, take}
use Rattle.ada_base.specs.declared.reason.Reason.{Reason}
use Rattle.ada_base.specs.declared.reason.Reason.TheVariants.{ConstraintError, ProgramError, StorageError, DataError, EndError, Declared}
use Rattle.stack_code.specs.declared.code.Unwind.{Unwind}
use Rattle.stack_code.specs.declared.instr.Instr.{Instr}
use Rattle.stack_code.specs.declared.instr.Instr.TheVariants as i
use Rattle.stack_code.specs.declared.path.Leave.TheVariants.{Raise}
use Rattle.stack_code.specs.Machine.{State, Frame, Went, Goes, Stops, Cut, Left, step, entry_of}
use Rattle.tests_machine.specs.Samples.{code_of, five, fresh}

abbrev one : List Unwind → Instr → State → Went
one us instr s = step 10 (code_of (instr ∷ []) us) s

raises : one [] (i.Raise (Declared 2)) (fresh (pos 99 ∷ [])) ≡ Goes (record (fresh (pos 99 ∷ [])) { raising = Some (Declared 2) })
raises = refl

data Row : Type 0 where
  row : ℤ → Reason → Row

abbrev wanted : Row → Went
wanted (row n r) = Goes (record (fresh (pos 99 ∷ [])) { raising = Some r })

abbrev found : Row → Went
found (row n r) = one [] i.Reraise (fresh (n ∷ pos 99 ∷ []))

abbrev reasons : List Row
reasons =
    row (pos 0) ConstraintError ∷
    row (pos 1) ProgramError ∷
    row (pos 2) StorageError ∷
    row (pos 3) DataError ∷
    row (pos 4) EndError ∷
    row (pos 5) (Declared 0) ∷
    row (pos 9) (Declared 4) ∷
    row (negsuc 0) ProgramError ∷
    []

reason_rows : map wanted reasons ≡ map found reasons
reason_rows = refl

-- instructions 4 to 6, with handler 20; the same and 7, with handler 30
abbrev inner : Unwind
inner = record { from = 4; to = 7; handler = 20; depth = 1; nest = 1 }

abbrev outer : Unwind
outer = record { from = 4; to = 8; handler = 30; depth = 0; nest = 0 }

abbrev entry_at : ℕ → Option Unwind
entry_at q = entry_of (inner ∷ outer ∷ []) q

entries : map entry_at (3 ∷ 4 ∷ 6 ∷ 7 ∷ 8 ∷ []) ≡ None ∷ Some inner ∷ Some inner ∷ Some outer ∷ None ∷ []
entries = refl

-- at instruction 4, with two operands of the body above one of its caller's, and three constructs
abbrev raising : State
raising = record (fresh (pos 3 ∷ pos 2 ∷ pos 1 ∷ [])) { pc = 4; floor = 1; nest = 3; nested = 5; raising = Some DataError }

taken : one (inner ∷ outer ∷ []) i.Halt raising ≡ Goes (record raising { pc = 20; stack = pos 3 ∷ pos 2 ∷ pos 1 ∷ []; nest = 1; nested = 3; raising = None })
taken = refl

taken_outer : one (outer ∷ []) i.Halt raising ≡ Goes (record raising { pc = 30; stack = pos 3 ∷ pos 1 ∷ []; nest = 0; nested = 2; raising = None })
taken_outer = refl

taking_cut : one (outer ∷ []) i.Halt (record raising { left = Some 0 }) ≡ Stops Cut (record raising { left = Some 0 })
taking_cut = refl

-- where none holds the instruction the body ends, and its call raises; in the lowest body the path is left
abbrev caller : Frame
caller = record { at = 9; to = 10; floor = 0; base = 1; nest = 1; kept = pos 6 ∷ []; rounds = []; top = 3 }

unwound : one [] i.Halt (record raising { waiting = caller ∷ []; calls = 2 })
    ≡ Goes (record raising { pc = 9; stack = pos 1 ∷ []; floor = 0; nest = 1; nested = 2; base = 1; kept = pos 6 ∷ []; waiting = []; calls = 1; cells = take 3 five })
unwound = refl

left : one [] i.Halt raising ≡ Stops (Left (Raise DataError)) raising
left = refl
