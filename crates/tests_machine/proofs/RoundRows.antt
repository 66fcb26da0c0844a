-- Parts that are repeated: how they begin, how a round ends, and what a call and a raise make of them.
use Rattle.std.proofs.Common.{◌≡◌, ℕ, List, [], ◌∷◌, ◌++◌, Some, pos, refl}
use Rattle.ada_base.specs.Cells.{zeros}
use Rattle.ada_base.specs.declared.reason.Reason.TheVariants.{DataError}
use Rattle.stack_code.specs.declared.instr.Instr.{Instr}
use Rattle.stack_code.specs.declared.instr.Instr.TheVariants as i
use Rattle.stack_code.specs.declared.path.Round.{Round}
use Rattle.stack_code.specs.Machine.{State, Frame, Went, Goes, step}
use Rattle.tests_machine.specs.Samples.{code_of, five, fresh}

abbrev one : Instr → State → Went
one instr s = step 10 (code_of (instr ∷ []) []) s

abbrev round : (more head : ℕ) → Round
round more head = record { more = more; head = head }

-- in a body that repeats these parts
abbrev within : List Round → State
within rs = record (fresh (pos 5 ∷ [])) { rounds = rs }

-- of three rounds two follow, and each begins at the next instruction
begins : one (i.Repeat 3) (fresh (pos 5 ∷ [])) ≡ Goes (record (within (round 2 1 ∷ [])) { pc = 1 })
begins = refl

begins_inside : one (i.Repeat 1) (within (round 4 9 ∷ [])) ≡ Goes (record (within (round 0 1 ∷ round 4 9 ∷ [])) { pc = 1 })
begins_inside = refl

-- another round of the innermost part, or none
goes_again : one (i.Again 7) (within (round 2 7 ∷ round 4 9 ∷ [])) ≡ Goes (record (within (round 1 7 ∷ round 4 9 ∷ [])) { pc = 7 })
goes_again = refl

is_done : one (i.Again 7) (within (round 0 7 ∷ round 4 9 ∷ [])) ≡ Goes (record (within (round 4 9 ∷ [])) { pc = 1 })
is_done = refl

-- its rounds begin elsewhere, or there is no part
elsewhere : one (i.Again 7) (within (round 2 8 ∷ round 4 7 ∷ [])) ≡ Goes (record (within (round 4 7 ∷ [])) { pc = 1 })
elsewhere = refl

no_part : one (i.Again 7) (within []) ≡ Goes (record (within []) { pc = 1 })
no_part = refl

-- neither takes a turn or a look
begins_unlooked : one (i.Repeat 2) (record (within []) { turns = 10; left = Some 0 }) ≡ Goes (record (within (round 1 1 ∷ [])) { pc = 1; turns = 10; left = Some 0 })
begins_unlooked = refl

goes_unlooked : one (i.Again 7) (record (within (round 1 7 ∷ [])) { turns = 10; left = Some 0 }) ≡ Goes (record (within (round 0 7 ∷ [])) { pc = 7; turns = 10; left = Some 0 })
goes_unlooked = refl

-- a call keeps them for its caller, and begins with none
abbrev caller : Frame
caller = record { at = 0; to = 1; floor = 0; base = 3; nest = 0; kept = []; rounds = round 2 7 ∷ []; top = 5 }

calls : one (i.CallAt 2 2) (within (round 2 7 ∷ [])) ≡ Goes (record (within []) { pc = 30; floor = 1; base = 5; waiting = caller ∷ []; calls = 1; turns = 1; cells = five ++ zeros 4 })
calls = refl

returns : one i.Ret (record (within (round 3 4 ∷ [])) { pc = 0; floor = 1; base = 5; waiting = caller ∷ []; calls = 1; cells = five ++ zeros 4 }) ≡ Goes (record (within (round 2 7 ∷ [])) { pc = 1 })
returns = refl

-- a handler begins with none
handled : step 10 (code_of (i.Halt ∷ []) (record { from = 0; to = 1; handler = 9; depth = 1; nest = 0 } ∷ [])) (record (within (round 2 7 ∷ [])) { raising = Some DataError })
    ≡ Goes (record (fresh (pos 3 ∷ pos 5 ∷ [])) { pc = 9 })
handled = refl
