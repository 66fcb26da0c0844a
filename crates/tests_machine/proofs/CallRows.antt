-- Calls and returns, turns and looks, as steps of a state.
use Rattle.std.proofs.Common.{◌≡◌, ℕ, List, [], ◌∷◌, ◌++◌, Some, ℤ, pos, refl}
use Rattle.ada_base.specs.Cells.{zeros}
use Rattle.ada_base.specs.declared.reason.Reason.TheVariants.{ConstraintError, StorageError}
use Rattle.stack_code.specs.declared.instr.Instr.{Instr}
use Rattle.stack_code.specs.declared.instr.Instr.TheVariants as i
use Rattle.stack_code.specs.Machine.{State, Frame, Went, Goes, Stops, Spent, Cut, step}
use Rattle.tests_machine.specs.Samples.{code_of, five, fresh}

-- one step with at most ten turns
abbrev one : Instr → State → Went
one instr s = step 10 (code_of (instr ∷ []) []) s

-- the frame that the first body waits with
abbrev waits : (to floor : ℕ) → Frame
waits to floor = record { at = 0; to = to; floor = floor; base = 3; nest = 0; kept = []; rounds = []; top = 5 }

-- two of three operands go to the callee, whose frame is new cells at the end
call_moves : one (i.Call 1) (fresh (pos 3 ∷ pos 2 ∷ pos 1 ∷ [])) ≡ Goes (record (fresh (pos 3 ∷ pos 2 ∷ pos 1 ∷ [])) { pc = 20; floor = 1; base = 5; waiting = waits 1 0 ∷ []; calls = 1; turns = 1; cells = five ++ zeros 3 })
call_moves = refl

-- at 999 calls one more begins, at 1,000 none: the operands are dropped and the turn counts
call_last : one (i.Call 1) (record (fresh (pos 3 ∷ pos 2 ∷ pos 1 ∷ [])) { calls = 999 }) ≡ Goes (record (fresh (pos 3 ∷ pos 2 ∷ pos 1 ∷ [])) { pc = 20; floor = 1; base = 5; waiting = waits 1 0 ∷ []; calls = 1000; turns = 1; cells = five ++ zeros 3 })
call_last = refl

call_too_deep : one (i.Call 1) (record (fresh (pos 3 ∷ pos 2 ∷ pos 1 ∷ [])) { calls = 1000 }) ≡ Goes (record (fresh (pos 1 ∷ [])) { calls = 1000; turns = 1; raising = Some StorageError })
call_too_deep = refl

-- a call by a window: the frame begins at cell 1 of the own one, address 4, and memory grows to its end
window : one (i.CallAt 2 1) (fresh (pos 1 ∷ [])) ≡ Goes (record (fresh (pos 1 ∷ [])) { pc = 30; floor = 1; base = 4; waiting = waits 1 0 ∷ []; calls = 1; turns = 1; cells = five ++ zeros 3 })
window = refl

window_too_deep : one (i.CallAt 2 1) (record (fresh (pos 1 ∷ [])) { calls = 1000 }) ≡ Goes (record (fresh (pos 1 ∷ [])) { calls = 1000; turns = 1; raising = Some StorageError })
window_too_deep = refl

-- a window inside the cells that are there takes none
window_inside : one (i.CallAt 2 0) (record (fresh []) { base = 1 }) ≡ Goes (record (fresh []) { pc = 30; base = 1; waiting = record { at = 0; to = 1; floor = 0; base = 1; nest = 0; kept = []; rounds = []; top = 5 } ∷ []; calls = 1; turns = 1 })
window_inside = refl

-- the same that comes back to instruction 8, and takes a truth value: where that is false it raises, after the turn is begun
window_back : one (i.CallTo 2 1 8) (fresh (pos 7 ∷ pos 1 ∷ [])) ≡ Goes (record (fresh (pos 1 ∷ [])) { pc = 30; floor = 1; base = 4; waiting = waits 8 0 ∷ []; calls = 1; turns = 1; cells = five ++ zeros 3 })
window_back = refl

window_unfit : one (i.CallTo 2 1 8) (fresh (pos 0 ∷ pos 1 ∷ [])) ≡ Goes (record (fresh (pos 1 ∷ [])) { turns = 1; raising = Some ConstraintError })
window_unfit = refl

-- too many calls are found before
window_back_too_deep : one (i.CallTo 2 1 8) (record (fresh (pos 0 ∷ pos 1 ∷ [])) { calls = 1000 }) ≡ Goes (record (fresh (pos 1 ∷ [])) { calls = 1000; turns = 1; raising = Some StorageError })
window_back_too_deep = refl

-- no turn is left, or no look: the operand stays
window_back_spent : one (i.CallTo 2 1 8) (record (fresh (pos 0 ∷ [])) { turns = 10 }) ≡ Stops Spent (record (fresh (pos 0 ∷ [])) { turns = 10 })
window_back_spent = refl

window_back_cut : one (i.CallTo 2 1 8) (record (fresh (pos 0 ∷ [])) { left = Some 0 }) ≡ Stops Cut (record (fresh (pos 0 ∷ [])) { left = Some 0 })
window_back_cut = refl

-- in a body that was called with the operand 1 below it, and began a construct
abbrev inside : List ℤ → State
inside st = record (fresh st) { floor = 1; base = 4; nest = 1; nested = 3; waiting = waits 8 0 ∷ []; calls = 7; cells = five ++ zeros 3 }

return_drops : one i.Ret (inside (pos 9 ∷ pos 8 ∷ pos 1 ∷ [])) ≡ Goes (record (fresh (pos 1 ∷ [])) { pc = 8; calls = 6; nested = 2 })
return_drops = refl

return_gives : one i.RetV (inside (pos 9 ∷ pos 8 ∷ pos 1 ∷ [])) ≡ Goes (record (fresh (pos 9 ∷ pos 1 ∷ [])) { pc = 8; calls = 6; nested = 2 })
return_gives = refl

-- turns up to the limit, and looks, where they are counted
turn_begins : one i.Turn (record (fresh []) { turns = 9 }) ≡ Goes (record (fresh []) { pc = 1; turns = 10 })
turn_begins = refl

turn_spent : one i.Turn (record (fresh []) { turns = 10 }) ≡ Stops Spent (record (fresh []) { turns = 10 })
turn_spent = refl

call_spent : one (i.Call 1) (record (fresh (pos 3 ∷ pos 2 ∷ [])) { turns = 10 }) ≡ Stops Spent (record (fresh (pos 3 ∷ pos 2 ∷ [])) { turns = 10 })
call_spent = refl

turn_cut : one i.Turn (record (fresh []) { left = Some 0 }) ≡ Stops Cut (record (fresh []) { left = Some 0 })
turn_cut = refl

call_cut : one (i.Call 1) (record (fresh (pos 3 ∷ pos 2 ∷ [])) { left = Some 0 }) ≡ Stops Cut (record (fresh (pos 3 ∷ pos 2 ∷ [])) { left = Some 0 })
call_cut = refl

turn_counted : one i.Turn (record (fresh []) { left = Some 4 }) ≡ Goes (record (fresh []) { pc = 1; turns = 1; left = Some 3 })
turn_counted = refl
