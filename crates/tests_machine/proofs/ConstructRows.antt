-- Constructs: forks and what they are asked for and answered, those that are counted, and how a thread leaves them.
use Rattle.std.proofs.Common.{◌≡◌, [], ◌∷◌, ◌++◌, Some, None, pos, refl}
use Rattle.ada_base.specs.Cells.{zeros}
use Rattle.ada_base.specs.declared.reason.Reason.TheVariants.{StorageError, DataError}
use Rattle.stack_code.specs.declared.instr.Instr.{Instr}
use Rattle.stack_code.specs.declared.instr.Instr.TheVariants as i
use Rattle.stack_code.specs.declared.path.Leave.TheVariants.{Exit, Return, Raise}
use Rattle.stack_code.specs.declared.path.Gave.TheVariants.{Nothing, Numbers, Left as WasLeft}
use Rattle.stack_code.specs.Machine.{State, Went, Goes, Stops, Cut, Constructs, Left, Done, step, resumed}
use Rattle.tests_machine.specs.Samples.{code_of, five, fresh}

abbrev one : Instr → State → Went
one instr s = step 10 (code_of (instr ∷ []) []) s

-- first 3, last 12, chunks 1 to 4, initial 7
fork_asks : one (i.Fork 2) (fresh (pos 7 ∷ pos 4 ∷ pos 1 ∷ pos 12 ∷ pos 3 ∷ pos 99 ∷ [])) ≡ Stops (Constructs (record { site = 2; count = 10; first = pos 3; most = 4; chunk = pos 1; initial = pos 7 })) (fresh (pos 99 ∷ []))
fork_asks = refl

-- none to do is a construct too
fork_none : one (i.Fork 2) (fresh (pos 7 ∷ pos 4 ∷ pos 1 ∷ pos 2 ∷ pos 3 ∷ [])) ≡ Stops (Constructs (record { site = 2; count = 0; first = pos 3; most = 4; chunk = pos 1; initial = pos 7 })) (fresh [])
fork_none = refl

-- 2^62 values, and one more
fork_most : one (i.Fork 2) (fresh (pos 0 ∷ pos 1 ∷ pos 1 ∷ pos 4611686018427387904 ∷ pos 1 ∷ [])) ≡ Stops (Constructs (record { site = 2; count = 4611686018427387904; first = pos 1; most = 1; chunk = pos 1; initial = pos 0 })) (fresh [])
fork_most = refl

fork_too_many : one (i.Fork 2) (fresh (pos 0 ∷ pos 1 ∷ pos 1 ∷ pos 4611686018427387904 ∷ pos 0 ∷ [])) ≡ Goes (record (fresh []) { raising = Some StorageError })
fork_too_many = refl

-- 4,096 threads and one more, and none
fork_threads : one (i.Fork 2) (fresh (pos 0 ∷ pos 4096 ∷ pos 1 ∷ pos 1 ∷ pos 1 ∷ [])) ≡ Stops (Constructs (record { site = 2; count = 1; first = pos 1; most = 4096; chunk = pos 1; initial = pos 0 })) (fresh [])
fork_threads = refl

fork_too_wide : one (i.Fork 2) (fresh (pos 0 ∷ pos 4097 ∷ pos 1 ∷ pos 1 ∷ pos 1 ∷ [])) ≡ Goes (record (fresh []) { raising = Some StorageError })
fork_too_wide = refl

fork_no_thread : one (i.Fork 2) (fresh (pos 0 ∷ pos 0 ∷ pos 1 ∷ pos 1 ∷ pos 1 ∷ [])) ≡ Goes (record (fresh []) { raising = Some StorageError })
fork_no_thread = refl

-- answers
ended : resumed (code_of (i.Fork 0 ∷ []) []) Nothing (fresh (pos 99 ∷ [])) ≡ record (fresh (pos 0 ∷ pos 0 ∷ pos 99 ∷ [])) { pc = 1 }
ended = refl

exited : resumed (code_of (i.Fork 0 ∷ []) []) (WasLeft (Exit 4)) (fresh (pos 99 ∷ [])) ≡ record (fresh (pos 7 ∷ pos 0 ∷ pos 99 ∷ [])) { pc = 1 }
exited = refl

returned : resumed (code_of (i.Fork 0 ∷ []) []) (WasLeft (Return None)) (fresh (pos 99 ∷ [])) ≡ record (fresh (pos 1 ∷ pos 0 ∷ pos 99 ∷ [])) { pc = 1 }
returned = refl

returned_value : resumed (code_of (i.Fork 0 ∷ []) []) (WasLeft (Return (Some (pos 8)))) (fresh (pos 99 ∷ [])) ≡ record (fresh (pos 2 ∷ pos 8 ∷ pos 99 ∷ [])) { pc = 1 }
returned_value = refl

raised : resumed (code_of (i.Fork 0 ∷ []) []) (WasLeft (Raise DataError)) (fresh (pos 99 ∷ [])) ≡ record (fresh (pos 99 ∷ [])) { raising = Some DataError }
raised = refl

reduced : resumed (code_of (i.Fork 0 ∷ []) []) (Numbers (pos 5 ∷ pos 6 ∷ pos 7 ∷ [])) (fresh (pos 99 ∷ [])) ≡ record (fresh (pos 5 ∷ pos 99 ∷ [])) { pc = 1; kept = pos 6 ∷ pos 7 ∷ [] }
reduced = refl

-- what was kept is combined, one after another, by calls that come back here
combines : one (i.Combine 1) (record (fresh (pos 5 ∷ [])) { kept = pos 6 ∷ pos 7 ∷ [] })
    ≡ Goes (record (fresh (pos 6 ∷ pos 5 ∷ [])) { pc = 20; base = 5; kept = []; calls = 1; turns = 1; cells = five ++ zeros 3; waiting = record { at = 0; to = 0; floor = 0; base = 3; nest = 0; kept = pos 7 ∷ []; rounds = []; top = 5 } ∷ [] })
combines = refl

combined : one (i.Combine 1) (fresh (pos 5 ∷ [])) ≡ Goes (record (fresh (pos 5 ∷ [])) { pc = 1 })
combined = refl

combine_too_deep : one (i.Combine 1) (record (fresh (pos 5 ∷ [])) { kept = pos 6 ∷ []; calls = 1000 }) ≡ Goes (record (fresh []) { kept = pos 6 ∷ []; calls = 1000; turns = 1; raising = Some StorageError })
combine_too_deep = refl

-- or taken off, one after another
draws : one i.Part (record (fresh (pos 5 ∷ [])) { kept = pos 6 ∷ pos 7 ∷ [] }) ≡ Goes (record (fresh (pos 1 ∷ pos 6 ∷ pos 5 ∷ [])) { pc = 1; kept = pos 7 ∷ [] })
draws = refl

drawn : one i.Part (fresh (pos 5 ∷ [])) ≡ Goes (record (fresh (pos 0 ∷ pos 0 ∷ pos 5 ∷ [])) { pc = 1 })
drawn = refl

-- constructs that are counted: the 16th begins, and no 17th
nest_last : one i.Nest (record (fresh []) { nested = 15 }) ≡ Goes (record (fresh []) { pc = 1; nest = 1; nested = 16 })
nest_last = refl

nest_too_deep : one i.Nest (record (fresh []) { nested = 16 }) ≡ Goes (record (fresh []) { nested = 16; raising = Some StorageError })
nest_too_deep = refl

nest_cut : one i.Nest (record (fresh []) { left = Some 0 }) ≡ Stops Cut (record (fresh []) { left = Some 0 })
nest_cut = refl

unnest : one i.Unnest (record (fresh []) { nest = 2; nested = 5 }) ≡ Goes (record (fresh []) { pc = 1; nest = 1; nested = 4 })
unnest = refl

-- how a thread ends
exits : one (i.Exit 3) (fresh []) ≡ Stops (Left (Exit 3)) (fresh [])
exits = refl

leaves : one i.Leave (fresh []) ≡ Stops (Left (Return None)) (fresh [])
leaves = refl

leaves_value : one i.LeaveV (fresh (pos 6 ∷ pos 99 ∷ [])) ≡ Stops (Left (Return (Some (pos 6)))) (fresh (pos 99 ∷ []))
leaves_value = refl

ends : one i.End (fresh []) ≡ Stops (Done None) (fresh [])
ends = refl

ends_value : one i.EndV (fresh (pos 6 ∷ [])) ≡ Stops (Done (Some (pos 6))) (fresh [])
ends_value = refl

halts : one i.Halt (fresh []) ≡ Stops (Done None) (fresh [])
halts = refl
