-- Runs that come to a fault: of the input at its first byte, and of the output within the second piece.
use Rattle.std.proofs.Common.{refl, inl, inr, [], ◌∷◌, replicate}
use Rattle.ada_meaning.specs.StoredRows.{FaultRow, WriteFaultRow, at_fault}
use Rattle.ada_meaning.specs.Stored.{State, no_slot, ret, bind, leaves, spent, reads, writes, elaborates, apart, turn, handles, puts, recalls, keeps, takes, rewinds, thread, par}

abbrev inside : State
inside = record at_fault { everywhere = record { frame = 1; address = 0; cells = 1 } ∷ replicate 3 no_slot }

pub fault_of_input : FaultRow
unfolding ret bind leaves spent reads writes elaborates apart turn handles puts recalls keeps takes rewinds thread par
-- main, its declaration, its guarded statements, the first of them; after the target's name and what is held the turn
fault_of_input = inr (inl (inr (refl, (inside, inr (inl (inr (inl (inr (inr (inr (inl (inr (inr (inr (inl (inr (inr (inr (refl, refl))))))))))))))), refl))))

pub fault_of_output : WriteFaultRow
unfolding ret bind leaves spent reads writes elaborates apart turn handles puts recalls keeps takes rewinds thread par
-- main, its guarded statements, after the first of them the second
fault_of_output = (inr (inl (inr (inl (inr (inr (inr (inl (inr (inr (inr (refl, (99 ∷ [], 100 ∷ 10 ∷ [], refl, refl)))))))))))), refl)
