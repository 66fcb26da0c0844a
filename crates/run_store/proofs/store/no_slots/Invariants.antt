use Rattle.std.proofs.Common.{◌≡◌, ◌-◌, ◌++◌, replicate}
use Rattle.ada_meaning.specs.Stored.{no_slot}
use Rattle.run_store.proofs.store.no_slots.Given as goal

-- what is there, and what is still to come
abbrev pub invariant-loop-k : goal.invariant-loop-k
invariant-loop-k l = l.slots ++ replicate (l.count - l._k) no_slot ≡ replicate l.count no_slot
