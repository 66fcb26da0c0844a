-- What is answered by what is found.
use Rattle.std.specs.Prelude.{◌≡◌, Bool, Some, None, Result, Ok, Err}
use Rattle.check_clashes.specs.declared.effects.Effects.{Effects}
use Rattle.check_conflicts.specs.declared.faults.ConflictFault.{ConflictFault}
use Rattle.check_conflicts.specs.declared.faults.ConflictFault.TheVariants as fault
use Rattle.check_clashes.specs.Breaches.{touched_by, clash_by}

-- The strict rule first, where it is asked for.
abbrev pub Judges : Bool → Effects → Result (Unit {0}) ConflictFault → Type 0
Judges strict effects (Ok u) = (touched_by strict effects ≡ None) × (clash_by effects ≡ None)
Judges strict effects (Err (fault.GlobalTouched at object)) = touched_by strict effects ≡ Some (record { first = at; second = object })
Judges strict effects (Err (fault.Clash at other)) = (touched_by strict effects ≡ None) × (clash_by effects ≡ Some (record { first = at; second = other }))
Judges strict effects (Err fault.OutOfMemory) = Unit {0}
