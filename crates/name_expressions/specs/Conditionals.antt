-- What is found of the values of a conditional expression (4.5.7), with its parts: the conditions and values so far are a
-- list that grows.
use Rattle.std.specs.Prelude.{◌≡◌, List, Bool, true, false, Option, Some, None, Result, Ok, Err, reverse}
use Rattle.typed_tree.specs.Decoded.{TypedPart}
use Rattle.typed_tree.specs.Latest.{top, pop}
use Rattle.name_rules.specs.Judges.{part_if}
use Rattle.name_rules.specs.Primaries.{Waiting}
use Rattle.name_rules.specs.declared.found.Found.{Found}
use Rattle.name_rules.specs.declared.log.Log.{Log}

-- the values so far, of which the latest stands last in code
abbrev pub waiting_if : Bool → List Found → TypedPart → Option Waiting
waiting_if true values p = Some (record { known = reverse values; part = p })
waiting_if false values p = None

-- it goes on with the values, whose list is the latest part
abbrev pub Waits : {E : Type 0} → Option Waiting × Log → List TypedPart → Result Bool E → List Found → Log → List TypedPart → Type 0
Waits outcome rest (Ok b) values log now = (outcome ≡ (waiting_if b values (top now), log)) × (pop now ≡ rest)
Waits outcome rest (Err e) values log now = Unit {0}

-- the values with one more, if there is none with a fault
abbrev pub Chooses : {E : Type 0} → Option Waiting → List TypedPart → Result Bool E → List Found → List TypedPart → Type 0
Chooses outcome rest (Ok b) values now = (outcome ≡ waiting_if b values (top now)) × (pop now ≡ rest)
Chooses outcome rest (Err e) values now = Unit {0}

-- it leaves a part, if there is one
abbrev pub LeavesIf : {E : Type 0} → Option TypedPart → List TypedPart → Result Bool E → List TypedPart → Type 0
LeavesIf outcome rest (Ok b) now = (outcome ≡ part_if b (top now)) × (pop now ≡ rest)
LeavesIf outcome rest (Err e) now = Unit {0}
