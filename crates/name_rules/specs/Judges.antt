-- What functions ensure that judge, unless memory fails, where parts were being joined.
use Rattle.std.specs.Prelude.{◌≡◌, List, Bool, true, false, Option, Some, None, Result, Ok, Err}
use Rattle.typed_tree.specs.Decoded.{TypedPart}
use Rattle.typed_tree.specs.Latest.{top, pop}
use Rattle.name_rules.specs.Found.{With}
use Rattle.name_rules.specs.declared.found.Limits.{Limits}
use Rattle.name_rules.specs.declared.log.Log.{Log}

-- what is known of something and its part
abbrev pub found : {K : Type 0} → K → TypedPart → With K
found k p = record { known = k; part = p }

-- what was found, by what is known of it and its part
abbrev pub found_of : {K : Type 0} → Option K → TypedPart → Option (With K)
found_of None p = None
found_of (Some k) p = Some (record { known = k; part = p })

-- it judges so, and leaves the part of what it found on what was there before
abbrev pub Judges : {K E : Type 0} → Option (With K) × Log → List TypedPart → Result (Option K) E → Log → List TypedPart → Type 0
Judges outcome rest (Ok r) log now = (outcome ≡ (found_of r (top now), log)) × (pop now ≡ rest)
Judges outcome rest (Err e) log now = Unit {0}

abbrev pub part_if : Bool → TypedPart → Option TypedPart
part_if true p = Some p
part_if false p = None

-- it judges so, and leaves the part that it gives
abbrev pub Gives : {E : Type 0} → Option TypedPart × Log → List TypedPart → Result Bool E → Log → List TypedPart → Type 0
Gives outcome rest (Ok b) log now = (outcome ≡ (part_if b (top now), log)) × (pop now ≡ rest)
Gives outcome rest (Err e) log now = Unit {0}

-- it judges so, and joins nothing
abbrev pub Says : {A E : Type 0} → A × Log → Result A E → Log → Type 0
Says outcome (Ok a) log = outcome ≡ (a, log)
Says outcome (Err e) log = Unit {0}

abbrev pub open_with : Option Limits → TypedPart → Option (Limits × TypedPart)
open_with None p = None
open_with (Some l) p = Some (l, p)

-- it leaves the universal expression, if there is one
abbrev pub Opens : {E : Type 0} → Option (Limits × TypedPart) → List TypedPart → Result (Option Limits) E → List TypedPart → Type 0
Opens outcome rest (Ok r) now = (outcome ≡ open_with r (top now)) × (pop now ≡ rest)
Opens outcome rest (Err e) now = Unit {0}
