-- What functions ensure that judge declarations, unless memory fails: each leaves one part of the typed program.
use Rattle.std.specs.Prelude.{◌≡◌, List, Bool, true, false, Option, Some, None, Result, Ok, Err, ℕ}
use Rattle.typed_tree.specs.Decoded.{TypedPart}
use Rattle.typed_tree.specs.Latest.{top, pop}
use Rattle.name_programs.specs.declared.objects.Given.{Given}
use Rattle.name_programs.specs.declared.records.Growing.{Growing}
use Rattle.name_rules.specs.Declarations.{Building, Dimensions, Initial}
use Rattle.name_rules.specs.Judges.{part_if}
use Rattle.name_rules.specs.declared.log.Dimension.{Dimension}
use Rattle.name_rules.specs.declared.log.Field.{Field}
use Rattle.name_rules.specs.declared.log.Log.{Log}
use Rattle.name_rules.specs.declared.scope.Context.{Context}

-- it judges so, and leaves the names that are declared, and the list of what is elaborated
abbrev pub Declares : {E : Type 0} → (Context × Option TypedPart) × Log → List TypedPart → Result Bool E → Context → Log → List TypedPart → Type 0
Declares outcome rest (Ok b) here log now = (outcome ≡ ((here, part_if b (top now)), log)) × (pop now ≡ rest)
Declares outcome rest (Err e) here log now = Unit {0}

-- the same where nothing is judged
abbrev pub Ends : {E : Type 0} → Context × Option TypedPart → List TypedPart → Result Bool E → Context → List TypedPart → Type 0
Ends outcome rest (Ok b) here now = (outcome ≡ (here, part_if b (top now))) × (pop now ≡ rest)
Ends outcome rest (Err e) here now = Unit {0}

-- it judges so, and leaves the names that are being declared
abbrev pub Begins : {E : Type 0} → (Context × List (Option ℕ)) × Log → Result (List (Option ℕ)) E → Context → Log → Type 0
Begins outcome (Ok free) here log = outcome ≡ ((here, free), log)
Begins outcome (Err e) here log = Unit {0}

-- the dimensions of an array so far, with what they mention
abbrev pub dimensions_if : Bool → List Dimension → TypedPart → Option Dimensions
dimensions_if true ds p = Some (record { dimensions = ds; mentions = p })
dimensions_if false ds p = None

abbrev pub Extends : {E : Type 0} → Option Dimensions × Log → List TypedPart → Result Bool E → List Dimension → Log → List TypedPart → Type 0
Extends outcome rest (Ok b) ds log now = (outcome ≡ (dimensions_if b ds (top now), log)) × (pop now ≡ rest)
Extends outcome rest (Err e) ds log now = Unit {0}

-- the components of a record so far, with what they mention
abbrev pub fields_if : Bool → List Field → Option (List Field)
fields_if true fs = Some fs
fields_if false fs = None

abbrev pub building : Growing → TypedPart → Building
building b p = record { here = b.here; fields = fields_if b.whole b.fields; offset = b.offset; mentions = p }

abbrev pub Builds : {E : Type 0} → Building × Log → List TypedPart → Result (Unit {0}) E → Growing → Log → List TypedPart → Type 0
Builds outcome rest (Ok u) b log now = (outcome ≡ (building b (top now), log)) × (pop now ≡ rest)
Builds outcome rest (Err e) b log now = Unit {0}

-- an initial value, which is a part where there is one
abbrev pub given_initial : Given → TypedPart → Initial
given_initial g p = record { stored = part_if g.stored p; value = g.value }

abbrev pub initial_of : Option Given → TypedPart → Option Initial
initial_of None p = None
initial_of (Some g) p = Some (given_initial g p)

abbrev pub Initials : {E : Type 0} → Option Initial × Log → List TypedPart → Result (Option Given) E → Log → List TypedPart → Type 0
Initials outcome rest (Ok r) log now = (outcome ≡ (initial_of r (top now), log)) × (pop now ≡ rest)
Initials outcome rest (Err e) log now = Unit {0}
