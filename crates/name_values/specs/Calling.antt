-- What is found of the arguments of a call, with its parts: the actual parameters so far are a list that grows.
use Rattle.std.specs.Prelude.{◌≡◌, ◌+◌, ◌||◌, ◌∷◌, ◌++◌, [], ℕ, Bool, List, Option, Some, None, Result, Ok, Err, is_some, reverse}
use Rattle.typed_tree.specs.Decoded.{TypedPart}
use Rattle.typed_tree.specs.Latest.{top, pop}
use Rattle.name_rules.specs.Calls.{Calling, late_at}
use Rattle.name_rules.specs.Judges.{part_if}
use Rattle.name_rules.specs.declared.log.Log.{Log}
use Rattle.name_values.specs.declared.actuals.Calling.{Calling as KnownCalling}

-- the parameters that were given stand the latest first
abbrev pub calling_of : KnownCalling → TypedPart → Calling
calling_of c p = record { count = c.count; taken = reverse c.taken; named = c.named; late = c.late; actuals = part_if c.good p }

-- a parameter that was given joins those before it
abbrev pub also_given : List ℕ → Option ℕ → List ℕ
also_given given None = given
also_given given (Some i) = given ++ i ∷ []

-- a call with one more argument, of this name and for the parameter of this number
abbrev pub next_calling : KnownCalling → Option ℕ → Option ℕ → ℕ → Bool → KnownCalling
next_calling c name i first good =
    record { count = c.count + 1; taken = also_given c.taken i; named = c.named || is_some name; late = late_at c.late c.named name first; good = good }

-- it goes on with a call, whose actual parameters are the latest part
abbrev pub Calls : {E : Type 0} → Calling × Log → List TypedPart → Result (Unit {0}) E → KnownCalling → Log → List TypedPart → Type 0
Calls outcome rest (Ok u) c log now = (outcome ≡ (calling_of c (top now), log)) × (pop now ≡ rest)
Calls outcome rest (Err e) c log now = Unit {0}

-- it leaves a part, if it gives one
abbrev pub Leaves : {E : Type 0} → Option TypedPart → List TypedPart → Result Bool E → List TypedPart → Type 0
Leaves outcome rest (Ok b) now = (outcome ≡ part_if b (top now)) × (pop now ≡ rest)
Leaves outcome rest (Err e) now = Unit {0}
