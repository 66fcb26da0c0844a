-- What statements are judged by in so many levels, and what functions ensure that judge them.
use Rattle.std.specs.Prelude.{◌≡◌, List, Bool, Option, Result, Ok, Err, ℕ}
use Rattle.typed_tree.specs.Decoded.{TypedPart, ABody, as_decls, as_handlers, as_stmts}
use Rattle.typed_tree.specs.Latest.{top, pop, second, third}
use Rattle.name_rules.specs.Judges.{part_if}
use Rattle.name_rules.specs.Primaries.{inside}
use Rattle.name_rules.specs.Statements.{Around, stmt}
use Rattle.name_rules.specs.declared.log.Log.{Log}
use Rattle.name_rules.specs.declared.scope.Context.{Context}
use Rattle.name_rules.specs.declared.scope.Names.{Names}

-- where expressions may hold brackets in so many levels, and statements may hold others in so many
abbrev pub in_levels : Names → ℕ → ℕ → Around
in_levels names levels below = record { names = names; level = inside names levels; inner = inside names below; within = stmt names below }

-- it leaves the part that it gives
abbrev pub Leaves : {E : Type 0} → Option TypedPart → List TypedPart → Result Bool E → List TypedPart → Type 0
Leaves outcome rest (Ok b) now = (outcome ≡ part_if b (top now)) × (pop now ≡ rest)
Leaves outcome rest (Err e) now = Unit {0}

-- it judges so, leaves the part that it gives, and leaves what is around as it was
abbrev pub Keeps : {E : Type 0} → Option TypedPart × Log → List TypedPart → Context → Result Bool E → Log → List TypedPart → Context → Type 0
Keeps outcome rest around (Ok b) log now here = (outcome ≡ (part_if b (top now), log)) × (pop now ≡ rest) × (here ≡ around)
Keeps outcome rest around (Err e) log now here = Unit {0}

-- the same, with something more that it gives
abbrev pub KeepsWith : {A E : Type 0} → (A × Option TypedPart) × Log → List TypedPart → Context → Result Bool E → A → Log → List TypedPart → Context → Type 0
KeepsWith outcome rest around (Ok b) more log now here = (outcome ≡ ((more, part_if b (top now)), log)) × (pop now ≡ rest) × (here ≡ around)
KeepsWith outcome rest around (Err e) more log now here = Unit {0}

-- the body of the three latest parts
abbrev pub body_of : List TypedPart → TypedPart
body_of now = ABody (record { decls = as_decls (third now); stmts = as_stmts (second now); handlers = as_handlers (top now) })

-- it judges a body so, and leaves its declarations, statements and handlers, and what is around as it was
abbrev pub Holds : {E : Type 0} → Option TypedPart × Log → List TypedPart → Context → Result Bool E → Log → List TypedPart → Context → Type 0
Holds outcome rest around (Ok b) log now here = (outcome ≡ (part_if b (body_of now), log)) × (pop (pop (pop now)) ≡ rest) × (here ≡ around)
Holds outcome rest around (Err e) log now here = Unit {0}
