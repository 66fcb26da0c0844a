-- What functions ensure that judge subprograms and programs, unless memory fails.
use Rattle.std.specs.Prelude.{◌≡◌, List, Bool, true, false, Option, Some, None, Result, Ok, Err, ℕ, map, option_map}
use Rattle.typed_tree.specs.Decoded.{TypedPart, as_body}
use Rattle.typed_tree.specs.Syntax.{Sub as TypedSub}
use Rattle.typed_tree.specs.Latest.{top, pop, second}
use Rattle.name_programs.specs.declared.profiles.Profiled.{Profiled as Found}
use Rattle.name_programs.specs.declared.programs.Judged.{Judged}
use Rattle.name_programs.specs.declared.programs.Sound.{Sound}
use Rattle.name_rules.specs.Judges.{part_if}
use Rattle.name_rules.specs.Programs.{Declared', Profiled, Whole, typed_formal}
use Rattle.name_rules.specs.Types.{typed_scalar}
use Rattle.name_rules.specs.declared.log.Log.{Log}
use Rattle.name_rules.specs.declared.log.Taken.{Taken}
use Rattle.name_rules.specs.declared.scope.Context.{Context}
use Rattle.name_rules.specs.declared.types.Scalar.{Scalar}
use Rattle.name_tables.specs.Heads.{headed, subs_of, whole_of}
use Rattle.name_tables.specs.declared.heads.Head.{Head}

-- it judges so, joins nothing, and leaves what is around those behind it
abbrev pub Changes : {A E : Type 0} → (Context × A) × Log → Result A E → Context → Log → Type 0
Changes outcome (Ok a) here log = outcome ≡ ((here, a), log)
Changes outcome (Err e) here log = Unit {0}

-- the formal parameters so far
abbrev pub taken_if : Bool → List Taken → Option (List Taken)
taken_if true ts = Some ts
taken_if false ts = None

abbrev pub Takes : {E : Type 0} → (Context × Option (List Taken)) × Log → Result Bool E → Context → List Taken → Log → Type 0
Takes outcome (Ok b) here ts log = outcome ≡ ((here, taken_if b ts), log)
Takes outcome (Err e) here ts log = Unit {0}

-- what a profile leaves
abbrev pub profiled : Context → Found → Profiled
profiled outer p = record { outer = outer; inner = p.inner; number = p.number; takes = p.takes; gives = p.gives }

abbrev pub Profiles : {E : Type 0} → Profiled × Log → Result Found E → Context → Log → Type 0
Profiles outcome (Ok p) outer log = outcome ≡ (profiled outer p, log)
Profiles outcome (Err e) outer log = Unit {0}

-- a subprogram of what it takes and gives, and of its body
abbrev pub sub_of : List Taken → Option Scalar → Bool → TypedPart → TypedSub
sub_of ts s z b = record { formals = map typed_formal ts; result = option_map typed_scalar s; nonblocking = z; body = as_body b }

abbrev pub sub_if : List Taken → Option Scalar → Option Bool → TypedPart → Option TypedSub
sub_if ts s None b = None
sub_if ts s (Some z) b = Some (sub_of ts s z b)

-- it judges a subprogram so, and leaves its body
abbrev pub Bodies : {E : Type 0} → List Taken → Option Scalar → Option TypedSub × Log → List TypedPart → Result (Option Bool) E → Log → List TypedPart → Type 0
Bodies ts s outcome rest (Ok z) log now = (outcome ≡ (sub_if ts s z (top now), log)) × (pop now ≡ rest)
Bodies ts s outcome rest (Err e) log now = Unit {0}

-- a subprogram, if there is one
abbrev pub headed_if : Option Head → TypedPart → TypedPart → Option TypedSub
headed_if None f b = None
headed_if (Some h) f b = Some (headed h f b)

-- it judges a subprogram so, and leaves the list of its formal parameters and its body
abbrev pub Subprograms : {E : Type 0} → (Context × Option TypedSub) × Log → List TypedPart → Result (Option Head) E → Context → Log → List TypedPart → Type 0
Subprograms outcome rest (Ok h) here log now = (outcome ≡ ((here, headed_if h (second now) (top now)), log)) × (pop (pop now) ≡ rest)
Subprograms outcome rest (Err e) here log now = Unit {0}

abbrev pub subs_if : Bool → List Head → List TypedPart → Option (List TypedSub)
subs_if true hs ps = Some (subs_of hs ps)
subs_if false hs ps = None

-- the declarative part of the main procedure so far: what is elaborated is the latest part, and before it are those of
-- the subprograms
abbrev pub declared_so : Context → Sound → List Head → List TypedPart → Declared'
declared_so here s hs ps = record { here = here; decls = part_if s.decls (top ps); subs = subs_if s.subs hs (pop ps) }

abbrev pub Units : {E : Type 0} → Declared' × Log → Result Sound E → Context → List Head → Log → List TypedPart → Type 0
Units outcome (Ok s) here hs log now = outcome ≡ (declared_so here s hs now, log)
Units outcome (Err e) here hs log now = Unit {0}

-- what a program is made of, of its latest parts
abbrev pub whole_by : Bool → List Head → Bool → Bool → List TypedPart → Option Whole
whole_by true hs z strict ps = Some (whole_of hs z strict ps)
whole_by false hs z strict ps = None

abbrev pub whole_if : Judged → List TypedPart → Option Whole
whole_if j ps = whole_by j.whole j.heads j.nonblocking j.strict ps
