-- What the choices of a case statement cover (5.4), and what handlers handle (11.2), as they are held.
use Rattle.std.specs.Prelude.{◌≡◌, ℕ, Bool, true, false, List, [], Option, Some, None, Result, Ok, Err, option_map, reverse}
use Rattle.ada_base.specs.declared.reason.Reason.{Reason}
use Rattle.syntax_tree.specs.Syntax.{Pack}
use Rattle.typed_tree.specs.Decoded.{TypedPart, as_reasons}
use Rattle.typed_tree.specs.Syntax as typed
use Rattle.typed_tree.specs.Latest.{top, pop}
use Rattle.name_rules.specs.Cases as cases
use Rattle.name_rules.specs.Judging.{Judging, pure, unless, ◌>>=◌}
use Rattle.name_rules.specs.Names.{exception}
use Rattle.name_rules.specs.declared.log.Log.{Log}
use Rattle.name_rules.specs.declared.log.Rule.TheVariants.{StaticRange}
use Rattle.name_rules.specs.declared.scope.Context.{Context}
use Rattle.name_rules.specs.declared.scope.Names.{Names}
use Rattle.name_values.specs.declared.coverage.Choosing.{Choosing}
use Rattle.name_values.specs.declared.coverage.Covering.{Covering}
use Rattle.name_values.specs.declared.handled.Handling.TheVariants as handling
use Rattle.name_values.specs.declared.handled.Handling.{Handling}

-- ---- choices

abbrev pub as_covering : Covering → cases.Covering
as_covering c = record { ranges = reverse c.ranges; faulty = c.faulty; others = c.others }

abbrev pub as_choosing : Choosing → TypedPart → cases.Choosing
as_choosing d p = record { spans = d.spans; others = d.others; mentions = p }

-- it judges choices so, and leaves what they mention
abbrev pub Covers : {E : Type 0} → (cases.Covering × cases.Choosing) × Log → List TypedPart → Result (Unit {0}) E → Log → Covering → Choosing → List TypedPart → Type 0
Covers outcome rest (Ok u) log c d now = (outcome ≡ ((as_covering c, as_choosing d (top now)), log)) × (pop now ≡ rest)
Covers outcome rest (Err e) log c d now = Unit {0}

abbrev pub others_chosen : ℕ → Bool → cases.Covering → cases.Choosing → Judging (cases.Covering × cases.Choosing)
others_chosen at good c d = unless good at StaticRange >>= λ u. pure (cases.with_others c good, record { spans = d.spans; others = true; mentions = d.mentions })

-- ---- handlers

abbrev pub reasons_if : Bool → List Reason → Option (List Reason)
reasons_if true rs = Some rs
reasons_if false rs = None

abbrev pub as_naming : List Reason → Bool → List Reason → cases.Naming
as_naming seen whole named = record { seen = reverse seen; named = reasons_if whole named }

-- it judges the names of exceptions so
abbrev pub NamesOnce : {E : Type 0} → cases.Naming × Log → Result Bool E → Log → List Reason → List Reason → Type 0
NamesOnce outcome (Ok whole) log seen named = outcome ≡ (as_naming seen whole named, log)
NamesOnce outcome (Err e) log seen named = Unit {0}

abbrev pub named_next : Names → Context → cases.Naming → Pack → Judging cases.Naming
named_next names here n p = exception names here p >>= λ r. cases.named_once n p.first r

abbrev pub these_handled : Names → Context → List Reason → List Pack → Judging (List Reason × Option typed.Handled)
these_handled names here seen ps = cases.named_reasons names here (record { seen = seen; named = Some [] }) ps >>= λ n. pure (n.seen, option_map typed.Reasons n.named)

abbrev pub handled_of : Handling → TypedPart → Option typed.Handled
handled_of handling.Faulty p = None
handled_of handling.Others p = Some typed.Others
handled_of handling.Reasons p = Some (typed.Reasons (as_reasons p))

-- it judges so what a handler handles, and leaves its exceptions
abbrev pub Handles : {E : Type 0} → (List Reason × Option typed.Handled) × Log → List TypedPart → Result Handling E → Log → List Reason → List TypedPart → Type 0
Handles outcome rest (Ok h) log seen now = (outcome ≡ ((reverse seen, handled_of h (top now)), log)) × (pop now ≡ rest)
Handles outcome rest (Err e) log seen now = Unit {0}
