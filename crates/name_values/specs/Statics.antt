-- Static values (4.9) that take a type, without their parts; and the values of choices (3.8.1).
use Rattle.std.specs.Prelude.{◌≡◌, ℕ, ℤ, Bool, true, false, List, Option, Some, None, Result, Ok, Err, if◌then◌else◌, option_map, ◌&&◌}
use Rattle.typed_tree.specs.Decoded.{TypedPart, as_expr}
use Rattle.typed_tree.specs.declared.statements.Span.{Span}
use Rattle.typed_tree.specs.Latest.{top, pop, second}
use Rattle.name_rules.specs.Found.{Found}
use Rattle.name_rules.specs.Judges.{found_of}
use Rattle.name_rules.specs.Judging.{Judging, breaks, pure, unless, ◌>>=◌}
use Rattle.name_rules.specs.Ranges as ranges
use Rattle.name_rules.specs.Types.{in_base, is_integer, kept, lies_in, same}
use Rattle.name_rules.specs.Values.{beyond, first_of, static_value, value_of}
use Rattle.name_rules.specs.declared.found.Found.TheVariants as known
use Rattle.name_rules.specs.declared.found.Found.{Found as Known}
use Rattle.name_rules.specs.declared.found.Limits.{Limits}
use Rattle.name_rules.specs.declared.found.ObjectName.{ObjectName}
use Rattle.name_rules.specs.declared.log.Log.{Log}
use Rattle.name_rules.specs.declared.log.Rule.TheVariants.{StaticRange, WrongType}
use Rattle.name_rules.specs.declared.log.Rule.{Rule}
use Rattle.name_rules.specs.declared.types.Kind.{Kind}
use Rattle.name_rules.specs.declared.types.Scalar.{Scalar}
use Rattle.name_rules.specs.declared.types.Subtype.TheVariants as subtype
use Rattle.name_rules.specs.declared.types.Subtype.{Subtype}
use Rattle.name_values.specs.declared.statics.Chosen.{Chosen}

-- ---- whether an expression takes a type, as `asked` judges it

abbrev pub or_breaks : Bool → ℕ → Rule → Judging Bool
or_breaks true at r = pure true
or_breaks false at r = breaks at r >>= λ u. pure false

abbrev pub value_takes : Kind → ℕ → Option ℤ → Judging Bool
value_takes k first None = pure true
value_takes k first (Some z) = or_breaks (in_base k z) first StaticRange

abbrev pub place_takes : Kind → ObjectName → Subtype → Judging Bool
place_takes k p (subtype.Scalar s) = if same s.kind k then value_takes k p.first p.value else or_breaks false p.first WrongType
place_takes k p (subtype.Composite n) = or_breaks false p.first WrongType

abbrev pub within : Option ℕ → Judging Bool
within None = pure true
within (Some at) = or_breaks false at StaticRange

abbrev pub open_takes : Kind → ℕ → Limits → TypedPart → Judging Bool
open_takes k first l x = if is_integer k then within (beyond k l (as_expr x)) else or_breaks false first WrongType

abbrev pub closed_takes : Kind → Known → Judging Bool
closed_takes k (known.Universal first z alone) = if is_integer k then or_breaks (in_base k z) first StaticRange else or_breaks false first WrongType
closed_takes k (known.Static first j z) = if same j k then or_breaks (in_base k z) first StaticRange else or_breaks false first WrongType
closed_takes k (known.Object p) = place_takes k p p.subtype
closed_takes k (known.Scalar first j n) = or_breaks (same j k) first WrongType
closed_takes k f = or_breaks false (first_of f) WrongType

unfoldable pub takes : Kind → Known → TypedPart → Judging Bool
takes k (known.Open first l) x = open_takes k first l x
takes k f x = closed_takes k f

-- its static value, as a cell keeps it, where it takes the type and has one
abbrev pub kept_in : Kind → Option ℤ → Option ℤ
kept_in k None = None
kept_in k (Some z) = if in_base k z then Some (kept k z) else None

abbrev pub value_in : Kind → Known → Option ℤ
value_in k f = kept_in k (value_of f)

unfoldable pub value_taken : Kind → Known → TypedPart → Judging (Option ℤ)
value_taken k f x = takes k f x >>= λ b. if b then static_value (first_of f) (value_in k f) else pure None

-- ---- two static bounds of a type

abbrev pub span_of : Option ℤ → Option ℤ → Option Span
span_of (Some i) (Some j) = Some (record { low = i; high = j })
span_of _ _ = None

abbrev pub both_values : Kind → Known → Known → Judging (Option Span)
both_values k a z = static_value (first_of a) (value_in k a) >>= λ u. static_value (first_of z) (value_in k z) >>= λ v. pure (span_of u v)

unfoldable pub span_taken : Kind → Found → Found → Judging (Option Span)
span_taken k a z = do
  x ← takes k a.known a.part
  y ← takes k z.known z.part
  if x then (if y then both_values k a.known z.known else pure None) else pure None

-- StaticRange at a bound that isn't a value of a subtype
abbrev pub inside_subtype : Scalar → Known → ℤ → Judging (Unit {0})
inside_subtype s b z = unless (lies_in s z) (first_of b) StaticRange

abbrev pub inside_span : ℕ → Bool → Scalar → Found → Found → ℤ × ℤ → Judging (Option ranges.Static)
inside_span first must_hold s a z r = ranges.inside_subtype s a r.0 >>= λ u. ranges.inside_subtype s z r.1 >>= λ v.
    if lies_in s r.0 && lies_in s r.1 then ranges.spanned first must_hold s.kind a z r else pure None

-- the two latest parts stay, on what was there before
abbrev pub StayTwo : List TypedPart → List TypedPart → Type 0
StayTwo old new = (second new ≡ second old) × (top new ≡ top old) × (pop (pop new) ≡ pop (pop old))

-- ---- choices

abbrev pub as_span : Chosen → ranges.Span'
as_span c = record { at = c.at; low = c.low; high = c.high }

-- it judges the values of a choice so, and leaves what they mention
abbrev pub Chooses : {E : Type 0} → Option ranges.Chosen × Log → List TypedPart → Result (Option Chosen) E → Log → List TypedPart → Type 0
Chooses outcome rest (Ok r) log now = (outcome ≡ (found_of (option_map as_span r) (top now), log)) × (pop now ≡ rest)
Chooses outcome rest (Err e) log now = Unit {0}
