-- Case statements' choices (5.4) and exception handlers (11.2).
use Rattle.ada_base.specs.declared.reason.Reason.TheVariants as reason
use Rattle.ada_base.specs.declared.reason.Reason.{Reason}
use Rattle.name_rules.specs.Aggregates.{sorted}
use Rattle.name_rules.specs.Expressions.{Inside}
use Rattle.name_rules.specs.Judging.{Judging, pure, unless, ◌>>=◌}
use Rattle.name_rules.specs.Names.{exception}
use Rattle.name_rules.specs.Ranges.{Chosen, chosen_span, chosen_value}
use Rattle.name_rules.specs.declared.log.Rule.TheVariants.{StaticRange, Twice}
use Rattle.name_rules.specs.declared.scope.Context.{Context}
use Rattle.name_rules.specs.declared.scope.Names.{Names}
use Rattle.name_rules.specs.declared.types.Kind.{Kind}
use Rattle.name_rules.specs.declared.types.Scalar.{Scalar}
use Rattle.syntax_tree.specs.Syntax as syntax
use Rattle.syntax_tree.specs.Syntax.{Choice, Handled, Pack}
use Rattle.typed_tree.specs.Syntax as typed
use Rattle.typed_tree.specs.Syntax.{Handled as TypedHandled}
use Rattle.typed_tree.specs.declared.statements.Span.{Span}
use Rattle.std.specs.List.{list_any}
use Rattle.std.specs.Prelude.{Bool, List, None, Option, Some, [], false, if◌then◌else◌, int_le, int_lt, not, option_map, pos, true, ℕ, ℤ, ◌&&◌, ◌++◌, ◌+ℤ◌, ◌==◌, ◌||◌, ◌∷◌}
use Rattle.name_rules.specs.TypedParts.{also_all}
use Rattle.typed_tree.specs.Decoded.{TypedPart}

-- ---- choices of a case statement

-- what was found of the choices so far: their values, whether one has a fault, whether one is others, mentions
pub record Covering : Type 0 where
  pub ranges : List (ℤ × ℤ)
  pub faulty : Bool
  pub others : Bool

-- of one alternative
pub record Choosing : Type 0 where
  pub spans : List Span
  pub others : Bool
  pub mentions : TypedPart

abbrev pub overlaps : ℤ → ℤ → List (ℤ × ℤ) → Bool
overlaps low high rs = list_any (λ r. int_le low r.1 && int_le r.0 high) rs

abbrev pub with_span : Choosing → ℤ → ℤ → Choosing
with_span d low high = record { spans = d.spans ++ record { low = low; high = high } ∷ []; others = d.others; mentions = d.mentions }

abbrev pub also_mentioned : Choosing → TypedPart → Choosing
also_mentioned d ms = record { spans = d.spans; others = d.others; mentions = also_all d.mentions ms }

abbrev pub also_covered : Covering → ℤ → ℤ → Covering
also_covered c low high = record { ranges = (low, high) ∷ c.ranges; faulty = c.faulty || overlaps low high c.ranges; others = c.others }

-- E07 StaticRange: choices that overlap, at the second; an empty range is none
abbrev pub covered_by : Covering → Choosing → ℕ → ℤ → ℤ → Judging (Covering × Choosing)
covered_by c d at low high =
    if not (int_le low high) then pure (c, with_span d low high) else
    (unless (not (overlaps low high c.ranges)) at StaticRange >>= λ u. pure (also_covered c low high, with_span d low high))

abbrev pub as_faulty : Covering → Covering
as_faulty c = record { ranges = c.ranges; faulty = true; others = c.others }

abbrev pub maybe_covered : Covering → Choosing → Option Chosen → Judging (Covering × Choosing)
maybe_covered c d None = pure (as_faulty c, d)
maybe_covered c d (Some x) = covered_by c (also_mentioned d x.part) x.known.at x.known.low x.known.high

abbrev pub with_others : Covering → Bool → Covering
with_others c good = record { ranges = c.ranges; faulty = c.faulty || not good; others = true }

-- E07 StaticRange: an `others` that isn't alone in its choices and last, at the word
unfoldable pub case_choice : Inside → Context → Option Kind → Bool → Bool → Covering → Choosing → Choice → Judging (Covering × Choosing)
case_choice level here k single last c d (syntax.Value s) = chosen_value level here k s >>= maybe_covered c d
case_choice level here k single last c d (syntax.Span low high) = chosen_span level here k low high >>= maybe_covered c d
case_choice level here k single last c d (syntax.Others at) = unless (single && last) at StaticRange >>= λ u. pure (with_others c (single && last), record { spans = d.spans; others = true; mentions = d.mentions })

abbrev pub case_choices : Inside → Context → Option Kind → Bool → Bool → Covering → Choosing → List Choice → Judging (Covering × Choosing)
case_choices level here k single last c d [] = pure (c, d)
case_choices level here k single last c d (x ∷ xs) = case_choice level here k single last c d x >>= λ r. case_choices level here k single last r.0 r.1 xs

abbrev pub int_max : ℤ → ℤ → ℤ
int_max a b = if int_le a b then b else a

-- a value of low .. high is in none of the ranges, which are in order
abbrev pub is_open : ℤ → ℤ → List (ℤ × ℤ) → Bool
is_open low high [] = int_le low high
is_open low high (r ∷ rs) = if int_lt low r.0 then int_le low high else is_open (int_max low (r.1 +ℤ pos 1)) high rs

-- E07 StaticRange: a value of the selecting subtype that is left open, at the word `case`
unfoldable pub closed : ℕ → Scalar → Covering → Judging (Unit {0})
closed at s c = unless (c.faulty || c.others || not (is_open s.low s.high (sorted c.ranges))) at StaticRange

-- ---- what handlers handle

abbrev pub same_reason : Reason → Reason → Bool
same_reason reason.ConstraintError reason.ConstraintError = true
same_reason reason.ProgramError reason.ProgramError = true
same_reason reason.StorageError reason.StorageError = true
same_reason reason.DataError reason.DataError = true
same_reason reason.EndError reason.EndError = true
same_reason (reason.Declared m) (reason.Declared n) = m == n
same_reason _ _ = false

-- the exceptions named so far in the handlers of a body, and those of this handler
pub record Naming : Type 0 where
  pub seen : List Reason
  pub named : Option (List Reason)

abbrev pub with_reason : List Reason → Reason → List Reason
with_reason rs r = rs ++ r ∷ []

-- E05 Twice: an exception named twice in the handlers of one body, at its name's first token
abbrev pub named_once : Naming → ℕ → Option Reason → Judging Naming
named_once n first None = pure (record { seen = n.seen; named = None })
named_once n first (Some r) = unless (not (list_any (same_reason r) n.seen)) first Twice >>= λ u. pure (record { seen = r ∷ n.seen; named = option_map (λ rs. with_reason rs r) n.named })

abbrev pub named_reasons : Names → Context → Naming → List Pack → Judging Naming
named_reasons names here n [] = pure n
named_reasons names here n (p ∷ ps) = exception names here p >>= λ r. named_once n p.first r >>= λ m. named_reasons names here m ps

-- E07 StaticRange: an `others` that isn't last
unfoldable pub handled_by : Names → Context → List Reason → Bool → Handled → Judging (List Reason × Option TypedHandled)
handled_by names here seen last (syntax.AnyOther at) = unless last at StaticRange >>= λ u. pure (seen, Some typed.Others)
handled_by names here seen last (syntax.These p ps) = named_reasons names here (record { seen = seen; named = Some [] }) (p ∷ ps) >>= λ n. pure (n.seen, option_map typed.Reasons n.named)
