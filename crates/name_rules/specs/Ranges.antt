-- Ranges (3.5), static ones of dimensions (3.6) and associations, and choices (3.8.1).
use Rattle.name_rules.specs.Expressions.{Inside, simple}
use Rattle.syntax_tree.specs.FirstTokens as first_token
use Rattle.name_rules.specs.Found.{Bounded, Found, With}
use Rattle.name_rules.specs.Judging.{Judging, both, fault, given, joined, pure, some, unless, ◌>>=◌}
use Rattle.name_rules.specs.Names.{denoted_first}
use Rattle.name_rules.specs.Operators.{both_mentions, common_kind}
use Rattle.name_rules.specs.Types.{base_of, is_integer, is_modular, kept, lies_in}
use Rattle.name_rules.specs.Values.{asked, first_of, is_number, is_scalar, kind_of, mentions_of, static_of_kind, static_value, suits, value_of, literal}
use Rattle.name_rules.specs.declared.found.Denoted.TheVariants as denoted
use Rattle.name_rules.specs.declared.found.Denoted.{Denoted as KnownDenoted}
use Rattle.name_rules.specs.declared.found.Found.{Found as Known}
use Rattle.name_rules.specs.declared.log.Dimension.{Dimension}
use Rattle.name_rules.specs.declared.log.Rule.TheVariants.{StaticRange, WrongType}
use Rattle.name_rules.specs.declared.scope.Context.{Context}
use Rattle.name_rules.specs.declared.types.Kind.{Kind}
use Rattle.name_rules.specs.declared.types.Scalar.{Scalar}
use Rattle.name_rules.specs.declared.types.Subtype.TheVariants as subtype
use Rattle.name_rules.specs.declared.types.Wanted.TheVariants as wanted
use Rattle.syntax_tree.specs.Syntax as syntax
use Rattle.syntax_tree.specs.Syntax.{Range, Simple}
use Rattle.typed_tree.specs.Decoded as part
use Rattle.std.specs.Prelude.{Bool, None, Option, Some, false, if◌then◌else◌, int_le, not, option_map, ℕ, ℤ, ◌&&◌, ◌||◌}
use Rattle.name_rules.specs.TypedParts.{pair}
use Rattle.typed_tree.specs.Decoded.{TypedPart}

-- two bounds, each for itself
unfoldable pub two_bounds : Inside → Context → Simple → Simple → Judging (Option Found × Option Found)
two_bounds level here low high = do
  x ← simple level here wanted.Other low
  y ← simple level here wanted.Other high
  pure (x, y)

-- ---- two bounds of one scalar type, as they are evaluated

abbrev pub range_part : TypedPart → TypedPart → TypedPart
range_part x y = pair x y

unfoldable pub bounds_of : Kind → Found → Found → Judging (Option TypedPart)
bounds_of k a z = do
  x ← asked k a
  y ← asked k z
  pure (joined range_part x y)

-- of their own type; a bound that is no scalar, or of another type than the first, is blamed at its first token, and one of
-- a modular type
abbrev pub of_one_type : {A : Type 0} → Known → Known → Kind → (Kind → Judging (Option A)) → Judging (Option A)
of_one_type a z k f =
    if not (is_scalar a) then fault (first_of a) WrongType else
    if not (suits k a) then fault (first_of z) WrongType else
    if is_modular k then fault (first_of a) WrongType else f k

-- the subtype of a parameter is that of its range: static bounds that aren't an empty range, or the subtype around
abbrev pub narrowed : Scalar → Option ℤ → Option ℤ → Scalar
narrowed s (Some a) (Some z) = if int_le a z && lies_in s a && lies_in s z then record { kind = s.kind; low = a; high = z } else s
narrowed s _ _ = s

abbrev pub bounded_by : ℕ → Scalar → Option Scalar → Found → Found → TypedPart → Bounded
bounded_by at s c a z x = record { known = record { scalar = narrowed s (value_of a.known) (value_of z.known); check = c; at = at }; part = x }

abbrev pub own_range : ℕ → Found → Found → Kind → Judging (Option Bounded)
own_range first a z k = bounds_of k a z >>= λ x. pure (option_map (bounded_by first (base_of k) None a z) x)

unfoldable pub own_bounds : ℕ → Found → Found → Judging (Option Bounded)
own_bounds first a z = of_one_type a.known z.known (common_kind (kind_of a.known) (kind_of z.known)) (own_range first a z)

-- with a subtype the bounds are of its type, and checked against it
unfoldable pub checked_range : ℕ → Scalar → Found → Found → Judging (Option Bounded)
checked_range first s a z = if is_modular s.kind then fault first WrongType else bounds_of s.kind a z >>= λ x. pure (option_map (bounded_by first s (Some s) a z) x)

-- a name that is a range, or a scalar subtype
abbrev pub whole_range : ℕ → Kind → ℤ → ℤ → TypedPart → Bounded
whole_range first k low high ms = record { known = record { scalar = record { kind = k; low = low; high = high }; check = None; at = first }; part = pair (literal first low false ms) (literal first high false part.Nothing) }

abbrev pub named_range : KnownDenoted → TypedPart → Judging (Option Bounded)
named_range (denoted.Range first d) x = some (whole_range first d.kind d.low d.high x)
named_range (denoted.Type first (subtype.Scalar s)) x = if is_modular s.kind then fault first WrongType else some (whole_range first s.kind s.low s.high part.Nothing)
named_range d x = fault (denoted_first d) WrongType

abbrev pub scalar_type : KnownDenoted → Judging (Option Scalar)
scalar_type (denoted.Type first (subtype.Scalar s)) = some s
scalar_type d = fault (denoted_first d) WrongType

unfoldable pub range : Inside → Context → Range → Judging (Option Bounded)
range level here (syntax.Bounded low high) = two_bounds level here low high >>= λ r. both r.0 r.1 (own_bounds (first_token.of_simple low))
range level here (syntax.Whole n) = level.name here n >>= λ d. given d (λ x. named_range x.known x.part)
range level here (syntax.Constrained n low high) = do
  d ← level.name here n
  s ← given d (λ x. scalar_type x.known)
  r ← two_bounds level here low high
  given s (λ t. both r.0 r.1 (checked_range (first_token.of_name n) t))

-- ---- static ranges of integers (3.6, 4.3.3): what they mention is their part

abbrev pub Static : Type 0
Static = With Dimension

-- E07 NotStatic, at the bound
abbrev pub both_static : Kind → Found → Found → Judging (Option (ℤ × ℤ))
both_static k a z = do
  x ← asked k a
  y ← asked k z
  both x y (λ e f. static_value (first_of a.known) (value_of a.known) >>= λ u. static_value (first_of z.known) (value_of z.known) >>= λ v. both u v (λ i j. some (i, j)))

abbrev pub dimension : Kind → ℤ × ℤ → Dimension
dimension k r = record { kind = k; low = r.0; high = r.1 }

abbrev pub of_static : Found → Found → Dimension → Static
of_static a z d = record { known = d; part = both_mentions a z }

-- E07 StaticRange: a dimension without a value; at the first token of the range
abbrev pub spanned : ℕ → Bool → Kind → Found → Found → ℤ × ℤ → Judging (Option Static)
spanned first must_hold k a z r = if must_hold && not (int_le r.0 r.1) then fault first StaticRange else some (of_static a z (dimension k r))

-- E07 StaticRange: a bound outside the subtype that is named, at the bound; a range without a value has none such (3.5)
abbrev pub inside_subtype : Scalar → Found → ℤ → Judging (Unit {0})
inside_subtype s b z = unless (lies_in s z) (first_of b.known) StaticRange

abbrev pub checked_span : ℕ → Bool → Scalar → Found → Found → ℤ × ℤ → Judging (Option Static)
checked_span first must_hold s a z r =
    if not (int_le r.0 r.1) then spanned first must_hold s.kind a z r else
    (inside_subtype s a r.0 >>= λ u. inside_subtype s z r.1 >>= λ v.
    if lies_in s r.0 && lies_in s r.1 then spanned first must_hold s.kind a z r else pure None)

abbrev pub preferred_or : Kind → Option Kind → Option Kind → Kind
preferred_or k None None = k
preferred_or k j i = common_kind j i

-- the bounds of an association take the index type
abbrev pub preferred : Option Kind → Known → Known → Kind
preferred None a z = common_kind (kind_of a) (kind_of z)
preferred (Some k) a z = preferred_or k (kind_of a) (kind_of z)

abbrev pub static_by : ℕ → Bool → Found → Found → Kind → Judging (Option Static)
static_by first must_hold a z k =
    if not (is_number a.known) || is_modular k then fault (first_of a.known) WrongType else
    if not (suits k a.known && suits k z.known) then fault (first_of z.known) WrongType else
    (both_static k a z >>= λ s. given s (spanned first must_hold k a z))

unfoldable pub static_bounds : ℕ → Bool → Option Kind → Found → Found → Judging (Option Static)
static_bounds first must_hold want a z = static_by first must_hold a z (preferred want a.known z.known)

-- the type of an index
abbrev pub is_index : Kind → Bool
is_index k = is_integer k && not (is_modular k)

abbrev pub static_scalar : ℕ → Scalar → Judging (Option Static)
static_scalar first s = if is_index s.kind then some (record { known = record { kind = s.kind; low = s.low; high = s.high }; part = part.Nothing }) else fault first WrongType

abbrev pub static_name : ℕ → KnownDenoted → TypedPart → Judging (Option Static)
static_name first (denoted.Range at d) x = some (record { known = d; part = x })
static_name first (denoted.Type at (subtype.Scalar s)) x = static_scalar first s
static_name first d x = fault (denoted_first d) WrongType

unfoldable pub static_checked : ℕ → Bool → Scalar → Found → Found → Judging (Option Static)
static_checked first must_hold t a z =
    if is_index t.kind then (both_static t.kind a z >>= λ v. given v (checked_span first must_hold t a z)) else fault first WrongType

-- E07: a bound of an array or iterated association that isn't static
unfoldable pub static_range : Inside → Context → Bool → Option Kind → Range → Judging (Option Static)
static_range level here must_hold want (syntax.Bounded low high) = two_bounds level here low high >>= λ r. both r.0 r.1 (static_bounds (first_token.of_simple low) must_hold want)
static_range level here must_hold want (syntax.Whole n) = level.name here n >>= λ d. given d (λ x. static_name (first_token.of_name n) x.known x.part)
static_range level here must_hold want (syntax.Constrained n low high) = do
  d ← level.name here n
  s ← given d (λ x. scalar_type x.known)
  r ← two_bounds level here low high
  given s (λ t. both r.0 r.1 (static_checked (first_token.of_name n) must_hold t))

-- ---- choices of static values, as cells keep them: what they mention is their part

pub record Span' : Type 0 where
  pub at : ℕ
  pub low : ℤ
  pub high : ℤ

abbrev pub Chosen : Type 0
Chosen = With Span'

abbrev pub one_value : Kind → Found → Judging (Option Chosen)
one_value k f = static_of_kind k f >>= λ v. given v (λ z. some (record { known = record { at = first_of f.known; low = kept k z; high = kept k z }; part = mentions_of f }))

abbrev pub two_values : Kind → Found → Found → Judging (Option Chosen)
two_values k a z = static_of_kind k a >>= λ u. static_of_kind k z >>= λ v.
    both u v (λ x y. some (record { known = record { at = first_of a.known; low = kept k x; high = kept k y }; part = both_mentions a z }))

-- E07 NotStatic: a choice that isn't static; of a type that isn't known it is judged for itself
abbrev pub values_of : Option Kind → Option Found → Judging (Option Chosen)
values_of None x = pure None
values_of (Some k) x = given x (one_value k)

abbrev pub range_values : Option Kind → Option Found × Option Found → Judging (Option Chosen)
range_values None r = pure None
range_values (Some k) r = both r.0 r.1 (two_values k)

unfoldable pub chosen_value : Inside → Context → Option Kind → Simple → Judging (Option Chosen)
chosen_value level here k low = simple level here wanted.Other low >>= values_of k

unfoldable pub chosen_span : Inside → Context → Option Kind → Simple → Simple → Judging (Option Chosen)
chosen_span level here k low high = two_bounds level here low high >>= range_values k
