-- Primaries (4.4) and conditional expressions (4.5.7), and how deep brackets are judged.
use Rattle.name_rules.specs.Aggregates.{ByPosition, aggregate, contents}
use Rattle.name_rules.specs.Attributes.{alone}
use Rattle.name_rules.specs.Expressions.{Inside, condition, expr, in_place}
use Rattle.syntax_tree.specs.FirstTokens as first_token
use Rattle.name_rules.specs.Found.{Found, With, composite, opened, scalar, static, text_found, universal}
use Rattle.name_rules.specs.Iterations.{sequence}
use Rattle.name_rules.specs.Judging.{Judging, both, fault, given, joined, pure, some, ◌>>=◌}
use Rattle.name_rules.specs.Operators.{open_of}
use Rattle.name_rules.specs.Parts.{name, value_named}
use Rattle.name_rules.specs.Symbols.{number, text}
use Rattle.name_rules.specs.Types.{typed_scalar}
use Rattle.name_rules.specs.Values.{asked, composite_asked, joint, kind_of, mentions_of, value_of}
use Rattle.name_rules.specs.declared.found.Found.TheVariants as known
use Rattle.name_rules.specs.declared.found.Found.{Found as Known}
use Rattle.name_rules.specs.declared.found.Limits.{Limits}
use Rattle.name_rules.specs.declared.log.Bound.TheVariants as bound
use Rattle.name_rules.specs.declared.log.Rule.TheVariants.{Limit, NotVisible, WrongType}
use Rattle.name_rules.specs.declared.scope.Context.{Context}
use Rattle.name_rules.specs.declared.scope.Names.{Names}
use Rattle.name_rules.specs.declared.scope.Target.TheVariants as target
use Rattle.name_rules.specs.declared.scope.Target.{Target}
use Rattle.name_rules.specs.declared.types.Kind.{Kind}
use Rattle.name_rules.specs.declared.types.Subtype.TheVariants as subtype
use Rattle.name_rules.specs.declared.types.Subtype.{Subtype}
use Rattle.name_rules.specs.declared.types.Wanted.TheVariants as wanted
use Rattle.name_rules.specs.declared.types.Wanted.{Wanted}
use Rattle.syntax_tree.specs.Syntax as syntax
use Rattle.syntax_tree.specs.Syntax.{Elsifs, Expr, Primary}
use Rattle.typed_tree.specs.Decoded as part
use Rattle.typed_tree.specs.Syntax as typed
use Rattle.std.specs.Prelude.{List, None, Option, Some, [], false, option_map, suc, true, zero, ℕ, ℤ, ◌∷◌}
use Rattle.name_rules.specs.TypedParts.{pair, left_of, right_of, also}
use Rattle.typed_tree.specs.Decoded.{TypedPart, as_expr}

-- ---- conditional expressions: conditions and values as they were found, the last first, wait for their type

abbrev pub number_of_composite : Subtype → Option ℕ
number_of_composite (subtype.Scalar s) = None
number_of_composite (subtype.Composite n) = Some n

abbrev pub composite_in : Known → Option ℕ
composite_in (known.Composite first n) = Some n
composite_in (known.Object p) = number_of_composite p.subtype
composite_in _ = None

-- what is known of the values, with the conditions and values
abbrev pub Waiting : Type 0
Waiting = With (List Known)

abbrev pub also_waiting : Waiting → TypedPart → Found → Waiting
also_waiting w x f = record { known = f.known ∷ w.known; part = also w.part (pair x f.part) }

abbrev pub also_choice : Option Waiting → Option TypedPart → Option Found → Option Waiting
also_choice (Some w) (Some x) (Some f) = Some (also_waiting w x f)
also_choice _ _ _ = None

unfoldable pub alternative : Names → Inside → Context → Wanted → Option Waiting → Expr → Expr → Judging (Option Waiting)
alternative names level here want done c v = do
  x ← condition names level here c
  y ← expr names level here want v
  pure (also_choice done x y)

abbrev pub alternatives : Names → Inside → Context → Wanted → Option Waiting → Elsifs → Judging (Option Waiting)
alternatives names level here want done syntax.NoElsif = pure done
alternatives names level here want done (syntax.AlsoElsif (syntax.elsif at c v) es) = alternative names level here want done c v >>= λ d. alternatives names level here want d es

-- the type of a value, a scalar one or that of an array or record, or else the one that is behind it
abbrev pub type_or : Option Kind × Option ℕ → Option Kind → Option ℕ → Option Kind × Option ℕ
type_or behind (Some k) n = (Some k, None)
type_or behind None (Some n) = (None, Some n)
type_or behind None None = behind

abbrev pub type_of : Known → Option Kind × Option ℕ
type_of f = (kind_of f, composite_in f)

-- the type of the first value that has one
abbrev pub common : List Known → Option Kind × Option ℕ → Option Kind × Option ℕ
common [] behind = behind
common (f ∷ fs) behind = common fs (type_or behind (kind_of f) (composite_in f))

abbrev pub common_type : Waiting → Found → Option Kind × Option ℕ
common_type w f = common w.known (type_of f.known)

abbrev pub if_part : TypedPart → TypedPart → TypedPart → TypedPart
if_part c v o = part.AnExpr (typed.If (as_expr c) (as_expr v) (as_expr o))

abbrev pub with_known : Known → TypedPart → Found
with_known f x = record { known = f; part = x }

-- E06: a value of another type than the first that has one, at its first token; from the last value on
abbrev pub scalar_ifs : Kind → List Known → TypedPart → Option TypedPart → Judging (Option TypedPart)
scalar_ifs k [] ps o = pure o
scalar_ifs k (f ∷ fs) ps o = asked k (record { known = f; part = right_of (left_of ps) }) >>= λ v. scalar_ifs k fs (right_of ps) (joined (if_part (left_of (left_of ps))) v o)

unfoldable pub scalar_if : ℕ → Kind → Waiting → Found → Judging (Option Found)
scalar_if bracket k w f = do
  o ← asked k f
  e ← scalar_ifs k w.known w.part o
  pure (option_map (with_known (known.Scalar bracket k None)) e)

abbrev pub composite_part : TypedPart → TypedPart → TypedPart → TypedPart
composite_part c v o = part.AComposite (typed.CompositeIf (as_expr c) (part.as_composite v) (part.as_composite o))

abbrev pub composite_ifs : ℕ → List Known → TypedPart → Option TypedPart → Judging (Option TypedPart)
composite_ifs n [] ps o = pure o
composite_ifs n (f ∷ fs) ps o = composite_asked n (record { known = f; part = right_of (left_of ps) }) >>= λ v. composite_ifs n fs (right_of ps) (joined (composite_part (left_of (left_of ps))) v o)

unfoldable pub composite_if : ℕ → ℕ → Waiting → Found → Judging (Option Found)
composite_if bracket n w f = do
  o ← composite_asked n f
  c ← composite_ifs n w.known w.part o
  pure (option_map (with_known (known.Composite bracket n)) c)

-- all universal: it is universal too
abbrev pub open_part : TypedPart → Limits × TypedPart → Limits × TypedPart → Limits × TypedPart
open_part c v o = (joint v.0 o.0, if_part c v.1 o.1)

abbrev pub open_ifs : List Known → TypedPart → Option (Limits × TypedPart) → Option (Limits × TypedPart)
open_ifs [] ps o = o
open_ifs (f ∷ fs) ps o = open_ifs fs (right_of ps) (joined (open_part (left_of (left_of ps))) (open_of (record { known = f; part = right_of (left_of ps) })) o)

abbrev pub open_if : ℕ → Limits × TypedPart → Found
open_if bracket e = record { known = known.Open bracket e.0; part = e.1 }

abbrev pub conditional : ℕ → Waiting → Found → Option Kind → Option ℕ → Judging (Option Found)
conditional bracket w f (Some k) n = scalar_if bracket k w f
conditional bracket w f None (Some n) = composite_if bracket n w f
conditional bracket w f None None = pure (option_map (open_if bracket) (open_ifs w.known w.part (open_of f)))

-- a conditional expression of strings is a wrong type at the string
abbrev pub no_text : Wanted → Wanted
no_text wanted.Text = wanted.Other
no_text want = want

unfoldable pub if_expr : Names → Inside → Context → Wanted → ℕ → Expr → Expr → Elsifs → Expr → Judging (Option Found)
if_expr names level here want bracket c v more o = do
  d ← alternative names level here want (Some (record { known = []; part = part.Nothing })) c v
  ds ← alternatives names level here want d more
  f ← expr names level here want o
  both ds f (λ w x. conditional bracket w x (common_type w x).0 (common_type w x).1)

-- ---- brackets, which make an expression no name

abbrev pub grouped_scalar : ℕ → Found → Option Kind → Option ℕ → Judging (Option Found)
grouped_scalar bracket f (Some k) n = asked k f >>= λ x. given x (λ e. some (scalar bracket k None (typed.Group (as_expr e))))
grouped_scalar bracket f None (Some n) = composite_asked n f >>= λ c. pure (option_map (with_known (known.Composite bracket n)) c)
grouped_scalar bracket f None None = pure None

-- a static expression of a type stays static
abbrev pub grouped_by : ℕ → Found → Option Kind → Option ℤ → Judging (Option Found)
grouped_by bracket f (Some k) (Some z) = some (static bracket k z (mentions_of f))
grouped_by bracket f k z = grouped_scalar bracket f k (composite_in f.known)

abbrev pub grouped_form : ℕ → Known → TypedPart → Judging (Option Found)
grouped_form bracket (known.Universal first z alone) x = some (with_known (known.Universal bracket z false) x)
grouped_form bracket (known.Open first l) x = some (opened bracket l (typed.Group (as_expr x)))
grouped_form bracket (known.Text first) x = some (with_known (known.Text bracket) x)
grouped_form bracket f x = grouped_by bracket (with_known f x) (kind_of f) (value_of f)

unfoldable pub grouped : ℕ → Found → Judging (Option Found)
grouped bracket f = grouped_form bracket f.known f.part

-- ---- `@`, the target of the assignment around it (5.2.1)

abbrev pub target_found : ℕ → Subtype → Found
target_found at (subtype.Scalar s) = scalar at s.kind (Some s) (typed.Target at (typed_scalar s))
target_found at (subtype.Composite n) = composite at n (typed.WholeTarget at n)

-- E05 NotVisible: `@` outside an assignment's expression
abbrev pub target_at : ℕ → Target → Judging (Option Found)
target_at at target.Nothing = fault at NotVisible
target_at at target.Faulty = pure None
target_at at (target.Of s) = some (target_found at s)

-- E06: a string elsewhere than in Put or Put_Line
abbrev pub text_at : Names → ℕ → Wanted → Judging (Option Found)
text_at names at wanted.Text = some (text_found at (also part.Nothing (part.APiece (typed.Text (text names at)))))
text_at names at want = fault at WrongType

-- ---- primaries

unfoldable pub primary : Names → Inside → Context → Primary → Wanted → Judging (Option Found)
primary names inside here (syntax.Number at) want = some (universal at (number names at) true part.Nothing)
primary names inside here (syntax.Text at) want = text_at names at want
primary names inside here (syntax.Target at) want = target_at at here.target
primary names inside here (syntax.Named n) want = value_named names inside here n >>= λ x. given x (λ f. in_place want f.known f)
primary names inside here (syntax.Group bracket e) want = expr names inside here want e >>= λ x. given x (grouped bracket)
primary names inside here (syntax.If bracket at c v more o) want = if_expr names inside here (no_text want) bracket c v more o
primary names inside here (syntax.Round bracket many) want = aggregate names inside here want bracket (contents many)
primary names inside here (syntax.Square bracket many) want = aggregate names inside here want bracket (contents many)
primary names inside here (syntax.OneValue bracket e) want = aggregate names inside here want bracket (ByPosition (syntax.AlsoExpr e syntax.NoExpr) syntax.AbsentExpr)
primary names inside here (syntax.Reduction bracket p at i v a r o) want = sequence names inside here bracket p i v a r o

-- ---- levels of brackets

-- what is judged where what its brackets hold is judged so
abbrev pub level_above : Names → Inside → Inside
level_above names inside = record { primary = primary names inside; name = name names inside }

-- E12: the limit of depth, beyond which nothing is judged
abbrev pub too_deep : {A : Type 0} → ℕ → Judging (Option A)
too_deep at = fault at (Limit bound.Levels)

abbrev pub deep : Inside
deep = record { primary = λ here p want. too_deep (first_token.of_primary p); name = λ here n. too_deep (first_token.of_name n) }

-- how primaries and names are judged in so many brackets less one as may still be open
unfoldable pub inside : Names → ℕ → Inside
inside names zero = deep
inside names (suc n) = level_above names (inside names n)
