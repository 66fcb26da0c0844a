-- Aggregates (4.3): of records, and of arrays one dimension after the other.
use Rattle.name_rules.specs.Attributes.{alone}
use Rattle.name_rules.specs.Expressions.{Inside, expr, judged_alone, value_for}
use Rattle.syntax_tree.specs.FirstTokens as first_token
use Rattle.name_rules.specs.Found.{Found}
use Rattle.name_rules.specs.Judging.{Judging, breaks, fault, given, joined, pure, read, some, unless, where_clean, ◌>>=◌}
use Rattle.name_rules.specs.Names.{count, index, is_record}
use Rattle.name_rules.specs.Parts.{name, new_parameter}
use Rattle.name_rules.specs.Ranges.{Chosen, Static, chosen_span, chosen_value, static_range}
use Rattle.name_rules.specs.Scope.{with_entry}
use Rattle.name_rules.specs.Shapes.{identifier_of_choice, is_aggregate}
use Rattle.name_rules.specs.Symbols.{symbol}
use Rattle.name_rules.specs.Types.{array_cells, cells_in, cells_of_shape, component_of, dimensions_of, extent, fields_of, same, shape_in}
use Rattle.name_rules.specs.declared.found.Found.TheVariants as known
use Rattle.name_rules.specs.declared.found.Found.{Found as Known}
use Rattle.name_rules.specs.declared.log.Dimension.{Dimension}
use Rattle.name_rules.specs.declared.log.Field.{Field}
use Rattle.name_rules.specs.declared.log.Log.{Log}
use Rattle.name_rules.specs.declared.log.Rule.TheVariants.{StaticRange, Twice, Unknown, WrongType}
use Rattle.name_rules.specs.declared.log.Shape.{Shape}
use Rattle.name_rules.specs.declared.scope.Context.{Context}
use Rattle.name_rules.specs.declared.scope.Names.{Names}
use Rattle.name_rules.specs.declared.scope.What.TheVariants as what
use Rattle.name_rules.specs.declared.scope.What.{What}
use Rattle.name_rules.specs.declared.types.Kind.{Kind}
use Rattle.name_rules.specs.declared.types.Scalar.{Scalar}
use Rattle.name_rules.specs.declared.types.Subtype.{Subtype}
use Rattle.name_rules.specs.declared.types.Wanted.TheVariants as wanted
use Rattle.name_rules.specs.declared.types.Wanted.{Wanted}
use Rattle.syntax_tree.specs.Syntax as syntax
use Rattle.syntax_tree.specs.Syntax.{Assoc, Assocs, Choice, Choices, Expr, Exprs, Many, OptionalExpr}
use Rattle.typed_tree.specs.Decoded as part
use Rattle.typed_tree.specs.Syntax as typed
use Rattle.typed_tree.specs.declared.expressions.Iterated.{Iterated}
use Rattle.typed_tree.specs.declared.expressions.Run.{Run}
use Rattle.std.specs.List.{list_all, list_any}
use Rattle.std.specs.Prelude.{Bool, List, None, Option, Some, [], drop, false, if◌then◌else◌, int_le, int_lt, length, not, option_map, pos, true, unsigned_abs, ℕ, ℤ, ◌&&◌, ◌*◌, ◌++◌, ◌+ℤ◌, ◌+◌, ◌-ℤ◌, ◌==◌, ◌||◌, ◌∷◌}
use Rattle.name_rules.specs.TypedParts.{also, also_all, exprs_of}
use Rattle.typed_tree.specs.Decoded.{TypedPart, as_associations}
use Rattle.typed_tree.specs.Latest.{turned}

-- ---- what stands in an aggregate's brackets

pub data Contents : Type 0 where
  ByPosition : Exprs → OptionalExpr → Contents
  ByAssociation : Assocs → Contents

abbrev pub contents : Many → Contents
contents (syntax.Positions a b more) = ByPosition (syntax.AlsoExpr a (syntax.AlsoExpr b more)) syntax.AbsentExpr
contents (syntax.PositionsOthers a b more at o) = ByPosition (syntax.AlsoExpr a (syntax.AlsoExpr b more)) (syntax.PresentExpr o)
contents (syntax.FirstOthers a at o) = ByPosition (syntax.AlsoExpr a syntax.NoExpr) (syntax.PresentExpr o)
contents (syntax.Associations a more) = ByAssociation (syntax.AlsoAssoc a more)

abbrev pub run : ℕ → ℕ → ℕ → Run
run first count apart = record { first = first; count = count; stride = apart }

-- associations so far, with one more
abbrev pub with_value : List Run → Option Iterated → TypedPart → TypedPart → TypedPart → TypedPart
with_value rs i ms done v = also done (part.AnAssociation (typed.Association rs i (exprs_of ms) (part.as_value v)))

abbrev pub aggregate_part : ℕ → ℕ → TypedPart → TypedPart
aggregate_part bracket cells done = part.AComposite (typed.Aggregate bracket cells (as_associations (turned done)))

-- ---- an aggregate of a record (4.3.1)

abbrev pub field_run : Log → Field → Run
field_run log f = run f.offset 1 (cells_in log f.subtype)

-- a value that stands for several components is evaluated for each of them, and judged for each
unfoldable pub field_value : Names → Inside → Context → Option TypedPart → Field → Expr → Judging (Option TypedPart)
field_value names level here done f e = do
  v ← value_for names level here f.subtype e
  r ← read (λ log. field_run log f)
  pure (joined (with_value (r ∷ []) None part.Nothing) done v)

abbrev pub fields_value : Names → Inside → Context → Option TypedPart → List Field → Expr → Judging (Option TypedPart)
fields_value names level here done [] e = pure done
fields_value names level here done (f ∷ fs) e = field_value names level here done f e >>= λ a. fields_value names level here a fs e

-- for no component it is judged for itself
abbrev pub some_fields : Names → Inside → Context → Option TypedPart → List Field → Expr → Judging (Option TypedPart)
some_fields names level here done [] e = judged_alone names level here e >>= λ u. pure done
some_fields names level here done fs e = fields_value names level here done fs e

-- what was given of a record so far: the associations, the components that aren't given, whether there are too many
pub record Filling : Type 0 where
  pub done : Option TypedPart
  pub left : List Field
  pub over : Bool

abbrev pub filling : Option TypedPart → List Field → Bool → Filling
filling x fs b = record { done = x; left = fs; over = b }

abbrev pub by_position : Names → Inside → Context → List Field → Filling → Expr → Judging Filling
by_position names level here [] f e = judged_alone names level here e >>= λ u. pure (filling f.done [] true)
by_position names level here (g ∷ gs) f e = field_value names level here f.done g e >>= λ a. pure (filling a gs f.over)

-- E05 Unknown: a component that the record doesn't have; E05 Twice: a component given twice
abbrev pub has_symbol : ℕ → List Field → Bool
has_symbol name fs = list_any (λ f. f.symbol == name) fs

abbrev pub without : ℕ → List Field → List Field
without name [] = []
without name (f ∷ fs) = if f.symbol == name then without name fs else f ∷ without name fs

abbrev pub one_field : ℕ → List Field → List Field
one_field name [] = []
one_field name (f ∷ fs) = if f.symbol == name then f ∷ [] else one_field name fs

-- the components that choices name, and those left
abbrev pub named_field : Names → List Field → List Field → List Field → ℕ → Judging (List Field × List Field)
named_field names all left taken token =
    if not (has_symbol (symbol names token) all) then (breaks token Unknown >>= λ u. pure (taken, left)) else
    if not (has_symbol (symbol names token) left) then (breaks token Twice >>= λ u. pure (taken, left)) else
    pure (taken ++ one_field (symbol names token) left, without (symbol names token) left)

abbrev pub first_of_choice : Choice → ℕ
first_of_choice (syntax.Value s) = first_token.of_simple s
first_of_choice (syntax.Span low high) = first_token.of_simple low
first_of_choice (syntax.Others at) = at

abbrev pub value_choice : Names → List Field → List Field → List Field → ℕ → Option ℕ → Judging (List Field × List Field)
value_choice names all left taken first None = breaks first WrongType >>= λ u. pure (taken, left)
value_choice names all left taken first (Some token) = named_field names all left taken token

abbrev pub field_choice : Names → List Field → Bool → Bool → List Field → List Field → Choice → Judging (List Field × List Field)
field_choice names all alone last left taken (syntax.Others at) = unless (alone && last) at StaticRange >>= λ u. pure (taken ++ left, [])
field_choice names all alone last left taken c = value_choice names all left taken (first_of_choice c) (identifier_of_choice c)

abbrev pub field_choices : Names → List Field → Bool → Bool → List Field → List Field → Choices → Judging (List Field × List Field)
field_choices names all alone last left taken syntax.NoChoice = pure (taken, left)
field_choices names all alone last left taken (syntax.AlsoChoice c cs) = field_choice names all alone last left taken c >>= λ r. field_choices names all alone last r.1 r.0 cs

abbrev pub is_alone : Choices → Bool
is_alone syntax.NoChoice = true
is_alone cs = false

abbrev pub record_assoc : Names → Inside → Context → List Field → Bool → Filling → Assoc → Judging Filling
record_assoc names level here all last f (syntax.Chosen c cs e) = do
  r ← field_choices names all (is_alone cs) last f.left [] (syntax.AlsoChoice c cs)
  x ← some_fields names level here f.done r.0 e
  pure (filling x r.1 f.over)
record_assoc names level here all last f (syntax.Each at index r e) = breaks at WrongType >>= λ u. pure f

abbrev pub is_final : Assocs → Bool
is_final syntax.NoAssoc = true
is_final as' = false

abbrev pub record_assocs : Names → Inside → Context → List Field → Filling → Assocs → Judging Filling
record_assocs names level here all f syntax.NoAssoc = pure f
record_assocs names level here all f (syntax.AlsoAssoc a as') = record_assoc names level here all (is_final as') f a >>= λ g. record_assocs names level here all g as'

abbrev pub record_values : Names → Inside → Context → Filling → Exprs → Judging Filling
record_values names level here f syntax.NoExpr = pure f
record_values names level here f (syntax.AlsoExpr e es) = by_position names level here f.left f e >>= λ g. record_values names level here g es

abbrev pub record_rest : Names → Inside → Context → Filling → OptionalExpr → Judging Filling
record_rest names level here f syntax.AbsentExpr = pure f
record_rest names level here f (syntax.PresentExpr e) = some_fields names level here f.done f.left e >>= λ x. pure (filling x [] f.over)

abbrev pub record_parts : Names → Inside → Context → List Field → Contents → Judging Filling
record_parts names level here all (ByPosition es o) = record_values names level here (filling (Some part.Nothing) all false) es >>= λ f. record_rest names level here f o
record_parts names level here all (ByAssociation as') = record_assocs names level here all (filling (Some part.Nothing) all false) as'

-- E07 StaticRange: an aggregate that doesn't give each component exactly once, at its bracket
abbrev pub filled : ℕ → ℕ → Filling → Judging (Option TypedPart)
filled bracket cells f = if f.over || not (length f.left == 0) then fault bracket StaticRange else pure (option_map (aggregate_part bracket cells) f.done)

-- ---- an aggregate of an array (4.3.3)

abbrev pub insert : ℤ × ℤ → List (ℤ × ℤ) → List (ℤ × ℤ)
insert r [] = r ∷ []
insert r (s ∷ ss) = if int_le r.0 s.0 then r ∷ s ∷ ss else s ∷ insert r ss

abbrev pub sorted : List (ℤ × ℤ) → List (ℤ × ℤ)
sorted [] = []
sorted (r ∷ rs) = insert r (sorted rs)

-- what is left open of low .. high by parts that are in order, or None where they overlap or lie outside
abbrev pub left_open : ℤ → ℤ → List (ℤ × ℤ) → Option (List (ℤ × ℤ))
left_open low high [] = if int_le low high then Some ((low, high) ∷ []) else Some []
left_open low high (r ∷ rs) =
    if int_lt r.0 low || int_lt high r.1 then None else
    (if int_le r.0 low then left_open (r.1 +ℤ pos 1) high rs else option_map (λ os. (low, r.0 -ℤ pos 1) ∷ os) (left_open (r.1 +ℤ pos 1) high rs))

-- how many values there are from low to high
abbrev pub count_of : ℤ × ℤ → ℕ
count_of r = if int_le r.0 r.1 then unsigned_abs (r.1 -ℤ r.0) + 1 else 0

-- the run of the components with these indexes
abbrev pub span_run : Dimension → ℕ → ℤ × ℤ → Run
span_run d apart r = run (unsigned_abs (r.0 -ℤ d.low) * apart) (count_of r) apart

-- the runs of these ranges: one without a value has none; with one that lies outside the dimension there are none at all,
-- since that is a fault in the end
abbrev pub not_empty : ℤ × ℤ → Bool
not_empty r = int_le r.0 r.1

abbrev pub is_within : Dimension → ℤ × ℤ → Bool
is_within d r = int_le d.low r.0 && int_le r.1 d.high

abbrev pub with_run : Dimension → ℕ → ℤ × ℤ → Option (List Run) → Option (List Run)
with_run d apart r rs = if not (not_empty r) then rs else if is_within d r then option_map (λ xs. span_run d apart r ∷ xs) rs else None

abbrev pub runs_of : Dimension → ℕ → List (ℤ × ℤ) → Option (List Run)
runs_of d apart [] = Some []
runs_of d apart (r ∷ rs) = with_run d apart r (runs_of d apart rs)

abbrev pub with_runs : Option Iterated → TypedPart → Option (List Run) → Option TypedPart → Option TypedPart → Option TypedPart
with_runs i ms None before v = None
with_runs i ms (Some rs) before v = joined (with_value rs i ms) before v

-- what was given of a dimension so far: the ranges, the associations, and the value of the rest, which comes last
pub record Placing : Type 0 where
  pub ranges : List (ℤ × ℤ)
  pub done : Option TypedPart
  pub rest : Option (Option TypedPart)

abbrev pub with_ranges : Dimension → ℕ → Option Iterated → TypedPart → Placing → List (ℤ × ℤ) → Option TypedPart → Placing
with_ranges d apart i ms p rs v = record { ranges = p.ranges ++ rs; done = with_runs i ms (runs_of d apart rs) p.done v; rest = p.rest }

abbrev pub with_rest : Placing → Option TypedPart → Placing
with_rest p v = record p { rest = Some v }

abbrev pub nothing_placed : Placing
nothing_placed = record { ranges = []; done = Some part.Nothing; rest = None }

-- a value of the dimensions behind the first: a component, or an aggregate of them
abbrev pub Component : Type 0
Component = Context → Expr → Judging (Option TypedPart)

-- the choices of an association: their ranges, whether they are the rest, and what they mention
pub record Choosing' : Type 0 where
  pub ranges : List (ℤ × ℤ)
  pub rest : Bool
  pub mentions : TypedPart

abbrev pub also_chosen : Choosing' → Chosen → Choosing'
also_chosen c x = record { ranges = c.ranges ++ (x.known.low, x.known.high) ∷ []; rest = c.rest; mentions = also_all c.mentions x.part }

abbrev pub as_rest : Choosing' → Choosing'
as_rest c = record c { rest = true }

-- E07 StaticRange: an `others` that isn't alone in its choices and last, at the word
abbrev pub array_choice : Inside → Context → Kind → Bool → Bool → Option Choosing' → Choice → Judging (Option Choosing')
array_choice level here k alone last done (syntax.Value s) = chosen_value level here (Some k) s >>= λ c. pure (joined also_chosen done c)
array_choice level here k alone last done (syntax.Span low high) = chosen_span level here (Some k) low high >>= λ c. pure (joined also_chosen done c)
array_choice level here k alone last done (syntax.Others at) = unless (alone && last) at StaticRange >>= λ u. pure (option_map as_rest done)

abbrev pub array_choices : Inside → Context → Kind → Bool → Bool → Option Choosing' → Choices → Judging (Option Choosing')
array_choices level here k alone last done syntax.NoChoice = pure done
array_choices level here k alone last done (syntax.AlsoChoice c cs) = array_choice level here k alone last done c >>= λ r. array_choices level here k alone last r cs

-- the index of an iterated association is a constant of the index type
abbrev pub index_scalar : Dimension → Scalar
index_scalar r = record { kind = r.kind; low = r.low; high = r.high }

abbrev pub index_what : ℕ → Option Static → What
index_what n None = what.Broken
index_what n (Some r) = what.Parameter n (index_scalar r.known)

abbrev pub of_index_type : Kind → ℕ → Static → Judging (Option Static)
of_index_type k first r = if same r.known.kind k then some r else fault first WrongType

abbrev pub broken_placing : Placing → Placing
broken_placing p = record p { done = None }

abbrev pub iterated_given : Dimension → ℕ → ℕ → Placing → Option Static → Option TypedPart → Placing
iterated_given d apart n p None v = broken_placing p
iterated_given d apart n p (Some r) v = with_ranges d apart (Some (record { parameter = n; first = r.known.low })) r.part p ((r.known.low, r.known.high) ∷ []) v

abbrev pub chosen_given : Dimension → ℕ → Placing → Option Choosing' → Option TypedPart → Placing
chosen_given d apart p None v = broken_placing p
chosen_given d apart p (Some c) v = if c.rest then with_rest p v else with_ranges d apart None c.mentions p c.ranges v

unfoldable pub array_assoc : Names → Inside → Context → Component → Dimension → ℕ → Bool → Placing → Assoc → Judging Placing
array_assoc names level here component d apart last p (syntax.Chosen c cs e) = do
  r ← array_choices level here d.kind (is_alone cs) last (Some (record { ranges = []; rest = false; mentions = part.Nothing })) (syntax.AlsoChoice c cs)
  v ← component here e
  pure (chosen_given d apart p r v)
array_assoc names level here component d apart last p (syntax.Each at index r e) = do
  x ← static_range level here false (Some d.kind) r
  s ← given x (of_index_type d.kind (first_token.of_range r))
  n ← new_parameter
  v ← component (with_entry here (symbol names index) (index_what n s)) e
  pure (iterated_given d apart n p s v)

abbrev pub array_assocs : Names → Inside → Context → Component → Dimension → ℕ → Placing → Assocs → Judging Placing
array_assocs names level here component d apart p syntax.NoAssoc = pure p
array_assocs names level here component d apart p (syntax.AlsoAssoc a as') = array_assoc names level here component d apart (is_final as') p a >>= λ q. array_assocs names level here component d apart q as'

abbrev pub array_values : Context → Component → Dimension → ℕ → ℤ → Placing → Exprs → Judging Placing
array_values here component d apart z p syntax.NoExpr = pure p
array_values here component d apart z p (syntax.AlsoExpr e es) = component here e >>= λ v. array_values here component d apart (z +ℤ pos 1) (with_ranges d apart None part.Nothing p ((z, z) ∷ []) v) es

abbrev pub array_rest : Context → Component → OptionalExpr → Placing → Judging Placing
array_rest here component syntax.AbsentExpr p = pure p
array_rest here component (syntax.PresentExpr e) p = component here e >>= λ v. pure (with_rest p v)

abbrev pub array_placed : Names → Inside → Context → Component → Dimension → ℕ → Contents → Judging Placing
array_placed names level here component d apart (ByPosition es o) = array_values here component d apart d.low nothing_placed es >>= array_rest here component o
array_placed names level here component d apart (ByAssociation as') = array_assocs names level here component d apart nothing_placed as'

-- what these ranges leave open of low .. high, or None where they don't fit: one without a value may only stand as the one
-- choice of the one association (4.3.3), where it leaves all of a dimension open, which has a value
abbrev pub gaps_of : ℤ → ℤ → List (ℤ × ℤ) → Option (List (ℤ × ℤ))
gaps_of low high rs = if list_all not_empty rs then left_open low high (sorted rs) else None

-- E07 StaticRange: a component that isn't given exactly once, at the bracket
abbrev pub covered_alone : ℕ → ℕ → Option TypedPart → List (ℤ × ℤ) → Judging (Option TypedPart)
covered_alone bracket cells done os = if length os == 0 then pure (option_map (aggregate_part bracket cells) done) else fault bracket StaticRange

-- the rest takes what is left open
abbrev pub covered : ℕ → Dimension → ℕ → ℕ → Placing → Option (List (ℤ × ℤ)) → Option (Option TypedPart) → Judging (Option TypedPart)
covered bracket d apart cells p None v = fault bracket StaticRange
covered bracket d apart cells p (Some os) None = covered_alone bracket cells p.done os
covered bracket d apart cells p (Some os) (Some v) = pure (option_map (aggregate_part bracket cells) (with_runs None part.Nothing (runs_of d apart os) p.done v))

-- one dimension of an array
unfoldable pub dimension_of : Names → Inside → Context → ℕ → Component → Dimension → ℕ → Contents → Judging (Option TypedPart)
dimension_of names level here bracket component d apart ps =
    where_clean (array_placed names level here component d apart ps) (λ p. covered bracket d apart (extent d * apart) p (gaps_of d.low d.high p.ranges) p.rest)

-- E06: no aggregate where one of the dimensions behind must stand
abbrev pub no_aggregate : Names → Inside → Context → Expr → Judging (Option TypedPart)
no_aggregate names level here e = expr names level here wanted.Other e >>= λ x. given x (λ f. fault (first_token.of_expr e) WrongType)

abbrev pub inner_value : Known → TypedPart → Option TypedPart
inner_value (known.Rest first) x = Some (part.AValue (typed.Cells (part.as_composite x)))
inner_value f x = None

abbrev pub inner_aggregate : Names → Inside → Context → ℕ → ℕ → Expr → Bool → Judging (Option TypedPart)
inner_aggregate names level here n i e false = no_aggregate names level here e
inner_aggregate names level here n i e true = expr names level here (wanted.Rest n i) e >>= λ x. given x (λ f. pure (inner_value f.known f.part))

-- what stands in the last dimension is a component; in another an aggregate of the dimensions behind
abbrev pub is_last : List Dimension → Bool
is_last [] = true
is_last ds = false

abbrev pub component_at : Names → Inside → ℕ → ℕ → Bool → Subtype → Component
component_at names level n i true s = λ here e. value_for names level here s e
component_at names level n i false s = λ here e. inner_aggregate names level here n (i + 1) e (is_aggregate e)

abbrev pub array_at : Names → Inside → Context → ℕ → ℕ → ℕ → List Dimension → Subtype → ℕ → Contents → Judging (Option TypedPart)
array_at names level here bracket n i [] s cells ps = fault bracket WrongType
array_at names level here bracket n i (d ∷ ds) s cells ps = dimension_of names level here bracket (component_at names level n i (is_last ds) s) d (array_cells ds cells) ps

-- ---- an aggregate where its type is known, and where it isn't

abbrev pub array_of : Names → Inside → Context → ℕ → ℕ → ℕ → Log → List Dimension → Option Subtype → Contents → Judging (Option TypedPart)
array_of names level here bracket n i log ds None ps = fault bracket WrongType
array_of names level here bracket n i log ds (Some s) ps = array_at names level here bracket n i (drop i ds) s (cells_in log s) ps

abbrev pub composite_at : Names → Inside → Context → ℕ → ℕ → ℕ → Log → Option Shape → Contents → Judging (Option TypedPart)
composite_at names level here bracket n i log t ps =
    if is_record t then where_clean (record_parts names level here (fields_of t) ps) (filled bracket (cells_of_shape t)) else
    array_of names level here bracket n i log (dimensions_of t) (component_of t) ps

-- the expressions in an aggregate, each for itself
abbrev pub exprs_alone : Names → Inside → Context → Exprs → Judging (Unit {0})
exprs_alone names level here syntax.NoExpr = pure tt
exprs_alone names level here (syntax.AlsoExpr e es) = judged_alone names level here e >>= λ u. exprs_alone names level here es

abbrev pub optional_alone : Names → Inside → Context → OptionalExpr → Judging (Unit {0})
optional_alone names level here syntax.AbsentExpr = pure tt
optional_alone names level here (syntax.PresentExpr e) = judged_alone names level here e

abbrev pub assoc_value : Assoc → Expr
assoc_value (syntax.Chosen c cs e) = e
assoc_value (syntax.Each at index r e) = e

abbrev pub assocs_alone : Names → Inside → Context → Assocs → Judging (Unit {0})
assocs_alone names level here syntax.NoAssoc = pure tt
assocs_alone names level here (syntax.AlsoAssoc a as') = judged_alone names level here (assoc_value a) >>= λ u. assocs_alone names level here as'

abbrev pub contents_alone : Names → Inside → Context → Contents → Judging (Unit {0})
contents_alone names level here (ByPosition es o) = exprs_alone names level here es >>= λ u. optional_alone names level here o
contents_alone names level here (ByAssociation as') = assocs_alone names level here as'

abbrev pub composite_found : ℕ → ℕ → TypedPart → Found
composite_found bracket n x = record { known = known.Composite bracket n; part = x }

abbrev pub rest_found : ℕ → TypedPart → Found
rest_found bracket x = record { known = known.Rest bracket; part = x }

-- E06: an aggregate where its type isn't known from its place, at its bracket
unfoldable pub aggregate : Names → Inside → Context → Wanted → ℕ → Contents → Judging (Option Found)
aggregate names level here (wanted.Composite n) bracket ps = λ log. (composite_at names level here bracket n 0 log (shape_in log n) ps >>= λ c. pure (option_map (composite_found bracket n) c)) log
aggregate names level here (wanted.Rest n i) bracket ps = λ log. (composite_at names level here bracket n i log (shape_in log n) ps >>= λ c. pure (option_map (rest_found bracket) c)) log
aggregate names level here wanted.Unknown bracket ps = pure None
aggregate names level here _ bracket ps = where_clean (contents_alone names level here ps) (λ u. fault bracket WrongType)
