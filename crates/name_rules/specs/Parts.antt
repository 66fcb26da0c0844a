-- What a name denotes (4.1): its identifier, and what follows that from left to right.
use Rattle.name_rules.specs.Attributes.{attribute_at, attribute_found, bound_with, dimensions_in, is_array_object, is_bound, is_reduction, mentioned, prefix_subtype, scalar_with, settled_attribute}
use Rattle.name_rules.specs.Calls.{conversion, sub_call}
use Rattle.name_rules.specs.Expressions.{Inside, expr}
use Rattle.name_rules.specs.Found.{Denoted, Found, denote, parameter_found, value_denoted}
use Rattle.name_rules.specs.Judging.{Judging, both, fault, given, pure, read, some, where_clean, ◌>>=◌}
use Rattle.name_rules.specs.Names.{args_alone, component_cells, denoted_first, field, object_call, wrong_call}
use Rattle.name_rules.specs.Output.{io_call}
use Rattle.name_rules.specs.Reducers.{folded_by, reducer_of}
use Rattle.name_rules.specs.Scope.{item, stands_for}
use Rattle.name_rules.specs.Symbols.{symbol}
use Rattle.name_rules.specs.Types.{cells_of_shape, component_of, dimensions_of, shape_in}
use Rattle.name_rules.specs.declared.found.Attribute.TheVariants as attribute'
use Rattle.name_rules.specs.declared.found.Attribute.{Attribute}
use Rattle.name_rules.specs.declared.found.Denoted.TheVariants as denoted
use Rattle.name_rules.specs.declared.found.Denoted.{Denoted as KnownDenoted}
use Rattle.name_rules.specs.declared.found.Found.TheVariants as known
use Rattle.name_rules.specs.declared.found.ObjectName.{ObjectName}
use Rattle.name_rules.specs.declared.found.Prefix.TheVariants as prefix
use Rattle.name_rules.specs.declared.found.Prefix.{Prefix}
use Rattle.name_rules.specs.declared.log.Log.{Log}
use Rattle.name_rules.specs.declared.log.Rule.TheVariants.{ReduceRule, WrongType}
use Rattle.name_rules.specs.declared.log.Shape.{Shape}
use Rattle.name_rules.specs.declared.scope.Context.{Context}
use Rattle.name_rules.specs.declared.scope.Names.{Names}
use Rattle.name_rules.specs.declared.types.Subtype.TheVariants as subtype
use Rattle.name_rules.specs.declared.types.Subtype.{Subtype}
use Rattle.name_rules.specs.declared.types.Wanted.TheVariants as wanted
use Rattle.syntax_tree.specs.Syntax as syntax
use Rattle.syntax_tree.specs.Syntax.{Args, Expr, Name, NamePart, NameParts}
use Rattle.typed_tree.specs.Decoded as part
use Rattle.typed_tree.specs.Syntax as typed
use Rattle.typed_tree.specs.Syntax.{Iteration, Optional, Selections}
use Rattle.typed_tree.specs.declared.program.SiteKind.TheVariants as site
use Rattle.typed_tree.specs.declared.program.SiteKind.{SiteKind}
use Rattle.std.specs.Prelude.{Bool, None, Option, Some, [], false, if◌then◌else◌, length, not, option_map, true, ℕ, ◌++◌, ◌+◌, ◌/◌, ◌∷◌}
use Rattle.name_rules.specs.TypedParts.{selections_of}
use Rattle.typed_tree.specs.Decoded.{TypedPart}

-- ---- numbers of constructs and of parameters, in the order of the text

abbrev pub new_parameter : Judging ℕ
new_parameter = λ log. (log.parameters, record log { parameters = log.parameters + 1 })

abbrev pub new_site : Context → ℕ → SiteKind → Judging ℕ
new_site here at k = λ log. (length log.sites, record log { sites = log.sites ++ record { at = at; around = here.owner; kind = k } ∷ [] })

-- ---- `A'Reduce (R, V)`, which is `[for X of A => X]'Reduce (R, V)` (4.5.10)

-- a parallel one is a construct of its own
abbrev pub site_where : Context → ℕ → Bool → Judging (Option ℕ)
site_where here at false = pure None
site_where here at true = new_site here at site.Reduction >>= λ n. pure (Some n)

abbrev pub array_shape : Log → Subtype → Option Shape
array_shape log (subtype.Scalar s) = None
array_shape log (subtype.Composite n) = shape_in log n

-- going through the components of an array
abbrev pub through : Log → ObjectName → Selections → Option Shape → ℕ → Optional → Iteration
through log p ss t n f =
    typed.Components n (not p.variable) p.first p.root ss (cells_of_shape t / component_cells log (component_of t)) (component_cells log (component_of t)) (length (dimensions_of t)) f

abbrev pub is_parallel : Attribute → Bool
is_parallel attribute'.ParallelReduce = true
is_parallel _ = false

abbrev pub item_subtype : Option Subtype → Subtype
item_subtype None = subtype.Composite 0
item_subtype (Some s) = s

abbrev pub item_found : ℕ → ℕ → Bool → Option Subtype → Found
item_found first n v s = record { known = known.Object (item first n (item_subtype s) v); part = part.Nothing }

abbrev pub array_reduction : Names → Inside → Context → ObjectName → Selections → ℕ → Attribute → Expr → Expr → Judging (Option Denoted)
array_reduction names inside here p ss at a r v = do
  construct ← site_where here p.first (is_parallel a)
  n ← new_parameter
  i ← read (λ log. through log p ss (array_shape log p.subtype) n typed.Absent)
  c ← read (λ log. component_of (array_shape log p.subtype))
  f ← reducer_of names inside here r
  x ← expr names inside here wanted.Other v
  y ← both f x (λ g. folded_by (record { at = p.first; attribute = at; site = construct }) part.Nothing (part.AnIteration i) g (item_found p.first n p.variable c))
  pure (option_map value_denoted y)

-- E06: other arguments than a reducer and an initial value, at the bracket
abbrev pub wrong_arguments : Names → Inside → Context → ℕ → Args → Judging (Option Denoted)
wrong_arguments names inside here bracket as' = where_clean (args_alone names inside here as') (λ u. fault bracket WrongType)

abbrev pub array_reduced : Names → Inside → Context → ObjectName → Selections → ℕ → Attribute → ℕ → Args → Judging (Option Denoted)
array_reduced names inside here p ss at a bracket (syntax.AlsoArg (syntax.arg None r) (syntax.AlsoArg (syntax.arg None v) syntax.NoArg)) = array_reduction names inside here p ss at a r v
array_reduced names inside here p ss at a bracket as' = wrong_arguments names inside here bracket as'

-- ---- an attribute with what stands in the bracket behind it

-- E11 ReduceRule: Reduce or Parallel_Reduce whose prefix isn't an array object, at the attribute's identifier
abbrev pub reduced_with : Names → Inside → Context → ℕ → Prefix → TypedPart → ℕ → Attribute → ℕ → Args → Bool → Judging (Option Denoted)
reduced_with names inside here first (prefix.Object p) x at a bracket as' true = array_reduced names inside here p (selections_of x) at a bracket as'
reduced_with names inside here first p x at a bracket as' _ = where_clean (args_alone names inside here as') (λ u. fault at ReduceRule)

abbrev pub of_array : Names → Inside → Context → ℕ → Prefix → TypedPart → ℕ → Attribute → ℕ → Args → Judging (Option Denoted)
of_array names inside here first p x at a bracket as' =
    if is_bound a then (read (λ log. dimensions_in log (prefix_subtype p)) >>= bound_with names inside here first (mentioned p x) a bracket as') else wrong_call names inside here first as'

abbrev pub other_with : Names → Inside → Context → ℕ → Prefix → TypedPart → ℕ → Attribute → ℕ → Args → Judging (Option Denoted)
other_with names inside here first (prefix.Type (subtype.Scalar s)) x at a bracket as' = scalar_with names inside here first s a bracket as'
other_with names inside here first p x at a bracket as' = of_array names inside here first p x at a bracket as'

abbrev pub attribute_with : Names → Inside → Context → ℕ → Prefix → TypedPart → ℕ → Attribute → ℕ → Args → Judging (Option Denoted)
attribute_with names inside here first p x at a bracket as' =
    if is_reduction a then (read (λ log. is_array_object log p) >>= reduced_with names inside here first p x at a bracket as')
    else other_with names inside here first p x at a bracket as'

-- ---- what follows an identifier

-- `X'Image (..)` of an object: the bracket isn't the attribute's
abbrev pub call_form : Names → Inside → Context → ℕ → Args → KnownDenoted → TypedPart → Judging (Option Denoted)
call_form names inside here bracket as' (denoted.Value (known.Object p)) x = object_call names inside here p x bracket as' p.subtype
call_form names inside here bracket as' (denoted.Type first s) x = conversion names inside here bracket first s as'
call_form names inside here bracket as' (denoted.Sub first last n) x = sub_call names inside here bracket first last n as'
call_form names inside here bracket as' (denoted.Io first last p r) x = io_call names inside here bracket first last p r as'
call_form names inside here bracket as' (denoted.Attribute first p at a) x = attribute_with names inside here first p x at a bracket as'
call_form names inside here bracket as' d x = wrong_call names inside here (denoted_first d) as'

unfoldable pub call : Names → Inside → Context → ℕ → Args → Denoted → Judging (Option Denoted)
call names inside here bracket as' d = call_form names inside here bracket as' d.known d.part

-- a function's name before a point or a tick is a call of it, which has no parts and no attributes
unfoldable pub part_of : Names → Inside → Context → NamePart → Denoted → Judging (Option Denoted)
part_of names inside here (syntax.Field at) d = settled_attribute d >>= λ x. given x (field names here at)
part_of names inside here (syntax.Call bracket a as') d = call names inside here bracket (syntax.AlsoArg a as') d
part_of names inside here (syntax.Attribute at) d = settled_attribute d >>= λ x. given x (λ e. attribute_found e at (attribute_at (symbol names at)))
part_of names inside here (syntax.RangeAttribute at) d = settled_attribute d >>= λ x. given x (λ e. attribute_found e at (Some attribute'.Range))

-- the parts behind one with a fault are judged for their arguments alone
abbrev pub part_alone : Names → Inside → Context → NamePart → Judging (Option Denoted)
part_alone names inside here (syntax.Call bracket a as') = args_alone names inside here (syntax.AlsoArg a as') >>= λ u. pure None
part_alone names inside here _ = pure None

abbrev pub next_part : Names → Inside → Context → Option Denoted → NamePart → Judging (Option Denoted)
next_part names inside here None p = part_alone names inside here p
next_part names inside here (Some d) p = part_of names inside here p d

abbrev pub parts : Names → Inside → Context → Option Denoted → NameParts → Judging (Option Denoted)
parts names inside here d syntax.NoPart = pure d
parts names inside here d (syntax.AlsoPart p ps) = next_part names inside here d p >>= λ e. parts names inside here e ps

-- a whole name, whose brackets hold what is judged so
unfoldable pub name : Names → Inside → Context → Name → Judging (Option Denoted)
name names inside here (syntax.name first ps) = do
  d ← stands_for names here first
  e ← parts names inside here d ps
  given e settled_attribute

-- ---- a name as a value: a function's name alone is a call of it

abbrev pub valued_form : Names → Inside → Context → KnownDenoted → TypedPart → Judging (Option Denoted)
valued_form names inside here (denoted.Sub first last n) x = sub_call names inside here first first last n syntax.NoArg
valued_form names inside here (denoted.Io first last p r) x = io_call names inside here first first last p r syntax.NoArg
valued_form names inside here d x = some (denote d x)

unfoldable pub valued_by : Names → Inside → Context → Denoted → Judging (Option Denoted)
valued_by names inside here d = valued_form names inside here d.known d.part

-- E06: a procedure in an expression, a subtype as a value
abbrev pub value_form : KnownDenoted → TypedPart → Judging (Option Found)
value_form (denoted.Value f) x = some (record { known = f; part = x })
value_form (denoted.Parameter first s) x = some (parameter_found first s x)
value_form d x = fault (denoted_first d) WrongType

unfoldable pub value_named : Names → Inside → Context → Name → Judging (Option Found)
value_named names inside here n = do
  d ← name names inside here n
  e ← given d (valued_by names inside here)
  given e (λ x. value_form x.known x.part)
