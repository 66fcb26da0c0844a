-- Attributes (3.5, 3.6.2, 4.10), and what stands behind a name's identifier.
use Rattle.ada_base.specs.declared.operation.Op.TheVariants as op
use Rattle.ada_base.specs.declared.operation.Op.{Op}
use Rattle.name_rules.specs.Calls.{arg_names, operands}
use Rattle.name_rules.specs.Expressions.{Inside}
use Rattle.name_rules.specs.Found.{Denoted, Found, denote, parameter_found, scalar, static, text_found, universal, value_denoted}
use Rattle.name_rules.specs.Judging.{Judging, fault, given, joined, pure, read, some, where_clean, ◌>>=◌}
use Rattle.name_rules.specs.Names.{denoted_first, wrong_call}
use Rattle.name_rules.specs.Operators.{limit_of}
use Rattle.name_rules.specs.Symbols.{first_name, image_name, last_name, length_name, max_name, min_name, parallel_reduce_name, pred_name, reduce_name, succ_name}
use Rattle.name_rules.specs.Types.{class_of, dimensions_of, extent, is_integer, is_modular, shape_in}
use Rattle.name_rules.specs.Values.{asked, first_of, is_number, mentions_of, own_kind, static_of_kind}
use Rattle.name_rules.specs.declared.found.Attribute.TheVariants as attribute'
use Rattle.name_rules.specs.declared.found.Attribute.{Attribute}
use Rattle.name_rules.specs.declared.found.Denoted.TheVariants as denoted
use Rattle.name_rules.specs.declared.found.Denoted.{Denoted as KnownDenoted}
use Rattle.name_rules.specs.declared.found.Found.TheVariants as known
use Rattle.name_rules.specs.declared.found.ObjectName.{ObjectName}
use Rattle.name_rules.specs.declared.found.Prefix.TheVariants as prefix
use Rattle.name_rules.specs.declared.found.Prefix.{Prefix}
use Rattle.name_rules.specs.declared.log.Dimension.{Dimension}
use Rattle.name_rules.specs.declared.log.Log.{Log}
use Rattle.name_rules.specs.declared.log.Rule.TheVariants.{ReduceRule, StaticRange, Unknown, WrongType}
use Rattle.name_rules.specs.declared.scope.Context.{Context}
use Rattle.name_rules.specs.declared.scope.Names.{Names}
use Rattle.name_rules.specs.declared.types.Kind.{Kind}
use Rattle.name_rules.specs.declared.types.Scalar.{Scalar}
use Rattle.name_rules.specs.declared.types.Subtype.TheVariants as subtype
use Rattle.name_rules.specs.declared.types.Subtype.{Subtype}
use Rattle.syntax_tree.specs.Syntax.{Args}
use Rattle.typed_tree.specs.Decoded as part
use Rattle.typed_tree.specs.Syntax as typed
use Rattle.typed_tree.specs.Syntax.{Expr as TypedExpr}
use Rattle.typed_tree.specs.Indexes.{indexes_in}
use Rattle.std.specs.Prelude.{Bool, List, None, Option, Some, [], false, if◌then◌else◌, int_le, length, nat_lt, option_map, pos, slice_get, true, unsigned_abs, ℕ, ℤ, ◌&&◌, ◌-◌, ◌==◌, ◌∷◌}
use Rattle.name_rules.specs.TypedParts.{also, also_all, selections_of}
use Rattle.typed_tree.specs.Decoded.{TypedPart, as_expr}

-- ---- which attribute

abbrev pub attribute_at : ℕ → Option Attribute
attribute_at name =
    if name == first_name then Some attribute'.First else if name == last_name then Some attribute'.Last else
    if name == length_name then Some attribute'.Length else if name == image_name then Some attribute'.Image else
    if name == max_name then Some attribute'.Max else if name == min_name then Some attribute'.Min else
    if name == succ_name then Some attribute'.Succ else if name == pred_name then Some attribute'.Pred else
    if name == reduce_name then Some attribute'.Reduce else if name == parallel_reduce_name then Some attribute'.ParallelReduce else None

abbrev pub prefix_of : KnownDenoted → Prefix
prefix_of (denoted.Value (known.Object p)) = prefix.Object p
prefix_of (denoted.Parameter first s) = prefix.Parameter s
prefix_of (denoted.Type first s) = prefix.Type s
prefix_of (denoted.Sub first last n) = prefix.Function n
prefix_of d = prefix.Other

-- numbers of a modular type have no Succ and Pred
abbrev pub is_step : Attribute → Bool
is_step attribute'.Succ = true
is_step attribute'.Pred = true
is_step _ = false

abbrev pub is_left_out : Prefix → Attribute → Bool
is_left_out (prefix.Type (subtype.Scalar s)) a = is_modular s.kind && is_step a
is_left_out p a = false

-- E05 Unknown: an attribute that the language doesn't have
abbrev pub attribute_found : Denoted → ℕ → Option Attribute → Judging (Option Denoted)
attribute_found d at None = fault at Unknown
attribute_found d at (Some a) = if is_left_out (prefix_of d.known) a then fault at Unknown else some (denote (denoted.Attribute (denoted_first d.known) (prefix_of d.known) at a) d.part)

-- ---- First, Last, Length, Range of a scalar subtype or of an array

-- no expression of a modular type is static
abbrev pub bound_found : ℕ → Kind → ℤ → Found
bound_found first k z = if is_modular k then scalar first k None (limit_of first z) else static first k z part.Nothing

abbrev pub scalar_bound : ℕ → Scalar → Attribute → Judging (Option Denoted)
scalar_bound first s attribute'.First = some (value_denoted (bound_found first s.kind s.low))
scalar_bound first s attribute'.Last = some (value_denoted (bound_found first s.kind s.high))
scalar_bound first s a = fault first WrongType

-- 'First and 'Last are of the index type, 'Length is universal
abbrev pub dimension_bound : ℕ → TypedPart → Attribute → Dimension → Judging (Option Denoted)
dimension_bound first ms attribute'.First d = some (value_denoted (static first d.kind d.low ms))
dimension_bound first ms attribute'.Last d = some (value_denoted (static first d.kind d.high ms))
dimension_bound first ms attribute'.Length d = some (value_denoted (universal first (pos (extent d)) false ms))
dimension_bound first ms attribute'.Range d = some (denote (denoted.Range first d) ms)
dimension_bound first ms a d = fault first WrongType

-- the indexes in an array's name, which aren't evaluated
abbrev pub mentioned : Prefix → TypedPart → TypedPart
mentioned (prefix.Object p) x = indexes_in (selections_of x)
mentioned _ x = part.Nothing

abbrev pub prefix_subtype : Prefix → Option Subtype
prefix_subtype (prefix.Object p) = Some p.subtype
prefix_subtype (prefix.Type s) = Some s
prefix_subtype _ = None

abbrev pub dimensions_in : Log → Option Subtype → List Dimension
dimensions_in log (Some (subtype.Composite n)) = dimensions_of (shape_in log n)
dimensions_in log _ = []

abbrev pub bound_in : ℕ → TypedPart → Attribute → Option Dimension → Judging (Option Denoted)
bound_in first ms a None = fault first WrongType
bound_in first ms a (Some d) = dimension_bound first ms a d

-- without a dimension, that of the first
abbrev pub bound_alone : ℕ → Prefix → TypedPart → Attribute → Judging (Option Denoted)
bound_alone first (prefix.Type (subtype.Scalar s)) x a = scalar_bound first s a
bound_alone first p x a = read (λ log. slice_get (dimensions_in log (prefix_subtype p)) 0) >>= bound_in first (mentioned p x) a

-- E07: a dimension that isn't static, or outside 1 .. n, at the dimension
abbrev pub dimension_at : ℕ → TypedPart → Attribute → List Dimension → ℕ → ℤ → Judging (Option Denoted)
dimension_at first ms a ds at z = if int_le (pos 1) z && int_le z (pos (length ds)) then bound_in first ms a (slice_get ds (unsigned_abs z - 1)) else fault at StaticRange

abbrev pub dimension_given : ℕ → TypedPart → Attribute → List Dimension → Found → Judging (Option Denoted)
dimension_given first ms a ds f =
    if is_number f.known then (static_of_kind (own_kind f.known) f >>= λ v. given v (dimension_at first (also_all ms (mentions_of f)) a ds (first_of f.known))) else fault (first_of f.known) WrongType

abbrev pub one_dimension : ℕ → ℕ → TypedPart → Attribute → List Dimension → List (Option ℕ) → List Found → Judging (Option Denoted)
one_dimension first bracket ms a ds (None ∷ []) (f ∷ []) = dimension_given first ms a ds f
one_dimension first bracket ms a ds (Some name ∷ []) fs = fault name WrongType
one_dimension first bracket ms a ds ns fs = fault bracket WrongType

abbrev pub bound_with : Names → Inside → Context → ℕ → TypedPart → Attribute → ℕ → Args → List Dimension → Judging (Option Denoted)
bound_with names inside here first ms a bracket as' [] = fault first WrongType
bound_with names inside here first ms a bracket as' (d ∷ ds) =
    where_clean (operands names inside here (Some []) as') (λ fs. given fs (one_dimension first bracket ms a (d ∷ ds) (arg_names as')))

-- ---- Image, Max, Min, Succ, Pred: arguments of the prefix's type

abbrev pub first_named : List (Option ℕ) → Option ℕ
first_named [] = None
first_named (Some n ∷ ns) = Some n
first_named (None ∷ ns) = first_named ns

abbrev pub one_given : Kind → (TypedExpr → Denoted) → Found → Judging (Option Denoted)
one_given k make f = asked k f >>= λ e. pure (option_map (λ x. make (as_expr x)) e)

abbrev pub two_given : Kind → (TypedExpr → TypedExpr → Denoted) → Found → Found → Judging (Option Denoted)
two_given k make f g = do
  x ← asked k f
  y ← asked k g
  pure (joined (λ d e. make (as_expr d) (as_expr e)) x y)

-- E05 Unknown: a name before an argument; E06: wrong number of arguments
abbrev pub one_named : ℕ → Kind → (TypedExpr → Denoted) → Option ℕ → List Found → Judging (Option Denoted)
one_named bracket k make (Some name) fs = fault name Unknown
one_named bracket k make None (f ∷ []) = one_given k make f
one_named bracket k make None fs = fault bracket WrongType

abbrev pub two_named : ℕ → Kind → (TypedExpr → TypedExpr → Denoted) → Option ℕ → List Found → Judging (Option Denoted)
two_named bracket k make (Some name) fs = fault name Unknown
two_named bracket k make None (f ∷ g ∷ []) = two_given k make f g
two_named bracket k make None fs = fault bracket WrongType

unfoldable pub one_argument : Names → Inside → Context → ℕ → Kind → (TypedExpr → Denoted) → Args → Judging (Option Denoted)
one_argument names inside here bracket k make as' =
    where_clean (operands names inside here (Some []) as') (λ fs. given fs (one_named bracket k make (first_named (arg_names as'))))

unfoldable pub two_arguments_of : Names → Inside → Context → ℕ → Kind → (TypedExpr → TypedExpr → Denoted) → Args → Judging (Option Denoted)
two_arguments_of names inside here bracket k make as' =
    where_clean (operands names inside here (Some []) as') (λ fs. given fs (two_named bracket k make (first_named (arg_names as'))))

abbrev pub image_text : ℕ → Kind → TypedExpr → Denoted
image_text first k e = value_denoted (text_found first (also part.Nothing (part.APiece (typed.Image (class_of k) e))))

abbrev pub extreme : ℕ → Kind → Op → TypedExpr → TypedExpr → Denoted
extreme first k o x y = value_denoted (scalar first k None (typed.Binary first o (class_of k) x y))

-- 'Succ and 'Pred are sums
abbrev pub step : ℕ → Kind → Op → TypedExpr → Denoted
step first k o x = extreme first k o x (limit_of first (pos 1))

abbrev pub stepped : Names → Inside → Context → ℕ → Scalar → Op → ℕ → Args → Judging (Option Denoted)
stepped names inside here first s o bracket as' = if is_integer s.kind then one_argument names inside here bracket s.kind (step first s.kind o) as' else fault first WrongType

abbrev pub scalar_with : Names → Inside → Context → ℕ → Scalar → Attribute → ℕ → Args → Judging (Option Denoted)
scalar_with names inside here first s attribute'.Image bracket as' = one_argument names inside here bracket s.kind (image_text first s.kind) as'
scalar_with names inside here first s attribute'.Max bracket as' = two_arguments_of names inside here bracket s.kind (extreme first s.kind op.Max) as'
scalar_with names inside here first s attribute'.Min bracket as' = two_arguments_of names inside here bracket s.kind (extreme first s.kind op.Min) as'
scalar_with names inside here first s attribute'.Succ bracket as' = stepped names inside here first s op.Add bracket as'
scalar_with names inside here first s attribute'.Pred bracket as' = stepped names inside here first s op.Sub bracket as'
scalar_with names inside here first s a bracket as' = scalar_bound first s a >>= λ d. given d (λ x. wrong_call names inside here first as')

-- `X'Image` of a scalar object
abbrev pub object_image : ℕ → ObjectName → TypedPart → Subtype → Judging (Option Denoted)
object_image first p x (subtype.Scalar s) = one_given s.kind (image_text first s.kind) (record { known = known.Object p; part = x })
object_image first p x (subtype.Composite n) = fault first WrongType

-- ---- an attribute alone, and with what stands in a bracket behind it

abbrev pub is_bound : Attribute → Bool
is_bound attribute'.First = true
is_bound attribute'.Last = true
is_bound attribute'.Length = true
is_bound attribute'.Range = true
is_bound _ = false

abbrev pub is_reduction : Attribute → Bool
is_reduction attribute'.Reduce = true
is_reduction attribute'.ParallelReduce = true
is_reduction _ = false

-- E11: Reduce or Parallel_Reduce whose prefix isn't an array object, at the attribute's identifier
abbrev pub reduced_alone : ℕ → ℕ → Bool → Judging (Option Denoted)
reduced_alone first at true = fault first WrongType
reduced_alone first at false = fault at ReduceRule

abbrev pub is_array_object : Log → Prefix → Bool
is_array_object log (prefix.Object p) = nat_lt 0 (length (dimensions_in log (Some p.subtype)))
is_array_object log _ = false

abbrev pub alone : ℕ → Prefix → TypedPart → ℕ → Attribute → Judging (Option Denoted)
alone first (prefix.Object p) x at attribute'.Image = object_image first p x p.subtype
alone first (prefix.Parameter s) x at attribute'.Image = one_given s.kind (image_text first s.kind) (parameter_found first s x)
alone first p x at a =
    if is_bound a then bound_alone first p x a else
    if is_reduction a then (read (λ log. is_array_object log p) >>= reduced_alone first at) else fault first WrongType

abbrev pub settled_form : KnownDenoted → TypedPart → Judging (Option Denoted)
settled_form (denoted.Attribute first p at a) x = alone first p x at a
settled_form d x = some (denote d x)

unfoldable pub settled_attribute : Denoted → Judging (Option Denoted)
settled_attribute d = settled_form d.known d.part
