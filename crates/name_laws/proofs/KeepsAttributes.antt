-- What holds of each line of the log holds of what Attributes judges.
use Rattle.ada_base.specs.declared.operation.Op.TheVariants as op
use Rattle.ada_base.specs.declared.operation.Op.{Op}
use Rattle.name_rules.specs.Calls.{arg_names, operands}
use Rattle.name_rules.specs.Expressions.{Inside}
use Rattle.name_rules.specs.Found.{Denoted, Found, denote, parameter_found, static, universal, value_denoted}
use Rattle.name_rules.specs.Names.{denoted_first, wrong_call}
use Rattle.name_rules.specs.Types.{extent, is_integer}
use Rattle.name_rules.specs.Values.{asked, first_of, is_number, mentions_of, own_kind, static_of_kind}
use Rattle.name_rules.specs.declared.found.Attribute.TheVariants as attribute'
use Rattle.name_rules.specs.declared.found.Attribute.{Attribute}
use Rattle.name_rules.specs.declared.found.Denoted.TheVariants as denoted
use Rattle.name_rules.specs.declared.found.Denoted.{Denoted as KnownDenoted}
use Rattle.name_rules.specs.declared.found.Found.TheVariants as known
use Rattle.name_rules.specs.declared.found.ObjectName.{ObjectName}
use Rattle.name_rules.specs.declared.found.Prefix.TheVariants as prefix
use Rattle.name_rules.specs.declared.found.Prefix.{Prefix}
use Rattle.name_rules.specs.declared.log.Dimension.{Dimension}
use Rattle.name_rules.specs.declared.log.Rule.TheVariants.{ReduceRule, StaticRange, Unknown, WrongType}
use Rattle.name_rules.specs.declared.scope.Context.{Context}
use Rattle.name_rules.specs.declared.scope.Names.{Names}
use Rattle.name_rules.specs.declared.types.Kind.{Kind}
use Rattle.name_rules.specs.declared.types.Scalar.{Scalar}
use Rattle.name_rules.specs.declared.types.Subtype.TheVariants as subtype
use Rattle.name_rules.specs.declared.types.Subtype.{Subtype}
use Rattle.syntax_tree.specs.Syntax.{Args}
use Rattle.typed_tree.specs.Syntax.{Expr as TypedExpr}
use Rattle.std.specs.Prelude.{Bool, List, None, Option, Some, [], false, if◌then◌else◌, int_le, length, option_map, pos, slice_get, true, unsigned_abs, ℕ, ℤ, ◌&&◌, ◌-◌, ◌∷◌}
use Rattle.name_rules.specs.TypedParts.{also_all}
use Rattle.typed_tree.specs.Decoded.{TypedPart, as_expr}
use Rattle.name_rules.specs.Judging.{◌>>=◌, fault, given, pure, read, some}
use Rattle.name_rules.specs.Attributes.{prefix_of, attribute_found, scalar_bound, dimension_bound, mentioned, prefix_subtype, dimensions_in, bound_in, bound_alone, dimension_at, dimension_given, one_dimension, bound_with, first_named, one_given, two_given, one_named, two_named, one_argument, two_arguments_of, image_text, extreme, step, stepped, scalar_with, object_image, is_bound, is_reduction, reduced_alone, is_array_object, alone, settled_form, settled_attribute, is_left_out, bound_found}
use Rattle.name_laws.proofs.Walk.{Walk, Keeps, k-pure, k-some, k-bind, k-fault, k-read, k-if, k-given, k-where_clean}
use Rattle.name_laws.proofs.Walked.{KeepsInside}
use Rattle.name_laws.proofs.KeepsCalls.{k-operands}
use Rattle.name_laws.proofs.KeepsNames.{k-wrong_call}
use Rattle.name_laws.proofs.KeepsValues.{k-asked, k-static_of_kind}

pub k-attribute_found : (walk : Walk) (x0 : Denoted) (x1 : ℕ) (x2 : Option Attribute) → Keeps walk (attribute_found x0 x1 x2)
k-attribute_found walk d at None = k-fault walk at Unknown
k-attribute_found walk d at (Some a) = k-if walk (is_left_out (prefix_of d.known) a) (fault at Unknown) (some (denote (denoted.Attribute (denoted_first d.known) (prefix_of d.known) at a) d.part)) (k-fault walk at Unknown) (k-some walk (denote (denoted.Attribute (denoted_first d.known) (prefix_of d.known) at a) d.part))

pub k-scalar_bound : (walk : Walk) (x0 : ℕ) (x1 : Scalar) (x2 : Attribute) → Keeps walk (scalar_bound x0 x1 x2)
k-scalar_bound walk first s attribute'.First = k-some walk (value_denoted (bound_found first s.kind s.low))
k-scalar_bound walk first s attribute'.Last = k-some walk (value_denoted (bound_found first s.kind s.high))
k-scalar_bound walk first s a = k-fault walk first WrongType

pub k-dimension_bound : (walk : Walk) (x0 : ℕ) (x1 : TypedPart) (x2 : Attribute) (x3 : Dimension) → Keeps walk (dimension_bound x0 x1 x2 x3)
k-dimension_bound walk first ms attribute'.First d = k-some walk (value_denoted (static first d.kind d.low ms))
k-dimension_bound walk first ms attribute'.Last d = k-some walk (value_denoted (static first d.kind d.high ms))
k-dimension_bound walk first ms attribute'.Length d = k-some walk (value_denoted (universal first (pos (extent d)) false ms))
k-dimension_bound walk first ms attribute'.Range d = k-some walk (denote (denoted.Range first d) ms)
k-dimension_bound walk first ms a d = k-fault walk first WrongType

pub k-bound_in : (walk : Walk) (x0 : ℕ) (x1 : TypedPart) (x2 : Attribute) (x3 : Option Dimension) → Keeps walk (bound_in x0 x1 x2 x3)
k-bound_in walk first ms a None = k-fault walk first WrongType
k-bound_in walk first ms a (Some d) = k-dimension_bound walk first ms a d

pub k-bound_alone : (walk : Walk) (x0 : ℕ) (x1 : Prefix) (x2 : TypedPart) (x3 : Attribute) → Keeps walk (bound_alone x0 x1 x2 x3)
k-bound_alone walk first (prefix.Type (subtype.Scalar s)) x a = k-scalar_bound walk first s a
k-bound_alone walk first p x a = k-bind walk (read (λ log. slice_get (dimensions_in log (prefix_subtype p)) 0)) (bound_in first (mentioned p x) a) (k-read walk (λ log. slice_get (dimensions_in log (prefix_subtype p)) 0)) (λ z2. k-bound_in walk first (mentioned p x) a z2)

pub k-dimension_at : (walk : Walk) (x0 : ℕ) (x1 : TypedPart) (x2 : Attribute) (x3 : List Dimension) (x4 : ℕ) (x5 : ℤ) → Keeps walk (dimension_at x0 x1 x2 x3 x4 x5)
k-dimension_at walk first ms a ds at z = k-if walk (int_le (pos 1) z && int_le z (pos (length ds))) (bound_in first ms a (slice_get ds (unsigned_abs z - 1))) (fault at StaticRange) (k-bound_in walk first ms a (slice_get ds (unsigned_abs z - 1))) (k-fault walk at StaticRange)

pub k-dimension_given : (walk : Walk) (x0 : ℕ) (x1 : TypedPart) (x2 : Attribute) (x3 : List Dimension) (x4 : Found) → Keeps walk (dimension_given x0 x1 x2 x3 x4)
k-dimension_given walk first ms a ds f = k-if walk (is_number f.known) ((static_of_kind (own_kind f.known) f >>= λ v. given v (dimension_at first (also_all ms (mentions_of f)) a ds (first_of f.known)))) (fault (first_of f.known) WrongType) (k-bind walk (static_of_kind (own_kind f.known) f) (λ v. given v (dimension_at first (also_all ms (mentions_of f)) a ds (first_of f.known))) (k-static_of_kind walk (own_kind f.known) f) (λ v. k-given walk v (dimension_at first (also_all ms (mentions_of f)) a ds (first_of f.known)) (λ z1. k-dimension_at walk first (also_all ms (mentions_of f)) a ds (first_of f.known) z1))) (k-fault walk (first_of f.known) WrongType)

pub k-one_dimension : (walk : Walk) (x0 : ℕ) (x1 : ℕ) (x2 : TypedPart) (x3 : Attribute) (x4 : List Dimension) (x5 : List (Option ℕ)) (x6 : List Found) → Keeps walk (one_dimension x0 x1 x2 x3 x4 x5 x6)
k-one_dimension walk first bracket ms a ds (None ∷ []) (f ∷ []) = k-dimension_given walk first ms a ds f
k-one_dimension walk first bracket ms a ds (Some name ∷ []) fs = k-fault walk name WrongType
k-one_dimension walk first bracket ms a ds ns fs = k-fault walk bracket WrongType

pub k-bound_with : (walk : Walk) (x0 : Names) (x1 : Inside) (x2 : Context) (x3 : ℕ) (x4 : TypedPart) (x5 : Attribute) (x6 : ℕ) (x7 : Args) (x8 : List Dimension) → walk.Takes x0 → KeepsInside walk x1 → Keeps walk (bound_with x0 x1 x2 x3 x4 x5 x6 x7 x8)
k-bound_with walk names inside here first ms a bracket as' [] keeps1 keeps2 = k-fault walk first WrongType
k-bound_with walk names inside here first ms a bracket as' (d ∷ ds) keeps1 keeps2 = k-where_clean walk (operands names inside here (Some []) as') (λ fs. given fs (one_dimension first bracket ms a (d ∷ ds) (arg_names as'))) (k-operands walk names inside here (Some []) as' keeps1 keeps2) (λ fs. k-given walk fs (one_dimension first bracket ms a (d ∷ ds) (arg_names as')) (λ z1. k-one_dimension walk first bracket ms a (d ∷ ds) (arg_names as') z1))

pub k-one_given : (walk : Walk) (x0 : Kind) (x1 : (TypedExpr → Denoted)) (x2 : Found) → Keeps walk (one_given x0 x1 x2)
k-one_given walk k make f = k-bind walk (asked k f) (λ e. pure (option_map (λ x. make (as_expr x)) e)) (k-asked walk k f) (λ e. k-pure walk (option_map (λ x. make (as_expr x)) e))

pub k-two_given : (walk : Walk) (x0 : Kind) (x1 : (TypedExpr → TypedExpr → Denoted)) (x2 : Found) (x3 : Found) → Keeps walk (two_given x0 x1 x2 x3)
k-two_given walk k make f g = record {
  at = λ log.
      let out1 = asked k f log in
      let x = out1.0 in
      walk.joins _ _ _ ((k-asked walk k f).at log)
      ((k-asked walk k g).at out1.1);
}

pub k-one_named : (walk : Walk) (x0 : ℕ) (x1 : Kind) (x2 : (TypedExpr → Denoted)) (x3 : Option ℕ) (x4 : List Found) → Keeps walk (one_named x0 x1 x2 x3 x4)
k-one_named walk bracket k make (Some name) fs = k-fault walk name Unknown
k-one_named walk bracket k make None (f ∷ []) = k-one_given walk k make f
k-one_named walk bracket k make None fs = k-fault walk bracket WrongType

pub k-two_named : (walk : Walk) (x0 : ℕ) (x1 : Kind) (x2 : (TypedExpr → TypedExpr → Denoted)) (x3 : Option ℕ) (x4 : List Found) → Keeps walk (two_named x0 x1 x2 x3 x4)
k-two_named walk bracket k make (Some name) fs = k-fault walk name Unknown
k-two_named walk bracket k make None (f ∷ g ∷ []) = k-two_given walk k make f g
k-two_named walk bracket k make None fs = k-fault walk bracket WrongType

pub k-one_argument : (walk : Walk) (x0 : Names) (x1 : Inside) (x2 : Context) (x3 : ℕ) (x4 : Kind) (x5 : (TypedExpr → Denoted)) (x6 : Args) → walk.Takes x0 → KeepsInside walk x1 → Keeps walk (one_argument x0 x1 x2 x3 x4 x5 x6)
unfolding one_argument
k-one_argument walk names inside here bracket k make as' keeps1 keeps2 = k-where_clean walk (operands names inside here (Some []) as') (λ fs. given fs (one_named bracket k make (first_named (arg_names as')))) (k-operands walk names inside here (Some []) as' keeps1 keeps2) (λ fs. k-given walk fs (one_named bracket k make (first_named (arg_names as'))) (λ z1. k-one_named walk bracket k make (first_named (arg_names as')) z1))

pub k-two_arguments_of : (walk : Walk) (x0 : Names) (x1 : Inside) (x2 : Context) (x3 : ℕ) (x4 : Kind) (x5 : (TypedExpr → TypedExpr → Denoted)) (x6 : Args) → walk.Takes x0 → KeepsInside walk x1 → Keeps walk (two_arguments_of x0 x1 x2 x3 x4 x5 x6)
unfolding two_arguments_of
k-two_arguments_of walk names inside here bracket k make as' keeps1 keeps2 = k-where_clean walk (operands names inside here (Some []) as') (λ fs. given fs (two_named bracket k make (first_named (arg_names as')))) (k-operands walk names inside here (Some []) as' keeps1 keeps2) (λ fs. k-given walk fs (two_named bracket k make (first_named (arg_names as'))) (λ z1. k-two_named walk bracket k make (first_named (arg_names as')) z1))

pub k-stepped : (walk : Walk) (x0 : Names) (x1 : Inside) (x2 : Context) (x3 : ℕ) (x4 : Scalar) (x5 : Op) (x6 : ℕ) (x7 : Args) → walk.Takes x0 → KeepsInside walk x1 → Keeps walk (stepped x0 x1 x2 x3 x4 x5 x6 x7)
k-stepped walk names inside here first s o bracket as' keeps1 keeps2 = k-if walk (is_integer s.kind) (one_argument names inside here bracket s.kind (step first s.kind o) as') (fault first WrongType) (k-one_argument walk names inside here bracket s.kind (step first s.kind o) as' keeps1 keeps2) (k-fault walk first WrongType)

pub k-scalar_with : (walk : Walk) (x0 : Names) (x1 : Inside) (x2 : Context) (x3 : ℕ) (x4 : Scalar) (x5 : Attribute) (x6 : ℕ) (x7 : Args) → walk.Takes x0 → KeepsInside walk x1 → Keeps walk (scalar_with x0 x1 x2 x3 x4 x5 x6 x7)
k-scalar_with walk names inside here first s attribute'.Image bracket as' keeps1 keeps2 = k-one_argument walk names inside here bracket s.kind (image_text first s.kind) as' keeps1 keeps2
k-scalar_with walk names inside here first s attribute'.Max bracket as' keeps1 keeps2 = k-two_arguments_of walk names inside here bracket s.kind (extreme first s.kind op.Max) as' keeps1 keeps2
k-scalar_with walk names inside here first s attribute'.Min bracket as' keeps1 keeps2 = k-two_arguments_of walk names inside here bracket s.kind (extreme first s.kind op.Min) as' keeps1 keeps2
k-scalar_with walk names inside here first s attribute'.Succ bracket as' keeps1 keeps2 = k-stepped walk names inside here first s op.Add bracket as' keeps1 keeps2
k-scalar_with walk names inside here first s attribute'.Pred bracket as' keeps1 keeps2 = k-stepped walk names inside here first s op.Sub bracket as' keeps1 keeps2
k-scalar_with walk names inside here first s a bracket as' keeps1 keeps2 = k-bind walk (scalar_bound first s a) (λ d. given d (λ x. wrong_call names inside here first as')) (k-scalar_bound walk first s a) (λ d. k-given walk d (λ x. wrong_call names inside here first as') (λ x. k-wrong_call walk names inside here first as' keeps1 keeps2))

pub k-object_image : (walk : Walk) (x0 : ℕ) (x1 : ObjectName) (x2 : TypedPart) (x3 : Subtype) → Keeps walk (object_image x0 x1 x2 x3)
k-object_image walk first p x (subtype.Scalar s) = k-one_given walk s.kind (image_text first s.kind) (record { known = known.Object p; part = x })
k-object_image walk first p x (subtype.Composite n) = k-fault walk first WrongType

pub k-reduced_alone : (walk : Walk) (x0 : ℕ) (x1 : ℕ) (x2 : Bool) → Keeps walk (reduced_alone x0 x1 x2)
k-reduced_alone walk first at true = k-fault walk first WrongType
k-reduced_alone walk first at false = k-fault walk at ReduceRule

pub k-alone : (walk : Walk) (x0 : ℕ) (x1 : Prefix) (x2 : TypedPart) (x3 : ℕ) (x4 : Attribute) → Keeps walk (alone x0 x1 x2 x3 x4)
k-alone walk first (prefix.Object p) x at attribute'.Image = k-object_image walk first p x p.subtype
k-alone walk first (prefix.Parameter s) x at attribute'.Image = k-one_given walk s.kind (image_text first s.kind) (parameter_found first s x)
k-alone walk first p x at a = k-if walk (is_bound a) (bound_alone first p x a) (if is_reduction a then (read (λ log. is_array_object log p) >>= reduced_alone first at) else fault first WrongType) (k-bound_alone walk first p x a) (k-if walk (is_reduction a) ((read (λ log. is_array_object log p) >>= reduced_alone first at)) (fault first WrongType) (k-bind walk (read (λ log. is_array_object log p)) (reduced_alone first at) (k-read walk (λ log. is_array_object log p)) (λ z2. k-reduced_alone walk first at z2)) (k-fault walk first WrongType))

pub k-settled_form : (walk : Walk) (x0 : KnownDenoted) (x1 : TypedPart) → Keeps walk (settled_form x0 x1)
k-settled_form walk (denoted.Attribute first p at a) x = k-alone walk first p x at a
k-settled_form walk d x = k-some walk (denote d x)

pub k-settled_attribute : (walk : Walk) (x0 : Denoted) → Keeps walk (settled_attribute x0)
unfolding settled_attribute
k-settled_attribute walk d = k-settled_form walk d.known d.part
