-- The values of names and attributes (4.1, 3.5, 3.6.2).
use Rattle.name_rules.specs.declared.types.Subtype.TheVariants as subtype
use Rattle.syntax_tree.specs.Syntax as syntax
use Rattle.typed_tree.specs.Decoded as part
use Rattle.typed_tree.specs.Syntax as typed
use Rattle.name_rules.specs.declared.found.Attribute.TheVariants as attribute'
use Rattle.name_rules.specs.declared.found.Denoted.TheVariants as denoted
use Rattle.name_rules.specs.declared.found.Found.TheVariants as known
use Rattle.name_rules.specs.declared.found.Prefix.TheVariants as prefix
use Rattle.name_rules.specs.declared.types.Wanted.TheVariants as wanted
use Rattle.name_rules.specs.declared.scope.What.TheVariants as what
use Rattle.std.proofs.Common.{◌≡◌, refl, sym, subst, ℕ, List, [], ◌∷◌, Option, Some, None, ◌&&◌, ℤ, Bool, true, false, option_map, pos, length, if◌then◌else◌, ◌-◌, int_le, slice_get, ◌==◌, ◌+◌}
use Rattle.std.specs.Prelude.{unsigned_abs, Bool, None, Option, Some, [], false, if◌then◌else◌, length, option_map, true, ℕ, ◌+◌, ◌∷◌}
use Rattle.typed_tree.specs.Decoded.{TypedPart, as_chunk, as_expr, as_iteration, as_actual, as_actuals, as_value, as_stmt}
use Rattle.name_rules.specs.Calls.{arg_names, operands, with_operand, sub_call}
use Rattle.name_rules.specs.Found.{Found, Denoted, denote, parameter_found, static, value_denoted, universal, scalar}
use Rattle.name_rules.specs.Judging.{fault, read, ◌>>=◌, given, where_clean, some, Judging}
use Rattle.name_rules.specs.Reducers.{reducer_of}
use Rattle.name_rules.specs.Types.{component_of, dimensions_of, extent, shape_in, fields_of, is_modular}
use Rattle.name_rules.specs.Values.{asked, is_number, mentions_of, value_of, first_of, own_kind, static_of_kind}
use Rattle.name_rules.specs.declared.log.Rule.TheVariants.{ReduceRule, NotVisible, Unknown, WrongType, StaticRange}
use Rattle.name_rules.specs.declared.types.Kind.{Kind}
use Rattle.name_rules.specs.declared.types.Scalar.{Scalar}
use Rattle.name_rules.specs.declared.types.Subtype.{Subtype}
use Rattle.syntax_tree.specs.Syntax.{Args, Elsifs, Expr, Iter, Name, OptionalParallel, NameParts, Primary, Arg}
use Rattle.syntax_tree.specs.Syntax.{NamePart}
use Rattle.typed_tree.specs.Syntax.{Selections, Expr as TypedExpr, Actuals, Iteration, Optional}
use Rattle.name_rules.specs.Attributes.{attribute_at, bound_with, dimensions_in, is_array_object, is_bound, is_reduction, mentioned, settled_attribute, alone, attribute_found, bound_alone, bound_in, dimension_at, dimension_bound, dimension_given, one_dimension, prefix_of, reduced_alone, scalar_bound, scalar_with, settled_form, is_left_out, bound_found}
use Rattle.name_rules.specs.Expressions.{Inside, expr}
use Rattle.name_rules.specs.Names.{args_alone, denoted_first, field, wrong_call, array_call, component_cells, count, field_form, field_from, field_in, field_of, index_shape, indexed, is_array, is_record, object_call, part_place}
use Rattle.name_rules.specs.Parts.{array_reduced, array_reduction, array_shape, attribute_with, call, call_form, is_parallel, item_found, name, new_parameter, next_part, other_with, part_alone, part_of, parts, reduced_with, site_where, through, value_form, value_named, valued_by, valued_form, wrong_arguments}
use Rattle.name_rules.specs.Scope.{stands_for, stands}
use Rattle.name_rules.specs.Symbols.{symbol}
use Rattle.name_rules.specs.TypedParts.{selections_of, also_all, also}
use Rattle.name_rules.specs.declared.found.Attribute.{Attribute}
use Rattle.name_rules.specs.declared.found.Denoted.{Denoted as KnownDenoted}
use Rattle.name_rules.specs.declared.found.Found.{Found as Known}
use Rattle.name_rules.specs.declared.found.ObjectName.{ObjectName}
use Rattle.name_rules.specs.declared.found.Prefix.{Prefix}
use Rattle.name_rules.specs.declared.scope.Context.{Context}
use Rattle.name_rules.specs.declared.scope.Names.{Names}
use Rattle.name_rules.specs.declared.log.Dimension.{Dimension}
use Rattle.name_rules.specs.declared.log.Shape.{Shape}
use Rattle.name_rules.specs.declared.log.Field.{Field}
use Rattle.name_rules.specs.declared.scope.What.{What}
use Rattle.name_rules.specs.Values.{static_value}
use Rattle.std.proofs.Common.{ap, ◌∙◌}
use Rattle.name_rules.specs.Names.{denoted_first, field_form, field_from, field_in, field_of, index_shape, indexed, array_call, part_place}
use Rattle.name_rules.specs.declared.log.Field.{Field}
use Rattle.name_rules.specs.declared.scope.What.{What}
use Rattle.name_rules.specs.declared.scope.What.TheVariants as what
use Rattle.name_rules.specs.Scope.{bit, lookup}
use Rattle.name_rules.specs.declared.log.Rule.TheVariants.{NotStatic}
use Rattle.std.proofs.lemmas.Bool.{and_parts}
use Rattle.name_laws.proofs.KeepsAttributes.{k-alone, k-attribute_found, k-bound_in, k-bound_with, k-one_dimension, k-reduced_alone, k-scalar_bound}
use Rattle.name_laws.proofs.KeepsCalls.{k-conversion, k-sub_call}
use Rattle.name_laws.proofs.KeepsNames.{k-field_of, k-object_call, k-wrong_call}
use Rattle.name_laws.proofs.KeepsOutput.{k-io_call}
use Rattle.name_laws.proofs.KeepsParts.{k-attribute_with, k-part_alone, k-value_form}
use Rattle.name_laws.proofs.KeepsScope.{k-selected, k-stands_for}
use Rattle.name_laws.proofs.Walk.{k-bind, k-fault, k-if, k-read}
use Rattle.name_statics.proofs.ExpressionValues.{LevelTells, t-expr, there}
use Rattle.name_statics.proofs.Finds.{BareName, Finds, Maybe, Means, Naming, Tells, f-bind, f-both, f-fault, f-given, f-if, f-none, f-pure, f-some, f-then, f-where_clean, meant, t-at, t-bind, t-given, t-if, t-of, t-pure, t-where_clean, Bare, FindingWith, Has, IsWith, MeansWith, NamingWith, has}
use Rattle.name_statics.proofs.Operations.{number-scalar}
use Rattle.name_statics.proofs.Same.{same_component, same_dimensions, same_fields, walk}
use Rattle.name_statics.proofs.Unvalued.{Plain, f-conversion, f-folded_by, f-io_call, f-object_image, f-parameter_image, f-scalar_with, f-selected, f-sub_call, f-undeclared, f-wrong_call, nothing}
use Rattle.name_statics.specs.Values.{Around, Standing, Value, Object, ASubtype, OfObject, OfType, after_bracket, after_part, after_parts, after_point, after_tick, alone as settled, bound, component, declared, dimension, dimensions, expr_value, field_named, name_value, scalar_bound as bound_of_scalar, value_in, expr_bound, name_bound, modular_in, modular_bound}
use Rattle.name_rules.specs.Operators.{limit_of}
use Rattle.name_rules.specs.Output.{io_call}

-- ---- identifiers

f-stands : (here : Context) (token name : ℕ) (w : Option What) → Finds (Naming (declared w)) (stands here token name w)
f-stands here token name None = f-undeclared here token name
f-stands here token name (Some what.Hidden) = f-fault (Means nothing) token NotVisible
f-stands here token name (Some what.Broken) = f-none (Means nothing)
f-stands here token name (Some (what.Object n s v z)) = f-some (Means (Object s z)) _ (record { meaning = refl; bare = refl })
f-stands here token name (Some (what.Parameter n s)) = f-some (Means nothing) (denote (denoted.Parameter token s) (part.AnExpr (typed.Parameter token n))) (record { meaning = refl; bare = refl })
f-stands here token name (Some (what.Item n s v)) = f-some (Means (Object s None)) _ (record { meaning = refl; bare = refl })
f-stands here token name (Some (what.Number z)) = f-some (Means (Value (Some z))) _ (record { meaning = refl; bare = refl })
f-stands here token name (Some (what.Boolean b)) = f-some (Means (Value (Some (bit b)))) _ (record { meaning = refl; bare = refl })
f-stands here token name (Some (what.Type s)) = f-some (Means (ASubtype s)) _ (record { meaning = refl; bare = refl })
f-stands here token name (Some (what.Sub n)) = f-some (Means nothing) _ (record { meaning = refl; bare = refl })
f-stands here token name (Some (what.Exception r)) = f-some (Means nothing) _ (record { meaning = refl; bare = refl })

f-stands_for : (names : Names) (here : Context) (token : ℕ) → Finds (Naming (declared (lookup (symbol names token) here.scope))) (stands_for names here token)
unfolding stands_for
f-stands_for names here token = f-stands here token (symbol names token) (lookup (symbol names token) here.scope)

-- ---- attributes of a dimension and of a scalar subtype

f-dimension_bound : (first : ℕ) (ms : TypedPart) (a : Attribute) (d : Dimension) → Finds (Naming (Value (bound a (Some d)))) (dimension_bound first ms a d)
f-dimension_bound first ms attribute'.First d = f-some (Means (Value (Some d.low))) (value_denoted (static first d.kind d.low ms)) (record { meaning = refl; bare = refl })
f-dimension_bound first ms attribute'.Last d = f-some (Means (Value (Some d.high))) (value_denoted (static first d.kind d.high ms)) (record { meaning = refl; bare = refl })
f-dimension_bound first ms attribute'.Length d = f-some (Means (Value (Some (pos (extent d))))) (value_denoted (universal first (pos (extent d)) false ms)) (record { meaning = refl; bare = refl })
f-dimension_bound first ms attribute'.Range d = f-some (Means nothing) (denote (denoted.Range first d) ms) (record { meaning = refl; bare = refl })
f-dimension_bound first ms a d = f-fault (Means nothing) first WrongType

f-bound_in : (first : ℕ) (ms : TypedPart) (a : Attribute) (d : Option Dimension) → Finds (Naming (Value (bound a d))) (bound_in first ms a d)
f-bound_in first ms a None = f-fault (Means (Value (bound a None))) first WrongType
f-bound_in first ms a (Some d) = f-dimension_bound first ms a d

bound-means : (first : ℕ) (k : Kind) (z : ℤ) → MeansWith (Value (if is_modular k then None else Some z)) (if is_modular k then Some z else None) (value_denoted (bound_found first k z))
bound-means first k z = by (is_modular k)
  where
    by : (b : Bool) → MeansWith (Value (if b then None else Some z)) (if b then Some z else None) (value_denoted (if b then scalar first k None (limit_of first z) else static first k z part.Nothing))
    by true = record { meaning = refl; bare = refl }
    by false = record { meaning = refl; bare = refl }

f-scalar_bound : (first : ℕ) (s : Scalar) (a : Attribute) → Finds (NamingWith (Value (bound_of_scalar a s)) (modular_bound a s)) (scalar_bound first s a)
f-scalar_bound first s attribute'.First = f-some (MeansWith (Value (bound_of_scalar attribute'.First s)) (modular_bound attribute'.First s)) (value_denoted (bound_found first s.kind s.low)) (bound-means first s.kind s.low)
f-scalar_bound first s attribute'.Last = f-some (MeansWith (Value (bound_of_scalar attribute'.Last s)) (modular_bound attribute'.Last s)) (value_denoted (bound_found first s.kind s.high)) (bound-means first s.kind s.high)
f-scalar_bound first s a = f-fault (Means nothing) first WrongType

-- without a dimension, that of the first
t-first_dimension : (shapes : List Shape) (first : ℕ) (ms : TypedPart) (a : Attribute) (t : Subtype)
    → Tells shapes (Naming (Value (bound a (slice_get (dimensions shapes t) 0)))) (read (λ log. slice_get (dimensions_in log (Some t)) 0) >>= bound_in first ms a)
t-first_dimension shapes first ms a t =
    t-at shapes (Naming (Value (bound a (slice_get (dimensions shapes t) 0)))) _ (k-bind walk (read (λ log. slice_get (dimensions_in log (Some t)) 0)) (bound_in first ms a) (k-read walk (λ log. slice_get (dimensions_in log (Some t)) 0)) (λ d. k-bound_in walk first ms a d))
    (λ log h. subst (λ ds. Naming (Value (bound a (slice_get ds 0))) (bound_in first ms a (slice_get (dimensions_in log (Some t)) 0) log).0) (same_dimensions shapes log t h) ((f-bound_in first ms a (slice_get (dimensions_in log (Some t)) 0)).at log))

f-reduced_alone : (Q : Denoted → Type 0) (first at : ℕ) (b : Bool) → Finds (Maybe Q) (reduced_alone first at b)
f-reduced_alone Q first at true = f-fault Q first WrongType
f-reduced_alone Q first at false = f-fault Q at ReduceRule

abbrev alone_by : ℕ → Prefix → TypedPart → ℕ → Attribute → Judging (Option Denoted)
alone_by first p x at a = if is_bound a then bound_alone first p x a else if is_reduction a then (read (λ log. is_array_object log p) >>= reduced_alone first at) else fault first WrongType

t-alone_by : (shapes : List Shape) (Q : Denoted → Type 0) (first : ℕ) (p : Prefix) (x : TypedPart) (at : ℕ) (a : Attribute) → Tells shapes (Maybe Q) (bound_alone first p x a) → Tells shapes (Maybe Q) (alone_by first p x at a)
t-alone_by shapes Q first p x at a m =
    t-if shapes (Maybe Q) (is_bound a) (bound_alone first p x a) _ (λ e. m)
    (t-of shapes (Maybe Q) _ (k-if walk (is_reduction a) _ (fault first WrongType) (k-bind walk (read (λ log. is_array_object log p)) (reduced_alone first at) (k-read walk (λ log. is_array_object log p)) (λ b. k-reduced_alone walk first at b)) (k-fault walk first WrongType))
    (f-if (Maybe Q) (is_reduction a) _ (fault first WrongType) (λ e. f-then (Maybe Q) (read (λ log. is_array_object log p)) (reduced_alone first at) (λ b. f-reduced_alone Q first at b)) (f-fault Q first WrongType)))

-- what is no array and no scalar subtype has no bounds
t-no_bound : (shapes : List Shape) (Q : Denoted → Type 0) (first : ℕ) (ms : TypedPart) (a : Attribute) → Tells shapes (Maybe Q) (read (λ log. slice_get (dimensions_in log None) 0) >>= bound_in first ms a)
t-no_bound shapes Q first ms a =
    t-of shapes (Maybe Q) _ (k-bind walk (read (λ log. slice_get (dimensions_in log None) 0)) (bound_in first ms a) (k-read walk (λ log. slice_get (dimensions_in log None) 0)) (λ d. k-bound_in walk first ms a d)) (record { at = λ log. tt })

t-object_alone : (shapes : List Shape) (first : ℕ) (p : ObjectName) (x : TypedPart) (at : ℕ) (a : Attribute) → Tells shapes (Naming (Value (bound a (slice_get (dimensions shapes p.subtype) 0)))) (alone first (prefix.Object p) x at a)
t-object_alone shapes first p x at attribute'.Image = t-of shapes (Naming nothing) _ (k-alone walk first (prefix.Object p) x at attribute'.Image) (f-object_image first p x p.subtype)
t-object_alone shapes first p x at a = t-alone_by shapes (Means (Value (bound a (slice_get (dimensions shapes p.subtype) 0)))) first (prefix.Object p) x at a (t-first_dimension shapes first (mentioned (prefix.Object p) x) a p.subtype)

t-parameter_alone : (shapes : List Shape) (first : ℕ) (s : Scalar) (x : TypedPart) (at : ℕ) (a : Attribute) → Tells shapes (Naming nothing) (alone first (prefix.Parameter s) x at a)
t-parameter_alone shapes first s x at attribute'.Image = t-of shapes (Naming nothing) _ (k-alone walk first (prefix.Parameter s) x at attribute'.Image) (f-parameter_image first s (parameter_found first s x))
t-parameter_alone shapes first s x at a = t-alone_by shapes (Means nothing) first (prefix.Parameter s) x at a (t-no_bound shapes (Means nothing) first (mentioned (prefix.Parameter s) x) a)

value-settled : (shapes : List Shape) (f : Known) → meant (denoted.Value f) ≡ settled shapes (meant (denoted.Value f))
value-settled shapes (known.Object p) = refl
value-settled shapes f = refl

value-bound : (f : Known) → modular_in (meant (denoted.Value f)) ≡ None
value-bound (known.Object p) = refl
value-bound f = refl

t-settled_form : (shapes : List Shape) (k : KnownDenoted) (x : TypedPart) → BareName None k x → Tells shapes (NamingWith (settled shapes (meant k)) (modular_in (meant k))) (settled_form k x)
t-settled_form shapes (denoted.Attribute first (prefix.Object p) at a) x b = t-object_alone shapes first p x at a
t-settled_form shapes (denoted.Attribute first (prefix.Parameter s) at a) x b = t-parameter_alone shapes first s x at a
t-settled_form shapes (denoted.Attribute first (prefix.Type (subtype.Scalar s)) at a) x b =
    let Q = MeansWith (Value (bound_of_scalar a s)) (modular_bound a s) in
    t-alone_by shapes Q first (prefix.Type (subtype.Scalar s)) x at a (t-of shapes (Maybe Q) _ (k-scalar_bound walk first s a) (f-scalar_bound first s a))
t-settled_form shapes (denoted.Attribute first (prefix.Type (subtype.Composite n)) at a) x b =
    t-alone_by shapes (Means (Value (bound a (slice_get (dimensions shapes (subtype.Composite n)) 0)))) first (prefix.Type (subtype.Composite n)) x at a (t-first_dimension shapes first part.Nothing a (subtype.Composite n))
t-settled_form shapes (denoted.Attribute first (prefix.Function n) at a) x b = t-alone_by shapes (Means nothing) first (prefix.Function n) x at a (t-no_bound shapes (Means nothing) first part.Nothing a)
t-settled_form shapes (denoted.Attribute first prefix.Other at a) x b = t-alone_by shapes (Means nothing) first prefix.Other x at a (t-no_bound shapes (Means nothing) first part.Nothing a)
t-settled_form shapes (denoted.Value f) x b =
    t-pure shapes (NamingWith (settled shapes (meant (denoted.Value f))) (modular_in (meant (denoted.Value f)))) (Some (denote (denoted.Value f) x))
    (record { meaning = value-settled shapes f; bare = subst (λ c. Bare c f x) (sym (value-bound f)) b })
t-settled_form shapes k x b = t-pure shapes (NamingWith (settled shapes (meant k)) (modular_in (meant k))) (Some (denote k x)) (record { meaning = refl; bare = b })

t-settled : (shapes : List Shape) (d : Denoted) (s : Standing) → Means s d → Tells shapes (NamingWith (settled shapes s) (modular_in s)) (settled_attribute d)
unfolding settled_attribute
t-settled shapes d s h = subst (λ z. Tells shapes (NamingWith (settled shapes z) (modular_in z)) (settled_form d.known d.part)) h.meaning (t-settled_form shapes d.known d.part h.bare)

-- ---- selected components

f-field_from : (names : Names) (p : ObjectName) (ss : TypedPart) (at i : ℕ) (fs : List Field) → Finds (Naming (component (field_named (symbol names at) fs))) (field_from names p ss at i fs)
f-field_from names p ss at i [] = f-fault (Means nothing) at Unknown
f-field_from names p ss at i (f ∷ fs) = by (f.symbol == symbol names at) (f-field_from names p ss at (i + 1) fs)
  where
    by : (b : Bool) → Finds (Naming (component (field_named (symbol names at) fs))) (field_from names p ss at (i + 1) fs)
        → Finds (Naming (component (if b then Some f.subtype else field_named (symbol names at) fs))) (if b then some (denote (part_place p f.subtype) (also ss (part.ASelection (typed.Field i f.offset)))) else field_from names p ss at (i + 1) fs)
    by true m = f-some (Means (Object f.subtype None)) _ (record { meaning = refl; bare = refl })
    by false m = m

f-field_in : (names : Names) (p : ObjectName) (ss : TypedPart) (at : ℕ) (t : Option Shape) → Finds (Naming (component (field_named (symbol names at) (fields_of t)))) (field_in names p ss at t)
f-field_in names p ss at t =
    f-if (Naming (component (field_named (symbol names at) (fields_of t)))) (is_record t) (field_from names p ss at 0 (fields_of t)) (fault p.first WrongType) (λ e. f-field_from names p ss at 0 (fields_of t)) (f-fault (Means (component (field_named (symbol names at) (fields_of t)))) p.first WrongType)

t-field_of : (shapes : List Shape) (names : Names) (here : Context) (p : ObjectName) (ss : TypedPart) (at : ℕ) (t : Subtype) (v : Option ℤ) → Tells shapes (Naming (after_point (there names here shapes) at (Object t v))) (field_of names p ss at t)
t-field_of shapes names here p ss at (subtype.Scalar s) v = t-of shapes (Naming nothing) _ (k-field_of walk names p ss at (subtype.Scalar s) tt) (f-fault (Means nothing) p.first WrongType)
t-field_of shapes names here p ss at (subtype.Composite n) v =
    t-at shapes (Naming (component (field_named (symbol names at) (fields_of (slice_get shapes n))))) _ (k-field_of walk names p ss at (subtype.Composite n) tt)
    (λ log h. subst (λ fs. Naming (component (field_named (symbol names at) fs)) (field_in names p ss at (shape_in log n) log).0) (same_fields shapes log.shapes n h) ((f-field_in names p ss at (shape_in log n)).at log))

t-field_form : (shapes : List Shape) (names : Names) (here : Context) (at : ℕ) (k : KnownDenoted) (x : TypedPart) → Tells shapes (Naming (after_point (there names here shapes) at (meant k))) (field_form names here at k x)
t-field_form shapes names here at (denoted.Package first library) x = t-of shapes (Naming nothing) _ (k-selected walk names here first library at tt) (f-selected names here first library at)
t-field_form shapes names here at (denoted.Value (known.Object p)) x = t-field_of shapes names here p x at p.subtype p.value
t-field_form shapes names here at k x = t-of shapes (Naming (after_point (there names here shapes) at (meant k))) _ (k-fault walk (denoted_first k) WrongType) (f-fault (Means (after_point (there names here shapes) at (meant k))) (denoted_first k) WrongType)

point-settled : (a : Around) (at : ℕ) (s : Standing) → after_point a at (settled a.shapes s) ≡ after_point a at s
point-settled a at (Value v) = refl
point-settled a at (Object t v) = refl
point-settled a at (ASubtype t) = refl
point-settled a at (OfObject by t) = refl
point-settled a at (OfType by (subtype.Scalar s)) = refl
point-settled a at (OfType by (subtype.Composite n)) = refl

t-field : (shapes : List Shape) (names : Names) (here : Context) (at : ℕ) (s : Standing) (d : Denoted) → MeansWith (settled shapes s) (modular_in s) d → Tells shapes (Naming (after_point (there names here shapes) at s)) (field names here at d)
unfolding field
t-field shapes names here at s d h =
    subst (λ z. Tells shapes (Naming z) (field_form names here at d.known d.part)) (ap (after_point (there names here shapes) at) h.meaning ∙ point-settled (there names here shapes) at s) (t-field_form shapes names here at d.known d.part)

-- ---- indexed components

f-indexed : (p : ObjectName) (bracket wanted given : ℕ) (c : Option Subtype) (ss : TypedPart) → Finds (Naming (component c)) (indexed p bracket wanted given c ss)
f-indexed p bracket wanted given None ss = f-fault (Means nothing) p.first WrongType
f-indexed p bracket wanted given (Some c) ss =
    f-if (Naming (Object c None)) (wanted == given) (some (denote (part_place p c) ss)) (fault bracket WrongType) (λ e. f-some (Means (Object c None)) (denote (part_place p c) ss) (record { meaning = refl; bare = refl })) (f-fault (Means (Object c None)) bracket WrongType)

f-array_call : (names : Names) (inside : Inside) (here : Context) (p : ObjectName) (ss : TypedPart) (bracket : ℕ) (as' : Args) (t : Option Shape) (cells : ℕ) → Finds (Naming (component (component_of t))) (array_call names inside here p ss bracket as' t cells)
f-array_call names inside here p ss bracket as' t cells =
    f-if (Naming (component (component_of t))) (is_array t) (index_shape names inside here p ss bracket as' t cells) (wrong_call names inside here p.first as')
    (λ e. f-where_clean (Means (component (component_of t))) _ _ (λ r. f-given (Means (component (component_of t))) r _ (λ y. f-indexed p bracket (length (dimensions_of t)) (count as') (component_of t) y)))
    (f-wrong_call (Means (component (component_of t))) names inside here p.first as')

t-object_call : (shapes : List Shape) (names : Names) (inside : Inside) (here : Context) (p : ObjectName) (ss : TypedPart) (bracket : ℕ) (as' : Args) (t : Subtype) (w v : Option ℤ) → LevelTells shapes names inside
    → Tells shapes (Naming (after_bracket (there names here shapes) w (Object t v))) (object_call names inside here p ss bracket as' t)
unfolding object_call
t-object_call shapes names inside here p ss bracket as' (subtype.Scalar s) w v l = t-of shapes (Naming nothing) _ (k-wrong_call walk names inside here p.first as' tt l.keeps) (f-wrong_call (Means nothing) names inside here p.first as')
t-object_call shapes names inside here p ss bracket as' (subtype.Composite n) w v l =
    t-at shapes (Naming (component (component_of (slice_get shapes n)))) (object_call names inside here p ss bracket as' (subtype.Composite n)) (k-object_call walk names inside here p ss bracket as' (subtype.Composite n) tt l.keeps)
    (λ log h. subst (λ c. Naming (component c) (array_call names inside here p ss bracket as' (shape_in log n) (component_cells log (component_of (shape_in log n))) log).0) (same_component shapes log.shapes n h)
    ((f-array_call names inside here p ss bracket as' (shape_in log n) (component_cells log (component_of (shape_in log n)))).at log))

-- ---- a dimension in the bracket behind an attribute

abbrev One : Option ℤ → List Found → Type 0
One v (f ∷ []) = Has v f
One v fs = ⊥

one-operand : (v : Option ℤ) (x : Option Found) → Maybe (Has v) x → Maybe (One v) (with_operand (Some []) x)
one-operand v None q = tt
one-operand v (Some f) q = q

t-operand : (shapes : List Shape) (names : Names) (inside : Inside) (here : Context) (e : Expr) → LevelTells shapes names inside → Tells shapes (Maybe (One (expr_value (there names here shapes) e))) (operands names inside here (Some []) (syntax.AlsoArg (syntax.arg None e) syntax.NoArg))
t-operand shapes names inside here e l =
    let v = expr_value (there names here shapes) e in
    let b = expr_bound (there names here shapes) e in
    t-bind shapes (FindingWith v b) (Maybe (One v)) (expr names inside here wanted.Other e) _ (t-expr shapes names inside here wanted.Other e l) (λ x q. t-pure shapes (Maybe (One v)) (with_operand (Some []) x) (one-operand v x (has v b x q)))

abbrev Valued : Found → ℤ → Type 0
Valued f z = value_of f.known ≡ Some z

f-static_value : (f : Found) (first : ℕ) (v : Option ℤ) → value_of f.known ≡ v → Finds (Maybe (Valued f)) (static_value first v)
f-static_value f first None e = f-fault (Valued f) first NotStatic
f-static_value f first (Some z) e = f-some (Valued f) z e

f-static_of_kind : (k : Kind) (f : Found) → Finds (Maybe (Valued f)) (static_of_kind k f)
unfolding static_of_kind
f-static_of_kind k f = f-then (Maybe (Valued f)) (asked k f) _ (λ e. f-given (Valued f) e _ (λ x. f-static_value f (first_of f.known) (value_of f.known) refl))

f-dimension_at : (first : ℕ) (ms : TypedPart) (a : Attribute) (ds : List Dimension) (at : ℕ) (z : ℤ) → Finds (Naming (Value (bound a (dimension ds (Some z))))) (dimension_at first ms a ds at z)
f-dimension_at first ms a ds at z =
    let Q = Means (Value (bound a (dimension ds (Some z)))) in
    f-if (Maybe Q) (int_le (pos 1) z && int_le z (pos (length ds))) (bound_in first ms a (slice_get ds (unsigned_abs z - 1))) (fault at StaticRange)
    (λ e. let low = (and_parts (int_le (pos 1) z) (int_le z (pos (length ds))) e).0 in
    subst (λ (b : Bool). Finds (Naming (Value (bound a (if b then slice_get ds (unsigned_abs z - 1) else None)))) (bound_in first ms a (slice_get ds (unsigned_abs z - 1)))) (sym low) (f-bound_in first ms a (slice_get ds (unsigned_abs z - 1))))
    (f-fault Q at StaticRange)

f-dimension_given : (first : ℕ) (ms : TypedPart) (a : Attribute) (ds : List Dimension) (f : Found) (v : Option ℤ) → Has v f → Finds (Naming (Value (bound a (dimension ds v)))) (dimension_given first ms a ds f)
f-dimension_given first ms a ds f v h =
    let Q = Means (Value (bound a (dimension ds v))) in
    f-if (Maybe Q) (is_number f.known) _ (fault (first_of f.known) WrongType)
    (λ e. f-bind (Maybe (Valued f)) (Maybe Q) (static_of_kind (own_kind f.known) f) _ (f-static_of_kind (own_kind f.known) f) (λ w q. found e w q))
    (f-fault Q (first_of f.known) WrongType)
  where
    found : is_number f.known ≡ true → (w : Option ℤ) → Maybe (Valued f) w → Finds (Naming (Value (bound a (dimension ds v)))) (given w (dimension_at first (also_all ms (mentions_of f)) a ds (first_of f.known)))
    found e None q = f-none (Means (Value (bound a (dimension ds v))))
    found e (Some z) q =
        subst (λ x. Finds (Naming (Value (bound a (dimension ds x)))) (dimension_at first (also_all ms (mentions_of f)) a ds (first_of f.known) z)) (sym q ∙ h (number-scalar f.known e)) (f-dimension_at first (also_all ms (mentions_of f)) a ds (first_of f.known) z)

f-one_dimension : (first bracket : ℕ) (ms : TypedPart) (a : Attribute) (ds : List Dimension) (fs : List Found) (v : Option ℤ) → One v fs → Finds (Naming (Value (bound a (dimension ds v)))) (one_dimension first bracket ms a ds (None ∷ []) fs)
f-one_dimension first bracket ms a ds (f ∷ []) v h = f-dimension_given first ms a ds f v h
f-one_dimension first bracket ms a ds [] v h = absurd h
f-one_dimension first bracket ms a ds (f ∷ g ∷ fs) v h = absurd h

abbrev BoundsWith : List Shape → Names → Inside → Context → ℕ → Args → Option ℤ → Type 0
BoundsWith shapes names inside here bracket as' v = (first : ℕ) (ms : TypedPart) (a : Attribute) (ds : List Dimension) → Tells shapes (Naming (Value (bound a (dimension ds v)))) (bound_with names inside here first ms a bracket as' ds)

t-bound_with : (shapes : List Shape) (names : Names) (inside : Inside) (here : Context) (bracket : ℕ) (e : Expr) → LevelTells shapes names inside → BoundsWith shapes names inside here bracket (syntax.AlsoArg (syntax.arg None e) syntax.NoArg) (expr_value (there names here shapes) e)
t-bound_with shapes names inside here bracket e l first ms a [] =
    let Q = Means (Value (bound a (dimension [] (expr_value (there names here shapes) e)))) in
    t-of shapes (Maybe Q) _ (k-fault walk first WrongType) (f-fault Q first WrongType)
t-bound_with shapes names inside here bracket e l first ms a (d ∷ ds) =
    let v = expr_value (there names here shapes) e in
    let Q = Means (Value (bound a (dimension (d ∷ ds) v))) in
    t-where_clean shapes (Maybe (One v)) Q (operands names inside here (Some []) (syntax.AlsoArg (syntax.arg None e) syntax.NoArg)) _ (t-operand shapes names inside here e l) (λ fs q.
    t-given shapes (One v) Q fs (one_dimension first bracket ms a (d ∷ ds) (None ∷ [])) q (λ gs s. t-of shapes (Maybe Q) _ (k-one_dimension walk first bracket ms a (d ∷ ds) (None ∷ []) gs) (f-one_dimension first bracket ms a (d ∷ ds) gs v s)))

-- other arguments are none
f-wrong_dimension : (Q : Denoted → Type 0) (names : Names) (inside : Inside) (here : Context) (first : ℕ) (ms : TypedPart) (a : Attribute) (bracket : ℕ) (as' : Args) (ds : List Dimension)
    → ((fs : List Found) → Finds (Maybe Q) (one_dimension first bracket ms a ds (arg_names as') fs)) → Finds (Maybe Q) (bound_with names inside here first ms a bracket as' ds)
f-wrong_dimension Q names inside here first ms a bracket as' [] m = f-fault Q first WrongType
f-wrong_dimension Q names inside here first ms a bracket as' (d ∷ ds) m = f-where_clean Q (operands names inside here (Some []) as') _ (λ fs. f-given Q fs _ m)

t-named_bound : (shapes : List Shape) (names : Names) (inside : Inside) (here : Context) (bracket n : ℕ) (e : Expr) → LevelTells shapes names inside → BoundsWith shapes names inside here bracket (syntax.AlsoArg (syntax.arg (Some n) e) syntax.NoArg) None
t-named_bound shapes names inside here bracket n e l first ms a ds =
    let Q = Means (Value (bound a (dimension ds None))) in
    t-of shapes (Maybe Q) _ (k-bound_with walk names inside here first ms a bracket (syntax.AlsoArg (syntax.arg (Some n) e) syntax.NoArg) ds tt l.keeps)
    (f-wrong_dimension Q names inside here first ms a bracket (syntax.AlsoArg (syntax.arg (Some n) e) syntax.NoArg) ds (λ fs. f-fault Q n WrongType))

t-many_bounds : (shapes : List Shape) (names : Names) (inside : Inside) (here : Context) (bracket : ℕ) (m n : Option ℕ) (e f : Expr) (more : Args) → LevelTells shapes names inside
    → BoundsWith shapes names inside here bracket (syntax.AlsoArg (syntax.arg m e) (syntax.AlsoArg (syntax.arg n f) more)) None
t-many_bounds shapes names inside here bracket m n e f more l first ms a ds =
    let Q = Means (Value (bound a (dimension ds None))) in
    t-of shapes (Maybe Q) _ (k-bound_with walk names inside here first ms a bracket (syntax.AlsoArg (syntax.arg m e) (syntax.AlsoArg (syntax.arg n f) more)) ds tt l.keeps)
    (f-wrong_dimension Q names inside here first ms a bracket (syntax.AlsoArg (syntax.arg m e) (syntax.AlsoArg (syntax.arg n f) more)) ds (λ fs. many m fs))
  where
    many : (m : Option ℕ) (fs : List Found) → Finds (Naming (Value (bound a (dimension ds None)))) (one_dimension first bracket ms a ds (m ∷ n ∷ arg_names more) fs)
    many None fs = f-fault (Means (Value (bound a (dimension ds None)))) bracket WrongType
    many (Some t) fs = f-fault (Means (Value (bound a (dimension ds None)))) bracket WrongType

t-of_array : (shapes : List Shape) (names : Names) (inside : Inside) (here : Context) (first : ℕ) (ms : TypedPart) (a : Attribute) (bracket : ℕ) (as' : Args) (t : Subtype) (v : Option ℤ) → LevelTells shapes names inside → BoundsWith shapes names inside here bracket as' v
    → Tells shapes (Naming (Value (bound a (dimension (dimensions shapes t) v)))) (if is_bound a then (read (λ log. dimensions_in log (Some t)) >>= bound_with names inside here first ms a bracket as') else wrong_call names inside here first as')
t-of_array shapes names inside here first ms a bracket as' t v l m =
    let Q = Means (Value (bound a (dimension (dimensions shapes t) v))) in
    t-if shapes (Maybe Q) (is_bound a) _ (wrong_call names inside here first as')
    (λ e. record {
      at = λ log h.
          let r = (m first ms a (dimensions_in log (Some t))).at log h in
          (r.0, subst (λ ds. Naming (Value (bound a (dimension ds v))) (bound_with names inside here first ms a bracket as' (dimensions_in log (Some t)) log).0) (same_dimensions shapes log t h) r.1);
    })
    (t-of shapes (Maybe Q) _ (k-wrong_call walk names inside here first as' tt l.keeps) (f-wrong_call Q names inside here first as'))

-- ---- reductions of arrays

f-array_reduction : (names : Names) (inside : Inside) (here : Context) (p : ObjectName) (ss : Selections) (at : ℕ) (a : Attribute) (r v : Expr) → Finds (Naming nothing) (array_reduction names inside here p ss at a r v)
f-array_reduction names inside here p ss at a r v =
    f-then (Naming nothing) (site_where here p.first (is_parallel a)) _ (λ construct.
    f-then (Naming nothing) new_parameter _ (λ n.
    f-then (Naming nothing) (read (λ log. through log p ss (array_shape log p.subtype) n typed.Absent)) _ (λ i.
    f-then (Naming nothing) (read (λ log. component_of (array_shape log p.subtype))) _ (λ c.
    f-then (Naming nothing) (reducer_of names inside here r) _ (λ f.
    f-then (Naming nothing) (expr names inside here wanted.Other v) _ (λ x.
    f-bind (Maybe Plain) (Naming nothing) _ _ (f-both Plain f x _ (λ g y. f-folded_by (record { at = p.first; attribute = at; site = construct }) part.Nothing (part.AnIteration i) g (item_found p.first n p.variable c) y)) (λ y q. f-pure (Naming nothing) (option_map value_denoted y) (named y q))))))))
  where
    named : (y : Option Found) → Maybe Plain y → Naming nothing (option_map value_denoted y)
    named None q = tt
    named (Some f) q = record { meaning = q.unnamed; bare = q.is.bare }

f-wrong_arguments : (names : Names) (inside : Inside) (here : Context) (bracket : ℕ) (as' : Args) → Finds (Naming nothing) (wrong_arguments names inside here bracket as')
f-wrong_arguments names inside here bracket as' = f-where_clean (Means nothing) (args_alone names inside here as') _ (λ u. f-fault (Means nothing) bracket WrongType)

f-array_reduced : (names : Names) (inside : Inside) (here : Context) (p : ObjectName) (ss : Selections) (at : ℕ) (a : Attribute) (bracket : ℕ) (as' : Args) → Finds (Naming nothing) (array_reduced names inside here p ss at a bracket as')
f-array_reduced names inside here p ss at a bracket (syntax.AlsoArg (syntax.arg None r) (syntax.AlsoArg (syntax.arg None v) syntax.NoArg)) = f-array_reduction names inside here p ss at a r v
f-array_reduced names inside here p ss at a bracket as' = f-wrong_arguments names inside here bracket as'

f-no_reduction : (Q : Denoted → Type 0) (names : Names) (inside : Inside) (here : Context) (at : ℕ) (as' : Args) → Finds (Maybe Q) (where_clean (args_alone names inside here as') (λ u. fault at ReduceRule))
f-no_reduction Q names inside here at as' = f-where_clean Q (args_alone names inside here as') _ (λ u. f-fault Q at ReduceRule)

f-reduced_object : (names : Names) (inside : Inside) (here : Context) (first : ℕ) (p : ObjectName) (x : TypedPart) (at : ℕ) (a : Attribute) (bracket : ℕ) (as' : Args) (b : Bool) → Finds (Naming nothing) (reduced_with names inside here first (prefix.Object p) x at a bracket as' b)
f-reduced_object names inside here first p x at a bracket as' true = f-array_reduced names inside here p (selections_of x) at a bracket as'
f-reduced_object names inside here first p x at a bracket as' false = f-no_reduction (Means nothing) names inside here at as'

-- ---- attributes with a bracket

t-object_with : (shapes : List Shape) (names : Names) (inside : Inside) (here : Context) (first : ℕ) (p : ObjectName) (x : TypedPart) (at : ℕ) (a : Attribute) (bracket : ℕ) (as' : Args) (v : Option ℤ) → LevelTells shapes names inside → BoundsWith shapes names inside here bracket as' v
    → Tells shapes (Naming (Value (bound a (dimension (dimensions shapes p.subtype) v)))) (attribute_with names inside here first (prefix.Object p) x at a bracket as')
t-object_with shapes names inside here first p x at attribute'.Reduce bracket as' v l m =
    t-of shapes (Naming nothing) _ (k-attribute_with walk names inside here first (prefix.Object p) x at attribute'.Reduce bracket as' tt l.keeps)
    (f-then (Naming nothing) (read (λ log. is_array_object log (prefix.Object p))) _ (λ b. f-reduced_object names inside here first p x at attribute'.Reduce bracket as' b))
t-object_with shapes names inside here first p x at attribute'.ParallelReduce bracket as' v l m =
    t-of shapes (Naming nothing) _ (k-attribute_with walk names inside here first (prefix.Object p) x at attribute'.ParallelReduce bracket as' tt l.keeps)
    (f-then (Naming nothing) (read (λ log. is_array_object log (prefix.Object p))) _ (λ b. f-reduced_object names inside here first p x at attribute'.ParallelReduce bracket as' b))
t-object_with shapes names inside here first p x at a bracket as' v l m = t-of_array shapes names inside here first (mentioned (prefix.Object p) x) a bracket as' p.subtype v l m

t-array_with : (shapes : List Shape) (names : Names) (inside : Inside) (here : Context) (first n : ℕ) (x : TypedPart) (at : ℕ) (a : Attribute) (bracket : ℕ) (as' : Args) (v : Option ℤ) → LevelTells shapes names inside → BoundsWith shapes names inside here bracket as' v
    → Tells shapes (Naming (Value (bound a (dimension (dimensions shapes (subtype.Composite n)) v)))) (attribute_with names inside here first (prefix.Type (subtype.Composite n)) x at a bracket as')
t-array_with shapes names inside here first n x at attribute'.Reduce bracket as' v l m =
    t-of shapes (Naming nothing) _ (k-attribute_with walk names inside here first (prefix.Type (subtype.Composite n)) x at attribute'.Reduce bracket as' tt l.keeps)
    (f-then (Naming nothing) (read (λ log. is_array_object log (prefix.Type (subtype.Composite n)))) _ (λ b. f-no_reduction (Means nothing) names inside here at as'))
t-array_with shapes names inside here first n x at attribute'.ParallelReduce bracket as' v l m =
    t-of shapes (Naming nothing) _ (k-attribute_with walk names inside here first (prefix.Type (subtype.Composite n)) x at attribute'.ParallelReduce bracket as' tt l.keeps)
    (f-then (Naming nothing) (read (λ log. is_array_object log (prefix.Type (subtype.Composite n)))) _ (λ b. f-no_reduction (Means nothing) names inside here at as'))
t-array_with shapes names inside here first n x at a bracket as' v l m = t-of_array shapes names inside here first part.Nothing a bracket as' (subtype.Composite n) v l m

f-scalar_type_with : (names : Names) (inside : Inside) (here : Context) (first : ℕ) (s : Scalar) (x : TypedPart) (at : ℕ) (a : Attribute) (bracket : ℕ) (as' : Args) → Finds (Naming nothing) (attribute_with names inside here first (prefix.Type (subtype.Scalar s)) x at a bracket as')
f-scalar_type_with names inside here first s x at a bracket as' =
    f-if (Naming nothing) (is_reduction a) _ (scalar_with names inside here first s a bracket as')
    (λ e. f-then (Naming nothing) (read (λ log. is_array_object log (prefix.Type (subtype.Scalar s)))) _ (λ b. f-no_reduction (Means nothing) names inside here at as'))
    (f-scalar_with names inside here first s a bracket as')

f-other_with : (names : Names) (inside : Inside) (here : Context) (first : ℕ) (ms : TypedPart) (a : Attribute) (bracket : ℕ) (as' : Args) → Finds (Naming nothing) (if is_bound a then (read (λ log. dimensions_in log None) >>= bound_with names inside here first ms a bracket as') else wrong_call names inside here first as')
f-other_with names inside here first ms a bracket as' =
    f-if (Naming nothing) (is_bound a) _ (wrong_call names inside here first as') (λ e. record { at = λ log. tt }) (f-wrong_call (Means nothing) names inside here first as')

f-nothing_with : (names : Names) (inside : Inside) (here : Context) (first : ℕ) (p : Prefix) (x : TypedPart) (at : ℕ) (a : Attribute) (bracket : ℕ) (as' : Args)
    → ((b : Bool) → Finds (Naming nothing) (reduced_with names inside here first p x at a bracket as' b)) → Finds (Naming nothing) (other_with names inside here first p x at a bracket as')
    → Finds (Naming nothing) (attribute_with names inside here first p x at a bracket as')
f-nothing_with names inside here first p x at a bracket as' m n =
    f-if (Naming nothing) (is_reduction a) _ (other_with names inside here first p x at a bracket as') (λ e. f-then (Naming nothing) (read (λ log. is_array_object log p)) _ m) n

-- ---- what follows an identifier

t-call_form : (shapes : List Shape) (names : Names) (inside : Inside) (here : Context) (bracket : ℕ) (as' : Args) (v : Option ℤ) (k : KnownDenoted) (x : TypedPart) → LevelTells shapes names inside → BoundsWith shapes names inside here bracket as' v
    → Tells shapes (Naming (after_bracket (there names here shapes) v (meant k))) (call_form names inside here bracket as' k x)
t-call_form shapes names inside here bracket as' v (denoted.Value (known.Object p)) x l m = t-object_call shapes names inside here p x bracket as' p.subtype v p.value l
t-call_form shapes names inside here bracket as' v (denoted.Type first t) x l m = t-of shapes (Naming nothing) _ (k-conversion walk names inside here bracket first t as' tt l.keeps) (f-conversion names inside here bracket first t as')
t-call_form shapes names inside here bracket as' v (denoted.Sub first last n) x l m = t-of shapes (Naming nothing) _ (k-sub_call walk names inside here bracket first last n as' tt l.keeps) (f-sub_call names inside here bracket first last n as')
t-call_form shapes names inside here bracket as' v (denoted.Io first last p r) x l m = t-of shapes (Naming nothing) _ (k-io_call walk names inside here bracket first last p r as' tt l.keeps) (f-io_call names inside here bracket first last p r as')
t-call_form shapes names inside here bracket as' v (denoted.Attribute first (prefix.Object p) at a) x l m = t-object_with shapes names inside here first p x at a bracket as' v l m
t-call_form shapes names inside here bracket as' v (denoted.Attribute first (prefix.Type (subtype.Composite n)) at a) x l m = t-array_with shapes names inside here first n x at a bracket as' v l m
t-call_form shapes names inside here bracket as' v (denoted.Attribute first (prefix.Type (subtype.Scalar s)) at a) x l m =
    t-of shapes (Naming nothing) _ (k-attribute_with walk names inside here first (prefix.Type (subtype.Scalar s)) x at a bracket as' tt l.keeps) (f-scalar_type_with names inside here first s x at a bracket as')
t-call_form shapes names inside here bracket as' v (denoted.Attribute first (prefix.Parameter s) at a) x l m =
    t-of shapes (Naming nothing) _ (k-attribute_with walk names inside here first (prefix.Parameter s) x at a bracket as' tt l.keeps)
    (f-nothing_with names inside here first (prefix.Parameter s) x at a bracket as' (λ b. f-no_reduction (Means nothing) names inside here at as') (f-other_with names inside here first part.Nothing a bracket as'))
t-call_form shapes names inside here bracket as' v (denoted.Attribute first (prefix.Function n) at a) x l m =
    t-of shapes (Naming nothing) _ (k-attribute_with walk names inside here first (prefix.Function n) x at a bracket as' tt l.keeps)
    (f-nothing_with names inside here first (prefix.Function n) x at a bracket as' (λ b. f-no_reduction (Means nothing) names inside here at as') (f-other_with names inside here first part.Nothing a bracket as'))
t-call_form shapes names inside here bracket as' v (denoted.Attribute first prefix.Other at a) x l m =
    t-of shapes (Naming nothing) _ (k-attribute_with walk names inside here first prefix.Other x at a bracket as' tt l.keeps)
    (f-nothing_with names inside here first prefix.Other x at a bracket as' (λ b. f-no_reduction (Means nothing) names inside here at as') (f-other_with names inside here first part.Nothing a bracket as'))
t-call_form shapes names inside here bracket as' v k x l m =
    t-of shapes (Naming (after_bracket (there names here shapes) v (meant k))) _ (k-wrong_call walk names inside here (denoted_first k) as' tt l.keeps) (f-wrong_call (Means (after_bracket (there names here shapes) v (meant k))) names inside here (denoted_first k) as')

t-call : (shapes : List Shape) (names : Names) (inside : Inside) (here : Context) (bracket : ℕ) (as' : Args) (v : Option ℤ) (d : Denoted) (s : Standing) → LevelTells shapes names inside → BoundsWith shapes names inside here bracket as' v → Means s d
    → Tells shapes (Naming (after_bracket (there names here shapes) v s)) (call names inside here bracket as' d)
unfolding call
t-call shapes names inside here bracket as' v d s l m h =
    subst (λ z. Tells shapes (Naming (after_bracket (there names here shapes) v z)) (call_form names inside here bracket as' d.known d.part)) h.meaning (t-call_form shapes names inside here bracket as' v d.known d.part l m)

tick-means : (first at : ℕ) (by : Attribute) (k : KnownDenoted) → meant (denoted.Attribute first (prefix_of k) at by) ≡ after_tick (Some by) (meant k)
tick-means first at by (denoted.Value (known.Object p)) = refl
tick-means first at by (denoted.Type f t) = refl
tick-means first at by (denoted.Attribute f (prefix.Object p) n a) = refl
tick-means first at by (denoted.Attribute f (prefix.Type t) n a) = refl
tick-means first at by (denoted.Attribute f (prefix.Parameter t) n a) = refl
tick-means first at by (denoted.Attribute f (prefix.Function t) n a) = refl
tick-means first at by (denoted.Attribute f prefix.Other n a) = refl
tick-means first at by k = refl

f-attribute_found : (d : Denoted) (at : ℕ) (a : Option Attribute) → Finds (Naming (after_tick a (meant d.known))) (attribute_found d at a)
f-attribute_found d at None = f-fault (Means nothing) at Unknown
f-attribute_found d at (Some by) =
    f-if (Naming (after_tick (Some by) (meant d.known))) (is_left_out (prefix_of d.known) by) (fault at Unknown) _ (λ e. f-fault (Means (after_tick (Some by) (meant d.known))) at Unknown)
    (f-some (Means (after_tick (Some by) (meant d.known))) (denote (denoted.Attribute (denoted_first d.known) (prefix_of d.known) at by) d.part) (record { meaning = tick-means (denoted_first d.known) at by d.known; bare = refl }))

tick-settled : (shapes : List Shape) (a : Option Attribute) (s : Standing) → after_tick a (settled shapes s) ≡ after_tick a s
tick-settled shapes None s = refl
tick-settled shapes (Some by) (Value v) = refl
tick-settled shapes (Some by) (Object t v) = refl
tick-settled shapes (Some by) (ASubtype t) = refl
tick-settled shapes (Some by) (OfObject a t) = refl
tick-settled shapes (Some by) (OfType a (subtype.Scalar s)) = refl
tick-settled shapes (Some by) (OfType a (subtype.Composite n)) = refl

t-tick : (shapes : List Shape) (at : ℕ) (a : Option Attribute) (d : Denoted) (s : Standing) → Means s d → Tells shapes (Naming (after_tick a s)) (settled_attribute d >>= λ x. given x (λ e. attribute_found e at a))
t-tick shapes at a d s h =
    t-bind shapes (NamingWith (settled shapes s) (modular_in s)) (Naming (after_tick a s)) (settled_attribute d) _ (t-settled shapes d s h) (λ x q.
    t-given shapes (MeansWith (settled shapes s) (modular_in s)) (Means (after_tick a s)) x (λ e. attribute_found e at a) q (λ e r.
    t-of shapes (Naming (after_tick a s)) (attribute_found e at a) (k-attribute_found walk e at a)
    (subst (λ z. Finds (Naming z) (attribute_found e at a)) (ap (after_tick a) r.meaning ∙ tick-settled shapes a s) (f-attribute_found e at a))))

t-part_of : (shapes : List Shape) (names : Names) (inside : Inside) (here : Context) (p : NamePart) (d : Denoted) (s : Standing) → LevelTells shapes names inside → Means s d → Tells shapes (Naming (after_part (there names here shapes) s p)) (part_of names inside here p d)
unfolding part_of
t-part_of shapes names inside here (syntax.Field at) d s l h =
    t-bind shapes (NamingWith (settled shapes s) (modular_in s)) (Naming (after_point (there names here shapes) at s)) (settled_attribute d) _ (t-settled shapes d s h) (λ x q.
    t-given shapes (MeansWith (settled shapes s) (modular_in s)) (Means (after_point (there names here shapes) at s)) x (field names here at) q (λ e r. t-field shapes names here at s e r))
t-part_of shapes names inside here (syntax.Call bracket (syntax.arg None e) syntax.NoArg) d s l h =
    t-call shapes names inside here bracket (syntax.AlsoArg (syntax.arg None e) syntax.NoArg) (expr_value (there names here shapes) e) d s l (t-bound_with shapes names inside here bracket e l) h
t-part_of shapes names inside here (syntax.Call bracket (syntax.arg (Some n) e) syntax.NoArg) d s l h =
    t-call shapes names inside here bracket (syntax.AlsoArg (syntax.arg (Some n) e) syntax.NoArg) None d s l (t-named_bound shapes names inside here bracket n e l) h
t-part_of shapes names inside here (syntax.Call bracket (syntax.arg None e) (syntax.AlsoArg (syntax.arg n f) more)) d s l h =
    t-call shapes names inside here bracket (syntax.AlsoArg (syntax.arg None e) (syntax.AlsoArg (syntax.arg n f) more)) None d s l (t-many_bounds shapes names inside here bracket None n e f more l) h
t-part_of shapes names inside here (syntax.Call bracket (syntax.arg (Some m) e) (syntax.AlsoArg (syntax.arg n f) more)) d s l h =
    t-call shapes names inside here bracket (syntax.AlsoArg (syntax.arg (Some m) e) (syntax.AlsoArg (syntax.arg n f) more)) None d s l (t-many_bounds shapes names inside here bracket (Some m) n e f more l) h
t-part_of shapes names inside here (syntax.Attribute at) d s l h = t-tick shapes at (attribute_at (symbol names at)) d s h
t-part_of shapes names inside here (syntax.RangeAttribute at) d s l h = t-tick shapes at (Some attribute'.Range) d s h

f-part_alone : (Q : Denoted → Type 0) (names : Names) (inside : Inside) (here : Context) (p : NamePart) → Finds (Maybe Q) (part_alone names inside here p)
f-part_alone Q names inside here (syntax.Call bracket a as') = f-then (Maybe Q) (args_alone names inside here (syntax.AlsoArg a as')) _ (λ u. f-none Q)
f-part_alone Q names inside here p = f-none Q

t-next_part : (shapes : List Shape) (names : Names) (inside : Inside) (here : Context) (d : Option Denoted) (p : NamePart) (s : Standing) → LevelTells shapes names inside → Naming s d → Tells shapes (Naming (after_part (there names here shapes) s p)) (next_part names inside here d p)
t-next_part shapes names inside here None p s l h =
    t-of shapes (Naming (after_part (there names here shapes) s p)) _ (k-part_alone walk names inside here p tt l.keeps) (f-part_alone (Means (after_part (there names here shapes) s p)) names inside here p)
t-next_part shapes names inside here (Some d) p s l h = t-part_of shapes names inside here p d s l h

t-parts : (shapes : List Shape) (names : Names) (inside : Inside) (here : Context) (d : Option Denoted) (ps : NameParts) (s : Standing) → LevelTells shapes names inside → Naming s d → Tells shapes (Naming (after_parts (there names here shapes) s ps)) (parts names inside here d ps)
t-parts shapes names inside here d syntax.NoPart s l h = t-pure shapes (Naming s) d h
t-parts shapes names inside here d (syntax.AlsoPart p ps) s l h =
    let a = there names here shapes in
    t-bind shapes (Naming (after_part a s p)) (Naming (after_parts a (after_part a s p) ps)) (next_part names inside here d p) _ (t-next_part shapes names inside here d p s l h) (λ e q. t-parts shapes names inside here e ps (after_part a s p) l q)

-- ---- whole names, and their values

abbrev standing : Names → Context → List Shape → Name → Standing
standing names here shapes (syntax.name first ps) = settled shapes (after_parts (there names here shapes) (declared (lookup (symbol names first) here.scope)) ps)

t-name : (shapes : List Shape) (names : Names) (inside : Inside) (here : Context) (x : Name) → LevelTells shapes names inside → Tells shapes (NamingWith (standing names here shapes x) (name_bound (there names here shapes) x)) (name names inside here x)
unfolding name
t-name shapes names inside here (syntax.name first ps) l =
    let s = declared (lookup (symbol names first) here.scope) in
    let t = after_parts (there names here shapes) s ps in
    let Q = MeansWith (settled shapes t) (modular_in t) in
    t-bind shapes (Naming s) (Maybe Q) (stands_for names here first) _ (t-of shapes (Naming s) _ (k-stands_for walk names here first tt) (f-stands_for names here first)) (λ d q.
    t-bind shapes (Naming t) (Maybe Q) (parts names inside here d ps) _ (t-parts shapes names inside here d ps s l q) (λ e r.
    t-given shapes (Means t) Q e settled_attribute r (λ f u. t-settled shapes f t u)))

t-valued_form : (shapes : List Shape) (names : Names) (inside : Inside) (here : Context) (k : KnownDenoted) (x : TypedPart) (b : Option ℤ) → LevelTells shapes names inside → BareName b k x → Tells shapes (NamingWith (meant k) b) (valued_form names inside here k x)
t-valued_form shapes names inside here (denoted.Sub first last n) x b l h =
    subst (λ c. Tells shapes (NamingWith nothing c) (sub_call names inside here first first last n syntax.NoArg)) (sym h) (t-of shapes (Naming nothing) _ (k-sub_call walk names inside here first first last n syntax.NoArg tt l.keeps) (f-sub_call names inside here first first last n syntax.NoArg))
t-valued_form shapes names inside here (denoted.Io first last p r) x b l h =
    subst (λ c. Tells shapes (NamingWith nothing c) (io_call names inside here first first last p r syntax.NoArg)) (sym h) (t-of shapes (Naming nothing) _ (k-io_call walk names inside here first first last p r syntax.NoArg tt l.keeps) (f-io_call names inside here first first last p r syntax.NoArg))
t-valued_form shapes names inside here k x b l h = t-pure shapes (NamingWith (meant k) b) (Some (denote k x)) (record { meaning = refl; bare = h })

t-valued_by : (shapes : List Shape) (names : Names) (inside : Inside) (here : Context) (d : Denoted) (s : Standing) (b : Option ℤ) → LevelTells shapes names inside → MeansWith s b d → Tells shapes (NamingWith s b) (valued_by names inside here d)
unfolding valued_by
t-valued_by shapes names inside here d s b l h = subst (λ z. Tells shapes (NamingWith z b) (valued_form names inside here d.known d.part)) h.meaning (t-valued_form shapes names inside here d.known d.part b l h.bare)

value-meant : (f : Known) → value_of f ≡ value_in (meant (denoted.Value f))
value-meant (known.Object p) = refl
value-meant f = refl

f-value_form : (k : KnownDenoted) (x : TypedPart) (b : Option ℤ) → BareName b k x → Finds (FindingWith (value_in (meant k)) b) (value_form k x)
f-value_form (denoted.Value f) x b h = f-some (IsWith (value_in (meant (denoted.Value f))) b) (record { known = f; part = x }) (record { value = λ e. value-meant f; bare = h })
f-value_form (denoted.Parameter first s) x b h = f-some (IsWith None b) (parameter_found first s x) (record { value = λ e. refl; bare = h })
f-value_form k x b h = f-fault (IsWith (value_in (meant k)) b) (denoted_first k) WrongType

t-value_form : (shapes : List Shape) (d : Denoted) (s : Standing) (b : Option ℤ) → MeansWith s b d → Tells shapes (FindingWith (value_in s) b) (value_form d.known d.part)
t-value_form shapes d s b h = t-of shapes (FindingWith (value_in s) b) _ (k-value_form walk d.known d.part) (subst (λ z. Finds (FindingWith (value_in z) b) (value_form d.known d.part)) h.meaning (f-value_form d.known d.part b h.bare))

pub t-value_named : (shapes : List Shape) (names : Names) (inside : Inside) (here : Context) (x : Name) → LevelTells shapes names inside → Tells shapes (FindingWith (name_value (there names here shapes) x) (name_bound (there names here shapes) x)) (value_named names inside here x)
unfolding value_named
t-value_named shapes names inside here (syntax.name first ps) l =
    let s = standing names here shapes (syntax.name first ps) in
    let b = name_bound (there names here shapes) (syntax.name first ps) in
    t-bind shapes (NamingWith s b) (FindingWith (value_in s) b) (name names inside here (syntax.name first ps)) _ (t-name shapes names inside here (syntax.name first ps) l) (λ d q.
    t-bind shapes (NamingWith s b) (FindingWith (value_in s) b) (given d (valued_by names inside here)) _ (t-given shapes (MeansWith s b) (MeansWith s b) d (valued_by names inside here) q (λ e r. t-valued_by shapes names inside here e s b l r)) (λ e r.
    t-given shapes (MeansWith s b) (IsWith (value_in s) b) e (λ y. value_form y.known y.part) r (λ y u. t-value_form shapes y s b u)))
