-- What names denote is right: what attributes give.
use Rattle.ada_base.specs.declared.operation.Op.TheVariants as op
use Rattle.ada_base.specs.declared.operation.Op.{Op}
use Rattle.name_rules.specs.Calls.{arg_names, operands}
use Rattle.name_rules.specs.Expressions.{Inside}
use Rattle.name_rules.specs.Found.{Denoted, Found, denote, parameter_found, static, universal, value_denoted}
use Rattle.name_rules.specs.Names.{denoted_first, wrong_call}
use Rattle.name_rules.specs.Types.{extent, is_integer}
use Rattle.name_rules.specs.Values.{asked, first_of, is_number, mentions_of, own_kind, static_of_kind}
use Rattle.name_rules.specs.declared.found.Attribute.TheVariants as attribute'
use Rattle.name_rules.specs.declared.found.Attribute.{Attribute}
use Rattle.name_rules.specs.declared.found.Denoted.TheVariants as denoted
use Rattle.name_rules.specs.declared.found.Denoted.{Denoted as KnownDenoted}
use Rattle.name_rules.specs.declared.found.Found.TheVariants as known
use Rattle.name_rules.specs.declared.found.ObjectName.{ObjectName}
use Rattle.name_rules.specs.declared.found.Prefix.TheVariants as prefix
use Rattle.name_rules.specs.declared.found.Prefix.{Prefix}
use Rattle.name_rules.specs.declared.log.Dimension.{Dimension}
use Rattle.name_rules.specs.declared.log.Rule.TheVariants.{ReduceRule, StaticRange, Unknown, WrongType}
use Rattle.name_rules.specs.declared.scope.Context.{Context}
use Rattle.name_rules.specs.declared.scope.Names.{Names}
use Rattle.name_rules.specs.declared.types.Kind.{Kind}
use Rattle.name_rules.specs.declared.types.Scalar.{Scalar}
use Rattle.name_rules.specs.declared.types.Subtype.TheVariants as subtype
use Rattle.name_rules.specs.declared.types.Subtype.{Subtype}
use Rattle.syntax_tree.specs.Syntax.{Args}
use Rattle.typed_tree.specs.Syntax.{Expr as TypedExpr}
use Rattle.std.specs.Prelude.{Bool, List, None, Option, Some, [], false, if◌then◌else◌, int_le, length, option_map, pos, slice_get, true, unsigned_abs, ℕ, ℤ, ◌&&◌, ◌-◌, ◌∷◌}
use Rattle.name_rules.specs.TypedParts.{also_all}
use Rattle.typed_tree.specs.Decoded.{TypedPart, as_expr}
use Rattle.name_rules.specs.Judging.{◌>>=◌, fault, given, pure, read, some}
use Rattle.name_rules.specs.Attributes.{prefix_of, attribute_found, scalar_bound, dimension_bound, mentioned, prefix_subtype, dimensions_in, bound_in, bound_alone, dimension_at, dimension_given, one_dimension, bound_with, first_named, one_given, two_given, one_named, two_named, one_argument, two_arguments_of, image_text, extreme, step, stepped, scalar_with, object_image, is_bound, is_reduction, reduced_alone, is_array_object, alone, settled_form, settled_attribute, is_left_out, bound_found}
use Rattle.name_laws.proofs.CellsCounted.{HaveValues}
use Rattle.name_laws.proofs.CellsDeclared.{Ends, IsRightly, Named, e-bind, e-fault, e-given, e-if, e-joined, e-map, e-some, e-where_clean}
use Rattle.name_laws.proofs.CellsSound.{Sound}
use Rattle.name_laws.proofs.EndsNames.{e-wrong_call}
use Rattle.name_rules.specs.Types.{dimensions_of, shape_in}
use Rattle.name_rules.specs.declared.log.Log.{Log}
use Rattle.name_rules.specs.declared.log.Shape.{Shape}
use Rattle.name_rules.specs.declared.log.Shape.TheVariants as shape
use Rattle.std.proofs.Common.{◌≡◌, refl, zero, suc}

pub e-attribute_found : (m0 : ℕ) (d : Denoted) (at : ℕ) (a : Option Attribute) → Ends m0 (attribute_found d at a)
e-attribute_found m0 d at None = e-fault m0 at Unknown
e-attribute_found m0 d at (Some a) =
    e-if m0 (is_left_out (prefix_of d.known) a) (fault at Unknown) (some (denote (denoted.Attribute (denoted_first d.known) (prefix_of d.known) at a) d.part)) (e-fault m0 at Unknown)
    (e-some m0 (denote (denoted.Attribute (denoted_first d.known) (prefix_of d.known) at a) d.part) tt)

e-scalar_bound : (m0 first : ℕ) (s : Scalar) (a : Attribute) → Ends m0 (scalar_bound first s a)
e-scalar_bound m0 first s attribute'.First = e-some m0 (value_denoted (bound_found first s.kind s.low)) tt
e-scalar_bound m0 first s attribute'.Last = e-some m0 (value_denoted (bound_found first s.kind s.high)) tt
e-scalar_bound m0 first s a = e-fault m0 first WrongType

e-dimension_bound : (m0 first : ℕ) (ms : TypedPart) (a : Attribute) (d : Dimension) → int_le d.low d.high ≡ true → Ends m0 (dimension_bound first ms a d)
e-dimension_bound m0 first ms attribute'.First d h = e-some m0 (value_denoted (static first d.kind d.low ms)) tt
e-dimension_bound m0 first ms attribute'.Last d h = e-some m0 (value_denoted (static first d.kind d.high ms)) tt
e-dimension_bound m0 first ms attribute'.Length d h = e-some m0 (value_denoted (universal first (pos (extent d)) false ms)) tt
e-dimension_bound m0 first ms attribute'.Range d h = e-some m0 (denote (denoted.Range first d) ms) h
e-dimension_bound m0 first ms a d h = e-fault m0 first WrongType

e-bound_in : (m0 first : ℕ) (ms : TypedPart) (a : Attribute) (ds : List Dimension) (i : ℕ) → HaveValues ds → Ends m0 (bound_in first ms a (slice_get ds i))
e-bound_in m0 first ms a [] i h = e-fault m0 first WrongType
e-bound_in m0 first ms a (d ∷ ds) zero h = e-dimension_bound m0 first ms a d h.0
e-bound_in m0 first ms a (d ∷ ds) (suc i) h = e-bound_in m0 first ms a ds i h.1

e-dimension_at : (m0 first : ℕ) (ms : TypedPart) (a : Attribute) (ds : List Dimension) (at : ℕ) (z : ℤ) → HaveValues ds → Ends m0 (dimension_at first ms a ds at z)
e-dimension_at m0 first ms a ds at z h = e-if m0 (int_le (pos 1) z && int_le z (pos (length ds))) (bound_in first ms a (slice_get ds (unsigned_abs z - 1))) (fault at StaticRange) (e-bound_in m0 first ms a ds (unsigned_abs z - 1) h) (e-fault m0 at StaticRange)

e-dimension_given : (m0 first : ℕ) (ms : TypedPart) (a : Attribute) (ds : List Dimension) (f : Found) → HaveValues ds → Ends m0 (dimension_given first ms a ds f)
e-dimension_given m0 first ms a ds f h =
    let g = dimension_at first (also_all ms (mentions_of f)) a ds (first_of f.known) in
    e-if m0 (is_number f.known) (static_of_kind (own_kind f.known) f >>= λ v. given v g) (fault (first_of f.known) WrongType)
    (e-bind m0 (static_of_kind (own_kind f.known) f) (λ v. given v g) (λ v. e-given m0 v g (λ z. e-dimension_at m0 first (also_all ms (mentions_of f)) a ds (first_of f.known) z h))) (e-fault m0 (first_of f.known) WrongType)

e-one_dimension : (m0 first bracket : ℕ) (ms : TypedPart) (a : Attribute) (ds : List Dimension) (ns : List (Option ℕ)) (fs : List Found) → HaveValues ds → Ends m0 (one_dimension first bracket ms a ds ns fs)
e-one_dimension m0 first bracket ms a ds (None ∷ []) (f ∷ []) h = e-dimension_given m0 first ms a ds f h
e-one_dimension m0 first bracket ms a ds (Some name ∷ []) fs h = e-fault m0 name WrongType
e-one_dimension m0 first bracket ms a ds ns fs h = e-fault m0 bracket WrongType

pub e-bound_with : (m0 : ℕ) (names : Names) (inside : Inside) (here : Context) (first : ℕ) (ms : TypedPart) (a : Attribute) (bracket : ℕ) (as' : Args) (ds : List Dimension) → HaveValues ds → Ends m0 (bound_with names inside here first ms a bracket as' ds)
e-bound_with m0 names inside here first ms a bracket as' [] h = e-fault m0 first WrongType
e-bound_with m0 names inside here first ms a bracket as' (d ∷ ds) h =
    let g = one_dimension first bracket ms a (d ∷ ds) (arg_names as') in
    e-where_clean m0 (operands names inside here (Some []) as') (λ fs. given fs g) (λ fs. e-given m0 fs g (λ z. e-one_dimension m0 first bracket ms a (d ∷ ds) (arg_names as') z h))

e-one_given : (m0 : ℕ) (k : Kind) (make : TypedExpr → Denoted) (f : Found) → ((x : TypedExpr) → IsRightly m0 (make x).known) → Ends m0 (one_given k make f)
e-one_given m0 k make f h = e-bind m0 (asked k f) (λ e. pure (option_map (λ x. make (as_expr x)) e)) (λ e. e-map m0 (λ x. make (as_expr x)) e (λ y. h (as_expr y)))

e-two_given : (m0 : ℕ) (k : Kind) (make : TypedExpr → TypedExpr → Denoted) (f g : Found) → ((x y : TypedExpr) → IsRightly m0 (make x y).known) → Ends m0 (two_given k make f g)
e-two_given m0 k make f g h = record {
  at = λ log. let x = asked k f log in let y = asked k g x.1 in
      (e-joined m0 (λ d e. make (as_expr d) (as_expr e)) x.0 y.0 (λ a b. h (as_expr a) (as_expr b))).at y.1;
}

e-one_named : (m0 bracket : ℕ) (k : Kind) (make : TypedExpr → Denoted) (x : Option ℕ) (fs : List Found) → ((x : TypedExpr) → IsRightly m0 (make x).known) → Ends m0 (one_named bracket k make x fs)
e-one_named m0 bracket k make (Some name) fs h = e-fault m0 name Unknown
e-one_named m0 bracket k make None (f ∷ []) h = e-one_given m0 k make f h
e-one_named m0 bracket k make None fs h = e-fault m0 bracket WrongType

e-two_named : (m0 bracket : ℕ) (k : Kind) (make : TypedExpr → TypedExpr → Denoted) (x : Option ℕ) (fs : List Found) → ((x y : TypedExpr) → IsRightly m0 (make x y).known) → Ends m0 (two_named bracket k make x fs)
e-two_named m0 bracket k make (Some name) fs h = e-fault m0 name Unknown
e-two_named m0 bracket k make None (f ∷ g ∷ []) h = e-two_given m0 k make f g h
e-two_named m0 bracket k make None fs h = e-fault m0 bracket WrongType

e-one_argument : (m0 : ℕ) (names : Names) (inside : Inside) (here : Context) (bracket : ℕ) (k : Kind) (make : TypedExpr → Denoted) (as' : Args) → ((x : TypedExpr) → IsRightly m0 (make x).known) → Ends m0 (one_argument names inside here bracket k make as')
unfolding one_argument
e-one_argument m0 names inside here bracket k make as' h =
    let g = one_named bracket k make (first_named (arg_names as')) in
    e-where_clean m0 (operands names inside here (Some []) as') (λ fs. given fs g) (λ fs. e-given m0 fs g (λ z. e-one_named m0 bracket k make (first_named (arg_names as')) z h))

e-two_arguments_of : (m0 : ℕ) (names : Names) (inside : Inside) (here : Context) (bracket : ℕ) (k : Kind) (make : TypedExpr → TypedExpr → Denoted) (as' : Args) → ((x y : TypedExpr) → IsRightly m0 (make x y).known) → Ends m0 (two_arguments_of names inside here bracket k make as')
unfolding two_arguments_of
e-two_arguments_of m0 names inside here bracket k make as' h =
    let g = two_named bracket k make (first_named (arg_names as')) in
    e-where_clean m0 (operands names inside here (Some []) as') (λ fs. given fs g) (λ fs. e-given m0 fs g (λ z. e-two_named m0 bracket k make (first_named (arg_names as')) z h))

e-stepped : (m0 : ℕ) (names : Names) (inside : Inside) (here : Context) (first : ℕ) (s : Scalar) (o : Op) (bracket : ℕ) (as' : Args) → Ends m0 (stepped names inside here first s o bracket as')
e-stepped m0 names inside here first s o bracket as' = e-if m0 (is_integer s.kind) (one_argument names inside here bracket s.kind (step first s.kind o) as') (fault first WrongType) (e-one_argument m0 names inside here bracket s.kind (step first s.kind o) as' (λ y. tt)) (e-fault m0 first WrongType)

pub e-scalar_with : (m0 : ℕ) (names : Names) (inside : Inside) (here : Context) (first : ℕ) (s : Scalar) (a : Attribute) (bracket : ℕ) (as' : Args) → Ends m0 (scalar_with names inside here first s a bracket as')
e-scalar_with m0 names inside here first s attribute'.Image bracket as' = e-one_argument m0 names inside here bracket s.kind (image_text first s.kind) as' (λ y. tt)
e-scalar_with m0 names inside here first s attribute'.Max bracket as' = e-two_arguments_of m0 names inside here bracket s.kind (extreme first s.kind op.Max) as' (λ x y. tt)
e-scalar_with m0 names inside here first s attribute'.Min bracket as' = e-two_arguments_of m0 names inside here bracket s.kind (extreme first s.kind op.Min) as' (λ x y. tt)
e-scalar_with m0 names inside here first s attribute'.Succ bracket as' = e-stepped m0 names inside here first s op.Add bracket as'
e-scalar_with m0 names inside here first s attribute'.Pred bracket as' = e-stepped m0 names inside here first s op.Sub bracket as'
e-scalar_with m0 names inside here first s a bracket as' = e-bind m0 (scalar_bound first s a) (λ d. given d (λ x. wrong_call names inside here first as')) (λ d. e-given m0 d (λ x. wrong_call names inside here first as') (λ x. e-wrong_call m0 names inside here first as'))

e-object_image : (m0 first : ℕ) (p : ObjectName) (x : TypedPart) (t : Subtype) → Ends m0 (object_image first p x t)
e-object_image m0 first p x (subtype.Scalar s) = e-one_given m0 s.kind (image_text first s.kind) (record { known = known.Object p; part = x }) (λ y. tt)
e-object_image m0 first p x (subtype.Composite n) = e-fault m0 first WrongType

e-reduced_alone : (m0 first at : ℕ) (b : Bool) → Ends m0 (reduced_alone first at b)
e-reduced_alone m0 first at true = e-fault m0 first WrongType
e-reduced_alone m0 first at false = e-fault m0 at ReduceRule

values-at : (log : Log) (m : ℕ) → Sound log → HaveValues (dimensions_of (shape_in log m))
values-at log m h = by (slice_get log.shapes m) refl
  where
    by : (t : Option Shape) → slice_get log.shapes m ≡ t → HaveValues (dimensions_of t)
    by None e = tt
    by (Some (shape.Array ds c k cells)) e = (h.before m (shape.Array ds c k cells) e).0
    by (Some (shape.Scalar s)) e = tt
    by (Some (shape.Record fs cells)) e = tt

pub values-in : (log : Log) (t : Option Subtype) → Sound log → HaveValues (dimensions_in log t)
values-in log None h = tt
values-in log (Some (subtype.Scalar s)) h = tt
values-in log (Some (subtype.Composite m)) h = values-at log m h

e-of_subtype : (m0 first : ℕ) (p : Prefix) (x : TypedPart) (a : Attribute) (log : Log) → Sound log → Named m0 (bound_in first (mentioned p x) a (slice_get (dimensions_in log (prefix_subtype p)) 0) log).0
e-of_subtype m0 first p x a log h = (e-bound_in m0 first (mentioned p x) a (dimensions_in log (prefix_subtype p)) 0 (values-in log (prefix_subtype p) h)).at log

e-bound_alone : (m0 first : ℕ) (p : Prefix) (x : TypedPart) (a : Attribute) (log : Log) → Sound log → Named m0 (bound_alone first p x a log).0
e-bound_alone m0 first (prefix.Type (subtype.Scalar s)) x a log h = (e-scalar_bound m0 first s a).at log
e-bound_alone m0 first p x a log h = e-of_subtype m0 first p x a log h

e-others_alone : (m0 first : ℕ) (p : Prefix) (x : TypedPart) (at : ℕ) (a : Attribute) (b : Bool) (log : Log) → Sound log
    → Named m0 ((if b then bound_alone first p x a else if is_reduction a then (read (λ log. is_array_object log p) >>= reduced_alone first at) else fault first WrongType) log).0
e-others_alone m0 first p x at a true log h = e-bound_alone m0 first p x a log h
e-others_alone m0 first p x at a false log h =
    (e-if m0 (is_reduction a) (read (λ log. is_array_object log p) >>= reduced_alone first at) (fault first WrongType)
    (e-bind m0 (read (λ log. is_array_object log p)) (reduced_alone first at) (λ b. e-reduced_alone m0 first at b)) (e-fault m0 first WrongType)).at log

e-alone : (m0 first : ℕ) (p : Prefix) (x : TypedPart) (at : ℕ) (a : Attribute) (log : Log) → Sound log → Named m0 (alone first p x at a log).0
e-alone m0 first (prefix.Object p) x at attribute'.Image log h = (e-object_image m0 first p x p.subtype).at log
e-alone m0 first (prefix.Parameter s) x at attribute'.Image log h = (e-one_given m0 s.kind (image_text first s.kind) (parameter_found first s x) (λ y. tt)).at log
e-alone m0 first p x at a log h = e-others_alone m0 first p x at a (is_bound a) log h

pub e-settled : (m0 : ℕ) (d : Denoted) (log : Log) → IsRightly m0 d.known → Sound log → Named m0 (settled_attribute d log).0
unfolding settled_attribute
e-settled m0 d log h sound = by d.known h
  where
    by : (k : KnownDenoted) → IsRightly m0 k → Named m0 (settled_form k d.part log).0
    by (denoted.Attribute first p at a) h = e-alone m0 first p d.part at a log sound
    by k h = h
