-- What is judged without a fault is found: attributes.
use Rattle.std.proofs.Common.{◌&&◌, ℕ, ℤ, pos, List, [], ◌∷◌, length, Option, Some, None, Bool, true, false, if◌then◌else◌, slice_get}
use Rattle.std.specs.Prelude.{int_le}
use Rattle.ada_base.specs.declared.operation.Op.TheVariants as op
use Rattle.ada_base.specs.declared.operation.Op.{Op}
use Rattle.typed_tree.specs.Decoded.{TypedPart, as_expr}
use Rattle.name_rules.specs.Expressions.{Inside}
use Rattle.name_rules.specs.Found.{Denoted, Found, denote, scalar, static, value_denoted}
use Rattle.name_rules.specs.Judging.{◌>>=◌, fault, given, read}
use Rattle.name_rules.specs.Values as v
use Rattle.name_rules.specs.Values.{asked, first_of, is_number}
use Rattle.name_rules.specs.declared.found.Denoted.TheVariants as denoted
use Rattle.name_rules.specs.declared.found.Denoted.{Denoted as KnownDenoted}
use Rattle.name_rules.specs.declared.found.Found.TheVariants as known
use Rattle.name_rules.specs.declared.found.ObjectName.{ObjectName}
use Rattle.name_rules.specs.declared.log.Dimension.{Dimension}
use Rattle.name_rules.specs.declared.log.Rule.TheVariants as rule
use Rattle.name_rules.specs.declared.scope.Context.{Context}
use Rattle.name_rules.specs.declared.scope.Names.{Names}
use Rattle.name_rules.specs.declared.types.Kind.{Kind}
use Rattle.name_rules.specs.declared.types.Scalar.{Scalar}
use Rattle.name_rules.specs.declared.types.Subtype.TheVariants as subtype
use Rattle.name_rules.specs.declared.types.Subtype.{Subtype}
use Rattle.name_complete.proofs.Explains.{Any, Is, Sound, joint, mapped, s-bind, s-fault, s-given, s-if, s-pure, s-read, s-some, s-where_clean}
use Rattle.name_complete.proofs.Facts.{Clear, DenotedOf, DenotedOk, LevelSound}
use Rattle.syntax_tree.specs.Syntax.{Args}
use Rattle.typed_tree.specs.Syntax.{Expr as TypedExpr}
use Rattle.name_rules.specs.Attributes as a
use Rattle.name_rules.specs.Calls.{arg_names, operands}
use Rattle.name_rules.specs.Names.{wrong_call}
use Rattle.name_rules.specs.Operators.{limit_of}
use Rattle.typed_tree.specs.Decoded as part
use Rattle.name_rules.specs.TypedParts.{also_all}
use Rattle.name_rules.specs.Types.{is_integer, is_modular}
use Rattle.name_rules.specs.Found.{parameter_found}
use Rattle.name_rules.specs.declared.found.Attribute.TheVariants as attribute'
use Rattle.name_rules.specs.declared.found.Attribute.{Attribute}
use Rattle.name_rules.specs.declared.found.Prefix.TheVariants as prefix
use Rattle.name_rules.specs.declared.found.Prefix.{Prefix}
use Rattle.name_complete.proofs.SoundCalls.{s-operands}
use Rattle.name_complete.proofs.SoundNames.{s-wrong_call}
use Rattle.name_complete.proofs.SoundValues.{s-asked, s-static_of_kind}

wrong : (G : Type 0) (at : ℕ) → Sound G (Is DenotedOf) (fault at rule.WrongType)
wrong G at = s-fault G (Is DenotedOf) at rule.WrongType

pub s-attribute_found : (G : Type 0) (d : Denoted) (at : ℕ) (x : Option Attribute) → Sound G (Is DenotedOf) (a.attribute_found d at x)
s-attribute_found G d at None = s-fault G (Is DenotedOf) at rule.Unknown
s-attribute_found G d at (Some x) = s-if G (Is DenotedOf) (a.is_left_out (a.prefix_of d.known) x) _ _ (s-fault G (Is DenotedOf) at rule.Unknown) (s-some G DenotedOf _ (λ g. tt))

bound-found : (first : ℕ) (k : Kind) (z : ℤ) → DenotedOf (value_denoted (a.bound_found first k z))
bound-found first k z = go (is_modular k)
  where
    go : (b : Bool) → DenotedOf (value_denoted (if b then scalar first k None (limit_of first z) else static first k z part.Nothing))
    go true = tt
    go false = tt

s-scalar_bound : (G : Type 0) (first : ℕ) (s : Scalar) (x : Attribute) → Sound G (Is DenotedOf) (a.scalar_bound first s x)
s-scalar_bound G first s attribute'.First = s-some G DenotedOf _ (λ g. bound-found first s.kind s.low)
s-scalar_bound G first s attribute'.Last = s-some G DenotedOf _ (λ g. bound-found first s.kind s.high)
s-scalar_bound G first s x = wrong G first

s-dimension_bound : (G : Type 0) (first : ℕ) (ms : TypedPart) (x : Attribute) (d : Dimension) → Sound G (Is DenotedOf) (a.dimension_bound first ms x d)
s-dimension_bound G first ms attribute'.First d = s-some G DenotedOf _ (λ g. tt)
s-dimension_bound G first ms attribute'.Last d = s-some G DenotedOf _ (λ g. tt)
s-dimension_bound G first ms attribute'.Length d = s-some G DenotedOf _ (λ g. tt)
s-dimension_bound G first ms attribute'.Range d = s-some G DenotedOf _ (λ g. tt)
s-dimension_bound G first ms x d = wrong G first

s-bound_in : (G : Type 0) (first : ℕ) (ms : TypedPart) (x : Attribute) (d : Option Dimension) → Sound G (Is DenotedOf) (a.bound_in first ms x d)
s-bound_in G first ms x None = wrong G first
s-bound_in G first ms x (Some d) = s-dimension_bound G first ms x d

s-bound_of : (G : Type 0) (first : ℕ) (p : Prefix) (y : TypedPart) (x : Attribute) → Sound G (Is DenotedOf) (read (λ log. slice_get (a.dimensions_in log (a.prefix_subtype p)) 0) >>= a.bound_in first (a.mentioned p y) x)
s-bound_of G first p y x = s-bind G Any (Is DenotedOf) (read (λ log. slice_get (a.dimensions_in log (a.prefix_subtype p)) 0)) _ (s-read G Any (λ log. slice_get (a.dimensions_in log (a.prefix_subtype p)) 0) (λ log g. tt)) (λ d. s-bound_in _ first (a.mentioned p y) x d)

s-bound_alone : (G : Type 0) (first : ℕ) (p : Prefix) (y : TypedPart) (x : Attribute) → Sound G (Is DenotedOf) (a.bound_alone first p y x)
s-bound_alone G first (prefix.Type (subtype.Scalar s)) y x = s-scalar_bound G first s x
s-bound_alone G first p y x = s-bound_of G first p y x

s-dimension_at : (G : Type 0) (first : ℕ) (ms : TypedPart) (x : Attribute) (ds : List Dimension) (at : ℕ) (z : ℤ) → Sound G (Is DenotedOf) (a.dimension_at first ms x ds at z)
s-dimension_at G first ms x ds at z = s-if G (Is DenotedOf) (int_le (pos 1) z && int_le z (pos (length ds))) _ _ (s-bound_in G first ms x _) (s-fault G (Is DenotedOf) at rule.StaticRange)

s-dimension_given : (G : Type 0) (first : ℕ) (ms : TypedPart) (x : Attribute) (ds : List Dimension) (f : Found) → Sound G (Is DenotedOf) (a.dimension_given first ms x ds f)
s-dimension_given G first ms x ds f =
    s-if G (Is DenotedOf) (is_number f.known) _ _
    (s-bind G (Is Any) (Is DenotedOf) (v.static_of_kind (v.own_kind f.known) f) _ (s-static_of_kind G (v.own_kind f.known) f) (λ w. s-given _ Any DenotedOf w _ (λ g. g.1) (λ z. s-dimension_at _ first (also_all ms (v.mentions_of f)) x ds (first_of f.known) z)))
    (wrong G (first_of f.known))

s-one_dimension : (G : Type 0) (first bracket : ℕ) (ms : TypedPart) (x : Attribute) (ds : List Dimension) (ns : List (Option ℕ)) (fs : List Found) → Sound G (Is DenotedOf) (a.one_dimension first bracket ms x ds ns fs)
s-one_dimension G first bracket ms x ds (None ∷ []) (f ∷ []) = s-dimension_given G first ms x ds f
s-one_dimension G first bracket ms x ds (Some name ∷ []) fs = wrong G name
s-one_dimension G first bracket ms x ds ns fs = wrong G bracket

pub s-bound_with : (G : Type 0) (names : Names) (inside : Inside) (here : Context) (first : ℕ) (ms : TypedPart) (x : Attribute) (bracket : ℕ) (as' : Args) (ds : List Dimension) → LevelSound inside → (G → Clear here)
    → Sound G (Is DenotedOf) (a.bound_with names inside here first ms x bracket as' ds)
s-bound_with G names inside here first ms x bracket as' [] l c = wrong G first
s-bound_with G names inside here first ms x bracket as' (d ∷ ds) l c =
    s-where_clean G (Is Any) DenotedOf (operands names inside here (Some []) as') _ (s-operands G names inside here (Some []) as' l c (λ g. tt)) (λ fs.
    s-given _ Any DenotedOf fs _ (λ g. g.1) (λ gs. s-one_dimension _ first bracket ms x (d ∷ ds) (arg_names as') gs))

-- ---- arguments of the prefix's type

s-one_given : (G : Type 0) (k : Kind) (make : TypedExpr → Denoted) (f : Found) → ((e : TypedExpr) → DenotedOf (make e)) → Sound G (Is DenotedOf) (a.one_given k make f)
s-one_given G k make f m = s-bind G (Is Any) (Is DenotedOf) (asked k f) _ (s-asked G k f) (λ e. s-pure _ (Is DenotedOf) _ (λ g. mapped Any DenotedOf (λ x. make (as_expr x)) e g.1 (λ x i. m (as_expr x))))

s-two_given : (G : Type 0) (k : Kind) (make : TypedExpr → TypedExpr → Denoted) (f h : Found) → ((d e : TypedExpr) → DenotedOf (make d e)) → Sound G (Is DenotedOf) (a.two_given k make f h)
s-two_given G k make f h m =
    s-bind G (Is Any) (Is DenotedOf) (asked k f) _ (s-asked G k f) (λ x.
    s-bind _ (Is Any) (Is DenotedOf) (asked k h) _ (s-asked _ k h) (λ y.
    s-pure _ (Is DenotedOf) _ (λ g. joint Any Any DenotedOf (λ d e. make (as_expr d) (as_expr e)) x y g.0.1 g.1 (λ d e i j. m (as_expr d) (as_expr e)))))

s-one_named : (G : Type 0) (bracket : ℕ) (k : Kind) (make : TypedExpr → Denoted) (n : Option ℕ) (fs : List Found) → ((e : TypedExpr) → DenotedOf (make e)) → Sound G (Is DenotedOf) (a.one_named bracket k make n fs)
s-one_named G bracket k make (Some name) fs m = s-fault G (Is DenotedOf) name rule.Unknown
s-one_named G bracket k make None (f ∷ []) m = s-one_given G k make f m
s-one_named G bracket k make None fs m = wrong G bracket

s-two_named : (G : Type 0) (bracket : ℕ) (k : Kind) (make : TypedExpr → TypedExpr → Denoted) (n : Option ℕ) (fs : List Found) → ((d e : TypedExpr) → DenotedOf (make d e)) → Sound G (Is DenotedOf) (a.two_named bracket k make n fs)
s-two_named G bracket k make (Some name) fs m = s-fault G (Is DenotedOf) name rule.Unknown
s-two_named G bracket k make None (f ∷ h ∷ []) m = s-two_given G k make f h m
s-two_named G bracket k make None fs m = wrong G bracket

s-one_argument : (G : Type 0) (names : Names) (inside : Inside) (here : Context) (bracket : ℕ) (k : Kind) (make : TypedExpr → Denoted) (as' : Args) → LevelSound inside → (G → Clear here) → ((e : TypedExpr) → DenotedOf (make e))
    → Sound G (Is DenotedOf) (a.one_argument names inside here bracket k make as')
unfolding a.one_argument
s-one_argument G names inside here bracket k make as' l c m =
    s-where_clean G (Is Any) DenotedOf (operands names inside here (Some []) as') _ (s-operands G names inside here (Some []) as' l c (λ g. tt)) (λ fs. s-given _ Any DenotedOf fs _ (λ g. g.1) (λ gs. s-one_named _ bracket k make (a.first_named (arg_names as')) gs m))

s-two_arguments_of : (G : Type 0) (names : Names) (inside : Inside) (here : Context) (bracket : ℕ) (k : Kind) (make : TypedExpr → TypedExpr → Denoted) (as' : Args) → LevelSound inside → (G → Clear here) → ((d e : TypedExpr) → DenotedOf (make d e))
    → Sound G (Is DenotedOf) (a.two_arguments_of names inside here bracket k make as')
unfolding a.two_arguments_of
s-two_arguments_of G names inside here bracket k make as' l c m =
    s-where_clean G (Is Any) DenotedOf (operands names inside here (Some []) as') _ (s-operands G names inside here (Some []) as' l c (λ g. tt)) (λ fs. s-given _ Any DenotedOf fs _ (λ g. g.1) (λ gs. s-two_named _ bracket k make (a.first_named (arg_names as')) gs m))

s-stepped : (G : Type 0) (names : Names) (inside : Inside) (here : Context) (first : ℕ) (s : Scalar) (o : Op) (bracket : ℕ) (as' : Args) → LevelSound inside → (G → Clear here) → Sound G (Is DenotedOf) (a.stepped names inside here first s o bracket as')
s-stepped G names inside here first s o bracket as' l c = s-if G (Is DenotedOf) (is_integer s.kind) _ _ (s-one_argument G names inside here bracket s.kind (a.step first s.kind o) as' l c (λ e. tt)) (wrong G first)

s-scalar_other : (G : Type 0) (names : Names) (inside : Inside) (here : Context) (first : ℕ) (s : Scalar) (x : Attribute) (as' : Args) → LevelSound inside
    → Sound G (Is DenotedOf) (a.scalar_bound first s x >>= λ d. given d (λ y. wrong_call names inside here first as'))
s-scalar_other G names inside here first s x as' l = s-bind G (Is DenotedOf) (Is DenotedOf) (a.scalar_bound first s x) _ (s-scalar_bound G first s x) (λ d. s-given _ DenotedOf DenotedOf d _ (λ g. g.1) (λ y. s-wrong_call _ names inside here first as' l))

pub s-scalar_with : (G : Type 0) (names : Names) (inside : Inside) (here : Context) (first : ℕ) (s : Scalar) (x : Attribute) (bracket : ℕ) (as' : Args) → LevelSound inside → (G → Clear here) → Sound G (Is DenotedOf) (a.scalar_with names inside here first s x bracket as')
s-scalar_with G names inside here first s attribute'.Image bracket as' l c = s-one_argument G names inside here bracket s.kind (a.image_text first s.kind) as' l c (λ e. tt)
s-scalar_with G names inside here first s attribute'.Max bracket as' l c = s-two_arguments_of G names inside here bracket s.kind (a.extreme first s.kind op.Max) as' l c (λ d e. tt)
s-scalar_with G names inside here first s attribute'.Min bracket as' l c = s-two_arguments_of G names inside here bracket s.kind (a.extreme first s.kind op.Min) as' l c (λ d e. tt)
s-scalar_with G names inside here first s attribute'.Succ bracket as' l c = s-stepped G names inside here first s op.Add bracket as' l c
s-scalar_with G names inside here first s attribute'.Pred bracket as' l c = s-stepped G names inside here first s op.Sub bracket as' l c
s-scalar_with G names inside here first s x bracket as' l c = s-scalar_other G names inside here first s x as' l

s-object_image : (G : Type 0) (first : ℕ) (p : ObjectName) (x : TypedPart) (s : Subtype) → Sound G (Is DenotedOf) (a.object_image first p x s)
s-object_image G first p x (subtype.Scalar s) = s-one_given G s.kind (a.image_text first s.kind) (record { known = known.Object p; part = x }) (λ e. tt)
s-object_image G first p x (subtype.Composite n) = wrong G first

-- ---- an attribute alone

s-reduced_alone : (G : Type 0) (first at : ℕ) (b : Bool) → Sound G (Is DenotedOf) (a.reduced_alone first at b)
s-reduced_alone G first at true = wrong G first
s-reduced_alone G first at false = s-fault G (Is DenotedOf) at rule.ReduceRule

s-other_alone : (G : Type 0) (first : ℕ) (p : Prefix) (y : TypedPart) (at : ℕ) (x : Attribute)
    → Sound G (Is DenotedOf) (if a.is_bound x then a.bound_alone first p y x else if a.is_reduction x then (read (λ log. a.is_array_object log p) >>= a.reduced_alone first at) else fault first rule.WrongType)
s-other_alone G first p y at x =
    s-if G (Is DenotedOf) (a.is_bound x) _ _ (s-bound_alone G first p y x)
    (s-if G (Is DenotedOf) (a.is_reduction x) _ _ (s-bind G Any (Is DenotedOf) (read (λ log. a.is_array_object log p)) _ (s-read G Any (λ log. a.is_array_object log p) (λ log g. tt)) (λ b. s-reduced_alone _ first at b)) (wrong G first))

s-alone_at : (G : Type 0) (first : ℕ) (p : Prefix) (y : TypedPart) (at : ℕ) (x : Attribute) → Sound G (Is DenotedOf) (a.alone first p y at x)
s-alone_at G first (prefix.Object p) y at attribute'.Image = s-object_image G first p y p.subtype
s-alone_at G first (prefix.Parameter s) y at attribute'.Image = s-one_given G s.kind (a.image_text first s.kind) (parameter_found first s y) (λ e. tt)
s-alone_at G first p y at x = s-other_alone G first p y at x

s-settled_form : (G : Type 0) (d : KnownDenoted) (x : TypedPart) → (G → DenotedOk d) → Sound G (Is DenotedOf) (a.settled_form d x)
s-settled_form G (denoted.Attribute first p at y) x h = s-alone_at G first p x at y
s-settled_form G d x h = s-some G DenotedOf (denote d x) h

pub s-settled_attribute : (G : Type 0) (d : Denoted) → (G → DenotedOf d) → Sound G (Is DenotedOf) (a.settled_attribute d)
unfolding a.settled_attribute
s-settled_attribute G d h = s-settled_form G d.known d.part h
