-- What is found fits: attributes.
use Rattle.std.proofs.Common.{◌≡◌, refl, inl, ℕ, zero, suc, ℤ, pos, List, [], ◌∷◌, length, Option, Some, None, Bool, true, false, if◌then◌else◌, option_map, ◌&&◌, ◌-◌, int_le, slice_get, true≢false, subst}
use Rattle.std.specs.Prelude.{unsigned_abs}
use Rattle.ada_base.specs.declared.operation.Op.TheVariants as op
use Rattle.ada_base.specs.declared.operation.Op.{Op}
use Rattle.syntax_tree.specs.Syntax.{Args}
use Rattle.typed_tree.specs.Decoded as part
use Rattle.typed_tree.specs.Decoded.{TypedPart, as_expr}
use Rattle.typed_tree.specs.Syntax.{Expr as TypedExpr}
use Rattle.name_rules.specs.Attributes.{alone, attribute_found, bound_alone, bound_in, bound_with, dimension_at, dimension_bound, dimension_given, dimensions_in, extreme, first_named, image_text, is_array_object, is_bound, is_reduction, mentioned, object_image, one_argument, one_dimension, one_given, one_named, prefix_of, prefix_subtype, reduced_alone, scalar_bound, scalar_with, settled_attribute, settled_form, step, stepped, two_arguments_of, two_given, two_named, is_left_out, bound_found}
use Rattle.name_rules.specs.Calls.{arg_names, operands}
use Rattle.name_rules.specs.Expressions.{Inside}
use Rattle.name_rules.specs.Found.{Denoted, Found, denote, parameter_found, static, universal, value_denoted, scalar}
use Rattle.name_rules.specs.Judging.{◌>>=◌, fault, given, joined, read, some}
use Rattle.name_rules.specs.Names.{denoted_first, wrong_call}
use Rattle.name_rules.specs.Operators.{limit_of}
use Rattle.name_rules.specs.TypedParts.{also_all}
use Rattle.name_rules.specs.Types.{class_of, dimensions_of, extent, in_base, is_integer, shape_in, is_modular, kept}
use Rattle.name_rules.specs.Values.{asked, first_of, is_number, mentions_of, own_kind, static_of_kind}
use Rattle.name_rules.specs.declared.found.Attribute.TheVariants as attribute'
use Rattle.name_rules.specs.declared.found.Attribute.{Attribute}
use Rattle.name_rules.specs.declared.found.Denoted.TheVariants as denoted
use Rattle.name_rules.specs.declared.found.Denoted.{Denoted as KnownDenoted}
use Rattle.name_rules.specs.declared.found.Found.TheVariants as known
use Rattle.name_rules.specs.declared.found.ObjectName.{ObjectName}
use Rattle.name_rules.specs.declared.found.Prefix.TheVariants as prefix
use Rattle.name_rules.specs.declared.found.Prefix.{Prefix}
use Rattle.name_rules.specs.declared.log.Dimension.{Dimension}
use Rattle.name_rules.specs.declared.log.Log.{Log}
use Rattle.name_rules.specs.declared.log.Rule.TheVariants.{ReduceRule, StaticRange, Unknown, WrongType}
use Rattle.name_rules.specs.declared.log.Shape.{Shape}
use Rattle.name_rules.specs.declared.log.Shape.TheVariants as shape
use Rattle.name_rules.specs.declared.scope.Context.{Context}
use Rattle.name_rules.specs.declared.scope.Names.{Names}
use Rattle.name_rules.specs.declared.types.Kind.{Kind}
use Rattle.name_rules.specs.declared.types.Kind.TheVariants as kind
use Rattle.name_rules.specs.declared.types.Scalar.{Scalar}
use Rattle.name_rules.specs.declared.types.Subtype.{Subtype}
use Rattle.name_rules.specs.declared.types.Subtype.TheVariants as subtype
use Rattle.name_laws.proofs.Based.{spanning, plain-kept}
use Rattle.name_laws.proofs.KeepsValues.{k-static_of_kind}
use Rattle.name_laws.proofs.Makes.{Any, Makes, Maybe, joint, m-bind, m-fault, m-given, m-if, m-kept, m-pure, m-read, m-some, m-where_clean, mapped, m-rest}
use Rattle.name_laws.proofs.MakesCalls.{AllFound, m-operands}
use Rattle.name_laws.proofs.MakesExpressions.{LevelFits}
use Rattle.name_laws.proofs.MakesNames.{m-wrong_call}
use Rattle.name_laws.proofs.MakesScope.{DenotedOf, DenotesOf, PrefixOf}
use Rattle.name_laws.proofs.MakesValues.{AskedOf, FoundOf, SpanOf, is-typed, m-asked, has-kept, has-plain}
use Rattle.name_laws.specs.Based.{AreBased, AreSpans, ArraysBased, IsSpan}
use Rattle.name_laws.specs.Classes.{ExprFits}

prefix-fits : (k : KnownDenoted) (x : TypedPart) → DenotesOf k x → PrefixOf (prefix_of k) x
prefix-fits (denoted.Value (known.Object p)) x h = h
prefix-fits (denoted.Type first t) x h = h
prefix-fits (denoted.Parameter first s) x h = h
prefix-fits (denoted.Sub first last n) x h = tt
prefix-fits k x h = tt

pub m-attribute_found : (d : Denoted) (at : ℕ) (a : Option Attribute) → DenotedOf d → Makes (Maybe DenotedOf) (attribute_found d at a)
m-attribute_found d at None h = m-fault DenotedOf at Unknown
m-attribute_found d at (Some a) h =
    m-rest (Maybe DenotedOf) (is_left_out (prefix_of d.known) a) (fault at Unknown) (some (denote (denoted.Attribute (denoted_first d.known) (prefix_of d.known) at a) d.part)) (m-fault DenotedOf at Unknown)
    (λ e. m-some DenotedOf (denote (denoted.Attribute (denoted_first d.known) (prefix_of d.known) at a) d.part) (prefix-fits d.known d.part h, e))

-- ---- First, Last, Length, Range

bound-found : (first : ℕ) (k : Kind) (z : ℤ) (b : Bool) → is_modular k ≡ b → in_base k (kept k z) ≡ true → FoundOf (if b then scalar first k None (limit_of first z) else static first k z part.Nothing)
bound-found first k z true e h = has-kept k z h
bound-found first k z false e h = subst (λ w. in_base k w ≡ true) (plain-kept k z e) h

m-scalar_bound : (first : ℕ) (s : Scalar) (a : Attribute) → SpanOf s → Makes (Maybe DenotedOf) (scalar_bound first s a)
m-scalar_bound first s attribute'.First h = m-some DenotedOf (value_denoted (bound_found first s.kind s.low)) (bound-found first s.kind s.low (is_modular s.kind) refl h.first)
m-scalar_bound first s attribute'.Last h = m-some DenotedOf (value_denoted (bound_found first s.kind s.high)) (bound-found first s.kind s.high (is_modular s.kind) refl h.last)
m-scalar_bound first s a h = m-fault DenotedOf first WrongType

m-dimension_bound : (first : ℕ) (ms : TypedPart) (a : Attribute) (d : Dimension) → IsSpan d.kind d.low d.high → Makes (Maybe DenotedOf) (dimension_bound first ms a d)
m-dimension_bound first ms attribute'.First d h = m-some DenotedOf (value_denoted (static first d.kind d.low ms)) h.range.first
m-dimension_bound first ms attribute'.Last d h = m-some DenotedOf (value_denoted (static first d.kind d.high ms)) h.range.last
m-dimension_bound first ms attribute'.Length d h = m-some DenotedOf (value_denoted (universal first (pos (extent d)) false ms)) tt
m-dimension_bound first ms attribute'.Range d h = m-some DenotedOf (denote (denoted.Range first d) ms) h
m-dimension_bound first ms a d h = m-fault DenotedOf first WrongType

m-bound_in : (first : ℕ) (ms : TypedPart) (a : Attribute) (ds : List Dimension) (i : ℕ) → AreSpans ds → Makes (Maybe DenotedOf) (bound_in first ms a (slice_get ds i))
m-bound_in first ms a [] i h = m-fault DenotedOf first WrongType
m-bound_in first ms a (d ∷ ds) zero h = m-dimension_bound first ms a d h.0
m-bound_in first ms a (d ∷ ds) (suc i) h = m-bound_in first ms a ds i h.1

spans-at : (log : Log) (m : ℕ) → ArraysBased log.shapes → AreSpans (dimensions_of (shape_in log m))
spans-at log m h = by (slice_get log.shapes m) refl
  where
    by : (t : Option Shape) → slice_get log.shapes m ≡ t → AreSpans (dimensions_of t)
    by None e = tt
    by (Some (shape.Array ds c k cells)) e = h m ds c k cells e
    by (Some (shape.Scalar s)) e = tt
    by (Some (shape.Record fs cells)) e = tt

pub spans-in : (log : Log) (t : Option Subtype) → ArraysBased log.shapes → AreSpans (dimensions_in log t)
spans-in log None h = tt
spans-in log (Some (subtype.Scalar s)) h = tt
spans-in log (Some (subtype.Composite m)) h = spans-at log m h

m-bound_by : (first : ℕ) (p : Prefix) (x : TypedPart) (a : Attribute) → Makes (Maybe DenotedOf) (read (λ log. slice_get (dimensions_in log (prefix_subtype p)) 0) >>= bound_in first (mentioned p x) a)
m-bound_by first p x a = record { at = λ log h. (m-bound_in first (mentioned p x) a (dimensions_in log (prefix_subtype p)) 0 (spans-in log (prefix_subtype p) h)).at log h }

m-bound_alone : (first : ℕ) (p : Prefix) (x : TypedPart) (a : Attribute) → PrefixOf p x → Makes (Maybe DenotedOf) (bound_alone first p x a)
m-bound_alone first (prefix.Type (subtype.Scalar s)) x a h = m-scalar_bound first s a h
m-bound_alone first p x a h = m-bound_by first p x a

m-dimension_at : (first : ℕ) (ms : TypedPart) (a : Attribute) (ds : List Dimension) (at : ℕ) (z : ℤ) → AreSpans ds → Makes (Maybe DenotedOf) (dimension_at first ms a ds at z)
m-dimension_at first ms a ds at z h =
    m-if (Maybe DenotedOf) (int_le (pos 1) z && int_le z (pos (length ds))) (bound_in first ms a (slice_get ds (unsigned_abs z - 1))) (fault at StaticRange) (m-bound_in first ms a ds (unsigned_abs z - 1) h) (m-fault DenotedOf at StaticRange)

m-dimension_given : (first : ℕ) (ms : TypedPart) (a : Attribute) (ds : List Dimension) (f : Found) → AreSpans ds → Makes (Maybe DenotedOf) (dimension_given first ms a ds f)
m-dimension_given first ms a ds f h =
    m-if (Maybe DenotedOf) (is_number f.known) _ (fault (first_of f.known) WrongType)
    (m-bind Any (Maybe DenotedOf) (static_of_kind (own_kind f.known) f) _ (m-kept (static_of_kind (own_kind f.known) f) (k-static_of_kind spanning (own_kind f.known) f)) (λ v q.
    m-given Any DenotedOf v (dimension_at first (also_all ms (mentions_of f)) a ds (first_of f.known)) (any v) (λ z s. m-dimension_at first (also_all ms (mentions_of f)) a ds (first_of f.known) z h)))
    (m-fault DenotedOf (first_of f.known) WrongType)
  where
    any : (v : Option ℤ) → Maybe Any v
    any None = tt
    any (Some z) = tt

m-one_dimension : (first bracket : ℕ) (ms : TypedPart) (a : Attribute) (ds : List Dimension) (ns : List (Option ℕ)) (fs : List Found) → AreSpans ds → Makes (Maybe DenotedOf) (one_dimension first bracket ms a ds ns fs)
m-one_dimension first bracket ms a ds (None ∷ []) (f ∷ []) h = m-dimension_given first ms a ds f h
m-one_dimension first bracket ms a ds (Some name ∷ []) fs h = m-fault DenotedOf name WrongType
m-one_dimension first bracket ms a ds ns fs h = m-fault DenotedOf bracket WrongType

pub m-bound_with : (names : Names) (inside : Inside) (here : Context) (first : ℕ) (ms : TypedPart) (a : Attribute) (bracket : ℕ) (as' : Args) (ds : List Dimension) → LevelFits inside → AreBased here.scope → AreSpans ds
    → Makes (Maybe DenotedOf) (bound_with names inside here first ms a bracket as' ds)
m-bound_with names inside here first ms a bracket as' [] l r h = m-fault DenotedOf first WrongType
m-bound_with names inside here first ms a bracket as' (d ∷ ds) l r h =
    m-where_clean (Maybe AllFound) DenotedOf (operands names inside here (Some []) as') _ (m-operands names inside here (Some []) as' l r tt) (λ fs q.
    m-given AllFound DenotedOf fs (one_dimension first bracket ms a (d ∷ ds) (arg_names as')) q (λ gs s. m-one_dimension first bracket ms a (d ∷ ds) (arg_names as') gs h))

-- ---- Image, Max, Min, Succ, Pred

abbrev Takes : Kind → (TypedExpr → Denoted) → Type 0
Takes k make = (x : TypedExpr) → ExprFits (class_of k) x → DenotedOf (make x)

abbrev TakesTwo : Kind → (TypedExpr → TypedExpr → Denoted) → Type 0
TakesTwo k make = (x y : TypedExpr) → ExprFits (class_of k) x → ExprFits (class_of k) y → DenotedOf (make x y)

m-one_given : (k : Kind) (make : TypedExpr → Denoted) (f : Found) → Takes k make → FoundOf f → Makes (Maybe DenotedOf) (one_given k make f)
m-one_given k make f t h =
    m-bind (Maybe (AskedOf k)) (Maybe DenotedOf) (asked k f) _ (m-asked k f h) (λ e q. m-pure (Maybe DenotedOf) (option_map (λ x. make (as_expr x)) e) (mapped (AskedOf k) DenotedOf (λ x. make (as_expr x)) e q (λ x s. t (as_expr x) s)))

m-two_given : (k : Kind) (make : TypedExpr → TypedExpr → Denoted) (f g : Found) → TakesTwo k make → FoundOf f → FoundOf g → Makes (Maybe DenotedOf) (two_given k make f g)
m-two_given k make f g t h i =
    m-bind (Maybe (AskedOf k)) (Maybe DenotedOf) (asked k f) _ (m-asked k f h) (λ x p.
    m-bind (Maybe (AskedOf k)) (Maybe DenotedOf) (asked k g) _ (m-asked k g i) (λ y q.
    m-pure (Maybe DenotedOf) (joined (λ d e. make (as_expr d) (as_expr e)) x y) (joint (AskedOf k) (AskedOf k) DenotedOf (λ d e. make (as_expr d) (as_expr e)) x y p q (λ a b s u. t (as_expr a) (as_expr b) s u))))

m-one_named : (bracket : ℕ) (k : Kind) (make : TypedExpr → Denoted) (n : Option ℕ) (fs : List Found) → Takes k make → AllFound fs → Makes (Maybe DenotedOf) (one_named bracket k make n fs)
m-one_named bracket k make (Some name) fs t h = m-fault DenotedOf name Unknown
m-one_named bracket k make None (f ∷ []) t h = m-one_given k make f t h.0
m-one_named bracket k make None fs t h = m-fault DenotedOf bracket WrongType

m-two_named : (bracket : ℕ) (k : Kind) (make : TypedExpr → TypedExpr → Denoted) (n : Option ℕ) (fs : List Found) → TakesTwo k make → AllFound fs → Makes (Maybe DenotedOf) (two_named bracket k make n fs)
m-two_named bracket k make (Some name) fs t h = m-fault DenotedOf name Unknown
m-two_named bracket k make None (f ∷ g ∷ []) t h = m-two_given k make f g t h.0 h.1.0
m-two_named bracket k make None fs t h = m-fault DenotedOf bracket WrongType

m-one_argument : (names : Names) (inside : Inside) (here : Context) (bracket : ℕ) (k : Kind) (make : TypedExpr → Denoted) (as' : Args) → LevelFits inside → AreBased here.scope → Takes k make
    → Makes (Maybe DenotedOf) (one_argument names inside here bracket k make as')
unfolding one_argument
m-one_argument names inside here bracket k make as' l r t =
    m-where_clean (Maybe AllFound) DenotedOf (operands names inside here (Some []) as') _ (m-operands names inside here (Some []) as' l r tt) (λ fs q.
    m-given AllFound DenotedOf fs (one_named bracket k make (first_named (arg_names as'))) q (λ gs s. m-one_named bracket k make (first_named (arg_names as')) gs t s))

m-two_arguments_of : (names : Names) (inside : Inside) (here : Context) (bracket : ℕ) (k : Kind) (make : TypedExpr → TypedExpr → Denoted) (as' : Args) → LevelFits inside → AreBased here.scope → TakesTwo k make
    → Makes (Maybe DenotedOf) (two_arguments_of names inside here bracket k make as')
unfolding two_arguments_of
m-two_arguments_of names inside here bracket k make as' l r t =
    m-where_clean (Maybe AllFound) DenotedOf (operands names inside here (Some []) as') _ (m-operands names inside here (Some []) as' l r tt) (λ fs q.
    m-given AllFound DenotedOf fs (two_named bracket k make (first_named (arg_names as'))) q (λ gs s. m-two_named bracket k make (first_named (arg_names as')) gs t s))

takes-image : (first : ℕ) (k : Kind) → Takes k (image_text first k)
takes-image first k x h = ((λ ps r. (is-typed k, h, r)), tt)

takes-extreme : (first : ℕ) (k : Kind) (o : Op) → TakesTwo k (extreme first k o)
takes-extreme first k o x y g h = (is-typed k, g, inl h)

one-based : (k : Kind) → is_modular k ≡ false → in_base k (pos 1) ≡ true
one-based kind.Boolean e = refl
one-based kind.Integer e = refl
one-based (kind.Own n) e = refl
one-based (kind.Modular n k) e = absurd cc

takes-step : (first : ℕ) (k : Kind) (o : Op) → is_modular k ≡ false → Takes k (step first k o)
takes-step first k o e x h = takes-extreme first k o x (limit_of first (pos 1)) h (has-plain k (pos 1) e (one-based k e))

m-stepped : (names : Names) (inside : Inside) (here : Context) (first : ℕ) (s : Scalar) (o : Op) (bracket : ℕ) (as' : Args) → LevelFits inside → AreBased here.scope → is_modular s.kind ≡ false → Makes (Maybe DenotedOf) (stepped names inside here first s o bracket as')
m-stepped names inside here first s o bracket as' l r e =
    m-if (Maybe DenotedOf) (is_integer s.kind) (one_argument names inside here bracket s.kind (step first s.kind o) as') (fault first WrongType) (m-one_argument names inside here bracket s.kind (step first s.kind o) as' l r (takes-step first s.kind o e)) (m-fault DenotedOf first WrongType)

m-bound_called : (names : Names) (inside : Inside) (here : Context) (first : ℕ) (s : Scalar) (a : Attribute) (as' : Args) → LevelFits inside → SpanOf s → Makes (Maybe DenotedOf) (scalar_bound first s a >>= λ d. given d (λ x. wrong_call names inside here first as'))
m-bound_called names inside here first s a as' l h = m-bind (Maybe DenotedOf) (Maybe DenotedOf) (scalar_bound first s a) _ (m-scalar_bound first s a h) (λ d q. m-given DenotedOf DenotedOf d _ q (λ x t. m-wrong_call names inside here first as' l))

not-left : (b : Bool) → (b && true) ≡ false → b ≡ false
not-left true e = absurd (true≢false e)
not-left false e = refl

pub m-scalar_with : (names : Names) (inside : Inside) (here : Context) (first : ℕ) (s : Scalar) (a : Attribute) (bracket : ℕ) (as' : Args) → LevelFits inside → AreBased here.scope → SpanOf s → is_left_out (prefix.Type (subtype.Scalar s)) a ≡ false → Makes (Maybe DenotedOf) (scalar_with names inside here first s a bracket as')
m-scalar_with names inside here first s attribute'.Image bracket as' l r h n = m-one_argument names inside here bracket s.kind (image_text first s.kind) as' l r (takes-image first s.kind)
m-scalar_with names inside here first s attribute'.Max bracket as' l r h n = m-two_arguments_of names inside here bracket s.kind (extreme first s.kind op.Max) as' l r (takes-extreme first s.kind op.Max)
m-scalar_with names inside here first s attribute'.Min bracket as' l r h n = m-two_arguments_of names inside here bracket s.kind (extreme first s.kind op.Min) as' l r (takes-extreme first s.kind op.Min)
m-scalar_with names inside here first s attribute'.Succ bracket as' l r h n = m-stepped names inside here first s op.Add bracket as' l r (not-left (is_modular s.kind) n)
m-scalar_with names inside here first s attribute'.Pred bracket as' l r h n = m-stepped names inside here first s op.Sub bracket as' l r (not-left (is_modular s.kind) n)
m-scalar_with names inside here first s a bracket as' l r h n = m-bound_called names inside here first s a as' l h

m-object_image : (first : ℕ) (p : ObjectName) (x : TypedPart) (t : Subtype) → PrefixOf (prefix.Object p) x → Makes (Maybe DenotedOf) (object_image first p x t)
m-object_image first p x (subtype.Scalar s) h = m-one_given s.kind (image_text first s.kind) (record { known = known.Object p; part = x }) (takes-image first s.kind) h
m-object_image first p x (subtype.Composite n) h = m-fault DenotedOf first WrongType

-- ---- an attribute alone

m-reduced_alone : (first at : ℕ) (b : Bool) → Makes (Maybe DenotedOf) (reduced_alone first at b)
m-reduced_alone first at true = m-fault DenotedOf first WrongType
m-reduced_alone first at false = m-fault DenotedOf at ReduceRule

m-others_alone : (first : ℕ) (p : Prefix) (x : TypedPart) (at : ℕ) (a : Attribute) → PrefixOf p x
    → Makes (Maybe DenotedOf) (if is_bound a then bound_alone first p x a else if is_reduction a then (read (λ log. is_array_object log p) >>= reduced_alone first at) else fault first WrongType)
m-others_alone first p x at a h =
    m-if (Maybe DenotedOf) (is_bound a) (bound_alone first p x a) _ (m-bound_alone first p x a h)
    (m-if (Maybe DenotedOf) (is_reduction a) (read (λ log. is_array_object log p) >>= reduced_alone first at) (fault first WrongType)
    (m-bind Any (Maybe DenotedOf) (read (λ log. is_array_object log p)) (reduced_alone first at) (m-read Any (λ log. is_array_object log p) (λ log g. tt)) (λ b q. m-reduced_alone first at b)) (m-fault DenotedOf first WrongType))

m-alone : (first : ℕ) (p : Prefix) (x : TypedPart) (at : ℕ) (a : Attribute) → PrefixOf p x → Makes (Maybe DenotedOf) (alone first p x at a)
m-alone first (prefix.Object p) x at attribute'.Image h = m-object_image first p x p.subtype h
m-alone first (prefix.Parameter s) x at attribute'.Image h = m-one_given s.kind (image_text first s.kind) (parameter_found first s x) (takes-image first s.kind) (h (class_of s.kind))
m-alone first p x at a h = m-others_alone first p x at a h

m-settled_form : (k : KnownDenoted) (x : TypedPart) → DenotesOf k x → Makes (Maybe DenotedOf) (settled_form k x)
m-settled_form (denoted.Attribute first p at a) x h = m-alone first p x at a h.0
m-settled_form k x h = m-some DenotedOf (denote k x) h

pub m-settled_attribute : (d : Denoted) → DenotedOf d → Makes (Maybe DenotedOf) (settled_attribute d)
unfolding settled_attribute
m-settled_attribute d h = m-settled_form d.known d.part h
