-- What is found is formed: attributes.
use Rattle.std.proofs.Common.{ℕ, ℤ, pos, List, [], ◌∷◌, length, Option, Some, None, Bool, true, false, if◌then◌else◌, option_map, ◌&&◌, ◌-◌, int_le, slice_get}
use Rattle.std.specs.Prelude.{unsigned_abs}
use Rattle.ada_base.specs.declared.operation.Op.TheVariants as op
use Rattle.ada_base.specs.declared.operation.Op.{Op}
use Rattle.syntax_tree.specs.Syntax.{Args}
use Rattle.ada_meaning.specs.Formed.{FormedExpr}
use Rattle.typed_tree.specs.Indexes.{indexes_in}
use Rattle.typed_tree.specs.Decoded as part
use Rattle.typed_tree.specs.Decoded.{TypedPart, as_expr}
use Rattle.typed_tree.specs.Syntax.{Expr as TypedExpr}
use Rattle.name_rules.specs.Attributes.{alone, attribute_found, bound_alone, bound_in, bound_with, dimension_at, dimension_bound, dimension_given, dimensions_in, extreme, first_named, image_text, is_array_object, is_bound, is_reduction, mentioned, object_image, one_argument, one_dimension, one_given, one_named, prefix_of, prefix_subtype, reduced_alone, scalar_bound, scalar_with, settled_attribute, settled_form, step, stepped, two_arguments_of, two_given, two_named, is_left_out, bound_found}
use Rattle.name_rules.specs.Calls.{arg_names, operands}
use Rattle.name_rules.specs.Expressions.{Inside}
use Rattle.name_rules.specs.Found.{Denoted, Found, denote, parameter_found, static, universal, value_denoted, scalar}
use Rattle.name_rules.specs.Judging.{◌>>=◌, fault, given, joined, read, some}
use Rattle.name_rules.specs.Names.{denoted_first, wrong_call}
use Rattle.name_rules.specs.Operators.{limit_of}
use Rattle.name_rules.specs.TypedParts.{also_all}
use Rattle.name_rules.specs.Types.{extent, is_integer, is_modular}
use Rattle.name_rules.specs.Values.{asked, first_of, is_number, mentions_of, own_kind, static_of_kind}
use Rattle.name_rules.specs.declared.found.Attribute.TheVariants as attribute'
use Rattle.name_rules.specs.declared.found.Attribute.{Attribute}
use Rattle.name_rules.specs.declared.found.Denoted.TheVariants as denoted
use Rattle.name_rules.specs.declared.found.Denoted.{Denoted as KnownDenoted}
use Rattle.name_rules.specs.declared.found.Found.TheVariants as known
use Rattle.name_rules.specs.declared.found.ObjectName.{ObjectName}
use Rattle.name_rules.specs.declared.found.Prefix.TheVariants as prefix
use Rattle.name_rules.specs.declared.found.Prefix.{Prefix}
use Rattle.name_rules.specs.declared.log.Dimension.{Dimension}
use Rattle.name_rules.specs.declared.log.Rule.TheVariants.{ReduceRule, StaticRange, Unknown, WrongType}
use Rattle.name_rules.specs.declared.scope.Context.{Context}
use Rattle.name_rules.specs.declared.scope.Names.{Names}
use Rattle.name_rules.specs.declared.types.Kind.{Kind}
use Rattle.name_rules.specs.declared.types.Scalar.{Scalar}
use Rattle.name_rules.specs.declared.types.Subtype.{Subtype}
use Rattle.name_rules.specs.declared.types.Subtype.TheVariants as subtype
use Rattle.name_rules.specs.TypedParts.{selections_of}
use Rattle.name_formed.proofs.Forms.{Any, Forms, Maybe, Sight, World, f-bind, f-fault, f-given, f-if, f-pure, f-read, f-some, f-where_clean, joint, mapped, shape_of}
use Rattle.name_formed.proofs.FormsCalls.{AllFound, f-operands}
use Rattle.name_formed.proofs.FormsFound.{Around, DenotedOf, DenotesOf, ExprOf, FoundOf, LevelForms, MentionsOf, PrefixOf, each-all}
use Rattle.name_formed.proofs.FormsNames.{f-wrong_call}
use Rattle.name_formed.proofs.FormsValues.{StaticValue, f-asked, f-static_of_kind, indexes-formed, is-settled, path-whole, static-mentions}

module _ (W : World) (V : Sight) where
  prefix-formed : (k : KnownDenoted) (x : TypedPart) → DenotesOf W V k x → PrefixOf W V (prefix_of k) x
  prefix-formed (denoted.Value (known.Object p)) x h = h
  prefix-formed (denoted.Type first t) x h = h
  prefix-formed (denoted.Parameter first s) x h = h
  prefix-formed (denoted.Sub first last n) x h = tt
  prefix-formed k x h = tt

  pub f-attribute_found : (d : Denoted) (at : ℕ) (a : Option Attribute) → DenotedOf W V d → Forms W V (Maybe (DenotedOf W V)) (attribute_found d at a)
  f-attribute_found d at None h = f-fault W V (DenotedOf W V) at Unknown
  f-attribute_found d at (Some a) h =
      f-if W V (Maybe (DenotedOf W V)) (is_left_out (prefix_of d.known) a) (fault at Unknown) (some (denote (denoted.Attribute (denoted_first d.known) (prefix_of d.known) at a) d.part)) (f-fault W V (DenotedOf W V) at Unknown)
      (f-some W V (DenotedOf W V) (denote (denoted.Attribute (denoted_first d.known) (prefix_of d.known) at a) d.part) (prefix-formed d.known d.part h))

  -- ---- First, Last, Length, Range

  bound-formed : (first : ℕ) (k : Kind) (z : ℤ) → FoundOf W V (bound_found first k z)
  bound-formed first k z = by (is_modular k)
    where
      by : (b : Bool) → FoundOf W V (if b then scalar first k None (limit_of first z) else static first k z part.Nothing)
      by true = tt
      by false = tt

  f-scalar_bound : (first : ℕ) (s : Scalar) (a : Attribute) → Forms W V (Maybe (DenotedOf W V)) (scalar_bound first s a)
  f-scalar_bound first s attribute'.First = f-some W V (DenotedOf W V) (value_denoted (bound_found first s.kind s.low)) (bound-formed first s.kind s.low)
  f-scalar_bound first s attribute'.Last = f-some W V (DenotedOf W V) (value_denoted (bound_found first s.kind s.high)) (bound-formed first s.kind s.high)
  f-scalar_bound first s a = f-fault W V (DenotedOf W V) first WrongType

  f-dimension_bound : (first : ℕ) (ms : TypedPart) (a : Attribute) (d : Dimension) → MentionsOf W V ms → Forms W V (Maybe (DenotedOf W V)) (dimension_bound first ms a d)
  f-dimension_bound first ms attribute'.First d h = f-some W V (DenotedOf W V) (value_denoted (static first d.kind d.low ms)) h
  f-dimension_bound first ms attribute'.Last d h = f-some W V (DenotedOf W V) (value_denoted (static first d.kind d.high ms)) h
  f-dimension_bound first ms attribute'.Length d h = f-some W V (DenotedOf W V) (value_denoted (universal first (pos (extent d)) false ms)) h
  f-dimension_bound first ms attribute'.Range d h = f-some W V (DenotedOf W V) (denote (denoted.Range first d) ms) h
  f-dimension_bound first ms a d h = f-fault W V (DenotedOf W V) first WrongType

  f-bound_in : (first : ℕ) (ms : TypedPart) (a : Attribute) (d : Option Dimension) → MentionsOf W V ms → Forms W V (Maybe (DenotedOf W V)) (bound_in first ms a d)
  f-bound_in first ms a None h = f-fault W V (DenotedOf W V) first WrongType
  f-bound_in first ms a (Some d) h = f-dimension_bound first ms a d h

  -- the indexes in the prefix are formed
  pub mentioned-formed : (p : Prefix) (x : TypedPart) → PrefixOf W V p x → MentionsOf W V (mentioned p x)
  unfolding indexes_in
  mentioned-formed (prefix.Object p) x h = indexes-formed W V (selections_of x) (path-whole W V h.whole (shape_of W.program p.subtype) x h.path).1
  mentioned-formed (prefix.Parameter s) x h = tt
  mentioned-formed (prefix.Type t) x h = tt
  mentioned-formed (prefix.Function n) x h = tt
  mentioned-formed prefix.Other x h = tt

  f-bound_by : (first : ℕ) (p : Prefix) (x : TypedPart) (a : Attribute) → PrefixOf W V p x → Forms W V (Maybe (DenotedOf W V)) (read (λ log. slice_get (dimensions_in log (prefix_subtype p)) 0) >>= bound_in first (mentioned p x) a)
  f-bound_by first p x a h =
      f-bind W V Any (Maybe (DenotedOf W V)) (read (λ log. slice_get (dimensions_in log (prefix_subtype p)) 0)) (bound_in first (mentioned p x) a) (f-read W V Any (λ log. slice_get (dimensions_in log (prefix_subtype p)) 0) (λ log g. tt)) (λ d q.
      f-bound_in first (mentioned p x) a d (mentioned-formed p x h))

  f-bound_alone : (first : ℕ) (p : Prefix) (x : TypedPart) (a : Attribute) → PrefixOf W V p x → Forms W V (Maybe (DenotedOf W V)) (bound_alone first p x a)
  f-bound_alone first (prefix.Type (subtype.Scalar s)) x a h = f-scalar_bound first s a
  f-bound_alone first p x a h = f-bound_by first p x a h

  f-dimension_at : (first : ℕ) (ms : TypedPart) (a : Attribute) (ds : List Dimension) (at : ℕ) (z : ℤ) → MentionsOf W V ms → Forms W V (Maybe (DenotedOf W V)) (dimension_at first ms a ds at z)
  f-dimension_at first ms a ds at z h =
      f-if W V (Maybe (DenotedOf W V)) (int_le (pos 1) z && int_le z (pos (length ds))) (bound_in first ms a (slice_get ds (unsigned_abs z - 1))) (fault at StaticRange) (f-bound_in first ms a (slice_get ds (unsigned_abs z - 1)) h) (f-fault W V (DenotedOf W V) at StaticRange)

  f-dimension_given : (first : ℕ) (ms : TypedPart) (a : Attribute) (ds : List Dimension) (f : Found) → MentionsOf W V ms → FoundOf W V f → Forms W V (Maybe (DenotedOf W V)) (dimension_given first ms a ds f)
  f-dimension_given first ms a ds f h g =
      f-if W V (Maybe (DenotedOf W V)) (is_number f.known) _ (fault (first_of f.known) WrongType)
      (f-bind W V (Maybe (StaticValue W V f)) (Maybe (DenotedOf W V)) (static_of_kind (own_kind f.known) f) _ (f-static_of_kind W V (own_kind f.known) f g) (λ v q.
      f-given W V (StaticValue W V f) (DenotedOf W V) v (dimension_at first (also_all ms (mentions_of f)) a ds (first_of f.known)) q (λ z s.
      f-dimension_at first (also_all ms (mentions_of f)) a ds (first_of f.known) z (each-all (ExprOf W V) ms (mentions_of f) h (static-mentions W V f.known f.part z g s)))))
      (f-fault W V (DenotedOf W V) (first_of f.known) WrongType)

  f-one_dimension : (first bracket : ℕ) (ms : TypedPart) (a : Attribute) (ds : List Dimension) (ns : List (Option ℕ)) (fs : List Found) → MentionsOf W V ms → AllFound W V fs → Forms W V (Maybe (DenotedOf W V)) (one_dimension first bracket ms a ds ns fs)
  f-one_dimension first bracket ms a ds (None ∷ []) (f ∷ []) h g = f-dimension_given first ms a ds f h g.0
  f-one_dimension first bracket ms a ds (Some name ∷ []) fs h g = f-fault W V (DenotedOf W V) name WrongType
  f-one_dimension first bracket ms a ds ns fs h g = f-fault W V (DenotedOf W V) bracket WrongType

  pub f-bound_with : (names : Names) (inside : Inside) (here : Context) (first : ℕ) (ms : TypedPart) (a : Attribute) (bracket : ℕ) (as' : Args) (ds : List Dimension) → LevelForms W inside → Around W V here → MentionsOf W V ms
      → Forms W V (Maybe (DenotedOf W V)) (bound_with names inside here first ms a bracket as' ds)
  f-bound_with names inside here first ms a bracket as' [] l r h = f-fault W V (DenotedOf W V) first WrongType
  f-bound_with names inside here first ms a bracket as' (d ∷ ds) l r h =
      f-where_clean W V (Maybe (AllFound W V)) (DenotedOf W V) (operands names inside here (Some []) as') _ (f-operands W V names inside here (Some []) as' l r tt) (λ fs q.
      f-given W V (AllFound W V) (DenotedOf W V) fs (one_dimension first bracket ms a (d ∷ ds) (arg_names as')) q (λ gs s. f-one_dimension first bracket ms a (d ∷ ds) (arg_names as') gs h s))

  -- ---- Image, Max, Min, Succ, Pred

  abbrev Takes : Kind → (TypedExpr → Denoted) → Type 0
  Takes k make = (x : TypedExpr) → FormedExpr W.program V.known x → DenotedOf W V (make x)

  abbrev TakesTwo : Kind → (TypedExpr → TypedExpr → Denoted) → Type 0
  TakesTwo k make = (x y : TypedExpr) → FormedExpr W.program V.known x → FormedExpr W.program V.known y → DenotedOf W V (make x y)

  f-one_given : (k : Kind) (make : TypedExpr → Denoted) (f : Found) → Takes k make → FoundOf W V f → Forms W V (Maybe (DenotedOf W V)) (one_given k make f)
  f-one_given k make f t h =
      f-bind W V (Maybe (ExprOf W V)) (Maybe (DenotedOf W V)) (asked k f) _ (f-asked W V k f h) (λ e q. f-pure W V (Maybe (DenotedOf W V)) (option_map (λ x. make (as_expr x)) e) (mapped (ExprOf W V) (DenotedOf W V) (λ x. make (as_expr x)) e q (λ x s. t (as_expr x) s)))

  f-two_given : (k : Kind) (make : TypedExpr → TypedExpr → Denoted) (f g : Found) → TakesTwo k make → FoundOf W V f → FoundOf W V g → Forms W V (Maybe (DenotedOf W V)) (two_given k make f g)
  f-two_given k make f g t h i =
      f-bind W V (Maybe (ExprOf W V)) (Maybe (DenotedOf W V)) (asked k f) _ (f-asked W V k f h) (λ x p.
      f-bind W V (Maybe (ExprOf W V)) (Maybe (DenotedOf W V)) (asked k g) _ (f-asked W V k g i) (λ y q.
      f-pure W V (Maybe (DenotedOf W V)) (joined (λ d e. make (as_expr d) (as_expr e)) x y) (joint (ExprOf W V) (ExprOf W V) (DenotedOf W V) (λ d e. make (as_expr d) (as_expr e)) x y p q (λ a b s u. t (as_expr a) (as_expr b) s u))))

  f-one_named : (bracket : ℕ) (k : Kind) (make : TypedExpr → Denoted) (n : Option ℕ) (fs : List Found) → Takes k make → AllFound W V fs → Forms W V (Maybe (DenotedOf W V)) (one_named bracket k make n fs)
  f-one_named bracket k make (Some name) fs t h = f-fault W V (DenotedOf W V) name Unknown
  f-one_named bracket k make None (f ∷ []) t h = f-one_given k make f t h.0
  f-one_named bracket k make None fs t h = f-fault W V (DenotedOf W V) bracket WrongType

  f-two_named : (bracket : ℕ) (k : Kind) (make : TypedExpr → TypedExpr → Denoted) (n : Option ℕ) (fs : List Found) → TakesTwo k make → AllFound W V fs → Forms W V (Maybe (DenotedOf W V)) (two_named bracket k make n fs)
  f-two_named bracket k make (Some name) fs t h = f-fault W V (DenotedOf W V) name Unknown
  f-two_named bracket k make None (f ∷ g ∷ []) t h = f-two_given k make f g t h.0 h.1.0
  f-two_named bracket k make None fs t h = f-fault W V (DenotedOf W V) bracket WrongType

  f-one_argument : (names : Names) (inside : Inside) (here : Context) (bracket : ℕ) (k : Kind) (make : TypedExpr → Denoted) (as' : Args) → LevelForms W inside → Around W V here → Takes k make
      → Forms W V (Maybe (DenotedOf W V)) (one_argument names inside here bracket k make as')
  unfolding one_argument
  f-one_argument names inside here bracket k make as' l r t =
      f-where_clean W V (Maybe (AllFound W V)) (DenotedOf W V) (operands names inside here (Some []) as') _ (f-operands W V names inside here (Some []) as' l r tt) (λ fs q.
      f-given W V (AllFound W V) (DenotedOf W V) fs (one_named bracket k make (first_named (arg_names as'))) q (λ gs s. f-one_named bracket k make (first_named (arg_names as')) gs t s))

  f-two_arguments_of : (names : Names) (inside : Inside) (here : Context) (bracket : ℕ) (k : Kind) (make : TypedExpr → TypedExpr → Denoted) (as' : Args) → LevelForms W inside → Around W V here → TakesTwo k make
      → Forms W V (Maybe (DenotedOf W V)) (two_arguments_of names inside here bracket k make as')
  unfolding two_arguments_of
  f-two_arguments_of names inside here bracket k make as' l r t =
      f-where_clean W V (Maybe (AllFound W V)) (DenotedOf W V) (operands names inside here (Some []) as') _ (f-operands W V names inside here (Some []) as' l r tt) (λ fs q.
      f-given W V (AllFound W V) (DenotedOf W V) fs (two_named bracket k make (first_named (arg_names as'))) q (λ gs s. f-two_named bracket k make (first_named (arg_names as')) gs t s))

  takes-image : (first : ℕ) (k : Kind) → Takes k (image_text first k)
  takes-image first k x h = ((λ ps r. (is-settled k, h, r)), tt)

  takes-extreme : (first : ℕ) (k : Kind) (o : Op) → TakesTwo k (extreme first k o)
  takes-extreme first k o x y g h = (is-settled k, g, h)

  takes-step : (first : ℕ) (k : Kind) (o : Op) → Takes k (step first k o)
  takes-step first k o x h = takes-extreme first k o x (limit_of first (pos 1)) h tt

  f-stepped : (names : Names) (inside : Inside) (here : Context) (first : ℕ) (s : Scalar) (o : Op) (bracket : ℕ) (as' : Args) → LevelForms W inside → Around W V here → Forms W V (Maybe (DenotedOf W V)) (stepped names inside here first s o bracket as')
  f-stepped names inside here first s o bracket as' l r =
      f-if W V (Maybe (DenotedOf W V)) (is_integer s.kind) (one_argument names inside here bracket s.kind (step first s.kind o) as') (fault first WrongType) (f-one_argument names inside here bracket s.kind (step first s.kind o) as' l r (takes-step first s.kind o)) (f-fault W V (DenotedOf W V) first WrongType)

  f-bound_called : (names : Names) (inside : Inside) (here : Context) (first : ℕ) (s : Scalar) (a : Attribute) (as' : Args) → LevelForms W inside → Around W V here → Forms W V (Maybe (DenotedOf W V)) (scalar_bound first s a >>= λ d. given d (λ x. wrong_call names inside here first as'))
  f-bound_called names inside here first s a as' l r = f-bind W V (Maybe (DenotedOf W V)) (Maybe (DenotedOf W V)) (scalar_bound first s a) _ (f-scalar_bound first s a) (λ d q. f-given W V (DenotedOf W V) (DenotedOf W V) d _ q (λ x t. f-wrong_call W V names inside here first as' l r))

  pub f-scalar_with : (names : Names) (inside : Inside) (here : Context) (first : ℕ) (s : Scalar) (a : Attribute) (bracket : ℕ) (as' : Args) → LevelForms W inside → Around W V here → Forms W V (Maybe (DenotedOf W V)) (scalar_with names inside here first s a bracket as')
  f-scalar_with names inside here first s attribute'.Image bracket as' l r = f-one_argument names inside here bracket s.kind (image_text first s.kind) as' l r (takes-image first s.kind)
  f-scalar_with names inside here first s attribute'.Max bracket as' l r = f-two_arguments_of names inside here bracket s.kind (extreme first s.kind op.Max) as' l r (takes-extreme first s.kind op.Max)
  f-scalar_with names inside here first s attribute'.Min bracket as' l r = f-two_arguments_of names inside here bracket s.kind (extreme first s.kind op.Min) as' l r (takes-extreme first s.kind op.Min)
  f-scalar_with names inside here first s attribute'.Succ bracket as' l r = f-stepped names inside here first s op.Add bracket as' l r
  f-scalar_with names inside here first s attribute'.Pred bracket as' l r = f-stepped names inside here first s op.Sub bracket as' l r
  f-scalar_with names inside here first s a bracket as' l r = f-bound_called names inside here first s a as' l r

  f-object_image : (first : ℕ) (p : ObjectName) (x : TypedPart) (t : Subtype) → PrefixOf W V (prefix.Object p) x → Forms W V (Maybe (DenotedOf W V)) (object_image first p x t)
  f-object_image first p x (subtype.Scalar s) h = f-one_given s.kind (image_text first s.kind) (record { known = known.Object p; part = x }) (takes-image first s.kind) h
  f-object_image first p x (subtype.Composite n) h = f-fault W V (DenotedOf W V) first WrongType

  -- ---- an attribute alone

  f-reduced_alone : (first at : ℕ) (b : Bool) → Forms W V (Maybe (DenotedOf W V)) (reduced_alone first at b)
  f-reduced_alone first at true = f-fault W V (DenotedOf W V) first WrongType
  f-reduced_alone first at false = f-fault W V (DenotedOf W V) at ReduceRule

  f-others_alone : (first : ℕ) (p : Prefix) (x : TypedPart) (at : ℕ) (a : Attribute) → PrefixOf W V p x
      → Forms W V (Maybe (DenotedOf W V)) (if is_bound a then bound_alone first p x a else if is_reduction a then (read (λ log. is_array_object log p) >>= reduced_alone first at) else fault first WrongType)
  f-others_alone first p x at a h =
      f-if W V (Maybe (DenotedOf W V)) (is_bound a) (bound_alone first p x a) _ (f-bound_alone first p x a h)
      (f-if W V (Maybe (DenotedOf W V)) (is_reduction a) (read (λ log. is_array_object log p) >>= reduced_alone first at) (fault first WrongType)
      (f-bind W V Any (Maybe (DenotedOf W V)) (read (λ log. is_array_object log p)) (reduced_alone first at) (f-read W V Any (λ log. is_array_object log p) (λ log g. tt)) (λ b q. f-reduced_alone first at b)) (f-fault W V (DenotedOf W V) first WrongType))

  f-alone : (first : ℕ) (p : Prefix) (x : TypedPart) (at : ℕ) (a : Attribute) → PrefixOf W V p x → Forms W V (Maybe (DenotedOf W V)) (alone first p x at a)
  f-alone first (prefix.Object p) x at attribute'.Image h = f-object_image first p x p.subtype h
  f-alone first (prefix.Parameter s) x at attribute'.Image h = f-one_given s.kind (image_text first s.kind) (parameter_found first s x) (takes-image first s.kind) h
  f-alone first p x at a h = f-others_alone first p x at a h

  f-settled_form : (k : KnownDenoted) (x : TypedPart) → DenotesOf W V k x → Forms W V (Maybe (DenotedOf W V)) (settled_form k x)
  f-settled_form (denoted.Attribute first p at a) x h = f-alone first p x at a h
  f-settled_form k x h = f-some W V (DenotedOf W V) (denote k x) h

  pub f-settled_attribute : (d : Denoted) → DenotedOf W V d → Forms W V (Maybe (DenotedOf W V)) (settled_attribute d)
  unfolding settled_attribute
  f-settled_attribute d h = f-settled_form d.known d.part h
