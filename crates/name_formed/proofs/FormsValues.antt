-- What is found is formed: values, and expressions that take the type of their place.
use Rattle.std.proofs.Common.{◌≡◌, refl, sym, ap, subst, ◌∙◌, ℕ, ℤ, ◌≤◌, Option, Some, None, Bool, true, false, ◌==◌, eqb-true, arith}
use Rattle.ada_meaning.specs.Formed.{FormedExpr, FormedExprs, FormedIteration, FormedPieces, FormedSelections, IsSettled, Names, NamesConstant, Selects, with_constant, with_shape}
use Rattle.ada_meaning.specs.Formed as formed
use Rattle.ada_meaning.specs.Shapes.{Shape, cells_of, size, subtype_shape}
use Rattle.typed_tree.specs.Classes.{class_or, with_class}
use Rattle.typed_tree.specs.Decoded as part
use Rattle.typed_tree.specs.Decoded.{TypedPart, Nothing, Cons, as_composite, as_expr, as_exprs, as_pieces}
use Rattle.typed_tree.specs.Indexes.{indexes_from, indexes_in}
use Rattle.typed_tree.specs.Latest.{turned}
use Rattle.typed_tree.specs.Syntax as typed
use Rattle.typed_tree.specs.Syntax.{Expr as TypedExpr, Iteration, Selections}
use Rattle.typed_tree.specs.declared.expressions.Reducer.TheVariants as reducer'
use Rattle.typed_tree.specs.declared.scalars.Class.{Class}
use Rattle.typed_tree.specs.declared.scalars.Class.TheVariants as class
use Rattle.name_rules.specs.Found.{Found}
use Rattle.name_rules.specs.Judging.{fault, some, unless}
use Rattle.name_rules.specs.TypedParts.{exprs_of, selections_of}
use Rattle.name_rules.specs.Types.{check_at, class_of, in_base, is_integer, same, kept}
use Rattle.name_rules.specs.Values.{any_integer, any_scalar, asked, asked_form, beyond, composite_asked, composite_form, first_of, fitting, is_number, is_scalar, literal, mentions_of, object_expr, object_value, own_kind, place_asked, settled, settled_by, settled_found, static_integer, static_of_kind, static_value, stored, value_of, valued, whole_object, whole_of, is_word_kind, kind_of}
use Rattle.name_rules.specs.declared.found.Found.TheVariants as known
use Rattle.name_rules.specs.declared.found.Found.{Found as Known}
use Rattle.name_rules.specs.declared.found.Limits.{Limits}
use Rattle.name_rules.specs.declared.found.ObjectName.{ObjectName}
use Rattle.name_rules.specs.declared.log.Rule.TheVariants.{NotStatic, StaticRange, WrongType}
use Rattle.name_rules.specs.declared.types.Kind.{Kind}
use Rattle.name_rules.specs.declared.types.Kind.TheVariants as kind
use Rattle.name_rules.specs.declared.types.Scalar.{Scalar}
use Rattle.name_rules.specs.declared.types.Subtype.{Subtype}
use Rattle.name_rules.specs.declared.types.Subtype.TheVariants as subtype
use Rattle.name_formed.proofs.Forms.{Any, Forms, Maybe, Sight, World, f-bind, f-fault, f-given, f-if, f-pure, f-some, f-test, f-unless, shape_of}
use Rattle.name_formed.proofs.FormsFound.{Each, ExprOf, FoundOf, IsPiece, KnownOf, MentionsOf, OpenOf, PathOf, PlaceOf, RootOf, ValueOf, WideOf, each-turned}
use Rattle.std.specs.Prelude.{◌&&◌, not}

-- ---- classes

pub is-settled : (k : Kind) → IsSettled (class_of k)
is-settled kind.Boolean = tt
is-settled kind.Integer = tt
is-settled (kind.Own n) = tt
is-settled (kind.Modular n k) = tt

class-same : (c d : Class) → IsSettled d → class_or c d ≡ d
class-same c class.Boolean h = refl
class-same c (class.Integer b) h = refl
class-same c class.Universal h = absurd h

pub class-settled : (c d : Class) → IsSettled c → IsSettled (class_or c d)
class-settled c class.Boolean h = tt
class-settled c (class.Integer b) h = tt
class-settled c class.Universal h = h

-- ---- iterations

-- what holds around the body of an iteration holds of its body
pub iteration-map : (program : typed.Program) (w : formed.Known) (i : Iteration) (P Q : formed.Known → Type 0) → FormedIteration program w i P → ((v : formed.Known) → P v → Q v) → FormedIteration program w i Q
iteration-map program w (typed.Range k backwards low high check filter) P Q h f = (h.0, h.1, h.2, f w h.3)
iteration-map program w (typed.Components k true at from selections number stride dimensions filter) P Q h f =
    (h.0, (h.1.0, h.1.1, h.1.2, h.1.3, h.1.4, h.1.5, f (with_constant k h.1.1 w) h.1.6))
iteration-map program w (typed.Components k false at from selections number stride dimensions filter) P Q h f =
    (h.0, (h.1.0, h.1.1, h.1.2, h.1.3, h.1.4, h.1.5, f (with_shape k h.1.1 w) h.1.6))

-- what holds around the body is of use where the iteration is formed
pub iteration-use : (program : typed.Program) (w : formed.Known) (i : Iteration) (P : formed.Known → Type 0) (A : Type 0) → FormedIteration program w i P → ((v : formed.Known) → P v → A) → A
iteration-use program w (typed.Range k backwards low high check filter) P A h f = f w h.3
iteration-use program w (typed.Components k true at from selections number stride dimensions filter) P A h f = f (with_constant k h.1.1 w) h.1.6
iteration-use program w (typed.Components k false at from selections number stride dimensions filter) P A h f = f (with_shape k h.1.1 w) h.1.6

-- what is formed takes no other class
pub formed-same : (program : typed.Program) (w : formed.Known) (c : Class) (e : TypedExpr) → FormedExpr program w e → with_class c e ≡ e
formed-same program w c (typed.Group e) h = ap typed.Group (formed-same program w c e h)
formed-same program w c (typed.Unary at s b e) h = ap (λ i. typed.Unary at s i (with_class c e)) (class-same c b h.0) ∙ ap (typed.Unary at s b) (formed-same program w c e h.1)
formed-same program w c (typed.Binary at o b l r) h =
    ap (λ i. typed.Binary at o i (with_class c l) (with_class c r)) (class-same c b h.0)
    ∙ ap (λ x. typed.Binary at o b x (with_class c r)) (formed-same program w c l h.1) ∙ ap (typed.Binary at o b l) (formed-same program w c r h.2)
formed-same program w c (typed.If x v o) h = ap (λ i. typed.If x i (with_class c o)) (formed-same program w c v h.1) ∙ ap (typed.If x v) (formed-same program w c o h.2)
formed-same program w c (typed.Reduction at a (reducer'.Operator n o b) initial site chunk iteration v) h =
    ap (λ i. typed.Reduction at a (reducer'.Operator n o i) (with_class c initial) site chunk iteration (with_class c v)) (class-same c b h.0)
    ∙ ap (λ i. typed.Reduction at a (reducer'.Operator n o b) i site chunk iteration (with_class c v)) (formed-same program w c initial h.1)
    ∙ ap (typed.Reduction at a (reducer'.Operator n o b) initial site chunk iteration)
    (iteration-use program w iteration (λ u. FormedExpr program u v) (with_class c v ≡ v) h.3 (λ u k. formed-same program u c v k))
formed-same program w c (typed.Reduction at a (reducer'.Function n s t u) initial site chunk iteration v) h = refl
formed-same program w c (typed.Static at z alone ms) h = refl
formed-same program w c (typed.Variable at root ss s) h = refl
formed-same program w c (typed.Constant at root ss s) h = refl
formed-same program w c (typed.Parameter at n) h = refl
formed-same program w c (typed.Target at s) h = refl
formed-same program w c (typed.AndThen x y) h = refl
formed-same program w c (typed.OrElse x y) h = refl
formed-same program w c (typed.Relation b by x y) h = refl
formed-same program w c (typed.Membership b negated x low high) h = refl
formed-same program w c (typed.Call at callee n as') h = refl
formed-same program w c (typed.Convert check e) h = refl

least : (n : ℕ) → n ≤ n
least n = omega arith

-- an object has the cells of its subtype
pub one-cell : (W : World) (p : ObjectName) (s : Scalar) → p.subtype ≡ subtype.Scalar s → 1 ≤ size (shape_of W.program p.subtype)
one-cell W p s e = subst (λ n. 1 ≤ n) (sym (ap (λ t. size (shape_of W.program t)) e)) (least 1)

pub all-cells : (W : World) (p : ObjectName) (n : ℕ) → p.subtype ≡ subtype.Composite n → cells_of W.program.subtypes n ≤ size (shape_of W.program p.subtype)
all-cells W p n e =
    subst (λ t. cells_of W.program.subtypes n ≤ size t) (sym (ap (shape_of W.program) e)) (subst (λ c. c ≤ size (subtype_shape W.program n)) (sym (W.counted n)) (least (size (subtype_shape W.program n))))

module _ (W : World) (V : Sight) where
  pub formed-class : (c : Class) (e : TypedExpr) → FormedExpr W.program V.known e → FormedExpr W.program V.known (with_class c e)
  formed-class c e h = subst (FormedExpr W.program V.known) (sym (formed-same W.program V.known c e h)) h

  -- ---- lists that grow

  exprs-list : (x : TypedPart) → MentionsOf W V x → FormedExprs W.program V.known (as_exprs x)
  exprs-list (Cons p q) h = (h.0, exprs-list q h.1)
  exprs-list x h = tt

  pub exprs-formed : (x : TypedPart) → MentionsOf W V x → FormedExprs W.program V.known (exprs_of x)
  exprs-formed x h = exprs-list (turned x) (each-turned (ExprOf W V) x h)

  pieces-list : (x : TypedPart) → Each (IsPiece W V) x → FormedPieces W.program V.known (as_pieces x)
  pieces-list (Cons p q) h = h.0 (as_pieces q) (pieces-list q h.1)
  pieces-list x h = tt

  pub pieces-formed : (x : TypedPart) → Each (IsPiece W V) x → FormedPieces W.program V.known (as_pieces (turned x))
  pieces-formed x h = pieces-list (turned x) (each-turned (IsPiece W V) x h)

  -- ---- names

  -- a place is named as what it is
  abbrev pub NamedOf : ObjectName → TypedPart → Type 0
  NamedOf p x = NamesConstant W.program V.known p.root (selections_of x) (shape_of W.program p.subtype) × FormedSelections W.program V.known (selections_of x)

  abbrev pub VariableOf : ObjectName → TypedPart → Type 0
  VariableOf p x = Names W.program V.known p.root (selections_of x) (shape_of W.program p.subtype) × FormedSelections W.program V.known (selections_of x)

  pub path-whole : (t u : Shape) (x : TypedPart) → PathOf W V t u x → Selects (selections_of x) t u × FormedSelections W.program V.known (selections_of x)
  unfolding turned
  path-whole t u x h = h Nothing u refl tt

  pub as-variable : (p : ObjectName) (x : TypedPart) → PlaceOf W V p x → p.variable ≡ true → VariableOf p x
  as-variable p x h e =
      let y = path-whole h.whole (shape_of W.program p.subtype) x h.path in
      ((h.whole, subst (λ b. RootOf W V b p.root h.whole) e h.root, y.0), y.1)

  pub as-constant : (p : ObjectName) (x : TypedPart) → PlaceOf W V p x → p.variable ≡ false → NamedOf p x
  as-constant p x h e =
      let y = path-whole h.whole (shape_of W.program p.subtype) x h.path in
      ((h.whole, subst (λ b. RootOf W V b p.root h.whole) e h.root, y.0), y.1)

  -- indexes in a name
  indexes-on : (x : TypedPart) (ss : Selections) → MentionsOf W V x → FormedSelections W.program V.known ss → MentionsOf W V (indexes_from x ss)
  indexes-on x typed.Whole g h = g
  indexes-on x (typed.Field number offset ss) g h = indexes-on x ss g h
  indexes-on x (typed.Index at e low high stride ss) g h = indexes-on (Cons (part.AnExpr e) x) ss (h.0, g) h.1

  pub indexes-formed : (ss : Selections) → FormedSelections W.program V.known ss → MentionsOf W V (indexes_in ss)
  unfolding indexes_in
  indexes-formed ss h = indexes-on Nothing ss tt h

  -- what a static expression mentions
  pub static-mentions : (f : Known) (x : TypedPart) (z : ℤ) → KnownOf W V f x → value_of f ≡ Some z → MentionsOf W V (mentions_of (record { known = f; part = x }))
  static-mentions (known.Universal first y alone) x z h e = h
  static-mentions (known.Static first k y) x z h e = h
  static-mentions (known.Object p) x z h e = tt
  static-mentions (known.Open first l) x z h e = absurd cc
  static-mentions (known.Scalar first k n) x z h e = absurd cc
  static-mentions (known.Composite first n) x z h e = absurd cc
  static-mentions (known.Rest first) x z h e = absurd cc
  static-mentions (known.Text first) x z h e = absurd cc

  -- the same of its part itself
  pub static-part : (f : Known) (x : TypedPart) (z : ℤ) → KnownOf W V f x → value_of f ≡ Some z → MentionsOf W V x
  static-part (known.Universal first y alone) x z h e = h
  static-part (known.Static first k y) x z h e = h
  static-part (known.Object p) x z h e = h.static z e
  static-part (known.Open first l) x z h e = absurd cc
  static-part (known.Scalar first k n) x z h e = absurd cc
  static-part (known.Composite first n) x z h e = absurd cc
  static-part (known.Rest first) x z h e = absurd cc
  static-part (known.Text first) x z h e = absurd cc

  -- ---- an expression whose place asks for a type

  literal-formed : (first : ℕ) (z : ℤ) (alone : Bool) (x : TypedPart) → MentionsOf W V x → ExprOf W V (literal first z alone x)
  literal-formed first z alone x h = exprs-formed x h

  f-valued : (k : Kind) (first : ℕ) (z : ℤ) (alone : Bool) (x : TypedPart) → MentionsOf W V x → Forms W V (Maybe (ExprOf W V)) (valued k first z alone x)
  unfolding valued
  f-valued k first z alone x h = f-if W V (Maybe (ExprOf W V)) (in_base k z) (some (literal first (kept k z) alone x)) (fault first StaticRange) (f-some W V (ExprOf W V) (literal first (kept k z) alone x) (literal-formed first (kept k z) alone x h)) (f-fault W V (ExprOf W V) first StaticRange)

  pub f-fitting : (k : Kind) (first : ℕ) (z : ℤ) → Forms W V Any (fitting k first z)
  unfolding fitting
  f-fitting k first z = f-bind W V Any Any (unless (in_base k z) first StaticRange) _ (f-unless W V (in_base k z) first StaticRange) (λ u q. f-pure W V Any (in_base k z) tt)

  f-settled_by : (k : Kind) (e : TypedExpr) (at : Option ℕ) → OpenOf W V e → Forms W V (Maybe (ExprOf W V)) (settled_by k e at)
  f-settled_by k e None h = f-some W V (ExprOf W V) (part.AnExpr (with_class (class_of k) e)) (h (class_of k) (is-settled k))
  f-settled_by k e (Some at) h = f-fault W V (ExprOf W V) at StaticRange

  f-settled : (k : Kind) (l : Limits) (e : TypedExpr) → OpenOf W V e → Forms W V (Maybe (ExprOf W V)) (settled k l e)
  unfolding settled
  f-settled k l e h = f-settled_by k e (beyond k l e) h

  f-object_value : (k : Kind) (p : ObjectName) (x : TypedPart) (s : Scalar) (v : Option ℤ) → p.subtype ≡ subtype.Scalar s → PlaceOf W V p x → Forms W V (Maybe (ExprOf W V)) (object_value k p (selections_of x) s v)
  f-object_value k p x s (Some z) e h = f-valued k p.first z false part.Nothing tt
  f-object_value k p x s None e h = f-some W V (ExprOf W V) (part.AnExpr (object_expr p (selections_of x) s p.variable)) (by p.variable refl)
    where
      single : size (shape_of W.program p.subtype) ≡ 1
      single = ap (λ t. size (shape_of W.program t)) e

      one : 1 ≤ size (shape_of W.program p.subtype)
      one = subst (λ n. 1 ≤ n) (sym single) (least 1)

      by : (b : Bool) → p.variable ≡ b → FormedExpr W.program V.known (object_expr p (selections_of x) s b)
      by true e = let y = as-variable p x h e in ((shape_of W.program p.subtype, y.0, one), y.1)
      by false e = let y = as-constant p x h e in ((shape_of W.program p.subtype, y.0, one), y.1)

  f-place_asked : (k : Kind) (p : ObjectName) (x : TypedPart) (s : Subtype) → p.subtype ≡ s → PlaceOf W V p x → Forms W V (Maybe (ExprOf W V)) (place_asked k p (selections_of x) s)
  f-place_asked k p x (subtype.Scalar s) e h =
      f-if W V (Maybe (ExprOf W V)) (same s.kind k) (object_value k p (selections_of x) s p.value) (fault p.first WrongType)
      (f-object_value k p x s p.value e h)
      (f-fault W V (ExprOf W V) p.first WrongType)
  f-place_asked k p x (subtype.Composite n) e h = f-fault W V (ExprOf W V) p.first WrongType

  f-asked_form : (k : Kind) (f : Known) (x : TypedPart) → KnownOf W V f x → Forms W V (Maybe (ExprOf W V)) (asked_form k f x)
  f-asked_form k (known.Universal first z alone) x h = f-if W V (Maybe (ExprOf W V)) (is_integer k) (valued k first z alone x) (fault first WrongType) (f-valued k first z alone x h) (f-fault W V (ExprOf W V) first WrongType)
  f-asked_form k (known.Open first l) x h = f-if W V (Maybe (ExprOf W V)) (is_integer k) (settled k l (as_expr x)) (fault first WrongType) (f-settled k l (as_expr x) h) (f-fault W V (ExprOf W V) first WrongType)
  f-asked_form k (known.Static first j z) x h =
      f-if W V (Maybe (ExprOf W V)) (same j k) (valued k first z false x) (fault first WrongType)
      (f-valued k first z false x h) (f-fault W V (ExprOf W V) first WrongType)
  f-asked_form k (known.Object p) x h = f-place_asked k p x p.subtype refl h
  f-asked_form k (known.Scalar first j n) x h = f-if W V (Maybe (ExprOf W V)) (same j k) (some x) (fault first WrongType) (f-some W V (ExprOf W V) x h) (f-fault W V (ExprOf W V) first WrongType)
  f-asked_form k f x h = f-fault W V (ExprOf W V) (first_of f) WrongType

  pub f-asked : (k : Kind) (f : Found) → FoundOf W V f → Forms W V (Maybe (ExprOf W V)) (asked k f)
  unfolding asked
  f-asked k f h = f-asked_form k f.known f.part h

  pub f-settled_found : (f : Found) → FoundOf W V f → Forms W V (Maybe (ExprOf W V)) (settled_found f)
  unfolding settled_found
  f-settled_found f h = f-asked (own_kind f.known) f h

  pub f-any_integer : (f : Found) → FoundOf W V f → Forms W V (Maybe (ExprOf W V)) (any_integer f)
  unfolding any_integer
  f-any_integer f h = f-if W V (Maybe (ExprOf W V)) (is_number f.known && not (is_word_kind (kind_of f.known))) (settled_found f) (fault (first_of f.known) WrongType) (f-settled_found f h) (f-fault W V (ExprOf W V) (first_of f.known) WrongType)

  pub f-any_scalar : (f : Found) → FoundOf W V f → Forms W V (Maybe (ExprOf W V)) (any_scalar f)
  unfolding any_scalar
  f-any_scalar f h = f-if W V (Maybe (ExprOf W V)) (is_scalar f.known) (settled_found f) (fault (first_of f.known) WrongType) (f-settled_found f h) (f-fault W V (ExprOf W V) (first_of f.known) WrongType)

  -- ---- static expressions

  -- a static value of what was found
  abbrev pub StaticValue : Found → ℤ → Type 0
  StaticValue f z = value_of f.known ≡ Some z

  f-static_value : (first : ℕ) (f : Found) (v : Option ℤ) → value_of f.known ≡ v → Forms W V (Maybe (StaticValue f)) (static_value first v)
  f-static_value first f None e = f-fault W V (StaticValue f) first NotStatic
  f-static_value first f (Some z) e = f-some W V (StaticValue f) z e

  pub f-static_of : (f : Found) → Forms W V (Maybe (StaticValue f)) (static_value (first_of f.known) (value_of f.known))
  f-static_of f = f-static_value (first_of f.known) f (value_of f.known) refl

  pub f-static_of_kind : (k : Kind) (f : Found) → FoundOf W V f → Forms W V (Maybe (StaticValue f)) (static_of_kind k f)
  unfolding static_of_kind
  f-static_of_kind k f h =
      f-bind W V (Maybe (ExprOf W V)) (Maybe (StaticValue f)) (asked k f) _ (f-asked k f h) (λ e q.
      f-given W V (ExprOf W V) (StaticValue f) e (λ x. static_value (first_of f.known) (value_of f.known)) q (λ x r. f-static_of f))

  pub f-static_integer : (f : Found) → Forms W V (Maybe (StaticValue f)) (static_integer f.known)
  unfolding static_integer
  f-static_integer f = f-if W V (Maybe (StaticValue f)) (is_number f.known) (static_value (first_of f.known) (value_of f.known)) (fault (first_of f.known) WrongType) (f-static_of f) (f-fault W V (StaticValue f) (first_of f.known) WrongType)

  -- ---- what is stored

  -- a whole object has the cells of its subtype
  pub of-cells : (n : ℕ) → cells_of W.program.subtypes n ≤ size (subtype_shape W.program n)
  of-cells n = subst (λ c. c ≤ size (subtype_shape W.program n)) (sym (W.counted n)) (least (size (subtype_shape W.program n)))

  f-whole_of : (n : ℕ) (p : ObjectName) (x : TypedPart) (s : Subtype) → p.subtype ≡ s → PlaceOf W V p x → Forms W V (Maybe (WideOf W V n)) (whole_of n p (selections_of x) s)
  f-whole_of n p x (subtype.Scalar s) e h = f-fault W V (WideOf W V n) p.first WrongType
  f-whole_of n p x (subtype.Composite m) e h =
      f-test W V (Maybe (WideOf W V n)) (n == m) (some (part.AComposite (whole_object p (selections_of x) m p.variable))) (fault p.first WrongType)
      (λ q. f-some W V (WideOf W V n) (part.AComposite (whole_object p (selections_of x) m p.variable)) (by p.variable refl (eqb-true n m q))) (f-fault W V (WideOf W V n) p.first WrongType)
    where
      here : shape_of W.program p.subtype ≡ subtype_shape W.program m
      here = ap (shape_of W.program) e

      wide : cells_of W.program.subtypes m ≤ size (shape_of W.program p.subtype)
      wide = subst (λ t. cells_of W.program.subtypes m ≤ size t) (sym here) (of-cells m)

      same-wide : n ≡ m → cells_of W.program.subtypes m ≤ size (subtype_shape W.program n)
      same-wide q = subst (λ k. cells_of W.program.subtypes m ≤ size (subtype_shape W.program k)) (sym q) (of-cells m)

      by : (b : Bool) → p.variable ≡ b → n ≡ m → WideOf W V n (part.AComposite (whole_object p (selections_of x) m b))
      by true e q = let y = as-variable p x h e in (((shape_of W.program p.subtype, y.0, wide), y.1), same-wide q)
      by false e q = let y = as-constant p x h e in (((shape_of W.program p.subtype, y.0, wide), y.1), same-wide q)

  f-composite_form : (n : ℕ) (f : Known) (x : TypedPart) → KnownOf W V f x → Forms W V (Maybe (WideOf W V n)) (composite_form n f x)
  f-composite_form n (known.Composite first m) x h =
      f-test W V (Maybe (WideOf W V n)) (n == m) (some x) (fault first WrongType) (λ q. f-some W V (WideOf W V n) x (subst (λ k. WideOf W V k x) (sym (eqb-true n m q)) h)) (f-fault W V (WideOf W V n) first WrongType)
  f-composite_form n (known.Object p) x h = f-whole_of n p x p.subtype refl h
  f-composite_form n f x h = f-fault W V (WideOf W V n) (first_of f) WrongType

  pub f-composite_asked : (n : ℕ) (f : Found) → FoundOf W V f → Forms W V (Maybe (WideOf W V n)) (composite_asked n f)
  unfolding composite_asked
  f-composite_asked n f h = f-composite_form n f.known f.part h

  pub f-stored : (t : Subtype) (at : ℕ) (f : Found) → FoundOf W V f → Forms W V (Maybe (ValueOf W V t)) (stored t at f)
  unfolding stored
  f-stored (subtype.Scalar s) at f h =
      f-bind W V (Maybe (ExprOf W V)) (Maybe (ValueOf W V (subtype.Scalar s))) (asked s.kind f) _ (f-asked s.kind f h)
      (λ e q. f-given W V (ExprOf W V) (ValueOf W V (subtype.Scalar s)) e _ q (λ x r. f-some W V (ValueOf W V (subtype.Scalar s)) (part.AValue (typed.Number (check_at at s) (as_expr x))) (r, least 1)))
  f-stored (subtype.Composite n) at f h =
      f-bind W V (Maybe (WideOf W V n)) (Maybe (ValueOf W V (subtype.Composite n))) (composite_asked n f) _ (f-composite_asked n f h)
      (λ c q. f-given W V (WideOf W V n) (ValueOf W V (subtype.Composite n)) c _ q (λ x r. f-some W V (ValueOf W V (subtype.Composite n)) (part.AValue (typed.Cells (as_composite x))) r))
