-- What is found is in scope: values, and expressions that take the type of their place.
use Rattle.std.proofs.Common.{◌≡◌, refl, sym, ap, subst, ◌∙◌, ℕ, ℤ, Option, Some, None, Bool, true, false, ◌==◌, eqb-true}
use Rattle.behaviours.specs.Paths.{Entity}
use Rattle.ada_meaning.specs.Shapes.{cells_of, size, subtype_shape}
use Rattle.typed_scopes.specs.Scopes as scopes
use Rattle.typed_scopes.specs.Scopes.{ConstantSeen, VariableSeen, with_chunk, with_parameter}
use Rattle.name_scopes.proofs.Seen.{SeenExpr, SeenIteration, SeenExprs, SeenPieces, SeenSelections}
use Rattle.typed_tree.specs.Classes.{with_class}
use Rattle.typed_tree.specs.Decoded as part
use Rattle.typed_tree.specs.Decoded.{TypedPart, Nothing, Cons, as_composite, as_expr, as_exprs, as_pieces}
use Rattle.typed_tree.specs.Indexes.{indexes_from, indexes_in}
use Rattle.typed_tree.specs.Latest.{turned}
use Rattle.typed_tree.specs.Syntax as typed
use Rattle.typed_tree.specs.Syntax.{Expr as TypedExpr, Iteration, Selections}
use Rattle.typed_tree.specs.declared.expressions.Reducer.TheVariants as reducer'
use Rattle.typed_tree.specs.declared.scalars.Class.{Class}
use Rattle.name_rules.specs.Found.{Found}
use Rattle.name_rules.specs.Judging.{fault, some, unless}
use Rattle.name_rules.specs.TypedParts.{exprs_of, selections_of}
use Rattle.name_rules.specs.Types.{check_at, class_of, in_base, is_integer, same, kept}
use Rattle.name_rules.specs.Values.{any_integer, any_scalar, asked, asked_form, beyond, composite_asked, composite_form, first_of, fitting, is_number, is_scalar, literal, mentions_of, object_expr, object_value, own_kind, place_asked, settled, settled_by, settled_found, static_integer, static_of_kind, static_value, stored, value_of, valued, whole_object, whole_of, is_word_kind, kind_of}
use Rattle.name_rules.specs.declared.found.Found.TheVariants as known
use Rattle.name_rules.specs.declared.found.Found.{Found as Known}
use Rattle.name_rules.specs.declared.found.Limits.{Limits}
use Rattle.name_rules.specs.declared.found.ObjectName.{ObjectName}
use Rattle.name_rules.specs.declared.log.Rule.TheVariants.{NotStatic, StaticRange, WrongType}
use Rattle.name_rules.specs.declared.types.Kind.{Kind}
use Rattle.name_rules.specs.declared.types.Scalar.{Scalar}
use Rattle.name_rules.specs.declared.types.Subtype.{Subtype}
use Rattle.name_rules.specs.declared.types.Subtype.TheVariants as subtype
use Rattle.name_scopes.proofs.Sees.{Any, Sees, Maybe, Sight, World, v-bind, v-fault, v-given, v-if, v-pure, v-some, v-test, v-unless}
use Rattle.name_scopes.proofs.SeesFound.{Each, ExprOf, FoundOf, IsPiece, KnownOf, MentionsOf, OpenOf, PlaceOf, RootOf, ValueOf, WideOf, each-turned}
use Rattle.std.specs.Prelude.{◌&&◌, not}

-- ---- iterations

-- what holds around the body of an iteration holds of its body
pub iteration-map : (program : typed.Program) (shown : ℕ → Entity → Bool) (v u : scopes.Around) (i : Iteration) (P Q : scopes.Around → Type 0)
    → SeenIteration program shown v u i P → ((w : scopes.Around) → P w → Q w) → SeenIteration program shown v u i Q
iteration-map program shown v u (typed.Range k backwards low high check filter) P Q h f = (h.0, h.1, h.2, f (with_parameter k u) h.3)
iteration-map program shown v u (typed.Components k constant at from selections number stride dimensions filter) P Q h f = (h.0, h.1, h.2, h.3, f u h.4)

-- what an expression names stands in scope whichever class it takes
pub scoped-class : (program : typed.Program) (shown : ℕ → Entity → Bool) (v : scopes.Around) (c : Class) (e : TypedExpr) → SeenExpr program shown v e → SeenExpr program shown v (with_class c e)
scoped-class program shown v c (typed.Group e) h = scoped-class program shown v c e h
scoped-class program shown v c (typed.Unary at s b e) h = scoped-class program shown v c e h
scoped-class program shown v c (typed.Binary at o b l r) h = (scoped-class program shown v c l h.0, scoped-class program shown v c r h.1)
scoped-class program shown v c (typed.If x y o) h = (h.0, scoped-class program shown v c y h.1, scoped-class program shown v c o h.2)
scoped-class program shown v c (typed.Reduction at a (reducer'.Operator n o b) initial site chunk iteration y) h = (
  scoped-class program shown v c initial h.0,
  h.1,
  h.2,
  h.3,
  iteration-map program shown v (with_chunk chunk v) iteration (λ u. SeenExpr program shown u y) (λ u. SeenExpr program shown u (with_class c y)) h.4 (λ u k. scoped-class program shown u c y k),
)
scoped-class program shown v c (typed.Reduction at a (reducer'.Function n s t u) initial site chunk iteration y) h = h
scoped-class program shown v c (typed.Static at z alone ms) h = h
scoped-class program shown v c (typed.Variable at root ss s) h = h
scoped-class program shown v c (typed.Constant at root ss s) h = h
scoped-class program shown v c (typed.Parameter at n) h = h
scoped-class program shown v c (typed.Target at s) h = h
scoped-class program shown v c (typed.AndThen x y) h = h
scoped-class program shown v c (typed.OrElse x y) h = h
scoped-class program shown v c (typed.Relation b by x y) h = h
scoped-class program shown v c (typed.Membership b negated x low high) h = h
scoped-class program shown v c (typed.Call at callee n as') h = h
scoped-class program shown v c (typed.Convert check e) h = h

-- ---- what is mentioned

exprs-list : (program : typed.Program) (shown : ℕ → Entity → Bool) (v : scopes.Around) (x : TypedPart) → Each (λ y. SeenExpr program shown v (as_expr y)) x → SeenExprs program shown v (as_exprs x)
exprs-list program shown v (Cons p q) h = (h.0, exprs-list program shown v q h.1)
exprs-list program shown v x h = tt

pub exprs-within : (program : typed.Program) (shown : ℕ → Entity → Bool) (v : scopes.Around) (x : TypedPart) → Each (λ y. SeenExpr program shown v (as_expr y)) x → SeenExprs program shown v (exprs_of x)
exprs-within program shown v x h = exprs-list program shown v (turned x) (each-turned (λ y. SeenExpr program shown v (as_expr y)) x h)

module _ (W : World) (V : Sight) where
  -- ---- lists that grow

  pub exprs-seen : (x : TypedPart) → MentionsOf W V x → SeenExprs W.program W.shown V.around (exprs_of x)
  exprs-seen x h = exprs-within W.program W.shown V.around x h

  pieces-list : (x : TypedPart) → Each (IsPiece W V) x → SeenPieces W.program W.shown V.around (as_pieces x)
  pieces-list (Cons p q) h = h.0 (as_pieces q) (pieces-list q h.1)
  pieces-list x h = tt

  pub pieces-seen : (x : TypedPart) → Each (IsPiece W V) x → SeenPieces W.program W.shown V.around (as_pieces (turned x))
  pieces-seen x h = pieces-list (turned x) (each-turned (IsPiece W V) x h)

  -- ---- names

  -- a place is named as what it is
  pub path-whole : (p : ObjectName) (x : TypedPart) → PlaceOf W V p x → SeenSelections W.program W.shown V.around (selections_of x)
  unfolding turned
  path-whole p x h = h.path Nothing tt

  abbrev pub ConstantOf : ObjectName → TypedPart → Type 0
  ConstantOf p x = ConstantSeen V.around p.root × SeenSelections W.program W.shown V.around (selections_of x)

  abbrev pub VariableOf : ObjectName → TypedPart → Type 0
  VariableOf p x = VariableSeen V.around p.root × SeenSelections W.program W.shown V.around (selections_of x)

  pub as-variable : (p : ObjectName) (x : TypedPart) → PlaceOf W V p x → p.variable ≡ true → VariableOf p x
  as-variable p x h e = (subst (λ b. RootOf V b p.root) e h.root, path-whole p x h)

  pub as-constant : (p : ObjectName) (x : TypedPart) → PlaceOf W V p x → p.variable ≡ false → ConstantOf p x
  as-constant p x h e = (subst (λ b. RootOf V b p.root) e h.root, path-whole p x h)

  -- indexes in a name
  indexes-on : (x : TypedPart) (ss : Selections) → MentionsOf W V x → SeenSelections W.program W.shown V.around ss → MentionsOf W V (indexes_from x ss)
  indexes-on x typed.Whole g h = g
  indexes-on x (typed.Field number offset ss) g h = indexes-on x ss g h
  indexes-on x (typed.Index at e low high stride ss) g h = indexes-on (Cons (part.AnExpr e) x) ss (h.0, g) h.1

  pub indexes-seen : (ss : Selections) → SeenSelections W.program W.shown V.around ss → MentionsOf W V (indexes_in ss)
  unfolding indexes_in
  indexes-seen ss h = indexes-on Nothing ss tt h

  -- what a static expression mentions
  pub static-mentions : (f : Known) (x : TypedPart) (z : ℤ) → KnownOf W V f x → value_of f ≡ Some z → MentionsOf W V (mentions_of (record { known = f; part = x }))
  static-mentions (known.Universal first y alone) x z h e = h
  static-mentions (known.Static first k y) x z h e = h
  static-mentions (known.Object p) x z h e = tt
  static-mentions (known.Open first l) x z h e = absurd cc
  static-mentions (known.Scalar first k n) x z h e = absurd cc
  static-mentions (known.Composite first n) x z h e = absurd cc
  static-mentions (known.Rest first) x z h e = absurd cc
  static-mentions (known.Text first) x z h e = absurd cc

  -- the same of its part itself
  pub static-part : (f : Known) (x : TypedPart) (z : ℤ) → KnownOf W V f x → value_of f ≡ Some z → MentionsOf W V x
  static-part (known.Universal first y alone) x z h e = h
  static-part (known.Static first k y) x z h e = h
  static-part (known.Object p) x z h e = h.static z e
  static-part (known.Open first l) x z h e = absurd cc
  static-part (known.Scalar first k n) x z h e = absurd cc
  static-part (known.Composite first n) x z h e = absurd cc
  static-part (known.Rest first) x z h e = absurd cc
  static-part (known.Text first) x z h e = absurd cc

  -- ---- an expression whose place asks for a type

  literal-seen : (first : ℕ) (z : ℤ) (alone : Bool) (x : TypedPart) → MentionsOf W V x → ExprOf W V (literal first z alone x)
  literal-seen first z alone x h = exprs-seen x h

  v-valued : (k : Kind) (first : ℕ) (z : ℤ) (alone : Bool) (x : TypedPart) → MentionsOf W V x → Sees W V (Maybe (ExprOf W V)) (valued k first z alone x)
  unfolding valued
  v-valued k first z alone x h = v-if W V (Maybe (ExprOf W V)) (in_base k z) (some (literal first (kept k z) alone x)) (fault first StaticRange) (v-some W V (ExprOf W V) (literal first (kept k z) alone x) (literal-seen first (kept k z) alone x h)) (v-fault W V (ExprOf W V) first StaticRange)

  pub v-fitting : (k : Kind) (first : ℕ) (z : ℤ) → Sees W V Any (fitting k first z)
  unfolding fitting
  v-fitting k first z = v-bind W V Any Any (unless (in_base k z) first StaticRange) _ (v-unless W V (in_base k z) first StaticRange) (λ u q. v-pure W V Any (in_base k z) tt)

  v-settled_by : (k : Kind) (e : TypedExpr) (at : Option ℕ) → OpenOf W V e → Sees W V (Maybe (ExprOf W V)) (settled_by k e at)
  v-settled_by k e None h = v-some W V (ExprOf W V) (part.AnExpr (with_class (class_of k) e)) (h (class_of k))
  v-settled_by k e (Some at) h = v-fault W V (ExprOf W V) at StaticRange

  v-settled : (k : Kind) (l : Limits) (e : TypedExpr) → OpenOf W V e → Sees W V (Maybe (ExprOf W V)) (settled k l e)
  unfolding settled
  v-settled k l e h = v-settled_by k e (beyond k l e) h

  v-object_value : (k : Kind) (p : ObjectName) (x : TypedPart) (s : Scalar) (v : Option ℤ) → PlaceOf W V p x → Sees W V (Maybe (ExprOf W V)) (object_value k p (selections_of x) s v)
  v-object_value k p x s (Some z) h = v-valued k p.first z false part.Nothing tt
  v-object_value k p x s None h = v-some W V (ExprOf W V) (part.AnExpr (object_expr p (selections_of x) s p.variable)) (by p.variable refl)
    where
      by : (b : Bool) → p.variable ≡ b → SeenExpr W.program W.shown V.around (object_expr p (selections_of x) s b)
      by true e = as-variable p x h e
      by false e = as-constant p x h e

  v-place_asked : (k : Kind) (p : ObjectName) (x : TypedPart) (s : Subtype) → PlaceOf W V p x → Sees W V (Maybe (ExprOf W V)) (place_asked k p (selections_of x) s)
  v-place_asked k p x (subtype.Scalar s) h =
      v-if W V (Maybe (ExprOf W V)) (same s.kind k) (object_value k p (selections_of x) s p.value) (fault p.first WrongType)
      (v-object_value k p x s p.value h)
      (v-fault W V (ExprOf W V) p.first WrongType)
  v-place_asked k p x (subtype.Composite n) h = v-fault W V (ExprOf W V) p.first WrongType

  v-asked_form : (k : Kind) (f : Known) (x : TypedPart) → KnownOf W V f x → Sees W V (Maybe (ExprOf W V)) (asked_form k f x)
  v-asked_form k (known.Universal first z alone) x h = v-if W V (Maybe (ExprOf W V)) (is_integer k) (valued k first z alone x) (fault first WrongType) (v-valued k first z alone x h) (v-fault W V (ExprOf W V) first WrongType)
  v-asked_form k (known.Open first l) x h = v-if W V (Maybe (ExprOf W V)) (is_integer k) (settled k l (as_expr x)) (fault first WrongType) (v-settled k l (as_expr x) h) (v-fault W V (ExprOf W V) first WrongType)
  v-asked_form k (known.Static first j z) x h =
      v-if W V (Maybe (ExprOf W V)) (same j k) (valued k first z false x) (fault first WrongType)
      (v-valued k first z false x h) (v-fault W V (ExprOf W V) first WrongType)
  v-asked_form k (known.Object p) x h = v-place_asked k p x p.subtype h
  v-asked_form k (known.Scalar first j n) x h = v-if W V (Maybe (ExprOf W V)) (same j k) (some x) (fault first WrongType) (v-some W V (ExprOf W V) x h) (v-fault W V (ExprOf W V) first WrongType)
  v-asked_form k f x h = v-fault W V (ExprOf W V) (first_of f) WrongType

  pub v-asked : (k : Kind) (f : Found) → FoundOf W V f → Sees W V (Maybe (ExprOf W V)) (asked k f)
  unfolding asked
  v-asked k f h = v-asked_form k f.known f.part h

  pub v-settled_found : (f : Found) → FoundOf W V f → Sees W V (Maybe (ExprOf W V)) (settled_found f)
  unfolding settled_found
  v-settled_found f h = v-asked (own_kind f.known) f h

  pub v-any_integer : (f : Found) → FoundOf W V f → Sees W V (Maybe (ExprOf W V)) (any_integer f)
  unfolding any_integer
  v-any_integer f h = v-if W V (Maybe (ExprOf W V)) (is_number f.known && not (is_word_kind (kind_of f.known))) (settled_found f) (fault (first_of f.known) WrongType) (v-settled_found f h) (v-fault W V (ExprOf W V) (first_of f.known) WrongType)

  pub v-any_scalar : (f : Found) → FoundOf W V f → Sees W V (Maybe (ExprOf W V)) (any_scalar f)
  unfolding any_scalar
  v-any_scalar f h = v-if W V (Maybe (ExprOf W V)) (is_scalar f.known) (settled_found f) (fault (first_of f.known) WrongType) (v-settled_found f h) (v-fault W V (ExprOf W V) (first_of f.known) WrongType)

  -- ---- static expressions

  -- a static value of what was found
  abbrev pub StaticValue : Found → ℤ → Type 0
  StaticValue f z = value_of f.known ≡ Some z

  v-static_value : (first : ℕ) (f : Found) (v : Option ℤ) → value_of f.known ≡ v → Sees W V (Maybe (StaticValue f)) (static_value first v)
  v-static_value first f None e = v-fault W V (StaticValue f) first NotStatic
  v-static_value first f (Some z) e = v-some W V (StaticValue f) z e

  pub v-static_of : (f : Found) → Sees W V (Maybe (StaticValue f)) (static_value (first_of f.known) (value_of f.known))
  v-static_of f = v-static_value (first_of f.known) f (value_of f.known) refl

  pub v-static_of_kind : (k : Kind) (f : Found) → FoundOf W V f → Sees W V (Maybe (StaticValue f)) (static_of_kind k f)
  unfolding static_of_kind
  v-static_of_kind k f h =
      v-bind W V (Maybe (ExprOf W V)) (Maybe (StaticValue f)) (asked k f) _ (v-asked k f h) (λ e q.
      v-given W V (ExprOf W V) (StaticValue f) e (λ x. static_value (first_of f.known) (value_of f.known)) q (λ x r. v-static_of f))

  pub v-static_integer : (f : Found) → Sees W V (Maybe (StaticValue f)) (static_integer f.known)
  unfolding static_integer
  v-static_integer f = v-if W V (Maybe (StaticValue f)) (is_number f.known) (static_value (first_of f.known) (value_of f.known)) (fault (first_of f.known) WrongType) (v-static_of f) (v-fault W V (StaticValue f) (first_of f.known) WrongType)

  -- ---- what is stored

  v-whole_of : (n : ℕ) (p : ObjectName) (x : TypedPart) (s : Subtype) → PlaceOf W V p x → Sees W V (Maybe (WideOf W V n)) (whole_of n p (selections_of x) s)
  v-whole_of n p x (subtype.Scalar s) h = v-fault W V (WideOf W V n) p.first WrongType
  v-whole_of n p x (subtype.Composite m) h =
      v-test W V (Maybe (WideOf W V n)) (n == m) (some (part.AComposite (whole_object p (selections_of x) m p.variable))) (fault p.first WrongType)
      (λ q. v-some W V (WideOf W V n) (part.AComposite (whole_object p (selections_of x) m p.variable)) (by p.variable refl (eqb-true n m q))) (v-fault W V (WideOf W V n) p.first WrongType)
    where
      many : n ≡ m → cells_of W.program.subtypes m ≡ size (subtype_shape W.program n)
      many q = W.counted m ∙ ap (λ k. size (subtype_shape W.program k)) (sym q)

      by : (b : Bool) → p.variable ≡ b → n ≡ m → WideOf W V n (part.AComposite (whole_object p (selections_of x) m b))
      by true e q small = let y = as-variable p x h e in (many q, y.0, y.1)
      by false e q small = let y = as-constant p x h e in (many q, y.0, y.1)

  v-composite_form : (n : ℕ) (f : Known) (x : TypedPart) → KnownOf W V f x → Sees W V (Maybe (WideOf W V n)) (composite_form n f x)
  v-composite_form n (known.Composite first m) x h =
      v-test W V (Maybe (WideOf W V n)) (n == m) (some x) (fault first WrongType) (λ q. v-some W V (WideOf W V n) x (subst (λ k. WideOf W V k x) (sym (eqb-true n m q)) h)) (v-fault W V (WideOf W V n) first WrongType)
  v-composite_form n (known.Object p) x h = v-whole_of n p x p.subtype h
  v-composite_form n f x h = v-fault W V (WideOf W V n) (first_of f) WrongType

  pub v-composite_asked : (n : ℕ) (f : Found) → FoundOf W V f → Sees W V (Maybe (WideOf W V n)) (composite_asked n f)
  unfolding composite_asked
  v-composite_asked n f h = v-composite_form n f.known f.part h

  pub v-stored : (t : Subtype) (at : ℕ) (f : Found) → FoundOf W V f → Sees W V (Maybe (ValueOf W V t)) (stored t at f)
  unfolding stored
  v-stored (subtype.Scalar s) at f h =
      v-bind W V (Maybe (ExprOf W V)) (Maybe (ValueOf W V (subtype.Scalar s))) (asked s.kind f) _ (v-asked s.kind f h)
      (λ e q. v-given W V (ExprOf W V) (ValueOf W V (subtype.Scalar s)) e _ q (λ x r. v-some W V (ValueOf W V (subtype.Scalar s)) (part.AValue (typed.Number (check_at at s) (as_expr x))) (λ small. (refl, r))))
  v-stored (subtype.Composite n) at f h =
      v-bind W V (Maybe (WideOf W V n)) (Maybe (ValueOf W V (subtype.Composite n))) (composite_asked n f) _ (v-composite_asked n f h)
      (λ c q. v-given W V (WideOf W V n) (ValueOf W V (subtype.Composite n)) c _ q (λ x r. v-some W V (ValueOf W V (subtype.Composite n)) (part.AValue (typed.Cells (as_composite x))) r))
