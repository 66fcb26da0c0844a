-- What is found fits: values, and expressions that take the type of their place.
use Rattle.std.proofs.Common.{◌≡◌, refl, sym, ap, subst, ◌∙◌, ◌⊎◌, inl, inr, ℕ, ℤ, Option, Some, None, Bool, true, false, ◌==◌, int_le, ◌&&◌, ◌-◌, pos}
use Rattle.std.specs.Prelude.{not}
use Rattle.ada_base.specs.declared.operation.Op.TheVariants as op
use Rattle.typed_tree.specs.Classes.{class_or, with_class}
use Rattle.typed_tree.specs.Decoded as part
use Rattle.typed_tree.specs.Decoded.{TypedPart, Cons, as_composite, as_expr, as_piece, as_pieces, as_selection, as_selections, as_value}
use Rattle.typed_tree.specs.Latest.{turned}
use Rattle.typed_tree.specs.Syntax as typed
use Rattle.typed_tree.specs.Syntax.{Expr as TypedExpr, Pieces, Selections}
use Rattle.typed_tree.specs.declared.expressions.Reducer.TheVariants as reducer'
use Rattle.typed_tree.specs.declared.scalars.Class.{Class}
use Rattle.typed_tree.specs.declared.scalars.Class.TheVariants as class
use Rattle.name_rules.specs.Found.{Found}
use Rattle.name_rules.specs.Judging.{fault, some}
use Rattle.name_rules.specs.TypedParts.{selections_of}
use Rattle.name_rules.specs.Types.{check_at, class_of, in_base, is_integer, same, kept, is_modular}
use Rattle.name_rules.specs.Values.{any_integer, any_scalar, asked, asked_form, beyond, composite_asked, composite_form, first_of, is_number, is_scalar, literal, object_expr, object_value, own_kind, place_asked, settled, settled_by, settled_found, stored, valued, whole_object, whole_of, is_word_kind, kind_of}
use Rattle.name_rules.specs.declared.found.Found.TheVariants as known
use Rattle.name_rules.specs.declared.found.Found.{Found as Known}
use Rattle.name_rules.specs.declared.found.Limits.{Limits}
use Rattle.name_rules.specs.declared.found.ObjectName.{ObjectName}
use Rattle.name_rules.specs.declared.log.Rule.TheVariants.{StaticRange, WrongType}
use Rattle.name_rules.specs.declared.types.Kind.{Kind}
use Rattle.name_rules.specs.declared.types.Kind.TheVariants as kind
use Rattle.name_rules.specs.declared.types.Scalar.{Scalar}
use Rattle.name_rules.specs.declared.types.Subtype.{Subtype}
use Rattle.name_rules.specs.declared.types.Subtype.TheVariants as subtype
use Rattle.name_laws.proofs.Makes.{Each, Makes, Maybe, each-turned, m-bind, m-fault, m-given, m-if, m-some, m-test}
use Rattle.name_laws.proofs.Statics.{same-base, same-kept, nat-same}
use Rattle.name_laws.specs.Based.{HasBased, IsRange}
use Rattle.name_laws.proofs.Based.{kept-twice, plain-kept}
use Rattle.ada_base.specs.Operation.{modulus}
use Rattle.ada_base.specs.declared.operation.Base.TheVariants.{Modulo}
use Rattle.ada_base.proofs.Turning.{turned_twice}
use Rattle.std.proofs.lemmas.Bool.{and_parts}
use Rattle.name_laws.specs.Classes.{CompositeFits, ExprFits, exponent, HasValue, IsTyped, PiecesFit, SelectionsFit, ValueFits}

-- ---- what is asked of what is found

-- a universal expression fits once it takes a type
abbrev pub IsOpen : Limits → TypedExpr → Type 0
IsOpen l e = (k : Kind) → is_integer k ≡ true → beyond k l e ≡ None → ExprFits (class_of k) (with_class (class_of k) e)

abbrev pub IsSelection : TypedPart → Type 0
IsSelection p = (ss : Selections) → SelectionsFit ss → SelectionsFit (as_selection p ss)

abbrev pub IsPiece : TypedPart → Type 0
IsPiece p = (ps : Pieces) → PiecesFit ps → PiecesFit (as_piece p ps)

abbrev pub KnownOf : Known → TypedPart → Type 0
KnownOf (known.Universal first z alone) x = Unit {0}
KnownOf (known.Open first l) x = IsOpen l (as_expr x)
KnownOf (known.Static first k z) x = in_base k z ≡ true
KnownOf (known.Object p) x = HasBased p.subtype p.value × Each IsSelection x
KnownOf (known.Scalar first k n) x = ExprFits (class_of k) (as_expr x)
KnownOf (known.Composite first n) x = CompositeFits (as_composite x)
KnownOf (known.Rest first) x = CompositeFits (as_composite x)
KnownOf (known.Text first) x = Each IsPiece x

abbrev pub FoundOf : Found → Type 0
FoundOf f = KnownOf f.known f.part

-- an expression of a type, of any type, a composite, a value
abbrev pub AskedOf : Kind → TypedPart → Type 0
AskedOf k x = ExprFits (class_of k) (as_expr x)

abbrev pub ExprOf : TypedPart → Type 0
ExprOf x = (d : Class) × ExprFits d (as_expr x)

abbrev pub CompositeOf : TypedPart → Type 0
CompositeOf x = CompositeFits (as_composite x)

abbrev pub ValueOf : TypedPart → Type 0
ValueOf x = ValueFits (as_value x)

abbrev pub SpanOf : Scalar → Type 0
SpanOf s = IsRange s.kind (kept s.kind s.low) (kept s.kind s.high)

-- ---- classes

pub has-value : (k : Kind) (z : ℤ) → in_base k z ≡ true → HasValue (class_of k) (kept k z)
has-value kind.Boolean z h = h
has-value kind.Integer z h = h
has-value (kind.Own n) z h = h
has-value (kind.Modular n k) z h = ap (λ w. int_le (pos 0) w && int_le w (pos (modulus k - 1))) (turned_twice z) ∙ h

-- the same of what a cell keeps, and of a type that isn't modular
pub has-kept : (k : Kind) (z : ℤ) → in_base k (kept k z) ≡ true → HasValue (class_of k) z
has-kept k z h = subst (HasValue (class_of k)) (kept-twice k z) (has-value k (kept k z) h)

pub has-plain : (k : Kind) (z : ℤ) → is_modular k ≡ false → in_base k z ≡ true → HasValue (class_of k) z
has-plain k z e h = subst (HasValue (class_of k)) (plain-kept k z e) (has-value k z h)

pub is-typed : (k : Kind) → IsTyped (class_of k)
is-typed kind.Boolean = tt
is-typed kind.Integer = tt
is-typed (kind.Own n) = tt
is-typed (kind.Modular n k) = tt

pub same-class : (j k : Kind) → same j k ≡ true → class_of j ≡ class_of k
same-class kind.Boolean kind.Boolean e = refl
same-class kind.Boolean kind.Integer e = absurd cc
same-class kind.Boolean (kind.Own n) e = absurd cc
same-class kind.Integer kind.Boolean e = absurd cc
same-class kind.Integer kind.Integer e = refl
same-class kind.Integer (kind.Own n) e = absurd cc
same-class (kind.Own m) kind.Boolean e = absurd cc
same-class (kind.Own m) kind.Integer e = absurd cc
same-class (kind.Own m) (kind.Own n) e = refl
same-class kind.Boolean (kind.Modular n k) e = absurd cc
same-class kind.Integer (kind.Modular n k) e = absurd cc
same-class (kind.Own m) (kind.Modular n k) e = absurd cc
same-class (kind.Modular m j) kind.Boolean e = absurd cc
same-class (kind.Modular m j) kind.Integer e = absurd cc
same-class (kind.Modular m j) (kind.Own n) e = absurd cc
same-class (kind.Modular m j) (kind.Modular n k) e = ap (λ i. class.Integer (Modulo i)) (nat-same j k (and_parts (m == n) (j == k) e).1)

class-same : (c d : Class) → IsTyped d → class_or c d ≡ d
class-same c class.Boolean h = refl
class-same c (class.Integer b) h = refl
class-same c class.Universal h = absurd h

-- what has its types takes no other
pub with-same : (c d : Class) (e : TypedExpr) → ExprFits d e → with_class c e ≡ e
with-same c d (typed.Group e) h = ap typed.Group (with-same c d e h)
with-same c d (typed.Unary at s b e) h = ap (λ i. typed.Unary at s i (with_class c e)) (class-same c b h.0) ∙ ap (typed.Unary at s b) (with-same c b e h.1)
with-same c d (typed.Binary at o b l r) h =
    ap (λ i. typed.Binary at o i (with_class c l) (with_class c r)) (class-same c b h.0)
    ∙ ap (λ x. typed.Binary at o b x (with_class c r)) (with-same c b l h.1) ∙ ap (typed.Binary at o b l) (right (with-same c b r) (with-same c exponent r) h.2)
  where
    right : (ExprFits b r → with_class c r ≡ r) → (ExprFits exponent r → with_class c r ≡ r) → ExprFits b r ⊎ ((o ≡ op.Pow) × ExprFits exponent r) → with_class c r ≡ r
    right f g (inl k) = f k
    right f g (inr k) = g k.1
with-same c d (typed.If x v o) h = ap (λ i. typed.If x i (with_class c o)) (with-same c d v h.1) ∙ ap (typed.If x v) (with-same c d o h.2)
with-same c d (typed.Reduction at a (reducer'.Operator n o b) initial site chunk iteration v) h =
    ap (λ i. typed.Reduction at a (reducer'.Operator n o i) (with_class c initial) site chunk iteration (with_class c v)) (class-same c b h.0)
    ∙ ap (λ i. typed.Reduction at a (reducer'.Operator n o b) i site chunk iteration (with_class c v)) (with-same c b initial h.1)
    ∙ ap (typed.Reduction at a (reducer'.Operator n o b) initial site chunk iteration) (with-same c b v h.4)
with-same c d (typed.Reduction at a (reducer'.Function n s t u) initial site chunk iteration v) h = refl
with-same c d (typed.Static at z alone ms) h = refl
with-same c d (typed.Variable at root ss s) h = refl
with-same c d (typed.Constant at root ss s) h = refl
with-same c d (typed.Parameter at n) h = refl
with-same c d (typed.Target at s) h = refl
with-same c d (typed.AndThen x y) h = refl
with-same c d (typed.OrElse x y) h = refl
with-same c d (typed.Relation b by x y) h = refl
with-same c d (typed.Membership b negated x low high) h = refl
with-same c d (typed.Call at callee n as') h = refl
with-same c d (typed.Convert check e) h = refl

-- ---- lists that grow

selections-list : (x : TypedPart) → Each IsSelection x → SelectionsFit (as_selections x)
selections-list (Cons p q) h = h.0 (as_selections q) (selections-list q h.1)
selections-list x h = tt

pub selections-fit : (x : TypedPart) → Each IsSelection x → SelectionsFit (selections_of x)
selections-fit x h = selections-list (turned x) (each-turned IsSelection x h)

pieces-list : (x : TypedPart) → Each IsPiece x → PiecesFit (as_pieces x)
pieces-list (Cons p q) h = h.0 (as_pieces q) (pieces-list q h.1)
pieces-list x h = tt

pub pieces-fit : (x : TypedPart) → Each IsPiece x → PiecesFit (as_pieces (turned x))
pieces-fit x h = pieces-list (turned x) (each-turned IsPiece x h)

-- ---- an expression whose place asks for a type

m-valued : (k : Kind) (first : ℕ) (z : ℤ) (alone : Bool) (x : TypedPart) → Makes (Maybe (AskedOf k)) (valued k first z alone x)
unfolding valued
m-valued k first z alone x = m-test (Maybe (AskedOf k)) (in_base k z) (some (literal first (kept k z) alone x)) (fault first StaticRange) (λ e. m-some (AskedOf k) (literal first (kept k z) alone x) (has-value k z e)) (m-fault (AskedOf k) first StaticRange)

m-settled_by : (k : Kind) (e : TypedExpr) (at : Option ℕ) → (at ≡ None → ExprFits (class_of k) (with_class (class_of k) e)) → Makes (Maybe (AskedOf k)) (settled_by k e at)
m-settled_by k e None h = m-some (AskedOf k) (part.AnExpr (with_class (class_of k) e)) (h refl)
m-settled_by k e (Some at) h = m-fault (AskedOf k) at StaticRange

m-settled : (k : Kind) (l : Limits) (e : TypedExpr) → is_integer k ≡ true → IsOpen l e → Makes (Maybe (AskedOf k)) (settled k l e)
unfolding settled
m-settled k l e i h = m-settled_by k e (beyond k l e) (h k i)

m-object_value : (k : Kind) (p : ObjectName) (ss : Selections) (s : Scalar) (v : Option ℤ) → SelectionsFit ss → Makes (Maybe (AskedOf k)) (object_value k p ss s v)
m-object_value k p ss s (Some z) h = m-valued k p.first z false part.Nothing
m-object_value k p ss s None h = m-some (AskedOf k) (part.AnExpr (object_expr p ss s p.variable)) (by p.variable)
  where
    by : (b : Bool) → ExprFits (class_of k) (object_expr p ss s b)
    by true = h
    by false = h

m-place_asked : (k : Kind) (p : ObjectName) (x : TypedPart) (s : Subtype) → Each IsSelection x → Makes (Maybe (AskedOf k)) (place_asked k p (selections_of x) s)
m-place_asked k p x (subtype.Scalar s) i =
    m-if (Maybe (AskedOf k)) (same s.kind k) (object_value k p (selections_of x) s p.value) (fault p.first WrongType)
    (m-object_value k p (selections_of x) s p.value (selections-fit x i)) (m-fault (AskedOf k) p.first WrongType)
m-place_asked k p x (subtype.Composite n) i = m-fault (AskedOf k) p.first WrongType

m-asked_form : (k : Kind) (f : Known) (x : TypedPart) → KnownOf f x → Makes (Maybe (AskedOf k)) (asked_form k f x)
m-asked_form k (known.Universal first z alone) x h = m-if (Maybe (AskedOf k)) (is_integer k) (valued k first z alone x) (fault first WrongType) (m-valued k first z alone x) (m-fault (AskedOf k) first WrongType)
m-asked_form k (known.Open first l) x h = m-test (Maybe (AskedOf k)) (is_integer k) (settled k l (as_expr x)) (fault first WrongType) (λ i. m-settled k l (as_expr x) i h) (m-fault (AskedOf k) first WrongType)
m-asked_form k (known.Static first j z) x h =
    m-if (Maybe (AskedOf k)) (same j k) (valued k first z false x) (fault first WrongType) (m-valued k first z false x) (m-fault (AskedOf k) first WrongType)
m-asked_form k (known.Object p) x h = m-place_asked k p x p.subtype h.1
m-asked_form k (known.Scalar first j n) x h =
    m-test (Maybe (AskedOf k)) (same j k) (some x) (fault first WrongType) (λ q. m-some (AskedOf k) x (subst (λ c. ExprFits c (as_expr x)) (same-class j k q) h)) (m-fault (AskedOf k) first WrongType)
m-asked_form k f x h = m-fault (AskedOf k) (first_of f) WrongType

pub m-asked : (k : Kind) (f : Found) → FoundOf f → Makes (Maybe (AskedOf k)) (asked k f)
unfolding asked
m-asked k f h = m-asked_form k f.known f.part h

pub some-expr : (k : Kind) (x : Option TypedPart) → Maybe (AskedOf k) x → Maybe ExprOf x
some-expr k None h = tt
some-expr k (Some x) h = (class_of k, h)

pub m-settled_found : (f : Found) → FoundOf f → Makes (Maybe ExprOf) (settled_found f)
unfolding settled_found
m-settled_found f h = record { at = λ log g. let m = (m-asked (own_kind f.known) f h).at log g in (m.0, some-expr (own_kind f.known) (asked (own_kind f.known) f log).0 m.1) }

pub m-any_integer : (f : Found) → FoundOf f → Makes (Maybe ExprOf) (any_integer f)
unfolding any_integer
m-any_integer f h = m-if (Maybe ExprOf) (is_number f.known && not (is_word_kind (kind_of f.known))) (settled_found f) (fault (first_of f.known) WrongType) (m-settled_found f h) (m-fault ExprOf (first_of f.known) WrongType)

pub m-any_scalar : (f : Found) → FoundOf f → Makes (Maybe ExprOf) (any_scalar f)
unfolding any_scalar
m-any_scalar f h = m-if (Maybe ExprOf) (is_scalar f.known) (settled_found f) (fault (first_of f.known) WrongType) (m-settled_found f h) (m-fault ExprOf (first_of f.known) WrongType)

-- ---- what is stored

m-whole_of : (n : ℕ) (p : ObjectName) (ss : Selections) (s : Subtype) → SelectionsFit ss → Makes (Maybe CompositeOf) (whole_of n p ss s)
m-whole_of n p ss (subtype.Scalar s) h = m-fault CompositeOf p.first WrongType
m-whole_of n p ss (subtype.Composite m) h =
    m-if (Maybe CompositeOf) (n == m) (some (part.AComposite (whole_object p ss m p.variable))) (fault p.first WrongType)
    (m-some CompositeOf (part.AComposite (whole_object p ss m p.variable)) (by p.variable)) (m-fault CompositeOf p.first WrongType)
  where
    by : (b : Bool) → CompositeFits (whole_object p ss m b)
    by true = h
    by false = h

m-composite_form : (n : ℕ) (f : Known) (x : TypedPart) → KnownOf f x → Makes (Maybe CompositeOf) (composite_form n f x)
m-composite_form n (known.Composite first m) x h = m-if (Maybe CompositeOf) (n == m) (some x) (fault first WrongType) (m-some CompositeOf x h) (m-fault CompositeOf first WrongType)
m-composite_form n (known.Object p) x h = m-whole_of n p (selections_of x) p.subtype (selections-fit x h.1)
m-composite_form n f x h = m-fault CompositeOf (first_of f) WrongType

pub m-composite_asked : (n : ℕ) (f : Found) → FoundOf f → Makes (Maybe CompositeOf) (composite_asked n f)
unfolding composite_asked
m-composite_asked n f h = m-composite_form n f.known f.part h

pub m-stored : (s : Subtype) (at : ℕ) (f : Found) → FoundOf f → Makes (Maybe ValueOf) (stored s at f)
unfolding stored
m-stored (subtype.Scalar s) at f h =
    m-bind (Maybe (AskedOf s.kind)) (Maybe ValueOf) (asked s.kind f) _ (m-asked s.kind f h)
    (λ e q. m-given (AskedOf s.kind) ValueOf e _ q (λ x r. m-some ValueOf (part.AValue (typed.Number (check_at at s) (as_expr x))) r))
m-stored (subtype.Composite n) at f h =
    m-bind (Maybe CompositeOf) (Maybe ValueOf) (composite_asked n f) _ (m-composite_asked n f h)
    (λ c q. m-given CompositeOf ValueOf c _ q (λ x r. m-some ValueOf (part.AValue (typed.Cells (as_composite x))) r))
