-- What is judged without a fault is found: values.
use Rattle.std.proofs.Common.{◌≡◌, ℕ, ℤ, Option, Some, None, Bool, true, ◌==◌, ◌&&◌, not, false}
use Rattle.typed_tree.specs.Decoded.{TypedPart, as_expr}
use Rattle.typed_tree.specs.Decoded as part
use Rattle.typed_tree.specs.Syntax.{Expr, Selections}
use Rattle.typed_tree.specs.Syntax as typed
use Rattle.name_rules.specs.Found.{Found}
use Rattle.name_rules.specs.Judging.{unless}
use Rattle.name_rules.specs.TypedParts.{selections_of}
use Rattle.name_rules.specs.Types.{check_at, in_base, is_integer, same}
use Rattle.name_rules.specs.Values as v
use Rattle.name_rules.specs.declared.found.Found.TheVariants as known
use Rattle.name_rules.specs.declared.found.Found.{Found as Known}
use Rattle.name_rules.specs.declared.found.Limits.{Limits}
use Rattle.name_rules.specs.declared.found.ObjectName.{ObjectName}
use Rattle.name_rules.specs.declared.log.Rule.TheVariants.{StaticRange, WrongType, NotStatic}
use Rattle.name_rules.specs.declared.types.Kind.{Kind}
use Rattle.name_rules.specs.declared.types.Subtype.TheVariants as subtype
use Rattle.name_rules.specs.declared.types.Subtype.{Subtype}
use Rattle.name_complete.proofs.Explains.{Any, Is, Sound, ok, no, s-bind, s-given, s-if, s-pure, s-unless}
use Rattle.name_rules.specs.declared.types.Scalar.{Scalar}

pub s-valued : (G : Type 0) (k : Kind) (first : ℕ) (z : ℤ) (b : Bool) (ms : TypedPart) → Sound G (Is Any) (v.valued k first z b ms)
unfolding v.valued
s-valued G k first z b ms = s-if G (Is Any) (in_base k z) _ _ (ok G _) (no G first StaticRange)

pub s-fitting : (G : Type 0) (k : Kind) (first : ℕ) (z : ℤ) → Sound G (λ b. b ≡ true) (v.fitting k first z)
unfolding v.fitting
s-fitting G k first z = s-bind G (λ u. in_base k z ≡ true) (λ b. b ≡ true) (unless (in_base k z) first StaticRange) _ (s-unless G (in_base k z) first StaticRange) (λ u. s-pure _ (λ b. b ≡ true) (in_base k z) (λ g. g.1))

s-settled_by : (G : Type 0) (k : Kind) (e : Expr) (at : Option ℕ) → Sound G (Is Any) (v.settled_by k e at)
s-settled_by G k e None = ok G _
s-settled_by G k e (Some at) = no G at StaticRange

s-settled : (G : Type 0) (k : Kind) (l : Limits) (e : Expr) → Sound G (Is Any) (v.settled k l e)
unfolding v.settled
s-settled G k l e = s-settled_by G k e (v.beyond k l e)

s-object_value : (G : Type 0) (k : Kind) (p : ObjectName) (ss : Selections) (s : Scalar) (z : Option ℤ) → Sound G (Is Any) (v.object_value k p ss s z)
s-object_value G k p ss s (Some z) = s-valued G k p.first z false part.Nothing
s-object_value G k p ss s None = ok G _

s-place_asked : (G : Type 0) (k : Kind) (p : ObjectName) (ss : Selections) (s : Subtype) → Sound G (Is Any) (v.place_asked k p ss s)
s-place_asked G k p ss (subtype.Scalar s) = s-if G (Is Any) (same s.kind k) _ _ (s-object_value G k p ss s p.value) (no G p.first WrongType)
s-place_asked G k p ss (subtype.Composite n) = no G p.first WrongType

s-asked_form : (G : Type 0) (k : Kind) (f : Known) (x : TypedPart) → Sound G (Is Any) (v.asked_form k f x)
s-asked_form G k (known.Universal first z alone) x = s-if G (Is Any) (is_integer k) _ _ (s-valued G k first z alone x) (no G first WrongType)
s-asked_form G k (known.Open first l) x = s-if G (Is Any) (is_integer k) _ _ (s-settled G k l (as_expr x)) (no G first WrongType)
s-asked_form G k (known.Static first j z) x = s-if G (Is Any) (same j k) _ _ (s-valued G k first z false x) (no G first WrongType)
s-asked_form G k (known.Object p) x = s-place_asked G k p (selections_of x) p.subtype
s-asked_form G k (known.Scalar first j n) x = s-if G (Is Any) (same j k) _ _ (ok G _) (no G first WrongType)
s-asked_form G k (known.Composite first n) x = no G first WrongType
s-asked_form G k (known.Rest first) x = no G first WrongType
s-asked_form G k (known.Text first) x = no G first WrongType

pub s-asked : (G : Type 0) (k : Kind) (f : Found) → Sound G (Is Any) (v.asked k f)
unfolding v.asked
s-asked G k f = s-asked_form G k f.known f.part

pub s-settled_found : (G : Type 0) (f : Found) → Sound G (Is Any) (v.settled_found f)
unfolding v.settled_found
s-settled_found G f = s-asked G (v.own_kind f.known) f

pub s-any_integer : (G : Type 0) (f : Found) → Sound G (Is Any) (v.any_integer f)
unfolding v.any_integer
s-any_integer G f = s-if G (Is Any) (v.is_number f.known && not (v.is_word_kind (v.kind_of f.known))) _ _ (s-settled_found G f) (no G (v.first_of f.known) WrongType)

pub s-any_scalar : (G : Type 0) (f : Found) → Sound G (Is Any) (v.any_scalar f)
unfolding v.any_scalar
s-any_scalar G f = s-if G (Is Any) (v.is_scalar f.known) _ _ (s-settled_found G f) (no G (v.first_of f.known) WrongType)

pub s-static_value : (G : Type 0) (first : ℕ) (z : Option ℤ) → Sound G (Is Any) (v.static_value first z)
s-static_value G first None = no G first NotStatic
s-static_value G first (Some z) = ok G z

pub s-static_of_kind : (G : Type 0) (k : Kind) (f : Found) → Sound G (Is Any) (v.static_of_kind k f)
unfolding v.static_of_kind
s-static_of_kind G k f = s-bind G (Is Any) (Is Any) (v.asked k f) _ (s-asked G k f) (λ e. s-given _ Any Any e _ (λ g. g.1) (λ x. s-static_value _ (v.first_of f.known) (v.value_of f.known)))

pub s-static_integer : (G : Type 0) (f : Known) → Sound G (Is Any) (v.static_integer f)
unfolding v.static_integer
s-static_integer G f = s-if G (Is Any) (v.is_number f) _ _ (s-static_value G (v.first_of f) (v.value_of f)) (no G (v.first_of f) WrongType)

s-whole_of : (G : Type 0) (n : ℕ) (p : ObjectName) (ss : Selections) (s : Subtype) → Sound G (Is Any) (v.whole_of n p ss s)
s-whole_of G n p ss (subtype.Scalar s) = no G p.first WrongType
s-whole_of G n p ss (subtype.Composite m) = s-if G (Is Any) (n == m) _ _ (ok G _) (no G p.first WrongType)

s-composite_form : (G : Type 0) (n : ℕ) (f : Known) (x : TypedPart) → Sound G (Is Any) (v.composite_form n f x)
s-composite_form G n (known.Composite first m) x = s-if G (Is Any) (n == m) _ _ (ok G _) (no G first WrongType)
s-composite_form G n (known.Object p) x = s-whole_of G n p (selections_of x) p.subtype
s-composite_form G n (known.Universal first z alone) x = no G first WrongType
s-composite_form G n (known.Open first l) x = no G first WrongType
s-composite_form G n (known.Static first j z) x = no G first WrongType
s-composite_form G n (known.Scalar first j m) x = no G first WrongType
s-composite_form G n (known.Rest first) x = no G first WrongType
s-composite_form G n (known.Text first) x = no G first WrongType

pub s-composite_asked : (G : Type 0) (n : ℕ) (f : Found) → Sound G (Is Any) (v.composite_asked n f)
unfolding v.composite_asked
s-composite_asked G n f = s-composite_form G n f.known f.part

pub s-stored : (G : Type 0) (s : Subtype) (at : ℕ) (f : Found) → Sound G (Is Any) (v.stored s at f)
unfolding v.stored
s-stored G (subtype.Scalar s) at f = s-bind G (Is Any) (Is Any) (v.asked s.kind f) _ (s-asked G s.kind f) (λ e. s-given _ Any Any e _ (λ g. g.1) (λ x. ok _ (part.AValue (typed.Number (check_at at s) (as_expr x)))))
s-stored G (subtype.Composite n) at f = s-bind G (Is Any) (Is Any) (v.composite_asked n f) _ (s-composite_asked G n f) (λ e. s-given _ Any Any e _ (λ g. g.1) (λ x. ok _ (part.AValue (typed.Cells (part.as_composite x)))))
