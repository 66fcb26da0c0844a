-- What is judged without a fault is found: operators.
use Rattle.std.proofs.Common.{◌≡◌, refl, sym, subst, ◌∙◌, ℕ, ℤ, Option, Some, None, Bool, true, false, ◌&&◌}
use Rattle.std.specs.Prelude.{not}
use Rattle.ada_base.specs.declared.operation.Op.{Op}
use Rattle.ada_base.specs.declared.operation.Op.TheVariants as op
use Rattle.typed_tree.specs.Decoded.{TypedPart, as_expr}
use Rattle.typed_tree.specs.Syntax as typed
use Rattle.typed_tree.specs.declared.scalars.Class.TheVariants as class
use Rattle.typed_tree.specs.declared.expressions.Sign.TheVariants as unary'
use Rattle.typed_tree.specs.declared.expressions.Sign.{Sign}
use Rattle.ada_base.specs.declared.operation.Comparison.{Comparison}
use Rattle.name_rules.specs.Found.{Found, scalar}
use Rattle.name_rules.specs.Operators as o
use Rattle.name_rules.specs.Types.{class_of, in_base, same, is_modular}
use Rattle.name_rules.specs.Values.{asked, exact, first_of, fitting, is_integer_kind, is_number, is_scalar, kind_of, kind_in, place_scalar, suits, value_of}
use Rattle.name_rules.specs.declared.found.Found.TheVariants as known
use Rattle.name_rules.specs.declared.found.Found.{Found as Known}
use Rattle.name_rules.specs.declared.log.Rule.TheVariants.{StaticRange, WrongType}
use Rattle.name_rules.specs.declared.types.Kind.{Kind}
use Rattle.name_rules.specs.declared.types.Kind.TheVariants as kind
use Rattle.name_rules.specs.declared.types.Scalar.{Scalar}
use Rattle.name_rules.specs.declared.types.Wanted.TheVariants as wanted
use Rattle.name_complete.proofs.Explains.{Any, Is, Sound, differ, joint, mapped, s-bind, s-both, s-fault, s-given, s-if, s-pure, s-some, s-test}
use Rattle.name_complete.proofs.Facts.{FoundFor, FoundOk}
use Rattle.name_complete.proofs.SoundValues.{s-asked, s-fitting}

-- a number without a type is universal, and waits for one
open-form : (f : Known) (x : TypedPart) → is_number f ≡ true → kind_of f ≡ None → Is Any (o.open_form f x)
open-form (known.Universal first z alone) x h e = tt
open-form (known.Open first l) x h e = tt
open-form (known.Static first k z) x h e = absurd cc
open-form (known.Object p) x h e = differ (sym h ∙ number e)
  where
    number : kind_in (place_scalar p.subtype) ≡ None → is_integer_kind (kind_in (place_scalar p.subtype)) ≡ false
    number d = subst (λ k. is_integer_kind k ≡ false) (sym d) refl
open-form (known.Scalar first k n) x h e = absurd cc
open-form (known.Composite first n) x h e = differ (sym h)
open-form (known.Rest first) x h e = differ (sym h)
open-form (known.Text first) x h e = differ (sym h)

pub open-there : (f : Found) → is_number f.known ≡ true → kind_of f.known ≡ None → Is Any (o.open_of f)
unfolding o.open_of
open-there f h e = open-form f.known f.part h e

-- and of two that are true
pub first-true : (a b : Bool) → (a && b) ≡ true → a ≡ true
first-true true b e = refl
first-true false b e = differ (sym e)

pub second-true : (a b : Bool) → (a && b) ≡ true → b ≡ true
second-true true b e = e
second-true false b e = differ (sym e)

-- ---- static results

pub s-static_of : (G : Type 0) (first : ℕ) (k : Kind) (ms : TypedPart) (z : Option ℤ) → Sound G (Is FoundOk) (o.static_of first k ms z)
unfolding o.static_of
s-static_of G first k ms None = s-fault G (Is FoundOk) first StaticRange
s-static_of G first k ms (Some z) = s-if G (Is FoundOk) (in_base k z) _ _ (s-some G FoundOk _ (λ g. tt)) (s-fault G (Is FoundOk) first StaticRange)

pub s-static_universal : (G : Type 0) (first : ℕ) (ms : TypedPart) (z : Option ℤ) → Sound G (Is FoundOk) (o.static_universal first ms z)
unfolding o.static_universal
s-static_universal G first ms None = s-fault G (Is FoundOk) first StaticRange
s-static_universal G first ms (Some z) = s-some G FoundOk _ (λ g. tt)

-- ---- binary operators

s-static_operation : (G : Type 0) (p : Op) (k j : Kind) (a : Found) (u : ℤ) (b : Found) (v : ℤ) → Sound G (Is FoundOk) (o.static_operation p k j a u b v)
unfolding o.static_operation
s-static_operation G p k j a u b v =
    s-bind G (λ x. x ≡ true) (Is FoundOk) (fitting k (first_of a.known) u) _ (s-fitting G k (first_of a.known) u) (λ x.
    s-bind _ (λ y. y ≡ true) (Is FoundOk) (fitting j (first_of b.known) v) _ (s-fitting _ j (first_of b.known) v) (λ y.
    s-test _ (Is FoundOk) (x && y) _ _ (s-static_of _ (first_of a.known) k (o.both_mentions a b) (exact p u v)) (s-pure _ (Is FoundOk) None (λ g. differ (both x y g.0.0.1 g.0.1 ∙ g.1)))))
  where
    both : (x y : Bool) → x ≡ true → y ≡ true → true ≡ (x && y)
    both true y e f = sym f
    both false y e f = differ (sym e)

s-operation_on : (G : Type 0) (p : Op) (at : ℕ) (k j : Kind) (a b : Found) → Sound G (Is FoundOk) (o.operation_on p at k j a b)
unfolding o.operation_on
s-operation_on G p at k j a b =
    s-bind G (Is Any) (Is FoundOk) (asked k a) _ (s-asked G k a) (λ x.
    s-bind _ (Is Any) (Is FoundOk) (asked j b) _ (s-asked _ j b) (λ y.
    s-both _ Any Any FoundOk x y _ (λ g. g.0.1) (λ g. g.1) (λ m n. s-some _ FoundOk (scalar (first_of a.known) k None (typed.Binary at p (class_of k) (as_expr m) (as_expr n))) (λ g. tt))))

s-operation_by : (G : Type 0) (p : Op) (at : ℕ) (k j : Kind) (a b : Found) (u v : Option ℤ) → Sound G (Is FoundOk) (o.operation_by p at k j a b u v)
s-operation_by G p at k j a b (Some u) (Some v) = s-static_operation G p k j a u b v
s-operation_by G p at k j a b (Some u) None = s-operation_on G p at k j a b
s-operation_by G p at k j a b None v = s-operation_on G p at k j a b

s-typed_operation : (G : Type 0) (p : Op) (at : ℕ) (k j : Kind) (a b : Found) → Sound G (Is FoundOk) (o.typed_operation p at k j a b)
unfolding o.typed_operation
s-typed_operation G p at k j a b = s-operation_by G p at k j a b (value_of a.known) (value_of b.known)

open-binary : (p : Op) (at : ℕ) (a b : Found) → Is Any (o.open_of a) → Is Any (o.open_of b) → Is FoundOk (o.open_binary p at a b)
unfolding o.open_binary
open-binary p at a b h k = joint Any Any FoundOk (o.open_two p at (first_of a.known)) (o.open_of a) (o.open_of b) h k (λ x y i j. tt)

s-universal_by : (G : Type 0) (p : Op) (at : ℕ) (a b : Found) (u v : Option ℤ) → (G → Is Any (o.open_of a)) → (G → Is Any (o.open_of b)) → Sound G (Is FoundOk) (o.universal_by p at a b u v)
s-universal_by G p at a b (Some u) (Some v) h k = s-static_universal G (first_of a.known) (o.both_mentions a b) (exact p u v)
s-universal_by G p at a b (Some u) None h k = s-pure G (Is FoundOk) (o.open_binary p at a b) (λ g. open-binary p at a b (h g) (k g))
s-universal_by G p at a b None v h k = s-pure G (Is FoundOk) (o.open_binary p at a b) (λ g. open-binary p at a b (h g) (k g))

s-universal_operation : (G : Type 0) (p : Op) (at : ℕ) (a b : Found) → (G → Is Any (o.open_of a)) → (G → Is Any (o.open_of b)) → Sound G (Is FoundOk) (o.universal_operation p at a b)
unfolding o.universal_operation
s-universal_operation G p at a b h k = s-universal_by G p at a b (value_of a.known) (value_of b.known) h k

s-by_kinds : (G : Type 0) (p : Op) (at : ℕ) (a b : Found) (j k : Option Kind) → kind_of a.known ≡ j → kind_of b.known ≡ k → (G → is_number a.known ≡ true) → (G → is_number b.known ≡ true)
    → Sound G (Is FoundOk) (o.by_kinds p at a b j k)
s-by_kinds G p at a b None None e f h i = s-universal_operation G p at a b (λ g. open-there a (h g) e) (λ g. open-there b (i g) f)
s-by_kinds G p at a b None (Some k) e f h i = s-typed_operation G p at k k a b
s-by_kinds G p at a b (Some k) None e f h i = s-typed_operation G p at k k a b
s-by_kinds G p at a b (Some j) (Some k) e f h i = s-if G (Is FoundOk) (same j k) _ _ (s-typed_operation G p at k k a b) (s-fault G (Is FoundOk) at WrongType)

s-operation : (G : Type 0) (p : Op) (at : ℕ) (a b : Found) → Sound G (Is FoundOk) (o.operation p at a b)
unfolding o.operation
s-operation G p at a b =
    s-test G (Is FoundOk) (is_number a.known && is_number b.known) _ _
    (s-by_kinds _ p at a b (kind_of a.known) (kind_of b.known) refl refl (λ g. first-true (is_number a.known) (is_number b.known) g.1) (λ g. second-true (is_number a.known) (is_number b.known) g.1))
    (s-fault _ (Is FoundOk) (o.operand_blamed a.known at) WrongType)

pub s-binary : (G : Type 0) (p : Op) (at : ℕ) (x y : Option Found) → (G → Is Any x) → (G → Is Any y) → Sound G (Is FoundOk) (o.binary p at x y)
unfolding o.binary
s-binary G p at x y h k = s-both G Any Any FoundOk x y _ h k (λ a b. s-operation _ p at a b)

-- ---- powers

s-universal_power : (G : Type 0) (at : ℕ) (a b : Found) → (G → Is Any (o.open_of a)) → Sound G (Is FoundOk) (o.universal_power at a b)
unfolding o.universal_power
s-universal_power G at a b h =
    s-bind G (Is Any) (Is FoundOk) (asked kind.Integer b) _ (s-asked G kind.Integer b) (λ y.
    s-given _ Any FoundOk y _ (λ g. g.1) (λ n. s-pure _ (Is FoundOk) _ (λ g. mapped Any FoundOk (o.open_power at (first_of a.known) n) (o.open_of a) (h g.0.0) (λ x i. tt))))

s-static_power : (G : Type 0) (a : Found) (u : ℤ) (b : Found) (v : ℤ) → Sound G (Is FoundOk) (o.static_power a u b v)
unfolding o.static_power
s-static_power G a u b v =
    s-bind G (λ y. y ≡ true) (Is FoundOk) (fitting kind.Integer (first_of b.known) v) _ (s-fitting G kind.Integer (first_of b.known) v) (λ y.
    s-test _ (Is FoundOk) y _ _ (s-static_universal _ (first_of a.known) (o.both_mentions a b) (exact op.Pow u v)) (s-pure _ (Is FoundOk) None (λ g. differ (sym g.0.1 ∙ g.1))))

s-universal_to : (G : Type 0) (at : ℕ) (a b : Found) (u v : Option ℤ) → (G → Is Any (o.open_of a)) → Sound G (Is FoundOk) (o.universal_to at a b u v)
s-universal_to G at a b (Some u) (Some v) h = s-static_power G a u b v
s-universal_to G at a b (Some u) None h = s-universal_power G at a b h
s-universal_to G at a b None v h = s-universal_power G at a b h

s-power_to : (G : Type 0) (at : ℕ) (a b : Found) (k : Option Kind) → kind_of a.known ≡ k → (G → is_number a.known ≡ true) → Sound G (Is FoundOk) (o.power_to at a b k)
s-power_to G at a b (Some k) e h = s-typed_operation G op.Pow at k kind.Integer a b
s-power_to G at a b None e h = s-universal_to G at a b (value_of a.known) (value_of b.known) (λ g. open-there a (h g) e)

pub s-power : (G : Type 0) (at : ℕ) (x y : Option Found) → (G → Is Any x) → (G → Is Any y) → Sound G (Is FoundOk) (o.power at x y)
unfolding o.power
s-power G at x y h k = s-both G Any Any FoundOk x y _ h k (λ a b.
    s-test _ (Is FoundOk) (is_number a.known && suits kind.Integer b.known) _ _
    (s-power_to _ at a b (kind_of a.known) refl (λ g. first-true (is_number a.known) (suits kind.Integer b.known) g.1)) (s-fault _ (Is FoundOk) at WrongType))

-- ---- unary operators

s-static_unary : (G : Type 0) (s : Sign) (at : ℕ) (k : Kind) (a : Found) (z : ℤ) → Sound G (Is FoundOk) (o.static_unary s at k a z)
s-static_unary G s at k a z =
    s-bind G (λ x. x ≡ true) (Is FoundOk) (fitting k (first_of a.known) z) _ (s-fitting G k (first_of a.known) z) (λ x.
    s-test _ (Is FoundOk) x _ _ (s-static_of _ at k a.part (o.signed s z)) (s-pure _ (Is FoundOk) None (λ g. differ (sym g.0.1 ∙ g.1))))

s-unary_typed : (G : Type 0) (s : Sign) (at : ℕ) (k : Kind) (a : Found) (z : Option ℤ) → Sound G (Is FoundOk) (o.unary_typed s at k a z)
s-unary_typed G s at k a (Some z) = s-static_unary G s at k a z
s-unary_typed G s at k a None = s-bind G (Is Any) (Is FoundOk) (asked k a) _ (s-asked G k a) (λ x. s-given _ Any FoundOk x _ (λ g. g.1) (λ n. s-some _ FoundOk (scalar at k None (typed.Unary at s (class_of k) (as_expr n))) (λ g. tt)))

s-unary_open : (G : Type 0) (s : Sign) (at : ℕ) (a : Found) (z : Option ℤ) → (G → Is Any (o.open_of a)) → Sound G (Is FoundOk) (o.unary_open s at a z)
s-unary_open G s at a (Some z) h = s-static_universal G at a.part (o.signed s z)
s-unary_open G s at a None h = s-pure G (Is FoundOk) _ (λ g. mapped Any FoundOk (o.open_unary s at) (o.open_of a) (h g) (λ x i. tt))

s-unary_by : (G : Type 0) (s : Sign) (at : ℕ) (a : Found) (k : Option Kind) → kind_of a.known ≡ k → (G → is_number a.known ≡ true) → Sound G (Is FoundOk) (o.unary_by s at a k)
s-unary_by G s at a (Some k) e h = s-unary_typed G s at k a (value_of a.known)
s-unary_by G s at a None e h = s-unary_open G s at a (value_of a.known) (λ g. open-there a (h g) e)

pub s-unary : (G : Type 0) (s : Sign) (at : ℕ) (x : Option Found) → (G → Is Any x) → Sound G (Is FoundOk) (o.unary s at x)
unfolding o.unary
s-unary G s at x h = s-given G Any FoundOk x _ h (λ a. s-test _ (Is FoundOk) (is_number a.known) _ _ (s-unary_by _ s at a (kind_of a.known) refl (λ g. g.1)) (s-fault _ (Is FoundOk) at WrongType))

s-plain_typed : (G : Type 0) (at : ℕ) (k : Kind) (a : Found) (z : Option ℤ) → Sound G (Is FoundOk) (o.plain_typed at k a z)
s-plain_typed G at k a (Some z) = s-static_of G at k a.part (Some z)
s-plain_typed G at k a None = s-bind G (Is Any) (Is FoundOk) (asked k a) _ (s-asked G k a) (λ x. s-given _ Any FoundOk x _ (λ g. g.1) (λ n. s-some _ FoundOk (scalar at k None (typed.Group (as_expr n))) (λ g. tt)))

s-plain_open : (G : Type 0) (at : ℕ) (a : Found) (z : Option ℤ) → (G → Is Any (o.open_of a)) → Sound G (Is FoundOk) (o.plain_open at a z)
s-plain_open G at a (Some z) h = s-some G FoundOk _ (λ g. tt)
s-plain_open G at a None h = s-pure G (Is FoundOk) _ (λ g. mapped Any FoundOk _ (o.open_of a) (h g) (λ x i. tt))

s-plain_by : (G : Type 0) (at : ℕ) (a : Found) (k : Option Kind) → kind_of a.known ≡ k → (G → is_number a.known ≡ true) → Sound G (Is FoundOk) (o.plain_by at a k)
s-plain_by G at a (Some k) e h = s-plain_typed G at k a (value_of a.known)
s-plain_by G at a None e h = s-plain_open G at a (value_of a.known) (λ g. open-there a (h g) e)

pub s-plain : (G : Type 0) (at : ℕ) (x : Option Found) → (G → Is Any x) → Sound G (Is FoundOk) (o.plain at x)
unfolding o.plain
s-plain G at x h = s-given G Any FoundOk x _ h (λ a. s-test _ (Is FoundOk) (is_number a.known) _ _ (s-plain_by _ at a (kind_of a.known) refl (λ g. g.1)) (s-fault _ (Is FoundOk) at WrongType))

s-negation : (G : Type 0) (at : ℕ) (a : Found) → Sound G (Is FoundOk) (o.negation at a)
s-negation G at a = s-bind G (Is Any) (Is FoundOk) (asked kind.Boolean a) _ (s-asked G kind.Boolean a) (λ x. s-given _ Any FoundOk x _ (λ g. g.1) (λ n. s-some _ FoundOk (scalar at kind.Boolean None (typed.Unary at unary'.Not class.Boolean (as_expr n))) (λ g. tt)))

s-complement : (G : Type 0) (at : ℕ) (a : Found) (k : Kind) → Sound G (Is FoundOk) (o.complement at a k)
s-complement G at a k = s-bind G (Is Any) (Is FoundOk) (asked k a) _ (s-asked G k a) (λ x. s-given _ Any FoundOk x _ (λ g. g.1) (λ n. s-some _ FoundOk (scalar at k None (typed.Unary at unary'.Not (class_of k) (as_expr n))) (λ g. tt)))

s-not_by : (G : Type 0) (at : ℕ) (a : Found) (k : Option Kind) → Sound G (Is FoundOk) (o.not_by at a k)
s-not_by G at a None = s-fault G (Is FoundOk) at WrongType
s-not_by G at a (Some k) = s-if G (Is FoundOk) (same k kind.Boolean) _ _ (s-negation G at a) (s-if G (Is FoundOk) (is_modular k) _ _ (s-complement G at a k) (s-fault G (Is FoundOk) at WrongType))

pub s-not_of : (G : Type 0) (at : ℕ) (x : Option Found) → (G → Is Any x) → Sound G (Is FoundOk) (o.not_of at x)
unfolding o.not_of
s-not_of G at x h = s-given G Any FoundOk x _ h (λ a. s-not_by _ at a (kind_of a.known))

-- ---- strings, logical operators, relations, membership

s-joined_texts : (G : Type 0) (at : ℕ) (j : Known) (ps : TypedPart) (k : Known) (qs : TypedPart) → Sound G (Is (FoundFor wanted.Text)) (o.joined_texts at j ps k qs)
s-joined_texts G at (known.Text first) ps (known.Text second) qs = s-some G (FoundFor wanted.Text) _ (λ g. tt)
s-joined_texts G at j ps k qs = s-fault G (Is (FoundFor wanted.Text)) at WrongType

pub s-joined_text : (G : Type 0) (at : ℕ) (x y : Option Found) → (G → Is Any x) → (G → Is Any y) → Sound G (Is (FoundFor wanted.Text)) (o.joined_text at x y)
unfolding o.joined_text
s-joined_text G at x y h k = s-both G Any Any (FoundFor wanted.Text) x y _ h k (λ a b. s-joined_texts _ at a.known a.part b.known b.part)

pub s-logical : (G : Type 0) (p : Op) (at : ℕ) (x y : Option Found) → (G → Is Any x) → (G → Is Any y) → Sound G (Is FoundOk) (o.logical p at x y)
unfolding o.logical
s-logical G p at x y h k = s-both G Any Any FoundOk x y _ h k (λ a b.
    let k = o.common_kind (kind_of a.known) (kind_of b.known) in
    s-if _ (Is FoundOk) (o.is_logical_kind k && (suits k a.known && suits k b.known)) _ _ (s-operation_on _ p at k k a b) (s-fault _ (Is FoundOk) at WrongType))

s-compared_at : (G : Type 0) (k : Kind) (c : Comparison) (a b : Found) → Sound G (Is FoundOk) (o.compared_at k c a b)
unfolding o.compared_at
s-compared_at G k c a b =
    s-bind G (Is Any) (Is FoundOk) (asked k a) _ (s-asked G k a) (λ x.
    s-bind _ (Is Any) (Is FoundOk) (asked k b) _ (s-asked _ k b) (λ y.
    s-both _ Any Any FoundOk x y _ (λ g. g.0.1) (λ g. g.1) (λ m n. s-some _ FoundOk (scalar (first_of a.known) kind.Boolean None (typed.Relation (class_of k) c (as_expr m) (as_expr n))) (λ g. tt))))

pub s-compared : (G : Type 0) (c : Comparison) (at : ℕ) (x y : Option Found) → (G → Is Any x) → (G → Is Any y) → Sound G (Is FoundOk) (o.compared c at x y)
unfolding o.compared
s-compared G c at x y h k = s-both G Any Any FoundOk x y _ h k (λ a b.
    let j = o.common_kind (kind_of a.known) (kind_of b.known) in
    s-if _ (Is FoundOk) (suits j a.known && suits j b.known) _ _ (s-compared_at _ j c a b) (s-fault _ (Is FoundOk) at WrongType))

s-within_bounds : (G : Type 0) (at : ℕ) (negated : Bool) (k : Kind) (x low high : Found) → Sound G (Is FoundOk) (o.within_bounds at negated k x low high)
s-within_bounds G at negated k x low high =
    s-if G (Is FoundOk) (not (suits k x.known)) _ _ (s-fault G (Is FoundOk) at WrongType)
    (s-bind G (Is Any) (Is FoundOk) (asked k x) _ (s-asked G k x) (λ e.
    s-bind _ (Is Any) (Is FoundOk) (asked k low) _ (s-asked _ k low) (λ l.
    s-bind _ (Is Any) (Is FoundOk) (asked k high) _ (s-asked _ k high) (λ m.
    s-given _ Any FoundOk e _ (λ g. g.0.0.1) (λ u. s-both _ Any Any FoundOk l m _ (λ g. g.0.0.1) (λ g. g.0.1) (λ v w. s-some _ FoundOk (o.member (first_of x.known) negated k (as_expr u) (as_expr v) (as_expr w)) (λ g. tt)))))))

s-member_of : (G : Type 0) (at : ℕ) (negated : Bool) (a l h : Found) → Sound G (Is FoundOk) (o.member_of at negated a l h)
s-member_of G at negated a l h =
    s-if G (Is FoundOk) (not (is_scalar a.known)) _ _ (s-fault G (Is FoundOk) at WrongType)
    (s-if G (Is FoundOk) (not (is_scalar l.known)) _ _ (s-fault G (Is FoundOk) (first_of l.known) WrongType)
    (s-if G (Is FoundOk) (not (is_scalar h.known)) _ _ (s-fault G (Is FoundOk) (first_of h.known) WrongType)
    (s-within_bounds G at negated (o.common_kind (o.first_kind (kind_of a.known) (kind_of l.known)) (kind_of h.known)) a l h)))

pub s-membership : (G : Type 0) (at : ℕ) (negated : Bool) (x low high : Option Found) → (G → Is Any x) → (G → Is Any low) → (G → Is Any high) → Sound G (Is FoundOk) (o.membership at negated x low high)
unfolding o.membership
s-membership G at negated x low high f h k = s-given G Any FoundOk x _ f (λ a. s-both _ Any Any FoundOk low high _ (λ g. h g.0) (λ g. k g.0) (λ l m. s-member_of _ at negated a l m))

pub s-of_subtype : (G : Type 0) (at : ℕ) (negated : Bool) (mark : ℕ) (x : Option Found) (s : Option Scalar) → (G → Is Any x) → (G → Is Any s) → Sound G (Is FoundOk) (o.of_subtype at negated mark x s)
unfolding o.of_subtype
s-of_subtype G at negated mark x s h k = s-both G Any Any FoundOk x s _ h k (λ a t.
    s-if _ (Is FoundOk) (suits t.kind a.known) _ _
    (s-bind _ (Is Any) (Is FoundOk) (asked t.kind a) _ (s-asked _ t.kind a) (λ e. s-given _ Any FoundOk e _ (λ g. g.1) (λ u. s-some _ FoundOk (o.member (first_of a.known) negated t.kind (as_expr u) (o.limit_of mark t.low) (o.limit_of mark t.high)) (λ g. tt))))
    (s-fault _ (Is FoundOk) at WrongType))
