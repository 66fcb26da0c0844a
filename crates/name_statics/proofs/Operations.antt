-- Operators find the values that they compute (4.5).
use Rattle.ada_base.specs.Operation.{unbounded}
use Rattle.ada_base.specs.declared.operation.Op.TheVariants as op
use Rattle.ada_base.specs.declared.operation.Op.{Op}
use Rattle.typed_tree.specs.declared.expressions.Sign.TheVariants as sign
use Rattle.typed_tree.specs.declared.expressions.Sign.{Sign}
use Rattle.typed_tree.specs.Decoded.{TypedPart, as_expr}
use Rattle.name_rules.specs.Found.{Found, opened, scalar, static, universal}
use Rattle.name_rules.specs.Judging.{Judging, fault, pure, some}
use Rattle.name_rules.specs.Operators.{both_mentions, by_kinds, open_binary, open_of, open_plain, open_power, open_two, open_unary, operand_blamed, operation, operation_by, operation_on, plain, plain_by, plain_open, plain_typed, power, power_to, signed, static_of, static_operation, static_power, static_universal, typed_operation, unary, unary_by, unary_open, unary_typed, universal_by, universal_operation, universal_power, universal_to, complement, not_by, is_logical_kind, logical_by}
use Rattle.name_rules.specs.Types.{class_of, in_base, is_integer, same, kept, is_modular}
use Rattle.name_rules.specs.Values.{asked, asked_form, bounded, exact, first_of, fitting, in_universal, is_number, joint, kind_in, kind_of, literal, object_value, place_asked, place_scalar, suits, value_of, valued}
use Rattle.name_rules.specs.TypedParts.{selections_of}
use Rattle.name_rules.specs.declared.found.Found.TheVariants as known
use Rattle.name_rules.specs.declared.found.Found.{Found as Known}
use Rattle.name_rules.specs.declared.found.Limits.{Limits}
use Rattle.name_rules.specs.declared.found.ObjectName.{ObjectName}
use Rattle.name_rules.specs.declared.log.Rule.TheVariants.{StaticRange, WrongType}
use Rattle.name_rules.specs.declared.types.Kind.TheVariants as kind
use Rattle.name_rules.specs.declared.types.Kind.{Kind}
use Rattle.name_rules.specs.declared.types.Subtype.TheVariants as subtype
use Rattle.name_rules.specs.declared.types.Subtype.{Subtype}
use Rattle.typed_tree.specs.Syntax as typed
use Rattle.typed_tree.specs.Syntax.{Selections, Expr as TypedExpr}
use Rattle.typed_tree.specs.declared.scalars.Class.TheVariants as class
use Rattle.typed_tree.specs.Decoded as part
use Rattle.std.proofs.Common.{◌≡◌, ℕ, ℤ, pos, Option, Some, None, Bool, true, false, true≢false, refl, sym, ap, subst, ◌∙◌, if◌then◌else◌, ◌&&◌}
use Rattle.std.specs.Prelude.{neg_ℤ, not, option_map, unsigned_abs, ◌||◌, is_some}
use Rattle.std.proofs.lemmas.Bool.{and_parts}
use Rattle.typed_tree.specs.Classes.{with_class}
use Rattle.typed_tree.specs.declared.scalars.Class.{Class}
use Rattle.ada_base.specs.declared.operation.Comparison.{Comparison}
use Rattle.name_rules.specs.Operators.{limit_of, binary, common_kind, compared, compared_at, first_kind, joined_text, joined_texts, logical, member, member_of, membership, negation, not_of, of_subtype, within_bounds}
use Rattle.name_rules.specs.Values.{beyond, is_integer_kind, is_kind, is_scalar, is_universal, object_expr, settled, settled_by}
use Rattle.name_rules.specs.Found.{text_found}
use Rattle.name_rules.specs.TypedParts.{also_all}
use Rattle.name_rules.specs.declared.types.Scalar.{Scalar}
use Rattle.name_statics.proofs.Finds.{Bare, Finding, Finds, Is, Maybe, f-both, f-both-of, f-fault, f-given, f-given-of, f-if, f-none, f-pure, f-some, f-then, mapped, paired, Has, IsWith}
use Rattle.name_statics.specs.Law.{static_in}
use Rattle.name_statics.specs.Values.{absolute, computed, opposite, left_value}

-- ---- static results

moved : (v w : Option ℤ) (p : Judging (Option Found)) → v ≡ w → Finds (Finding v) p → Finds (Finding w) p
moved v w p e m = subst (λ z. Finds (Finding z) p) e m

static-is : (first : ℕ) (k : Kind) (z : ℤ) (ms : TypedPart) → Is (Some z) (static first k z ms)
static-is first k z ms = record { value = λ e. refl; bare = refl }

universal-is : (first : ℕ) (z : ℤ) (alone : Bool) (ms : TypedPart) → Is (Some z) (universal first z alone ms)
universal-is first z alone ms = record { value = λ e. refl; bare = refl }

f-static_of : (first : ℕ) (k : Kind) (ms : TypedPart) (v : Option ℤ) → Finds (Finding v) (static_of first k ms v)
unfolding static_of
f-static_of first k ms None = f-fault (Is None) first StaticRange
f-static_of first k ms (Some z) = f-if (Finding (Some z)) (in_base k z) (some (static first k z ms)) (fault first StaticRange) (λ e. f-some (Is (Some z)) (static first k z ms) (static-is first k z ms)) (f-fault (Is (Some z)) first StaticRange)

f-static_universal : (first : ℕ) (ms : TypedPart) (v : Option ℤ) → Finds (Finding v) (static_universal first ms v)
unfolding static_universal
f-static_universal first ms None = f-fault (Is None) first StaticRange
f-static_universal first ms (Some z) = f-some (Is (Some z)) (universal first z false ms) (universal-is first z false ms)

-- a value of more than 128 bits is a fault
f-static_bounded : (first : ℕ) (k : Kind) (ms : TypedPart) (v : Option ℤ) → Finds (Finding v) (static_of first k ms (bounded v))
unfolding static_of
f-static_bounded first k ms None = f-static_of first k ms None
f-static_bounded first k ms (Some z) = by (in_universal z)
  where
    refused : Finds (Finding (Some z)) (static_of first k ms None)
    refused = f-fault (Is (Some z)) first StaticRange

    by : (b : Bool) → Finds (Finding (Some z)) (static_of first k ms (if b then Some z else None))
    by true = f-static_of first k ms (Some z)
    by false = refused

f-universal_bounded : (first : ℕ) (ms : TypedPart) (v : Option ℤ) → Finds (Finding v) (static_universal first ms (bounded v))
unfolding static_universal
f-universal_bounded first ms None = f-static_universal first ms None
f-universal_bounded first ms (Some z) = by (in_universal z)
  where
    refused : Finds (Finding (Some z)) (static_universal first ms None)
    refused = f-fault (Is (Some z)) first StaticRange

    by : (b : Bool) → Finds (Finding (Some z)) (static_universal first ms (if b then Some z else None))
    by true = f-static_universal first ms (Some z)
    by false = refused

f-static_exact : (o : Op) (u v : ℤ) (first : ℕ) (k : Kind) (ms : TypedPart) → Finds (Finding (unbounded o u v)) (static_of first k ms (exact o u v))
unfolding exact
f-static_exact o u v first k ms = f-static_bounded first k ms (unbounded o u v)

f-universal_exact : (o : Op) (u v : ℤ) (first : ℕ) (ms : TypedPart) → Finds (Finding (unbounded o u v)) (static_universal first ms (exact o u v))
unfolding exact
f-universal_exact o u v first ms = f-universal_bounded first ms (unbounded o u v)

pub scalar-is : (first : ℕ) (k : Kind) (n : Option Scalar) (e : TypedExpr) → static_in e ≡ None → Is None (scalar first k n e)
scalar-is first k n e h = record { value = λ t. refl; bare = h }

pub open-is : (first : ℕ) (l : Limits) (e : TypedExpr) → ((c : Class) → static_in (with_class c e) ≡ None) → Is None (opened first l e)
open-is first l e h = record { value = λ t. refl; bare = h }

-- ---- binary operators

f-static_operation : (o : Op) (k j : Kind) (a b : Found) (u v : ℤ) → Finds (Finding (computed o (Some u) (Some v))) (static_operation o k j a u b v)
unfolding static_operation
f-static_operation o k j a b u v =
    f-then (Finding (unbounded o u v)) (fitting k (first_of a.known) u) _ (λ x.
    f-then (Finding (unbounded o u v)) (fitting j (first_of b.known) v) _ (λ y.
    f-if (Finding (unbounded o u v)) (x && y) (static_of (first_of a.known) k (both_mentions a b) (exact o u v)) (pure None) (λ e. f-static_exact o u v (first_of a.known) k (both_mentions a b)) (f-none (Is (unbounded o u v)))))

pub f-operation_on : (o : Op) (at : ℕ) (k j : Kind) (a b : Found) → Finds (Finding None) (operation_on o at k j a b)
unfolding operation_on
f-operation_on o at k j a b =
    f-then (Finding None) (asked k a) _ (λ x.
    f-then (Finding None) (asked j b) _ (λ y.
    f-both (Is None) x y _ (λ m n. f-some (Is None) _ (scalar-is (first_of a.known) k None (typed.Binary at o (class_of k) (as_expr m) (as_expr n)) refl))))

f-operation_by : (o : Op) (at : ℕ) (k j : Kind) (a b : Found) (x y : Option ℤ) → Finds (Finding (computed o x y)) (operation_by o at k j a b x y)
f-operation_by o at k j a b (Some u) (Some v) = f-static_operation o k j a b u v
f-operation_by o at k j a b (Some u) None = f-operation_on o at k j a b
f-operation_by o at k j a b None y = f-operation_on o at k j a b

f-typed_operation : (o : Op) (at : ℕ) (k j : Kind) (a b : Found) → Finds (Finding (computed o (value_of a.known) (value_of b.known))) (typed_operation o at k j a b)
unfolding typed_operation
f-typed_operation o at k j a b = f-operation_by o at k j a b (value_of a.known) (value_of b.known)

f-open_binary : (o : Op) (at : ℕ) (a b : Found) → Finds (Finding None) (pure (open_binary o at a b))
unfolding open_binary
f-open_binary o at a b = f-pure (Finding None) _ (paired (Is None) (open_two o at (first_of a.known)) (open_of a) (open_of b) (λ x y. open-is (first_of a.known) (joint x.0 y.0) (typed.Binary at o class.Universal (as_expr x.1) (as_expr y.1)) (λ c. refl)))

f-universal_by : (o : Op) (at : ℕ) (a b : Found) (x y : Option ℤ) → Finds (Finding (computed o x y)) (universal_by o at a b x y)
f-universal_by o at a b (Some u) (Some v) = f-universal_exact o u v (first_of a.known) (both_mentions a b)
f-universal_by o at a b (Some u) None = f-open_binary o at a b
f-universal_by o at a b None y = f-open_binary o at a b

f-universal_operation : (o : Op) (at : ℕ) (a b : Found) → Finds (Finding (computed o (value_of a.known) (value_of b.known))) (universal_operation o at a b)
unfolding universal_operation
f-universal_operation o at a b = f-universal_by o at a b (value_of a.known) (value_of b.known)

f-by_kinds : (o : Op) (at : ℕ) (a b : Found) (x y : Option Kind) → Finds (Finding (computed o (value_of a.known) (value_of b.known))) (by_kinds o at a b x y)
f-by_kinds o at a b None None = f-universal_operation o at a b
f-by_kinds o at a b None (Some k) = f-typed_operation o at k k a b
f-by_kinds o at a b (Some k) None = f-typed_operation o at k k a b
f-by_kinds o at a b (Some j) (Some k) = f-if (Finding (computed o (value_of a.known) (value_of b.known))) (same j k) (typed_operation o at k k a b) (fault at WrongType) (λ e. f-typed_operation o at k k a b) (f-fault (Is (computed o (value_of a.known) (value_of b.known))) at WrongType)

-- a number is a scalar, and so is what suits a type
pub number-scalar : (f : Known) → is_number f ≡ true → is_scalar f ≡ true
number-scalar f = by (is_universal f) (kind_of f)
  where
    by : (u : Bool) (k : Option Kind) → (u || is_integer_kind k) ≡ true → (u || is_some k) ≡ true
    by true k e = refl
    by false (Some k) e = refl
    by false None e = absurd (true≢false (sym e))

suits-scalar : (j : Kind) (f : Known) → suits j f ≡ true → is_scalar f ≡ true
suits-scalar j f = by (is_universal f) (kind_of f)
  where
    by : (u : Bool) (k : Option Kind) → ((u && is_integer j) || is_kind j k) ≡ true → (u || is_some k) ≡ true
    by true k e = refl
    by false (Some k) e = refl
    by false None e = absurd (true≢false (sym e))

computed-of : (o : Op) (a b : Found) (v w : Option ℤ) → Has v a → Has w b → is_scalar a.known ≡ true → is_scalar b.known ≡ true → computed o (value_of a.known) (value_of b.known) ≡ computed o v w
computed-of o a b v w p q e f = ap (λ x. computed o x (value_of b.known)) (p e) ∙ ap (computed o v) (q f)

f-operation : (o : Op) (at : ℕ) (a b : Found) (v w : Option ℤ) → Has v a → Has w b → Finds (Finding (computed o v w)) (operation o at a b)
unfolding operation
f-operation o at a b v w p q =
    f-if (Finding (computed o v w)) (is_number a.known && is_number b.known) (by_kinds o at a b (kind_of a.known) (kind_of b.known)) (fault (operand_blamed a.known at) WrongType)
    (λ e. let n = and_parts (is_number a.known) (is_number b.known) e in
    moved (computed o (value_of a.known) (value_of b.known)) (computed o v w) _ (computed-of o a b v w p q (number-scalar a.known n.0) (number-scalar b.known n.1)) (f-by_kinds o at a b (kind_of a.known) (kind_of b.known)))
    (f-fault (Is (computed o v w)) (operand_blamed a.known at) WrongType)

pub f-binary : (o : Op) (at : ℕ) (x y : Option Found) (v w : Option ℤ) → Maybe (Has v) x → Maybe (Has w) y → Finds (Finding (computed o v w)) (binary o at x y)
unfolding binary
f-binary o at x y v w p q = f-both-of (Has v) (Has w) (Is (computed o v w)) x y (operation o at) p q (λ a b s t. f-operation o at a b v w s t)

-- ---- powers

f-open_power : (at : ℕ) (a b : Found) (n : TypedPart) → Finds (Finding None) (pure (option_map (open_power at (first_of a.known) n) (open_of a)))
f-open_power at a b n = f-pure (Finding None) _ (mapped (Is None) (open_power at (first_of a.known) n) (open_of a) (λ x. open-is (first_of a.known) x.0 (typed.Binary at op.Pow class.Universal (as_expr x.1) (as_expr n)) (λ c. refl)))

f-universal_power : (at : ℕ) (a b : Found) → Finds (Finding None) (universal_power at a b)
unfolding universal_power
f-universal_power at a b = f-then (Finding None) (asked kind.Integer b) _ (λ y. f-given (Is None) y _ (λ n. f-open_power at a b n))

f-static_power : (a b : Found) (u v : ℤ) → Finds (Finding (computed op.Pow (Some u) (Some v))) (static_power a u b v)
unfolding static_power
f-static_power a b u v =
    f-then (Finding (unbounded op.Pow u v)) (fitting kind.Integer (first_of b.known) v) _ (λ y.
    f-if (Finding (unbounded op.Pow u v)) y (static_universal (first_of a.known) (both_mentions a b) (exact op.Pow u v)) (pure None) (λ e. f-universal_exact op.Pow u v (first_of a.known) (both_mentions a b)) (f-none (Is (unbounded op.Pow u v))))

f-universal_to : (at : ℕ) (a b : Found) (x y : Option ℤ) → Finds (Finding (computed op.Pow x y)) (universal_to at a b x y)
f-universal_to at a b (Some u) (Some v) = f-static_power a b u v
f-universal_to at a b (Some u) None = f-universal_power at a b
f-universal_to at a b None y = f-universal_power at a b

f-power_to : (at : ℕ) (a b : Found) (k : Option Kind) → Finds (Finding (computed op.Pow (value_of a.known) (value_of b.known))) (power_to at a b k)
f-power_to at a b (Some k) = f-typed_operation op.Pow at k kind.Integer a b
f-power_to at a b None = f-universal_to at a b (value_of a.known) (value_of b.known)

f-power_of : (at : ℕ) (a b : Found) (v w : Option ℤ) → Has v a → Has w b → Finds (Finding (computed op.Pow v w)) (if is_number a.known && suits kind.Integer b.known then power_to at a b (kind_of a.known) else fault at WrongType)
f-power_of at a b v w p q =
    f-if (Finding (computed op.Pow v w)) (is_number a.known && suits kind.Integer b.known) (power_to at a b (kind_of a.known)) (fault at WrongType)
    (λ e. let n = and_parts (is_number a.known) (suits kind.Integer b.known) e in
    moved (computed op.Pow (value_of a.known) (value_of b.known)) (computed op.Pow v w) _ (computed-of op.Pow a b v w p q (number-scalar a.known n.0) (suits-scalar kind.Integer b.known n.1)) (f-power_to at a b (kind_of a.known)))
    (f-fault (Is (computed op.Pow v w)) at WrongType)

pub f-power : (at : ℕ) (x y : Option Found) (v w : Option ℤ) → Maybe (Has v) x → Maybe (Has w) y → Finds (Finding (computed op.Pow v w)) (power at x y)
unfolding power
f-power at x y v w p q = f-both-of (Has v) (Has w) (Is (computed op.Pow v w)) x y _ p q (λ a b s t. f-power_of at a b v w s t)

-- ---- places that ask for a type

abbrev pub Leaves : Option ℤ → TypedPart → Type 0
Leaves v x = static_in (as_expr x) ≡ v

f-valued : (k : Kind) (first : ℕ) (z : ℤ) (alone : Bool) (ms : TypedPart) (v : Option ℤ) → Some (kept k z) ≡ v → Finds (Maybe (Leaves v)) (valued k first z alone ms)
unfolding valued
f-valued k first z alone ms v h = f-if (Maybe (Leaves v)) (in_base k z) (some (literal first (kept k z) alone ms)) (fault first StaticRange) (λ e. f-some (Leaves v) (literal first (kept k z) alone ms) h) (f-fault (Leaves v) first StaticRange)

f-object_value : (k : Kind) (p : ObjectName) (ss : Selections) (s : Scalar) (v : Option ℤ) → Finds (Maybe (Leaves (left_value k v None))) (object_value k p ss s v)
f-object_value k p ss s (Some z) = f-valued k p.first z false part.Nothing (Some (kept k z)) refl
f-object_value k p ss s None = f-some (Leaves None) (part.AnExpr (object_expr p ss s p.variable)) (by p.variable)
  where
    by : (b : Bool) → static_in (object_expr p ss s b) ≡ None
    by true = refl
    by false = refl

f-place_asked : (k : Kind) (p : ObjectName) (ss : Selections) (s : Subtype) (v : Option ℤ) → (is_some (kind_in (place_scalar s)) ≡ true → p.value ≡ v) → Finds (Maybe (Leaves (left_value k v None))) (place_asked k p ss s)
f-place_asked k p ss (subtype.Composite n) v h = f-fault (Leaves (left_value k v None)) p.first WrongType
f-place_asked k p ss (subtype.Scalar s) v h =
    f-if (Maybe (Leaves (left_value k v None))) (same s.kind k) (object_value k p ss s p.value) (fault p.first WrongType)
    (λ e. subst (λ w. Finds (Maybe (Leaves (left_value k w None))) (object_value k p ss s p.value)) (h refl) (f-object_value k p ss s p.value)) (f-fault (Leaves (left_value k v None)) p.first WrongType)

f-settled : (k : Kind) (l : Limits) (e : TypedExpr) (v : Option ℤ) → static_in (with_class (class_of k) e) ≡ v → Finds (Maybe (Leaves v)) (settled k l e)
unfolding settled
f-settled k l e v h = by (beyond k l e)
  where
    by : (x : Option ℕ) → Finds (Maybe (Leaves v)) (settled_by k e x)
    by None = f-some (Leaves v) (part.AnExpr (with_class (class_of k) e)) h
    by (Some at) = f-fault (Leaves v) at StaticRange

f-asked_form : (k : Kind) (f : Known) (x : TypedPart) (v b : Option ℤ) → (is_scalar f ≡ true → value_of f ≡ v) → Bare b f x → Finds (Maybe (Leaves (left_value k v b))) (asked_form k f x)
f-asked_form k (known.Universal first z alone) x v b h g =
    f-if (Maybe (Leaves (left_value k v b))) (is_integer k) (valued k first z alone x) (fault first WrongType) (λ e. f-valued k first z alone x (left_value k v b) (ap (λ w. left_value k w b) (h refl))) (f-fault (Leaves (left_value k v b)) first WrongType)
f-asked_form k (known.Open first l) x v b h g =
    f-if (Maybe (Leaves (left_value k v b))) (is_integer k) (settled k l (as_expr x)) (fault first WrongType) (λ e. f-settled k l (as_expr x) (left_value k v b) (g (class_of k) ∙ ap (λ w. left_value k w b) (h refl))) (f-fault (Leaves (left_value k v b)) first WrongType)
f-asked_form k (known.Static first j z) x v b h g =
    f-if (Maybe (Leaves (left_value k v b))) (same j k) (valued k first z false x) (fault first WrongType)
    (λ e. f-valued k first z false x (left_value k v b) (ap (λ w. left_value k w b) (h refl))) (f-fault (Leaves (left_value k v b)) first WrongType)
f-asked_form k (known.Object p) x v b h g = subst (λ c. Finds (Maybe (Leaves (left_value k v c))) (asked_form k (known.Object p) x)) (sym g) (f-place_asked k p (selections_of x) p.subtype v h)
f-asked_form k (known.Scalar first j n) x v b h g =
    f-if (Maybe (Leaves (left_value k v b))) (same j k) (some x) (fault first WrongType) (λ e. f-some (Leaves (left_value k v b)) x (g ∙ ap (λ w. left_value k w b) (h refl))) (f-fault (Leaves (left_value k v b)) first WrongType)
f-asked_form k (known.Composite first n) x v b h g = f-fault (Leaves (left_value k v b)) first WrongType
f-asked_form k (known.Rest first) x v b h g = f-fault (Leaves (left_value k v b)) first WrongType
f-asked_form k (known.Text first) x v b h g = f-fault (Leaves (left_value k v b)) first WrongType

pub f-asked : (k : Kind) (f : Found) (v b : Option ℤ) → IsWith v b f → Finds (Maybe (Leaves (left_value k v b))) (asked k f)
unfolding asked
f-asked k f v b h = f-asked_form k f.known f.part v b h.value h.bare

-- ---- unary operators

abbrev signed_of : Sign → Option ℤ → Option ℤ
signed_of sign.Minus v = opposite v
signed_of sign.Abs v = absolute v
signed_of sign.Not v = None

f-signed : (s : Sign) (at : ℕ) (k : Kind) (ms : TypedPart) (z : ℤ) → Finds (Finding (signed_of s (Some z))) (static_of at k ms (signed s z))
unfolding signed
f-signed sign.Minus at k ms z = f-static_bounded at k ms (Some (neg_ℤ z))
f-signed sign.Abs at k ms z = f-static_bounded at k ms (Some (pos (unsigned_abs z)))
f-signed sign.Not at k ms z = f-static_of at k ms None

f-signed_universal : (s : Sign) (at : ℕ) (ms : TypedPart) (z : ℤ) → Finds (Finding (signed_of s (Some z))) (static_universal at ms (signed s z))
unfolding signed
f-signed_universal sign.Minus at ms z = f-universal_bounded at ms (Some (neg_ℤ z))
f-signed_universal sign.Abs at ms z = f-universal_bounded at ms (Some (pos (unsigned_abs z)))
f-signed_universal sign.Not at ms z = f-static_universal at ms None

signed-none : (s : Sign) → None ≡ signed_of s None
signed-none sign.Minus = refl
signed-none sign.Abs = refl
signed-none sign.Not = refl

f-unary_typed : (s : Sign) (at : ℕ) (k : Kind) (a : Found) (v : Option ℤ) → Finds (Finding (signed_of s v)) (unary_typed s at k a v)
f-unary_typed s at k a (Some z) =
    f-then (Finding (signed_of s (Some z))) (fitting k (first_of a.known) z) _ (λ x.
    f-if (Finding (signed_of s (Some z))) x (static_of at k a.part (signed s z)) (pure None) (λ e. f-signed s at k a.part z) (f-none (Is (signed_of s (Some z)))))
f-unary_typed s at k a None =
    moved None (signed_of s None) _ (signed-none s) (f-then (Finding None) (asked k a) _ (λ x. f-given (Is None) x _ (λ n. f-some (Is None) _ (scalar-is at k None (typed.Unary at s (class_of k) (as_expr n)) refl))))

f-unary_open : (s : Sign) (at : ℕ) (a : Found) (v : Option ℤ) → Finds (Finding (signed_of s v)) (unary_open s at a v)
f-unary_open s at a (Some z) = f-signed_universal s at a.part z
f-unary_open s at a None =
    moved None (signed_of s None) _ (signed-none s) (f-pure (Finding None) _ (mapped (Is None) (open_unary s at) (open_of a) (λ x. open-is at x.0 (typed.Unary at s class.Universal (as_expr x.1)) (λ c. refl))))

f-unary_by : (s : Sign) (at : ℕ) (a : Found) (k : Option Kind) → Finds (Finding (signed_of s (value_of a.known))) (unary_by s at a k)
f-unary_by s at a (Some k) = f-unary_typed s at k a (value_of a.known)
f-unary_by s at a None = f-unary_open s at a (value_of a.known)

f-unary : (s : Sign) (at : ℕ) (x : Option Found) (v : Option ℤ) → Maybe (Has v) x → Finds (Finding (signed_of s v)) (unary s at x)
unfolding unary
f-unary s at x v h =
    f-given-of (Has v) (Is (signed_of s v)) x _ h (λ a p.
    f-if (Finding (signed_of s v)) (is_number a.known) (unary_by s at a (kind_of a.known)) (fault at WrongType)
    (λ e. moved (signed_of s (value_of a.known)) (signed_of s v) _ (ap (signed_of s) (p (number-scalar a.known e))) (f-unary_by s at a (kind_of a.known)))
    (f-fault (Is (signed_of s v)) at WrongType))

pub f-minus : (at : ℕ) (x : Option Found) (v : Option ℤ) → Maybe (Has v) x → Finds (Finding (opposite v)) (unary sign.Minus at x)
f-minus at x v h = f-unary sign.Minus at x v h

pub f-abs : (at : ℕ) (x : Option Found) (v : Option ℤ) → Maybe (Has v) x → Finds (Finding (absolute v)) (unary sign.Abs at x)
f-abs at x v h = f-unary sign.Abs at x v h

-- `+` leaves the value

f-plain_typed : (at : ℕ) (k : Kind) (a : Found) (v : Option ℤ) → Finds (Finding v) (plain_typed at k a v)
f-plain_typed at k a (Some z) = f-static_of at k a.part (Some z)
f-plain_typed at k a None =
    f-then (Finding None) (asked k a) _ (λ x. f-given (Is None) x _ (λ n. f-some (Is None) _ (scalar-is at k None (typed.Group (as_expr n)) refl)))

f-plain_open : (at : ℕ) (a : Found) (v : Option ℤ) → Finds (Finding v) (plain_open at a v)
f-plain_open at a (Some z) = f-some (Is (Some z)) (universal at z false a.part) (universal-is at z false a.part)
f-plain_open at a None = by (open_of a)
  where
    by : (x : Option (Limits × TypedPart)) → Finds (Finding None) (pure (option_map (open_plain at) x))
    by None = f-none (Is None)
    by (Some o) = f-some (Is None) (open_plain at o) (record { value = λ t. refl; bare = λ c. refl })

f-plain_by : (at : ℕ) (a : Found) (k : Option Kind) (v : Option ℤ) → value_of a.known ≡ v → Finds (Finding v) (plain_by at a k)
f-plain_by at a (Some k) v e = subst (λ w. Finds (Finding w) (plain_typed at k a (value_of a.known))) e (f-plain_typed at k a (value_of a.known))
f-plain_by at a None v e = subst (λ w. Finds (Finding w) (plain_open at a (value_of a.known))) e (f-plain_open at a (value_of a.known))

pub f-plain : (at : ℕ) (x : Option Found) (v : Option ℤ) → Maybe (Has v) x → Finds (Finding v) (plain at x)
unfolding plain
f-plain at x v h =
    f-given-of (Has v) (Is v) x _ h (λ a p.
    f-if (Finding v) (is_number a.known) (plain_by at a (kind_of a.known)) (fault at WrongType) (λ e. f-plain_by at a (kind_of a.known) v (p (number-scalar a.known e))) (f-fault (Is v) at WrongType))

-- ---- operators whose results aren't static

f-complement : (at : ℕ) (a : Found) (k : Kind) → Finds (Finding None) (complement at a k)
f-complement at a k = f-then (Finding None) (asked k a) _ (λ y. f-given (Is None) y _ (λ n. f-some (Is None) _ (scalar-is at k None (typed.Unary at sign.Not (class_of k) (as_expr n)) refl)))

f-not_by : (at : ℕ) (a : Found) (k : Option Kind) → Finds (Finding None) (not_by at a k)
f-not_by at a None = f-fault (Is None) at WrongType
f-not_by at a (Some k) =
    f-if (Finding None) (same k kind.Boolean) (negation at a) _
    (λ e. f-then (Finding None) (asked kind.Boolean a) _ (λ y. f-given (Is None) y _ (λ n. f-some (Is None) _ (scalar-is at kind.Boolean None (typed.Unary at sign.Not class.Boolean (as_expr n)) refl))))
    (f-if (Finding None) (is_modular k) (complement at a k) (fault at WrongType) (λ e. f-complement at a k) (f-fault (Is None) at WrongType))

pub f-not_of : (at : ℕ) (x : Option Found) → Finds (Finding None) (not_of at x)
unfolding not_of
f-not_of at x = f-given (Is None) x _ (λ a. f-not_by at a (kind_of a.known))

f-joined_texts : (at : ℕ) (a : Known) (ps : TypedPart) (b : Known) (qs : TypedPart) → Finds (Finding None) (joined_texts at a ps b qs)
f-joined_texts at (known.Text first) ps (known.Text second) qs = f-some (Is None) (text_found first (also_all ps qs)) (record { value = λ t. refl; bare = refl })
f-joined_texts at a ps b qs = f-fault (Is None) at WrongType

pub f-joined_text : (at : ℕ) (x y : Option Found) → Finds (Finding None) (joined_text at x y)
unfolding joined_text
f-joined_text at x y = f-both (Is None) x y _ (λ a b. f-joined_texts at a.known a.part b.known b.part)

f-logical_by : (o : Op) (at : ℕ) (a b : Found) (k : Kind) → Finds (Finding None) (logical_by o at a b k)
f-logical_by o at a b k =
    f-if (Finding None) (is_logical_kind k && (suits k a.known && suits k b.known)) (operation_on o at k k a b) (fault at WrongType) (λ e. f-operation_on o at k k a b) (f-fault (Is None) at WrongType)

pub f-logical : (o : Op) (at : ℕ) (x y : Option Found) → Finds (Finding None) (logical o at x y)
unfolding logical
f-logical o at x y = f-both (Is None) x y _ (λ a b. f-logical_by o at a b (common_kind (kind_of a.known) (kind_of b.known)))

f-compared_at : (k : Kind) (c : Comparison) (a b : Found) → Finds (Finding None) (compared_at k c a b)
unfolding compared_at
f-compared_at k c a b =
    f-then (Finding None) (asked k a) _ (λ x. f-then (Finding None) (asked k b) _ (λ y.
    f-both (Is None) x y _ (λ e f. f-some (Is None) _ (scalar-is (first_of a.known) kind.Boolean None (typed.Relation (class_of k) c (as_expr e) (as_expr f)) refl))))

pub f-compared : (c : Comparison) (at : ℕ) (x y : Option Found) → Finds (Finding None) (compared c at x y)
unfolding compared
f-compared c at x y =
    f-both (Is None) x y _ (λ a b. let k = common_kind (kind_of a.known) (kind_of b.known) in
    f-if (Finding None) (suits k a.known && suits k b.known) (compared_at k c a b) (fault at WrongType) (λ e. f-compared_at k c a b) (f-fault (Is None) at WrongType))

f-member : (first : ℕ) (negated : Bool) (k : Kind) (e low high : TypedExpr) → Finds (Finding None) (some (member first negated k e low high))
f-member first negated k e low high = f-some (Is None) _ (scalar-is first kind.Boolean None (typed.Membership (class_of k) negated e low high) refl)

f-within_bounds : (at : ℕ) (negated : Bool) (k : Kind) (x low high : Found) → Finds (Finding None) (within_bounds at negated k x low high)
f-within_bounds at negated k x low high =
    f-if (Finding None) (not (suits k x.known)) (fault at WrongType) _ (λ e. f-fault (Is None) at WrongType)
    (f-then (Finding None) (asked k x) _ (λ e. f-then (Finding None) (asked k low) _ (λ l. f-then (Finding None) (asked k high) _ (λ h.
    f-given (Is None) e _ (λ u. f-both (Is None) l h _ (λ v w. f-member (first_of x.known) negated k (as_expr u) (as_expr v) (as_expr w)))))))

f-member_of : (at : ℕ) (negated : Bool) (a l h : Found) → Finds (Finding None) (member_of at negated a l h)
f-member_of at negated a l h =
    f-if (Finding None) (not (is_scalar a.known)) (fault at WrongType) _ (λ e. f-fault (Is None) at WrongType)
    (f-if (Finding None) (not (is_scalar l.known)) (fault (first_of l.known) WrongType) _ (λ e. f-fault (Is None) (first_of l.known) WrongType)
    (f-if (Finding None) (not (is_scalar h.known)) (fault (first_of h.known) WrongType) _ (λ e. f-fault (Is None) (first_of h.known) WrongType)
    (f-within_bounds at negated (common_kind (first_kind (kind_of a.known) (kind_of l.known)) (kind_of h.known)) a l h)))

pub f-membership : (at : ℕ) (negated : Bool) (x low high : Option Found) → Finds (Finding None) (membership at negated x low high)
unfolding membership
f-membership at negated x low high = f-given (Is None) x _ (λ a. f-both (Is None) low high (member_of at negated a) (λ l h. f-member_of at negated a l h))

pub f-of_subtype : (at : ℕ) (negated : Bool) (mark : ℕ) (x : Option Found) (s : Option Scalar) → Finds (Finding None) (of_subtype at negated mark x s)
unfolding of_subtype
f-of_subtype at negated mark x s =
    f-both (Is None) x s _ (λ a t.
    f-if (Finding None) (suits t.kind a.known) _ (fault at WrongType) (λ e. f-then (Finding None) (asked t.kind a) _ (λ y. f-given (Is None) y _ (λ u. f-some (Is None) _ (scalar-is (first_of a.known) kind.Boolean None (typed.Membership (class_of t.kind) negated (as_expr u) (limit_of mark t.low) (limit_of mark t.high)) refl)))) (f-fault (Is None) at WrongType))
