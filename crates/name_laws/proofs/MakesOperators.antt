-- What is found fits: operators.
use Rattle.std.proofs.Common.{◌≡◌, refl, sym, subst, ◌⊎◌, inl, inr, ℕ, ℤ, pos, Option, Some, None, Bool, true, false, if◌then◌else◌, option_map, ◌&&◌, ap, ◌∙◌, arith, negsuc, int_le, nat_lt, ◌-◌, ◌^◌, ◌≤◌, min, true≢false, le-leb, leb-true, unsigned_abs, FitsSigned, w64}
use Rattle.typed_tree.specs.Classes.{beyond_digits, beyond_left}
use Rattle.ada_base.proofs.Turning.{turned_twice, digits_of, number_of}
use Rattle.std.proofs.lemmas.Bool.{and_parts, lt-ltb, ltb-true, ltb-false}
use Rattle.std.specs.Prelude.{not}
use Rattle.ada_base.specs.Operation.{is_in_base, turned, digits, modulus, IsNoPower}
use Rattle.ada_base.specs.declared.operation.Base.TheVariants.{Narrow, Wide, Modulo}
use Rattle.ada_base.specs.declared.operation.Op.{Op}
use Rattle.ada_base.specs.declared.operation.Op.TheVariants as op
use Rattle.typed_tree.specs.Decoded.{TypedPart, as_expr}
use Rattle.typed_tree.specs.Syntax as typed
use Rattle.typed_tree.specs.Syntax.{Expr as TypedExpr}
use Rattle.typed_tree.specs.declared.expressions.Sign.TheVariants as unary'
use Rattle.typed_tree.specs.declared.expressions.Sign.{Sign}
use Rattle.typed_tree.specs.declared.scalars.Class.TheVariants as class
use Rattle.ada_base.specs.declared.operation.Comparison.{Comparison}
use Rattle.name_rules.specs.Found.{Found, scalar, static, text_found, universal}
use Rattle.name_rules.specs.Judging.{fault, pure, some}
use Rattle.name_rules.specs.Operators.{binary, both_mentions, by_kinds, common_kind, compared, compared_at, compared_by, first_kind, joined_text, joined_texts, leaf, leaf_limits, limit_of, logical, member, member_of, membership, negation, not_of, of_subtype, open_binary, open_form, open_of, open_plain, open_power, open_two, open_unary, operand_blamed, operation, operation_by, operation_on, plain, plain_by, plain_open, plain_typed, power, power_to, signed, static_of, static_operation, static_power, static_unary, static_universal, typed_operation, unary, unary_by, unary_open, unary_typed, universal_by, universal_operation, universal_power, universal_to, within_bounds, complement, is_digits, is_logical_kind, leaf_kept, logical_by, not_by}
use Rattle.name_rules.specs.TypedParts.{also_all}
use Rattle.name_rules.specs.Types.{class_of, in_base, same, is_modular}
use Rattle.name_rules.specs.Values.{asked, beyond, exact, first_of, fitting, is_number, is_scalar, joint, kind_of, sooner, suits, value_of}
use Rattle.name_rules.specs.declared.found.Found.TheVariants as known
use Rattle.name_rules.specs.declared.found.Found.{Found as Known}
use Rattle.name_rules.specs.declared.found.Limits.{Limits}
use Rattle.name_rules.specs.declared.log.Rule.TheVariants.{StaticRange, WrongType}
use Rattle.name_rules.specs.declared.types.Kind.{Kind}
use Rattle.name_rules.specs.declared.types.Kind.TheVariants as kind
use Rattle.name_rules.specs.declared.types.Scalar.{Scalar}
use Rattle.name_laws.proofs.Based.{spanning, base-between, both-true}
use Rattle.name_laws.proofs.KeepsValues.{k-fitting}
use Rattle.name_laws.proofs.Makes.{Any, Makes, Maybe, each-all, joint as joined-parts, m-bind, m-both, m-fault, m-given, m-if, m-kept, m-none, m-pure, m-some, m-test, mapped}
use Rattle.name_laws.proofs.MakesValues.{AskedOf, FoundOf, IsOpen, IsPiece, KnownOf, SpanOf, is-typed, m-asked, with-same, has-kept}
use Rattle.name_laws.specs.Classes.{ExprFits, exponent}

-- ---- static results

m-static_of : (first : ℕ) (k : Kind) (ms : TypedPart) (z : Option ℤ) → Makes (Maybe FoundOf) (static_of first k ms z)
unfolding static_of
m-static_of first k ms None = m-fault FoundOf first StaticRange
m-static_of first k ms (Some z) = m-test (Maybe FoundOf) (in_base k z) (some (static first k z ms)) (fault first StaticRange) (λ e. m-some FoundOf (static first k z ms) e) (m-fault FoundOf first StaticRange)

m-static_universal : (first : ℕ) (ms : TypedPart) (z : Option ℤ) → Makes (Maybe FoundOf) (static_universal first ms z)
unfolding static_universal
m-static_universal first ms None = m-fault FoundOf first StaticRange
m-static_universal first ms (Some z) = m-some FoundOf (universal first z false ms) tt

m-static_operation : (o : Op) (k j : Kind) (a : Found) (u : ℤ) (b : Found) (v : ℤ) → Makes (Maybe FoundOf) (static_operation o k j a u b v)
unfolding static_operation
m-static_operation o k j a u b v =
    m-bind Any (Maybe FoundOf) (fitting k (first_of a.known) u) _ (m-kept (fitting k (first_of a.known) u) (k-fitting spanning k (first_of a.known) u)) (λ x p.
    m-bind Any (Maybe FoundOf) (fitting j (first_of b.known) v) _ (m-kept (fitting j (first_of b.known) v) (k-fitting spanning j (first_of b.known) v)) (λ y q.
    m-if (Maybe FoundOf) (x && y) (static_of (first_of a.known) k (both_mentions a b) (exact o u v)) (pure None) (m-static_of (first_of a.known) k (both_mentions a b) (exact o u v)) (m-none FoundOf)))

-- ---- binary operators on values of a type

-- the type of the right operand is that of the left one, or Integer as an exponent's
abbrev pub Operands : Op → Kind → Kind → Type 0
Operands o k j = (j ≡ k) ⊎ ((o ≡ op.Pow) × (j ≡ kind.Integer))

right-fits : (o : Op) (k j : Kind) (e : TypedExpr) → Operands o k j → ExprFits (class_of j) e → ExprFits (class_of k) e ⊎ ((o ≡ op.Pow) × ExprFits exponent e)
right-fits o k j e (inl p) h = inl (subst (λ i. ExprFits (class_of i) e) p h)
right-fits o k j e (inr p) h = inr (p.0, subst (λ i. ExprFits (class_of i) e) p.1 h)

m-operation_on : (o : Op) (at : ℕ) (k j : Kind) (a b : Found) → Operands o k j → FoundOf a → FoundOf b → Makes (Maybe FoundOf) (operation_on o at k j a b)
unfolding operation_on
m-operation_on o at k j a b p g h =
    m-bind (Maybe (AskedOf k)) (Maybe FoundOf) (asked k a) _ (m-asked k a g) (λ x q.
    m-bind (Maybe (AskedOf j)) (Maybe FoundOf) (asked j b) _ (m-asked j b h) (λ y r.
    m-both (AskedOf k) (AskedOf j) FoundOf x y _ q r (λ m n s t.
    m-some FoundOf (scalar (first_of a.known) k None (typed.Binary at o (class_of k) (as_expr m) (as_expr n))) (is-typed k, s, right-fits o k j (as_expr n) p t))))

m-operation_by : (o : Op) (at : ℕ) (k j : Kind) (a b : Found) (x y : Option ℤ) → Operands o k j → FoundOf a → FoundOf b → Makes (Maybe FoundOf) (operation_by o at k j a b x y)
m-operation_by o at k j a b (Some u) (Some v) p g h = m-static_operation o k j a u b v
m-operation_by o at k j a b (Some u) None p g h = m-operation_on o at k j a b p g h
m-operation_by o at k j a b None y p g h = m-operation_on o at k j a b p g h

m-typed_operation : (o : Op) (at : ℕ) (k j : Kind) (a b : Found) → Operands o k j → FoundOf a → FoundOf b → Makes (Maybe FoundOf) (typed_operation o at k j a b)
unfolding typed_operation
m-typed_operation o at k j a b p g h = m-operation_by o at k j a b (value_of a.known) (value_of b.known) p g h

-- ---- on universal values

-- a part that waits for its type
abbrev pub OpenOf : Limits × TypedPart → Type 0
OpenOf x = IsOpen x.0 (as_expr x.1)

none-if : (b : Bool) (first : ℕ) → (if b then None else Some first) ≡ None → b ≡ true
none-if true first e = refl
none-if false first e = absurd cc

-- a part of 64 bits, of a modular type's digits, or of none
abbrev leaf_in : Bool → Bool → ℤ → ℤ
leaf_in b d z = if b then z else if d then turned z else negsuc 0

narrow-wide : (z : ℤ) → is_in_base Narrow z ≡ true → is_in_base Wide z ≡ true
narrow-wide z h = let x = and_parts (int_le (negsuc 2147483647) z) (int_le z (pos 2147483647)) h in base-between (kind.Own 0) (negsuc 2147483647) (pos 2147483647) z refl refl x.0 x.1

wide-fits : (z : ℤ) → is_in_base Wide z ≡ true → FitsSigned w64 z
wide-fits (pos n) e = let x = and_parts (int_le (negsuc 9223372036854775807) (pos n)) (int_le (pos n) (pos 9223372036854775807)) e in record { sfits = omega (arith, leb-true n 9223372036854775807 x.1) }
wide-fits (negsuc n) e = let x = and_parts (int_le (negsuc 9223372036854775807) (negsuc n)) (int_le (negsuc n) (pos 9223372036854775807)) e in record { sfits = omega (arith, leb-true n 9223372036854775807 x.0) }

digits-number : (z : ℤ) → is_digits z ≡ true → pos (digits (turned z)) ≡ turned (turned z)
digits-number (pos n) e = ap (λ y. pos (unsigned_abs y)) (turned_twice (pos n)) ∙ sym (turned_twice (pos n))
digits-number (negsuc n) e = absurd (true≢false (sym e))

leaf-digits : (n : ℕ) (b : Bool) → is_in_base Wide (pos n) ≡ b → digits (leaf_in b true (pos n)) ≡ n
leaf-digits n true e = sym (digits_of (pos n) (wide-fits (pos n) e))
leaf-digits n false e = ap unsigned_abs (turned_twice (pos n))

word-digits : (k : ℕ) (z : ℤ) → nat_lt k 64 ≡ false → is_digits z ≡ true → nat_lt (digits (leaf_kept z)) (modulus k) ≡ true
word-digits k (pos n) e f =
    let x = and_parts (int_le (pos 0) (pos n)) (int_le (pos n) (pos 18446744073709551615)) f in
    let most : n ≤ 18446744073709551615 = leb-true n 18446744073709551615 x.1 in
    let all : 64 ≡ min k 64 = omega (arith, ltb-false k 64 e) in
    let same : digits (leaf_kept (pos n)) ≡ n = ap (λ d. digits (leaf_in (is_in_base Wide (pos n)) d (pos n))) f ∙ leaf-digits n (is_in_base Wide (pos n)) refl in
    ap (λ m. nat_lt m (modulus k)) same ∙ ap (λ i. nat_lt n (2 ^ i)) (sym all) ∙ lt-ltb n (2 ^ 64) (omega arith)
word-digits k (negsuc n) e f = absurd (true≢false (sym f))

leaf-wide : (z : ℤ) (d : Bool) → is_in_base Wide z ≡ true → is_in_base Wide (leaf_in (is_in_base Wide z) d z) ≡ true
leaf-wide z d e = ap (λ b. is_in_base Wide (leaf_in b d z)) e ∙ e

leaf-narrow : (z : ℤ) (b d : Bool) → is_in_base Wide z ≡ b → is_in_base Narrow z ≡ true → is_in_base Narrow (leaf_in b d z) ≡ true
leaf-narrow z true d w h = h
leaf-narrow z false d w h = absurd (true≢false (sym (narrow-wide z h) ∙ w))

-- a part of a modular type has few enough digits
leaf-number : (z : ℤ) (b d : Bool) → is_in_base Wide z ≡ b → is_digits z ≡ d → pos (digits (leaf_in b d z)) ≡ turned (leaf_in b d z)
leaf-number z true d e f = number_of z (wide-fits z e)
leaf-number z false true e f = digits-number z f
leaf-number z false false e f = refl

fewer : (m n : ℕ) → nat_lt n m ≡ true → (int_le (pos 0) (pos n) && int_le (pos n) (pos (m - 1))) ≡ true
fewer m n h = both-true (int_le (pos 0) (pos n)) (int_le (pos n) (pos (m - 1))) (le-leb 0 n (omega arith)) (le-leb n (m - 1) (omega (arith, ltb-true n m h)))

fits-digits : (k : ℕ) (w : ℤ) → pos (digits w) ≡ turned w → nat_lt (digits w) (modulus k) ≡ true → is_in_base (Modulo k) w ≡ true
fits-digits k w e h = ap (λ y. int_le (pos 0) y && int_le y (pos (modulus k - 1))) (sym e) ∙ fewer (modulus k) (digits w) h

leaf-modular : (first k : ℕ) (z : ℤ) (b : Bool) → nat_lt k 64 ≡ b → (if b then (if nat_lt (digits (leaf_kept z)) (modulus k) then None else Some first) else (if is_digits z then None else Some first)) ≡ None → is_in_base (Modulo k) (leaf_kept z) ≡ true
leaf-modular first k z true e h = fits-digits k (leaf_kept z) (leaf-number z (is_in_base Wide z) (is_digits z) refl refl) (none-if (nat_lt (digits (leaf_kept z)) (modulus k)) first h)
leaf-modular first k z false e h = fits-digits k (leaf_kept z) (leaf-number z (is_in_base Wide z) (is_digits z) refl refl) (word-digits k z e (none-if (is_digits z) first h))

leaf-open : (first : ℕ) (z : ℤ) (x : TypedPart) → IsOpen (leaf_limits first z) (leaf first z x)
leaf-open first z x kind.Boolean i e = absurd cc
leaf-open first z x kind.Integer i e = leaf-narrow z (is_in_base Wide z) (is_digits z) refl (none-if (is_in_base Narrow z) first e)
leaf-open first z x (kind.Own n) i e = leaf-wide z (is_digits z) (none-if (is_in_base Wide z) first e)
leaf-open first z x (kind.Modular n k) i e = leaf-modular first k z (nat_lt k 64) refl e

open-form : (f : Known) (x : TypedPart) → KnownOf f x → Maybe OpenOf (open_form f x)
open-form (known.Universal first z alone) x h = leaf-open first z x
open-form (known.Open first l) x h = h
open-form f x h = tt

pub open-found : (f : Found) → FoundOf f → Maybe OpenOf (open_of f)
unfolding open_of
open-found f h = open-form f.known f.part h

pub sooner-none : (a b : Option ℕ) → sooner a b ≡ None → (a ≡ None) × (b ≡ None)
sooner-none None b e = (refl, e)
sooner-none (Some a) b e = absurd cc

either-none : (b : Bool) (x y x1 y1 x2 y2 : Option ℕ) → (x ≡ None → (x1 ≡ None) × (x2 ≡ None)) → (y ≡ None → (y1 ≡ None) × (y2 ≡ None)) → (if b then x else y) ≡ None → ((if b then x1 else y1) ≡ None) × ((if b then x2 else y2) ≡ None)
either-none true x y x1 y1 x2 y2 f g e = f e
either-none false x y x1 y1 x2 y2 f g e = g e

-- parts of an expression, in what it is beyond
pub joint-none : (k : Kind) (l m : Limits) (e a b : TypedExpr) → ((n : ℕ) → beyond_digits n e ≡ None → (beyond_digits n a ≡ None) × (beyond_digits n b ≡ None)) → beyond k (joint l m) e ≡ None → (beyond k l a ≡ None) × (beyond k m b ≡ None)
joint-none (kind.Own n) l m e a b f h = sooner-none l.wide m.wide h
joint-none kind.Boolean l m e a b f h = sooner-none l.narrow m.narrow h
joint-none kind.Integer l m e a b f h = sooner-none l.narrow m.narrow h
joint-none (kind.Modular n k) l m e a b f h = either-none (nat_lt k 64) (beyond_digits k e) (sooner l.word m.word) (beyond_digits k a) l.word (beyond_digits k b) m.word (f k) (sooner-none l.word m.word) h

-- an expression that is beyond where its one part is
pub same-none : (k : Kind) (l : Limits) (e a : TypedExpr) → ((n : ℕ) → beyond_digits n e ≡ beyond_digits n a) → beyond k l e ≡ None → beyond k l a ≡ None
same-none (kind.Own n) l e a f h = h
same-none kind.Boolean l e a f h = h
same-none kind.Integer l e a f h = h
same-none (kind.Modular n k) l e a f h = ap (λ x. if nat_lt k 64 then x else l.word) (sym (f k)) ∙ h

left-none : (o : Op) (a b : Option ℕ) → IsNoPower o → beyond_left o a b ≡ None → (a ≡ None) × (b ≡ None)
left-none op.Pow a b p e = absurd p
left-none op.Add a b p e = sooner-none a b e
left-none op.Sub a b p e = sooner-none a b e
left-none op.Mul a b p e = sooner-none a b e
left-none op.Div a b p e = sooner-none a b e
left-none op.Mod a b p e = sooner-none a b e
left-none op.Rem a b p e = sooner-none a b e
left-none op.And a b p e = sooner-none a b e
left-none op.Or a b p e = sooner-none a b e
left-none op.Xor a b p e = sooner-none a b e
left-none op.Max a b p e = sooner-none a b e
left-none op.Min a b p e = sooner-none a b e

open-two : (o : Op) (at first : ℕ) (x y : Limits × TypedPart) → IsNoPower o → OpenOf x → OpenOf y → FoundOf (open_two o at first x y)
open-two o at first x y p g h k i e =
    let n = joint-none k x.0 y.0 (typed.Binary at o class.Universal (as_expr x.1) (as_expr y.1)) (as_expr x.1) (as_expr y.1) (λ n q. left-none o (beyond_digits n (as_expr x.1)) (beyond_digits n (as_expr y.1)) p q) e in
    (is-typed k, g k i n.0, inl (h k i n.1))

m-open_binary : (o : Op) (at : ℕ) (a b : Found) → IsNoPower o → FoundOf a → FoundOf b → Maybe FoundOf (open_binary o at a b)
unfolding open_binary
m-open_binary o at a b n g h = joined-parts OpenOf OpenOf FoundOf (open_two o at (first_of a.known)) (open_of a) (open_of b) (open-found a g) (open-found b h) (λ x y p q. open-two o at (first_of a.known) x y n p q)

m-universal_by : (o : Op) (at : ℕ) (a b : Found) (x y : Option ℤ) → IsNoPower o → FoundOf a → FoundOf b → Makes (Maybe FoundOf) (universal_by o at a b x y)
m-universal_by o at a b (Some u) (Some v) n g h = m-static_universal (first_of a.known) (both_mentions a b) (exact o u v)
m-universal_by o at a b (Some u) None n g h = m-pure (Maybe FoundOf) (open_binary o at a b) (m-open_binary o at a b n g h)
m-universal_by o at a b None y n g h = m-pure (Maybe FoundOf) (open_binary o at a b) (m-open_binary o at a b n g h)

m-universal_operation : (o : Op) (at : ℕ) (a b : Found) → IsNoPower o → FoundOf a → FoundOf b → Makes (Maybe FoundOf) (universal_operation o at a b)
unfolding universal_operation
m-universal_operation o at a b n g h = m-universal_by o at a b (value_of a.known) (value_of b.known) n g h

m-by_kinds : (o : Op) (at : ℕ) (a b : Found) (x y : Option Kind) → IsNoPower o → FoundOf a → FoundOf b → Makes (Maybe FoundOf) (by_kinds o at a b x y)
m-by_kinds o at a b None None n g h = m-universal_operation o at a b n g h
m-by_kinds o at a b None (Some k) n g h = m-typed_operation o at k k a b (inl refl) g h
m-by_kinds o at a b (Some k) None n g h = m-typed_operation o at k k a b (inl refl) g h
m-by_kinds o at a b (Some j) (Some k) n g h = m-if (Maybe FoundOf) (same j k) (typed_operation o at k k a b) (fault at WrongType) (m-typed_operation o at k k a b (inl refl) g h) (m-fault FoundOf at WrongType)

m-operation : (o : Op) (at : ℕ) (a b : Found) → IsNoPower o → FoundOf a → FoundOf b → Makes (Maybe FoundOf) (operation o at a b)
unfolding operation
m-operation o at a b n g h =
    m-if (Maybe FoundOf) (is_number a.known && is_number b.known) (by_kinds o at a b (kind_of a.known) (kind_of b.known)) (fault (operand_blamed a.known at) WrongType)
    (m-by_kinds o at a b (kind_of a.known) (kind_of b.known) n g h) (m-fault FoundOf (operand_blamed a.known at) WrongType)

pub m-binary : (o : Op) (at : ℕ) (x y : Option Found) → IsNoPower o → Maybe FoundOf x → Maybe FoundOf y → Makes (Maybe FoundOf) (binary o at x y)
unfolding binary
m-binary o at x y n g h = m-both FoundOf FoundOf FoundOf x y (operation o at) g h (λ a b p q. m-operation o at a b n p q)

-- ---- powers

open-power : (at first : ℕ) (n : TypedPart) (x : Limits × TypedPart) → AskedOf kind.Integer n → OpenOf x → FoundOf (open_power at first n x)
open-power at first n x g h k i e = (is-typed k, h k i (same-none k x.0 (typed.Binary at op.Pow class.Universal (as_expr x.1) (as_expr n)) (as_expr x.1) (λ n. refl) e), inr (refl, subst (λ y. ExprFits exponent y) (sym (with-same (class_of k) exponent (as_expr n) g)) g))

m-universal_power : (at : ℕ) (a b : Found) → FoundOf a → FoundOf b → Makes (Maybe FoundOf) (universal_power at a b)
unfolding universal_power
m-universal_power at a b g h =
    m-bind (Maybe (AskedOf kind.Integer)) (Maybe FoundOf) (asked kind.Integer b) _ (m-asked kind.Integer b h) (λ y q.
    m-given (AskedOf kind.Integer) FoundOf y _ q (λ n r.
    m-pure (Maybe FoundOf) (option_map (open_power at (first_of a.known) n) (open_of a)) (mapped OpenOf FoundOf (open_power at (first_of a.known) n) (open_of a) (open-found a g) (λ x p. open-power at (first_of a.known) n x r p))))

m-static_power : (a : Found) (u : ℤ) (b : Found) (v : ℤ) → Makes (Maybe FoundOf) (static_power a u b v)
unfolding static_power
m-static_power a u b v =
    m-bind Any (Maybe FoundOf) (fitting kind.Integer (first_of b.known) v) _ (m-kept (fitting kind.Integer (first_of b.known) v) (k-fitting spanning kind.Integer (first_of b.known) v)) (λ y q.
    m-if (Maybe FoundOf) y (static_universal (first_of a.known) (both_mentions a b) (exact op.Pow u v)) (pure None) (m-static_universal (first_of a.known) (both_mentions a b) (exact op.Pow u v)) (m-none FoundOf))

m-universal_to : (at : ℕ) (a b : Found) (x y : Option ℤ) → FoundOf a → FoundOf b → Makes (Maybe FoundOf) (universal_to at a b x y)
m-universal_to at a b (Some u) (Some v) g h = m-static_power a u b v
m-universal_to at a b (Some u) None g h = m-universal_power at a b g h
m-universal_to at a b None y g h = m-universal_power at a b g h

m-power_to : (at : ℕ) (a b : Found) (k : Option Kind) → FoundOf a → FoundOf b → Makes (Maybe FoundOf) (power_to at a b k)
m-power_to at a b (Some k) g h = m-typed_operation op.Pow at k kind.Integer a b (inr (refl, refl)) g h
m-power_to at a b None g h = m-universal_to at a b (value_of a.known) (value_of b.known) g h

pub m-power : (at : ℕ) (x y : Option Found) → Maybe FoundOf x → Maybe FoundOf y → Makes (Maybe FoundOf) (power at x y)
unfolding power
m-power at x y g h = m-both FoundOf FoundOf FoundOf x y _ g h (λ a b p q.
    m-if (Maybe FoundOf) (is_number a.known && suits kind.Integer b.known) (power_to at a b (kind_of a.known)) (fault at WrongType) (m-power_to at a b (kind_of a.known) p q) (m-fault FoundOf at WrongType))

-- ---- unary operators

m-static_unary : (s : Sign) (at : ℕ) (k : Kind) (a : Found) (z : ℤ) → Makes (Maybe FoundOf) (static_unary s at k a z)
m-static_unary s at k a z =
    m-bind Any (Maybe FoundOf) (fitting k (first_of a.known) z) _ (m-kept (fitting k (first_of a.known) z) (k-fitting spanning k (first_of a.known) z)) (λ x q.
    m-if (Maybe FoundOf) x (static_of at k a.part (signed s z)) (pure None) (m-static_of at k a.part (signed s z)) (m-none FoundOf))

m-unary_typed : (s : Sign) (at : ℕ) (k : Kind) (a : Found) (z : Option ℤ) → FoundOf a → Makes (Maybe FoundOf) (unary_typed s at k a z)
m-unary_typed s at k a (Some z) g = m-static_unary s at k a z
m-unary_typed s at k a None g =
    m-bind (Maybe (AskedOf k)) (Maybe FoundOf) (asked k a) _ (m-asked k a g) (λ x q.
    m-given (AskedOf k) FoundOf x _ q (λ n r. m-some FoundOf (scalar at k None (typed.Unary at s (class_of k) (as_expr n))) (is-typed k, r)))

m-unary_open : (s : Sign) (at : ℕ) (a : Found) (z : Option ℤ) → FoundOf a → Makes (Maybe FoundOf) (unary_open s at a z)
m-unary_open s at a (Some z) g = m-static_universal at a.part (signed s z)
m-unary_open s at a None g = m-pure (Maybe FoundOf) (option_map (open_unary s at) (open_of a)) (mapped OpenOf FoundOf (open_unary s at) (open_of a) (open-found a g) (λ x p k i e. (is-typed k, p k i (same-none k x.0 (typed.Unary at s class.Universal (as_expr x.1)) (as_expr x.1) (λ n. refl) e))))

m-unary_by : (s : Sign) (at : ℕ) (a : Found) (k : Option Kind) → FoundOf a → Makes (Maybe FoundOf) (unary_by s at a k)
m-unary_by s at a (Some k) g = m-unary_typed s at k a (value_of a.known) g
m-unary_by s at a None g = m-unary_open s at a (value_of a.known) g

pub m-unary : (s : Sign) (at : ℕ) (x : Option Found) → Maybe FoundOf x → Makes (Maybe FoundOf) (unary s at x)
unfolding unary
m-unary s at x g = m-given FoundOf FoundOf x _ g (λ a p.
    m-if (Maybe FoundOf) (is_number a.known) (unary_by s at a (kind_of a.known)) (fault at WrongType) (m-unary_by s at a (kind_of a.known) p) (m-fault FoundOf at WrongType))

m-plain_typed : (at : ℕ) (k : Kind) (a : Found) (z : Option ℤ) → FoundOf a → Makes (Maybe FoundOf) (plain_typed at k a z)
m-plain_typed at k a (Some z) g = m-static_of at k a.part (Some z)
m-plain_typed at k a None g =
    m-bind (Maybe (AskedOf k)) (Maybe FoundOf) (asked k a) _ (m-asked k a g) (λ x q.
    m-given (AskedOf k) FoundOf x _ q (λ n r. m-some FoundOf (scalar at k None (typed.Group (as_expr n))) r))

m-plain_open : (at : ℕ) (a : Found) (z : Option ℤ) → FoundOf a → Makes (Maybe FoundOf) (plain_open at a z)
m-plain_open at a (Some z) g = m-some FoundOf (universal at z false a.part) tt
m-plain_open at a None g = m-pure (Maybe FoundOf) _ (mapped OpenOf FoundOf (open_plain at) (open_of a) (open-found a g) (λ x p k i e. p k i (same-none k x.0 (typed.Group (as_expr x.1)) (as_expr x.1) (λ n. refl) e)))

m-plain_by : (at : ℕ) (a : Found) (k : Option Kind) → FoundOf a → Makes (Maybe FoundOf) (plain_by at a k)
m-plain_by at a (Some k) g = m-plain_typed at k a (value_of a.known) g
m-plain_by at a None g = m-plain_open at a (value_of a.known) g

pub m-plain : (at : ℕ) (x : Option Found) → Maybe FoundOf x → Makes (Maybe FoundOf) (plain at x)
unfolding plain
m-plain at x g = m-given FoundOf FoundOf x _ g (λ a p.
    m-if (Maybe FoundOf) (is_number a.known) (plain_by at a (kind_of a.known)) (fault at WrongType) (m-plain_by at a (kind_of a.known) p) (m-fault FoundOf at WrongType))

m-negation : (at : ℕ) (a : Found) → FoundOf a → Makes (Maybe FoundOf) (negation at a)
m-negation at a g =
    m-bind (Maybe (AskedOf kind.Boolean)) (Maybe FoundOf) (asked kind.Boolean a) _ (m-asked kind.Boolean a g) (λ x q.
    m-given (AskedOf kind.Boolean) FoundOf x _ q (λ e r. m-some FoundOf (scalar at kind.Boolean None (typed.Unary at unary'.Not class.Boolean (as_expr e))) (tt, r)))

m-complement : (at : ℕ) (a : Found) (k : Kind) → FoundOf a → Makes (Maybe FoundOf) (complement at a k)
m-complement at a k g =
    m-bind (Maybe (AskedOf k)) (Maybe FoundOf) (asked k a) _ (m-asked k a g) (λ x q.
    m-given (AskedOf k) FoundOf x _ q (λ e r. m-some FoundOf (scalar at k None (typed.Unary at unary'.Not (class_of k) (as_expr e))) (is-typed k, r)))

m-not_by : (at : ℕ) (a : Found) (k : Option Kind) → FoundOf a → Makes (Maybe FoundOf) (not_by at a k)
m-not_by at a None g = m-fault FoundOf at WrongType
m-not_by at a (Some k) g =
    m-if (Maybe FoundOf) (same k kind.Boolean) (negation at a) _ (m-negation at a g)
    (m-if (Maybe FoundOf) (is_modular k) (complement at a k) (fault at WrongType) (m-complement at a k g) (m-fault FoundOf at WrongType))

pub m-not_of : (at : ℕ) (x : Option Found) → Maybe FoundOf x → Makes (Maybe FoundOf) (not_of at x)
unfolding not_of
m-not_of at x g = m-given FoundOf FoundOf x _ g (λ a p. m-not_by at a (kind_of a.known) p)

-- ---- strings, logical operators, relations, membership

m-joined_texts : (at : ℕ) (j : Known) (ps : TypedPart) (k : Known) (qs : TypedPart) → KnownOf j ps → KnownOf k qs → Makes (Maybe FoundOf) (joined_texts at j ps k qs)
m-joined_texts at (known.Text first) ps (known.Text second) qs g h = m-some FoundOf (text_found first (also_all ps qs)) (each-all IsPiece ps qs g h)
m-joined_texts at j ps k qs g h = m-fault FoundOf at WrongType

pub m-joined_text : (at : ℕ) (x y : Option Found) → Maybe FoundOf x → Maybe FoundOf y → Makes (Maybe FoundOf) (joined_text at x y)
unfolding joined_text
m-joined_text at x y g h = m-both FoundOf FoundOf FoundOf x y _ g h (λ a b p q. m-joined_texts at a.known a.part b.known b.part p q)

m-logical_by : (o : Op) (at : ℕ) (a b : Found) (k : Kind) → FoundOf a → FoundOf b → Makes (Maybe FoundOf) (logical_by o at a b k)
m-logical_by o at a b k p q =
    m-if (Maybe FoundOf) (is_logical_kind k && (suits k a.known && suits k b.known)) (operation_on o at k k a b) (fault at WrongType)
    (m-operation_on o at k k a b (inl refl) p q) (m-fault FoundOf at WrongType)

pub m-logical : (o : Op) (at : ℕ) (x y : Option Found) → Maybe FoundOf x → Maybe FoundOf y → Makes (Maybe FoundOf) (logical o at x y)
unfolding logical
m-logical o at x y g h = m-both FoundOf FoundOf FoundOf x y _ g h (λ a b p q. m-logical_by o at a b (common_kind (kind_of a.known) (kind_of b.known)) p q)

m-compared_at : (k : Kind) (c : Comparison) (a b : Found) → FoundOf a → FoundOf b → Makes (Maybe FoundOf) (compared_at k c a b)
unfolding compared_at
m-compared_at k c a b g h =
    m-bind (Maybe (AskedOf k)) (Maybe FoundOf) (asked k a) _ (m-asked k a g) (λ x q.
    m-bind (Maybe (AskedOf k)) (Maybe FoundOf) (asked k b) _ (m-asked k b h) (λ y r.
    m-both (AskedOf k) (AskedOf k) FoundOf x y _ q r (λ e f s t. m-some FoundOf (scalar (first_of a.known) kind.Boolean None (typed.Relation (class_of k) c (as_expr e) (as_expr f))) (is-typed k, s, t))))

m-compared_by : (c : Comparison) (at : ℕ) (a b : Found) (k : Kind) → FoundOf a → FoundOf b → Makes (Maybe FoundOf) (compared_by c at a b k)
m-compared_by c at a b k g h = m-if (Maybe FoundOf) (suits k a.known && suits k b.known) (compared_at k c a b) (fault at WrongType) (m-compared_at k c a b g h) (m-fault FoundOf at WrongType)

pub m-compared : (c : Comparison) (at : ℕ) (x y : Option Found) → Maybe FoundOf x → Maybe FoundOf y → Makes (Maybe FoundOf) (compared c at x y)
unfolding compared
m-compared c at x y g h = m-both FoundOf FoundOf FoundOf x y _ g h (λ a b p q. m-compared_by c at a b (common_kind (kind_of a.known) (kind_of b.known)) p q)

m-within_bounds : (at : ℕ) (negated : Bool) (k : Kind) (x low high : Found) → FoundOf x → FoundOf low → FoundOf high → Makes (Maybe FoundOf) (within_bounds at negated k x low high)
m-within_bounds at negated k x low high f g h =
    m-if (Maybe FoundOf) (not (suits k x.known)) (fault at WrongType) _ (m-fault FoundOf at WrongType)
    (m-bind (Maybe (AskedOf k)) (Maybe FoundOf) (asked k x) _ (m-asked k x f) (λ e p.
    m-bind (Maybe (AskedOf k)) (Maybe FoundOf) (asked k low) _ (m-asked k low g) (λ l q.
    m-bind (Maybe (AskedOf k)) (Maybe FoundOf) (asked k high) _ (m-asked k high h) (λ m r.
    m-given (AskedOf k) FoundOf e _ p (λ u s. m-both (AskedOf k) (AskedOf k) FoundOf l m _ q r (λ v w t i.
    m-some FoundOf (member (first_of x.known) negated k (as_expr u) (as_expr v) (as_expr w)) (is-typed k, s, t, i)))))))

m-member_of : (at : ℕ) (negated : Bool) (a l h : Found) → FoundOf a → FoundOf l → FoundOf h → Makes (Maybe FoundOf) (member_of at negated a l h)
m-member_of at negated a l h p q r =
    m-if (Maybe FoundOf) (not (is_scalar a.known)) (fault at WrongType) _ (m-fault FoundOf at WrongType)
    (m-if (Maybe FoundOf) (not (is_scalar l.known)) (fault (first_of l.known) WrongType) _ (m-fault FoundOf (first_of l.known) WrongType)
    (m-if (Maybe FoundOf) (not (is_scalar h.known)) (fault (first_of h.known) WrongType) _ (m-fault FoundOf (first_of h.known) WrongType)
    (m-within_bounds at negated (common_kind (first_kind (kind_of a.known) (kind_of l.known)) (kind_of h.known)) a l h p q r)))

pub m-membership : (at : ℕ) (negated : Bool) (x low high : Option Found) → Maybe FoundOf x → Maybe FoundOf low → Maybe FoundOf high → Makes (Maybe FoundOf) (membership at negated x low high)
unfolding membership
m-membership at negated x low high f g h = m-given FoundOf FoundOf x _ f (λ a p. m-both FoundOf FoundOf FoundOf low high (member_of at negated a) g h (λ l m q r. m-member_of at negated a l m p q r))

pub m-of_subtype : (at : ℕ) (negated : Bool) (mark : ℕ) (x : Option Found) (s : Option Scalar) → Maybe FoundOf x → Maybe SpanOf s → Makes (Maybe FoundOf) (of_subtype at negated mark x s)
unfolding of_subtype
m-of_subtype at negated mark x s g h = m-both FoundOf SpanOf FoundOf x s _ g h (λ a t p q.
    m-if (Maybe FoundOf) (suits t.kind a.known) _ (fault at WrongType)
    (m-bind (Maybe (AskedOf t.kind)) (Maybe FoundOf) (asked t.kind a) _ (m-asked t.kind a p) (λ e r.
    m-given (AskedOf t.kind) FoundOf e _ r (λ u i.
    m-some FoundOf (member (first_of a.known) negated t.kind (as_expr u) (limit_of mark t.low) (limit_of mark t.high)) (is-typed t.kind, i, has-kept t.kind t.low q.first, has-kept t.kind t.high q.last))))
    (m-fault FoundOf at WrongType))
