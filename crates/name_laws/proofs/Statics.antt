-- Static results are exact and in their base range.
use Rattle.std.proofs.Common.{◌≡◌, ℕ, ℤ, Option, Some, None, Bool, true, false, refl, sym, ap, subst, ◌∙◌, if◌then◌else◌, ◌&&◌, ◌==◌, arith}
use Rattle.std.proofs.lemmas.Bool.Decides.{nat_tests}
use Rattle.std.proofs.lemmas.Bool.{and_parts}
use Rattle.typed_tree.specs.Decoded as part
use Rattle.ada_base.specs.Operation.{unbounded}
use Rattle.ada_base.specs.declared.operation.Op.TheVariants as op
use Rattle.ada_base.specs.declared.operation.Op.{Op}
use Rattle.typed_tree.specs.declared.expressions.Sign.TheVariants as sign
use Rattle.typed_tree.specs.declared.expressions.Sign.{Sign}
use Rattle.std.specs.Prelude.{neg_ℤ, option_map, pos, unsigned_abs}
use Rattle.typed_tree.specs.Decoded.{TypedPart, as_expr}
use Rattle.name_rules.specs.Found.{Found, opened, scalar, static, universal}
use Rattle.name_rules.specs.Judging.{Judging, both, fault, given, joined, pure, some}
use Rattle.name_rules.specs.Operators.{both_mentions, by_kinds, open_binary, open_of, open_plain, open_power, open_two, open_unary, operand_blamed, operation, operation_by, operation_on, plain, plain_by, plain_open, plain_typed, power, power_to, signed, static_of, static_operation, static_power, static_universal, typed_operation, unary, unary_by, unary_open, unary_typed, universal_by, universal_operation, universal_power, universal_to}
use Rattle.name_rules.specs.Types.{class_of, in_base, is_integer, same, kept}
use Rattle.name_rules.specs.Values.{asked, asked_form, bounded, exact, first_of, fitting, in_universal, is_number, joint, kind_in, kind_of, literal, object_value, place_asked, place_scalar, suits, value_of, valued}
use Rattle.name_rules.specs.TypedParts.{exprs_of, selections_of}
use Rattle.name_rules.specs.declared.found.Found.TheVariants as known
use Rattle.name_rules.specs.declared.found.Found.{Found as Known}
use Rattle.name_rules.specs.declared.found.Limits.{Limits}
use Rattle.name_rules.specs.declared.found.ObjectName.{ObjectName}
use Rattle.name_rules.specs.declared.log.Log.{Log}
use Rattle.name_rules.specs.declared.log.Rule.{Rule}
use Rattle.name_rules.specs.declared.log.Rule.TheVariants.{StaticRange, WrongType}
use Rattle.name_rules.specs.declared.types.Kind.TheVariants as kind
use Rattle.name_rules.specs.declared.types.Kind.{Kind}
use Rattle.name_rules.specs.declared.types.Subtype.TheVariants as subtype
use Rattle.name_rules.specs.declared.types.Subtype.{Subtype}
use Rattle.typed_tree.specs.Syntax as typed
use Rattle.typed_tree.specs.Syntax.{Selections, Expr as TypedExpr}
use Rattle.typed_tree.specs.declared.scalars.Class.TheVariants as class
use Rattle.name_laws.specs.Statics.{InBase, IsExact, IsKept, IsOf, IsSame, IsSigned, IsSignedOf, StaticLaw, signed_value}

-- whatever is found has a property
abbrev Gives : {A : Type 0} → (A → Type 0) → Judging (Option A) → Type 0
Gives {A} P j = (log : Log) (f : A) → (j log).0 ≡ Some f → P f

g-fault : {A : Type 0} (P : A → Type 0) (at : ℕ) (rule : Rule) → Gives P (fault at rule)
g-fault P at rule log f e = absurd cc

g-none : {A : Type 0} (P : A → Type 0) → Gives P (pure None)
g-none P log f e = absurd cc

g-some : {A : Type 0} (P : A → Type 0) (a : A) → P a → Gives P (some a)
g-some P a p log f e = let same : a ≡ f = cc in subst P same p

g-if : {A : Type 0} (P : A → Type 0) (b : Bool) (p q : Judging (Option A)) → (b ≡ true → Gives P p) → Gives P q → Gives P (if b then p else q)
g-if P true p q x y = x refl
g-if P false p q x y = y

g-given : {A B : Type 0} (P : B → Type 0) (x : Option A) (f : A → Judging (Option B)) → ((a : A) → Gives P (f a)) → Gives P (given x f)
g-given P None f h = g-none P
g-given P (Some a) f h = h a

g-both : {A B C : Type 0} (P : C → Type 0) (x : Option A) (y : Option B) (f : A → B → Judging (Option C)) → ((a : A) (b : B) → Gives P (f a b)) → Gives P (both x y f)
g-both P None y f h = g-none P
g-both P (Some a) None f h = g-none P
g-both P (Some a) (Some b) f h = h a b

-- ---- operators

abbrev Exactly : Op → Found → Found → Found → Type 0
Exactly o a b f = IsExact o a.known b.known f.known

of-bounded : (v : Option ℤ) (z : ℤ) → bounded v ≡ Some z → v ≡ Some z
of-bounded None z e = absurd cc
of-bounded (Some y) z e = by (in_universal y) e
  where
    by : (b : Bool) → (if b then Some y else None) ≡ Some z → Some y ≡ Some z
    by true e = e
    by false e = absurd cc

of-exact : (o : Op) (u v z : ℤ) → exact o u v ≡ Some z → unbounded o u v ≡ Some z
unfolding exact
of-exact o u v z e = of-bounded (unbounded o u v) z e

is-of : (o : Op) (a b : Found) (u v z : ℤ) → value_of a.known ≡ Some u → value_of b.known ≡ Some v → exact o u v ≡ Some z → IsOf o a.known b.known z
is-of o a b u v z e f g = record { left = u; right = v; first = e; second = f; exact = of-exact o u v z g }

static-exact : (o : Op) (k : Kind) (first : ℕ) (ms : TypedPart) (a b : Found) (u v z : ℤ) → value_of a.known ≡ Some u → value_of b.known ≡ Some v
    → exact o u v ≡ Some z → in_base k z ≡ true → Exactly o a b (static first k z ms)
static-exact o k first ms a b u v z e f g r = record {
  ranged = λ j y s t. let one : k ≡ j = cc in let two : z ≡ y = cc in ap (λ m. in_base m y) (sym one) ∙ ap (in_base k) (sym two) ∙ r;
  exact = λ y t. let two : z ≡ y = cc in is-of o a b u v y e f (g ∙ ap Some two);
}

universal-exact : (o : Op) (first : ℕ) (ms : TypedPart) (a b : Found) (u v z : ℤ) → value_of a.known ≡ Some u → value_of b.known ≡ Some v
    → exact o u v ≡ Some z → Exactly o a b (universal first z false ms)
universal-exact o first ms a b u v z e f g = record {
  ranged = λ j y s t. absurd cc;
  exact = λ y t. let two : z ≡ y = cc in is-of o a b u v y e f (g ∙ ap Some two);
}

g-static_of : (P : Found → Type 0) (first : ℕ) (k : Kind) (ms : TypedPart) (v : Option ℤ) → ((z : ℤ) → v ≡ Some z → in_base k z ≡ true → P (static first k z ms)) → Gives P (static_of first k ms v)
unfolding static_of
g-static_of P first k ms None h = g-fault P first StaticRange
g-static_of P first k ms (Some z) h = g-if P (in_base k z) (some (static first k z ms)) (fault first StaticRange) (λ e. g-some P (static first k z ms) (h z refl e)) (g-fault P first StaticRange)

g-static_universal : (P : Found → Type 0) (first : ℕ) (ms : TypedPart) (v : Option ℤ) → ((z : ℤ) → v ≡ Some z → P (universal first z false ms)) → Gives P (static_universal first ms v)
unfolding static_universal
g-static_universal P first ms None h = g-fault P first StaticRange
g-static_universal P first ms (Some z) h = g-some P (universal first z false ms) (h z refl)

g-static_operation : (o : Op) (k j : Kind) (a b : Found) (u v : ℤ) → value_of a.known ≡ Some u → value_of b.known ≡ Some v → Gives (Exactly o a b) (static_operation o k j a u b v)
unfolding static_operation
g-static_operation o k j a b u v e f log =
    let out1 = fitting k (first_of a.known) u log in
    let out2 = fitting j (first_of b.known) v out1.1 in
    g-if (Exactly o a b) (out1.0 && out2.0) (static_of (first_of a.known) k (both_mentions a b) (exact o u v)) (pure None)
    (λ _. g-static_of (Exactly o a b) (first_of a.known) k (both_mentions a b) (exact o u v) (λ z g r. static-exact o k (first_of a.known) (both_mentions a b) a b u v z e f g r))
    (g-none (Exactly o a b)) out2.1

-- what has no static value is no static result
scalar-exact : (o : Op) (a b : Found) (first : ℕ) (k : Kind) (e : TypedExpr) → Exactly o a b (scalar first k None e)
scalar-exact o a b first k e = record { ranged = λ j z s t. absurd cc; exact = λ z t. absurd cc }

open-exact : (o : Op) (a b : Found) (first : ℕ) (l : Limits) (e : TypedExpr) → Exactly o a b (opened first l e)
open-exact o a b first l e = record { ranged = λ j z s t. absurd cc; exact = λ z t. absurd cc }

g-operation_on : (o : Op) (at : ℕ) (k j : Kind) (a b : Found) → Gives (Exactly o a b) (operation_on o at k j a b)
unfolding operation_on
g-operation_on o at k j a b log =
    let out1 = asked k a log in
    let out2 = asked j b out1.1 in
    let made = λ (m n : TypedPart). typed.Binary at o (class_of k) (as_expr m) (as_expr n) in
    g-both (Exactly o a b) out1.0 out2.0 (λ m n. some (scalar (first_of a.known) k None (made m n)))
    (λ m n. g-some (Exactly o a b) (scalar (first_of a.known) k None (made m n)) (scalar-exact o a b (first_of a.known) k (made m n))) out2.1

g-operation_by : (o : Op) (at : ℕ) (k j : Kind) (a b : Found) (x y : Option ℤ) → value_of a.known ≡ x → value_of b.known ≡ y → Gives (Exactly o a b) (operation_by o at k j a b x y)
g-operation_by o at k j a b (Some u) (Some v) e f = g-static_operation o k j a b u v e f
g-operation_by o at k j a b (Some u) None e f = g-operation_on o at k j a b
g-operation_by o at k j a b None y e f = g-operation_on o at k j a b

g-typed_operation : (o : Op) (at : ℕ) (k j : Kind) (a b : Found) → Gives (Exactly o a b) (typed_operation o at k j a b)
unfolding typed_operation
g-typed_operation o at k j a b = g-operation_by o at k j a b (value_of a.known) (value_of b.known) refl refl

g-joined : (o : Op) (at : ℕ) (a b : Found) (x y : Option (Limits × TypedPart)) → Gives (Exactly o a b) (pure (joined (open_two o at (first_of a.known)) x y))
g-joined o at a b (Some x) (Some y) = g-some (Exactly o a b) (open_two o at (first_of a.known) x y) (open-exact o a b (first_of a.known) (joint x.0 y.0) (typed.Binary at o class.Universal (as_expr x.1) (as_expr y.1)))
g-joined o at a b (Some x) None = g-none (Exactly o a b)
g-joined o at a b None y = g-none (Exactly o a b)

g-open : (o : Op) (at : ℕ) (a b : Found) → Gives (Exactly o a b) (pure (open_binary o at a b))
unfolding open_binary
g-open o at a b = g-joined o at a b (open_of a) (open_of b)

g-universal_by : (o : Op) (at : ℕ) (a b : Found) (x y : Option ℤ) → value_of a.known ≡ x → value_of b.known ≡ y → Gives (Exactly o a b) (universal_by o at a b x y)
g-universal_by o at a b (Some u) (Some v) e f = g-static_universal (Exactly o a b) (first_of a.known) (both_mentions a b) (exact o u v) (λ z g. universal-exact o (first_of a.known) (both_mentions a b) a b u v z e f g)
g-universal_by o at a b (Some u) None e f = g-open o at a b
g-universal_by o at a b None y e f = g-open o at a b

g-universal_operation : (o : Op) (at : ℕ) (a b : Found) → Gives (Exactly o a b) (universal_operation o at a b)
unfolding universal_operation
g-universal_operation o at a b = g-universal_by o at a b (value_of a.known) (value_of b.known) refl refl

g-by_kinds : (o : Op) (at : ℕ) (a b : Found) (x y : Option Kind) → Gives (Exactly o a b) (by_kinds o at a b x y)
g-by_kinds o at a b None None = g-universal_operation o at a b
g-by_kinds o at a b None (Some k) = g-typed_operation o at k k a b
g-by_kinds o at a b (Some k) None = g-typed_operation o at k k a b
g-by_kinds o at a b (Some j) (Some k) = g-if (Exactly o a b) (same j k) (typed_operation o at k k a b) (fault at WrongType) (λ _. g-typed_operation o at k k a b) (g-fault (Exactly o a b) at WrongType)

g-operation : (o : Op) (at : ℕ) (a b : Found) → Gives (Exactly o a b) (operation o at a b)
unfolding operation
g-operation o at a b = g-if (Exactly o a b) (is_number a.known && is_number b.known) (by_kinds o at a b (kind_of a.known) (kind_of b.known)) (fault (operand_blamed a.known at) WrongType) (λ _. g-by_kinds o at a b (kind_of a.known) (kind_of b.known)) (g-fault (Exactly o a b) (operand_blamed a.known at) WrongType)

-- ---- powers

g-open-power : (at : ℕ) (a b : Found) (n : TypedPart) (x : Option (Limits × TypedPart)) → Gives (Exactly op.Pow a b) (pure (option_map (open_power at (first_of a.known) n) x))
g-open-power at a b n (Some x) = g-some (Exactly op.Pow a b) (open_power at (first_of a.known) n x) (open-exact op.Pow a b (first_of a.known) x.0 (typed.Binary at op.Pow class.Universal (as_expr x.1) (as_expr n)))
g-open-power at a b n None = g-none (Exactly op.Pow a b)

g-universal_power : (at : ℕ) (a b : Found) → Gives (Exactly op.Pow a b) (universal_power at a b)
unfolding universal_power
g-universal_power at a b log =
    let out1 = asked kind.Integer b log in
    g-given (Exactly op.Pow a b) out1.0 (λ n. pure (option_map (open_power at (first_of a.known) n) (open_of a))) (λ n. g-open-power at a b n (open_of a)) out1.1

g-static_power : (a b : Found) (u v : ℤ) → value_of a.known ≡ Some u → value_of b.known ≡ Some v → Gives (Exactly op.Pow a b) (static_power a u b v)
unfolding static_power
g-static_power a b u v e f log =
    let out1 = fitting kind.Integer (first_of b.known) v log in
    g-if (Exactly op.Pow a b) out1.0 (static_universal (first_of a.known) (both_mentions a b) (exact op.Pow u v)) (pure None)
    (λ _. g-static_universal (Exactly op.Pow a b) (first_of a.known) (both_mentions a b) (exact op.Pow u v) (λ z g. universal-exact op.Pow (first_of a.known) (both_mentions a b) a b u v z e f g))
    (g-none (Exactly op.Pow a b)) out1.1

g-universal_to : (at : ℕ) (a b : Found) (x y : Option ℤ) → value_of a.known ≡ x → value_of b.known ≡ y → Gives (Exactly op.Pow a b) (universal_to at a b x y)
g-universal_to at a b (Some u) (Some v) e f = g-static_power a b u v e f
g-universal_to at a b (Some u) None e f = g-universal_power at a b
g-universal_to at a b None y e f = g-universal_power at a b

g-power_to : (at : ℕ) (a b : Found) (x : Option Kind) → Gives (Exactly op.Pow a b) (power_to at a b x)
g-power_to at a b (Some k) = g-typed_operation op.Pow at k kind.Integer a b
g-power_to at a b None = g-universal_to at a b (value_of a.known) (value_of b.known) refl refl

g-power : (at : ℕ) (a b : Found) → Gives (Exactly op.Pow a b) (power at (Some a) (Some b))
unfolding power
g-power at a b = g-if (Exactly op.Pow a b) (is_number a.known && suits kind.Integer b.known) (power_to at a b (kind_of a.known)) (fault at WrongType) (λ _. g-power_to at a b (kind_of a.known)) (g-fault (Exactly op.Pow a b) at WrongType)

-- ---- `-`, `abs` and `+`

abbrev Signs : Sign → Found → Found → Type 0
Signs s a f = IsSigned s a.known f.known

of-signed : (s : Sign) (u z : ℤ) → signed s u ≡ Some z → signed_value s u ≡ Some z
unfolding signed
of-signed sign.Minus u z e = of-bounded (Some (neg_ℤ u)) z e
of-signed sign.Abs u z e = of-bounded (Some (pos (unsigned_abs u))) z e
of-signed sign.Not u z e = absurd cc

signed-of : (s : Sign) (a : Found) (u z : ℤ) → value_of a.known ≡ Some u → signed s u ≡ Some z → IsSignedOf s a.known z
signed-of s a u z e g = record { operand = u; value = e; exact = of-signed s u z g }

g-unary_typed : (s : Sign) (at : ℕ) (k : Kind) (a : Found) (x : Option ℤ) → value_of a.known ≡ x → Gives (Signs s a) (unary_typed s at k a x)
g-unary_typed s at k a (Some u) e log =
    let out1 = fitting k (first_of a.known) u log in
    g-if (Signs s a) out1.0 (static_of at k a.part (signed s u)) (pure None)
    (λ _. g-static_of (Signs s a) at k a.part (signed s u) (λ z g r. record {
      ranged = λ j y p t. let one : k ≡ j = cc in let two : z ≡ y = cc in ap (λ m. in_base m y) (sym one) ∙ ap (in_base k) (sym two) ∙ r;
      exact = λ y t. let two : z ≡ y = cc in signed-of s a u y e (g ∙ ap Some two);
    }))
    (g-none (Signs s a)) out1.1
g-unary_typed s at k a None e log =
    let out1 = asked k a log in
    let made = λ (n : TypedPart). scalar at k None (typed.Unary at s (class_of k) (as_expr n)) in
    g-given (Signs s a) out1.0 (λ n. some (made n)) (λ n. g-some (Signs s a) (made n) (record { ranged = λ j y p t. absurd cc; exact = λ y t. absurd cc })) out1.1

g-open-unary : (s : Sign) (at : ℕ) (a : Found) (x : Option (Limits × TypedPart)) → Gives (Signs s a) (pure (option_map (open_unary s at) x))
g-open-unary s at a (Some x) = g-some (Signs s a) (open_unary s at x) (record { ranged = λ j y p t. absurd cc; exact = λ y t. absurd cc })
g-open-unary s at a None = g-none (Signs s a)

g-unary_open : (s : Sign) (at : ℕ) (a : Found) (x : Option ℤ) → value_of a.known ≡ x → Gives (Signs s a) (unary_open s at a x)
g-unary_open s at a (Some u) e = g-static_universal (Signs s a) at a.part (signed s u) (λ z g. record { ranged = λ j y p t. absurd cc; exact = λ y t. let two : z ≡ y = cc in signed-of s a u y e (g ∙ ap Some two) })
g-unary_open s at a None e = g-open-unary s at a (open_of a)

g-unary_by : (s : Sign) (at : ℕ) (a : Found) (x : Option Kind) → Gives (Signs s a) (unary_by s at a x)
g-unary_by s at a (Some k) = g-unary_typed s at k a (value_of a.known) refl
g-unary_by s at a None = g-unary_open s at a (value_of a.known) refl

g-unary : (s : Sign) (at : ℕ) (a : Found) → Gives (Signs s a) (unary s at (Some a))
unfolding unary
g-unary s at a = g-if (Signs s a) (is_number a.known) (unary_by s at a (kind_of a.known)) (fault at WrongType) (λ _. g-unary_by s at a (kind_of a.known)) (g-fault (Signs s a) at WrongType)

abbrev Stays : Found → Found → Type 0
Stays a f = IsSame a.known f.known

abbrev plain-made : ℕ → Kind → TypedPart → Found
plain-made at k n = scalar at k None (typed.Group (as_expr n))

g-plain-open : (at : ℕ) (a : Found) (x : Option (Limits × TypedPart)) → Gives (Stays a) (pure (option_map (open_plain at) x))
g-plain-open at a (Some x) = g-some (Stays a) (open_plain at x) (record { ranged = λ j y p t. absurd cc; exact = λ y t. absurd cc })
g-plain-open at a None = g-none (Stays a)

g-plain_typed : (at : ℕ) (k : Kind) (a : Found) (x : Option ℤ) → value_of a.known ≡ x → Gives (Stays a) (plain_typed at k a x)
g-plain_typed at k a (Some u) e log = g-static_of (Stays a) at k a.part (Some u) (λ z g r. record {
  ranged = λ j y p t. let one : k ≡ j = cc in let two : z ≡ y = cc in ap (λ m. in_base m y) (sym one) ∙ ap (in_base k) (sym two) ∙ r;
  exact = λ y t. let two : z ≡ y = cc in e ∙ g ∙ ap Some two;
}) log
g-plain_typed at k a None e log =
    let out1 = asked k a log in
    let made = λ (n : TypedPart). plain-made at k n in
    g-given (Stays a) out1.0 (λ n. some (made n)) (λ n. g-some (Stays a) (made n) (record { ranged = λ j y p t. absurd cc; exact = λ y t. absurd cc })) out1.1

g-plain_open : (at : ℕ) (a : Found) (x : Option ℤ) → value_of a.known ≡ x → Gives (Stays a) (plain_open at a x)
g-plain_open at a (Some u) e = g-some (Stays a) (universal at u false a.part) (record { ranged = λ j y p t. absurd cc; exact = λ y t. let two : u ≡ y = cc in e ∙ ap Some two })
g-plain_open at a None e = g-plain-open at a (open_of a)

g-plain_by : (at : ℕ) (a : Found) (x : Option Kind) → Gives (Stays a) (plain_by at a x)
g-plain_by at a (Some k) = g-plain_typed at k a (value_of a.known) refl
g-plain_by at a None = g-plain_open at a (value_of a.known) refl

g-plain : (at : ℕ) (a : Found) → Gives (Stays a) (plain at (Some a))
unfolding plain
g-plain at a = g-if (Stays a) (is_number a.known) (plain_by at a (kind_of a.known)) (fault at WrongType) (λ _. g-plain_by at a (kind_of a.known)) (g-fault (Stays a) at WrongType)

-- ---- places that ask for a type

pub nat-same : (j k : ℕ) → (j == k) ≡ true → j ≡ k
nat-same j k e = grind (arith, nat_tests)

pub same-base : (j k : Kind) (z : ℤ) → same j k ≡ true → in_base j z ≡ in_base k z
same-base kind.Boolean kind.Boolean z e = refl
same-base kind.Integer kind.Integer z e = refl
same-base (kind.Own m) (kind.Own n) z e = refl
same-base kind.Boolean kind.Integer z e = absurd cc
same-base kind.Boolean (kind.Own n) z e = absurd cc
same-base kind.Integer kind.Boolean z e = absurd cc
same-base kind.Integer (kind.Own n) z e = absurd cc
same-base (kind.Own m) kind.Boolean z e = absurd cc
same-base (kind.Own m) kind.Integer z e = absurd cc
same-base kind.Boolean (kind.Modular n k) z e = absurd cc
same-base kind.Integer (kind.Modular n k) z e = absurd cc
same-base (kind.Own m) (kind.Modular n k) z e = absurd cc
same-base (kind.Modular m j) kind.Boolean z e = absurd cc
same-base (kind.Modular m j) kind.Integer z e = absurd cc
same-base (kind.Modular m j) (kind.Own n) z e = absurd cc
same-base (kind.Modular m j) (kind.Modular n k) z e = ap (λ i. in_base (kind.Modular n i) z) (nat-same j k (and_parts (m == n) (j == k) e).1)

pub same-kept : (j k : Kind) (z : ℤ) → same j k ≡ true → kept j z ≡ kept k z
same-kept kind.Boolean kind.Boolean z e = refl
same-kept kind.Integer kind.Integer z e = refl
same-kept (kind.Own m) (kind.Own n) z e = refl
same-kept kind.Boolean kind.Integer z e = absurd cc
same-kept kind.Boolean (kind.Own n) z e = absurd cc
same-kept kind.Integer kind.Boolean z e = absurd cc
same-kept kind.Integer (kind.Own n) z e = absurd cc
same-kept (kind.Own m) kind.Boolean z e = absurd cc
same-kept (kind.Own m) kind.Integer z e = absurd cc
same-kept kind.Boolean (kind.Modular n k) z e = absurd cc
same-kept kind.Integer (kind.Modular n k) z e = absurd cc
same-kept (kind.Own m) (kind.Modular n k) z e = absurd cc
same-kept (kind.Modular m j) kind.Boolean z e = absurd cc
same-kept (kind.Modular m j) kind.Integer z e = absurd cc
same-kept (kind.Modular m j) (kind.Own n) z e = absurd cc
same-kept (kind.Modular m j) (kind.Modular n k) z e = refl

abbrev Kept : Kind → ℤ → TypedPart → Type 0
Kept k z x = IsKept k x z

of-literal : (k : Kind) (first : ℕ) (z : ℤ) (alone : Bool) (ms : TypedPart) → in_base k z ≡ true → Kept k z (literal first (kept k z) alone ms)
of-literal k first z alone ms r = record { value = record { at = first; alone = alone; mentions = exprs_of ms; same = refl }; ranged = r }

g-valued : (k : Kind) (first : ℕ) (z : ℤ) (alone : Bool) (ms : TypedPart) → Gives (Kept k z) (valued k first z alone ms)
unfolding valued
g-valued k first z alone ms = g-if (Kept k z) (in_base k z) (some (literal first (kept k z) alone ms)) (fault first StaticRange) (λ r. g-some (Kept k z) (literal first (kept k z) alone ms) (of-literal k first z alone ms r)) (g-fault (Kept k z) first StaticRange)

g-place : (k : Kind) (p : ObjectName) (ss : Selections) (s : Subtype) (z : ℤ) → p.value ≡ Some z → Gives (Kept k z) (place_asked k p ss s)
g-place k p ss (subtype.Composite n) z v = g-fault (Kept k z) p.first WrongType
g-place k p ss (subtype.Scalar s) z v =
    g-if (Kept k z) (same s.kind k) (object_value k p ss s p.value) (fault p.first WrongType)
    (λ _. subst (λ w. Gives (Kept k z) (object_value k p ss s w)) (sym v) (g-valued k p.first z false part.Nothing))
    (g-fault (Kept k z) p.first WrongType)

g-form : (k : Kind) (f : Known) (x : TypedPart) (z : ℤ) → InBase f → value_of f ≡ Some z → Gives (Kept k z) (asked_form k f x)
g-form k (known.Universal first y alone) x z h v =
    let two : y ≡ z = cc in
    subst (λ w. Gives (Kept k w) (asked_form k (known.Universal first y alone) x)) two
    (g-if (Kept k y) (is_integer k) (valued k first y alone x) (fault first WrongType) (λ _. g-valued k first y alone x) (g-fault (Kept k y) first WrongType))
g-form k (known.Static first j y) x z h v =
    let two : y ≡ z = cc in
    subst (λ w. Gives (Kept k w) (asked_form k (known.Static first j y) x)) two
    (g-if (Kept k y) (same j k) (valued k first y false x) (fault first WrongType) (λ _. g-valued k first y false x) (g-fault (Kept k y) first WrongType))
g-form k (known.Object p) x z h v = g-place k p (selections_of x) p.subtype z v
g-form k (known.Open first l) x z h v = absurd cc
g-form k (known.Scalar first j n) x z h v = absurd cc
g-form k (known.Composite first n) x z h v = absurd cc
g-form k (known.Rest first) x z h v = absurd cc
g-form k (known.Text first) x z h v = absurd cc

g-asked : (k : Kind) (f : Found) (z : ℤ) → InBase f.known → value_of f.known ≡ Some z → Gives (Kept k z) (asked k f)
unfolding asked
g-asked k f z h v = g-form k f.known f.part z h v

pub static_law : StaticLaw
static_law = record {
  operators = λ o at a b f log e. g-operation o at a b log f e;
  powers = λ at a b f log e. g-power at a b log f e;
  signs = λ s at a f log e. g-unary s at a log f e;
  pluses = λ at a f log e. g-plain at a log f e;
  places = λ k f x z log h v e. g-asked k f z h v log x e;
}
