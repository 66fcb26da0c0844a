-- Judging that gives out sites: operators.
use Rattle.ada_base.specs.declared.operation.Op.TheVariants as op
use Rattle.ada_base.specs.declared.operation.Op.{Op}
use Rattle.name_rules.specs.Found.{Found, scalar, static, text_found, universal}
use Rattle.name_rules.specs.Judging.{both, fault, given, pure, some, ◌>>=◌}
use Rattle.name_rules.specs.Types.{class_of, in_base, same, is_modular}
use Rattle.name_rules.specs.Values.{asked, exact, first_of, fitting, is_number, is_scalar, joint, kind_of, mentions_of, suits, value_of}
use Rattle.name_rules.specs.declared.found.Found.TheVariants as known
use Rattle.name_rules.specs.declared.found.Found.{Found as Known}
use Rattle.name_rules.specs.declared.found.Limits.{Limits}
use Rattle.name_rules.specs.declared.log.Rule.TheVariants.{StaticRange, WrongType}
use Rattle.name_rules.specs.declared.types.Kind.TheVariants as kind
use Rattle.name_rules.specs.declared.types.Kind.{Kind}
use Rattle.name_rules.specs.declared.types.Scalar.{Scalar}
use Rattle.typed_tree.specs.Syntax as typed
use Rattle.typed_tree.specs.Syntax.{Expr as TypedExpr}
use Rattle.typed_tree.specs.declared.expressions.Sign.TheVariants as unary'
use Rattle.typed_tree.specs.declared.expressions.Sign.{Sign as Unary}
use Rattle.typed_tree.specs.declared.scalars.Class.TheVariants as class
use Rattle.ada_base.specs.declared.operation.Comparison.{Comparison}
use Rattle.std.specs.Prelude.{Bool, None, Option, Some, false, if◌then◌else◌, not, option_map, ℕ, ℤ, ◌&&◌, ◌+◌}
use Rattle.name_rules.specs.TypedParts.{also_all}
use Rattle.typed_tree.specs.Decoded.{TypedPart, as_expr}
use Rattle.name_rules.specs.Operators.{binary, both_mentions, by_kinds, common_kind, compared, compared_at, compared_by, first_kind, joined_text, joined_texts, leaf, limit_of, logical, member, member_of, membership, negation, not_of, of_subtype, open_binary, open_form, open_of, open_plain, open_power, open_two, open_unary, operand_blamed, operation, operation_by, operation_on, plain, plain_by, plain_open, plain_typed, power, power_to, signed, static_of, static_operation, static_power, static_unary, static_universal, typed_operation, unary, unary_by, unary_open, unary_typed, universal_by, universal_operation, universal_power, universal_to, within_bounds, complement, not_by, is_logical_kind, logical_by}
use Rattle.std.proofs.Common.{arith}
use Rattle.name_laws.proofs.KeepsValues.{k-fitting}
use Rattle.name_sites.proofs.SpendsFound.{z-opened, z-scalar, z-static, z-text_found, z-universal}
use Rattle.name_sites.proofs.SpendsValues.{s-asked, z-mentions_of}
use Rattle.name_sites.proofs.Leaving.{leaving}
use Rattle.name_sites.proofs.Measures.{counted-by, maybe-known, maybe-part, option-of, part-measure, part-size, second-of, with-part}
use Rattle.name_sites.proofs.Parts.{n-also_all, n-expr, n-exprs_of, w-also_all}
use Rattle.name_sites.proofs.Spends.{Holds, Spends, h-joined, h-map, s-bind, s-both, s-both-first, s-fault, s-given, s-if, s-le, s-pure, s-some, s-then}
use Rattle.name_sites.proofs.Counts.{in_expr}

pub s-static_of : (which : ℕ) (x0 : ℕ) (x1 : Kind) (x2 : TypedPart) (x3 : Option ℤ) → (part-measure which).Whole x2 → Spends which (maybe-known which) (part-size which x2) (static_of x0 x1 x2 x3)
unfolding static_of
s-static_of which first k ms None h2 = s-fault which (with-part which) _ first StaticRange
s-static_of which first k ms (Some z) h2 =
    s-if which (maybe-known which) _ (in_base k z) (some (static first k z ms)) (fault first StaticRange)
    (s-some which (with-part which) _ (static first k z ms) (let made1 = z-static which first k z ms h2 in
    (made1.0, omega (arith, made1.1))))
    (s-fault which (with-part which) _ first StaticRange)

pub s-static_universal : (which : ℕ) (x0 : ℕ) (x1 : TypedPart) (x2 : Option ℤ) → (part-measure which).Whole x1 → Spends which (maybe-known which) (part-size which x1) (static_universal x0 x1 x2)
unfolding static_universal
s-static_universal which first ms None h1 = s-fault which (with-part which) _ first StaticRange
s-static_universal which first ms (Some z) h1 =
    s-some which (with-part which) _ (universal first z false ms) (let made1 = z-universal which first z false ms h1 in
    (made1.0, omega (arith, made1.1)))

pub z-both_mentions : (which : ℕ) (x0 : Found) (x1 : Found) → (with-part which).Whole x0 → (with-part which).Whole x1 → Holds (part-measure which) (part-size which x0.part + part-size which x1.part) (both_mentions x0 x1)
z-both_mentions which a b h0 h1 =
    let made1 = z-mentions_of which a h0 in
    let made2 = z-mentions_of which b h1 in
    (w-also_all which (mentions_of a) (mentions_of b) made1.0 made2.0, omega (arith, n-also_all which (mentions_of a) (mentions_of b), made1.1, made2.1))

pub s-static_operation : (which : ℕ) (x0 : Op) (x1 : Kind) (x2 : Kind) (x3 : Found) (x4 : ℤ) (x5 : Found) (x6 : ℤ) → (with-part which).Whole x3 → (with-part which).Whole x5 → Spends which (maybe-known which) (part-size which x3.part + part-size which x5.part) (static_operation x0 x1 x2 x3 x4 x5 x6)
unfolding static_operation
s-static_operation which o k j a u b v h3 h5 =
    s-then which (maybe-known which) _ (fitting k (first_of a.known) u) _ (k-fitting leaving k (first_of a.known) u) (λ x.
    s-then which (maybe-known which) _ (fitting j (first_of b.known) v) _ (k-fitting leaving j (first_of b.known) v) (λ y.
    s-if which (maybe-known which) _ (x && y) (static_of (first_of a.known) k (both_mentions a b) (exact o u v)) (pure None)
    (let made3 = z-both_mentions which a b h3 h5 in
    s-le which (maybe-known which) _ _ _ (s-static_of which (first_of a.known) k (both_mentions a b) (exact o u v) made3.0) (omega (arith, made3.1)))
    (s-pure which (maybe-known which) _ None (tt, omega arith))))

pub s-operation_on : (which : ℕ) (x0 : Op) (x1 : ℕ) (x2 : Kind) (x3 : Kind) (x4 : Found) (x5 : Found) → (with-part which).Whole x4 → (with-part which).Whole x5 → Spends which (maybe-known which) (part-size which x4.part + part-size which x5.part) (operation_on x0 x1 x2 x3 x4 x5)
unfolding operation_on
s-operation_on which o at k j a b h4 h5 =
    s-bind which (maybe-part which) (maybe-known which) (part-size which a.part) (part-size which b.part) _ (asked k a) _ (s-le which (maybe-part which) _ _ _ (s-asked which k a h4) (omega arith)) (omega arith) (λ x held1.
    s-bind which (maybe-part which) (maybe-known which) (part-size which b.part) ((maybe-part which).size x) _ (asked j b) _ (s-le which (maybe-part which) _ _ _ (s-asked which j b h5) (omega arith)) (omega arith) (λ y held2.
    s-both which (part-measure which) (part-measure which) (with-part which) 0 _ x y _ held1 held2 (omega arith) (λ m held3 n held4.
    s-some which (with-part which) _ (scalar (first_of a.known) k None (typed.Binary at o (class_of k) (as_expr m) (as_expr n))) (let made5 = z-scalar which (first_of a.known) k None (typed.Binary at o (class_of k) (as_expr m) (as_expr n)) tt in
    (made5.0, omega (arith, made5.1, n-expr which m, n-expr which n))))))

pub s-operation_by : (which : ℕ) (x0 : Op) (x1 : ℕ) (x2 : Kind) (x3 : Kind) (x4 : Found) (x5 : Found) (x6 : Option ℤ) (x7 : Option ℤ) → (with-part which).Whole x4 → (with-part which).Whole x5 → Spends which (maybe-known which) (part-size which x4.part + part-size which x5.part) (operation_by x0 x1 x2 x3 x4 x5 x6 x7)
s-operation_by which o at k j a b (Some u) (Some v) h4 h5 = s-le which (maybe-known which) _ _ _ (s-static_operation which o k j a u b v h4 h5) (omega arith)
s-operation_by which o at k j a b any1 any2 h4 h5 = s-le which (maybe-known which) _ _ _ (s-operation_on which o at k j a b h4 h5) (omega arith)

pub s-typed_operation : (which : ℕ) (x0 : Op) (x1 : ℕ) (x2 : Kind) (x3 : Kind) (x4 : Found) (x5 : Found) → (with-part which).Whole x4 → (with-part which).Whole x5 → Spends which (maybe-known which) (part-size which x4.part + part-size which x5.part) (typed_operation x0 x1 x2 x3 x4 x5)
unfolding typed_operation
s-typed_operation which o at k j a b h4 h5 = s-le which (maybe-known which) _ _ _ (s-operation_by which o at k j a b (value_of a.known) (value_of b.known) h4 h5) (omega arith)

pub z-leaf : (which : ℕ) (x0 : ℕ) (x1 : ℤ) (x2 : TypedPart) → (part-measure which).Whole x2 → Holds (counted-by (λ x. in_expr which x)) (part-size which x2) (leaf x0 x1 x2)
z-leaf which first z ms h2 = (tt, omega (arith, n-exprs_of which ms))

pub z-open_form : (which : ℕ) (x0 : Known) (x1 : TypedPart) → (part-measure which).Whole x1 → Holds (option-of (second-of (part-measure which))) (part-size which x1) (open_form x0 x1)
z-open_form which (known.Universal first z alone) x h1 =
    let made1 = z-leaf which first z x h1 in
    (tt, omega (arith, made1.1))
z-open_form which (known.Open first l) x h1 = (h1, omega arith)
z-open_form which any1 x h1 = (tt, omega arith)

pub z-open_of : (which : ℕ) (x0 : Found) → (with-part which).Whole x0 → Holds (option-of (second-of (part-measure which))) (part-size which x0.part) (open_of x0)
unfolding open_of
z-open_of which f h0 =
    let made1 = z-open_form which f.known f.part h0 in
    (made1.0, omega (arith, made1.1))

pub z-open_two : (which : ℕ) (x0 : Op) (x1 : ℕ) (x2 : ℕ) (x3 : Limits × TypedPart) (x4 : Limits × TypedPart) → (part-measure which).Whole x3.1 → (part-measure which).Whole x4.1 → Holds (with-part which) (part-size which x3.1 + part-size which x4.1) (open_two x0 x1 x2 x3 x4)
z-open_two which o at first x y h3-1 h4-1 =
    let made1 = z-opened which first (joint x.0 y.0) (typed.Binary at o class.Universal (as_expr x.1) (as_expr y.1)) tt in
    (made1.0, omega (arith, made1.1, n-expr which x.1, n-expr which y.1))

pub z-open_binary : (which : ℕ) (x0 : Op) (x1 : ℕ) (x2 : Found) (x3 : Found) → (with-part which).Whole x2 → (with-part which).Whole x3 → Holds (maybe-known which) (part-size which x2.part + part-size which x3.part) (open_binary x0 x1 x2 x3)
unfolding open_binary
z-open_binary which o at a b h2 h3 =
    let made4 = z-open_of which a h2 in
    let made5 = z-open_of which b h3 in
    let made6 = h-joined (second-of (part-measure which)) (second-of (part-measure which)) (with-part which) 0 (open_two o at (first_of a.known)) (open_of a) (open_of b) made4.0 made5.0 (λ one held1 other held2. let made3 = z-open_two which o at (first_of a.known) one other held1 held2 in
    (made3.0, omega (arith, made3.1))) in
    (made6.0, omega (arith, made6.1, made4.1, made5.1))

pub s-universal_by : (which : ℕ) (x0 : Op) (x1 : ℕ) (x2 : Found) (x3 : Found) (x4 : Option ℤ) (x5 : Option ℤ) → (with-part which).Whole x2 → (with-part which).Whole x3 → Spends which (maybe-known which) (part-size which x2.part + part-size which x3.part) (universal_by x0 x1 x2 x3 x4 x5)
s-universal_by which o at a b (Some u) (Some v) h2 h3 =
    let made1 = z-both_mentions which a b h2 h3 in
    s-le which (maybe-known which) _ _ _ (s-static_universal which (first_of a.known) (both_mentions a b) (exact o u v) made1.0) (omega (arith, made1.1))
s-universal_by which o at a b any1 any2 h2 h3 =
    s-pure which (maybe-known which) _ (open_binary o at a b) (let made3 = z-open_binary which o at a b h2 h3 in
    (made3.0, omega (arith, made3.1)))

pub s-universal_operation : (which : ℕ) (x0 : Op) (x1 : ℕ) (x2 : Found) (x3 : Found) → (with-part which).Whole x2 → (with-part which).Whole x3 → Spends which (maybe-known which) (part-size which x2.part + part-size which x3.part) (universal_operation x0 x1 x2 x3)
unfolding universal_operation
s-universal_operation which o at a b h2 h3 = s-le which (maybe-known which) _ _ _ (s-universal_by which o at a b (value_of a.known) (value_of b.known) h2 h3) (omega arith)

pub s-by_kinds : (which : ℕ) (x0 : Op) (x1 : ℕ) (x2 : Found) (x3 : Found) (x4 : Option Kind) (x5 : Option Kind) → (with-part which).Whole x2 → (with-part which).Whole x3 → Spends which (maybe-known which) (part-size which x2.part + part-size which x3.part) (by_kinds x0 x1 x2 x3 x4 x5)
s-by_kinds which o at a b None None h2 h3 = s-le which (maybe-known which) _ _ _ (s-universal_operation which o at a b h2 h3) (omega arith)
s-by_kinds which o at a b None (Some k) h2 h3 = s-le which (maybe-known which) _ _ _ (s-typed_operation which o at k k a b h2 h3) (omega arith)
s-by_kinds which o at a b (Some k) None h2 h3 = s-le which (maybe-known which) _ _ _ (s-typed_operation which o at k k a b h2 h3) (omega arith)
s-by_kinds which o at a b (Some j) (Some k) h2 h3 =
    s-if which (maybe-known which) _ (same j k) (typed_operation o at k k a b) (fault at WrongType)
    (s-le which (maybe-known which) _ _ _ (s-typed_operation which o at k k a b h2 h3) (omega arith))
    (s-fault which (with-part which) _ at WrongType)

pub s-operation : (which : ℕ) (x0 : Op) (x1 : ℕ) (x2 : Found) (x3 : Found) → (with-part which).Whole x2 → (with-part which).Whole x3 → Spends which (maybe-known which) (part-size which x2.part + part-size which x3.part) (operation x0 x1 x2 x3)
unfolding operation
s-operation which o at a b h2 h3 =
    s-if which (maybe-known which) _ (is_number a.known && is_number b.known) (by_kinds o at a b (kind_of a.known) (kind_of b.known)) (fault (operand_blamed a.known at) WrongType)
    (s-le which (maybe-known which) _ _ _ (s-by_kinds which o at a b (kind_of a.known) (kind_of b.known) h2 h3) (omega arith))
    (s-fault which (with-part which) _ (operand_blamed a.known at) WrongType)

pub s-binary : (which : ℕ) (x0 : Op) (x1 : ℕ) (x2 : Option Found) (x3 : Option Found) → (maybe-known which).Whole x2 → (maybe-known which).Whole x3 → Spends which (maybe-known which) ((maybe-known which).size x2 + (maybe-known which).size x3) (binary x0 x1 x2 x3)
unfolding binary
s-binary which o at x y h2 h3 =
    s-both which (with-part which) (with-part which) (with-part which) 0 _ x y _ h2 h3 (omega arith) (λ one held1 other held2.
    s-le which (maybe-known which) _ _ _ (s-operation which o at one other held1 held2) (omega arith))

pub z-open_power : (which : ℕ) (x0 : ℕ) (x1 : ℕ) (x2 : TypedPart) (x3 : Limits × TypedPart) → (part-measure which).Whole x2 → (part-measure which).Whole x3.1 → Holds (with-part which) (part-size which x2 + part-size which x3.1) (open_power x0 x1 x2 x3)
z-open_power which at first n x h2 h3-1 =
    let made1 = z-opened which first x.0 (typed.Binary at op.Pow class.Universal (as_expr x.1) (as_expr n)) tt in
    (made1.0, omega (arith, made1.1, n-expr which x.1, n-expr which n))

pub s-universal_power : (which : ℕ) (x0 : ℕ) (x1 : Found) (x2 : Found) → (with-part which).Whole x1 → (with-part which).Whole x2 → Spends which (maybe-known which) (part-size which x1.part + part-size which x2.part) (universal_power x0 x1 x2)
unfolding universal_power
s-universal_power which at a b h1 h2 =
    s-bind which (maybe-part which) (maybe-known which) (part-size which b.part) (part-size which a.part) _ (asked kind.Integer b) _ (s-le which (maybe-part which) _ _ _ (s-asked which kind.Integer b h2) (omega arith)) (omega arith) (λ y held1.
    s-given which (part-measure which) (with-part which) (part-size which a.part) _ y _ held1 (omega arith) (λ n held2.
    s-pure which (maybe-known which) _ (option_map (open_power at (first_of a.known) n) (open_of a)) (let made5 = z-open_of which a h1 in
    let made6 = h-map (second-of (part-measure which)) (with-part which) (part-size which n) (open_power at (first_of a.known) n) (open_of a) made5.0 (λ item held3. let made4 = z-open_power which at (first_of a.known) n item held2 held3 in
    (made4.0, omega (arith, made4.1))) in
    (made6.0, omega (arith, made6.1, made5.1)))))

pub s-static_power : (which : ℕ) (x0 : Found) (x1 : ℤ) (x2 : Found) (x3 : ℤ) → (with-part which).Whole x0 → (with-part which).Whole x2 → Spends which (maybe-known which) (part-size which x0.part + part-size which x2.part) (static_power x0 x1 x2 x3)
unfolding static_power
s-static_power which a u b v h0 h2 =
    s-then which (maybe-known which) _ (fitting kind.Integer (first_of b.known) v) _ (k-fitting leaving kind.Integer (first_of b.known) v) (λ y.
    s-if which (maybe-known which) _ y (static_universal (first_of a.known) (both_mentions a b) (exact op.Pow u v)) (pure None)
    (let made2 = z-both_mentions which a b h0 h2 in
    s-le which (maybe-known which) _ _ _ (s-static_universal which (first_of a.known) (both_mentions a b) (exact op.Pow u v) made2.0) (omega (arith, made2.1)))
    (s-pure which (maybe-known which) _ None (tt, omega arith)))

pub s-universal_to : (which : ℕ) (x0 : ℕ) (x1 : Found) (x2 : Found) (x3 : Option ℤ) (x4 : Option ℤ) → (with-part which).Whole x1 → (with-part which).Whole x2 → Spends which (maybe-known which) (part-size which x1.part + part-size which x2.part) (universal_to x0 x1 x2 x3 x4)
s-universal_to which at a b (Some u) (Some v) h1 h2 = s-le which (maybe-known which) _ _ _ (s-static_power which a u b v h1 h2) (omega arith)
s-universal_to which at a b any1 any2 h1 h2 = s-le which (maybe-known which) _ _ _ (s-universal_power which at a b h1 h2) (omega arith)

pub s-power_to : (which : ℕ) (x0 : ℕ) (x1 : Found) (x2 : Found) (x3 : Option Kind) → (with-part which).Whole x1 → (with-part which).Whole x2 → Spends which (maybe-known which) (part-size which x1.part + part-size which x2.part) (power_to x0 x1 x2 x3)
s-power_to which at a b (Some k) h1 h2 = s-le which (maybe-known which) _ _ _ (s-typed_operation which op.Pow at k kind.Integer a b h1 h2) (omega arith)
s-power_to which at a b None h1 h2 = s-le which (maybe-known which) _ _ _ (s-universal_to which at a b (value_of a.known) (value_of b.known) h1 h2) (omega arith)

pub s-power : (which : ℕ) (x0 : ℕ) (x1 : Option Found) (x2 : Option Found) → (maybe-known which).Whole x1 → (maybe-known which).Whole x2 → Spends which (maybe-known which) ((maybe-known which).size x1 + (maybe-known which).size x2) (power x0 x1 x2)
unfolding power
s-power which at x y h1 h2 =
    s-both which (with-part which) (with-part which) (with-part which) 0 _ x y _ h1 h2 (omega arith) (λ a held1 b held2.
    s-if which (maybe-known which) _ (is_number a.known && suits kind.Integer b.known) (power_to at a b (kind_of a.known)) (fault at WrongType)
    (s-le which (maybe-known which) _ _ _ (s-power_to which at a b (kind_of a.known) held1 held2) (omega arith))
    (s-fault which (with-part which) _ at WrongType))

pub s-static_unary : (which : ℕ) (x0 : Unary) (x1 : ℕ) (x2 : Kind) (x3 : Found) (x4 : ℤ) → (with-part which).Whole x3 → Spends which (maybe-known which) (part-size which x3.part) (static_unary x0 x1 x2 x3 x4)
s-static_unary which s at k a z h3 =
    s-then which (maybe-known which) _ (fitting k (first_of a.known) z) _ (k-fitting leaving k (first_of a.known) z) (λ x.
    s-if which (maybe-known which) _ x (static_of at k a.part (signed s z)) (pure None)
    (s-le which (maybe-known which) _ _ _ (s-static_of which at k a.part (signed s z) h3) (omega arith))
    (s-pure which (maybe-known which) _ None (tt, omega arith)))

pub s-unary_typed : (which : ℕ) (x0 : Unary) (x1 : ℕ) (x2 : Kind) (x3 : Found) (x4 : Option ℤ) → (with-part which).Whole x3 → Spends which (maybe-known which) (part-size which x3.part) (unary_typed x0 x1 x2 x3 x4)
s-unary_typed which s at k a (Some z) h3 = s-le which (maybe-known which) _ _ _ (s-static_unary which s at k a z h3) (omega arith)
s-unary_typed which s at k a None h3 =
    s-bind which (maybe-part which) (maybe-known which) (part-size which a.part) 0 _ (asked k a) _ (s-le which (maybe-part which) _ _ _ (s-asked which k a h3) (omega arith)) (omega arith) (λ x held1.
    s-given which (part-measure which) (with-part which) 0 _ x _ held1 (omega arith) (λ n held2.
    s-some which (with-part which) _ (scalar at k None (typed.Unary at s (class_of k) (as_expr n))) (let made3 = z-scalar which at k None (typed.Unary at s (class_of k) (as_expr n)) tt in
    (made3.0, omega (arith, made3.1, n-expr which n)))))

pub z-open_unary : (which : ℕ) (x0 : Unary) (x1 : ℕ) (x2 : Limits × TypedPart) → (part-measure which).Whole x2.1 → Holds (with-part which) (part-size which x2.1) (open_unary x0 x1 x2)
z-open_unary which s at x h2-1 =
    let made1 = z-opened which at x.0 (typed.Unary at s class.Universal (as_expr x.1)) tt in
    (made1.0, omega (arith, made1.1, n-expr which x.1))

pub s-unary_open : (which : ℕ) (x0 : Unary) (x1 : ℕ) (x2 : Found) (x3 : Option ℤ) → (with-part which).Whole x2 → Spends which (maybe-known which) (part-size which x2.part) (unary_open x0 x1 x2 x3)
s-unary_open which s at a (Some z) h2 = s-le which (maybe-known which) _ _ _ (s-static_universal which at a.part (signed s z) h2) (omega arith)
s-unary_open which s at a None h2 =
    s-pure which (maybe-known which) _ (option_map (open_unary s at) (open_of a)) (let made3 = z-open_of which a h2 in
    let made4 = h-map (second-of (part-measure which)) (with-part which) 0 (open_unary s at) (open_of a) made3.0 (λ item held1. let made2 = z-open_unary which s at item held1 in
    (made2.0, omega (arith, made2.1))) in
    (made4.0, omega (arith, made4.1, made3.1)))

pub s-unary_by : (which : ℕ) (x0 : Unary) (x1 : ℕ) (x2 : Found) (x3 : Option Kind) → (with-part which).Whole x2 → Spends which (maybe-known which) (part-size which x2.part) (unary_by x0 x1 x2 x3)
s-unary_by which s at a (Some k) h2 = s-le which (maybe-known which) _ _ _ (s-unary_typed which s at k a (value_of a.known) h2) (omega arith)
s-unary_by which s at a None h2 = s-le which (maybe-known which) _ _ _ (s-unary_open which s at a (value_of a.known) h2) (omega arith)

pub s-unary : (which : ℕ) (x0 : Unary) (x1 : ℕ) (x2 : Option Found) → (maybe-known which).Whole x2 → Spends which (maybe-known which) ((maybe-known which).size x2) (unary x0 x1 x2)
unfolding unary
s-unary which s at x h2 =
    s-given which (with-part which) (with-part which) 0 _ x _ h2 (omega arith) (λ a held1.
    s-if which (maybe-known which) _ (is_number a.known) (unary_by s at a (kind_of a.known)) (fault at WrongType)
    (s-le which (maybe-known which) _ _ _ (s-unary_by which s at a (kind_of a.known) held1) (omega arith))
    (s-fault which (with-part which) _ at WrongType))

pub s-plain_typed : (which : ℕ) (x0 : ℕ) (x1 : Kind) (x2 : Found) (x3 : Option ℤ) → (with-part which).Whole x2 → Spends which (maybe-known which) (part-size which x2.part) (plain_typed x0 x1 x2 x3)
s-plain_typed which at k a (Some z) h2 = s-le which (maybe-known which) _ _ _ (s-static_of which at k a.part (Some z) h2) (omega arith)
s-plain_typed which at k a None h2 =
    s-bind which (maybe-part which) (maybe-known which) (part-size which a.part) 0 _ (asked k a) _ (s-le which (maybe-part which) _ _ _ (s-asked which k a h2) (omega arith)) (omega arith) (λ x held1.
    s-given which (part-measure which) (with-part which) 0 _ x _ held1 (omega arith) (λ n held2.
    s-some which (with-part which) _ (scalar at k None (typed.Group (as_expr n))) (let made3 = z-scalar which at k None (typed.Group (as_expr n)) tt in
    (made3.0, omega (arith, made3.1, n-expr which n)))))

pub z-open_plain : (which : ℕ) (x0 : ℕ) (x1 : Limits × TypedPart) → (part-measure which).Whole x1.1 → Holds (with-part which) (part-size which x1.1) (open_plain x0 x1)
z-open_plain which at x h1-1 =
    let made1 = z-opened which at x.0 (typed.Group (as_expr x.1)) tt in
    (made1.0, omega (arith, made1.1, n-expr which x.1))

pub s-plain_open : (which : ℕ) (x0 : ℕ) (x1 : Found) (x2 : Option ℤ) → (with-part which).Whole x1 → Spends which (maybe-known which) (part-size which x1.part) (plain_open x0 x1 x2)
s-plain_open which at a (Some z) h1 =
    s-some which (with-part which) _ (universal at z false a.part) (let made1 = z-universal which at z false a.part h1 in
    (made1.0, omega (arith, made1.1)))
s-plain_open which at a None h1 =
    s-pure which (maybe-known which) _ (option_map (open_plain at) (open_of a)) (let made2 = z-open_of which a h1 in
    let made4 = h-map (second-of (part-measure which)) (with-part which) 0 (open_plain at) (open_of a) made2.0 (λ item held1. let made3 = z-open_plain which at item held1 in
    (made3.0, omega (arith, made3.1))) in
    (made4.0, omega (arith, made4.1, made2.1)))

pub s-plain_by : (which : ℕ) (x0 : ℕ) (x1 : Found) (x2 : Option Kind) → (with-part which).Whole x1 → Spends which (maybe-known which) (part-size which x1.part) (plain_by x0 x1 x2)
s-plain_by which at a (Some k) h1 = s-le which (maybe-known which) _ _ _ (s-plain_typed which at k a (value_of a.known) h1) (omega arith)
s-plain_by which at a None h1 = s-le which (maybe-known which) _ _ _ (s-plain_open which at a (value_of a.known) h1) (omega arith)

pub s-plain : (which : ℕ) (x0 : ℕ) (x1 : Option Found) → (maybe-known which).Whole x1 → Spends which (maybe-known which) ((maybe-known which).size x1) (plain x0 x1)
unfolding plain
s-plain which at x h1 =
    s-given which (with-part which) (with-part which) 0 _ x _ h1 (omega arith) (λ a held1.
    s-if which (maybe-known which) _ (is_number a.known) (plain_by at a (kind_of a.known)) (fault at WrongType)
    (s-le which (maybe-known which) _ _ _ (s-plain_by which at a (kind_of a.known) held1) (omega arith))
    (s-fault which (with-part which) _ at WrongType))

pub s-negation : (which : ℕ) (x0 : ℕ) (x1 : Found) → (with-part which).Whole x1 → Spends which (maybe-known which) (part-size which x1.part) (negation x0 x1)
s-negation which at a h1 =
    s-bind which (maybe-part which) (maybe-known which) (part-size which a.part) 0 _ (asked kind.Boolean a) _ (s-le which (maybe-part which) _ _ _ (s-asked which kind.Boolean a h1) (omega arith)) (omega arith) (λ x held1.
    s-given which (part-measure which) (with-part which) 0 _ x _ held1 (omega arith) (λ e held2.
    s-some which (with-part which) _ (scalar at kind.Boolean None (typed.Unary at unary'.Not class.Boolean (as_expr e))) (let made3 = z-scalar which at kind.Boolean None (typed.Unary at unary'.Not class.Boolean (as_expr e)) tt in
    (made3.0, omega (arith, made3.1, n-expr which e)))))

pub s-complement : (which : ℕ) (x0 : ℕ) (x1 : Found) (x2 : Kind) → (with-part which).Whole x1 → Spends which (maybe-known which) (part-size which x1.part) (complement x0 x1 x2)
s-complement which at a k h1 =
    s-bind which (maybe-part which) (maybe-known which) (part-size which a.part) 0 _ (asked k a) _ (s-le which (maybe-part which) _ _ _ (s-asked which k a h1) (omega arith)) (omega arith) (λ x held1.
    s-given which (part-measure which) (with-part which) 0 _ x _ held1 (omega arith) (λ e held2.
    s-some which (with-part which) _ (scalar at k None (typed.Unary at unary'.Not (class_of k) (as_expr e))) (let made3 = z-scalar which at k None (typed.Unary at unary'.Not (class_of k) (as_expr e)) tt in
    (made3.0, omega (arith, made3.1, n-expr which e)))))

pub s-not_by : (which : ℕ) (x0 : ℕ) (x1 : Found) (x2 : Option Kind) → (with-part which).Whole x1 → Spends which (maybe-known which) (part-size which x1.part) (not_by x0 x1 x2)
s-not_by which at a None h1 = s-fault which (with-part which) _ at WrongType
s-not_by which at a (Some k) h1 =
    s-if which (maybe-known which) _ (same k kind.Boolean) (negation at a) (if is_modular k then complement at a k else fault at WrongType)
    (s-le which (maybe-known which) _ _ _ (s-negation which at a h1) (omega arith))
    (s-if which (maybe-known which) _ (is_modular k) (complement at a k) (fault at WrongType)
    (s-le which (maybe-known which) _ _ _ (s-complement which at a k h1) (omega arith))
    (s-fault which (with-part which) _ at WrongType))

pub s-not_of : (which : ℕ) (x0 : ℕ) (x1 : Option Found) → (maybe-known which).Whole x1 → Spends which (maybe-known which) ((maybe-known which).size x1) (not_of x0 x1)
unfolding not_of
s-not_of which at x h1 =
    s-given which (with-part which) (with-part which) 0 _ x _ h1 (omega arith) (λ a held1.
    s-le which (maybe-known which) _ _ _ (s-not_by which at a (kind_of a.known) held1) (omega arith))

pub s-joined_texts : (which : ℕ) (x0 : ℕ) (x1 : Known) (x2 : TypedPart) (x3 : Known) (x4 : TypedPart) → (part-measure which).Whole x2 → (part-measure which).Whole x4 → Spends which (maybe-known which) (part-size which x2 + part-size which x4) (joined_texts x0 x1 x2 x3 x4)
s-joined_texts which at (known.Text first) ps (known.Text second) qs h2 h4 =
    s-some which (with-part which) _ (text_found first (also_all ps qs)) (let made1 = z-text_found which first (also_all ps qs) (w-also_all which ps qs h2 h4) in
    (made1.0, omega (arith, made1.1, n-also_all which ps qs)))
s-joined_texts which at any1 ps any2 qs h2 h4 = s-fault which (with-part which) _ at WrongType

pub s-joined_text : (which : ℕ) (x0 : ℕ) (x1 : Option Found) (x2 : Option Found) → (maybe-known which).Whole x1 → (maybe-known which).Whole x2 → Spends which (maybe-known which) ((maybe-known which).size x1 + (maybe-known which).size x2) (joined_text x0 x1 x2)
unfolding joined_text
s-joined_text which at x y h1 h2 =
    s-both which (with-part which) (with-part which) (with-part which) 0 _ x y _ h1 h2 (omega arith) (λ a held1 b held2.
    s-le which (maybe-known which) _ _ _ (s-joined_texts which at a.known a.part b.known b.part held1 held2) (omega arith))

pub s-logical_by : (which : ℕ) (x0 : Op) (x1 : ℕ) (x2 : Found) (x3 : Found) (x4 : Kind) → (with-part which).Whole x2 → (with-part which).Whole x3 → Spends which (maybe-known which) (part-size which x2.part + part-size which x3.part) (logical_by x0 x1 x2 x3 x4)
s-logical_by which o at a b k h2 h3 =
    s-if which (maybe-known which) _ (is_logical_kind k && (suits k a.known && suits k b.known)) (operation_on o at k k a b) (fault at WrongType)
    (s-le which (maybe-known which) _ _ _ (s-operation_on which o at k k a b h2 h3) (omega arith))
    (s-fault which (with-part which) _ at WrongType)

pub s-logical : (which : ℕ) (x0 : Op) (x1 : ℕ) (x2 : Option Found) (x3 : Option Found) → (maybe-known which).Whole x2 → (maybe-known which).Whole x3 → Spends which (maybe-known which) ((maybe-known which).size x2 + (maybe-known which).size x3) (logical x0 x1 x2 x3)
unfolding logical
s-logical which o at x y h2 h3 =
    s-both which (with-part which) (with-part which) (with-part which) 0 _ x y _ h2 h3 (omega arith) (λ a held1 b held2.
    s-le which (maybe-known which) _ _ _ (s-logical_by which o at a b (common_kind (kind_of a.known) (kind_of b.known)) held1 held2) (omega arith))

pub s-compared_at : (which : ℕ) (x0 : Kind) (x1 : Comparison) (x2 : Found) (x3 : Found) → (with-part which).Whole x2 → (with-part which).Whole x3 → Spends which (maybe-known which) (part-size which x2.part + part-size which x3.part) (compared_at x0 x1 x2 x3)
unfolding compared_at
s-compared_at which k c a b h2 h3 =
    s-bind which (maybe-part which) (maybe-known which) (part-size which a.part) (part-size which b.part) _ (asked k a) _ (s-le which (maybe-part which) _ _ _ (s-asked which k a h2) (omega arith)) (omega arith) (λ x held1.
    s-bind which (maybe-part which) (maybe-known which) (part-size which b.part) ((maybe-part which).size x) _ (asked k b) _ (s-le which (maybe-part which) _ _ _ (s-asked which k b h3) (omega arith)) (omega arith) (λ y held2.
    s-both which (part-measure which) (part-measure which) (with-part which) 0 _ x y _ held1 held2 (omega arith) (λ e held3 f held4.
    s-some which (with-part which) _ (scalar (first_of a.known) kind.Boolean None (typed.Relation (class_of k) c (as_expr e) (as_expr f))) (let made5 = z-scalar which (first_of a.known) kind.Boolean None (typed.Relation (class_of k) c (as_expr e) (as_expr f)) tt in
    (made5.0, omega (arith, made5.1, n-expr which e, n-expr which f))))))

pub s-compared_by : (which : ℕ) (x0 : Comparison) (x1 : ℕ) (x2 : Found) (x3 : Found) (x4 : Kind) → (with-part which).Whole x2 → (with-part which).Whole x3 → Spends which (maybe-known which) (part-size which x2.part + part-size which x3.part) (compared_by x0 x1 x2 x3 x4)
s-compared_by which c at a b k h2 h3 =
    s-if which (maybe-known which) _ (suits k a.known && suits k b.known) (compared_at k c a b) (fault at WrongType)
    (s-le which (maybe-known which) _ _ _ (s-compared_at which k c a b h2 h3) (omega arith))
    (s-fault which (with-part which) _ at WrongType)

pub s-compared : (which : ℕ) (x0 : Comparison) (x1 : ℕ) (x2 : Option Found) (x3 : Option Found) → (maybe-known which).Whole x2 → (maybe-known which).Whole x3 → Spends which (maybe-known which) ((maybe-known which).size x2 + (maybe-known which).size x3) (compared x0 x1 x2 x3)
unfolding compared
s-compared which c at x y h2 h3 =
    s-both which (with-part which) (with-part which) (with-part which) 0 _ x y _ h2 h3 (omega arith) (λ a held1 b held2.
    s-le which (maybe-known which) _ _ _ (s-compared_by which c at a b (common_kind (kind_of a.known) (kind_of b.known)) held1 held2) (omega arith))

pub z-member : (which : ℕ) (x0 : ℕ) (x1 : Bool) (x2 : Kind) (x3 : TypedExpr) (x4 : TypedExpr) (x5 : TypedExpr) → (counted-by (λ x. in_expr which x)).Whole x3 → (counted-by (λ x. in_expr which x)).Whole x4 → (counted-by (λ x. in_expr which x)).Whole x5 → Holds (with-part which) (in_expr which x3 + in_expr which x4 + in_expr which x5) (member x0 x1 x2 x3 x4 x5)
z-member which first negated k e low high h3 h4 h5 =
    let made1 = z-scalar which first kind.Boolean None (typed.Membership (class_of k) negated e low high) tt in
    (made1.0, omega (arith, made1.1))

pub s-within_bounds : (which : ℕ) (x0 : ℕ) (x1 : Bool) (x2 : Kind) (x3 : Found) (x4 : Found) (x5 : Found) → (with-part which).Whole x3 → (with-part which).Whole x4 → (with-part which).Whole x5 → Spends which (maybe-known which) (part-size which x3.part + part-size which x4.part + part-size which x5.part) (within_bounds x0 x1 x2 x3 x4 x5)
s-within_bounds which at negated k x low high h3 h4 h5 =
    s-if which (maybe-known which) _ (not (suits k x.known)) (fault at WrongType) ((asked k x) >>= λ e. (asked k low) >>= λ l. (asked k high) >>= λ h. given e (λ u. both l h (λ v w. some (member (first_of x.known) negated k (as_expr u) (as_expr v) (as_expr w)))))
    (s-fault which (with-part which) _ at WrongType)
    (s-bind which (maybe-part which) (maybe-known which) (part-size which x.part) (part-size which low.part + part-size which high.part) _ (asked k x) _ (s-le which (maybe-part which) _ _ _ (s-asked which k x h3) (omega arith)) (omega arith) (λ e held1.
    s-bind which (maybe-part which) (maybe-known which) (part-size which low.part) (part-size which high.part + (maybe-part which).size e) _ (asked k low) _ (s-le which (maybe-part which) _ _ _ (s-asked which k low h4) (omega arith)) (omega arith) (λ l held2.
    s-bind which (maybe-part which) (maybe-known which) (part-size which high.part) ((maybe-part which).size e + (maybe-part which).size l) _ (asked k high) _ (s-le which (maybe-part which) _ _ _ (s-asked which k high h5) (omega arith)) (omega arith) (λ h held3.
    s-given which (part-measure which) (with-part which) ((maybe-part which).size l + (maybe-part which).size h) _ e _ held1 (omega arith) (λ u held4.
    s-both which (part-measure which) (part-measure which) (with-part which) (part-size which u) _ l h _ held2 held3 (omega arith) (λ v held5 w held6.
    s-some which (with-part which) _ (member (first_of x.known) negated k (as_expr u) (as_expr v) (as_expr w)) (let made7 = z-member which (first_of x.known) negated k (as_expr u) (as_expr v) (as_expr w) tt tt tt in
    (made7.0, omega (arith, made7.1, n-expr which u, n-expr which v, n-expr which w)))))))))

pub s-member_of : (which : ℕ) (x0 : ℕ) (x1 : Bool) (x2 : Found) (x3 : Found) (x4 : Found) → (with-part which).Whole x2 → (with-part which).Whole x3 → (with-part which).Whole x4 → Spends which (maybe-known which) (part-size which x2.part + part-size which x3.part + part-size which x4.part) (member_of x0 x1 x2 x3 x4)
s-member_of which at negated a l h h2 h3 h4 =
    s-if which (maybe-known which) _ (not (is_scalar a.known)) (fault at WrongType) (if not (is_scalar l.known) then fault (first_of l.known) WrongType else if not (is_scalar h.known) then fault (first_of h.known) WrongType else within_bounds at negated (common_kind (first_kind (kind_of a.known) (kind_of l.known)) (kind_of h.known)) a l h)
    (s-fault which (with-part which) _ at WrongType)
    (s-if which (maybe-known which) _ (not (is_scalar l.known)) (fault (first_of l.known) WrongType) (if not (is_scalar h.known) then fault (first_of h.known) WrongType else within_bounds at negated (common_kind (first_kind (kind_of a.known) (kind_of l.known)) (kind_of h.known)) a l h)
    (s-fault which (with-part which) _ (first_of l.known) WrongType)
    (s-if which (maybe-known which) _ (not (is_scalar h.known)) (fault (first_of h.known) WrongType) (within_bounds at negated (common_kind (first_kind (kind_of a.known) (kind_of l.known)) (kind_of h.known)) a l h)
    (s-fault which (with-part which) _ (first_of h.known) WrongType)
    (s-le which (maybe-known which) _ _ _ (s-within_bounds which at negated (common_kind (first_kind (kind_of a.known) (kind_of l.known)) (kind_of h.known)) a l h h2 h3 h4) (omega arith))))

pub s-membership : (which : ℕ) (x0 : ℕ) (x1 : Bool) (x2 : Option Found) (x3 : Option Found) (x4 : Option Found) → (maybe-known which).Whole x2 → (maybe-known which).Whole x3 → (maybe-known which).Whole x4 → Spends which (maybe-known which) ((maybe-known which).size x2 + (maybe-known which).size x3 + (maybe-known which).size x4) (membership x0 x1 x2 x3 x4)
unfolding membership
s-membership which at negated x low high h2 h3 h4 =
    s-given which (with-part which) (with-part which) ((maybe-known which).size low + (maybe-known which).size high) _ x _ h2 (omega arith) (λ a held1.
    s-both which (with-part which) (with-part which) (with-part which) (part-size which a.part) _ low high _ h3 h4 (omega arith) (λ one held2 other held3.
    s-le which (maybe-known which) _ _ _ (s-member_of which at negated a one other held1 held2 held3) (omega arith)))

pub z-limit_of : (which : ℕ) (x0 : ℕ) (x1 : ℤ) → Holds (counted-by (λ x. in_expr which x)) 0 (limit_of x0 x1)
z-limit_of which mark z = (tt, omega arith)

pub s-of_subtype : (which : ℕ) (x0 : ℕ) (x1 : Bool) (x2 : ℕ) (x3 : Option Found) (x4 : Option Scalar) → (maybe-known which).Whole x3 → Spends which (maybe-known which) ((maybe-known which).size x3) (of_subtype x0 x1 x2 x3 x4)
unfolding of_subtype
s-of_subtype which at negated mark x s h3 =
    s-both-first which (with-part which) (with-part which) 0 _ x s _ h3 (omega arith) (λ a held1 t.
    s-if which (maybe-known which) _ (suits t.kind a.known) ((asked t.kind a) >>= λ e. given e (λ u. some (member (first_of a.known) negated t.kind (as_expr u) (limit_of mark t.low) (limit_of mark t.high)))) (fault at WrongType)
    (s-bind which (maybe-part which) (maybe-known which) (part-size which a.part) 0 _ (asked t.kind a) _ (s-le which (maybe-part which) _ _ _ (s-asked which t.kind a held1) (omega arith)) (omega arith) (λ e held3.
    s-given which (part-measure which) (with-part which) 0 _ e _ held3 (omega arith) (λ u held4.
    s-some which (with-part which) _ (member (first_of a.known) negated t.kind (as_expr u) (limit_of mark t.low) (limit_of mark t.high)) (let made5 = z-limit_of which mark t.low in
    let made6 = z-limit_of which mark t.high in
    let made7 = z-member which (first_of a.known) negated t.kind (as_expr u) (limit_of mark t.low) (limit_of mark t.high) tt made5.0 made6.0 in
    (made7.0, omega (arith, made7.1, n-expr which u, made5.1, made6.1))))))
    (s-fault which (with-part which) _ at WrongType))
