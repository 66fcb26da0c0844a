-- Judging that gives out sites: ranges.
use Rattle.name_rules.specs.Expressions.{Inside, simple}
use Rattle.syntax_tree.specs.FirstTokens as first_token
use Rattle.name_rules.specs.Found.{Found}
use Rattle.name_rules.specs.Judging.{Judging, fault, given, joined, pure, some, ◌>>=◌}
use Rattle.name_rules.specs.Names.{denoted_first}
use Rattle.name_rules.specs.Operators.{both_mentions, common_kind}
use Rattle.name_rules.specs.Types.{base_of, lies_in, is_modular, kept}
use Rattle.name_rules.specs.Values.{asked, first_of, is_number, is_scalar, kind_of, mentions_of, static_of_kind, suits}
use Rattle.name_rules.specs.declared.found.Denoted.TheVariants as denoted
use Rattle.name_rules.specs.declared.found.Denoted.{Denoted as KnownDenoted}
use Rattle.name_rules.specs.declared.found.Found.{Found as Known}
use Rattle.name_rules.specs.declared.log.Dimension.{Dimension}
use Rattle.name_rules.specs.declared.log.Rule.TheVariants.{StaticRange, WrongType}
use Rattle.name_rules.specs.declared.scope.Context.{Context}
use Rattle.name_rules.specs.declared.types.Kind.{Kind}
use Rattle.name_rules.specs.declared.types.Scalar.{Scalar}
use Rattle.name_rules.specs.declared.types.Subtype.TheVariants as subtype
use Rattle.name_rules.specs.declared.types.Wanted.TheVariants as wanted
use Rattle.syntax_tree.specs.Syntax as syntax
use Rattle.syntax_tree.specs.Syntax.{Range, Simple}
use Rattle.typed_tree.specs.Decoded as part
use Rattle.std.specs.Prelude.{Bool, None, Option, Some, false, if◌then◌else◌, int_le, not, option_map, ℕ, ℤ, ◌&&◌, ◌+◌, ◌||◌}
use Rattle.typed_tree.specs.Decoded.{TypedPart}
use Rattle.name_rules.specs.Ranges.{both_static, bounded_by, bounds_of, checked_range, checked_span, chosen_span, chosen_value, dimension, inside_subtype, named_range, of_one_type, of_static, one_value, own_bounds, own_range, preferred, range, range_part, range_values, scalar_type, spanned, static_bounds, static_by, static_checked, static_name, static_range, static_scalar, two_bounds, two_values, values_of, whole_range, is_index}
use Rattle.std.proofs.Common.{arith}
use Rattle.name_laws.proofs.KeepsRanges.{k-both_static, k-inside_subtype, k-scalar_type}
use Rattle.name_laws.proofs.KeepsValues.{k-static_of_kind}
use Rattle.name_laws.proofs.Walk.{k-given}
use Rattle.name_sites.proofs.SpendsExpressions.{s-simple}
use Rattle.name_sites.proofs.SpendsOperators.{z-both_mentions}
use Rattle.name_sites.proofs.SpendsValues.{s-asked, z-literal, z-mentions_of}
use Rattle.name_sites.proofs.Leaving.{leaving}
use Rattle.name_sites.proofs.Measures.{Measure, maybe-known, maybe-part, option-of, pair-of, part-measure, part-size, with-part}
use Rattle.name_sites.proofs.Records.{SpendsInside}
use Rattle.name_sites.proofs.Spends.{Holds, Spends, h-joined, h-map, s-bind, s-both, s-both-any, s-fault, s-given, s-given-any, s-if, s-le, s-pure, s-some, s-then}

pub s-two_bounds : (which : ℕ) (x0 : Inside) (x1 : Context) (x2 : Simple) (x3 : Simple) → SpendsInside which x0 → Spends which (pair-of (maybe-known which) (maybe-known which)) 0 (two_bounds x0 x1 x2 x3)
unfolding two_bounds
s-two_bounds which level here low high h0 =
    s-bind which (maybe-known which) (pair-of (maybe-known which) (maybe-known which)) 0 0 _ (simple level here wanted.Other low) _ (s-le which (maybe-known which) _ _ _ (s-simple which level here wanted.Other low h0) (omega arith)) (omega arith) (λ x held1.
    s-bind which (maybe-known which) (pair-of (maybe-known which) (maybe-known which)) 0 ((maybe-known which).size x) _ (simple level here wanted.Other high) _ (s-le which (maybe-known which) _ _ _ (s-simple which level here wanted.Other high h0) (omega arith)) (omega arith) (λ y held2.
    s-pure which (pair-of (maybe-known which) (maybe-known which)) _ (x, y) ((held1, held2), omega arith)))

pub z-range_part : (which : ℕ) (x0 : TypedPart) (x1 : TypedPart) → (part-measure which).Whole x0 → (part-measure which).Whole x1 → Holds (part-measure which) (part-size which x0 + part-size which x1) (range_part x0 x1)
z-range_part which x y h0 h1 = ((h0, h1), omega arith)

pub s-bounds_of : (which : ℕ) (x0 : Kind) (x1 : Found) (x2 : Found) → (with-part which).Whole x1 → (with-part which).Whole x2 → Spends which (maybe-part which) (part-size which x1.part + part-size which x2.part) (bounds_of x0 x1 x2)
unfolding bounds_of
s-bounds_of which k a z h1 h2 =
    s-bind which (maybe-part which) (maybe-part which) (part-size which a.part) (part-size which z.part) _ (asked k a) _ (s-le which (maybe-part which) _ _ _ (s-asked which k a h1) (omega arith)) (omega arith) (λ x held1.
    s-bind which (maybe-part which) (maybe-part which) (part-size which z.part) ((maybe-part which).size x) _ (asked k z) _ (s-le which (maybe-part which) _ _ _ (s-asked which k z h2) (omega arith)) (omega arith) (λ y held2.
    s-pure which (maybe-part which) _ (joined range_part x y) (let made6 = h-joined (part-measure which) (part-measure which) (part-measure which) 0 range_part x y held1 held2 (λ one held3 other held4. let made5 = z-range_part which one other held3 held4 in
    (made5.0, omega (arith, made5.1))) in
    (made6.0, omega (arith, made6.1)))))

pub s-of_one_type : (which : ℕ) {A : Type 0} (m : Measure A) (n : ℕ) (a z : Known) (k : Kind) (f : Kind → Judging (Option A)) → ((k : Kind) → Spends which (option-of m) n (f k)) → Spends which (option-of m) n (of_one_type a z k f)
s-of_one_type which m n a z k f h =
    s-if which (option-of m) n (not (is_scalar a)) (fault (first_of a) WrongType) (if not (suits k a) then fault (first_of z) WrongType else if is_modular k then fault (first_of a) WrongType else f k) (s-fault which m n (first_of a) WrongType)
    (s-if which (option-of m) n (not (suits k a)) (fault (first_of z) WrongType) (if is_modular k then fault (first_of a) WrongType else f k) (s-fault which m n (first_of z) WrongType)
    (s-if which (option-of m) n (is_modular k) (fault (first_of a) WrongType) (f k) (s-fault which m n (first_of a) WrongType) (h k)))

pub z-bounded_by : (which : ℕ) (x0 : ℕ) (x1 : Scalar) (x2 : Option Scalar) (x3 : Found) (x4 : Found) (x5 : TypedPart) → (part-measure which).Whole x5 → Holds (with-part which) (part-size which x5) (bounded_by x0 x1 x2 x3 x4 x5)
z-bounded_by which at s c a z x h5 = (h5, omega arith)

pub s-own_range : (which : ℕ) (x0 : ℕ) (x1 : Found) (x2 : Found) (x3 : Kind) → (with-part which).Whole x1 → (with-part which).Whole x2 → Spends which (maybe-known which) (part-size which x1.part + part-size which x2.part) (own_range x0 x1 x2 x3)
s-own_range which first a z k h1 h2 =
    s-bind which (maybe-part which) (maybe-known which) (part-size which a.part + part-size which z.part) 0 _ (bounds_of k a z) _ (s-le which (maybe-part which) _ _ _ (s-bounds_of which k a z h1 h2) (omega arith)) (omega arith) (λ x held1.
    s-pure which (maybe-known which) _ (option_map (bounded_by first (base_of k) None a z) x) (let made4 = h-map (part-measure which) (with-part which) 0 (bounded_by first (base_of k) None a z) x held1 (λ item held2. let made3 = z-bounded_by which first (base_of k) None a z item held2 in
    (made3.0, omega (arith, made3.1))) in
    (made4.0, omega (arith, made4.1))))

pub s-own_bounds : (which : ℕ) (x0 : ℕ) (x1 : Found) (x2 : Found) → (with-part which).Whole x1 → (with-part which).Whole x2 → Spends which (maybe-known which) (part-size which x1.part + part-size which x2.part) (own_bounds x0 x1 x2)
unfolding own_bounds
s-own_bounds which first a z h1 h2 = s-of_one_type which (with-part which) _ a.known z.known (common_kind (kind_of a.known) (kind_of z.known)) _ (λ common. s-le which (maybe-known which) _ _ _ (s-own_range which first a z common h1 h2) (omega arith))

pub s-checked_range : (which : ℕ) (x0 : ℕ) (x1 : Scalar) (x2 : Found) (x3 : Found) → (with-part which).Whole x2 → (with-part which).Whole x3 → Spends which (maybe-known which) (part-size which x2.part + part-size which x3.part) (checked_range x0 x1 x2 x3)
unfolding checked_range
s-checked_range which first s a z h2 h3 =
    s-if which (maybe-known which) _ (is_modular s.kind) (fault first WrongType) (bounds_of s.kind a z >>= λ x. pure (option_map (bounded_by first s (Some s) a z) x))
    (s-fault which (with-part which) _ first WrongType)
    (s-bind which (maybe-part which) (maybe-known which) (part-size which a.part + part-size which z.part) 0 _ (bounds_of s.kind a z) _ (s-le which (maybe-part which) _ _ _ (s-bounds_of which s.kind a z h2 h3) (omega arith)) (omega arith) (λ x held1.
    s-pure which (maybe-known which) _ (option_map (bounded_by first s (Some s) a z) x) (let made4 = h-map (part-measure which) (with-part which) 0 (bounded_by first s (Some s) a z) x held1 (λ item held2. let made3 = z-bounded_by which first s (Some s) a z item held2 in
    (made3.0, omega (arith, made3.1))) in
    (made4.0, omega (arith, made4.1)))))

pub z-whole_range : (which : ℕ) (x0 : ℕ) (x1 : Kind) (x2 : ℤ) (x3 : ℤ) (x4 : TypedPart) → (part-measure which).Whole x4 → Holds (with-part which) (part-size which x4) (whole_range x0 x1 x2 x3 x4)
z-whole_range which first k low high ms h4 =
    let made1 = z-literal which first low false ms h4 in
    let made2 = z-literal which first high false part.Nothing tt in
    ((made1.0, made2.0), omega (arith, made1.1, made2.1))

pub s-named_range : (which : ℕ) (x0 : KnownDenoted) (x1 : TypedPart) → (part-measure which).Whole x1 → Spends which (maybe-known which) (part-size which x1) (named_range x0 x1)
s-named_range which (denoted.Range first d) x h1 =
    s-some which (with-part which) _ (whole_range first d.kind d.low d.high x) (let made1 = z-whole_range which first d.kind d.low d.high x h1 in
    (made1.0, omega (arith, made1.1)))
s-named_range which (denoted.Type first (subtype.Scalar s)) x h1 =
    s-if which (maybe-known which) _ (is_modular s.kind) (fault first WrongType) (some (whole_range first s.kind s.low s.high part.Nothing))
    (s-fault which (with-part which) _ first WrongType)
    (s-some which (with-part which) _ (whole_range first s.kind s.low s.high part.Nothing) (let made1 = z-whole_range which first s.kind s.low s.high part.Nothing tt in
    (made1.0, omega (arith, made1.1))))
s-named_range which d x h1 = s-fault which (with-part which) _ (denoted_first d) WrongType

pub s-range : (which : ℕ) (x0 : Inside) (x1 : Context) (x2 : Range) → SpendsInside which x0 → Spends which (maybe-known which) 0 (range x0 x1 x2)
unfolding range
s-range which level here (syntax.Bounded low high) h0 =
    s-bind which (pair-of (maybe-known which) (maybe-known which)) (maybe-known which) 0 0 _ (two_bounds level here low high) _ (s-le which (pair-of (maybe-known which) (maybe-known which)) _ _ _ (s-two_bounds which level here low high h0) (omega arith)) (omega arith) (λ r held1.
    s-both which (with-part which) (with-part which) (with-part which) 0 _ r.0 r.1 _ held1.0 held1.1 (omega arith) (λ one held2 other held3.
    s-le which (maybe-known which) _ _ _ (s-own_bounds which (first_token.of_simple low) one other held2 held3) (omega arith)))
s-range which level here (syntax.Whole n) h0 =
    s-bind which (maybe-known which) (maybe-known which) 0 0 _ (level.name here n) _ (s-le which (maybe-known which) 0 _ _ (h0.name here n) (omega arith)) (omega arith) (λ d held1.
    s-given which (with-part which) (with-part which) 0 _ d _ held1 (omega arith) (λ x held2.
    s-le which (maybe-known which) _ _ _ (s-named_range which x.known x.part held2) (omega arith)))
s-range which level here (syntax.Constrained n low high) h0 =
    s-then which (maybe-known which) _ (level.name here n) _ (h0.keeps.name here n) (λ d.
    s-then which (maybe-known which) _ (given d (λ x. scalar_type x.known)) _ (k-given leaving d _ (λ x. k-scalar_type leaving x.known)) (λ s.
    s-bind which (pair-of (maybe-known which) (maybe-known which)) (maybe-known which) 0 0 _ (two_bounds level here low high) _ (s-le which (pair-of (maybe-known which) (maybe-known which)) _ _ _ (s-two_bounds which level here low high h0) (omega arith)) (omega arith) (λ r held3.
    s-given-any which (with-part which) _ s _ (λ t.
    s-both which (with-part which) (with-part which) (with-part which) 0 _ r.0 r.1 _ held3.0 held3.1 (omega arith) (λ one held5 other held6.
    s-le which (maybe-known which) _ _ _ (s-checked_range which (first_token.of_name n) t one other held5 held6) (omega arith))))))

pub z-of_static : (which : ℕ) (x0 : Found) (x1 : Found) (x2 : Dimension) → (with-part which).Whole x0 → (with-part which).Whole x1 → Holds (with-part which) (part-size which x0.part + part-size which x1.part) (of_static x0 x1 x2)
z-of_static which a z d h0 h1 =
    let made1 = z-both_mentions which a z h0 h1 in
    (made1.0, omega (arith, made1.1))

pub s-spanned : (which : ℕ) (x0 : ℕ) (x1 : Bool) (x2 : Kind) (x3 : Found) (x4 : Found) (x5 : ℤ × ℤ) → (with-part which).Whole x3 → (with-part which).Whole x4 → Spends which (maybe-known which) (part-size which x3.part + part-size which x4.part) (spanned x0 x1 x2 x3 x4 x5)
s-spanned which first must_hold k a z r h3 h4 =
    s-if which (maybe-known which) _ (must_hold && not (int_le r.0 r.1)) (fault first StaticRange) (some (of_static a z (dimension k r)))
    (s-fault which (with-part which) _ first StaticRange)
    (s-some which (with-part which) _ (of_static a z (dimension k r)) (let made1 = z-of_static which a z (dimension k r) h3 h4 in
    (made1.0, omega (arith, made1.1))))

pub s-checked_span : (which : ℕ) (x0 : ℕ) (x1 : Bool) (x2 : Scalar) (x3 : Found) (x4 : Found) (x5 : ℤ × ℤ) → (with-part which).Whole x3 → (with-part which).Whole x4 → Spends which (maybe-known which) (part-size which x3.part + part-size which x4.part) (checked_span x0 x1 x2 x3 x4 x5)
s-checked_span which first must_hold s a z r h3 h4 =
    s-if which (maybe-known which) _ (not (int_le r.0 r.1)) (spanned first must_hold s.kind a z r) ((inside_subtype s a r.0) >>= λ u. (inside_subtype s z r.1) >>= λ v. if lies_in s r.0 && lies_in s r.1 then spanned first must_hold s.kind a z r else pure None)
    (s-le which (maybe-known which) _ _ _ (s-spanned which first must_hold s.kind a z r h3 h4) (omega arith))
    (s-then which (maybe-known which) _ (inside_subtype s a r.0) _ (k-inside_subtype leaving s a r.0) (λ u.
    s-then which (maybe-known which) _ (inside_subtype s z r.1) _ (k-inside_subtype leaving s z r.1) (λ v.
    s-if which (maybe-known which) _ (lies_in s r.0 && lies_in s r.1) (spanned first must_hold s.kind a z r) (pure None)
    (s-le which (maybe-known which) _ _ _ (s-spanned which first must_hold s.kind a z r h3 h4) (omega arith))
    (s-pure which (maybe-known which) _ None (tt, omega arith)))))

pub s-static_by : (which : ℕ) (x0 : ℕ) (x1 : Bool) (x2 : Found) (x3 : Found) (x4 : Kind) → (with-part which).Whole x2 → (with-part which).Whole x3 → Spends which (maybe-known which) (part-size which x2.part + part-size which x3.part) (static_by x0 x1 x2 x3 x4)
s-static_by which first must_hold a z k h2 h3 =
    s-if which (maybe-known which) _ (not (is_number a.known) || is_modular k) (fault (first_of a.known) WrongType) (if not (suits k a.known && suits k z.known) then fault (first_of z.known) WrongType else (both_static k a z) >>= λ s. given s (spanned first must_hold k a z))
    (s-fault which (with-part which) _ (first_of a.known) WrongType)
    (s-if which (maybe-known which) _ (not (suits k a.known && suits k z.known)) (fault (first_of z.known) WrongType) ((both_static k a z) >>= λ s. given s (spanned first must_hold k a z))
    (s-fault which (with-part which) _ (first_of z.known) WrongType)
    (s-then which (maybe-known which) _ (both_static k a z) _ (k-both_static leaving k a z) (λ s.
    s-given-any which (with-part which) _ s _ (λ item.
    s-le which (maybe-known which) _ _ _ (s-spanned which first must_hold k a z item h2 h3) (omega arith)))))

pub s-static_bounds : (which : ℕ) (x0 : ℕ) (x1 : Bool) (x2 : Option Kind) (x3 : Found) (x4 : Found) → (with-part which).Whole x3 → (with-part which).Whole x4 → Spends which (maybe-known which) (part-size which x3.part + part-size which x4.part) (static_bounds x0 x1 x2 x3 x4)
unfolding static_bounds
s-static_bounds which first must_hold want a z h3 h4 = s-le which (maybe-known which) _ _ _ (s-static_by which first must_hold a z (preferred want a.known z.known) h3 h4) (omega arith)

pub s-static_scalar : (which : ℕ) (x0 : ℕ) (x1 : Scalar) → Spends which (maybe-known which) 0 (static_scalar x0 x1)
s-static_scalar which first s =
    s-if which (maybe-known which) _ (is_index s.kind) (some (record { known = record { kind = s.kind; low = s.low; high = s.high }; part = part.Nothing })) (fault first WrongType)
    (s-some which (with-part which) _ (record { known = record { kind = s.kind; low = s.low; high = s.high }; part = part.Nothing }) (tt, omega arith))
    (s-fault which (with-part which) _ first WrongType)

pub s-static_name : (which : ℕ) (x0 : ℕ) (x1 : KnownDenoted) (x2 : TypedPart) → (part-measure which).Whole x2 → Spends which (maybe-known which) (part-size which x2) (static_name x0 x1 x2)
s-static_name which first (denoted.Range at d) x h2 = s-some which (with-part which) _ (record { known = d; part = x }) (h2, omega arith)
s-static_name which first (denoted.Type at (subtype.Scalar s)) x h2 = s-le which (maybe-known which) _ _ _ (s-static_scalar which first s) (omega arith)
s-static_name which first d x h2 = s-fault which (with-part which) _ (denoted_first d) WrongType

pub s-static_checked : (which : ℕ) (x0 : ℕ) (x1 : Bool) (x2 : Scalar) (x3 : Found) (x4 : Found) → (with-part which).Whole x3 → (with-part which).Whole x4 → Spends which (maybe-known which) (part-size which x3.part + part-size which x4.part) (static_checked x0 x1 x2 x3 x4)
unfolding static_checked
s-static_checked which first must_hold t a z h3 h4 =
    s-if which (maybe-known which) _ (is_index t.kind) ((both_static t.kind a z) >>= λ v. given v (checked_span first must_hold t a z)) (fault first WrongType)
    (s-then which (maybe-known which) _ (both_static t.kind a z) _ (k-both_static leaving t.kind a z) (λ v.
    s-given-any which (with-part which) _ v _ (λ item.
    s-le which (maybe-known which) _ _ _ (s-checked_span which first must_hold t a z item h3 h4) (omega arith))))
    (s-fault which (with-part which) _ first WrongType)

pub s-static_range : (which : ℕ) (x0 : Inside) (x1 : Context) (x2 : Bool) (x3 : Option Kind) (x4 : Range) → SpendsInside which x0 → Spends which (maybe-known which) 0 (static_range x0 x1 x2 x3 x4)
unfolding static_range
s-static_range which level here must_hold want (syntax.Bounded low high) h0 =
    s-bind which (pair-of (maybe-known which) (maybe-known which)) (maybe-known which) 0 0 _ (two_bounds level here low high) _ (s-le which (pair-of (maybe-known which) (maybe-known which)) _ _ _ (s-two_bounds which level here low high h0) (omega arith)) (omega arith) (λ r held1.
    s-both which (with-part which) (with-part which) (with-part which) 0 _ r.0 r.1 _ held1.0 held1.1 (omega arith) (λ one held2 other held3.
    s-le which (maybe-known which) _ _ _ (s-static_bounds which (first_token.of_simple low) must_hold want one other held2 held3) (omega arith)))
s-static_range which level here must_hold want (syntax.Whole n) h0 =
    s-bind which (maybe-known which) (maybe-known which) 0 0 _ (level.name here n) _ (s-le which (maybe-known which) 0 _ _ (h0.name here n) (omega arith)) (omega arith) (λ d held1.
    s-given which (with-part which) (with-part which) 0 _ d _ held1 (omega arith) (λ x held2.
    s-le which (maybe-known which) _ _ _ (s-static_name which (first_token.of_name n) x.known x.part held2) (omega arith)))
s-static_range which level here must_hold want (syntax.Constrained n low high) h0 =
    s-then which (maybe-known which) _ (level.name here n) _ (h0.keeps.name here n) (λ d.
    s-then which (maybe-known which) _ (given d (λ x. scalar_type x.known)) _ (k-given leaving d _ (λ x. k-scalar_type leaving x.known)) (λ s.
    s-bind which (pair-of (maybe-known which) (maybe-known which)) (maybe-known which) 0 0 _ (two_bounds level here low high) _ (s-le which (pair-of (maybe-known which) (maybe-known which)) _ _ _ (s-two_bounds which level here low high h0) (omega arith)) (omega arith) (λ r held3.
    s-given-any which (with-part which) _ s _ (λ t.
    s-both which (with-part which) (with-part which) (with-part which) 0 _ r.0 r.1 _ held3.0 held3.1 (omega arith) (λ one held5 other held6.
    s-le which (maybe-known which) _ _ _ (s-static_checked which (first_token.of_name n) must_hold t one other held5 held6) (omega arith))))))

pub s-one_value : (which : ℕ) (x0 : Kind) (x1 : Found) → (with-part which).Whole x1 → Spends which (maybe-known which) (part-size which x1.part) (one_value x0 x1)
s-one_value which k f h1 =
    s-then which (maybe-known which) _ (static_of_kind k f) _ (k-static_of_kind leaving k f) (λ v.
    s-given-any which (with-part which) _ v _ (λ z.
    s-some which (with-part which) _ (record { known = record { at = first_of f.known; low = kept k z; high = kept k z }; part = mentions_of f }) (let made3 = z-mentions_of which f h1 in
    (made3.0, omega (arith, made3.1)))))

pub s-two_values : (which : ℕ) (x0 : Kind) (x1 : Found) (x2 : Found) → (with-part which).Whole x1 → (with-part which).Whole x2 → Spends which (maybe-known which) (part-size which x1.part + part-size which x2.part) (two_values x0 x1 x2)
s-two_values which k a z h1 h2 =
    s-then which (maybe-known which) _ (static_of_kind k a) _ (k-static_of_kind leaving k a) (λ u.
    s-then which (maybe-known which) _ (static_of_kind k z) _ (k-static_of_kind leaving k z) (λ v.
    s-both-any which (with-part which) _ u v _ (λ x y.
    s-some which (with-part which) _ (record { known = record { at = first_of a.known; low = kept k x; high = kept k y }; part = both_mentions a z }) (let made5 = z-both_mentions which a z h1 h2 in
    (made5.0, omega (arith, made5.1))))))

pub s-values_of : (which : ℕ) (x0 : Option Kind) (x1 : Option Found) → (maybe-known which).Whole x1 → Spends which (maybe-known which) ((maybe-known which).size x1) (values_of x0 x1)
s-values_of which None x h1 = s-pure which (maybe-known which) _ None (tt, omega arith)
s-values_of which (Some k) x h1 =
    s-given which (with-part which) (with-part which) 0 _ x _ h1 (omega arith) (λ item held1.
    s-le which (maybe-known which) _ _ _ (s-one_value which k item held1) (omega arith))

pub s-range_values : (which : ℕ) (x0 : Option Kind) (x1 : (Option Found) × (Option Found)) → (maybe-known which).Whole x1.0 → (maybe-known which).Whole x1.1 → Spends which (maybe-known which) ((maybe-known which).size x1.0 + (maybe-known which).size x1.1) (range_values x0 x1)
s-range_values which None r h1-0 h1-1 = s-pure which (maybe-known which) _ None (tt, omega arith)
s-range_values which (Some k) r h1-0 h1-1 =
    s-both which (with-part which) (with-part which) (with-part which) 0 _ r.0 r.1 _ h1-0 h1-1 (omega arith) (λ one held1 other held2.
    s-le which (maybe-known which) _ _ _ (s-two_values which k one other held1 held2) (omega arith))

pub s-chosen_value : (which : ℕ) (x0 : Inside) (x1 : Context) (x2 : Option Kind) (x3 : Simple) → SpendsInside which x0 → Spends which (maybe-known which) 0 (chosen_value x0 x1 x2 x3)
unfolding chosen_value
s-chosen_value which level here k low h0 =
    s-bind which (maybe-known which) (maybe-known which) 0 0 _ (simple level here wanted.Other low) _ (s-le which (maybe-known which) _ _ _ (s-simple which level here wanted.Other low h0) (omega arith)) (omega arith) (λ out held1.
    s-le which (maybe-known which) _ _ _ (s-values_of which k out held1) (omega arith))

pub s-chosen_span : (which : ℕ) (x0 : Inside) (x1 : Context) (x2 : Option Kind) (x3 : Simple) (x4 : Simple) → SpendsInside which x0 → Spends which (maybe-known which) 0 (chosen_span x0 x1 x2 x3 x4)
unfolding chosen_span
s-chosen_span which level here k low high h0 =
    s-bind which (pair-of (maybe-known which) (maybe-known which)) (maybe-known which) 0 0 _ (two_bounds level here low high) _ (s-le which (pair-of (maybe-known which) (maybe-known which)) _ _ _ (s-two_bounds which level here low high h0) (omega arith)) (omega arith) (λ out held1.
    s-le which (maybe-known which) _ _ _ (s-range_values which k out held1.0 held1.1) (omega arith))
