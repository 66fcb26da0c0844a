-- What holds of each line of the log holds of what Ranges judges.
use Rattle.name_rules.specs.Expressions.{Inside, simple}
use Rattle.syntax_tree.specs.FirstTokens as first_token
use Rattle.name_rules.specs.Found.{Found}
use Rattle.name_rules.specs.Names.{denoted_first}
use Rattle.name_rules.specs.Operators.{both_mentions, common_kind}
use Rattle.name_rules.specs.Types.{base_of, lies_in, is_modular, kept}
use Rattle.name_rules.specs.Values.{asked, first_of, is_number, is_scalar, kind_of, mentions_of, static_of_kind, static_value, suits, value_of}
use Rattle.name_rules.specs.declared.found.Denoted.TheVariants as denoted
use Rattle.name_rules.specs.declared.found.Denoted.{Denoted as KnownDenoted}
use Rattle.name_rules.specs.declared.found.Found.{Found as Known}
use Rattle.name_rules.specs.declared.log.Rule.TheVariants.{StaticRange, WrongType}
use Rattle.name_rules.specs.declared.scope.Context.{Context}
use Rattle.name_rules.specs.declared.types.Kind.{Kind}
use Rattle.name_rules.specs.declared.types.Scalar.{Scalar}
use Rattle.name_rules.specs.declared.types.Subtype.TheVariants as subtype
use Rattle.name_rules.specs.declared.types.Wanted.TheVariants as wanted
use Rattle.syntax_tree.specs.Syntax as syntax
use Rattle.syntax_tree.specs.Syntax.{Range, Simple}
use Rattle.typed_tree.specs.Decoded as part
use Rattle.std.specs.Prelude.{Bool, None, Option, Some, if◌then◌else◌, int_le, not, option_map, ℕ, ℤ, ◌&&◌, ◌||◌}
use Rattle.typed_tree.specs.Decoded.{TypedPart}
use Rattle.name_rules.specs.Judging.{◌>>=◌, Judging, both, fault, given, pure, some}
use Rattle.name_rules.specs.Ranges.{two_bounds, bounds_of, of_one_type, bounded_by, own_range, own_bounds, checked_range, whole_range, named_range, scalar_type, range, both_static, dimension, of_static, spanned, inside_subtype, checked_span, preferred, static_by, static_bounds, static_scalar, static_name, static_checked, static_range, one_value, two_values, values_of, range_values, chosen_value, chosen_span, is_index}
use Rattle.name_laws.proofs.Walk.{Walk, Keeps, k-pure, k-some, k-bind, k-fault, k-unless, k-if, k-given, k-both}
use Rattle.name_laws.proofs.Walked.{KeepsInside}
use Rattle.name_laws.proofs.KeepsExpressions.{k-simple}
use Rattle.name_laws.proofs.KeepsValues.{k-asked, k-static_of_kind, k-static_value}

pub k-two_bounds : (walk : Walk) (x0 : Inside) (x1 : Context) (x2 : Simple) (x3 : Simple) → KeepsInside walk x0 → Keeps walk (two_bounds x0 x1 x2 x3)
unfolding two_bounds
k-two_bounds walk level here low high keeps1 = record {
  at = λ log.
      let out1 = simple level here wanted.Other low log in
      let x = out1.0 in
      walk.joins _ _ _ ((k-simple walk level here wanted.Other low keeps1).at log)
      ((k-simple walk level here wanted.Other high keeps1).at out1.1);
}

pub k-bounds_of : (walk : Walk) (x0 : Kind) (x1 : Found) (x2 : Found) → Keeps walk (bounds_of x0 x1 x2)
unfolding bounds_of
k-bounds_of walk k a z = record {
  at = λ log.
      let out1 = asked k a log in
      let x = out1.0 in
      walk.joins _ _ _ ((k-asked walk k a).at log)
      ((k-asked walk k z).at out1.1);
}

pub k-of_one_type : (walk : Walk) {A : Type 0} (x0 : Known) (x1 : Known) (x2 : Kind) (x3 : (Kind → Judging (Option A))) → ((x : Kind) → Keeps walk (x3 x)) → Keeps walk (of_one_type x0 x1 x2 x3)
k-of_one_type walk a z k f keeps1 = k-if walk (not (is_scalar a)) (fault (first_of a) WrongType) (if not (suits k a) then fault (first_of z) WrongType else if is_modular k then fault (first_of a) WrongType else f k) (k-fault walk (first_of a) WrongType) (k-if walk (not (suits k a)) (fault (first_of z) WrongType) (if is_modular k then fault (first_of a) WrongType else f k) (k-fault walk (first_of z) WrongType) (k-if walk (is_modular k) (fault (first_of a) WrongType) (f k) (k-fault walk (first_of a) WrongType) (keeps1 k)))

pub k-own_range : (walk : Walk) (x0 : ℕ) (x1 : Found) (x2 : Found) (x3 : Kind) → Keeps walk (own_range x0 x1 x2 x3)
k-own_range walk first a z k = k-bind walk (bounds_of k a z) (λ x. pure (option_map (bounded_by first (base_of k) None a z) x)) (k-bounds_of walk k a z) (λ x. k-pure walk (option_map (bounded_by first (base_of k) None a z) x))

pub k-own_bounds : (walk : Walk) (x0 : ℕ) (x1 : Found) (x2 : Found) → Keeps walk (own_bounds x0 x1 x2)
unfolding own_bounds
k-own_bounds walk first a z = k-of_one_type walk a.known z.known (common_kind (kind_of a.known) (kind_of z.known)) (own_range first a z) (λ z1. k-own_range walk first a z z1)

pub k-checked_range : (walk : Walk) (x0 : ℕ) (x1 : Scalar) (x2 : Found) (x3 : Found) → Keeps walk (checked_range x0 x1 x2 x3)
unfolding checked_range
k-checked_range walk first s a z = k-if walk (is_modular s.kind) (fault first WrongType) (bounds_of s.kind a z >>= λ x. pure (option_map (bounded_by first s (Some s) a z) x)) (k-fault walk first WrongType) (k-bind walk (bounds_of s.kind a z) (λ x. pure (option_map (bounded_by first s (Some s) a z) x)) (k-bounds_of walk s.kind a z) (λ x. k-pure walk (option_map (bounded_by first s (Some s) a z) x)))

pub k-named_range : (walk : Walk) (x0 : KnownDenoted) (x1 : TypedPart) → Keeps walk (named_range x0 x1)
k-named_range walk (denoted.Range first d) x = k-some walk (whole_range first d.kind d.low d.high x)
k-named_range walk (denoted.Type first (subtype.Scalar s)) x = k-if walk (is_modular s.kind) (fault first WrongType) (some (whole_range first s.kind s.low s.high part.Nothing)) (k-fault walk first WrongType) (k-some walk (whole_range first s.kind s.low s.high part.Nothing))
k-named_range walk d x = k-fault walk (denoted_first d) WrongType

pub k-scalar_type : (walk : Walk) (x0 : KnownDenoted) → Keeps walk (scalar_type x0)
k-scalar_type walk (denoted.Type first (subtype.Scalar s)) = k-some walk s
k-scalar_type walk d = k-fault walk (denoted_first d) WrongType

pub k-range : (walk : Walk) (x0 : Inside) (x1 : Context) (x2 : Range) → KeepsInside walk x0 → Keeps walk (range x0 x1 x2)
unfolding range
k-range walk level here (syntax.Bounded low high) keeps1 = k-bind walk (two_bounds level here low high) (λ r. both r.0 r.1 (own_bounds (first_token.of_simple low))) (k-two_bounds walk level here low high keeps1) (λ r. k-both walk r.0 r.1 (own_bounds (first_token.of_simple low)) (λ z1 z2. k-own_bounds walk (first_token.of_simple low) z1 z2))
k-range walk level here (syntax.Whole n) keeps1 = k-bind walk (level.name here n) (λ d. given d (λ x. named_range x.known x.part)) (keeps1.name here n) (λ d. k-given walk d (λ x. named_range x.known x.part) (λ x. k-named_range walk x.known x.part))
k-range walk level here (syntax.Constrained n low high) keeps1 = record {
  at = λ log.
      let out1 = level.name here n log in
      let d = out1.0 in
      let out2 = given d (λ x. scalar_type x.known) out1.1 in
      let s = out2.0 in
      let out3 = two_bounds level here low high out2.1 in
      let r = out3.0 in
      walk.joins _ _ _ ((keeps1.name here n).at log)
      (walk.joins _ _ _ ((k-given walk d (λ x. scalar_type x.known) (λ x. k-scalar_type walk x.known)).at out1.1)
      (walk.joins _ _ _ ((k-two_bounds walk level here low high keeps1).at out2.1)
      ((k-given walk s (λ t. both r.0 r.1 (checked_range (first_token.of_name n) t)) (λ t. k-both walk r.0 r.1 (checked_range (first_token.of_name n) t) (λ z4 z5. k-checked_range walk (first_token.of_name n) t z4 z5))).at out3.1)));
}

pub k-both_static : (walk : Walk) (x0 : Kind) (x1 : Found) (x2 : Found) → Keeps walk (both_static x0 x1 x2)
k-both_static walk k a z = record {
  at = λ log.
      let out1 = asked k a log in
      let x = out1.0 in
      let out2 = asked k z out1.1 in
      let y = out2.0 in
      walk.joins _ _ _ ((k-asked walk k a).at log)
      (walk.joins _ _ _ ((k-asked walk k z).at out1.1)
      ((k-both walk x y (λ e f. static_value (first_of a.known) (value_of a.known) >>= λ u. static_value (first_of z.known) (value_of z.known) >>= λ v. both u v (λ i j. some (i, j))) (λ e f. record { at = λ log. let out3 = static_value (first_of a.known) (value_of a.known) log in let u = out3.0 in let out4 = static_value (first_of z.known) (value_of z.known) out3.1 in let v = out4.0 in walk.joins _ _ _ ((k-static_value walk (first_of a.known) (value_of a.known)).at log) (walk.joins _ _ _ ((k-static_value walk (first_of z.known) (value_of z.known)).at out3.1) ((k-both walk u v (λ i j. some (i, j)) (λ i j. k-some walk (i, j))).at out4.1)) })).at out2.1));
}

pub k-spanned : (walk : Walk) (x0 : ℕ) (x1 : Bool) (x2 : Kind) (x3 : Found) (x4 : Found) (x5 : ℤ × ℤ) → Keeps walk (spanned x0 x1 x2 x3 x4 x5)
k-spanned walk first must_hold k a z r = k-if walk (must_hold && not (int_le r.0 r.1)) (fault first StaticRange) (some (of_static a z (dimension k r))) (k-fault walk first StaticRange) (k-some walk (of_static a z (dimension k r)))

pub k-inside_subtype : (walk : Walk) (x0 : Scalar) (x1 : Found) (x2 : ℤ) → Keeps walk (inside_subtype x0 x1 x2)
k-inside_subtype walk s b z = k-unless walk (lies_in s z) (first_of b.known) StaticRange

pub k-checked_span : (walk : Walk) (x0 : ℕ) (x1 : Bool) (x2 : Scalar) (x3 : Found) (x4 : Found) (x5 : ℤ × ℤ) → Keeps walk (checked_span x0 x1 x2 x3 x4 x5)
k-checked_span walk first must_hold s a z r = k-if walk (not (int_le r.0 r.1)) (spanned first must_hold s.kind a z r) ((inside_subtype s a r.0 >>= λ u. inside_subtype s z r.1 >>= λ v. if lies_in s r.0 && lies_in s r.1 then spanned first must_hold s.kind a z r else pure None)) (k-spanned walk first must_hold s.kind a z r) (record { at = λ log. let out1 = inside_subtype s a r.0 log in let out2 = inside_subtype s z r.1 out1.1 in walk.joins _ _ _ ((k-inside_subtype walk s a r.0).at log) (walk.joins _ _ _ ((k-inside_subtype walk s z r.1).at out1.1) ((k-if walk (lies_in s r.0 && lies_in s r.1) (spanned first must_hold s.kind a z r) (pure None) (k-spanned walk first must_hold s.kind a z r) (k-pure walk None)).at out2.1)) })

pub k-static_by : (walk : Walk) (x0 : ℕ) (x1 : Bool) (x2 : Found) (x3 : Found) (x4 : Kind) → Keeps walk (static_by x0 x1 x2 x3 x4)
k-static_by walk first must_hold a z k = k-if walk (not (is_number a.known) || is_modular k) (fault (first_of a.known) WrongType) (if not (suits k a.known && suits k z.known) then fault (first_of z.known) WrongType else (both_static k a z >>= λ s. given s (spanned first must_hold k a z))) (k-fault walk (first_of a.known) WrongType) (k-if walk (not (suits k a.known && suits k z.known)) (fault (first_of z.known) WrongType) ((both_static k a z >>= λ s. given s (spanned first must_hold k a z))) (k-fault walk (first_of z.known) WrongType) (k-bind walk (both_static k a z) (λ s. given s (spanned first must_hold k a z)) (k-both_static walk k a z) (λ s. k-given walk s (spanned first must_hold k a z) (λ z1. k-spanned walk first must_hold k a z z1))))

pub k-static_bounds : (walk : Walk) (x0 : ℕ) (x1 : Bool) (x2 : Option Kind) (x3 : Found) (x4 : Found) → Keeps walk (static_bounds x0 x1 x2 x3 x4)
unfolding static_bounds
k-static_bounds walk first must_hold want a z = k-static_by walk first must_hold a z (preferred want a.known z.known)

pub k-static_scalar : (walk : Walk) (x0 : ℕ) (x1 : Scalar) → Keeps walk (static_scalar x0 x1)
k-static_scalar walk first s = k-if walk (is_index s.kind) (some (record { known = record { kind = s.kind; low = s.low; high = s.high }; part = part.Nothing })) (fault first WrongType) (k-some walk (record { known = record { kind = s.kind; low = s.low; high = s.high }; part = part.Nothing })) (k-fault walk first WrongType)

pub k-static_name : (walk : Walk) (x0 : ℕ) (x1 : KnownDenoted) (x2 : TypedPart) → Keeps walk (static_name x0 x1 x2)
k-static_name walk first (denoted.Range at d) x = k-some walk (record { known = d; part = x })
k-static_name walk first (denoted.Type at (subtype.Scalar s)) x = k-static_scalar walk first s
k-static_name walk first d x = k-fault walk (denoted_first d) WrongType

pub k-static_checked : (walk : Walk) (x0 : ℕ) (x1 : Bool) (x2 : Scalar) (x3 : Found) (x4 : Found) → Keeps walk (static_checked x0 x1 x2 x3 x4)
unfolding static_checked
k-static_checked walk first must_hold t a z = k-if walk (is_index t.kind) ((both_static t.kind a z >>= λ v. given v (checked_span first must_hold t a z))) (fault first WrongType) (k-bind walk (both_static t.kind a z) (λ v. given v (checked_span first must_hold t a z)) (k-both_static walk t.kind a z) (λ v. k-given walk v (checked_span first must_hold t a z) (λ z1. k-checked_span walk first must_hold t a z z1))) (k-fault walk first WrongType)

pub k-static_range : (walk : Walk) (x0 : Inside) (x1 : Context) (x2 : Bool) (x3 : Option Kind) (x4 : Range) → KeepsInside walk x0 → Keeps walk (static_range x0 x1 x2 x3 x4)
unfolding static_range
k-static_range walk level here must_hold want (syntax.Bounded low high) keeps1 = k-bind walk (two_bounds level here low high) (λ r. both r.0 r.1 (static_bounds (first_token.of_simple low) must_hold want)) (k-two_bounds walk level here low high keeps1) (λ r. k-both walk r.0 r.1 (static_bounds (first_token.of_simple low) must_hold want) (λ z1 z2. k-static_bounds walk (first_token.of_simple low) must_hold want z1 z2))
k-static_range walk level here must_hold want (syntax.Whole n) keeps1 = k-bind walk (level.name here n) (λ d. given d (λ x. static_name (first_token.of_name n) x.known x.part)) (keeps1.name here n) (λ d. k-given walk d (λ x. static_name (first_token.of_name n) x.known x.part) (λ x. k-static_name walk (first_token.of_name n) x.known x.part))
k-static_range walk level here must_hold want (syntax.Constrained n low high) keeps1 = record {
  at = λ log.
      let out1 = level.name here n log in
      let d = out1.0 in
      let out2 = given d (λ x. scalar_type x.known) out1.1 in
      let s = out2.0 in
      let out3 = two_bounds level here low high out2.1 in
      let r = out3.0 in
      walk.joins _ _ _ ((keeps1.name here n).at log)
      (walk.joins _ _ _ ((k-given walk d (λ x. scalar_type x.known) (λ x. k-scalar_type walk x.known)).at out1.1)
      (walk.joins _ _ _ ((k-two_bounds walk level here low high keeps1).at out2.1)
      ((k-given walk s (λ t. both r.0 r.1 (static_checked (first_token.of_name n) must_hold t)) (λ t. k-both walk r.0 r.1 (static_checked (first_token.of_name n) must_hold t) (λ z4 z5. k-static_checked walk (first_token.of_name n) must_hold t z4 z5))).at out3.1)));
}

pub k-one_value : (walk : Walk) (x0 : Kind) (x1 : Found) → Keeps walk (one_value x0 x1)
k-one_value walk k f = k-bind walk (static_of_kind k f) (λ v. given v (λ z. some (record { known = record { at = first_of f.known; low = kept k z; high = kept k z }; part = mentions_of f }))) (k-static_of_kind walk k f) (λ v. k-given walk v (λ z. some (record { known = record { at = first_of f.known; low = kept k z; high = kept k z }; part = mentions_of f })) (λ z. k-some walk (record { known = record { at = first_of f.known; low = kept k z; high = kept k z }; part = mentions_of f })))

pub k-two_values : (walk : Walk) (x0 : Kind) (x1 : Found) (x2 : Found) → Keeps walk (two_values x0 x1 x2)
k-two_values walk k a z = record {
  at = λ log.
      let out1 = static_of_kind k a log in
      let u = out1.0 in
      let out2 = static_of_kind k z out1.1 in
      let v = out2.0 in
      walk.joins _ _ _ ((k-static_of_kind walk k a).at log)
      (walk.joins _ _ _ ((k-static_of_kind walk k z).at out1.1)
      ((k-both walk u v (λ x y. some (record { known = record { at = first_of a.known; low = kept k x; high = kept k y }; part = both_mentions a z })) (λ x y. k-some walk (record { known = record { at = first_of a.known; low = kept k x; high = kept k y }; part = both_mentions a z }))).at out2.1));
}

pub k-values_of : (walk : Walk) (x0 : Option Kind) (x1 : Option Found) → Keeps walk (values_of x0 x1)
k-values_of walk None x = k-pure walk None
k-values_of walk (Some k) x = k-given walk x (one_value k) (λ z1. k-one_value walk k z1)

pub k-range_values : (walk : Walk) (x0 : Option Kind) (x1 : Option Found × Option Found) → Keeps walk (range_values x0 x1)
k-range_values walk None r = k-pure walk None
k-range_values walk (Some k) r = k-both walk r.0 r.1 (two_values k) (λ z1 z2. k-two_values walk k z1 z2)

pub k-chosen_value : (walk : Walk) (x0 : Inside) (x1 : Context) (x2 : Option Kind) (x3 : Simple) → KeepsInside walk x0 → Keeps walk (chosen_value x0 x1 x2 x3)
unfolding chosen_value
k-chosen_value walk level here k low keeps1 = k-bind walk (simple level here wanted.Other low) (values_of k) (k-simple walk level here wanted.Other low keeps1) (λ z2. k-values_of walk k z2)

pub k-chosen_span : (walk : Walk) (x0 : Inside) (x1 : Context) (x2 : Option Kind) (x3 : Simple) (x4 : Simple) → KeepsInside walk x0 → Keeps walk (chosen_span x0 x1 x2 x3 x4)
unfolding chosen_span
k-chosen_span walk level here k low high keeps1 = k-bind walk (two_bounds level here low high) (range_values k) (k-two_bounds walk level here low high keeps1) (λ z2. k-range_values walk k z2)
