-- What is found is in scope: ranges and choices.
use Rattle.std.proofs.Common.{ℕ, ℤ, Option, Some, None, Bool, option_map, int_le, ◌&&◌}
use Rattle.std.specs.Prelude.{not, ◌||◌}
use Rattle.name_scopes.proofs.Seen.{SeenExpr}
use Rattle.syntax_tree.specs.FirstTokens as first_token
use Rattle.syntax_tree.specs.Syntax as syntax
use Rattle.syntax_tree.specs.Syntax.{Range, Simple}
use Rattle.typed_tree.specs.Decoded as part
use Rattle.typed_tree.specs.Decoded.{TypedPart}
use Rattle.name_rules.specs.Expressions.{Inside, simple}
use Rattle.name_rules.specs.Found.{Bounded, Denoted, Found}
use Rattle.name_rules.specs.Judging.{fault, given, joined, pure, some}
use Rattle.name_rules.specs.Names.{denoted_first}
use Rattle.name_rules.specs.Operators.{both_mentions, common_kind}
use Rattle.name_rules.specs.Ranges.{Chosen, Static, both_static, bounded_by, bounds_of, checked_range, checked_span, chosen_span, chosen_value, dimension, inside_subtype, named_range, of_static, one_value, own_bounds, own_range, preferred, range, range_part, range_values, scalar_type, spanned, static_bounds, static_checked, static_name, static_range, static_scalar, two_bounds, two_values, values_of, whole_range, is_index}
use Rattle.name_rules.specs.TypedParts.{high_of, low_of}
use Rattle.name_rules.specs.Types.{base_of, lies_in, is_modular, kept}
use Rattle.name_rules.specs.Values.{asked, first_of, is_number, is_scalar, kind_of, mentions_of, static_of_kind, static_value, suits, value_of}
use Rattle.name_rules.specs.declared.found.Denoted.TheVariants as denoted
use Rattle.name_rules.specs.declared.found.Denoted.{Denoted as KnownDenoted}
use Rattle.name_rules.specs.declared.log.Rule.TheVariants.{StaticRange, WrongType}
use Rattle.name_rules.specs.declared.scope.Context.{Context}
use Rattle.name_rules.specs.declared.types.Kind.{Kind}
use Rattle.name_rules.specs.declared.types.Scalar.{Scalar}
use Rattle.name_rules.specs.declared.types.Subtype.TheVariants as subtype
use Rattle.name_rules.specs.declared.types.Wanted.TheVariants as wanted
use Rattle.name_scopes.proofs.Sees.{Any, Sees, Maybe, Sight, World, any, v-bind, v-both, v-fault, v-given, v-if, v-none, v-pure, v-some, v-unless, joint, mapped}
use Rattle.name_scopes.proofs.SeesExpressions.{v-simple}
use Rattle.name_scopes.proofs.SeesFound.{Around, DenotedOf, DenotesOf, ExprOf, Finding, FoundOf, LevelSees, MentionsOf}
use Rattle.name_scopes.proofs.SeesOperators.{both-mentions}
use Rattle.name_scopes.proofs.SeesValues.{StaticValue, exprs-seen, v-asked, v-static_of, v-static_of_kind, static-mentions}

module _ (W : World) (V : Sight) where
  -- ---- ranges

  -- two bounds
  abbrev pub RangeOf : TypedPart → Type 0
  RangeOf p = SeenExpr W.program W.shown V.around (low_of p) × SeenExpr W.program W.shown V.around (high_of p)

  abbrev pub BoundedOf : Bounded → Type 0
  BoundedOf b = RangeOf b.part

  abbrev pub AreFinding : Option Found × Option Found → Type 0
  AreFinding r = (Finding W V) r.0 × (Finding W V) r.1

  pub v-two_bounds : (level : Inside) (here : Context) (low high : Simple) → LevelSees W level → Around W V here → Sees W V AreFinding (two_bounds level here low high)
  unfolding two_bounds
  v-two_bounds level here low high l r =
      v-bind W V (Finding W V) AreFinding (simple level here wanted.Other low) _ (v-simple W V level here wanted.Other low l r) (λ x p.
      v-bind W V (Finding W V) AreFinding (simple level here wanted.Other high) _ (v-simple W V level here wanted.Other high l r) (λ y q. v-pure W V AreFinding (x, y) (p, q)))

  v-bounds_of : (k : Kind) (a z : Found) → FoundOf W V a → FoundOf W V z → Sees W V (Maybe RangeOf) (bounds_of k a z)
  unfolding bounds_of
  v-bounds_of k a z g h =
      v-bind W V (Maybe (ExprOf W V)) (Maybe RangeOf) (asked k a) _ (v-asked W V k a g) (λ x p.
      v-bind W V (Maybe (ExprOf W V)) (Maybe RangeOf) (asked k z) _ (v-asked W V k z h) (λ y q.
      v-pure W V (Maybe RangeOf) (joined range_part x y) (joint (ExprOf W V) (ExprOf W V) RangeOf range_part x y p q (λ m n s t. (s, t)))))

  v-own_range : (first : ℕ) (a z : Found) (k : Kind) → FoundOf W V a → FoundOf W V z → Sees W V (Maybe BoundedOf) (own_range first a z k)
  v-own_range first a z k g h =
      v-bind W V (Maybe RangeOf) (Maybe BoundedOf) (bounds_of k a z) _ (v-bounds_of k a z g h) (λ x q. v-pure W V (Maybe BoundedOf) (option_map (bounded_by first (base_of k) None a z) x) (mapped RangeOf BoundedOf (bounded_by first (base_of k) None a z) x q (λ y s. s)))

  v-own_bounds : (first : ℕ) (a z : Found) → FoundOf W V a → FoundOf W V z → Sees W V (Maybe BoundedOf) (own_bounds first a z)
  unfolding own_bounds
  v-own_bounds first a z g h =
      let k = common_kind (kind_of a.known) (kind_of z.known) in
      v-if W V (Maybe BoundedOf) (not (is_scalar a.known)) (fault (first_of a.known) WrongType) _ (v-fault W V BoundedOf (first_of a.known) WrongType)
      (v-if W V (Maybe BoundedOf) (not (suits k a.known)) (fault (first_of z.known) WrongType) _ (v-fault W V BoundedOf (first_of z.known) WrongType)
      (v-if W V (Maybe BoundedOf) (is_modular k) (fault (first_of a.known) WrongType) (own_range first a z k) (v-fault W V BoundedOf (first_of a.known) WrongType) (v-own_range first a z k g h)))

  v-checked_range : (first : ℕ) (s : Scalar) (a z : Found) → FoundOf W V a → FoundOf W V z → Sees W V (Maybe BoundedOf) (checked_range first s a z)
  unfolding checked_range
  v-checked_range first s a z g h =
      v-if W V (Maybe BoundedOf) (is_modular s.kind) (fault first WrongType) _ (v-fault W V BoundedOf first WrongType)
      (v-bind W V (Maybe RangeOf) (Maybe BoundedOf) (bounds_of s.kind a z) _ (v-bounds_of s.kind a z g h) (λ x q. v-pure W V (Maybe BoundedOf) (option_map (bounded_by first s (Some s) a z) x) (mapped RangeOf BoundedOf (bounded_by first s (Some s) a z) x q (λ y t. t))))

  whole-range : (first : ℕ) (k : Kind) (low high : ℤ) (ms : TypedPart) → MentionsOf W V ms → BoundedOf (whole_range first k low high ms)
  whole-range first k low high ms h = (exprs-seen W V ms h, exprs-seen W V part.Nothing tt)

  v-named_range : (k : KnownDenoted) (x : TypedPart) → DenotesOf W V k x → Sees W V (Maybe BoundedOf) (named_range k x)
  v-named_range (denoted.Range first d) x h = v-some W V BoundedOf (whole_range first d.kind d.low d.high x) (whole-range first d.kind d.low d.high x h)
  v-named_range (denoted.Type first (subtype.Scalar s)) x h =
      v-if W V (Maybe BoundedOf) (is_modular s.kind) (fault first WrongType) (some (whole_range first s.kind s.low s.high part.Nothing)) (v-fault W V BoundedOf first WrongType)
      (v-some W V BoundedOf (whole_range first s.kind s.low s.high part.Nothing) (whole-range first s.kind s.low s.high part.Nothing tt))
  v-named_range k x h = v-fault W V BoundedOf (denoted_first k) WrongType

  v-scalar_type_of : (k : KnownDenoted) → Sees W V (Maybe Any) (scalar_type k)
  v-scalar_type_of (denoted.Type first (subtype.Scalar s)) = v-some W V Any s tt
  v-scalar_type_of k = v-fault W V Any (denoted_first k) WrongType

  pub v-scalar_type : (d : Option Denoted) → Sees W V (Maybe Any) (given d (λ x. scalar_type x.known))
  v-scalar_type d = v-given W V Any Any d _ (any d) (λ x q. v-scalar_type_of x.known)

  pub v-range : (level : Inside) (here : Context) (x : Range) → LevelSees W level → Around W V here → Sees W V (Maybe BoundedOf) (range level here x)
  unfolding range
  v-range level here (syntax.Bounded low high) l r =
      v-bind W V AreFinding (Maybe BoundedOf) (two_bounds level here low high) _ (v-two_bounds level here low high l r) (λ x q. v-both W V (FoundOf W V) (FoundOf W V) BoundedOf x.0 x.1 (own_bounds (first_token.of_simple low)) q.0 q.1 (λ a z g h. v-own_bounds (first_token.of_simple low) a z g h))
  v-range level here (syntax.Whole n) l r =
      v-bind W V (Maybe (DenotedOf W V)) (Maybe BoundedOf) (level.name here n) _ (l.name V here n r) (λ d q. v-given W V (DenotedOf W V) BoundedOf d _ q (λ x s. v-named_range x.known x.part s))
  v-range level here (syntax.Constrained n low high) l r =
      v-bind W V (Maybe (DenotedOf W V)) (Maybe BoundedOf) (level.name here n) _ (l.name V here n r) (λ d q.
      v-bind W V (Maybe Any) (Maybe BoundedOf) (given d (λ x. scalar_type x.known)) _ (v-scalar_type d) (λ s p.
      v-bind W V AreFinding (Maybe BoundedOf) (two_bounds level here low high) _ (v-two_bounds level here low high l r) (λ x t.
      v-given W V Any BoundedOf s _ p (λ u v. v-both W V (FoundOf W V) (FoundOf W V) BoundedOf x.0 x.1 (checked_range (first_token.of_name n) u) t.0 t.1 (λ a z g h. v-checked_range (first_token.of_name n) u a z g h)))))

  -- ---- static ranges: what they mention

  abbrev pub StaticOf : Static → Type 0
  StaticOf s = MentionsOf W V s.part

  pub v-both_static : (k : Kind) (a z : Found) → FoundOf W V a → FoundOf W V z → Sees W V (Maybe (λ r. MentionsOf W V (both_mentions a z))) (both_static k a z)
  v-both_static k a z g h =
      v-bind W V (Maybe (ExprOf W V)) (Maybe (λ r. MentionsOf W V (both_mentions a z))) (asked k a) _ (v-asked W V k a g) (λ x p.
      v-bind W V (Maybe (ExprOf W V)) (Maybe (λ r. MentionsOf W V (both_mentions a z))) (asked k z) _ (v-asked W V k z h) (λ y q.
      v-both W V (ExprOf W V) (ExprOf W V) (λ r. MentionsOf W V (both_mentions a z)) x y _ p q (λ e f s t.
      v-bind W V (Maybe (StaticValue W V a)) (Maybe (λ r. MentionsOf W V (both_mentions a z))) (static_value (first_of a.known) (value_of a.known)) _ (v-static_of W V a) (λ u m.
      v-bind W V (Maybe (StaticValue W V z)) (Maybe (λ r. MentionsOf W V (both_mentions a z))) (static_value (first_of z.known) (value_of z.known)) _ (v-static_of W V z) (λ v n.
      v-both W V (StaticValue W V a) (StaticValue W V z) (λ r. MentionsOf W V (both_mentions a z)) u v _ m n (λ i j c d.
      v-some W V (λ r. MentionsOf W V (both_mentions a z)) (i, j) (both-mentions W V a z i j g h c d)))))))

  v-spanned : (first : ℕ) (must : Bool) (k : Kind) (a z : Found) (r : ℤ × ℤ) → MentionsOf W V (both_mentions a z) → Sees W V (Maybe StaticOf) (spanned first must k a z r)
  v-spanned first must k a z r h =
      v-if W V (Maybe StaticOf) (must && not (int_le r.0 r.1)) (fault first StaticRange) (some (of_static a z (dimension k r))) (v-fault W V StaticOf first StaticRange) (v-some W V StaticOf (of_static a z (dimension k r)) h)

  v-inside_subtype : (s : Scalar) (x : Found) (z : ℤ) → Sees W V Any (inside_subtype s x z)
  v-inside_subtype s x z = v-unless W V (lies_in s z) (first_of x.known) StaticRange

  v-checked_span : (first : ℕ) (must : Bool) (s : Scalar) (a z : Found) (r : ℤ × ℤ) → MentionsOf W V (both_mentions a z) → Sees W V (Maybe StaticOf) (checked_span first must s a z r)
  v-checked_span first must s a z r h =
      v-if W V (Maybe StaticOf) (not (int_le r.0 r.1)) (spanned first must s.kind a z r) _ (v-spanned first must s.kind a z r h)
      (v-bind W V Any (Maybe StaticOf) (inside_subtype s a r.0) _ (v-inside_subtype s a r.0) (λ u p.
      v-bind W V Any (Maybe StaticOf) (inside_subtype s z r.1) _ (v-inside_subtype s z r.1) (λ v q.
      v-if W V (Maybe StaticOf) (lies_in s r.0 && lies_in s r.1) (spanned first must s.kind a z r) (pure None) (v-spanned first must s.kind a z r h) (v-none W V StaticOf))))

  v-static_bounds : (first : ℕ) (must : Bool) (want : Option Kind) (a z : Found) → FoundOf W V a → FoundOf W V z → Sees W V (Maybe StaticOf) (static_bounds first must want a z)
  unfolding static_bounds
  v-static_bounds first must want a z g h =
      let k = preferred want a.known z.known in
      v-if W V (Maybe StaticOf) (not (is_number a.known) || is_modular k) (fault (first_of a.known) WrongType) _ (v-fault W V StaticOf (first_of a.known) WrongType)
      (v-if W V (Maybe StaticOf) (not (suits k a.known && suits k z.known)) (fault (first_of z.known) WrongType) _ (v-fault W V StaticOf (first_of z.known) WrongType)
      (v-bind W V (Maybe (λ r. MentionsOf W V (both_mentions a z))) (Maybe StaticOf) (both_static k a z) _ (v-both_static k a z g h) (λ v q.
      v-given W V (λ r. MentionsOf W V (both_mentions a z)) StaticOf v (spanned first must k a z) q (λ r p. v-spanned first must k a z r p))))

  v-static_checked : (first : ℕ) (must : Bool) (t : Scalar) (a z : Found) → FoundOf W V a → FoundOf W V z → Sees W V (Maybe StaticOf) (static_checked first must t a z)
  unfolding static_checked
  v-static_checked first must t a z g h =
      v-if W V (Maybe StaticOf) (is_index t.kind) _ (fault first WrongType)
      (v-bind W V (Maybe (λ r. MentionsOf W V (both_mentions a z))) (Maybe StaticOf) (both_static t.kind a z) _ (v-both_static t.kind a z g h) (λ v q.
      v-given W V (λ r. MentionsOf W V (both_mentions a z)) StaticOf v (checked_span first must t a z) q (λ r p. v-checked_span first must t a z r p)))
      (v-fault W V StaticOf first WrongType)

  v-static_scalar : (first : ℕ) (s : Scalar) → Sees W V (Maybe StaticOf) (static_scalar first s)
  v-static_scalar first s =
      let x : Static = record { known = record { kind = s.kind; low = s.low; high = s.high }; part = part.Nothing } in
      v-if W V (Maybe StaticOf) (is_index s.kind) (some x) (fault first WrongType) (v-some W V StaticOf x tt) (v-fault W V StaticOf first WrongType)

  v-static_name : (first : ℕ) (k : KnownDenoted) (x : TypedPart) → DenotesOf W V k x → Sees W V (Maybe StaticOf) (static_name first k x)
  v-static_name first (denoted.Range at e) x h = v-some W V StaticOf (record { known = e; part = x }) h
  v-static_name first (denoted.Type at (subtype.Scalar s)) x h = v-static_scalar first s
  v-static_name first k x h = v-fault W V StaticOf (denoted_first k) WrongType

  pub v-static_range : (level : Inside) (here : Context) (must : Bool) (want : Option Kind) (x : Range) → LevelSees W level → Around W V here → Sees W V (Maybe StaticOf) (static_range level here must want x)
  unfolding static_range
  v-static_range level here must want (syntax.Bounded low high) l r =
      v-bind W V AreFinding (Maybe StaticOf) (two_bounds level here low high) _ (v-two_bounds level here low high l r) (λ x q.
      v-both W V (FoundOf W V) (FoundOf W V) StaticOf x.0 x.1 (static_bounds (first_token.of_simple low) must want) q.0 q.1 (λ a z g h. v-static_bounds (first_token.of_simple low) must want a z g h))
  v-static_range level here must want (syntax.Whole n) l r =
      v-bind W V (Maybe (DenotedOf W V)) (Maybe StaticOf) (level.name here n) _ (l.name V here n r) (λ y q. v-given W V (DenotedOf W V) StaticOf y _ q (λ x s. v-static_name (first_token.of_name n) x.known x.part s))
  v-static_range level here must want (syntax.Constrained n low high) l r =
      v-bind W V (Maybe (DenotedOf W V)) (Maybe StaticOf) (level.name here n) _ (l.name V here n r) (λ y q.
      v-bind W V (Maybe Any) (Maybe StaticOf) (given y (λ x. scalar_type x.known)) _ (v-scalar_type y) (λ s p.
      v-bind W V AreFinding (Maybe StaticOf) (two_bounds level here low high) _ (v-two_bounds level here low high l r) (λ x t.
      v-given W V Any StaticOf s _ p (λ u v. v-both W V (FoundOf W V) (FoundOf W V) StaticOf x.0 x.1 (static_checked (first_token.of_name n) must u) t.0 t.1 (λ a z g h. v-static_checked (first_token.of_name n) must u a z g h)))))

  -- ---- choices: what they mention

  abbrev pub ChosenOf : Chosen → Type 0
  ChosenOf c = MentionsOf W V c.part

  v-one_value : (k : Kind) (f : Found) → FoundOf W V f → Sees W V (Maybe ChosenOf) (one_value k f)
  v-one_value k f h =
      v-bind W V (Maybe (StaticValue W V f)) (Maybe ChosenOf) (static_of_kind k f) _ (v-static_of_kind W V k f h) (λ v q.
      v-given W V (StaticValue W V f) ChosenOf v _ q (λ z e. v-some W V ChosenOf (record { known = record { at = first_of f.known; low = kept k z; high = kept k z }; part = mentions_of f }) (static-mentions W V f.known f.part z h e)))

  v-two_values : (k : Kind) (a z : Found) → FoundOf W V a → FoundOf W V z → Sees W V (Maybe ChosenOf) (two_values k a z)
  v-two_values k a z g h =
      v-bind W V (Maybe (StaticValue W V a)) (Maybe ChosenOf) (static_of_kind k a) _ (v-static_of_kind W V k a g) (λ u p.
      v-bind W V (Maybe (StaticValue W V z)) (Maybe ChosenOf) (static_of_kind k z) _ (v-static_of_kind W V k z h) (λ v q.
      v-both W V (StaticValue W V a) (StaticValue W V z) ChosenOf u v _ p q (λ i j c d. v-some W V ChosenOf (record { known = record { at = first_of a.known; low = kept k i; high = kept k j }; part = both_mentions a z }) (both-mentions W V a z i j g h c d))))

  v-values_of : (k : Option Kind) (x : Option Found) → Finding W V x → Sees W V (Maybe ChosenOf) (values_of k x)
  v-values_of None x h = v-none W V ChosenOf
  v-values_of (Some k) x h = v-given W V (FoundOf W V) ChosenOf x (one_value k) h (λ f q. v-one_value k f q)

  v-range_values : (k : Option Kind) (r : Option Found × Option Found) → AreFinding r → Sees W V (Maybe ChosenOf) (range_values k r)
  v-range_values None r h = v-none W V ChosenOf
  v-range_values (Some k) r h = v-both W V (FoundOf W V) (FoundOf W V) ChosenOf r.0 r.1 (two_values k) h.0 h.1 (λ a z p q. v-two_values k a z p q)

  pub v-chosen_value : (level : Inside) (here : Context) (k : Option Kind) (s : Simple) → LevelSees W level → Around W V here → Sees W V (Maybe ChosenOf) (chosen_value level here k s)
  unfolding chosen_value
  v-chosen_value level here k s l r = v-bind W V (Finding W V) (Maybe ChosenOf) (simple level here wanted.Other s) (values_of k) (v-simple W V level here wanted.Other s l r) (λ x q. v-values_of k x q)

  pub v-chosen_span : (level : Inside) (here : Context) (k : Option Kind) (low high : Simple) → LevelSees W level → Around W V here → Sees W V (Maybe ChosenOf) (chosen_span level here k low high)
  unfolding chosen_span
  v-chosen_span level here k low high l r = v-bind W V AreFinding (Maybe ChosenOf) (two_bounds level here low high) (range_values k) (v-two_bounds level here low high l r) (λ x q. v-range_values k x q)
