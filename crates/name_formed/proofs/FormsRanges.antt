-- What is found is formed: ranges and choices.
use Rattle.std.proofs.Common.{ℕ, ℤ, Option, Some, None, Bool, option_map, int_le, ◌&&◌}
use Rattle.std.specs.Prelude.{not, ◌||◌}
use Rattle.ada_meaning.specs.Formed.{FormedExpr}
use Rattle.syntax_tree.specs.FirstTokens as first_token
use Rattle.syntax_tree.specs.Syntax as syntax
use Rattle.syntax_tree.specs.Syntax.{Range, Simple}
use Rattle.typed_tree.specs.Decoded as part
use Rattle.typed_tree.specs.Decoded.{TypedPart}
use Rattle.name_rules.specs.Expressions.{Inside, simple}
use Rattle.name_rules.specs.Found.{Bounded, Denoted, Found}
use Rattle.name_rules.specs.Judging.{fault, given, joined, pure, some}
use Rattle.name_rules.specs.Names.{denoted_first}
use Rattle.name_rules.specs.Operators.{both_mentions, common_kind}
use Rattle.name_rules.specs.Ranges.{Chosen, Static, both_static, bounded_by, bounds_of, checked_range, checked_span, chosen_span, chosen_value, dimension, inside_subtype, named_range, of_static, one_value, own_bounds, own_range, preferred, range, range_part, range_values, scalar_type, spanned, static_bounds, static_checked, static_name, static_range, static_scalar, two_bounds, two_values, values_of, whole_range, is_index}
use Rattle.name_rules.specs.TypedParts.{high_of, low_of}
use Rattle.name_rules.specs.Types.{base_of, lies_in, is_modular, kept}
use Rattle.name_rules.specs.Values.{asked, first_of, is_number, is_scalar, kind_of, mentions_of, static_of_kind, static_value, suits, value_of}
use Rattle.name_rules.specs.declared.found.Denoted.TheVariants as denoted
use Rattle.name_rules.specs.declared.found.Denoted.{Denoted as KnownDenoted}
use Rattle.name_rules.specs.declared.log.Rule.TheVariants.{StaticRange, WrongType}
use Rattle.name_rules.specs.declared.scope.Context.{Context}
use Rattle.name_rules.specs.declared.types.Kind.{Kind}
use Rattle.name_rules.specs.declared.types.Scalar.{Scalar}
use Rattle.name_rules.specs.declared.types.Subtype.TheVariants as subtype
use Rattle.name_rules.specs.declared.types.Wanted.TheVariants as wanted
use Rattle.name_formed.proofs.Forms.{Any, Forms, Maybe, Sight, World, any, f-bind, f-both, f-fault, f-given, f-if, f-none, f-pure, f-some, f-unless, joint, mapped}
use Rattle.name_formed.proofs.FormsExpressions.{f-simple}
use Rattle.name_formed.proofs.FormsFound.{Around, DenotedOf, DenotesOf, ExprOf, Finding, FoundOf, LevelForms, MentionsOf}
use Rattle.name_formed.proofs.FormsOperators.{both-mentions}
use Rattle.name_formed.proofs.FormsValues.{StaticValue, exprs-formed, f-asked, f-static_of, f-static_of_kind, static-mentions}

module _ (W : World) (V : Sight) where
  -- ---- ranges

  -- two bounds
  abbrev pub RangeOf : TypedPart → Type 0
  RangeOf p = FormedExpr W.program V.known (low_of p) × FormedExpr W.program V.known (high_of p)

  abbrev pub BoundedOf : Bounded → Type 0
  BoundedOf b = RangeOf b.part

  abbrev pub AreFinding : Option Found × Option Found → Type 0
  AreFinding r = (Finding W V) r.0 × (Finding W V) r.1

  pub f-two_bounds : (level : Inside) (here : Context) (low high : Simple) → LevelForms W level → Around W V here → Forms W V AreFinding (two_bounds level here low high)
  unfolding two_bounds
  f-two_bounds level here low high l r =
      f-bind W V (Finding W V) AreFinding (simple level here wanted.Other low) _ (f-simple W V level here wanted.Other low l r) (λ x p.
      f-bind W V (Finding W V) AreFinding (simple level here wanted.Other high) _ (f-simple W V level here wanted.Other high l r) (λ y q. f-pure W V AreFinding (x, y) (p, q)))

  f-bounds_of : (k : Kind) (a z : Found) → FoundOf W V a → FoundOf W V z → Forms W V (Maybe RangeOf) (bounds_of k a z)
  unfolding bounds_of
  f-bounds_of k a z g h =
      f-bind W V (Maybe (ExprOf W V)) (Maybe RangeOf) (asked k a) _ (f-asked W V k a g) (λ x p.
      f-bind W V (Maybe (ExprOf W V)) (Maybe RangeOf) (asked k z) _ (f-asked W V k z h) (λ y q.
      f-pure W V (Maybe RangeOf) (joined range_part x y) (joint (ExprOf W V) (ExprOf W V) RangeOf range_part x y p q (λ m n s t. (s, t)))))

  f-own_range : (first : ℕ) (a z : Found) (k : Kind) → FoundOf W V a → FoundOf W V z → Forms W V (Maybe BoundedOf) (own_range first a z k)
  f-own_range first a z k g h =
      f-bind W V (Maybe RangeOf) (Maybe BoundedOf) (bounds_of k a z) _ (f-bounds_of k a z g h) (λ x q. f-pure W V (Maybe BoundedOf) (option_map (bounded_by first (base_of k) None a z) x) (mapped RangeOf BoundedOf (bounded_by first (base_of k) None a z) x q (λ y s. s)))

  f-own_bounds : (first : ℕ) (a z : Found) → FoundOf W V a → FoundOf W V z → Forms W V (Maybe BoundedOf) (own_bounds first a z)
  unfolding own_bounds
  f-own_bounds first a z g h =
      let k = common_kind (kind_of a.known) (kind_of z.known) in
      f-if W V (Maybe BoundedOf) (not (is_scalar a.known)) (fault (first_of a.known) WrongType) _ (f-fault W V BoundedOf (first_of a.known) WrongType)
      (f-if W V (Maybe BoundedOf) (not (suits k a.known)) (fault (first_of z.known) WrongType) _ (f-fault W V BoundedOf (first_of z.known) WrongType)
      (f-if W V (Maybe BoundedOf) (is_modular k) (fault (first_of a.known) WrongType) (own_range first a z k) (f-fault W V BoundedOf (first_of a.known) WrongType) (f-own_range first a z k g h)))

  f-checked_range : (first : ℕ) (s : Scalar) (a z : Found) → FoundOf W V a → FoundOf W V z → Forms W V (Maybe BoundedOf) (checked_range first s a z)
  unfolding checked_range
  f-checked_range first s a z g h =
      f-if W V (Maybe BoundedOf) (is_modular s.kind) (fault first WrongType) _ (f-fault W V BoundedOf first WrongType)
      (f-bind W V (Maybe RangeOf) (Maybe BoundedOf) (bounds_of s.kind a z) _ (f-bounds_of s.kind a z g h) (λ x q. f-pure W V (Maybe BoundedOf) (option_map (bounded_by first s (Some s) a z) x) (mapped RangeOf BoundedOf (bounded_by first s (Some s) a z) x q (λ y t. t))))

  whole-range : (first : ℕ) (k : Kind) (low high : ℤ) (ms : TypedPart) → MentionsOf W V ms → BoundedOf (whole_range first k low high ms)
  whole-range first k low high ms h = (exprs-formed W V ms h, exprs-formed W V part.Nothing tt)

  f-named_range : (k : KnownDenoted) (x : TypedPart) → DenotesOf W V k x → Forms W V (Maybe BoundedOf) (named_range k x)
  f-named_range (denoted.Range first d) x h = f-some W V BoundedOf (whole_range first d.kind d.low d.high x) (whole-range first d.kind d.low d.high x h)
  f-named_range (denoted.Type first (subtype.Scalar s)) x h =
      f-if W V (Maybe BoundedOf) (is_modular s.kind) (fault first WrongType) (some (whole_range first s.kind s.low s.high part.Nothing)) (f-fault W V BoundedOf first WrongType)
      (f-some W V BoundedOf (whole_range first s.kind s.low s.high part.Nothing) (whole-range first s.kind s.low s.high part.Nothing tt))
  f-named_range k x h = f-fault W V BoundedOf (denoted_first k) WrongType

  f-scalar_type_of : (k : KnownDenoted) → Forms W V (Maybe Any) (scalar_type k)
  f-scalar_type_of (denoted.Type first (subtype.Scalar s)) = f-some W V Any s tt
  f-scalar_type_of k = f-fault W V Any (denoted_first k) WrongType

  pub f-scalar_type : (d : Option Denoted) → Forms W V (Maybe Any) (given d (λ x. scalar_type x.known))
  f-scalar_type d = f-given W V Any Any d _ (any d) (λ x q. f-scalar_type_of x.known)

  pub f-range : (level : Inside) (here : Context) (x : Range) → LevelForms W level → Around W V here → Forms W V (Maybe BoundedOf) (range level here x)
  unfolding range
  f-range level here (syntax.Bounded low high) l r =
      f-bind W V AreFinding (Maybe BoundedOf) (two_bounds level here low high) _ (f-two_bounds level here low high l r) (λ x q. f-both W V (FoundOf W V) (FoundOf W V) BoundedOf x.0 x.1 (own_bounds (first_token.of_simple low)) q.0 q.1 (λ a z g h. f-own_bounds (first_token.of_simple low) a z g h))
  f-range level here (syntax.Whole n) l r =
      f-bind W V (Maybe (DenotedOf W V)) (Maybe BoundedOf) (level.name here n) _ (l.name V here n r) (λ d q. f-given W V (DenotedOf W V) BoundedOf d _ q (λ x s. f-named_range x.known x.part s))
  f-range level here (syntax.Constrained n low high) l r =
      f-bind W V (Maybe (DenotedOf W V)) (Maybe BoundedOf) (level.name here n) _ (l.name V here n r) (λ d q.
      f-bind W V (Maybe Any) (Maybe BoundedOf) (given d (λ x. scalar_type x.known)) _ (f-scalar_type d) (λ s p.
      f-bind W V AreFinding (Maybe BoundedOf) (two_bounds level here low high) _ (f-two_bounds level here low high l r) (λ x t.
      f-given W V Any BoundedOf s _ p (λ u v. f-both W V (FoundOf W V) (FoundOf W V) BoundedOf x.0 x.1 (checked_range (first_token.of_name n) u) t.0 t.1 (λ a z g h. f-checked_range (first_token.of_name n) u a z g h)))))

  -- ---- static ranges: what they mention

  abbrev pub StaticOf : Static → Type 0
  StaticOf s = MentionsOf W V s.part

  pub f-both_static : (k : Kind) (a z : Found) → FoundOf W V a → FoundOf W V z → Forms W V (Maybe (λ r. MentionsOf W V (both_mentions a z))) (both_static k a z)
  f-both_static k a z g h =
      f-bind W V (Maybe (ExprOf W V)) (Maybe (λ r. MentionsOf W V (both_mentions a z))) (asked k a) _ (f-asked W V k a g) (λ x p.
      f-bind W V (Maybe (ExprOf W V)) (Maybe (λ r. MentionsOf W V (both_mentions a z))) (asked k z) _ (f-asked W V k z h) (λ y q.
      f-both W V (ExprOf W V) (ExprOf W V) (λ r. MentionsOf W V (both_mentions a z)) x y _ p q (λ e f s t.
      f-bind W V (Maybe (StaticValue W V a)) (Maybe (λ r. MentionsOf W V (both_mentions a z))) (static_value (first_of a.known) (value_of a.known)) _ (f-static_of W V a) (λ u m.
      f-bind W V (Maybe (StaticValue W V z)) (Maybe (λ r. MentionsOf W V (both_mentions a z))) (static_value (first_of z.known) (value_of z.known)) _ (f-static_of W V z) (λ v n.
      f-both W V (StaticValue W V a) (StaticValue W V z) (λ r. MentionsOf W V (both_mentions a z)) u v _ m n (λ i j c d.
      f-some W V (λ r. MentionsOf W V (both_mentions a z)) (i, j) (both-mentions W V a z i j g h c d)))))))

  f-spanned : (first : ℕ) (must : Bool) (k : Kind) (a z : Found) (r : ℤ × ℤ) → MentionsOf W V (both_mentions a z) → Forms W V (Maybe StaticOf) (spanned first must k a z r)
  f-spanned first must k a z r h =
      f-if W V (Maybe StaticOf) (must && not (int_le r.0 r.1)) (fault first StaticRange) (some (of_static a z (dimension k r))) (f-fault W V StaticOf first StaticRange) (f-some W V StaticOf (of_static a z (dimension k r)) h)

  f-inside_subtype : (s : Scalar) (x : Found) (z : ℤ) → Forms W V Any (inside_subtype s x z)
  f-inside_subtype s x z = f-unless W V (lies_in s z) (first_of x.known) StaticRange

  f-checked_span : (first : ℕ) (must : Bool) (s : Scalar) (a z : Found) (r : ℤ × ℤ) → MentionsOf W V (both_mentions a z) → Forms W V (Maybe StaticOf) (checked_span first must s a z r)
  f-checked_span first must s a z r h =
      f-if W V (Maybe StaticOf) (not (int_le r.0 r.1)) (spanned first must s.kind a z r) _ (f-spanned first must s.kind a z r h)
      (f-bind W V Any (Maybe StaticOf) (inside_subtype s a r.0) _ (f-inside_subtype s a r.0) (λ u p.
      f-bind W V Any (Maybe StaticOf) (inside_subtype s z r.1) _ (f-inside_subtype s z r.1) (λ v q.
      f-if W V (Maybe StaticOf) (lies_in s r.0 && lies_in s r.1) (spanned first must s.kind a z r) (pure None) (f-spanned first must s.kind a z r h) (f-none W V StaticOf))))

  f-static_bounds : (first : ℕ) (must : Bool) (want : Option Kind) (a z : Found) → FoundOf W V a → FoundOf W V z → Forms W V (Maybe StaticOf) (static_bounds first must want a z)
  unfolding static_bounds
  f-static_bounds first must want a z g h =
      let k = preferred want a.known z.known in
      f-if W V (Maybe StaticOf) (not (is_number a.known) || is_modular k) (fault (first_of a.known) WrongType) _ (f-fault W V StaticOf (first_of a.known) WrongType)
      (f-if W V (Maybe StaticOf) (not (suits k a.known && suits k z.known)) (fault (first_of z.known) WrongType) _ (f-fault W V StaticOf (first_of z.known) WrongType)
      (f-bind W V (Maybe (λ r. MentionsOf W V (both_mentions a z))) (Maybe StaticOf) (both_static k a z) _ (f-both_static k a z g h) (λ v q.
      f-given W V (λ r. MentionsOf W V (both_mentions a z)) StaticOf v (spanned first must k a z) q (λ r p. f-spanned first must k a z r p))))

  f-static_checked : (first : ℕ) (must : Bool) (t : Scalar) (a z : Found) → FoundOf W V a → FoundOf W V z → Forms W V (Maybe StaticOf) (static_checked first must t a z)
  unfolding static_checked
  f-static_checked first must t a z g h =
      f-if W V (Maybe StaticOf) (is_index t.kind) _ (fault first WrongType)
      (f-bind W V (Maybe (λ r. MentionsOf W V (both_mentions a z))) (Maybe StaticOf) (both_static t.kind a z) _ (f-both_static t.kind a z g h) (λ v q.
      f-given W V (λ r. MentionsOf W V (both_mentions a z)) StaticOf v (checked_span first must t a z) q (λ r p. f-checked_span first must t a z r p)))
      (f-fault W V StaticOf first WrongType)

  f-static_scalar : (first : ℕ) (s : Scalar) → Forms W V (Maybe StaticOf) (static_scalar first s)
  f-static_scalar first s =
      let x : Static = record { known = record { kind = s.kind; low = s.low; high = s.high }; part = part.Nothing } in
      f-if W V (Maybe StaticOf) (is_index s.kind) (some x) (fault first WrongType) (f-some W V StaticOf x tt) (f-fault W V StaticOf first WrongType)

  f-static_name : (first : ℕ) (k : KnownDenoted) (x : TypedPart) → DenotesOf W V k x → Forms W V (Maybe StaticOf) (static_name first k x)
  f-static_name first (denoted.Range at e) x h = f-some W V StaticOf (record { known = e; part = x }) h
  f-static_name first (denoted.Type at (subtype.Scalar s)) x h = f-static_scalar first s
  f-static_name first k x h = f-fault W V StaticOf (denoted_first k) WrongType

  pub f-static_range : (level : Inside) (here : Context) (must : Bool) (want : Option Kind) (x : Range) → LevelForms W level → Around W V here → Forms W V (Maybe StaticOf) (static_range level here must want x)
  unfolding static_range
  f-static_range level here must want (syntax.Bounded low high) l r =
      f-bind W V AreFinding (Maybe StaticOf) (two_bounds level here low high) _ (f-two_bounds level here low high l r) (λ x q.
      f-both W V (FoundOf W V) (FoundOf W V) StaticOf x.0 x.1 (static_bounds (first_token.of_simple low) must want) q.0 q.1 (λ a z g h. f-static_bounds (first_token.of_simple low) must want a z g h))
  f-static_range level here must want (syntax.Whole n) l r =
      f-bind W V (Maybe (DenotedOf W V)) (Maybe StaticOf) (level.name here n) _ (l.name V here n r) (λ y q. f-given W V (DenotedOf W V) StaticOf y _ q (λ x s. f-static_name (first_token.of_name n) x.known x.part s))
  f-static_range level here must want (syntax.Constrained n low high) l r =
      f-bind W V (Maybe (DenotedOf W V)) (Maybe StaticOf) (level.name here n) _ (l.name V here n r) (λ y q.
      f-bind W V (Maybe Any) (Maybe StaticOf) (given y (λ x. scalar_type x.known)) _ (f-scalar_type y) (λ s p.
      f-bind W V AreFinding (Maybe StaticOf) (two_bounds level here low high) _ (f-two_bounds level here low high l r) (λ x t.
      f-given W V Any StaticOf s _ p (λ u v. f-both W V (FoundOf W V) (FoundOf W V) StaticOf x.0 x.1 (static_checked (first_token.of_name n) must u) t.0 t.1 (λ a z g h. f-static_checked (first_token.of_name n) must u a z g h)))))

  -- ---- choices: what they mention

  abbrev pub ChosenOf : Chosen → Type 0
  ChosenOf c = MentionsOf W V c.part

  f-one_value : (k : Kind) (f : Found) → FoundOf W V f → Forms W V (Maybe ChosenOf) (one_value k f)
  f-one_value k f h =
      f-bind W V (Maybe (StaticValue W V f)) (Maybe ChosenOf) (static_of_kind k f) _ (f-static_of_kind W V k f h) (λ v q.
      f-given W V (StaticValue W V f) ChosenOf v _ q (λ z e. f-some W V ChosenOf (record { known = record { at = first_of f.known; low = kept k z; high = kept k z }; part = mentions_of f }) (static-mentions W V f.known f.part z h e)))

  f-two_values : (k : Kind) (a z : Found) → FoundOf W V a → FoundOf W V z → Forms W V (Maybe ChosenOf) (two_values k a z)
  f-two_values k a z g h =
      f-bind W V (Maybe (StaticValue W V a)) (Maybe ChosenOf) (static_of_kind k a) _ (f-static_of_kind W V k a g) (λ u p.
      f-bind W V (Maybe (StaticValue W V z)) (Maybe ChosenOf) (static_of_kind k z) _ (f-static_of_kind W V k z h) (λ v q.
      f-both W V (StaticValue W V a) (StaticValue W V z) ChosenOf u v _ p q (λ i j c d. f-some W V ChosenOf (record { known = record { at = first_of a.known; low = kept k i; high = kept k j }; part = both_mentions a z }) (both-mentions W V a z i j g h c d))))

  f-values_of : (k : Option Kind) (x : Option Found) → Finding W V x → Forms W V (Maybe ChosenOf) (values_of k x)
  f-values_of None x h = f-none W V ChosenOf
  f-values_of (Some k) x h = f-given W V (FoundOf W V) ChosenOf x (one_value k) h (λ f q. f-one_value k f q)

  f-range_values : (k : Option Kind) (r : Option Found × Option Found) → AreFinding r → Forms W V (Maybe ChosenOf) (range_values k r)
  f-range_values None r h = f-none W V ChosenOf
  f-range_values (Some k) r h = f-both W V (FoundOf W V) (FoundOf W V) ChosenOf r.0 r.1 (two_values k) h.0 h.1 (λ a z p q. f-two_values k a z p q)

  pub f-chosen_value : (level : Inside) (here : Context) (k : Option Kind) (s : Simple) → LevelForms W level → Around W V here → Forms W V (Maybe ChosenOf) (chosen_value level here k s)
  unfolding chosen_value
  f-chosen_value level here k s l r = f-bind W V (Finding W V) (Maybe ChosenOf) (simple level here wanted.Other s) (values_of k) (f-simple W V level here wanted.Other s l r) (λ x q. f-values_of k x q)

  pub f-chosen_span : (level : Inside) (here : Context) (k : Option Kind) (low high : Simple) → LevelForms W level → Around W V here → Forms W V (Maybe ChosenOf) (chosen_span level here k low high)
  unfolding chosen_span
  f-chosen_span level here k low high l r = f-bind W V AreFinding (Maybe ChosenOf) (two_bounds level here low high) (range_values k) (f-two_bounds level here low high l r) (λ x q. f-range_values k x q)
