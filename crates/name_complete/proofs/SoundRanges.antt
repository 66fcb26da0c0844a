-- What is judged without a fault is found: ranges and choices.
use Rattle.std.proofs.Common.{◌≡◌, sym, ◌∙◌, ◌&&◌, ℕ, ℤ, Option, Some, None, Bool, true, false, ◌||◌}
use Rattle.std.specs.Prelude.{not, int_le}
use Rattle.syntax_tree.specs.FirstTokens as first_token
use Rattle.syntax_tree.specs.Syntax as syntax
use Rattle.typed_tree.specs.Decoded as part
use Rattle.typed_tree.specs.Decoded.{TypedPart}
use Rattle.name_rules.specs.Expressions.{Inside, simple}
use Rattle.name_rules.specs.Found.{Found}
use Rattle.name_rules.specs.Judging.{Judging, given, joined}
use Rattle.name_rules.specs.Values as v
use Rattle.name_rules.specs.Values.{asked, first_of, is_number, is_scalar, kind_of, value_of}
use Rattle.name_rules.specs.declared.found.Denoted.TheVariants as denoted
use Rattle.name_rules.specs.declared.found.Denoted.{Denoted as KnownDenoted}
use Rattle.name_rules.specs.declared.found.Found.{Found as Known}
use Rattle.name_rules.specs.declared.log.Rule.TheVariants as rule
use Rattle.name_rules.specs.declared.scope.Context.{Context}
use Rattle.name_rules.specs.declared.types.Kind.{Kind}
use Rattle.name_rules.specs.declared.types.Scalar.{Scalar}
use Rattle.name_rules.specs.declared.types.Subtype.TheVariants as subtype
use Rattle.name_rules.specs.declared.types.Wanted.TheVariants as wanted
use Rattle.name_complete.proofs.Explains.{Any, Is, Sound, differ, joint, mapped, no, ok, s-bind, s-both, s-given, s-if, s-pure, s-test, s-unless}
use Rattle.name_complete.proofs.Facts.{Clear, DenotedOf, FoundOk, LevelSound}
use Rattle.syntax_tree.specs.Syntax.{Range, Simple}
use Rattle.name_rules.specs.Ranges as r
use Rattle.name_rules.specs.Operators.{both_mentions, common_kind}
use Rattle.name_rules.specs.Types.{base_of, lies_in, is_modular, kept}
use Rattle.name_complete.proofs.SoundExpressions.{s-simple}
use Rattle.name_complete.proofs.SoundValues.{s-asked, s-static_of_kind, s-static_value}

abbrev pub BothFound : Option Found × Option Found → Type 0
BothFound x = Is FoundOk x.0 × Is FoundOk x.1

pub and-true : (a b : Bool) → a ≡ true → b ≡ true → (a && b) ≡ true
and-true true b e f = f
and-true false b e f = differ (sym e)

pub s-two_bounds : (G : Type 0) (level : Inside) (here : Context) (low high : Simple) → LevelSound level → (G → Clear here) → Sound G BothFound (r.two_bounds level here low high)
unfolding r.two_bounds
s-two_bounds G level here low high l c =
    s-bind G (Is FoundOk) BothFound (simple level here wanted.Other low) _ (s-simple G level here wanted.Other low l c (λ g. tt)) (λ x.
    s-bind _ (Is FoundOk) BothFound (simple level here wanted.Other high) _ (s-simple _ level here wanted.Other high l (λ g. c g.0) (λ g. tt)) (λ y.
    s-pure _ BothFound (x, y) (λ g. (g.0.1, g.1))))

s-bounds_of : (G : Type 0) (k : Kind) (a z : Found) → Sound G (Is Any) (r.bounds_of k a z)
unfolding r.bounds_of
s-bounds_of G k a z =
    s-bind G (Is Any) (Is Any) (asked k a) _ (s-asked G k a) (λ x.
    s-bind _ (Is Any) (Is Any) (asked k z) _ (s-asked _ k z) (λ y.
    s-pure _ (Is Any) (joined r.range_part x y) (λ g. joint Any Any Any r.range_part x y g.0.1 g.1 (λ a b i j. tt))))

s-of_one_type : (G : Type 0) {A : Type 0} (a z : Known) (k : Kind) (f : Kind → Judging (Option A)) → Sound G (Is Any) (f k) → Sound G (Is Any) (r.of_one_type a z k f)
s-of_one_type G a z k f m = s-if G (Is Any) (not (is_scalar a)) _ _ (no G (first_of a) rule.WrongType) (s-if G (Is Any) (not (v.suits k a)) _ _ (no G (first_of z) rule.WrongType) (s-if G (Is Any) (is_modular k) _ _ (no G (first_of a) rule.WrongType) m))

s-own_range : (G : Type 0) (first : ℕ) (a z : Found) (k : Kind) → Sound G (Is Any) (r.own_range first a z k)
s-own_range G first a z k = s-bind G (Is Any) (Is Any) (r.bounds_of k a z) _ (s-bounds_of G k a z) (λ x. s-pure _ (Is Any) _ (λ g. mapped Any Any (r.bounded_by first (base_of k) None a z) x g.1 (λ y i. tt)))

s-own_bounds : (G : Type 0) (first : ℕ) (a z : Found) → Sound G (Is Any) (r.own_bounds first a z)
unfolding r.own_bounds
s-own_bounds G first a z =
    let k = common_kind (kind_of a.known) (kind_of z.known) in
    s-of_one_type G a.known z.known k (r.own_range first a z) (s-own_range G first a z k)

s-checked_range : (G : Type 0) (first : ℕ) (s : Scalar) (a z : Found) → Sound G (Is Any) (r.checked_range first s a z)
unfolding r.checked_range
s-checked_range G first s a z = s-if G (Is Any) (is_modular s.kind) _ _ (no G first rule.WrongType) (s-bind G (Is Any) (Is Any) (r.bounds_of s.kind a z) _ (s-bounds_of G s.kind a z) (λ x. s-pure _ (Is Any) _ (λ g. mapped Any Any (r.bounded_by first s (Some s) a z) x g.1 (λ y i. tt))))

s-named_range : (G : Type 0) (d : KnownDenoted) (x : TypedPart) → Sound G (Is Any) (r.named_range d x)
s-named_range G (denoted.Range first d) x = ok G (r.whole_range first d.kind d.low d.high x)
s-named_range G (denoted.Type first (subtype.Scalar s)) x = s-if G (Is Any) (is_modular s.kind) _ _ (no G first rule.WrongType) (ok G (r.whole_range first s.kind s.low s.high part.Nothing))
s-named_range G d x = no G _ rule.WrongType

s-scalar_type : (G : Type 0) (d : KnownDenoted) → Sound G (Is Any) (r.scalar_type d)
s-scalar_type G (denoted.Type first (subtype.Scalar s)) = ok G s
s-scalar_type G d = no G _ rule.WrongType

pub s-range : (G : Type 0) (level : Inside) (here : Context) (x : Range) → LevelSound level → (G → Clear here) → Sound G (Is Any) (r.range level here x)
unfolding r.range
s-range G level here (syntax.Bounded low high) l c =
    s-bind G BothFound (Is Any) (r.two_bounds level here low high) _ (s-two_bounds G level here low high l c) (λ y.
    s-both _ FoundOk FoundOk Any y.0 y.1 _ (λ g. g.1.0) (λ g. g.1.1) (λ a z. s-own_bounds _ (first_token.of_simple low) a z))
s-range G level here (syntax.Whole n) l c = s-bind G (Is DenotedOf) (Is Any) (level.name here n) _ (l.name G here n c) (λ d. s-given _ DenotedOf Any d _ (λ g. g.1) (λ x. s-named_range _ x.known x.part))
s-range G level here (syntax.Constrained n low high) l c =
    s-bind G (Is DenotedOf) (Is Any) (level.name here n) _ (l.name G here n c) (λ d.
    s-bind _ (Is Any) (Is Any) (given d (λ x. r.scalar_type x.known)) _ (s-given _ DenotedOf Any d _ (λ g. g.1) (λ x. s-scalar_type _ x.known)) (λ s.
    s-bind _ BothFound (Is Any) (r.two_bounds level here low high) _ (s-two_bounds _ level here low high l (λ g. c g.0.0)) (λ y.
    s-given _ Any Any s _ (λ g. g.0.1) (λ t. s-both _ FoundOk FoundOk Any y.0 y.1 _ (λ g. g.0.1.0) (λ g. g.0.1.1) (λ a z. s-checked_range _ (first_token.of_name n) t a z)))))

-- ---- static ranges

pub s-both_static : (G : Type 0) (k : Kind) (a z : Found) → Sound G (Is Any) (r.both_static k a z)
s-both_static G k a z =
    s-bind G (Is Any) (Is Any) (asked k a) _ (s-asked G k a) (λ x.
    s-bind _ (Is Any) (Is Any) (asked k z) _ (s-asked _ k z) (λ y.
    s-both _ Any Any Any x y _ (λ g. g.0.1) (λ g. g.1) (λ e f.
    s-bind _ (Is Any) (Is Any) (v.static_value (first_of a.known) (value_of a.known)) _ (s-static_value _ (first_of a.known) (value_of a.known)) (λ u.
    s-bind _ (Is Any) (Is Any) (v.static_value (first_of z.known) (value_of z.known)) _ (s-static_value _ (first_of z.known) (value_of z.known)) (λ w.
    s-both _ Any Any Any u w _ (λ g. g.0.1) (λ g. g.1) (λ i j. ok _ (i, j)))))))

s-spanned : (G : Type 0) (first : ℕ) (must_hold : Bool) (k : Kind) (a z : Found) (x : ℤ × ℤ) → Sound G (Is Any) (r.spanned first must_hold k a z x)
s-spanned G first must_hold k a z x = s-if G (Is Any) (must_hold && not (int_le x.0 x.1)) _ _ (no G first rule.StaticRange) (ok G (r.of_static a z (r.dimension k x)))

s-checked_span : (G : Type 0) (first : ℕ) (must_hold : Bool) (s : Scalar) (a z : Found) (x : ℤ × ℤ) → Sound G (Is Any) (r.checked_span first must_hold s a z x)
s-checked_span G first must_hold s a z x =
    s-if G (Is Any) (not (int_le x.0 x.1)) _ _ (s-spanned G first must_hold s.kind a z x)
    (s-bind G (λ u. lies_in s x.0 ≡ true) (Is Any) (r.inside_subtype s a x.0) _ (s-unless G (lies_in s x.0) (first_of a.known) rule.StaticRange) (λ u.
    s-bind _ (λ w. lies_in s x.1 ≡ true) (Is Any) (r.inside_subtype s z x.1) _ (s-unless _ (lies_in s x.1) (first_of z.known) rule.StaticRange) (λ w.
    s-test _ (Is Any) (lies_in s x.0 && lies_in s x.1) _ _ (s-spanned _ first must_hold s.kind a z x)
    (s-pure _ (Is Any) None (λ g. differ (sym (and-true (lies_in s x.0) (lies_in s x.1) g.0.0.1 g.0.1) ∙ g.1))))))

s-static_by : (G : Type 0) (first : ℕ) (must_hold : Bool) (a z : Found) (k : Kind) → Sound G (Is Any) (r.static_by first must_hold a z k)
s-static_by G first must_hold a z k =
    s-if G (Is Any) (not (is_number a.known) || is_modular k) _ _ (no G (first_of a.known) rule.WrongType)
    (s-if G (Is Any) (not (v.suits k a.known && v.suits k z.known)) _ _ (no G (first_of z.known) rule.WrongType)
    (s-bind G (Is Any) (Is Any) (r.both_static k a z) _ (s-both_static G k a z) (λ s. s-given _ Any Any s _ (λ g. g.1) (λ x. s-spanned _ first must_hold k a z x))))

s-static_bounds : (G : Type 0) (first : ℕ) (must_hold : Bool) (want : Option Kind) (a z : Found) → Sound G (Is Any) (r.static_bounds first must_hold want a z)
unfolding r.static_bounds
s-static_bounds G first must_hold want a z = s-static_by G first must_hold a z (r.preferred want a.known z.known)

s-static_scalar : (G : Type 0) (first : ℕ) (s : Scalar) → Sound G (Is Any) (r.static_scalar first s)
s-static_scalar G first s = s-if G (Is Any) (r.is_index s.kind) _ _ (ok G _) (no G first rule.WrongType)

s-static_name : (G : Type 0) (first : ℕ) (d : KnownDenoted) (x : TypedPart) → Sound G (Is Any) (r.static_name first d x)
s-static_name G first (denoted.Range at d) x = ok G _
s-static_name G first (denoted.Type at (subtype.Scalar s)) x = s-static_scalar G first s
s-static_name G first d x = no G _ rule.WrongType

s-static_checked : (G : Type 0) (first : ℕ) (must_hold : Bool) (t : Scalar) (a z : Found) → Sound G (Is Any) (r.static_checked first must_hold t a z)
unfolding r.static_checked
s-static_checked G first must_hold t a z =
    s-if G (Is Any) (r.is_index t.kind) _ _ (s-bind G (Is Any) (Is Any) (r.both_static t.kind a z) _ (s-both_static G t.kind a z) (λ s. s-given _ Any Any s _ (λ g. g.1) (λ x. s-checked_span _ first must_hold t a z x))) (no G first rule.WrongType)

pub s-static_range : (G : Type 0) (level : Inside) (here : Context) (must_hold : Bool) (want : Option Kind) (x : Range) → LevelSound level → (G → Clear here) → Sound G (Is Any) (r.static_range level here must_hold want x)
unfolding r.static_range
s-static_range G level here must_hold want (syntax.Bounded low high) l c =
    s-bind G BothFound (Is Any) (r.two_bounds level here low high) _ (s-two_bounds G level here low high l c) (λ y.
    s-both _ FoundOk FoundOk Any y.0 y.1 _ (λ g. g.1.0) (λ g. g.1.1) (λ a z. s-static_bounds _ (first_token.of_simple low) must_hold want a z))
s-static_range G level here must_hold want (syntax.Whole n) l c =
    s-bind G (Is DenotedOf) (Is Any) (level.name here n) _ (l.name G here n c) (λ d. s-given _ DenotedOf Any d _ (λ g. g.1) (λ x. s-static_name _ (first_token.of_name n) x.known x.part))
s-static_range G level here must_hold want (syntax.Constrained n low high) l c =
    s-bind G (Is DenotedOf) (Is Any) (level.name here n) _ (l.name G here n c) (λ d.
    s-bind _ (Is Any) (Is Any) (given d (λ x. r.scalar_type x.known)) _ (s-given _ DenotedOf Any d _ (λ g. g.1) (λ x. s-scalar_type _ x.known)) (λ s.
    s-bind _ BothFound (Is Any) (r.two_bounds level here low high) _ (s-two_bounds _ level here low high l (λ g. c g.0.0)) (λ y.
    s-given _ Any Any s _ (λ g. g.0.1) (λ t. s-both _ FoundOk FoundOk Any y.0 y.1 _ (λ g. g.0.1.0) (λ g. g.0.1.1) (λ a z. s-static_checked _ (first_token.of_name n) must_hold t a z)))))

-- ---- choices

s-one_value : (G : Type 0) (k : Kind) (f : Found) → Sound G (Is Any) (r.one_value k f)
s-one_value G k f = s-bind G (Is Any) (Is Any) (v.static_of_kind k f) _ (s-static_of_kind G k f) (λ x. s-given _ Any Any x _ (λ g. g.1) (λ z. ok _ (record { known = record { at = first_of f.known; low = kept k z; high = kept k z }; part = v.mentions_of f })))

s-two_values : (G : Type 0) (k : Kind) (a z : Found) → Sound G (Is Any) (r.two_values k a z)
s-two_values G k a z =
    s-bind G (Is Any) (Is Any) (v.static_of_kind k a) _ (s-static_of_kind G k a) (λ u.
    s-bind _ (Is Any) (Is Any) (v.static_of_kind k z) _ (s-static_of_kind _ k z) (λ w.
    s-both _ Any Any Any u w _ (λ g. g.0.1) (λ g. g.1) (λ x y. ok _ (record { known = record { at = first_of a.known; low = kept k x; high = kept k y }; part = both_mentions a z }))))

s-values_of : (G : Type 0) (k : Option Kind) (x : Option Found) → (G → Is Any k) → (G → Is FoundOk x) → Sound G (Is Any) (r.values_of k x)
s-values_of G None x h i = s-pure G (Is Any) None h
s-values_of G (Some k) x h i = s-given G FoundOk Any x _ i (λ f. s-one_value _ k f)

s-range_values : (G : Type 0) (k : Option Kind) (x : Option Found × Option Found) → (G → Is Any k) → (G → BothFound x) → Sound G (Is Any) (r.range_values k x)
s-range_values G None x h i = s-pure G (Is Any) None h
s-range_values G (Some k) x h i = s-both G FoundOk FoundOk Any x.0 x.1 _ (λ g. (i g).0) (λ g. (i g).1) (λ a z. s-two_values _ k a z)

pub s-chosen_value : (G : Type 0) (level : Inside) (here : Context) (k : Option Kind) (s : Simple) → LevelSound level → (G → Clear here) → (G → Is Any k) → Sound G (Is Any) (r.chosen_value level here k s)
unfolding r.chosen_value
s-chosen_value G level here k s l c h = s-bind G (Is FoundOk) (Is Any) (simple level here wanted.Other s) _ (s-simple G level here wanted.Other s l c (λ g. tt)) (λ x. s-values_of _ k x (λ g. h g.0) (λ g. g.1))

pub s-chosen_span : (G : Type 0) (level : Inside) (here : Context) (k : Option Kind) (low high : Simple) → LevelSound level → (G → Clear here) → (G → Is Any k) → Sound G (Is Any) (r.chosen_span level here k low high)
unfolding r.chosen_span
s-chosen_span G level here k low high l c h = s-bind G BothFound (Is Any) (r.two_bounds level here low high) _ (s-two_bounds G level here low high l c) (λ x. s-range_values _ k x (λ g. h g.0) (λ g. g.1))
