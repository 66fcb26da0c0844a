-- What lies between the bounds of a subtype lies in its base range, and arrays keep bounds of base ranges.
use Rattle.std.proofs.Common.{◌≡◌, ℕ, ◌+◌, ◌-◌, ℤ, pos, negsuc, int_le, List, [], ◌∷◌, ◌++◌, Option, Some, None, Bool, true, false, true≢false, refl, sym, ap, ◌∙◌, ◌⊎◌, inl, inr, arith, ◌&&◌, le-leb, leb-true, nat_le, nat_lt, slice_get, subst, ◌==◌}
use Rattle.std.specs.Prelude.{not, ◌||◌}
use Rattle.std.proofs.lemmas.Bool.{and_parts}
use Rattle.ada_base.specs.Operation.{greatest_of, least_of, modulus}
use Rattle.ada_base.proofs.Turning.{turned_twice}
use Rattle.ada_base.specs.declared.operation.Base.TheVariants.{Narrow, Wide}
use Rattle.name_rules.specs.Declarations.{Initial, cells_counted, constant_value}
use Rattle.name_rules.specs.Judging.{unless}
use Rattle.name_rules.specs.Types.{in_base, is_modular, kept, lies_in, saturated, written_shape}
use Rattle.name_rules.specs.Limits.{most_cells, most_objects}
use Rattle.name_rules.specs.declared.log.Bound.TheVariants as bound
use Rattle.name_rules.specs.declared.log.Dimension.{Dimension}
use Rattle.name_rules.specs.declared.log.Log.{Log}
use Rattle.name_rules.specs.declared.log.Rule.{Rule}
use Rattle.name_rules.specs.declared.log.Rule.TheVariants.{Limit}
use Rattle.name_rules.specs.declared.log.Shape.{Shape}
use Rattle.name_rules.specs.declared.log.Shape.TheVariants as shape
use Rattle.name_rules.specs.declared.types.Kind.{Kind}
use Rattle.name_rules.specs.declared.types.Kind.TheVariants as kind
use Rattle.name_rules.specs.declared.types.Scalar.{Scalar}
use Rattle.name_rules.specs.declared.types.Subtype.{Subtype}
use Rattle.name_rules.specs.declared.types.Subtype.TheVariants as subtype
use Rattle.name_laws.proofs.Constants.{get-either}
use Rattle.name_laws.proofs.Fitting.{Fits, fits_constant}
use Rattle.name_laws.proofs.Walk.{Walk}
use Rattle.name_laws.specs.Based.{AreSpans, ArraysBased, HasBased, IsBased, IsRange, IsSpan}

-- ---- ranges

int-trans : (a b c : ℤ) → int_le a b ≡ true → int_le b c ≡ true → int_le a c ≡ true
int-trans (pos a) (pos b) (pos c) e f = le-leb a c (omega (arith, leb-true a b e, leb-true b c f))
int-trans (pos a) (pos b) (negsuc c) e f = absurd (true≢false (sym f))
int-trans (pos a) (negsuc b) c e f = absurd (true≢false (sym e))
int-trans (negsuc a) (pos b) (pos c) e f = refl
int-trans (negsuc a) (pos b) (negsuc c) e f = absurd (true≢false (sym f))
int-trans (negsuc a) (negsuc b) (pos c) e f = refl
int-trans (negsuc a) (negsuc b) (negsuc c) e f = le-leb c a (omega (arith, leb-true b a e, leb-true c b f))

pub both-true : (a b : Bool) → a ≡ true → b ≡ true → (a && b) ≡ true
both-true true b e f = f
both-true false b e f = absurd (true≢false (sym e))

-- what lies between two numbers of a range lies in it
between : (a b low high z : ℤ) → (int_le a low && int_le low b) ≡ true → (int_le a high && int_le high b) ≡ true → int_le low z ≡ true → int_le z high ≡ true → (int_le a z && int_le z b) ≡ true
between a b low high z e f g h =
    let x = and_parts (int_le a low) (int_le low b) e in
    let y = and_parts (int_le a high) (int_le high b) f in
    both-true (int_le a z) (int_le z b) (int-trans a low z x.0 g) (int-trans z high b h y.1)

pub base-between : (k : Kind) (low high z : ℤ) → in_base k low ≡ true → in_base k high ≡ true → int_le low z ≡ true → int_le z high ≡ true → in_base k z ≡ true
base-between kind.Boolean low high z = between (pos 0) (pos 1) low high z
base-between kind.Integer low high z = between (least_of Narrow) (greatest_of Narrow) low high z
base-between (kind.Own n) low high z = between (least_of Wide) (greatest_of Wide) low high z
base-between (kind.Modular n k) low high z = between (pos 0) (pos (modulus k - 1)) low high z

pub kept-twice : (k : Kind) (z : ℤ) → kept k (kept k z) ≡ z
kept-twice kind.Boolean z = refl
kept-twice kind.Integer z = refl
kept-twice (kind.Own n) z = refl
kept-twice (kind.Modular n k) z = turned_twice z

pub plain-kept : (k : Kind) (z : ℤ) → is_modular k ≡ false → kept k z ≡ z
plain-kept kind.Boolean z e = refl
plain-kept kind.Integer z e = refl
plain-kept (kind.Own n) z e = refl
plain-kept (kind.Modular n k) z e = absurd cc

-- a subtype of a type that isn't modular
pub plain-span : (k : Kind) (low high : ℤ) → is_modular k ≡ false → IsRange k (kept k low) (kept k high) → IsSpan k low high
plain-span k low high e h = record { plain = e; range = subst (λ z. IsRange k low z) (plain-kept k high e) (subst (λ z. IsRange k z (kept k high)) (plain-kept k low e) h) }

pub lies-based : (s : Scalar) (z : ℤ) → IsRange s.kind (kept s.kind s.low) (kept s.kind s.high) → lies_in s z ≡ true → in_base s.kind z ≡ true
lies-based s z h e = let x = and_parts (int_le (kept s.kind s.low) z) (int_le z (kept s.kind s.high)) e in base-between s.kind (kept s.kind s.low) (kept s.kind s.high) z h.first h.last x.0 x.1

-- the bounds of a range within a subtype's
pub within-based : (s : Scalar) (low high : ℤ) → IsRange s.kind (kept s.kind s.low) (kept s.kind s.high) → (lies_in s low && lies_in s high && int_le low high) ≡ true → IsRange s.kind low high
within-based s low high h e =
    let x = and_parts (lies_in s low && lies_in s high) (int_le low high) e in
    let y = and_parts (lies_in s low) (lies_in s high) x.0 in
    record { some = x.1; first = lies-based s low h y.0; last = lies-based s high h y.1 }

-- ---- values of objects

pub none-based : (t : Subtype) → HasBased t None
none-based t k z e f = absurd cc

value-based : (t : Subtype) (constant : Bool) (v : Option ℤ) → IsBased t → Fits t constant v → HasBased t v
value-based t constant None h f = none-based t
value-based (subtype.Composite n) constant (Some y) h f = absurd f
value-based (subtype.Scalar s) constant (Some y) h f = λ k z e g.
    let one : s.kind ≡ k = cc in
    let two : y ≡ z = cc in
    ap (λ j. in_base j z) (sym one) ∙ ap (in_base s.kind) (sym two) ∙ lies-based s y h f.2

pub constant-based : (constant : Bool) (t : Subtype) (v : Initial) → IsBased t → HasBased t (constant_value constant t v)
constant-based constant t v h = value-based t constant (constant_value constant t v) h (fits_constant constant t v)

-- ---- dimensions

pub spans_both : (a b : List Dimension) → AreSpans a → AreSpans b → AreSpans (a ++ b)
spans_both [] b h k = k
spans_both (d ∷ a) b h k = (h.0, spans_both a b h.1 k)

-- ---- arrays, where nothing but scalar subtypes is written

pub record Spanning (a b : Log) : Type 0 where
  pub at : ArraysBased a.shapes → ArraysBased b.shapes

pub spanning_same : (a b : Log) → a.shapes ≡ b.shapes → Spanning a b
spanning_same a b e = record { at = λ h. subst ArraysBased e h }

pub spanning_joined : (a b c : Log) → Spanning a b → Spanning b c → Spanning a c
spanning_joined a b c f g = record { at = λ h. g.at (f.at h) }

-- one more shape, whose bounds are based where it is an array
pub shape_more : (shapes : List Shape) (t : Shape) → ((ds : List Dimension) (c : Subtype) (k cells : ℕ) → t ≡ shape.Array ds c k cells → AreSpans ds) → ArraysBased shapes → ArraysBased (shapes ++ t ∷ [])
shape_more shapes t f h n ds c k cells e = by (get-either shapes t n (shape.Array ds c k cells) e)
  where
    by : (slice_get shapes n ≡ Some (shape.Array ds c k cells)) ⊎ (t ≡ shape.Array ds c k cells) → AreSpans ds
    by (inl g) = h n ds c k cells g
    by (inr g) = f ds c k cells g

pub scalar_spanning : (s : Scalar) (log : Log) → Spanning log (written_shape (shape.Scalar s) log).1
scalar_spanning s log = record { at = shape_more log.shapes (shape.Scalar s) (λ ds c k cells e. absurd cc) }

unless_spanning : (b : Bool) (at : ℕ) (rule : Rule) (log : Log) → Spanning log (unless b at rule log).1
unless_spanning true at rule log = spanning_same log log refl
unless_spanning false at rule log = spanning_same log _ refl

pub counted_spanning : (token cells : ℕ) (log : Log) → Spanning log (cells_counted token cells log).1
counted_spanning token cells log =
    let all = saturated (log.cells + cells) in
    let now = record log { declared = log.declared + 1; cells = all } in
    let mid = (unless (not (log.declared == most_objects)) token (Limit bound.Objects) now).1 in
    spanning_joined log now _ (spanning_same log now refl)
    (spanning_joined now mid _ (unless_spanning (not (log.declared == most_objects)) token (Limit bound.Objects) now) (unless_spanning (nat_lt most_cells log.cells || nat_le all most_cells) token (Limit bound.Cells) mid))

abbrev pub spanning : Walk
spanning = record {
  Takes = λ names. Unit {0};
  R = Spanning;
  stays = λ log. spanning_same log log refl;
  joins = spanning_joined;
  breaks = λ at rule log. spanning_same log _ refl;
  scalar = scalar_spanning;
  counted = counted_spanning;
  exception = λ token log. spanning_same log _ refl;
  site = λ here at k log. spanning_same log _ refl;
  parameter = λ log. spanning_same log _ refl;
  loop = λ log. spanning_same log _ refl;
}
