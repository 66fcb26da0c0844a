-- Expressions write scalar subtypes alone: arrays and records stay what they are while one is judged.
use Rattle.std.proofs.Common.{◌≡◌, ℕ, zero, suc, List, [], ◌∷◌, ◌++◌, Option, Some, None, refl, sym, ap, ◌∙◌, slice_get}
use Rattle.name_rules.specs.Attributes.{dimensions_in}
use Rattle.name_rules.specs.Types.{component_of, dimensions_of, fields_of}
use Rattle.name_rules.specs.declared.log.Log.{Log}
use Rattle.name_rules.specs.declared.log.Shape.{Shape}
use Rattle.name_rules.specs.declared.log.Shape.TheVariants as shape
use Rattle.name_rules.specs.declared.types.Scalar.{Scalar}
use Rattle.name_rules.specs.declared.types.Subtype.{Subtype}
use Rattle.name_rules.specs.declared.types.Subtype.TheVariants as subtype
use Rattle.name_laws.proofs.CellsGrown.{counted_shapes}
use Rattle.name_laws.proofs.Walk.{Walk}
use Rattle.name_statics.specs.Values.{dimensions}

-- an array or a record
abbrev pub composite : Option Shape → Option Shape
composite (Some (shape.Scalar s)) = None
composite t = t

-- two tables with the same arrays and records
pub record Same (shapes others : List Shape) : Type 0 where
  pub at : (n : ℕ) → composite (slice_get shapes n) ≡ composite (slice_get others n)

pub same_self : (shapes : List Shape) → Same shapes shapes
same_self shapes = record { at = λ n. refl }

equal : (shapes others : List Shape) → shapes ≡ others → Same shapes others
equal shapes others e = record { at = λ n. ap (λ s. composite (slice_get s n)) e }

pub one-more : (shapes : List Shape) (s : Scalar) (n : ℕ) → composite (slice_get shapes n) ≡ composite (slice_get (shapes ++ shape.Scalar s ∷ []) n)
one-more [] s zero = refl
one-more [] s (suc n) = refl
one-more (t ∷ shapes) s zero = refl
one-more (t ∷ shapes) s (suc n) = one-more shapes s n

pub record SameIn (a b : Log) : Type 0 where
  pub same : Same a.shapes b.shapes

pub alike : (a b : Log) → a.shapes ≡ b.shapes → SameIn a b
alike a b e = record { same = equal a.shapes b.shapes e }

abbrev pub walk : Walk
walk = record {
  Takes = λ names. Unit {0};
  R = SameIn;
  stays = λ log. record { same = same_self log.shapes };
  joins = λ a b c f g. record { same = record { at = λ n. f.same.at n ∙ g.same.at n } };
  breaks = λ at rule log. alike log _ refl;
  scalar = λ s log. record { same = record { at = one-more log.shapes s } };
  counted = λ token cells log. alike log _ (sym (counted_shapes token cells log));
  exception = λ token log. alike log _ refl;
  site = λ here at k log. alike log _ refl;
  parameter = λ log. alike log _ refl;
  loop = λ log. alike log _ refl;
}

pub later : (shapes : List Shape) (a b : Log) → Same shapes a.shapes → SameIn a b → Same shapes b.shapes
later shapes a b h g = record { at = λ n. h.at n ∙ g.same.at n }

-- ---- what is asked of the table is the same

dimensions-composite : (t : Option Shape) → dimensions_of t ≡ dimensions_of (composite t)
dimensions-composite None = refl
dimensions-composite (Some (shape.Scalar s)) = refl
dimensions-composite (Some (shape.Array ds c n cells)) = refl
dimensions-composite (Some (shape.Record fs cells)) = refl

fields-composite : (t : Option Shape) → fields_of t ≡ fields_of (composite t)
fields-composite None = refl
fields-composite (Some (shape.Scalar s)) = refl
fields-composite (Some (shape.Array ds c n cells)) = refl
fields-composite (Some (shape.Record fs cells)) = refl

component-composite : (t : Option Shape) → component_of t ≡ component_of (composite t)
component-composite None = refl
component-composite (Some (shape.Scalar s)) = refl
component-composite (Some (shape.Array ds c n cells)) = refl
component-composite (Some (shape.Record fs cells)) = refl

pub same_fields : (shapes others : List Shape) (n : ℕ) → Same shapes others → fields_of (slice_get others n) ≡ fields_of (slice_get shapes n)
same_fields shapes others n h = fields-composite (slice_get others n) ∙ (ap fields_of (sym (h.at n)) ∙ sym (fields-composite (slice_get shapes n)))

pub same_component : (shapes others : List Shape) (n : ℕ) → Same shapes others → component_of (slice_get others n) ≡ component_of (slice_get shapes n)
same_component shapes others n h = component-composite (slice_get others n) ∙ (ap component_of (sym (h.at n)) ∙ sym (component-composite (slice_get shapes n)))

pub same_dimensions : (shapes : List Shape) (log : Log) (t : Subtype) → Same shapes log.shapes → dimensions_in log (Some t) ≡ dimensions shapes t
same_dimensions shapes log (subtype.Scalar s) h = refl
same_dimensions shapes log (subtype.Composite n) h = dimensions-composite (slice_get log.shapes n) ∙ (ap dimensions_of (sym (h.at n)) ∙ sym (dimensions-composite (slice_get shapes n)))
