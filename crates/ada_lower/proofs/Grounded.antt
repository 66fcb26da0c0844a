-- Objects of a table whose subtypes stand on earlier ones, and of which no array is empty, may be declared without an
-- initial value.
use Rattle.std.proofs.Common.{◌≡◌, ℕ, zero, suc, ◌<◌, List, [], ◌∷◌, ◌++◌, length, slice_get, Option, Some, None, refl, sym, ap, ap₂, subst, arith}
use Rattle.typed_tree.specs.declared.scalars.Scalar.{Scalar}
use Rattle.typed_tree.specs.declared.program.Field.{Field}
use Rattle.typed_tree.specs.Syntax.{OfScalar, Array, Record, Subtype, Program}
use Rattle.ada_meaning.specs.Values.{repeated, components, fields, layout_of, layout_within}
use Rattle.ada_meaning.specs.Shapes.{AreBefore, StandsBefore, IsGrounded}
use Rattle.ada_lower.specs.Emission.{cells_of, subtype_or_none}
use Rattle.ada_lower.specs.Defaults.{EachFilled, FilledOf, FilledWithin, Filled, NoneEmpty}
use Rattle.ada_lower.proofs.Declared.{length_in}

module _ (layout other : ℕ → List Scalar) (n : ℕ) (same : (m : ℕ) → m < n → layout m ≡ other m) where
  fields_same : (fs : List Field) → AreBefore n fs → fields layout fs ≡ fields other fs
  fields_same [] h = refl
  fields_same (f ∷ fs) h = ap₂ (λ x y. x ++ y) (same f.subtype h.0) (fields_same fs h.1)

  entry_same : (o : Option Subtype) → StandsBefore n o → layout_of layout o ≡ layout_of other o
  entry_same None h = refl
  entry_same (Some (OfScalar s)) h = refl
  entry_same (Some (Array ds c)) h = ap (repeated (components ds)) (same c h)
  entry_same (Some (Record fs)) h = fields_same fs h

module _ (program : Program) (grounded : IsGrounded program.subtypes) (some : NoneEmpty program.subtypes) where
  stable : (l k n : ℕ) → n < l → n < k → layout_within program.subtypes l n ≡ layout_within program.subtypes k n
  stable zero k n lt lt' = absurd (omega arith)
  stable (suc l) zero n lt lt' = absurd (omega arith)
  stable (suc l) (suc k) n lt lt' = entry_same (layout_within program.subtypes l) (layout_within program.subtypes k) n (λ m h. stable l k m (omega arith) (omega arith)) (slice_get program.subtypes n) (grounded n)

  abbrev Part : ℕ → ℕ → Type 0
  Part l m = (length (layout_within program.subtypes l m) ≡ cells_of program m) × FilledWithin program l m

  fields_filled : (l n : ℕ) → ((m : ℕ) → m < n → Part l m) → (fs : List Field) → AreBefore n fs → EachFilled (Part l) fs
  fields_filled l n part [] h = tt
  fields_filled l n part (f ∷ fs) h = (part f.subtype h.0, fields_filled l n part fs h.1)

  entry_filled : (l n : ℕ) → (n < length program.subtypes → (m : ℕ) → m < n → Part l m) → (o : Option Subtype) → slice_get program.subtypes n ≡ o → StandsBefore n o → FilledOf (Part l) o
  entry_filled l n part None e h = tt
  entry_filled l n part (Some (OfScalar s)) e h = tt
  entry_filled l n part (Some (Array ds c)) e h = (some n ds c e, part (length_in program.subtypes n (Array ds c) e) c h)
  entry_filled l n part (Some (Record fs)) e h = fields_filled l n (part (length_in program.subtypes n (Record fs) e)) fs h

  filled_within : (l n : ℕ) → n < l → FilledWithin program l n
  filled_within zero n lt = absurd (omega arith)
  filled_within (suc l) n lt =
      entry_filled l n (λ inside m below. (ap length (stable l (length program.subtypes) m (omega (arith, lt, below)) (omega (arith, inside, below))), filled_within l m (omega (arith, lt, below)))) (slice_get program.subtypes n) refl (grounded n)

  -- a number that no subtype has
  none_filled : (l n : ℕ) → slice_get program.subtypes n ≡ None → FilledWithin program l n
  none_filled zero n e = tt
  none_filled (suc l) n e = subst (λ o. FilledOf (Part l) o) (sym e) tt

  pub objects_filled : (x : ℕ) → Filled program x
  objects_filled x = go (subtype_or_none program (slice_get program.objects x)) (slice_get program.subtypes (subtype_or_none program (slice_get program.objects x))) refl
    where
      go : (n : ℕ) (o : Option Subtype) → slice_get program.subtypes n ≡ o → FilledWithin program (length program.subtypes) n
      go n None e = none_filled (length program.subtypes) n e
      go n (Some t) e = filled_within (length program.subtypes) n (length_in program.subtypes n t e)
