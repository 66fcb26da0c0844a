-- What default values ask of a table of subtypes: arrays have components, and each subtype stands on earlier ones, so that
-- its parts have the cells of theirs.
use Rattle.std.specs.Prelude.{◌≡◌, ℕ, zero, suc, ◌≤◌, List, [], ◌∷◌, length, slice_get, Option, Some, None}
use Rattle.typed_tree.specs.declared.program.Field.{Field}
use Rattle.typed_tree.specs.Syntax.{OfScalar, Array, Record, Subtype, Program}
use Rattle.ada_meaning.specs.Values.{components, layout_within}
pub use Rattle.typed_scopes.specs.Named.{NoneEmpty}
use Rattle.ada_lower.specs.Emission.{cells_of, subtype_or_none}

abbrev pub EachFilled : (within : ℕ → Type 0) → List Field → Type 0
EachFilled within [] = Unit {0}
EachFilled within (f ∷ fs) = within f.subtype × EachFilled within fs

abbrev pub FilledOf : (within : ℕ → Type 0) → Option Subtype → Type 0
FilledOf within None = Unit {0}
FilledOf within (Some (OfScalar k)) = Unit {0}
FilledOf within (Some (Array dimensions component)) = (1 ≤ components dimensions) × within component
FilledOf within (Some (Record fields)) = EachFilled within fields

module _ (program : Program) where
  abbrev pub FilledWithin : (levels number : ℕ) → Type 0
  FilledWithin zero number = Unit {0}
  FilledWithin (suc levels) number = FilledOf (λ n. (length (layout_within program.subtypes levels n) ≡ cells_of program n) × FilledWithin levels n) (slice_get program.subtypes number)

  -- an object that may be declared without an initial value
  abbrev pub Filled : ℕ → Type 0
  Filled x = FilledWithin (length program.subtypes) (subtype_or_none program (slice_get program.objects x))
