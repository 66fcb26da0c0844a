-- What the typed program of a text keeps of its table of subtypes and of the cells of its objects (3.2, 3.6, 3.8).
use Rattle.syntax_tree.specs.Syntax.{Program}
use Rattle.typed_tree.specs.Layout.{HaveCells, IsLaidOut}
use Rattle.typed_tree.specs.Syntax as typed
use Rattle.typed_tree.specs.Syntax.{Subtype}
use Rattle.typed_tree.specs.declared.program.Bounds.{Bounds}
use Rattle.typed_tree.specs.declared.program.Field as field
use Rattle.typed_tree.specs.declared.program.Object.{Object}
use Rattle.name_laws.specs.Cells.{IsTyped}
use Rattle.name_rules.specs.Resolved.{TypedOf}
use Rattle.name_rules.specs.declared.scope.Names.{Names}
use Rattle.std.specs.Prelude.{List, None, Option, Some, [], int_le, length, slice_get, true, ℕ, ◌<◌, ◌∷◌, ◌≡◌}

abbrev pub AreBefore : ℕ → List field.Field → Type 0
AreBefore n [] = Unit {0}
AreBefore n (f ∷ fs) = (f.subtype < n) × AreBefore n fs

-- a subtype stands on those of lower numbers
abbrev pub StandsBefore : ℕ → Option Subtype → Type 0
StandsBefore n None = Unit {0}
StandsBefore n (Some (typed.OfScalar s)) = Unit {0}
StandsBefore n (Some (typed.Array dimensions component)) = component < n
StandsBefore n (Some (typed.Record fs)) = AreBefore n fs

-- every index of an array type has a value
abbrev pub HaveIndexes : List Bounds → Type 0
HaveIndexes [] = Unit {0}
HaveIndexes (b ∷ bs) = (int_le b.low b.high ≡ true) × HaveIndexes bs

abbrev pub HasComponents : Subtype → Type 0
HasComponents (typed.OfScalar s) = Unit {0}
HasComponents (typed.Array dimensions component) = HaveIndexes dimensions
HasComponents (typed.Record fs) = Unit {0}

abbrev pub HaveComponents : List Subtype → Type 0
HaveComponents [] = Unit {0}
HaveComponents (t ∷ ts) = HasComponents t × HaveComponents ts

-- In a text's typed program each subtype stands on earlier ones alone, so none has a part of its own type, and the subtype
-- of each object is one of the table. No array type of it is empty, and each object has as many cells as the layout
-- gives its subtype, though names count them on the way and stand still at the greatest number of 64 bits; so the objects
-- are laid out side by side.
pub record FormedLaw : Type 0 where
  pub grounded : (names : Names) (text : Program) (program : typed.Program) → TypedOf names text ≡ Some program
      → (n : ℕ) → StandsBefore n (slice_get program.subtypes n)
  pub objects : (names : Names) (text : Program) (program : typed.Program) → TypedOf names text ≡ Some program
      → (i : ℕ) (o : Object) → slice_get program.objects i ≡ Some o → o.subtype < length program.subtypes
  pub components : (names : Names) (text : Program) (program : typed.Program) → TypedOf names text ≡ Some program → HaveComponents program.subtypes
  pub cells : (names : Names) (text : Program) (program : typed.Program) → TypedOf names text ≡ Some program
      → HaveCells program.subtypes program.objects
  pub laid : (names : Names) (text : Program) (program : typed.Program) → IsTyped names text program
      → IsLaidOut program
