-- What names give of a program's text.
use Rattle.std.specs.Prelude.{◌≡◌, ◌≤◌, ℕ, List, slice_get, Some, Bool}
use Rattle.behaviours.specs.Paths.{Entity}
use Rattle.typed_tree.specs.Syntax.{Array, Program, Subtype}
use Rattle.typed_tree.specs.declared.program.Bounds.{Bounds}
use Rattle.ada_meaning.specs.Values.{components}
use Rattle.typed_objects.specs.Objects.{ObjectsAreDistinct}
use Rattle.typed_sites.specs.Nesting.{SitesAreNested}
use Rattle.typed_sites.specs.Sites.{SitesAreDistinct, SitesAreListed}
use Rattle.typed_scopes.specs.Outs.{StaysIn}
use Rattle.typed_scopes.specs.Scopes.{IsScoped}

-- no array of a table is empty (3.6.1: each has a component at least)
abbrev pub NoneEmpty : List Subtype → Type 0
NoneEmpty table = (number : ℕ) (dimensions : List Bounds) (component : ℕ) → slice_get table number ≡ Some (Array dimensions component) → 1 ≤ components dimensions

-- Its names are in scope, where each subprogram sees these of the main procedure's objects; no exit leaves a body; no array is
-- empty; each object is declared once; and constructs have numbers of their own, from the outside in.
pub record IsNamed (program : Program) (shown : ℕ → Entity → Bool) : Type 0 where
  pub filled : NoneEmpty program.subtypes
  pub scoped : IsScoped program shown
  pub stays : StaysIn program
  pub objects : ObjectsAreDistinct program
  pub distinct : SitesAreDistinct program
  pub rows : SitesAreListed program
  pub nested : SitesAreNested program
