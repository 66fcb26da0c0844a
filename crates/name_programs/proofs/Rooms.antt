-- Where an object's cells begin.
use Rattle.std.proofs.Common.{◌≡◌, refl, ℕ, Bool, true, false, List, ◌∷◌, ◌+◌, Some, drop}
use Rattle.std.specs.Prelude.{if◌then◌else◌, slice_get, ◌==◌}
use Rattle.typed_tree.specs.declared.program.Object.{Object}
use Rattle.name_programs.proofs.FromPlaces.{drop_get}
use Rattle.name_programs.specs.DeclarationSteps.{room_behind}
use Rattle.name_rules.specs.Declarations.{room}

room_if : (b : Bool) (x y owner : ℕ) (os : List Object) → (if b then room x owner os else room y owner os) ≡ room (if b then x else y) owner os
room_if true x y owner os = refl
room_if false x y owner os = refl

pub room_next : (first owner : ℕ) (o : Object) (os : List Object) → room first owner (o ∷ os) ≡ room (room_behind first owner o) owner os
room_next first owner o os = room_if (o.owner == owner) (first + o.cells) first owner os

pub room_step : (first owner i : ℕ) (os : List Object) (o : Object) → slice_get os i ≡ Some o → room first owner (drop i os) ≡ room (room_behind first owner o) owner (drop (i + 1) os)
room_step first owner i os o e = rw (drop_get os i o e) (room_next first owner o (drop (i + 1) os))
