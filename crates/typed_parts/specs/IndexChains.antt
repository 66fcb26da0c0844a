-- How the indexes in the name of an object are gathered, selection by selection.
use Rattle.std.specs.Prelude.{◌≡◌}
use Rattle.typed_tree.specs.Decoded.{TypedPart}
use Rattle.typed_tree.specs.Indexes.{indexes_from}
use Rattle.typed_tree.specs.Syntax.{Selections}

-- after a selection the indexes go on so
abbrev pub GoesOn : TypedPart → (Selections → Selections) → TypedPart → Type 0
GoesOn done selection next = (s : Selections) → indexes_from done (selection s) ≡ indexes_from next s
