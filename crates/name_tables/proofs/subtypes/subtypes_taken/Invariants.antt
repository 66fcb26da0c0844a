use Rattle.std.proofs.Common.{◌≡◌, ◌-◌, ◌++◌, drop, length}
use Rattle.std.specs.Prelude.{map}
use Rattle.typed_tree.specs.Programs.{subtype_of}
use Rattle.name_tables.specs.Shapes.{rest_of, with_parts}
use Rattle.typed_parts.specs.Stack.{parts_in}
use Rattle.name_tables.proofs.subtypes.subtypes_taken.Given as goal

abbrev pub invariant-all : goal.invariant-all
invariant-all l = (map (subtype_of l.finished.nodes) l.all ++ with_parts (drop l.i l.shapes) (parts_in l.finished.nodes l.finished.roots) ≡ with_parts l.shapes (parts_in l.fn.finished.nodes l.fn.finished.roots)) × (rest_of (drop l.i l.shapes) (parts_in l.finished.nodes l.finished.roots) ≡ rest_of l.shapes (parts_in l.fn.finished.nodes l.fn.finished.roots)) × (l.finished.nodes ≡ l.fn.finished.nodes)

abbrev pub decreases-all : goal.decreases-all
decreases-all l = length l.shapes - l.i
