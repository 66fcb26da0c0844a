use Rattle.std.proofs.Common.{◌≡◌, drop}
use Rattle.std.specs.Prelude.{map}
use Rattle.name_rules.specs.Resolved.{typed_subtype}
use Rattle.name_tables.specs.Shapes.{rest_of, with_parts}
use Rattle.typed_parts.specs.Stack.{parts}
use Rattle.name_tables.proofs.subtypes.shape_parts.Given as goal

abbrev pub invariant-all : goal.invariant-all
invariant-all l = (with_parts (drop l.i l.shapes) (parts l.out) ≡ map typed_subtype (drop l.i l.shapes)) × (rest_of (drop l.i l.shapes) (parts l.out) ≡ parts l.fn.out)

abbrev pub decreases-all : goal.decreases-all
decreases-all l = l.i
