use Rattle.std.proofs.Common.{◌≡◌, drop}
use Rattle.std.specs.Prelude.{map}
use Rattle.typed_tree.specs.Decoded.{as_bounds}
use Rattle.typed_tree.specs.Latest.{pop, top}
use Rattle.name_rules.specs.Resolved.{dimension_bounds}
use Rattle.typed_parts.specs.Stack.{parts}
use Rattle.name_tables.proofs.subtypes.bounds_part.Given as goal

abbrev pub invariant-bounds : goal.invariant-bounds
invariant-bounds l = (as_bounds (top (parts l.out)) ≡ map dimension_bounds (drop l.i l.dimensions)) × (pop (parts l.out) ≡ parts l.fn.out)

abbrev pub decreases-bounds : goal.decreases-bounds
decreases-bounds l = l.i
