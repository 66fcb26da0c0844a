use Rattle.std.proofs.Common.{◌≡◌, drop}
use Rattle.std.specs.Prelude.{map}
use Rattle.typed_tree.specs.Decoded.{as_fields}
use Rattle.typed_tree.specs.Latest.{pop, top}
use Rattle.name_rules.specs.Resolved.{typed_field}
use Rattle.typed_parts.specs.Stack.{parts}
use Rattle.name_tables.proofs.subtypes.fields_part.Given as goal

abbrev pub invariant-parts : goal.invariant-parts
invariant-parts l = (as_fields (top (parts l.out)) ≡ map typed_field (drop l.i l.fields)) × (pop (parts l.out) ≡ parts l.fn.out)

abbrev pub decreases-parts : goal.decreases-parts
decreases-parts l = l.i
