use Rattle.std.proofs.Common.{◌≡◌, ◌+◌}
use Rattle.name_symbols.specs.Naming as spec
use Rattle.syntax_nodes.specs.Parts.{the_units}
use Rattle.syntax_nodes.specs.Tables.{part_at}
use Rattle.name_numbering.proofs.naming.sub_count.Given as goal

abbrev pub invariant-units : goal.invariant-units
invariant-units l = l.count + spec.sub_count (the_units (part_at l.tree.nodes l.next)) ≡ spec.sub_count (the_units (part_at l.tree.nodes l.more))

abbrev pub decreases-units : goal.decreases-units
decreases-units l = l.next
