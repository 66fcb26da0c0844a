use Rattle.std.proofs.Common.{◌≡◌, ◌+◌}
use Rattle.name_rules.specs.Names as spec
use Rattle.syntax_nodes.specs.Parts.{the_args}
use Rattle.syntax_nodes.specs.Tables.{part_at}
use Rattle.name_expressions.proofs.indexes.count.Given as goal

abbrev pub invariant-each : goal.invariant-each
invariant-each l = l.n + spec.count (the_args (part_at l.tree.nodes l.next)) ≡ spec.count (the_args (part_at l.tree.nodes l.fn.more))

abbrev pub decreases-each : goal.decreases-each
decreases-each l = l.next
