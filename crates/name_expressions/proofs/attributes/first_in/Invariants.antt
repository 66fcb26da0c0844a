use Rattle.std.proofs.Common.{◌≡◌}
use Rattle.name_rules.specs.Attributes as spec
use Rattle.name_rules.specs.Calls as calls
use Rattle.syntax_nodes.specs.Parts.{the_args}
use Rattle.syntax_nodes.specs.Tables.{part_at}
use Rattle.name_expressions.proofs.attributes.first_in.Given as goal

abbrev pub invariant-each : goal.invariant-each
invariant-each l = spec.first_named (calls.arg_names (the_args (part_at l.tree.nodes l.next))) ≡ spec.first_named (calls.arg_names (the_args (part_at l.tree.nodes l.more)))

abbrev pub decreases-each : goal.decreases-each
decreases-each l = l.next
