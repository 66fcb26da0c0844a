use Rattle.std.proofs.Common.{◌≡◌, ◌++◌}
use Rattle.name_rules.specs.Declarations as spec
use Rattle.syntax_nodes.specs.Parts.{the_ids, the_tokens}
use Rattle.syntax_nodes.specs.Tables.{part_at}
use Rattle.name_programs.proofs.declaration_lists.all_ids.Given as goal

abbrev pub invariant-ids : goal.invariant-ids
invariant-ids l = l.all ++ the_tokens (part_at l.tree.nodes l.next) ≡ spec.all_ids (the_ids (part_at l.tree.nodes l.fn.id))

abbrev pub decreases-ids : goal.decreases-ids
decreases-ids l = l.next
