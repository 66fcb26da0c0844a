use Rattle.std.proofs.Common.{◌≡◌}
use Rattle.name_rules.specs.Programs as spec
use Rattle.syntax_nodes.specs.Parts.{the_packs}
use Rattle.syntax_nodes.specs.Tables.{part_at}
use Rattle.name_programs.proofs.clauses.clause_packs.Given as goal

abbrev pub invariant-packs : goal.invariant-packs
invariant-packs l = spec.clause_packs l.names l.word l.fn.here (the_packs (part_at l.tree.nodes l.more)) l.fn.log ≡ spec.clause_packs l.names l.word l.here (the_packs (part_at l.tree.nodes l.next)) l.log

abbrev pub decreases-packs : goal.decreases-packs
decreases-packs l = l.next
