use Rattle.std.proofs.Common.{◌≡◌}
use Rattle.name_rules.specs.Programs as spec
use Rattle.syntax_nodes.specs.Parts.{the_clauses}
use Rattle.syntax_nodes.specs.Tables.{part_at}
use Rattle.name_programs.proofs.clauses.clauses.Given as goal

abbrev pub invariant-all : goal.invariant-all
invariant-all l = spec.clauses l.names l.fn.here (the_clauses (part_at l.tree.nodes l.more)) l.fn.log ≡ spec.clauses l.names l.here (the_clauses (part_at l.tree.nodes l.next)) l.log

abbrev pub decreases-all : goal.decreases-all
decreases-all l = l.next
