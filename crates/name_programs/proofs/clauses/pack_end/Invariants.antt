use Rattle.std.proofs.Common.{◌≡◌}
use Rattle.name_rules.specs.Programs as spec
use Rattle.syntax_nodes.specs.Parts.{the_tokens}
use Rattle.syntax_nodes.specs.Tables.{part_at}
use Rattle.name_programs.proofs.clauses.pack_end.Given as goal

abbrev pub invariant-tokens : goal.invariant-tokens
invariant-tokens l = spec.pack_end l.names l.library (the_tokens (part_at l.tree.nodes l.more)) l.fn.log ≡ spec.pack_end l.names l.named (the_tokens (part_at l.tree.nodes l.next)) l.log

abbrev pub decreases-tokens : goal.decreases-tokens
decreases-tokens l = l.next
