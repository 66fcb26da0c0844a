use Rattle.std.proofs.Common.{◌≡◌}
use Rattle.name_rules.specs.Judges.{found_of}
use Rattle.name_rules.specs.Names as spec
use Rattle.syntax_nodes.specs.Parts.{the_tokens}
use Rattle.syntax_nodes.specs.Tables.{part_at}
use Rattle.typed_tree.specs.Latest.{pop, top}
use Rattle.typed_parts.specs.Stack.{parts}
use Rattle.name_values.proofs.exceptions.pack_from.Given as goal

abbrev pub invariant-identifiers : goal.invariant-identifiers
invariant-identifiers l = (spec.pack_from l.names l.here (found_of l.fn.denoted (top (parts l.fn.judge.out))) (the_tokens (part_at l.tree.nodes l.fn.more)) l.fn.judge.log ≡ spec.pack_from l.names l.here (found_of l.d (top (parts l.judge.out))) (the_tokens (part_at l.tree.nodes l.next)) l.judge.log) × (pop (parts l.judge.out) ≡ pop (parts l.fn.judge.out))

abbrev pub decreases-identifiers : goal.decreases-identifiers
decreases-identifiers l = l.next
