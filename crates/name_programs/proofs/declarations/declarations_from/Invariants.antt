use Rattle.std.proofs.Common.{◌≡◌}
use Rattle.name_rules.specs.Declarations as spec
use Rattle.name_rules.specs.Judges.{part_if}
use Rattle.name_rules.specs.Primaries.{inside}
use Rattle.syntax_nodes.specs.Parts.{the_decls}
use Rattle.syntax_nodes.specs.Tables.{part_at}
use Rattle.typed_tree.specs.Latest.{pop, top}
use Rattle.typed_parts.specs.Stack.{parts}
use Rattle.name_programs.proofs.declarations.declarations_from.Given as goal

abbrev pub invariant-decls : goal.invariant-decls
invariant-decls l = (spec.declarations l.text.names.now (inside l.text.names.now l.text.levels) l.start l.fn.here (part_if l.done (top (parts l.fn.judge.out))) (the_decls (part_at l.text.tree.now.nodes l.more)) l.fn.judge.log ≡ spec.declarations l.text.names.now (inside l.text.names.now l.text.levels) l.start l.here (part_if l.whole (top (parts l.judge.out))) (the_decls (part_at l.text.tree.now.nodes l.next)) l.judge.log) × (pop (parts l.judge.out) ≡ pop (parts l.fn.judge.out))

abbrev pub decreases-decls : goal.decreases-decls
decreases-decls l = l.next
