use Rattle.std.proofs.Common.{◌≡◌}
use Rattle.name_programs.specs.Declares.{building}
use Rattle.name_rules.specs.Declarations as spec
use Rattle.name_rules.specs.Primaries.{inside}
use Rattle.syntax_nodes.specs.Parts.{the_comps}
use Rattle.syntax_nodes.specs.Tables.{part_at}
use Rattle.typed_tree.specs.Latest.{pop, top}
use Rattle.typed_parts.specs.Stack.{parts}
use Rattle.name_programs.proofs.records.components.Given as goal

abbrev pub invariant-comps : goal.invariant-comps
invariant-comps l = (spec.components l.text.names.now (inside l.text.names.now l.text.levels) l.start (building l.fn.growing (top (parts l.fn.judge.out))) (the_comps (part_at l.text.tree.now.nodes l.more)) l.fn.judge.log ≡ spec.components l.text.names.now (inside l.text.names.now l.text.levels) l.start (building l.growing (top (parts l.judge.out))) (the_comps (part_at l.text.tree.now.nodes l.next)) l.judge.log) × (pop (parts l.judge.out) ≡ pop (parts l.fn.judge.out))

abbrev pub decreases-comps : goal.decreases-comps
decreases-comps l = l.next
