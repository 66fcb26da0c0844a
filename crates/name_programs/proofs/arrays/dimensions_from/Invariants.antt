use Rattle.std.proofs.Common.{◌≡◌}
use Rattle.name_programs.specs.Declares.{dimensions_if}
use Rattle.name_rules.specs.Declarations as spec
use Rattle.name_rules.specs.Primaries.{inside}
use Rattle.syntax_nodes.specs.Parts.{the_ranges}
use Rattle.syntax_nodes.specs.Tables.{part_at}
use Rattle.typed_tree.specs.Latest.{pop, top}
use Rattle.typed_parts.specs.Stack.{parts}
use Rattle.name_programs.proofs.arrays.dimensions_from.Given as goal

abbrev pub invariant-all : goal.invariant-all
invariant-all l = (spec.dimensions_from (inside l.scene.names.now l.scene.levels) l.scene.here.now (dimensions_if l.done l.fn.dimensions (top (parts l.fn.judge.out))) (the_ranges (part_at l.scene.tree.now.nodes l.more)) l.fn.judge.log ≡ spec.dimensions_from (inside l.scene.names.now l.scene.levels) l.scene.here.now (dimensions_if l.whole l.dimensions (top (parts l.judge.out))) (the_ranges (part_at l.scene.tree.now.nodes l.next)) l.judge.log) × (pop (parts l.judge.out) ≡ pop (parts l.fn.judge.out))

abbrev pub decreases-all : goal.decreases-all
decreases-all l = l.next
