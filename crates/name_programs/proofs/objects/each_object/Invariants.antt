use Rattle.std.proofs.Common.{◌≡◌, ◌-◌, length, drop}
use Rattle.name_rules.specs.Declarations as spec
use Rattle.name_rules.specs.Judges.{part_if}
use Rattle.name_rules.specs.Primaries.{inside}
use Rattle.syntax_nodes.specs.Parts.{the_expr, the_object_type}
use Rattle.syntax_nodes.specs.Tables.{part_at}
use Rattle.syntax_nodes.specs.Views.{optional}
use Rattle.typed_tree.specs.Latest.{pop, top}
use Rattle.typed_parts.specs.Stack.{parts}
use Rattle.name_programs.proofs.objects.each_object.Given as goal

abbrev pub invariant-objects : goal.invariant-objects
invariant-objects l = (spec.each_object l.text.names.now (inside l.text.names.now l.text.levels) l.inner l.fn.here l.constant l.first (the_object_type (part_at l.text.tree.now.nodes l.object_type)) (optional (part_at l.text.tree.now.nodes) the_expr l.value) (part_if l.done (top (parts l.fn.judge.out))) l.ids l.free l.fn.judge.log ≡ spec.each_object l.text.names.now (inside l.text.names.now l.text.levels) l.inner l.here l.constant l.first (the_object_type (part_at l.text.tree.now.nodes l.object_type)) (optional (part_at l.text.tree.now.nodes) the_expr l.value) (part_if l.whole (top (parts l.judge.out))) (drop l.i l.ids) (drop l.i l.free) l.judge.log) × (pop (parts l.judge.out) ≡ pop (parts l.fn.judge.out))

abbrev pub decreases-objects : goal.decreases-objects
decreases-objects l = length l.ids - l.i
