use Rattle.std.proofs.Common.{◌≡◌}
use Rattle.name_rules.specs.Cases as cases
use Rattle.name_rules.specs.Primaries.{inside}
use Rattle.name_values.specs.Coverage.{as_choosing, as_covering}
use Rattle.syntax_nodes.specs.Parts.{the_choice_list}
use Rattle.syntax_nodes.specs.Tables.{part_at}
use Rattle.typed_tree.specs.Latest.{pop, top}
use Rattle.typed_parts.specs.Stack.{parts}
use Rattle.name_expressions.proofs.choices.more_choices.Given as goal

abbrev pub invariant-choices : goal.invariant-choices
invariant-choices l = (cases.case_choices (inside l.scene.names.now l.scene.levels) l.scene.here.now l.kind l.single l.last (as_covering l.fn.covering) (as_choosing l.fn.choosing (top (parts l.fn.judge.out))) (the_choice_list (part_at l.scene.tree.now.nodes l.fn.more)) l.fn.judge.log ≡ cases.case_choices (inside l.scene.names.now l.scene.levels) l.scene.here.now l.kind l.single l.last (as_covering l.covering) (as_choosing l.choosing (top (parts l.judge.out))) (the_choice_list (part_at l.scene.tree.now.nodes l.next)) l.judge.log) × (pop (parts l.judge.out) ≡ pop (parts l.fn.judge.out))

abbrev pub decreases-choices : goal.decreases-choices
decreases-choices l = l.next
