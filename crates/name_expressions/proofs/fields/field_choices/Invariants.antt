use Rattle.std.proofs.Common.{◌≡◌, []}
use Rattle.syntax_tree.specs.Syntax as syntax
use Rattle.name_rules.specs.Aggregates.{field_choices}
use Rattle.syntax_nodes.specs.Parts.{the_choice, the_choices}
use Rattle.syntax_nodes.specs.Tables.{part_at}
use Rattle.name_expressions.proofs.fields.field_choices.Given as goal

abbrev pub invariant-choices : goal.invariant-choices
invariant-choices l = field_choices l.names l.all l.alone l.last l.fn.left [] (syntax.AlsoChoice (the_choice (part_at l.tree.nodes l.first)) (the_choices (part_at l.tree.nodes l.fn.more))) l.fn.log ≡ field_choices l.names l.all l.alone l.last l.taking.left l.taking.taken (the_choices (part_at l.tree.nodes l.next)) l.log

abbrev pub decreases-choices : goal.decreases-choices
decreases-choices l = l.next
