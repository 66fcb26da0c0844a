use Rattle.std.proofs.Common.{◌≡◌}
use Rattle.name_programs.specs.Forms.{taken_if}
use Rattle.name_rules.specs.Programs as spec
use Rattle.syntax_nodes.specs.Parts.{the_formal_list}
use Rattle.syntax_nodes.specs.Tables.{part_at}
use Rattle.typed_parts.specs.Stack.{parts}
use Rattle.name_programs.proofs.formals.formals_from.Given as goal

abbrev pub invariant-formals : goal.invariant-formals
invariant-formals l = (spec.formals_from l.names l.function l.start l.fn.here (taken_if l.done l.fn.takes) (the_formal_list (part_at l.tree.nodes l.more)) l.fn.judge.log ≡ spec.formals_from l.names l.function l.start l.here (taken_if l.whole l.takes) (the_formal_list (part_at l.tree.nodes l.next)) l.judge.log) × (parts l.judge.out ≡ parts l.fn.judge.out)

abbrev pub decreases-formals : goal.decreases-formals
decreases-formals l = l.next
