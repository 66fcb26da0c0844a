use Rattle.std.proofs.Common.{◌≡◌}
use Rattle.name_programs.specs.Forms.{declared_so}
use Rattle.name_rules.specs.Programs as spec
use Rattle.syntax_nodes.specs.Parts.{the_units}
use Rattle.syntax_nodes.specs.Tables.{part_at}
use Rattle.typed_parts.specs.Stack.{parts}
use Rattle.name_programs.proofs.programs.units.Given as goal

abbrev pub invariant-units : goal.invariant-units
invariant-units l = spec.units l.text.names.now l.text.levels l.blocking l.start (declared_so l.fn.here l.fn.sound l.fn.heads (parts l.fn.judge.out)) (the_units (part_at l.text.tree.now.nodes l.more)) l.fn.judge.log ≡ spec.units l.text.names.now l.text.levels l.blocking l.start (declared_so l.here l.so_far l.heads (parts l.judge.out)) (the_units (part_at l.text.tree.now.nodes l.next)) l.judge.log

abbrev pub decreases-units : goal.decreases-units
decreases-units l = l.next
