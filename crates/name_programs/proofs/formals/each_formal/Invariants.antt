use Rattle.std.proofs.Common.{◌≡◌, ◌-◌, length, drop}
use Rattle.name_programs.specs.Forms.{taken_if}
use Rattle.name_rules.specs.Programs as spec
use Rattle.name_programs.proofs.formals.each_formal.Given as goal

abbrev pub invariant-formals : goal.invariant-formals
invariant-formals l = spec.each_formal l.names l.fn.here l.mode l.subtype (taken_if l.done l.fn.takes) l.ids l.free l.fn.log ≡ spec.each_formal l.names l.here l.mode l.subtype (taken_if l.whole l.takes) (drop l.i l.ids) (drop l.i l.free) l.log

abbrev pub decreases-formals : goal.decreases-formals
decreases-formals l = length l.ids - l.i
