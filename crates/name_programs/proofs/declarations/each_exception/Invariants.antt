use Rattle.std.proofs.Common.{◌≡◌, ◌-◌, length, drop}
use Rattle.name_rules.specs.Declarations as spec
use Rattle.name_programs.proofs.declarations.each_exception.Given as goal

abbrev pub invariant-exceptions : goal.invariant-exceptions
invariant-exceptions l = spec.each_exception l.names l.fn.here l.ids l.free l.fn.log ≡ spec.each_exception l.names l.here (drop l.i l.ids) (drop l.i l.free) l.log

abbrev pub decreases-exceptions : goal.decreases-exceptions
decreases-exceptions l = length l.ids - l.i
