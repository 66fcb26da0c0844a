use Rattle.std.proofs.Common.{◌≡◌, ◌-◌, length, drop}
use Rattle.name_rules.specs.Declarations as spec
use Rattle.name_programs.proofs.declaration_lists.all_ended.Given as goal

abbrev pub invariant-ended : goal.invariant-ended
invariant-ended l = spec.all_ended l.names l.fn.here l.what l.free ≡ spec.all_ended l.names l.here l.what (drop l.i l.free)

abbrev pub decreases-ended : goal.decreases-ended
decreases-ended l = length l.free - l.i
