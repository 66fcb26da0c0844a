use Rattle.std.proofs.Common.{◌≡◌, ◌-◌, [], length, drop}
use Rattle.name_rules.specs.Declarations as spec
use Rattle.name_programs.proofs.declaration_lists.begun_names.Given as goal

abbrev pub invariant-begun : goal.invariant-begun
invariant-begun l = spec.begun_names l.names l.start l.fn.here [] l.ids l.fn.log ≡ spec.begun_names l.names l.start l.here l.done (drop l.i l.ids) l.log

abbrev pub decreases-begun : goal.decreases-begun
decreases-begun l = length l.ids - l.i
