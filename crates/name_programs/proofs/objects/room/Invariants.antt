use Rattle.std.proofs.Common.{◌≡◌, ◌-◌, length, drop}
use Rattle.name_rules.specs.Declarations as spec
use Rattle.name_programs.proofs.objects.room.Given as goal

abbrev pub invariant-objects : goal.invariant-objects
invariant-objects l = spec.room (spec.first_room l.names l.owner) l.owner l.log.objects ≡ spec.room l.room l.owner (drop l.i l.log.objects)

abbrev pub decreases-objects : goal.decreases-objects
decreases-objects l = length l.log.objects - l.i
