use Rattle.std.proofs.Common.{◌≡◌, ◌-◌, Some, length, drop}
use Rattle.name_faults.specs.Least.{least_from, least_of}
use Rattle.name_faults.proofs.first_least.Given as goal

abbrev pub invariant-all : goal.invariant-all
invariant-all l = least_of l.faults ≡ Some (least_from l.best (drop l.i l.faults))

abbrev pub decreases-all : goal.decreases-all
decreases-all l = length l.faults - l.i
