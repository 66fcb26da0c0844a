use Rattle.std.proofs.Common.{◌≡◌, ◌-◌, length, drop}
use Rattle.name_rules.specs.Cases as spec
use Rattle.name_values.proofs.coverage.leaves_open.Given as goal

abbrev pub invariant-each : goal.invariant-each
invariant-each l = spec.is_open l.from l.high (drop l.i l.ranges) ≡ spec.is_open l.fn.low l.high l.ranges

abbrev pub decreases-each : goal.decreases-each
decreases-each l = length l.ranges - l.i
