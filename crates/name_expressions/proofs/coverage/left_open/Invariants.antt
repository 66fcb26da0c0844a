use Rattle.std.proofs.Common.{◌≡◌, ◌-◌, length, drop}
use Rattle.name_expressions.proofs.OpenRanges.{behind}
use Rattle.name_rules.specs.Aggregates.{left_open}
use Rattle.name_expressions.proofs.coverage.left_open.Given as goal

abbrev pub invariant-spans : goal.invariant-spans
invariant-spans l = left_open l.fn.dimension.low l.fn.dimension.high l.ranges ≡ behind l.gaps (left_open l.start l.end (drop l.i l.ranges))

abbrev pub decreases-spans : goal.decreases-spans
decreases-spans l = length l.ranges - l.i
