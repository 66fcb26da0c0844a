use Rattle.std.proofs.Common.{◌≡◌, ◌-◌, ◌++◌, length, drop}
use Rattle.name_rules.specs.Aggregates.{without}
use Rattle.name_expressions.proofs.fields.without.Given as goal

abbrev pub invariant-fields : goal.invariant-fields
invariant-fields l = without l.name l.fields ≡ l.others ++ without l.name (drop l.i l.fields)

abbrev pub decreases-fields : goal.decreases-fields
decreases-fields l = length l.fields - l.i
