use Rattle.std.proofs.Common.{◌≡◌, ◌≤◌, length, reverse, take}
use Rattle.name_rules.specs.Primaries as spec
use Rattle.name_expressions.proofs.conditionals.common.Given as goal

abbrev pub invariant-values : goal.invariant-values
invariant-values l = (l.i ≤ length l.values) × (spec.common (reverse (take l.i l.values)) l.first ≡ spec.common (reverse l.values) (spec.type_of l.fn.last))

abbrev pub decreases-values : goal.decreases-values
decreases-values l = l.i
