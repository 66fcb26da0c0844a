use Rattle.std.proofs.Common.{◌≡◌, length, reverse}
use Rattle.name_rules.specs.Judges.{open_with}
use Rattle.name_rules.specs.Primaries as spec
use Rattle.typed_tree.specs.Latest.{pop, second, top}
use Rattle.typed_parts.specs.Stack.{parts}
use Rattle.name_expressions.proofs.conditionals.open_ifs.Given as goal

abbrev pub invariant-values : goal.invariant-values
invariant-values l = (spec.open_ifs (reverse l.fn.values) (second (parts l.fn.out)) (open_with l.fn.last (top (parts l.fn.out))) ≡ spec.open_ifs (reverse l.values) (second (parts l.out)) (open_with l.limits (top (parts l.out)))) × (pop (pop (parts l.out)) ≡ pop (pop (parts l.fn.out)))

abbrev pub decreases-values : goal.decreases-values
decreases-values l = length l.values
