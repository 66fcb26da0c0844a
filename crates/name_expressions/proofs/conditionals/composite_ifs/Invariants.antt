use Rattle.std.proofs.Common.{◌≡◌, length, reverse}
use Rattle.name_rules.specs.Judges.{part_if}
use Rattle.name_rules.specs.Primaries as spec
use Rattle.typed_tree.specs.Latest.{pop, second, top}
use Rattle.typed_parts.specs.Stack.{parts}
use Rattle.name_expressions.proofs.conditionals.composite_ifs.Given as goal

abbrev pub invariant-values : goal.invariant-values
invariant-values l = (spec.composite_ifs l.number (reverse l.fn.values) (second (parts l.fn.judge.out)) (part_if l.fn.last (top (parts l.fn.judge.out))) l.fn.judge.log ≡ spec.composite_ifs l.number (reverse l.values) (second (parts l.judge.out)) (part_if l.done (top (parts l.judge.out))) l.judge.log) × (pop (pop (parts l.judge.out)) ≡ pop (pop (parts l.fn.judge.out)))

abbrev pub decreases-values : goal.decreases-values
decreases-values l = length l.values
