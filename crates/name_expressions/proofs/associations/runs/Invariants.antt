use Rattle.std.proofs.Common.{◌≡◌, length}
use Rattle.typed_tree.specs.Decoded.{as_runs}
use Rattle.typed_tree.specs.Latest.{pop, top}
use Rattle.name_expressions.proofs.Runs.{runs_before}
use Rattle.name_expressions.specs.Placed.{runs_if}
use Rattle.name_rules.specs.Aggregates.{runs_of}
use Rattle.typed_parts.specs.Stack.{parts}
use Rattle.name_expressions.proofs.associations.runs.Given as goal

abbrev pub invariant-spans : goal.invariant-spans
invariant-spans l = (runs_of l.dimension l.apart l.fn.ranges ≡ runs_before l.dimension l.apart l.left (runs_if l.within (as_runs (top (parts l.out))))) × (pop (parts l.out) ≡ parts l.fn.out)

abbrev pub decreases-spans : goal.decreases-spans
decreases-spans l = length l.left
