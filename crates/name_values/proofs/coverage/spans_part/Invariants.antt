use Rattle.std.proofs.Common.{◌≡◌, ◌++◌, length}
use Rattle.typed_tree.specs.Decoded.{as_spans}
use Rattle.typed_tree.specs.Latest.{pop, top}
use Rattle.typed_parts.specs.Stack.{parts}
use Rattle.name_values.proofs.coverage.spans_part.Given as goal

abbrev pub invariant-each : goal.invariant-each
invariant-each l = (l.left ++ as_spans (top (parts l.out)) ≡ l.fn.spans) × (pop (parts l.out) ≡ parts l.fn.out)

abbrev pub decreases-each : goal.decreases-each
decreases-each l = length l.left
