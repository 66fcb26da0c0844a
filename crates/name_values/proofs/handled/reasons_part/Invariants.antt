use Rattle.std.proofs.Common.{◌≡◌, ◌++◌, length}
use Rattle.typed_tree.specs.Decoded.{as_reasons}
use Rattle.typed_tree.specs.Latest.{pop, top}
use Rattle.typed_parts.specs.Stack.{parts}
use Rattle.name_values.proofs.handled.reasons_part.Given as goal

abbrev pub invariant-each : goal.invariant-each
invariant-each l = (l.left ++ as_reasons (top (parts l.out)) ≡ l.fn.reasons) × (pop (parts l.out) ≡ parts l.fn.out)

abbrev pub decreases-each : goal.decreases-each
decreases-each l = length l.left
