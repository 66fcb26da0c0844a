use Rattle.std.proofs.Common.{◌≡◌, ◌≤◌, length, drop}
use Rattle.typed_tree.specs.Decoded.{as_bytes}
use Rattle.typed_tree.specs.Latest.{pop, top}
use Rattle.typed_parts.specs.Stack.{parts}
use Rattle.name_expressions.proofs.brackets.piece.Given as goal

abbrev pub invariant-bytes : goal.invariant-bytes
invariant-bytes l = (l.i ≤ length l.text) × (as_bytes (top (parts l.out)) ≡ drop l.i l.text) × (pop (parts l.out) ≡ parts l.fn.out)

abbrev pub decreases-bytes : goal.decreases-bytes
decreases-bytes l = l.i
