use Rattle.std.proofs.Common.{◌≡◌, ◌≤◌, ◌+◌, ◌*◌}
use Rattle.typed_tree.specs.Classes.{beyond_digits, sooner}
use Rattle.typed_tree.specs.Decoded.{as_expr, part_at}
use Rattle.typed_parts.proofs.parts.Parts.+beyond.Given as goal

abbrev pub decreases-beyond : goal.decreases-beyond
decreases-beyond l = 2 * l.id + 1

abbrev pub decreases-beyond_before : goal.decreases-beyond_before
decreases-beyond_before l = 2 * l.id

abbrev pub decreases-beyond_behind : goal.decreases-beyond_behind
decreases-beyond_behind l = 2 * l.id

abbrev pub invariant-beyond-next : goal.invariant-beyond-next
invariant-beyond-next l = record {
  is : beyond_digits l.size (as_expr (part_at l.self.nodes l.id)) ≡ sooner l.before (sooner (beyond_digits l.size (as_expr (part_at l.self.nodes l.last))) l.behind);
  within : l.last ≤ l.id;
}

abbrev pub decreases-beyond-next : goal.decreases-beyond-next
decreases-beyond-next l = l.last
