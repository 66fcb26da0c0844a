use Rattle.std.proofs.Common.{◌≡◌, ◌≤◌, ◌-◌, ◌++◌, string_bytes}
use Rattle.top_call.specs.Soak.{front, statements}
use Rattle.top_call.proofs.soak.soak_text.Given as goal

abbrev pub invariant-loop-number : goal.invariant-loop-number
invariant-loop-number l = (string_bytes l.text ≡ front ++ statements l.number) × (l.number ≤ l.statements)

abbrev pub decreases-loop-number : goal.decreases-loop-number
decreases-loop-number l = l.statements - l.number
