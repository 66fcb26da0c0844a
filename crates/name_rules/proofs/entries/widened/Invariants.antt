use Rattle.std.proofs.Common.{◌≡◌, ℕ, ◌+◌, ◌-◌, length}
use Rattle.name_rules.specs.Indexed.{head_at}
use Rattle.name_rules.proofs.entries.widened.Given as goal

abbrev pub invariant-heads : goal.invariant-heads
invariant-heads l = (name : ℕ) → head_at l.heads name ≡ head_at l.fn.heads name

abbrev pub decreases-heads : goal.decreases-heads
decreases-heads l = l.symbol + 1 - length l.heads
