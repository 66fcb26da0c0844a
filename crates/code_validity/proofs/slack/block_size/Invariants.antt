use Rattle.std.proofs.Common.{◌≤◌, ◌-◌}
use Rattle.code_validity.proofs.slack.block_size.Given as goal

abbrev pub invariant-loop-size : goal.invariant-loop-size
invariant-loop-size l = (1 ≤ l.size) × (l.size ≤ 131072)

abbrev pub decreases-loop-size : goal.decreases-loop-size
decreases-loop-size l = 131072 - l.size
