use Rattle.std.proofs.Common.{◌≡◌, ◌-◌, map, take, replicate, length, None}
use Rattle.run_parts.proofs.copies.kept_in_front.Given as goal

abbrev pub invariant-loop-first : goal.invariant-loop-first
invariant-loop-first l = map (λ p. p.back) (take l.kept l.passed) ≡ replicate l.kept None

abbrev pub decreases-loop-first : goal.decreases-loop-first
decreases-loop-first l = length l.passed - l.kept
