use Rattle.std.proofs.Common.{◌≡◌, ◌-◌, ◌++◌, length, drop}
use Rattle.ada_meaning.specs.Values.{without_zeros}
use Rattle.run_parts.proofs.plans.filled.Given as goal

-- what is there, and what is still to come
abbrev pub invariant-loop-size : goal.invariant-loop-size
invariant-loop-size l = l.filled ++ without_zeros (drop l.k l.sizes) ≡ without_zeros l.sizes

abbrev pub decreases-loop-size : goal.decreases-loop-size
decreases-loop-size l = length l.sizes - l.k
