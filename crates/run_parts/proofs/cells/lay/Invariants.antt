use Rattle.std.proofs.Common.{◌≡◌, ◌-◌, length, take}
use Rattle.ada_meaning.specs.Values.{laid}
use Rattle.run_parts.proofs.cells.lay.Given as goal

abbrev pub invariant-loop-value : goal.invariant-loop-value
invariant-loop-value l = l.out ≡ laid l.fn.out l.first (take l.k l.values)

abbrev pub decreases-loop-value : goal.decreases-loop-value
decreases-loop-value l = length l.values - l.k
