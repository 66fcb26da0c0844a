use Rattle.std.proofs.Common.{◌-◌, length, drop}
use Rattle.run_store.specs.Shows.{Goes}
use Rattle.run_parts.specs.Words.{write_all}
use Rattle.run_parts.proofs.cells.write_all.Given as goal

abbrev pub invariant-loop-value : goal.invariant-loop-value
invariant-loop-value g l = Goes g.P.Port.Tells (write_all l.work l.object l.fn.offset l.values) l.fn.store (write_all l.work l.object l.at (drop l.k l.values)) l.store

abbrev pub decreases-loop-value : goal.decreases-loop-value
decreases-loop-value g l = length l.values - l.k
