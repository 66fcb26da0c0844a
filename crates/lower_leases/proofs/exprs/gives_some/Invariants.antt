use Rattle.std.proofs.Common.{◌≡◌}
use Rattle.lower_emission.specs.Repeats.{some_run}
use Rattle.typed_tree.specs.Decoded.{leaves_at, runs_in}
use Rattle.lower_leases.proofs.exprs.gives_some.Given as goal

abbrev pub invariant-loop-cell : goal.invariant-loop-cell
invariant-loop-cell l = some_run (runs_in (leaves_at l.nodes l.at)) ≡ some_run (runs_in (leaves_at l.nodes l.runs))

abbrev pub decreases-loop-cell : goal.decreases-loop-cell
decreases-loop-cell l = l.at
