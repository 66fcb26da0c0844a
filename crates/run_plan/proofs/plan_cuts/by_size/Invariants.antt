use Rattle.std.proofs.Common.{◌≡◌, ◌≤◌, ◌++◌}
use Rattle.ada_base.specs.Cuts.{chunked}
use Rattle.run_plan.proofs.plan_cuts.by_size.Given as goal

abbrev pub invariant-loop-left : goal.invariant-loop-left
invariant-loop-left l =
    record {
      some : 1 ≤ l.left;
      cut : l.sizes ++ chunked l.size l.left l.rest ≡ chunked l.size l.most l.n;
    }

abbrev pub decreases-loop-left : goal.decreases-loop-left
decreases-loop-left l = l.left
