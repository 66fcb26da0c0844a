use Rattle.std.proofs.Common.{◌≡◌, ◌≤◌, ◌++◌, drop}
use Rattle.ada_base.specs.Cuts.{listed}
use Rattle.run_plan.proofs.plan_cuts.by_list.Given as goal

abbrev pub invariant-loop-size : goal.invariant-loop-size
invariant-loop-size l =
    record {
      some : 1 ≤ l.left;
      cut : l.sizes ++ listed (drop l.size-index l.given) l.left l.rest ≡ listed l.given l.most l.n;
    }
