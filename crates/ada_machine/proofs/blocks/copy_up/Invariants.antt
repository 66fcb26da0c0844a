use Rattle.std.proofs.Common.{◌≡◌, ◌≤◌, ◌+◌, ◌-◌, pos}
use Rattle.stack_code.specs.Deeds.{Deed, Lacks, loads_all, stores_all}
use Rattle.ada_machine.specs.Places.{Stays}
use Rattle.ada_machine.specs.Played.{IsClear, plays}
use Rattle.ada_machine.proofs.blocks.copy_up.Given as goal

abbrev pub invariant-loop-done : goal.invariant-loop-done
invariant-loop-done g l = record {
  within : l.done ≤ l.count;
  stays : Stays g.C.Cells.floor g.C.Cells.whole g.C.Cells.place l.fn.view l.view;
  clear : IsClear (loads_all (l.count - l.done) (pos (l.source + l.done)) (λ vs. stores_all vs (pos (l.target + l.done)) Lacks)) (g.C.Cells.cells l.view);
  left : (d : Deed) → plays (loads_all l.count (pos l.source) (λ vs. stores_all vs (pos l.target) d)) (g.C.Cells.cells l.fn.view) ≡ plays (loads_all (l.count - l.done) (pos (l.source + l.done)) (λ vs. stores_all vs (pos (l.target + l.done)) d)) (g.C.Cells.cells l.view);
}

abbrev pub decreases-loop-done : goal.decreases-loop-done
decreases-loop-done g l = l.count - l.done
