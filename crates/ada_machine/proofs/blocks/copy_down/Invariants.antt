use Rattle.std.proofs.Common.{◌≡◌, ◌≤◌, pos}
use Rattle.stack_code.specs.Deeds.{Deed, Lacks, loads_all, stores_all}
use Rattle.ada_machine.specs.Places.{Stays}
use Rattle.ada_machine.specs.Played.{IsClear, plays}
use Rattle.ada_machine.proofs.blocks.copy_down.Given as goal

abbrev pub invariant-loop-left : goal.invariant-loop-left
invariant-loop-left g l = record {
  within : l.left ≤ l.count;
  stays : Stays g.C.Cells.floor g.C.Cells.whole g.C.Cells.place l.fn.view l.view;
  clear : IsClear (loads_all l.left (pos l.source) (λ vs. stores_all vs (pos l.target) Lacks)) (g.C.Cells.cells l.view);
  rest : (d : Deed) → plays (loads_all l.count (pos l.source) (λ vs. stores_all vs (pos l.target) d)) (g.C.Cells.cells l.fn.view) ≡ plays (loads_all l.left (pos l.source) (λ vs. stores_all vs (pos l.target) d)) (g.C.Cells.cells l.view);
}

abbrev pub decreases-loop-left : goal.decreases-loop-left
decreases-loop-left g l = l.left
