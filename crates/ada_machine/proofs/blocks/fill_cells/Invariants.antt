use Rattle.std.proofs.Common.{◌≡◌, ◌≤◌, ◌+◌, ◌-◌, pos, replicate}
use Rattle.stack_code.specs.Deeds.{Deed, Lacks, stores_all}
use Rattle.ada_machine.specs.Places.{Stays}
use Rattle.ada_machine.specs.Played.{IsClear, plays}
use Rattle.ada_machine.proofs.blocks.fill_cells.Given as goal

abbrev pub invariant-loop-done : goal.invariant-loop-done
invariant-loop-done g l = record {
  within : l.done ≤ l.count;
  stays : Stays g.C.Cells.floor g.C.Cells.whole g.C.Cells.place l.fn.view l.view;
  clear : IsClear (stores_all (replicate (l.count - l.done) l.value) (pos (l.start + l.done)) Lacks) (g.C.Cells.cells l.view);
  left : (d : Deed) → plays (stores_all (replicate l.count l.value) (pos l.start) d) (g.C.Cells.cells l.fn.view) ≡ plays (stores_all (replicate (l.count - l.done) l.value) (pos (l.start + l.done)) d) (g.C.Cells.cells l.view);
}

abbrev pub decreases-loop-done : goal.decreases-loop-done
decreases-loop-done g l = l.count - l.done
