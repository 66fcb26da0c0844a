use Rattle.std.proofs.Common.{◌≡◌, ℕ, ◌≤◌, None}
use Rattle.stack_code.specs.Machine.{Comes}
use Rattle.stack_code.specs.Runs.{NeverStuck}
use Rattle.stack_code.specs.Stands.{rank}
use Rattle.stack_code.specs.Looks.{Looks}
use Rattle.stack_code.specs.Tops.{IsTopped}
use Rattle.leave_board.specs.Halts.{Heeds}
use Rattle.ada_machine.specs.Places.{Stays}
use Rattle.ada_machine.specs.States.{state_of, Ready, more}
use Rattle.ada_machine.proofs.walking.stride.Given as goal

abbrev pub invariant-loop-to : goal.invariant-loop-to
invariant-loop-to g l = record {
  came : Comes l.limit l.code (state_of l.fn.m (g.C.Cells.cells l.fn.view)) (state_of (record l.m { pc = l.pc; turns = l.turns; looks = l.looks; base = l.base }) (g.C.Cells.cells l.view));
  ready : Ready l.code (record l.m { pc = l.pc; turns = l.turns; looks = l.looks; base = l.base }) (g.C.Cells.cells l.view);
  base : l.m.base ≡ l.base;
  calm : l.m.raising ≡ None;
  clear : NeverStuck l.limit l.code (state_of (record l.m { pc = l.pc; turns = l.turns; looks = l.looks; base = l.base }) (g.C.Cells.cells l.view));
  within : l.turns ≤ l.limit;
  looks : (n : ℕ) × (l.looks ≡ more l.fn.m.looks n) × Looks l.limit l.code n (state_of l.fn.m (g.C.Cells.cells l.fn.view)) (state_of (record l.m { pc = l.pc; turns = l.turns; looks = l.looks; base = l.base }) (g.C.Cells.cells l.view));
  stays : Stays g.C.Cells.floor g.C.Cells.whole g.C.Cells.place l.fn.view l.view;
  tops : IsTopped (g.C.Cells.floor l.view) (state_of (record l.m { pc = l.pc; turns = l.turns; looks = l.looks; base = l.base }) (g.C.Cells.cells l.view));
  halts : (g.H.Halt.kept l.halt ≡ g.H.Halt.kept l.fn.halt) × (g.H.Halt.told l.fn.halt → g.H.Halt.told l.halt);
  heeds : Heeds (g.H.Halt.told l.fn.halt) (g.H.Halt.told l.halt) l.fn.m.looks l.looks;
  falls : rank l.code l.limit (state_of (record l.m { pc = l.pc; turns = l.turns; looks = l.looks; base = l.base }) (g.C.Cells.cells l.view)) ≤ rank l.code l.limit (state_of l.fn.m (g.C.Cells.cells l.fn.view));
}

abbrev pub decreases-loop-to : goal.decreases-loop-to
decreases-loop-to g l = rank l.code l.limit (state_of (record l.m { pc = l.pc; turns = l.turns; looks = l.looks; base = l.base }) (g.C.Cells.cells l.view))
