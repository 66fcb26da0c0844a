-- A path of the machine that runs the constructs in it in order, on a view and on a memory that shows what the view has.
use Rattle.std.specs.Prelude.{◌≡◌, ℕ, List, Option, Some, None, Result, Ok, Err}
use Rattle.ada_base.specs.Notes.{InOrder}
use Rattle.stack_code.specs.declared.path.Gave.{Gave}
use Rattle.ada_base.specs.Cells.{Cell}
use Rattle.stack_code.specs.Machine.{Stop}
use Rattle.ada_lower.specs.Driven.{World, Dyn, Path, Final, Step, On, Off, Forks, Forked}
use Rattle.machine_paths.specs.Alike.{Kept, with_memory, Chain, NotStuck}

abbrev pub dyn_with : Dyn → List Cell → Dyn
dyn_with d cs = record d { cells = cs }

abbrev pub path_with : Path → List Cell → Path
path_with p cs = record p { state = with_memory p.state cs }

abbrev pub final_with : Final → List Cell → Final
final_with e cs = record e { dyn = dyn_with e.dyn cs }

abbrev pub forked_with : Forked → List Cell → Forked
forked_with e cs = record e { dyn = dyn_with e.dyn cs }

abbrev pub HowNotStuck : Result Gave Stop → Type 0
HowNotStuck (Ok g) = Unit {0}
HowNotStuck (Err x) = NotStuck x

-- what a thread's path may stand at: its constructs are run in order
abbrev pub Ordered : World → Type 0
Ordered w = w.notes ≡ InOrder

abbrev pub PathAlike : ℕ → List Cell → List Cell → Path → List Cell → Type 0
PathAlike b vs ms p ns = Kept b vs ms p.state.cells ns × Chain b p.state.waiting × Ordered p.world

abbrev pub StepAlike : ℕ → List Cell → List Cell → Step → Step → Type 0
StepAlike b vs ms (On p) y = (ns : List Cell) × (y ≡ On (path_with p ns)) × PathAlike b vs ms p ns
StepAlike b vs ms (Forks q p) y = (ns : List Cell) × (y ≡ Forks q (path_with p ns)) × PathAlike b vs ms p ns
StepAlike b vs ms (Off e) y = NotStuck e.how → (ns : List Cell) × (y ≡ Off (final_with e ns)) × Kept b vs ms e.dyn.cells ns × Ordered e.dyn.world

abbrev pub FinalAlike : ℕ → List Cell → List Cell → Option Final → Option Final → Type 0
FinalAlike b vs ms None y = y ≡ None
FinalAlike b vs ms (Some e) y = NotStuck e.how → (ns : List Cell) × (y ≡ Some (final_with e ns)) × Kept b vs ms e.dyn.cells ns × Ordered e.dyn.world

abbrev pub ForkedAlike : ℕ → List Cell → List Cell → Option Forked → Option Forked → Type 0
ForkedAlike b vs ms None y = y ≡ None
ForkedAlike b vs ms (Some e) y = HowNotStuck e.how → (ns : List Cell) × (y ≡ Some (forked_with e ns)) × Kept b vs ms e.dyn.cells ns × Ordered e.dyn.world
