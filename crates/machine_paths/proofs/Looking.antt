-- A path that runs the constructs in it in order, whose looks have no bound, and the same path with a bound.
use Rattle.std.specs.Prelude.{◌≡◌, ◌≢◌, ℕ, ◌⊎◌, Option, Some, None, Err}
use Rattle.stack_code.specs.Machine.{Cut}
use Rattle.ada_lower.specs.Driven.{Path, Final, Step, On, Off, Forks, Forked, with_left}
use Rattle.machine_paths.specs.Nesting.{Ordered}

abbrev pub path_left : Path → Option ℕ → Path
path_left p l = record p { state = record p.state { left = l } }

abbrev pub final_left : Final → Option ℕ → Final
final_left e l = record e { dyn = with_left l e.dyn }

abbrev pub forked_left : Forked → Option ℕ → Forked
forked_left e l = record e { dyn = with_left l e.dyn }

abbrev pub StepCut : Step → Type 0
StepCut y = (e : Final) × (e.how ≡ Cut) × (y ≡ Off e)

abbrev pub FinalCut : Option Final → Type 0
FinalCut y = (e : Final) × (e.how ≡ Cut) × (y ≡ Some e)

abbrev pub ForkedCut : Option Forked → Type 0
ForkedCut y = (e : Forked) × (e.how ≡ Err Cut) × (y ≡ Some e)

-- without a bound it isn't cut; with one it does the same, or is cut
abbrev pub StepBound : Step → Step → Type 0
StepBound (On p) y = (p.state.left ≡ None) × Ordered p.world × (((i : ℕ) × (y ≡ On (path_left p (Some i)))) ⊎ StepCut y)
StepBound (Forks q p) y = (p.state.left ≡ None) × Ordered p.world × (((i : ℕ) × (y ≡ Forks q (path_left p (Some i)))) ⊎ StepCut y)
StepBound (Off e) y = (e.how ≢ Cut) × (e.dyn.left ≡ None) × Ordered e.dyn.world × (((i : ℕ) × (y ≡ Off (final_left e (Some i)))) ⊎ StepCut y)

abbrev pub FinalBound : Option Final → Option Final → Type 0
FinalBound None y = (y ≡ None) ⊎ FinalCut y
FinalBound (Some e) y = (e.how ≢ Cut) × (e.dyn.left ≡ None) × Ordered e.dyn.world × (((i : ℕ) × (y ≡ Some (final_left e (Some i)))) ⊎ FinalCut y)

abbrev pub ForkedBound : Option Forked → Option Forked → Type 0
ForkedBound None y = (y ≡ None) ⊎ ForkedCut y
ForkedBound (Some e) y = (e.how ≢ Err Cut) × (e.dyn.left ≡ None) × Ordered e.dyn.world × (((i : ℕ) × (y ≡ Some (forked_left e (Some i)))) ⊎ ForkedCut y)
