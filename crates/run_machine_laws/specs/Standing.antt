-- How far the machine has come on a program's code, by the notes that were told so far.
use Rattle.std.specs.Prelude.{◌≡◌, ℕ, min, pos, List, [], ◌++◌, length, drop, replicate, Option, Some, None, Bool, true, false}
use Rattle.ada_base.specs.Cells.{Mine}
use Rattle.ada_base.specs.Notes.{ConstructNote, Schedule, InOrder, ByNotes}
use Rattle.ada_meaning.specs.Deeds.{Deed, takes_in, output_in}
use Rattle.stack_code.specs.declared.code.Code.{Code}
use Rattle.stack_code.specs.Machine.{begun}
use Rattle.ada_lower.specs.Driven.{Path, Final, Step, On, Off, Forks, Finally}
use Rattle.ada_lower.specs.Outset.{first_dyn}
use Rattle.machine_paths.specs.Constructing.{with_schedule}

-- with one worker constructs are run in order, with more by these notes
abbrev pub schedule : Bool → List ConstructNote → Schedule
schedule true ns = InOrder
schedule false ns = ByNotes ns

-- the machine at the beginning of code whose main frame has so many cells
abbrev pub first_path : Schedule → (plan : ℕ → ℕ → List ℕ) → (frame : ℕ) → (input before : List ℕ) → Path
first_path notes plan frame input before = record { state = begun 0 0 [] 0 0 0 None (replicate frame (Mine (pos 0))); world = (first_dyn notes plan frame input before).world }

abbrev pub first : Schedule → (plan : ℕ → ℕ → List ℕ) → (frame : ℕ) → (input before : List ℕ) → Step
first notes plan frame input before = On (first_path notes plan frame input before)

-- what was done outside up to a step, where that is kept
abbrev pub done_by : Step → Option (List Deed)
done_by (On p) = p.world.done
done_by (Off e) = e.dyn.world.done
done_by (Forks q p) = p.world.done

module _ (limit : ℕ) (c : Code) where
  -- what the one comes to, the other does, and the other way round
  abbrev pub SameEnds : Step → Step → Type 0
  SameEnds x y = (e : Final) → (Finally limit c x e → Finally limit c y e) × (Finally limit c y e → Finally limit c x e)

-- A run that began with this input and this output before it, and did these deeds by these notes, stands at a path. What the
-- input holds beyond what was taken is still to be read.
pub record Stands (limit : ℕ) (c : Code) (cuts : ℕ → ℕ → List ℕ) (frame : ℕ) (input before : List ℕ) (one : Bool) (told : List ConstructNote) (front : List Deed) (p : Path) : Type 0 where
  pub ends : (ns : List ConstructNote) → SameEnds limit c (first (schedule one (told ++ ns)) cuts frame input before) (On (with_schedule (schedule one ns) p))
  pub planned : p.world.plan ≡ cuts
  pub done : p.world.done ≡ Some front
  pub output : p.world.output ≡ before ++ output_in front
  pub taken : p.world.taken ≡ min (takes_in front) (length input)
  pub rest : p.world.input ≡ drop (takes_in front) input
