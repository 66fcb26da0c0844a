-- An outermost construct whose threads workers run.
use Rattle.std.specs.Prelude.{◌≡◌, ℕ, ◌+◌, ◌<◌, ◌≤◌, ◌^◌, true, false, List, [], ◌∷◌, map, Option, Some, None, Result, Ok, Err}
use Rattle.ada_base.specs.Cells.{Cell}
use Rattle.ada_base.specs.Cuts.{Plan, cuts_of}
use Rattle.ada_base.specs.Notes.{ConstructNote, InOrder, ByNotes}
use Rattle.ada_workers.specs.Noted.{told_note}
use Rattle.ada_workers.specs.Orders.{Start}
use Rattle.ada_workers.specs.Threads.{frame_values}
use Rattle.ada_workers.specs.declared.construct.Over.{Over}
use Rattle.ada_workers.specs.declared.threads.Thread.{Thread}
use Rattle.behaviours.specs.Joins.{Share}
use Rattle.cell_strip.specs.declared.region.Region.{Region}
use Rattle.stack_code.specs.declared.code.Code.{Code}
use Rattle.stack_code.specs.declared.path.Asked.{Asked}
use Rattle.stack_code.specs.declared.path.Gave.{Gave}
use Rattle.stack_code.specs.declared.path.Gave.TheVariants as gave
use Rattle.stack_code.specs.declared.path.Leave.{Leave}
use Rattle.stack_code.specs.Machine.{Stop, Spent, resumed}
use Rattle.ada_lower.specs.Driven.{World, Forked}
use Rattle.ada_machine.specs.States.{state_of}
use Rattle.ada_machine.specs.declared.machine.Machine.{Machine}
use Rattle.machine_paths.specs.Constructing.{ForksTo, with_schedule}
use Rattle.machine_paths.specs.Starting.{thread_values}
use Rattle.machine_paths.specs.Threads.{ThreadPath}
use Rattle.ada_threads.specs.declared.site.Told.{Told}
use Rattle.ada_threads.specs.declared.way.End.{End}
use Rattle.ada_threads.specs.declared.way.End.TheVariants as end
use Rattle.ada_threads.specs.declared.way.Way.{Way}
use Rattle.ada_threads.specs.declared.way.Way.TheVariants as way

-- a thread of a construct, as it begins
abbrev pub start_in : ThreadPath → (frame : ℕ) → Asked → Share → Start ThreadPath
start_in p frame q j = record { path = p; own = thread_values frame q j }

-- a thread with its first values, and the regions that it may write
pub record IsStart (p : ThreadPath) (frame : ℕ) (q : Asked) (j : Share) (area : List Region) (t : Thread ThreadPath) : Type 0 where
  pub path : t.path ≡ p
  pub own : frame_values t.frame ≡ thread_values frame q j
  pub regions : t.regions.items ≡ area
  pub fits : t.frame.more + 4 < 2 ^ 32

-- each is a run of a path that begins so
abbrev pub AllRan : ThreadPath → List (Over ThreadPath) → Type 0
AllRan p [] = Unit {0}
AllRan p (o ∷ os) = (o.path ≡ record p { turns = o.path.turns; how = o.path.how }) × AllRan p os

-- by what it left, if it left
abbrev pub left_in : Option Way → Option Leave
left_in None = None
left_in (Some (way.Left l)) = Some l
left_in (Some (way.Done v)) = None
left_in (Some way.Spent) = None
left_in (Some way.Paused) = None
left_in (Some way.NoMemory) = None

-- how threads ended, where the machine is to be given that
abbrev pub EndOf : End → Result Gave Stop → Type 0
EndOf (end.Values vs) how = how ≡ Ok (gave.Numbers vs)
EndOf (end.Left l) how = how ≡ Ok (gave.Left l)
EndOf end.Spent how = how ≡ Err Spent
EndOf end.Paused how = ⊥
EndOf end.NoMemory how = Unit {0}

-- the note that is told
abbrev pub note_of : Told → ConstructNote
note_of t = record { chosen = t.chosen; threads = map told_note t.threads.items }

-- the machine goes on with what the threads came to, or its turns ran out
abbrev pub Behind : Code → Told → (m : Machine) → (m' : Machine) → List Cell → Result Gave Stop → Type 0
Behind c t m m' cells' (Ok g) = (t.spent ≡ false) × (state_of m' cells' ≡ resumed c g (state_of (record m { turns = m'.turns }) cells'))
Behind c t m m' cells' (Err x) = (t.spent ≡ true) × (x ≡ Spent) × (m' ≡ record m { turns = m'.turns })

abbrev pub forked : World → List Cell → (turns : ℕ) → Result Gave Stop → Forked
forked w cells turns how = record { dyn = record { cells = cells; turns = turns; left = None; world = w }; how = how }

-- what an outermost construct comes to whose threads ran on so many workers
pub record SiteRan (limit : ℕ) (c : Code) (plan : Plan) (q : Asked) (workers : ℕ) (t : Told) (m : Machine) (cells : List Cell) (m' : Machine) (cells' : List Cell) : Type 0 where
  pub how : Result Gave Stop
  pub behind : Behind c t m m' cells' how
  pub within : m'.turns ≤ limit
  -- by the note that is told the fork comes to it, whatever its input and output are
  pub noted : (w : World) → w.plan ≡ cuts_of plan → (ns : List ConstructNote)
      → ForksTo limit c q (with_schedule (ByNotes (note_of t ∷ ns)) (record { state = state_of m cells; world = w })) (forked (record w { notes = ByNotes ns }) cells' m'.turns how)
  -- on one worker it comes to it in order
  pub in_order : workers ≡ 1 → (w : World) → w.plan ≡ cuts_of plan → w.notes ≡ InOrder
      → ForksTo limit c q (record { state = state_of m cells; world = w }) (forked w cells' m'.turns how)
