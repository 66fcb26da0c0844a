-- Threads of the machine that ran beside others, as the machine runs them by notes.
use Rattle.std.specs.Prelude.{◌≡◌, ℕ, zero, suc, ◌⊎◌, max, ℤ, Bool, true, false, cond, Result, Ok, Err, List, [], ◌∷◌, ◌++◌, map, Option, Some, None}
use Rattle.ada_base.specs.Cells.{Cell, Mine}
use Rattle.ada_base.specs.Notes.{ConstructNote}
use Rattle.ada_workers.specs.Paths.{Fine}
use Rattle.ada_workers.specs.Orders.{Start}
use Rattle.ada_workers.specs.Joins.{notes_of}
use Rattle.ada_workers.specs.declared.construct.Over.{Over}
use Rattle.ada_workers.specs.declared.tasks.State.{State as Told}
use Rattle.ada_workers.specs.declared.tasks.State.TheVariants as state
use Rattle.behaviours.specs.Joins.{Share}
use Rattle.stack_code.specs.declared.path.Gave.{Gave}
use Rattle.stack_code.specs.declared.path.Gave.TheVariants as gave
use Rattle.stack_code.specs.declared.path.Leave.{Leave}
use Rattle.stack_code.specs.Machine.{Stop, Left, Done, Spent}
use Rattle.ada_lower.specs.Driven.{World, Dyn, Path, Final, Step, On, gathered}
use Rattle.machine_paths.specs.Threads.{ThreadPath, inside, outcome_of, runs}

-- the note that workers tell of a construct
abbrev pub note_by : Option ℕ → List (Over ThreadPath) → ConstructNote
note_by chosen os = record { chosen = chosen; threads = notes_of os }

-- by what the chosen thread left
abbrev pub LeftBy : ℕ → ℕ → List (Over ThreadPath) → Leave → Type 0
LeftBy t k [] l = ⊥
LeftBy t k (o ∷ os) l = ((t ≡ k) × (o.path.how ≡ Some (Left l))) ⊎ LeftBy t (suc k) os l

-- whether turns ran out, and the values, of threads that went to their own ends
abbrev pub spent_by : Bool → Option Stop → Bool
spent_by over (Some Spent) = true
spent_by over _ = over

abbrev pub values_by : List ℤ → Option Stop → List ℤ
values_by vs (Some (Done v)) = gathered vs v
values_by vs _ = vs

abbrev pub spent_after : Bool → List (Over ThreadPath) → Bool
spent_after over [] = over
spent_after over (o ∷ os) = spent_after (spent_by over o.path.how) os

abbrev pub values_after : List ℤ → List (Over ThreadPath) → List ℤ
values_after vs [] = vs
values_after vs (o ∷ os) = values_after (values_by vs o.path.how) os

-- the turns after the construct: the most of those begun
abbrev pub turns_by : ℕ → Told → ℕ → ℕ
turns_by m state.NotBegun n = m
turns_by m (state.Stopped x) n = max m n

abbrev pub turns_of : ℕ → List (Over ThreadPath) → ℕ
turns_of m [] = m
turns_of m (o ∷ os) = turns_of (turns_by m o.state o.path.turns) os

-- the answer of threads from number k on, after others whose turns ran out or not and that gave these values: what the
-- chosen one left by; or that turns ran out, or the values
abbrev pub AnswerFrom : ℕ → Bool → List ℤ → Option ℕ → List (Over ThreadPath) → Result Gave Stop → Type 0
AnswerFrom k over vs None os how = how ≡ cond (spent_after over os) (Err Spent) (Ok (gave.Numbers (values_after vs os)))
AnswerFrom k over vs (Some t) os how = (l : Leave) × LeftBy t k os l × (how ≡ Ok (gave.Left l))

-- the answer that the machine is given
abbrev pub AnswerOf : Option ℕ → List (Over ThreadPath) → Result Gave Stop → Type 0
AnswerOf c os how = AnswerFrom zero false [] c os how

module _ (run : Step → Option Final) (start : Dyn → Share → Path) (from : ℕ) (w : World) where
  abbrev pub first : Option ℕ → List Cell → Share → Step
  first n cs j = On (start (record { cells = cs; turns = from; left = n; world = inside w }) j)

  -- where the path s isn't stuck, it comes to what the machine's thread j comes to, whose world is as before
  abbrev pub AsThread : Share → Start ThreadPath → Type 0
  AsThread j s = (n : Option ℕ) (cs : List Cell) → Fine (runs s.path n (cs ++ map Mine s.own)).end →
      (e : Final) × (run (first n cs j) ≡ Some e) × (runs s.path n (cs ++ map Mine s.own) ≡ outcome_of s.path (Some e)) × (e.dyn.world ≡ inside w) × (n ≡ None → e.dyn.left ≡ None)

  abbrev pub AsThreads : ℕ → List Share → List (Start ThreadPath) → Type 0
  AsThreads k [] [] = Unit {0}
  AsThreads k [] (s ∷ ss) = ⊥
  AsThreads k (j ∷ js) [] = ⊥
  AsThreads k (j ∷ js) (s ∷ ss) = (j.number ≡ k) × AsThread j s × AsThreads (suc k) js ss
