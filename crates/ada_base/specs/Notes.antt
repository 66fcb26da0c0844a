-- How the threads of a run's constructs went, where more than one course is permitted (5.1, 5.5).
use Rattle.std.specs.Prelude.{ℕ, List, Option}

-- Notes of a run: how the threads of its outermost constructs went. A thread went to its own end, or wasn't begun, or was
-- cut after so many looks
pub data ThreadNote : Type 0 where
  Whole : ThreadNote
  NotBegun : ThreadNote
  CutAfter : (looks : ℕ) → ThreadNote

-- the thread by which a construct was left, if it was, and then a note of each thread
pub record ConstructNote : Type 0 where
  pub chosen : Option ℕ
  pub threads : List ThreadNote

-- how constructs are run: in order; or outermost ones by these notes, one each, and those inside threads in order
pub data Schedule : Type 0 where
  InOrder : Schedule
  ByNotes : List ConstructNote → Schedule
