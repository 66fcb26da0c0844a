-- A construct at which a path stands, whose threads workers run.
use Rattle.std.specs.Prelude.{◌≡◌, ℕ, ◌≤◌, List, length, Some, Result}
use Rattle.ada_base.specs.Cells.{Cell}
use Rattle.ada_base.specs.Cuts.{Plan, cuts_of}
use Rattle.ada_base.specs.Notes.{Schedule}
use Rattle.ada_workers.specs.Orders.{Start}
use Rattle.behaviours.specs.Joins.{Share, deal}
use Rattle.stack_code.specs.declared.code.Code.{Code}
use Rattle.stack_code.specs.declared.code.CodeSite.{CodeSite}
use Rattle.stack_code.specs.declared.path.Asked.{Asked}
use Rattle.stack_code.specs.declared.path.Gave.{Gave}
use Rattle.stack_code.specs.Machine.{State, Stop}
use Rattle.ada_lower.specs.Driven.{Path, Step, Forked, sizes_for, answer_of, with_answer, fork, fork_ended, goes}
use Rattle.machine_paths.specs.Threads.{ThreadPath, enough}
use Rattle.machine_paths.specs.Starting.{thread_starts}

abbrev pub shares_of : Plan → CodeSite → Asked → List Share
shares_of plan site q = deal 0 0 (sizes_for (cuts_of plan) site.kind q)

-- its threads, as they begin
abbrev pub starts_at : ℕ → Code → Plan → CodeSite → Asked → State → List (Start ThreadPath)
starts_at limit c plan site q s = thread_starts limit c plan site q s (length s.cells) s.turns (shares_of plan site q)

abbrev pub with_schedule : Schedule → Path → Path
with_schedule notes p = record p { world = record p.world { notes = notes } }

-- the threads of a fork come to that, with so many steps and more
abbrev pub ForksTo : ℕ → Code → Asked → Path → Forked → Type 0
ForksTo limit c q p r = (m : ℕ) → enough limit c ≤ m → fork c (goes limit c m) q p ≡ Some r

-- the threads came to these cells, that count of turns, and that answer
abbrev pub came_to : Code → CodeSite → Asked → Path → List Cell → ℕ → Result Gave Stop → Forked
came_to c site q p ds turns how = record { dyn = record { cells = ds; turns = turns; left = p.state.left; world = p.world }; how = with_answer c (answer_of c site.kind q) how }

-- the path goes on, when the threads came to these cells, that count of turns, and that answer
abbrev pub answered_by : Code → CodeSite → Asked → Path → List Cell → ℕ → Result Gave Stop → Step
answered_by c site q p ds turns how = fork_ended c (came_to c site q p ds turns how) p
