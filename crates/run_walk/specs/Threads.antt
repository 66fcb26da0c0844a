-- What code holds of a thread that isn't left.
use Rattle.std.specs.Prelude.{ℕ, max, ℤ, Some, None, cond}
use Rattle.ada_meaning.specs.Stored as stored
use Rattle.run_walk.specs.declared.constructs.Took.{Took}
use Rattle.run_walk.specs.declared.constructs.Task.{Task}
use Rattle.run_walk.specs.declared.constructs.Task.TheVariants as task
use Rattle.run_walk.specs.declared.folds.Folded.{Folded}

abbrev pub took_of : Took → stored.Took (Unit {0})
took_of t = record { value = cond t.spent None (Some tt); most = t.most }

abbrev pub folded_of : Folded → stored.Took ℤ
folded_of f = record { value = f.value; most = f.most }

-- the last node that a thread goes by
abbrev pub task_top : Task → ℕ
task_top (task.Loop k c it ss) = max it ss
task_top (task.Arms arms) = arms
