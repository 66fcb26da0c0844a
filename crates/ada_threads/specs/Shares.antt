-- Threads as code holds them.
use Rattle.behaviours.specs.Joins.{Share}
use Rattle.ada_threads.specs.declared.iterations.Iterations.{Iterations}

abbrev pub share_of : Iterations → Share
share_of p = record { number = p.number; first = p.first; size = p.size }
