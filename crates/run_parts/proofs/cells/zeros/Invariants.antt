use Rattle.std.proofs.Common.{◌≡◌, ◌-◌, ◌++◌}
use Rattle.ada_meaning.specs.Values.{zeros}
use Rattle.run_parts.proofs.cells.zeros.Given as goal

-- what is there, and what is still to come
abbrev pub invariant-loop-k : goal.invariant-loop-k
invariant-loop-k l = l.values ++ zeros (l.count - l._k) ≡ zeros l.count
