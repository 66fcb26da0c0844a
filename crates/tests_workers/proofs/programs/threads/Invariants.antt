use Rattle.std.proofs.Common.{◌≡◌, length}
use Rattle.tests_workers.specs.OwnCells.{AllOnOwn}
use Rattle.tests_workers.proofs.programs.threads.Given as goal

abbrev pub invariant-loop-number : goal.invariant-loop-number
invariant-loop-number l = AllOnOwn l.fn.many 0 l.all.items × (length l.all.items ≡ l.number)
