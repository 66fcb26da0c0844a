use Rattle.std.proofs.Common.{◌≡◌, take}
use Rattle.ada_meaning.specs.Values.{without_zeros}
use Rattle.ada_threads.proofs.cutting.filled.Given as goal

abbrev pub invariant-loop-size : goal.invariant-loop-size
invariant-loop-size l = l.kept ≡ without_zeros (take l.size-index l.sizes)
