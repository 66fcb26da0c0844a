use Rattle.std.proofs.Common.{◌≡◌, drop}
use Rattle.ada_reduce.specs.Folds.{IsTaken, fold_of}
use Rattle.ada_reduce.proofs.folds.fold.Given as goal

abbrev pub invariant-loop-value : goal.invariant-loop-value
invariant-loop-value l = IsTaken l.op l.base l.so_far × (fold_of l.op l.base l.fn.start l.values ≡ fold_of l.op l.base l.so_far (drop l.value-index l.values))
