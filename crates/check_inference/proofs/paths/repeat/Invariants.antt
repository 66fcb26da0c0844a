use Rattle.std.proofs.Common.{◌≡◌, ◌++◌, replicate}
use Rattle.check_inference.proofs.paths.repeat.Given as goal

abbrev pub invariant-loop-dimension : goal.invariant-loop-dimension
invariant-loop-dimension l = l.found ≡ l.fn.found ++ replicate l._dimension l.selector
