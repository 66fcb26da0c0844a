use Rattle.std.proofs.Common.{◌≡◌, length}
use Rattle.check_clashes.specs.Called.{spread}
use Rattle.check_clashes.proofs.called.spread.Given as goal

abbrev pub invariant-loop-call : goal.invariant-loop-call
invariant-loop-call l = spread l.at l.rest l.tokens ≡ spread l.at l.calls l.fn.tokens

abbrev pub decreases-loop-call : goal.decreases-loop-call
decreases-loop-call l = length l.rest
