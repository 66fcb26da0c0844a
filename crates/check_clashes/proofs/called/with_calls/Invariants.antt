use Rattle.std.proofs.Common.{◌≡◌, length}
use Rattle.check_clashes.specs.Called.{with_calls}
use Rattle.check_clashes.proofs.called.with_calls.Given as goal

abbrev pub invariant-loop-call : goal.invariant-loop-call
invariant-loop-call l = with_calls l.arm l.rest l.tokens ≡ with_calls l.arm l.calls l.fn.tokens

abbrev pub decreases-loop-call : goal.decreases-loop-call
decreases-loop-call l = length l.rest
