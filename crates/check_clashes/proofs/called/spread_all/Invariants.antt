use Rattle.std.proofs.Common.{◌≡◌, length}
use Rattle.check_clashes.specs.Called.{spread_all}
use Rattle.check_clashes.proofs.called.spread_all.Given as goal

abbrev pub invariant-loop-count : goal.invariant-loop-count
invariant-loop-count l = (spread_all l.subs l.count l.tokens ≡ spread_all l.subs (length l.subs) l.fn.tokens)

abbrev pub decreases-loop-count : goal.decreases-loop-count
decreases-loop-count l = l.count
