use Rattle.std.proofs.Common.{◌≡◌, length, None}
use Rattle.check_clashes.specs.Breaches.{touched_of}
use Rattle.check_clashes.proofs.breaches.touched_of.Given as goal

abbrev pub invariant-loop-site : goal.invariant-loop-site
invariant-loop-site l = touched_of l.subs l.rest l.all ≡ touched_of l.subs l.sites None

abbrev pub decreases-loop-site : goal.decreases-loop-site
decreases-loop-site l = length l.rest
