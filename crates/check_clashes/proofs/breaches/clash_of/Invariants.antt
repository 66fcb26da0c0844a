use Rattle.std.proofs.Common.{◌≡◌, length, None}
use Rattle.check_clashes.specs.Breaches.{clash_of}
use Rattle.check_clashes.proofs.breaches.clash_of.Given as goal

abbrev pub invariant-loop-site : goal.invariant-loop-site
invariant-loop-site l = clash_of l.subs l.rest l.all ≡ clash_of l.subs l.sites None

abbrev pub decreases-loop-site : goal.decreases-loop-site
decreases-loop-site l = length l.rest
