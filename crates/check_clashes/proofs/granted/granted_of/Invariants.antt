use Rattle.std.proofs.Common.{◌≡◌, [], length}
use Rattle.check_clashes.specs.Granted.{granted_of}
use Rattle.check_clashes.proofs.granted.granted_of.Given as goal

abbrev pub invariant-loop-site : goal.invariant-loop-site
invariant-loop-site l = granted_of l.subs l.rest l.found ≡ granted_of l.subs l.sites []

abbrev pub decreases-loop-site : goal.decreases-loop-site
decreases-loop-site l = length l.rest
