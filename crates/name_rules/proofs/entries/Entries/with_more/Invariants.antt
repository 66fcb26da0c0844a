use Rattle.std.proofs.Common.{◌≡◌, ◌-◌, ◌++◌, drop, length}
use Rattle.name_rules.proofs.entries.Entries.with_more.Given as goal

abbrev pub invariant-more : goal.invariant-more
invariant-more l = l.self ++ drop l.i l.more ≡ l.fn.self ++ drop l.start l.more

abbrev pub decreases-more : goal.decreases-more
decreases-more l = length l.more - l.i
