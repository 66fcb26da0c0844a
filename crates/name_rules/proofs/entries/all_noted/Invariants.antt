use Rattle.std.proofs.Common.{◌≡◌, ◌-◌, ◌++◌, drop, length}
use Rattle.name_rules.specs.Indexed.{Indexed}
use Rattle.name_rules.proofs.entries.all_noted.Given as goal

abbrev pub invariant-more : goal.invariant-more
invariant-more l = (l.entries ++ drop l.i l.more ≡ l.fn.entries ++ l.more) × (Indexed l.fn.heads l.fn.entries → Indexed l.heads l.entries)

abbrev pub decreases-more : goal.decreases-more
decreases-more l = length l.more - l.i
