use Rattle.std.proofs.Common.{◌+◌, ◌-◌, ◌*◌}
use Rattle.ada_workers.proofs.dealing.+dealt.Given as goal

abbrev pub decreases-run_dealt : goal.decreases-run_dealt
decreases-run_dealt g l = 4 * (l.deal.to - l.deal.from)

abbrev pub decreases-run_both : goal.decreases-run_both
decreases-run_both g l = 4 * (l.low.to - l.low.from + (l.high.to - l.high.from)) - 1

abbrev pub decreases-run_both-one : goal.decreases-run_both-one
decreases-run_both-one g l = 4 * (l.low.to - l.low.from) + 1

abbrev pub decreases-run_both-other : goal.decreases-run_both-other
decreases-run_both-other g l = 4 * (l.high.to - l.high.from) + 1
