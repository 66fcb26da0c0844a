use Rattle.ada_workers.proofs.Sharing.{DoneTo}
use Rattle.ada_workers.proofs.dealing.work.Given as goal

abbrev pub invariant-loop-k : goal.invariant-loop-k
invariant-loop-k g l = DoneTo g.T.Duty.ran l.k l.fn.tasks l.tasks
