use Rattle.std.proofs.Common.{subst}
use Rattle.ada_threads.specs.Came.{OfBody, WayWell}
use Rattle.ada_threads.proofs.Began.{how_well}
use Rattle.ada_threads.proofs.thread.MachineThread.how.Goals as goal

pub returns-clause-well : goal.returns-clause-well
returns-clause-well c = λ w is. subst (λ p. OfBody p (λ b. WayWell b w)) c.self.view_is (how_well c.self.inside c.self.invariant w is)
