use Rattle.ada_threads.proofs.Began.{machine_begun}
use Rattle.ada_threads.proofs.thread.MachineThread.machine.Goals as goal

pub returns-clause-begun : goal.returns-clause-begun
returns-clause-begun c = machine_begun c.self.inside c.self.invariant c.args.self.now c.self.view_is c.as_slice.result.now c.as_slice.ensures.value c.start.result c.start.ensures.entry c.start.ensures.begun
