-- A machine's thread keeps to its view.
use Rattle.ada_workers.specs.Paths.{Frames}
use Rattle.machine_paths.specs.Threads.{runs}
use Rattle.machine_paths.proofs.Framed.{machine_frames}

pub thread_frames : Frames runs
thread_frames = machine_frames
