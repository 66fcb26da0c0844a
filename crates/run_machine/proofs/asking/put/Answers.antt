use Rattle.std.specs.Prelude.{slice_get}
use Rattle.run_machine.proofs.Answered.{sent}
use Rattle.run_machine.proofs.asking.put.Goals as goal

pub resume_after-requires-clause-answer : goal.resume_after-requires-clause-answer
resume_after-requires-clause-answer g c = sent c.args.team.now.code.now (slice_get c.args.team.now.code.now.instrs c.args.machine.now.pc) c.requires.sends
