use Rattle.ada_port.specs.Ports.{IsTold}
use Rattle.run_machine.proofs.Answered.{unwritten, wrote}
use Rattle.run_machine.proofs.looping.answer.Goals as goal

pub returns-in-Ok : goal.returns-in-Ok
returns-in-Ok g c =
    record { answers = wrote ((s : _) → IsTold (g.I.Source.state s)) c.args.team.now.limit c.args.team.now.code.now c.args.machine.now c.put.new.machine c.args.ports.now c.put.new.ports c.args.io c.in-Write.piece c.in-Write.is c.as_slice.result.now c.as_slice.ensures c.in-Ok.ensures.put c.in-Ok.ensures.resumed }

pub returns-in-Write : goal.returns-in-Write
returns-in-Write g c =
    record { answers = unwritten ((s : _) → IsTold (g.I.Source.state s)) c.args.team.now.limit c.args.team.now.code.now c.args.machine.now c.put.new.machine c.args.ports.now c.put.new.ports c.args.io c.in-Write.piece c.in-Write.is c.as_slice.result.now c.as_slice.ensures c.in-Err.field-0 c.in-Err.ensures.put }
