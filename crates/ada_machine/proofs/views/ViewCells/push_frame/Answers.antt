use Rattle.ada_machine.proofs.Viewing.{push_stays}
use Rattle.ada_machine.proofs.views.ViewCells.push_frame.Goals as goal

pub returns-clause-stays : goal.returns-clause-stays
returns-clause-stays c =
    let r = c.reserve.ensures.rest in
    (push_stays c.args.self.now c.reserve.new.self c.push_frame.new.self c.args.count c.len-many.ensures.own c.requires r.0 r.1 r.2 c.push_frame.ensures).1
