use Rattle.std.proofs.Common.{refl}
use Rattle.ada_machine.specs.States.{state_of}
use Rattle.ada_machine.proofs.Callers.{frames_last, tops_last, unwound_by}
use Rattle.ada_machine.proofs.calls.unwind_to.Goals as goal

pub leave_frame-requires-clause-own : goal.leave_frame-requires-clause-own
leave_frame-requires-clause-own g c =
    (tops_last (g.C.Cells.floor c.args.view.now) (state_of c.args.m.now (g.C.Cells.cells c.args.view.now)) c.take_last-caller.result c.take_last-caller.new.self.items c.args.m.now.waiting.items (frames_last c.args.m.now.waiting.items c.take_last-caller.new.self.items c.take_last-caller.result c.take_last-caller.ensures.items) refl c.requires.tops).0

pub leave_frame-requires-clause-there : goal.leave_frame-requires-clause-there
leave_frame-requires-clause-there g c =
    (tops_last (g.C.Cells.floor c.args.view.now) (state_of c.args.m.now (g.C.Cells.cells c.args.view.now)) c.take_last-caller.result c.take_last-caller.new.self.items c.args.m.now.waiting.items (frames_last c.args.m.now.waiting.items c.take_last-caller.new.self.items c.take_last-caller.result c.take_last-caller.ensures.items) refl c.requires.tops).1

pub returns-clause-state : goal.returns-clause-state
returns-clause-state g c = λ r.
    unwound_by (state_of c.args.m.now (g.C.Cells.cells c.args.view.now)) (state_of c.leave_frame.new.m (g.C.Cells.cells c.leave_frame.new.view)) c.take_last-caller.result c.take_last-caller.new.self.items c.args.m.now.waiting.items r
    (frames_last c.args.m.now.waiting.items c.take_last-caller.new.self.items c.take_last-caller.result c.take_last-caller.ensures.items) c.leave_frame.ensures.state
