use Rattle.std.proofs.Common.{length, refl, ap, ◌∙◌, arith}
use Rattle.std.proofs.lemmas.List.{length-reverse}
use Rattle.ada_machine.specs.States.{state_of, begins}
use Rattle.ada_machine.proofs.Callers.{no_ok, on_err, begins_entered, room_still}
use Rattle.ada_machine.proofs.calls.enter.Goals as goal

pub returns-in_err-top-clause-err : goal.returns-in_err-top-clause-err
returns-in_err-top-clause-err g c =
    on_err c.from_residual-in_err-top.result _ (ap (λ cells. state_of c.make_room.new.m cells) c.in_err-top.ensures.err ∙ c.make_room.ensures.state (g.C.Cells.cells c.args.view.now))

pub begin_body-requires-clause-aside : goal.begin_body-requires-clause-aside
begin_body-requires-clause-aside g c = room_still c.in_ok-aside.aside c.args.m.now c.make_room.new.m c.make_room.ensures.same.4 c.make_room.ensures.same.5 c.in_ok-aside.ensures

pub returns-clause-ok : goal.returns-clause-ok
returns-clause-ok g c =
    let cells = g.C.Cells.cells c.args.view.now in
    let cells' = g.C.Cells.cells c.make_room.new.view in
    let ok = c.in_ok-top.ensures.ok in
    let m = c.args.m.now in
    c.begin_body.ensures.state cells' ∙ ap (begins c.args.callee _) (c.make_room.ensures.state cells')
    ∙ begins_entered c.args.callee _ c.args.to (state_of m cells) cells' refl (omega (arith, length-reverse m.stack.items, ap length c.make_room.ensures.same.3)) c.len-base.ensures.len ok.0 ok.1

pub returns-in_err-top-clause-room : goal.returns-in_err-top-clause-room
returns-in_err-top-clause-room g c = c.make_room.ensures.room

pub returns-in_err-top-clause-stays : goal.returns-in_err-top-clause-stays
returns-in_err-top-clause-stays g c = c.make_room.ensures.stays

pub returns-in_err-top-clause-looks : goal.returns-in_err-top-clause-looks
returns-in_err-top-clause-looks g c = c.make_room.ensures.looks

pub returns-in_err-aside-clause-err : goal.returns-in_err-aside-clause-err
returns-in_err-aside-clause-err g c = on_err c.from_residual.result _ refl

pub begin_body-requires-clause-turns : goal.begin_body-requires-clause-turns
begin_body-requires-clause-turns g c = omega (arith, c.make_room.ensures.same.0, c.requires.turns)

pub begin_body-requires-clause-calls : goal.begin_body-requires-clause-calls
begin_body-requires-clause-calls g c = omega (arith, c.make_room.ensures.same.1, c.requires.calls)

pub begin_body-requires-clause-room : goal.begin_body-requires-clause-room
begin_body-requires-clause-room g c = c.in_ok-top.ensures.ok.3

pub returns-clause-room : goal.returns-clause-room
returns-clause-room g c = omega (arith, c.begin_body.ensures.room, c.make_room.ensures.room)

pub returns-clause-stays : goal.returns-clause-stays
returns-clause-stays g c = c.make_room.ensures.stays

pub returns-clause-looks : goal.returns-clause-looks
returns-clause-looks g c = c.begin_body.ensures.looks ∙ c.make_room.ensures.looks

pub returns-in_err-top-clause-same : goal.returns-in_err-top-clause-same
returns-in_err-top-clause-same g c = on_err c.from_residual-in_err-top.result _ (c.make_room.ensures.same.3, c.make_room.ensures.same.4)

pub returns-in_err-aside-clause-same : goal.returns-in_err-aside-clause-same
returns-in_err-aside-clause-same g c = on_err c.from_residual.result _ (refl, refl)

pub returns-in_err-aside-clause-ok : goal.returns-in_err-aside-clause-ok
returns-in_err-aside-clause-ok g c = no_ok c.from_residual.result _ c.from_residual.ensures.0

pub returns-in_err-aside-clause-fits : goal.returns-in_err-aside-clause-fits
returns-in_err-aside-clause-fits g c = no_ok c.from_residual.result _ c.from_residual.ensures.0

pub returns-in_err-aside-clause-near : goal.returns-in_err-aside-clause-near
returns-in_err-aside-clause-near g c = no_ok c.from_residual.result _ c.from_residual.ensures.0

pub returns-in_err-top-clause-ok : goal.returns-in_err-top-clause-ok
returns-in_err-top-clause-ok g c = no_ok c.from_residual-in_err-top.result _ c.from_residual-in_err-top.ensures.0

pub returns-in_err-top-clause-fits : goal.returns-in_err-top-clause-fits
returns-in_err-top-clause-fits g c = no_ok c.from_residual-in_err-top.result _ c.from_residual-in_err-top.ensures.0

pub returns-in_err-top-clause-near : goal.returns-in_err-top-clause-near
returns-in_err-top-clause-near g c = no_ok c.from_residual-in_err-top.result _ c.from_residual-in_err-top.ensures.0

pub overflow_sub-floor : goal.overflow_sub-floor
overflow_sub-floor g c = omega (arith, c.requires.takes, c.len.ensures, ap length c.make_room.ensures.same.3)

pub returns-clause-fits : goal.returns-clause-fits
returns-clause-fits g c = omega (arith, c.begin_body.ensures.floor, c.begin_body.ensures.room, c.len.ensures, c.in_ok-top.ensures.ok.2)

pub returns-clause-near : goal.returns-clause-near
returns-clause-near g c = omega (arith, c.begin_body.ensures.base, c.if-base-gt-FARTHEST.false)
