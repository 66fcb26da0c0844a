use Rattle.std.proofs.Common.{◌<◌, arith, refl, ap, ◌∙◌}
use Rattle.stack_code.specs.declared.instr.Instr.TheVariants as instr
use Rattle.ada_machine.specs.States.{more}
use Rattle.ada_machine.proofs.Doings as doings
use Rattle.ada_machine.proofs.Doings.{fine_at, sub_there}
use Rattle.ada_machine.proofs.Heeding.{unheard}
use Rattle.ada_machine.proofs.effecting.call.Goals as goal

pub returns-then-asked-clause-steps : goal.returns-then-asked-clause-steps
returns-then-asked-clause-steps g c =
    let s = sub_there c.args.code.now c.args.m.now (g.C.Cells.cells c.args.view.now) c.requires.ready c.requires.calm c.args.number c.requires.at in
    doings.call_paused c.args.limit c.args.code.now c.args.m.now (g.C.Cells.cells c.args.view.now) c.requires.calm c.args.number s.0 c.requires.at s.1 c.requires.ready c.requires.within

pub returns-then-m-limit-clause-steps : goal.returns-then-m-limit-clause-steps
returns-then-m-limit-clause-steps g c =
    let s = sub_there c.args.code.now c.args.m.now (g.C.Cells.cells c.args.view.now) c.requires.ready c.requires.calm c.args.number c.requires.at in
    doings.call_stops c.args.limit c.args.code.now c.args.m.now (g.C.Cells.cells c.args.view.now) c.requires.calm c.args.number s.0 c.requires.at s.1 c.requires.ready c.requires.within _ (omega arith)

pub sub_of-callee-requires : goal.sub_of-callee-requires
sub_of-callee-requires g c = let f = fine_at c.args.code.now c.args.m.now (g.C.Cells.cells c.args.view.now) (instr.Call c.args.number) c.requires.ready c.requires.calm c.requires.at in f.here.fits.belongs.1

pub overflow_sub-height : goal.overflow_sub-height
overflow_sub-height g c = let t = doings.call_takes c.args.limit c.args.code.now c.args.m.now (g.C.Cells.cells c.args.view.now) c.requires.calm c.args.number c.sub_of-callee.result c.requires.at c.sub_of-callee.ensures c.requires.ready c.requires.within in omega (arith, t)

pub enter-requires-clause-takes : goal.enter-requires-clause-takes
enter-requires-clause-takes g c = let t = doings.call_takes c.args.limit c.args.code.now c.args.m.now (g.C.Cells.cells c.args.view.now) c.requires.calm c.args.number c.sub_of-callee.result c.requires.at c.sub_of-callee.ensures c.requires.ready c.requires.within in omega (arith, t)

pub returns-in-Ok-clause-steps : goal.returns-in-Ok-clause-steps
returns-in-Ok-clause-steps g c =
    let less : c.args.m.now.turns < c.args.limit = omega (arith, c.requires.within) in
    doings.call_goes c.args.limit c.args.code.now c.args.m.now (g.C.Cells.cells c.args.view.now) c.requires.calm c.args.number c.sub_of-callee.result c.requires.at c.sub_of-callee.ensures c.requires.ready c.requires.within _ (g.C.Cells.cells c.enter.new.view) less (omega arith) c.in-Ok.ensures.ok c.in-Ok.ensures.fits c.in-Ok.ensures.near c.enter.ensures.room

pub returns-in-Err-clause-steps : goal.returns-in-Err-clause-steps
returns-in-Err-clause-steps g c = doings.still c.args.limit c.args.code.now c.args.m.now c.enter.new.m (g.C.Cells.cells c.args.view.now) (g.C.Cells.cells c.enter.new.view) c.requires.ready c.requires.within c.requires.calm (instr.Call c.args.number) c.requires.at (omega arith) c.in-Err.ensures.err c.enter.ensures.room

pub returns-then-m-ge-MOST_CALLS-clause-steps : goal.returns-then-m-ge-MOST_CALLS-clause-steps
returns-then-m-ge-MOST_CALLS-clause-steps g c =
    let t = doings.call_takes c.args.limit c.args.code.now c.args.m.now (g.C.Cells.cells c.args.view.now) c.requires.calm c.args.number c.sub_of-callee.result c.requires.at c.sub_of-callee.ensures c.requires.ready c.requires.within in
    let less : c.args.m.now.turns < c.args.limit = omega (arith, c.requires.within) in
    doings.call_raises c.args.limit c.args.code.now c.args.m.now (g.C.Cells.cells c.args.view.now) c.requires.calm c.args.number c.sub_of-callee.result c.requires.at c.sub_of-callee.ensures c.requires.ready c.requires.within c.fail.new.m (g.C.Cells.cells c.args.view.now) _ less (omega arith) (omega (arith, t)) (c.fail.ensures.state (g.C.Cells.cells c.args.view.now)) c.fail.ensures.same.0

pub returns-then-asked-clause-heeds : goal.returns-then-asked-clause-heeds
returns-then-asked-clause-heeds g c = tt

pub returns-then-m-limit-clause-heeds : goal.returns-then-m-limit-clause-heeds
returns-then-m-limit-clause-heeds g c = unheard _ _ _ _ c.asked.result c.if-asked.false c.asked.ensures.heard

pub returns-then-m-ge-MOST_CALLS-clause-heeds : goal.returns-then-m-ge-MOST_CALLS-clause-heeds
returns-then-m-ge-MOST_CALLS-clause-heeds g c = unheard _ _ _ _ c.asked.result c.if-asked.false c.asked.ensures.heard

pub returns-in-Ok-clause-heeds : goal.returns-in-Ok-clause-heeds
returns-in-Ok-clause-heeds g c = unheard _ _ _ _ c.asked.result c.if-asked.false c.asked.ensures.heard

pub returns-in-Err-clause-heeds : goal.returns-in-Err-clause-heeds
returns-in-Err-clause-heeds g c = unheard _ _ _ _ c.asked.result c.if-asked.false c.asked.ensures.heard

pub returns-then-asked-clause-paused : goal.returns-then-asked-clause-paused
returns-then-asked-clause-paused g c = λ e. c.asked.ensures.told c.if-asked.true

pub returns-then-asked-clause-halts : goal.returns-then-asked-clause-halts
returns-then-asked-clause-halts g c = (c.asked.ensures.kept, c.asked.ensures.stays)

pub returns-then-asked-clause-stays : goal.returns-then-asked-clause-stays
returns-then-asked-clause-stays g c = (refl, λ w. w, refl)

pub returns-then-m-limit-clause-paused : goal.returns-then-m-limit-clause-paused
returns-then-m-limit-clause-paused g c = λ e. cc

pub returns-then-m-limit-clause-halts : goal.returns-then-m-limit-clause-halts
returns-then-m-limit-clause-halts g c = (c.asked.ensures.kept, c.asked.ensures.stays)

pub returns-then-m-limit-clause-stays : goal.returns-then-m-limit-clause-stays
returns-then-m-limit-clause-stays g c = (refl, λ w. w, refl)

pub returns-then-m-ge-MOST_CALLS-clause-paused : goal.returns-then-m-ge-MOST_CALLS-clause-paused
returns-then-m-ge-MOST_CALLS-clause-paused g c = λ e. cc

pub returns-then-m-ge-MOST_CALLS-clause-halts : goal.returns-then-m-ge-MOST_CALLS-clause-halts
returns-then-m-ge-MOST_CALLS-clause-halts g c = (c.asked.ensures.kept, c.asked.ensures.stays)

pub returns-then-m-ge-MOST_CALLS-clause-stays : goal.returns-then-m-ge-MOST_CALLS-clause-stays
returns-then-m-ge-MOST_CALLS-clause-stays g c = (refl, λ w. w, refl)

pub returns-in-Ok-clause-paused : goal.returns-in-Ok-clause-paused
returns-in-Ok-clause-paused g c = λ e. cc

pub returns-in-Ok-clause-halts : goal.returns-in-Ok-clause-halts
returns-in-Ok-clause-halts g c = (c.asked.ensures.kept, c.asked.ensures.stays)

pub returns-in-Ok-clause-stays : goal.returns-in-Ok-clause-stays
returns-in-Ok-clause-stays g c = c.enter.ensures.stays

pub returns-in-Err-clause-paused : goal.returns-in-Err-clause-paused
returns-in-Err-clause-paused g c = λ e. cc

pub returns-in-Err-clause-halts : goal.returns-in-Err-clause-halts
returns-in-Err-clause-halts g c = (c.asked.ensures.kept, c.asked.ensures.stays)

pub returns-in-Err-clause-stays : goal.returns-in-Err-clause-stays
returns-in-Err-clause-stays g c = c.enter.ensures.stays

pub returns-then-asked-clause-looks : goal.returns-then-asked-clause-looks
returns-then-asked-clause-looks g c = refl

pub returns-then-m-limit-clause-looks : goal.returns-then-m-limit-clause-looks
returns-then-m-limit-clause-looks g c = c.saturating_add-m.ensures

pub returns-then-m-ge-MOST_CALLS-clause-looks : goal.returns-then-m-ge-MOST_CALLS-clause-looks
returns-then-m-ge-MOST_CALLS-clause-looks g c = c.fail.ensures.looks ∙ c.saturating_add-m-then-m-ge-MOST_CALLS.ensures

pub returns-in-Ok-clause-looks : goal.returns-in-Ok-clause-looks
returns-in-Ok-clause-looks g c = c.saturating_add-m-in-Ok.ensures ∙ ap (λ n. more n 1) c.enter.ensures.looks

pub returns-in-Err-clause-looks : goal.returns-in-Err-clause-looks
returns-in-Err-clause-looks g c = c.enter.ensures.looks
