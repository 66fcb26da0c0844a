use Rattle.std.proofs.Common.{◌<◌, refl, arith}
use Rattle.std.proofs.lemmas.Option.{slice_get_within}
use Rattle.stack_code.specs.declared.instr.Instr.TheVariants as instr
use Rattle.ada_machine.proofs.Doings as doings
use Rattle.ada_machine.proofs.Doings.{sub_at, window_by}
use Rattle.ada_machine.proofs.Heeding.{unheard}
use Rattle.ada_machine.proofs.effecting.call_at.Goals as goal

pub returns-then-asked-clause-steps : goal.returns-then-asked-clause-steps
returns-then-asked-clause-steps g c =
    let s = sub_at c.args.code.now c.args.m.now (g.C.Cells.cells c.args.view.now) c.requires.ready c.requires.calm c.args.window.sub c.args.window.cell c.requires.at in
    doings.window_paused c.args.limit c.args.code.now c.args.m.now (g.C.Cells.cells c.args.view.now) c.requires.calm _ _ _ _ _ _ _ (window_by c.args.code.now c.args.m.now c.args.window.sub c.args.window.cell s.0 c.requires.at s.1) c.requires.ready c.requires.within

pub returns-then-m-limit-clause-steps : goal.returns-then-m-limit-clause-steps
returns-then-m-limit-clause-steps g c =
    let s = sub_at c.args.code.now c.args.m.now (g.C.Cells.cells c.args.view.now) c.requires.ready c.requires.calm c.args.window.sub c.args.window.cell c.requires.at in
    doings.window_stops c.args.limit c.args.code.now c.args.m.now (g.C.Cells.cells c.args.view.now) c.requires.calm _ _ _ _ _ _ _ (window_by c.args.code.now c.args.m.now c.args.window.sub c.args.window.cell s.0 c.requires.at s.1) c.requires.ready c.requires.within _ (omega arith)

pub sub_of-callee-requires : goal.sub_of-callee-requires
sub_of-callee-requires g c =
    let s = sub_at c.args.code.now c.args.m.now (g.C.Cells.cells c.args.view.now) c.requires.ready c.requires.calm c.args.window.sub c.args.window.cell c.requires.at in
    slice_get_within c.args.code.now.subs c.args.window.sub s.0 s.1

pub enter_at-requires-clause-near : goal.enter_at-requires-clause-near
enter_at-requires-clause-near g c = c.requires.ready.roomy.near

pub returns-then-m-ge-MOST_CALLS-clause-steps : goal.returns-then-m-ge-MOST_CALLS-clause-steps
returns-then-m-ge-MOST_CALLS-clause-steps g c =
    let cells = g.C.Cells.cells c.args.view.now in
    let less : c.args.m.now.turns < c.args.limit = omega (arith, c.requires.within) in
    doings.window_raises c.args.limit c.args.code.now c.args.m.now cells c.requires.calm _ _ _ _ _ _ _ (window_by c.args.code.now c.args.m.now c.args.window.sub c.args.window.cell c.sub_of-callee.result c.requires.at c.sub_of-callee.ensures) c.requires.ready c.requires.within _ cells less (omega arith) refl refl

pub returns-in-Ok-clause-steps : goal.returns-in-Ok-clause-steps
returns-in-Ok-clause-steps g c =
    let less : c.args.m.now.turns < c.args.limit = omega (arith, c.requires.within) in
    doings.window_goes c.args.limit c.args.code.now c.args.m.now (g.C.Cells.cells c.args.view.now) c.requires.calm _ _ _ _ _ _ _ (window_by c.args.code.now c.args.m.now c.args.window.sub c.args.window.cell c.sub_of-callee.result c.requires.at c.sub_of-callee.ensures) c.requires.ready c.requires.within _ (g.C.Cells.cells c.enter_at.new.view) less (omega arith) refl c.in-Ok.ensures.ok c.in-Ok.ensures.fits c.in-Ok.ensures.near c.enter_at.ensures.room

pub returns-in-Err-clause-steps : goal.returns-in-Err-clause-steps
returns-in-Err-clause-steps g c = doings.still c.args.limit c.args.code.now c.args.m.now c.enter_at.new.m (g.C.Cells.cells c.args.view.now) (g.C.Cells.cells c.enter_at.new.view) c.requires.ready c.requires.within c.requires.calm (instr.CallAt c.args.window.sub c.args.window.cell) c.requires.at (omega arith) c.in-Err.ensures.err c.enter_at.ensures.room

pub returns-then-asked-clause-heeds : goal.returns-then-asked-clause-heeds
returns-then-asked-clause-heeds g c = tt

pub returns-then-m-limit-clause-heeds : goal.returns-then-m-limit-clause-heeds
returns-then-m-limit-clause-heeds g c = unheard _ _ _ _ c.asked.result c.if-asked.false c.asked.ensures.heard

pub returns-then-m-ge-MOST_CALLS-clause-heeds : goal.returns-then-m-ge-MOST_CALLS-clause-heeds
returns-then-m-ge-MOST_CALLS-clause-heeds g c = unheard _ _ _ _ c.asked.result c.if-asked.false c.asked.ensures.heard

pub returns-in-Ok-clause-heeds : goal.returns-in-Ok-clause-heeds
returns-in-Ok-clause-heeds g c = unheard _ _ _ _ c.asked.result c.if-asked.false c.asked.ensures.heard

pub returns-in-Err-clause-heeds : goal.returns-in-Err-clause-heeds
returns-in-Err-clause-heeds g c = unheard _ _ _ _ c.asked.result c.if-asked.false c.asked.ensures.heard

pub returns-then-asked-clause-paused : goal.returns-then-asked-clause-paused
returns-then-asked-clause-paused g c = λ e. c.asked.ensures.told c.if-asked.true

pub returns-then-asked-clause-halts : goal.returns-then-asked-clause-halts
returns-then-asked-clause-halts g c = (c.asked.ensures.kept, c.asked.ensures.stays)

pub returns-then-asked-clause-stays : goal.returns-then-asked-clause-stays
returns-then-asked-clause-stays g c = (refl, λ w. w, refl)

pub returns-then-m-limit-clause-paused : goal.returns-then-m-limit-clause-paused
returns-then-m-limit-clause-paused g c = λ e. cc

pub returns-then-m-limit-clause-halts : goal.returns-then-m-limit-clause-halts
returns-then-m-limit-clause-halts g c = (c.asked.ensures.kept, c.asked.ensures.stays)

pub returns-then-m-limit-clause-stays : goal.returns-then-m-limit-clause-stays
returns-then-m-limit-clause-stays g c = (refl, λ w. w, refl)

pub returns-then-m-ge-MOST_CALLS-clause-paused : goal.returns-then-m-ge-MOST_CALLS-clause-paused
returns-then-m-ge-MOST_CALLS-clause-paused g c = λ e. cc

pub returns-then-m-ge-MOST_CALLS-clause-halts : goal.returns-then-m-ge-MOST_CALLS-clause-halts
returns-then-m-ge-MOST_CALLS-clause-halts g c = (c.asked.ensures.kept, c.asked.ensures.stays)

pub returns-then-m-ge-MOST_CALLS-clause-stays : goal.returns-then-m-ge-MOST_CALLS-clause-stays
returns-then-m-ge-MOST_CALLS-clause-stays g c = (refl, λ w. w, refl)

pub returns-in-Ok-clause-paused : goal.returns-in-Ok-clause-paused
returns-in-Ok-clause-paused g c = λ e. cc

pub returns-in-Ok-clause-halts : goal.returns-in-Ok-clause-halts
returns-in-Ok-clause-halts g c = (c.asked.ensures.kept, c.asked.ensures.stays)

pub returns-in-Ok-clause-stays : goal.returns-in-Ok-clause-stays
returns-in-Ok-clause-stays g c = c.enter_at.ensures.stays

pub returns-in-Err-clause-paused : goal.returns-in-Err-clause-paused
returns-in-Err-clause-paused g c = λ e. cc

pub returns-in-Err-clause-halts : goal.returns-in-Err-clause-halts
returns-in-Err-clause-halts g c = (c.asked.ensures.kept, c.asked.ensures.stays)

pub returns-in-Err-clause-stays : goal.returns-in-Err-clause-stays
returns-in-Err-clause-stays g c = c.enter_at.ensures.stays
