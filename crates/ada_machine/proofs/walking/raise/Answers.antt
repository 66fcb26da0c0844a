use Rattle.std.proofs.Common.{Some, refl, sym, ap, ◌∙◌, arith}
use Rattle.stack_code.specs.Looks.{raise_looks}
use Rattle.stack_code.specs.Machine.{State, stepped, raised}
use Rattle.ada_machine.specs.declared.machine.Stop.TheVariants as stop
use Rattle.ada_machine.specs.States.{state_of, more}
use Rattle.ada_machine.proofs.Steps.{steps_stopped}
use Rattle.ada_machine.proofs.Walks.{raises_same, handled_on, handled_depth, handled_room, handled_nest, raising_floor, unwound_ready}
use Rattle.leave_board.proofs.Heeding.{heeds_same}
use Rattle.ada_machine.proofs.Heeding.{unheard}
use Rattle.ada_machine.proofs.walking.raise.Goals as goal

pub handle-requires-clause-depth : goal.handle-requires-clause-depth
handle-requires-clause-depth g c = let d = handled_depth c.args.limit c.args.code.now c.args.m.now c.args.m.now (g.C.Cells.cells c.args.view.now) (g.C.Cells.cells c.args.view.now) c.requires.ready c.args.reason c.in-Some.entry c.requires.raising (sym c.holder.ensures ∙ c.in-Some.is) in omega (arith, d)

pub handle-requires-clause-room : goal.handle-requires-clause-room
handle-requires-clause-room g c = handled_room c.args.limit c.args.code.now c.args.m.now c.args.m.now (g.C.Cells.cells c.args.view.now) (g.C.Cells.cells c.args.view.now) c.requires.ready c.args.reason c.in-Some.entry c.requires.raising (sym c.holder.ensures ∙ c.in-Some.is)

pub handle-requires-clause-nest : goal.handle-requires-clause-nest
handle-requires-clause-nest g c = handled_nest c.args.limit c.args.code.now c.args.m.now c.args.m.now (g.C.Cells.cells c.args.view.now) (g.C.Cells.cells c.args.view.now) c.requires.ready c.args.reason c.in-Some.entry c.requires.raising (sym c.holder.ensures ∙ c.in-Some.is)

pub unwind_to-requires-clause-floor : goal.unwind_to-requires-clause-floor
unwind_to-requires-clause-floor g c = let d = raising_floor c.args.limit c.args.code.now c.args.m.now c.args.m.now (g.C.Cells.cells c.args.view.now) (g.C.Cells.cells c.args.view.now) c.requires.ready c.args.reason c.requires.raising in omega (arith, d)

pub returns-else-asked-clause-steps : goal.returns-else-asked-clause-steps
returns-else-asked-clause-steps g c =
    raises_same c.args.limit c.args.code.now c.args.m.now c.handle.new.m (g.C.Cells.cells c.args.view.now) (g.C.Cells.cells c.args.view.now) c.requires.ready _ c.requires.within
    (handled_on c.args.limit c.args.code.now c.args.m.now c.handle.new.m (g.C.Cells.cells c.args.view.now) (g.C.Cells.cells c.args.view.now) c.requires.ready c.args.reason c.in-Some.entry c.requires.raising (sym c.holder.ensures ∙ c.in-Some.is))
    (c.handle.ensures.state (g.C.Cells.cells c.args.view.now)) c.handle.ensures.same.0 refl refl refl

pub returns-else-is_empty-clause-steps : goal.returns-else-is_empty-clause-steps
returns-else-is_empty-clause-steps g c =
    unwound_ready c.args.limit c.args.code.now c.args.m.now c.unwind_to.new.m (g.C.Cells.cells c.args.view.now) (g.C.Cells.cells c.unwind_to.new.view) c.requires.ready c.args.reason c.requires.within c.requires.raising (sym c.holder.ensures ∙ c.in-None.is) c.unwind_to.ensures.room (c.unwind_to.ensures.state c.args.reason)

pub returns-else-asked-clause-looks : goal.returns-else-asked-clause-looks
returns-else-asked-clause-looks g c = c.handle.ensures.looks ∙ c.saturating_add-m.ensures ∙ ap (λ o. more c.args.m.now.looks (raise_looks o)) (sym (sym c.holder.ensures ∙ c.in-Some.is))

pub returns-then-is_empty-clause-looks : goal.returns-then-is_empty-clause-looks
returns-then-is_empty-clause-looks g c = ap (λ o. more c.args.m.now.looks (raise_looks o)) (sym (sym c.holder.ensures ∙ c.in-None.is))

pub returns-else-is_empty-clause-looks : goal.returns-else-is_empty-clause-looks
returns-else-is_empty-clause-looks g c = c.unwind_to.ensures.looks ∙ ap (λ o. more c.args.m.now.looks (raise_looks o)) (sym (sym c.holder.ensures ∙ c.in-None.is))

pub returns-then-asked-clause-heeds : goal.returns-then-asked-clause-heeds
returns-then-asked-clause-heeds g c = tt

pub returns-else-asked-clause-heeds : goal.returns-else-asked-clause-heeds
returns-else-asked-clause-heeds g c = unheard _ _ _ _ c.asked.result c.if-asked.false c.asked.ensures.heard

pub returns-then-is_empty-clause-heeds : goal.returns-then-is_empty-clause-heeds
returns-then-is_empty-clause-heeds g c = λ t. (t, refl)

pub returns-else-is_empty-clause-heeds : goal.returns-else-is_empty-clause-heeds
returns-else-is_empty-clause-heeds g c = heeds_same _ _ _ c.unwind_to.ensures.looks

pub returns-then-asked-clause-steps : goal.returns-then-asked-clause-steps
returns-then-asked-clause-steps g c =
    let m = c.args.m.now in
    let cells = g.C.Cells.cells c.args.view.now in
    let s : State = record (state_of m cells) { left = Some 0 } in
    steps_stopped c.args.limit c.args.code.now m cells c.requires.ready c.requires.within m cells stop.Paused
    (refl, ap (λ o. stepped c.args.limit c.args.code.now o s) c.requires.raising ∙ ap (λ x. raised c.args.reason x s) (sym c.holder.ensures ∙ c.in-Some.is)) c.requires.ready c.requires.within

pub handle-requires-clause-nested : goal.handle-requires-clause-nested
handle-requires-clause-nested g c = c.requires.ready.stands.within

pub unwind_to-requires-clause-within : goal.unwind_to-requires-clause-within
unwind_to-requires-clause-within g c = c.requires.ready.stands.within

pub unwind_to-requires-clause-tops : goal.unwind_to-requires-clause-tops
unwind_to-requires-clause-tops g c = c.requires.tops

pub unwind_to-requires-clause-whole : goal.unwind_to-requires-clause-whole
unwind_to-requires-clause-whole g c = c.requires.whole

pub returns-then-asked-clause-looks : goal.returns-then-asked-clause-looks
returns-then-asked-clause-looks g c = refl

pub returns-then-asked-clause-paused : goal.returns-then-asked-clause-paused
returns-then-asked-clause-paused g c = λ e. c.asked.ensures.told c.if-asked.true

pub returns-then-asked-clause-halts : goal.returns-then-asked-clause-halts
returns-then-asked-clause-halts g c = (c.asked.ensures.kept, c.asked.ensures.stays)

pub returns-then-asked-clause-stays : goal.returns-then-asked-clause-stays
returns-then-asked-clause-stays g c = (refl, λ w. w, refl)

pub returns-else-asked-clause-paused : goal.returns-else-asked-clause-paused
returns-else-asked-clause-paused g c = λ e. cc

pub returns-else-asked-clause-halts : goal.returns-else-asked-clause-halts
returns-else-asked-clause-halts g c = (c.asked.ensures.kept, c.asked.ensures.stays)

pub returns-else-asked-clause-stays : goal.returns-else-asked-clause-stays
returns-else-asked-clause-stays g c = (refl, λ w. w, refl)

pub returns-then-is_empty-clause-paused : goal.returns-then-is_empty-clause-paused
returns-then-is_empty-clause-paused g c = λ e. cc

pub returns-then-is_empty-clause-halts : goal.returns-then-is_empty-clause-halts
returns-then-is_empty-clause-halts g c = (refl, λ t. t)

pub returns-then-is_empty-clause-stays : goal.returns-then-is_empty-clause-stays
returns-then-is_empty-clause-stays g c = (refl, λ w. w, refl)

pub returns-else-is_empty-clause-paused : goal.returns-else-is_empty-clause-paused
returns-else-is_empty-clause-paused g c = λ e. cc

pub returns-else-is_empty-clause-halts : goal.returns-else-is_empty-clause-halts
returns-else-is_empty-clause-halts g c = (refl, λ t. t)

pub returns-else-is_empty-clause-stays : goal.returns-else-is_empty-clause-stays
returns-else-is_empty-clause-stays g c = c.unwind_to.ensures.stays
