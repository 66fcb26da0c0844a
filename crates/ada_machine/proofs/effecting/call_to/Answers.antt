use Rattle.std.proofs.Common.{◌≡◌, ◌<◌, ℤ, List, ◌∷◌, length, reverse, true, sym, ap, ◌∙◌, subst, arith, SFits, w64, refl}
use Rattle.std.proofs.lemmas.Int.{to_z-of_z}
use Rattle.std.proofs.lemmas.List.{length-reverse}
use Rattle.std.proofs.lemmas.Option.{slice_get_within}
use Rattle.stack_code.specs.declared.instr.Instr.TheVariants as instr
use Rattle.ada_machine.specs.States.{state_of, more, IsTrueOnTop}
use Rattle.stack_code.specs.Deeds.{truth}
use Rattle.stack_code.specs.Machine.{State}
use Rattle.ada_machine.proofs.Doings as doings
use Rattle.ada_machine.proofs.Doings.{fine_at, top, sub_to, return_by}
use Rattle.ada_machine.proofs.Heeding.{unheard}
use Rattle.ada_machine.proofs.effecting.call_to.Goals as goal

pub returns-then-asked-clause-steps : goal.returns-then-asked-clause-steps
returns-then-asked-clause-steps g c =
    let code = c.args.code.now in
    let m = c.args.m.now in
    let cells = g.C.Cells.cells c.args.view.now in
    let b = c.args.back in
    let s = sub_to code m cells c.requires.ready c.requires.calm b.sub b.cell b.to c.requires.at in
    let v = top m.stack.items (fine_at code m cells (instr.CallTo b.sub b.cell b.to) c.requires.ready c.requires.calm c.requires.at).operands in
    doings.window_paused c.args.limit code m cells c.requires.calm _ _ _ _ _ _ _ (return_by code m b.sub b.cell b.to s.0 v.0 v.1 c.requires.at s.1 v.2) c.requires.ready c.requires.within

pub returns-then-m-limit-clause-steps : goal.returns-then-m-limit-clause-steps
returns-then-m-limit-clause-steps g c =
    let code = c.args.code.now in
    let m = c.args.m.now in
    let cells = g.C.Cells.cells c.args.view.now in
    let b = c.args.back in
    let s = sub_to code m cells c.requires.ready c.requires.calm b.sub b.cell b.to c.requires.at in
    let v = top m.stack.items (fine_at code m cells (instr.CallTo b.sub b.cell b.to) c.requires.ready c.requires.calm c.requires.at).operands in
    doings.window_stops c.args.limit code m cells c.requires.calm _ _ _ _ _ _ _ (return_by code m b.sub b.cell b.to s.0 v.0 v.1 c.requires.at s.1 v.2) c.requires.ready c.requires.within _ (omega arith)

pub sub_of-callee-requires : goal.sub_of-callee-requires
sub_of-callee-requires g c =
    let b = c.args.back in
    let s = sub_to c.args.code.now c.args.m.now (g.C.Cells.cells c.args.view.now) c.requires.ready c.requires.calm b.sub b.cell b.to c.requires.at in
    slice_get_within c.args.code.now.subs b.sub s.0 s.1

pub take-fit-requires : goal.take-fit-requires
take-fit-requires g c =
    let b = c.args.back in
    let f = fine_at c.args.code.now c.args.m.now (g.C.Cells.cells c.args.view.now) (instr.CallTo b.sub b.cell b.to) c.requires.ready c.requires.calm c.requires.at in
    omega (arith, f.operands)

pub enter_at-requires-clause-near : goal.enter_at-requires-clause-near
enter_at-requires-clause-near g c = c.requires.ready.roomy.near

pub returns-then-m-ge-MOST_CALLS-clause-steps : goal.returns-then-m-ge-MOST_CALLS-clause-steps
returns-then-m-ge-MOST_CALLS-clause-steps g c =
    let code = c.args.code.now in
    let m = c.args.m.now in
    let cells = g.C.Cells.cells c.args.view.now in
    let b = c.args.back in
    let less : m.turns < c.args.limit = omega (arith, c.requires.within) in
    doings.window_raises c.args.limit code m cells c.requires.calm _ _ _ _ _ _ _ (return_by code m b.sub b.cell b.to c.sub_of-callee.result c.take-fit.result (reverse c.take-fit.new.stack.items) c.requires.at c.sub_of-callee.ensures c.take-fit.ensures.top) c.requires.ready c.requires.within _ cells less (omega arith) (c.raise_call.ensures.state cells) (c.raise_call.ensures.room ∙ c.take-fit.ensures.room)

pub returns-then-not-truth-clause-steps : goal.returns-then-not-truth-clause-steps
returns-then-not-truth-clause-steps g c =
    let in64 : SFits w64 c.take-fit.result = record { sfits = c.take-fit.type_inv } in
    let code = c.args.code.now in
    let m = c.args.m.now in
    let cells = g.C.Cells.cells c.args.view.now in
    let b = c.args.back in
    let less : m.turns < c.args.limit = omega (arith, c.requires.within) in
    doings.window_unfit c.args.limit code m cells c.requires.calm _ _ _ _ _ _ _ (return_by code m b.sub b.cell b.to c.sub_of-callee.result c.take-fit.result (reverse c.take-fit.new.stack.items) c.requires.at c.sub_of-callee.ensures c.take-fit.ensures.top) c.requires.ready c.requires.within _ cells less (omega arith) (ap truth (sym (to_z-of_z w64 c.take-fit.result in64)) ∙ sym c.truth.ensures ∙ c.if-not-truth.true) (c.raise_call-then-not-truth.ensures.state cells) (c.raise_call-then-not-truth.ensures.room ∙ c.take-fit.ensures.room)

pub returns-in-Ok-clause-steps : goal.returns-in-Ok-clause-steps
returns-in-Ok-clause-steps g c =
    let code = c.args.code.now in
    let m = c.args.m.now in
    let cells = g.C.Cells.cells c.args.view.now in
    let b = c.args.back in
    let less : m.turns < c.args.limit = omega (arith, c.requires.within) in
    let in64 : SFits w64 c.take-fit.result = record { sfits = c.take-fit.type_inv } in
    let fit : truth c.take-fit.result ≡ true = ap truth (sym (to_z-of_z w64 c.take-fit.result in64)) ∙ sym c.truth.ensures ∙ c.if-not-truth.false in
    doings.window_goes c.args.limit code m cells c.requires.calm _ _ _ _ _ _ _ (return_by code m b.sub b.cell b.to c.sub_of-callee.result c.take-fit.result (reverse c.take-fit.new.stack.items) c.requires.at c.sub_of-callee.ensures c.take-fit.ensures.top) c.requires.ready c.requires.within _ (g.C.Cells.cells c.enter_at.new.view) less (omega arith) fit c.in-Ok.ensures.ok c.in-Ok.ensures.fits c.in-Ok.ensures.near (omega (arith, c.enter_at.ensures.room, c.take-fit.ensures.room))

pub returns-in-Err-clause-steps : goal.returns-in-Err-clause-steps
returns-in-Err-clause-steps g c =
    let m = c.args.m.now in
    let cells = g.C.Cells.cells c.args.view.now in
    let b = c.args.back in
    let v : ℤ = c.take-fit.result in
    let in64 : SFits w64 v = record { sfits = c.take-fit.type_inv } in
    let fit : truth v ≡ true = ap truth (sym (to_z-of_z w64 v in64)) ∙ sym c.truth.ensures ∙ c.if-not-truth.false in
    let under : reverse c.enter_at.new.m.stack.items ≡ reverse c.take-fit.new.stack.items = ap (λ (s : State). s.stack) c.in-Err.ensures.err in
    let all : reverse c.put.new.stack.items ≡ reverse m.stack.items = c.put.ensures.top ∙ ap (λ z. z ∷ reverse c.enter_at.new.m.stack.items) (to_z-of_z w64 v in64) ∙ ap (λ xs. v ∷ xs) under ∙ sym c.take-fit.ensures.top in
    doings.still c.args.limit c.args.code.now m _ cells (g.C.Cells.cells c.enter_at.new.view) c.requires.ready c.requires.within c.requires.calm (instr.CallTo b.sub b.cell b.to) c.requires.at (subst IsTrueOnTop (sym c.take-fit.ensures.top) fit, (omega arith))
    (ap (λ (s : State). record s { stack = reverse c.put.new.stack.items }) c.in-Err.ensures.err ∙ ap (λ (xs : List ℤ). record (state_of m cells) { stack = xs }) all)
    (omega (arith, c.enter_at.ensures.room, c.put.ensures.room, c.take-fit.ensures.room))

pub returns-then-asked-clause-heeds : goal.returns-then-asked-clause-heeds
returns-then-asked-clause-heeds g c = tt

pub returns-then-m-limit-clause-heeds : goal.returns-then-m-limit-clause-heeds
returns-then-m-limit-clause-heeds g c = unheard _ _ _ _ c.asked.result c.if-asked.false c.asked.ensures.heard

pub returns-then-m-ge-MOST_CALLS-clause-heeds : goal.returns-then-m-ge-MOST_CALLS-clause-heeds
returns-then-m-ge-MOST_CALLS-clause-heeds g c = unheard _ _ _ _ c.asked.result c.if-asked.false c.asked.ensures.heard

pub returns-in-Ok-clause-heeds : goal.returns-in-Ok-clause-heeds
returns-in-Ok-clause-heeds g c = unheard _ _ _ _ c.asked.result c.if-asked.false c.asked.ensures.heard

pub returns-in-Err-clause-heeds : goal.returns-in-Err-clause-heeds
returns-in-Err-clause-heeds g c = unheard _ _ _ _ c.asked.result c.if-asked.false c.asked.ensures.heard

pub returns-then-not-truth-clause-heeds : goal.returns-then-not-truth-clause-heeds
returns-then-not-truth-clause-heeds g c = unheard _ _ _ _ c.asked.result c.if-asked.false c.asked.ensures.heard

pub returns-then-asked-clause-paused : goal.returns-then-asked-clause-paused
returns-then-asked-clause-paused g c = λ e. c.asked.ensures.told c.if-asked.true

pub returns-then-asked-clause-halts : goal.returns-then-asked-clause-halts
returns-then-asked-clause-halts g c = (c.asked.ensures.kept, c.asked.ensures.stays)

pub returns-then-asked-clause-stays : goal.returns-then-asked-clause-stays
returns-then-asked-clause-stays g c = (refl, λ w. w, refl)

pub returns-then-m-limit-clause-paused : goal.returns-then-m-limit-clause-paused
returns-then-m-limit-clause-paused g c = λ e. cc

pub returns-then-m-limit-clause-halts : goal.returns-then-m-limit-clause-halts
returns-then-m-limit-clause-halts g c = (c.asked.ensures.kept, c.asked.ensures.stays)

pub returns-then-m-limit-clause-stays : goal.returns-then-m-limit-clause-stays
returns-then-m-limit-clause-stays g c = (refl, λ w. w, refl)

pub returns-then-m-ge-MOST_CALLS-clause-paused : goal.returns-then-m-ge-MOST_CALLS-clause-paused
returns-then-m-ge-MOST_CALLS-clause-paused g c = λ e. cc

pub returns-then-m-ge-MOST_CALLS-clause-halts : goal.returns-then-m-ge-MOST_CALLS-clause-halts
returns-then-m-ge-MOST_CALLS-clause-halts g c = (c.asked.ensures.kept, c.asked.ensures.stays)

pub returns-then-m-ge-MOST_CALLS-clause-stays : goal.returns-then-m-ge-MOST_CALLS-clause-stays
returns-then-m-ge-MOST_CALLS-clause-stays g c = (refl, λ w. w, refl)

pub returns-then-not-truth-clause-paused : goal.returns-then-not-truth-clause-paused
returns-then-not-truth-clause-paused g c = λ e. cc

pub returns-then-not-truth-clause-halts : goal.returns-then-not-truth-clause-halts
returns-then-not-truth-clause-halts g c = (c.asked.ensures.kept, c.asked.ensures.stays)

pub returns-then-not-truth-clause-stays : goal.returns-then-not-truth-clause-stays
returns-then-not-truth-clause-stays g c = (refl, λ w. w, refl)

pub returns-in-Ok-clause-paused : goal.returns-in-Ok-clause-paused
returns-in-Ok-clause-paused g c = λ e. cc

pub returns-in-Ok-clause-halts : goal.returns-in-Ok-clause-halts
returns-in-Ok-clause-halts g c = (c.asked.ensures.kept, c.asked.ensures.stays)

pub returns-in-Ok-clause-stays : goal.returns-in-Ok-clause-stays
returns-in-Ok-clause-stays g c = c.enter_at.ensures.stays

pub returns-in-Err-clause-paused : goal.returns-in-Err-clause-paused
returns-in-Err-clause-paused g c = λ e. cc

pub returns-in-Err-clause-halts : goal.returns-in-Err-clause-halts
returns-in-Err-clause-halts g c = (c.asked.ensures.kept, c.asked.ensures.stays)

pub returns-in-Err-clause-stays : goal.returns-in-Err-clause-stays
returns-in-Err-clause-stays g c = c.enter_at.ensures.stays

pub put-requires : goal.put-requires
put-requires g c =
    let under : reverse c.enter_at.new.m.stack.items ≡ reverse c.take-fit.new.stack.items = ap (λ (s : State). s.stack) c.in-Err.ensures.err in
    omega (arith, ap length under, length-reverse c.enter_at.new.m.stack.items, length-reverse c.take-fit.new.stack.items, c.take-fit.ensures.len, c.take-fit.ensures.room, c.enter_at.ensures.room)

pub returns-then-asked-clause-looks : goal.returns-then-asked-clause-looks
returns-then-asked-clause-looks g c = refl

pub returns-then-m-limit-clause-looks : goal.returns-then-m-limit-clause-looks
returns-then-m-limit-clause-looks g c = c.saturating_add-m.ensures

pub returns-then-m-ge-MOST_CALLS-clause-looks : goal.returns-then-m-ge-MOST_CALLS-clause-looks
returns-then-m-ge-MOST_CALLS-clause-looks g c = c.raise_call.ensures.looks

pub returns-then-not-truth-clause-looks : goal.returns-then-not-truth-clause-looks
returns-then-not-truth-clause-looks g c = c.raise_call-then-not-truth.ensures.looks

pub returns-in-Ok-clause-looks : goal.returns-in-Ok-clause-looks
returns-in-Ok-clause-looks g c = c.saturating_add-m-in-Ok.ensures ∙ ap (λ n. more n 1) c.enter_at.ensures.looks

pub returns-in-Err-clause-looks : goal.returns-in-Err-clause-looks
returns-in-Err-clause-looks g c = c.enter_at.ensures.looks
