use Rattle.std.proofs.Common.{◌≡◌, ℕ, ◌+◌, ◌<◌, ℤ, List, ◌∷◌, length, reverse, arith, sym, ap, ◌∙◌, refl, subst}
use Rattle.std.proofs.lemmas.Option.{slice_get_within}
use Rattle.stack_code.specs.Looks.{kept_looks}
use Rattle.stack_code.specs.declared.instr.Instr.TheVariants as instr
use Rattle.ada_machine.specs.declared.machine.Stop.TheVariants as stop
use Rattle.ada_machine.specs.declared.machine.Went as wents
use Rattle.ada_machine.specs.declared.machine.Went.TheVariants as went
use Rattle.ada_machine.specs.States.{more, IsMore, LooksBy}
use Rattle.ada_machine.proofs.Doings as doings
use Rattle.ada_machine.proofs.Doings.{fine_at, sub_with, not_empty}
use Rattle.ada_machine.proofs.Heeding.{unheard}
use Rattle.ada_machine.proofs.effecting.combine.Goals as goal

-- a look, where an accumulator is kept
looks_kept : (w : wents.Went) (xs : List ℤ) (a b : ℕ) → (length xs ≡ 0 → ⊥) → LooksBy w a b 1 → LooksBy w a b (kept_looks (reverse xs))
looks_kept w xs a b n h = subst (λ ps. LooksBy w a b (kept_looks ps)) (sym (not_empty xs n).2) h

pub returns-then-len-eq0-clause-steps : goal.returns-then-len-eq0-clause-steps
returns-then-len-eq0-clause-steps g c =
    let s = sub_with c.args.code.now c.args.m.now (g.C.Cells.cells c.args.view.now) c.requires.ready c.requires.calm c.args.number c.requires.at in
    doings.combine_done c.args.limit c.args.code.now c.args.m.now (g.C.Cells.cells c.args.view.now) c.requires.calm c.args.number s.0 c.requires.at s.1 c.requires.ready c.requires.within (record c.args.m.now { pc = c.args.m.now.pc + 1 }) (doings.empty c.args.m.now.kept.items (omega arith)) refl refl

pub returns-then-asked-clause-steps : goal.returns-then-asked-clause-steps
returns-then-asked-clause-steps g c =
    let s = sub_with c.args.code.now c.args.m.now (g.C.Cells.cells c.args.view.now) c.requires.ready c.requires.calm c.args.number c.requires.at in
    let q = not_empty c.args.m.now.kept.items (λ e. omega (arith, e)) in
    doings.combine_paused c.args.limit c.args.code.now c.args.m.now (g.C.Cells.cells c.args.view.now) c.requires.calm c.args.number s.0 c.requires.at s.1 c.requires.ready c.requires.within q.0 q.1 q.2

pub returns-then-m-limit-clause-steps : goal.returns-then-m-limit-clause-steps
returns-then-m-limit-clause-steps g c =
    let s = sub_with c.args.code.now c.args.m.now (g.C.Cells.cells c.args.view.now) c.requires.ready c.requires.calm c.args.number c.requires.at in
    let q = not_empty c.args.m.now.kept.items (λ e. omega (arith, e)) in
    doings.combine_stops c.args.limit c.args.code.now c.args.m.now (g.C.Cells.cells c.args.view.now) c.requires.calm c.args.number s.0 c.requires.at s.1 c.requires.ready c.requires.within q.0 q.1 q.2 _ (omega arith)

pub sub_of-callee-requires : goal.sub_of-callee-requires
sub_of-callee-requires g c = let s = sub_with c.args.code.now c.args.m.now (g.C.Cells.cells c.args.view.now) c.requires.ready c.requires.calm c.args.number c.requires.at in slice_get_within c.args.code.now.subs c.args.number s.0 s.1

pub overflow_sub-height : goal.overflow_sub-height
overflow_sub-height g c = let f = fine_at c.args.code.now c.args.m.now (g.C.Cells.cells c.args.view.now) (instr.Combine c.args.number) c.requires.ready c.requires.calm c.requires.at in omega (arith, f.operands)

pub returns-then-m-ge-MOST_CALLS-clause-steps : goal.returns-then-m-ge-MOST_CALLS-clause-steps
returns-then-m-ge-MOST_CALLS-clause-steps g c =
    let q = not_empty c.args.m.now.kept.items (λ e. omega (arith, e)) in
    let f = fine_at c.args.code.now c.args.m.now (g.C.Cells.cells c.args.view.now) (instr.Combine c.args.number) c.requires.ready c.requires.calm c.requires.at in
    let less : c.args.m.now.turns < c.args.limit = omega (arith, c.requires.within) in
    doings.combine_raises c.args.limit c.args.code.now c.args.m.now (g.C.Cells.cells c.args.view.now) c.requires.calm c.args.number c.sub_of-callee.result c.requires.at c.sub_of-callee.ensures c.requires.ready c.requires.within q.0 q.1 q.2 c.fail.new.m (g.C.Cells.cells c.args.view.now) _ less (omega arith) (omega (arith, f.operands)) (c.fail.ensures.state (g.C.Cells.cells c.args.view.now)) c.fail.ensures.same.0

pub returns-then-asked-clause-heeds : goal.returns-then-asked-clause-heeds
returns-then-asked-clause-heeds g c = tt

pub returns-then-m-limit-clause-heeds : goal.returns-then-m-limit-clause-heeds
returns-then-m-limit-clause-heeds g c = unheard _ _ _ _ c.asked.result c.if-asked.false c.asked.ensures.heard

pub returns-then-m-ge-MOST_CALLS-clause-heeds : goal.returns-then-m-ge-MOST_CALLS-clause-heeds
returns-then-m-ge-MOST_CALLS-clause-heeds g c = unheard _ _ _ _ c.asked.result c.if-asked.false c.asked.ensures.heard

pub returns-in-Ok-clause-heeds : goal.returns-in-Ok-clause-heeds
returns-in-Ok-clause-heeds g c = unheard _ _ _ _ c.asked.result c.if-asked.false c.asked.ensures.heard

pub returns-in-Err-clause-heeds : goal.returns-in-Err-clause-heeds
returns-in-Err-clause-heeds g c = unheard _ _ _ _ c.asked.result c.if-asked.false c.asked.ensures.heard

pub returns-then-len-eq0-clause-heeds : goal.returns-then-len-eq0-clause-heeds
returns-then-len-eq0-clause-heeds g c = λ t. (t, refl)

pub returns-then-len-eq0-clause-paused : goal.returns-then-len-eq0-clause-paused
returns-then-len-eq0-clause-paused g c = λ e. cc

pub returns-then-len-eq0-clause-halts : goal.returns-then-len-eq0-clause-halts
returns-then-len-eq0-clause-halts g c = (refl, λ t. t)

pub returns-then-len-eq0-clause-stays : goal.returns-then-len-eq0-clause-stays
returns-then-len-eq0-clause-stays g c = (refl, λ w. w, refl)

pub returns-then-asked-clause-paused : goal.returns-then-asked-clause-paused
returns-then-asked-clause-paused g c = λ e. c.asked.ensures.told c.if-asked.true

pub returns-then-asked-clause-halts : goal.returns-then-asked-clause-halts
returns-then-asked-clause-halts g c = (c.asked.ensures.kept, c.asked.ensures.stays)

pub returns-then-asked-clause-stays : goal.returns-then-asked-clause-stays
returns-then-asked-clause-stays g c = (refl, λ w. w, refl)

pub returns-then-m-limit-clause-paused : goal.returns-then-m-limit-clause-paused
returns-then-m-limit-clause-paused g c = λ e. cc

pub returns-then-m-limit-clause-halts : goal.returns-then-m-limit-clause-halts
returns-then-m-limit-clause-halts g c = (c.asked.ensures.kept, c.asked.ensures.stays)

pub returns-then-m-limit-clause-stays : goal.returns-then-m-limit-clause-stays
returns-then-m-limit-clause-stays g c = (refl, λ w. w, refl)

pub returns-then-m-ge-MOST_CALLS-clause-paused : goal.returns-then-m-ge-MOST_CALLS-clause-paused
returns-then-m-ge-MOST_CALLS-clause-paused g c = λ e. cc

pub returns-then-m-ge-MOST_CALLS-clause-halts : goal.returns-then-m-ge-MOST_CALLS-clause-halts
returns-then-m-ge-MOST_CALLS-clause-halts g c = (c.asked.ensures.kept, c.asked.ensures.stays)

pub returns-then-m-ge-MOST_CALLS-clause-stays : goal.returns-then-m-ge-MOST_CALLS-clause-stays
returns-then-m-ge-MOST_CALLS-clause-stays g c = (refl, λ w. w, refl)

pub returns-in-Ok-clause-paused : goal.returns-in-Ok-clause-paused
returns-in-Ok-clause-paused g c = λ e. cc

pub returns-in-Ok-clause-halts : goal.returns-in-Ok-clause-halts
returns-in-Ok-clause-halts g c = (c.asked.ensures.kept, c.asked.ensures.stays)

pub returns-in-Err-clause-paused : goal.returns-in-Err-clause-paused
returns-in-Err-clause-paused g c = λ e. cc

pub returns-in-Err-clause-halts : goal.returns-in-Err-clause-halts
returns-in-Err-clause-halts g c = (c.asked.ensures.kept, c.asked.ensures.stays)

pub enter_next-requires-clause-takes : goal.enter_next-requires-clause-takes
enter_next-requires-clause-takes g c =
    let f = fine_at c.args.code.now c.args.m.now (g.C.Cells.cells c.args.view.now) (instr.Combine c.args.number) c.requires.ready c.requires.calm c.requires.at in
    let t = doings.combine_takes c.args.limit c.args.code.now c.args.m.now (g.C.Cells.cells c.args.view.now) c.requires.calm c.args.number c.sub_of-callee.result c.requires.at c.sub_of-callee.ensures c.requires.ready c.requires.within in
    omega (arith, f.operands, t)

pub returns-in-Ok-clause-steps : goal.returns-in-Ok-clause-steps
returns-in-Ok-clause-steps g c =
    let o = c.in-Ok.ensures.ok in
    let less : c.args.m.now.turns < c.args.limit = omega (arith, c.requires.within) in
    doings.combine_goes c.args.limit c.args.code.now c.args.m.now (g.C.Cells.cells c.args.view.now) c.requires.calm c.args.number c.sub_of-callee.result c.requires.at c.sub_of-callee.ensures c.requires.ready c.requires.within o.0 o.1 o.2 _ (g.C.Cells.cells c.enter_next.new.view) (o.0 ∷ reverse c.args.m.now.stack.items) less (omega arith) refl o.3 c.in-Ok.ensures.fits c.in-Ok.ensures.near c.enter_next.ensures.room

pub returns-in-Err-clause-steps : goal.returns-in-Err-clause-steps
returns-in-Err-clause-steps g c = doings.still c.args.limit c.args.code.now c.args.m.now c.enter_next.new.m (g.C.Cells.cells c.args.view.now) (g.C.Cells.cells c.enter_next.new.view) c.requires.ready c.requires.within c.requires.calm (instr.Combine c.args.number) c.requires.at (subst IsMore (sym (not_empty c.args.m.now.kept.items (λ e. omega (arith, e))).2) tt, (omega arith)) c.in-Err.ensures.err c.enter_next.ensures.room

pub returns-in-Ok-clause-stays : goal.returns-in-Ok-clause-stays
returns-in-Ok-clause-stays g c = c.enter_next.ensures.stays

pub returns-in-Err-clause-stays : goal.returns-in-Err-clause-stays
returns-in-Err-clause-stays g c = c.enter_next.ensures.stays

pub returns-then-len-eq0-clause-looks : goal.returns-then-len-eq0-clause-looks
returns-then-len-eq0-clause-looks g c = subst (λ ps. LooksBy went.On c.args.m.now.looks c.args.m.now.looks (kept_looks ps)) (sym (doings.empty c.args.m.now.kept.items (omega arith))) refl

pub returns-then-asked-clause-looks : goal.returns-then-asked-clause-looks
returns-then-asked-clause-looks g c = refl

pub returns-then-m-limit-clause-looks : goal.returns-then-m-limit-clause-looks
returns-then-m-limit-clause-looks g c = looks_kept (went.Stopped stop.Spent) c.args.m.now.kept.items _ _ (λ e. omega (arith, e)) c.saturating_add-m.ensures

pub returns-then-m-ge-MOST_CALLS-clause-looks : goal.returns-then-m-ge-MOST_CALLS-clause-looks
returns-then-m-ge-MOST_CALLS-clause-looks g c = looks_kept went.Raising c.args.m.now.kept.items _ _ (λ e. omega (arith, e)) (c.fail.ensures.looks ∙ c.saturating_add-m-then-m-ge-MOST_CALLS.ensures)

pub returns-in-Ok-clause-looks : goal.returns-in-Ok-clause-looks
returns-in-Ok-clause-looks g c = looks_kept went.On c.args.m.now.kept.items _ _ (λ e. omega (arith, e)) (c.saturating_add-m-in-Ok.ensures ∙ ap (λ n. more n 1) c.enter_next.ensures.looks)

pub returns-in-Err-clause-looks : goal.returns-in-Err-clause-looks
returns-in-Err-clause-looks g c = c.enter_next.ensures.looks

pub overflow_add-m : goal.overflow_add-m
overflow_add-m g c = record { fits = omega (arith, c.requires.next) }

pub overflow_add-m-then-m-ge-MOST_CALLS : goal.overflow_add-m-then-m-ge-MOST_CALLS
overflow_add-m-then-m-ge-MOST_CALLS g c = record { fits = omega (arith, c.requires.within, c.if-m-limit.false, c.ranges.limit.fits) }

pub fail-requires : goal.fail-requires
fail-requires g c = omega (arith, c.len-height.ensures)

pub enter_next-requires-clause-kept : goal.enter_next-requires-clause-kept
enter_next-requires-clause-kept g c = omega (arith, c.len.ensures, c.if-len-eq0.false)

pub enter_next-requires-clause-turns : goal.enter_next-requires-clause-turns
enter_next-requires-clause-turns g c = omega (arith, c.requires.within, c.if-m-limit.false, c.ranges.limit.fits)

pub enter_next-requires-clause-calls : goal.enter_next-requires-clause-calls
enter_next-requires-clause-calls g c = omega (arith, c.if-m-ge-MOST_CALLS.false)
