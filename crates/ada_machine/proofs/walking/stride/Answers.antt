use Rattle.std.proofs.Common.{◌≡◌, ℕ, ◌≤◌, ◌<◌, ◌+◌, length, reverse, Some, refl, sym, ap, ◌∙◌, arith, subst}
use Rattle.std.specs.Prelude.{◌^◌, slice_get, slice_index, vec_capacity, EachIndex}
use Rattle.stack_code.specs.Fits.{Finds}
use Rattle.stack_code.specs.Deeds.{deed_of}
use Rattle.stack_code.specs.Stands.{rank}
use Rattle.stack_code.specs.declared.instr.Instr.TheVariants as instr
use Rattle.stack_code.proofs.Runs.{comes_none, comes_one, comes_on, never_on}
use Rattle.ada_machine.specs.declared.machine.Machine.{Machine}
use Rattle.ada_machine.specs.declared.machine.Stop.TheVariants as stop
use Rattle.ada_machine.specs.declared.machine.Went.TheVariants as went
use Rattle.ada_machine.specs.Played.{IsClear, Onward, Raised, plays}
use Rattle.ada_machine.specs.States.{state_of, Steps}
use Rattle.ada_machine.proofs.Keeping.{stays_on, topped_one}
use Rattle.ada_machine.proofs.Looking.{none_looks, same_looks, onward_none, raised_none, looked_none, looked_step}
use Rattle.ada_machine.proofs.Readies.{fine_here}
use Rattle.ada_machine.proofs.Steps.{clear_here, step_plays, step_raises, steps_stopped}
use Rattle.ada_machine.proofs.Unmoved.{Came, came_kept, beyond_still, raises_there, stops_there, looks_raised, looks_stopped, handed_on}
use Rattle.ada_machine.proofs.Walks.{goes_same, raises_same, turn_on, turn_looks, turn_spent, machine_here}
use Rattle.ada_machine.proofs.Heeding.{unheard, heeds_later}
use Rattle.leave_board.specs.Halts.{Heeds}
use Rattle.leave_board.proofs.Heeding.{heeds_on}
use Rattle.ada_machine.proofs.walking.stride.Goals as goal

-- a machine that a stretch wrote back to
kept_at : (m q : Machine) (pc turns looks base : ℕ) → q ≡ record m { pc = pc; turns = turns; looks = looks } → m.base ≡ base → q ≡ record m { pc = pc; turns = turns; looks = looks; base = base }
kept_at m q pc turns looks base e f = e ∙ ap (λ b. record m { pc = pc; turns = turns; looks = looks; base = b }) f

heeds_kept : (told told' : Type 0) (a b b' : ℕ) → b' ≡ b → Heeds told told' a b → Heeds told told' a b'
heeds_kept told told' a b b' e h = subst (λ n. Heeds told told' a n) (sym e) h

pub loop-to-init : goal.loop-to-init
loop-to-init g c = record { came = comes_none c.args.limit c.args.code.now (state_of c.args.m.now (g.C.Cells.cells c.args.view.now)); ready = c.requires.ready; base = refl; calm = c.requires.calm; clear = c.requires.clear; within = c.requires.within; looks = looked_none c.args.limit c.args.code.now (state_of c.args.m.now (g.C.Cells.cells c.args.view.now)) c.args.m.now.looks; stays = (refl, λ w. w, refl); tops = c.requires.tops; halts = (refl, λ t. t); heeds = λ t. (t, refl); falls = omega arith }

pub instr_at-instr-requires : goal.instr_at-instr-requires
instr_at-instr-requires g c = subst (λ l. c.loop-to.pc < length l) (sym c.as_slice-instrs.ensures) (machine_here c.args.code.now (record c.loop-to.m { pc = c.loop-to.pc; turns = c.loop-to.turns; looks = c.loop-to.looks; base = c.loop-to.base }) (g.C.Cells.cells c.loop-to.view) c.loop-to.invariant.ready)

pub returns-then-asked : goal.returns-then-asked
returns-then-asked g c =
    let i = c.loop-to.invariant in
    let cells = g.C.Cells.cells c.loop-to.view in
    let cells' = g.C.Cells.cells c.compute.new.view in
    let was = record c.loop-to.m { pc = c.loop-to.pc; turns = c.loop-to.turns; looks = c.loop-to.looks; base = c.loop-to.base } in
    let m = record was { stack = c.compute.new.stack } in
    let at = ap (λ l. slice_get l c.loop-to.pc) (sym c.as_slice-instrs.ensures) ∙ c.instr_at-instr.ensures.instr ∙ ap Some c.in-Turn.is in
    let d = c.in-Other.ensures.deed in
    let b : Came c.args.limit c.args.code.now c.args.m.now (g.C.Cells.cells c.args.view.now) (g.C.Cells.floor c.compute.new.view) instr.Turn m cells' = came_kept c.args.limit c.args.code.now was m m cells cells' refl refl d.1 d.2 _ _ _ _ _ c.compute.ensures.room c.compute.ensures.stays.0
    (record { came = i.came; ready = i.ready; calm = i.calm; clear = i.clear; within = i.within; at = at; tops = i.tops; looks = i.looks; falls = i.falls }) in
    let last = c.keep-then-asked.new.m in
    let e : last ≡ m = kept_at (record c.loop-to.m { stack = c.compute.new.stack }) last c.loop-to.pc c.loop-to.turns c.loop-to.looks c.loop-to.base c.keep-then-asked.ensures i.base in
    let looks : last.looks ≡ c.loop-to.looks = ap (λ (q : Machine). q.looks) e in
    let s : Steps c.args.limit c.args.code.now (went.Stopped stop.Paused) m cells' last cells' = subst (λ q. Steps c.args.limit c.args.code.now (went.Stopped stop.Paused) m cells' q cells') (sym e) (steps_stopped c.args.limit c.args.code.now m cells' b.ready b.within m cells' stop.Paused (refl, turn_looks c.args.limit c.args.code.now m cells' b.calm b.at) b.ready b.within) in
    record {
      strides = stops_there c.args.limit c.args.code.now _ _ _ _ m cells' b last cells' stop.Paused s;
      paused = λ e. c.asked.ensures.told c.if-asked.true;
      halts = (c.asked.ensures.kept ∙ i.halts.0, λ t. c.asked.ensures.stays (i.halts.1 t));
      heeds = tt;
      stays = stays_on (g.C.Cells.floor) (g.C.Cells.whole) (g.C.Cells.place) i.stays c.compute.ensures.stays;
      looks = looks_stopped c.args.limit c.args.code.now _ _ _ _ m cells' b last cells' stop.Paused s looks;
    }

pub returns-then-turns-limit : goal.returns-then-turns-limit
returns-then-turns-limit g c =
    let i = c.loop-to.invariant in
    let cells = g.C.Cells.cells c.loop-to.view in
    let cells' = g.C.Cells.cells c.compute.new.view in
    let was = record c.loop-to.m { pc = c.loop-to.pc; turns = c.loop-to.turns; looks = c.loop-to.looks; base = c.loop-to.base } in
    let m = record was { stack = c.compute.new.stack } in
    let at = ap (λ l. slice_get l c.loop-to.pc) (sym c.as_slice-instrs.ensures) ∙ c.instr_at-instr.ensures.instr ∙ ap Some c.in-Turn.is in
    let d = c.in-Other.ensures.deed in
    let b : Came c.args.limit c.args.code.now c.args.m.now (g.C.Cells.cells c.args.view.now) (g.C.Cells.floor c.compute.new.view) instr.Turn m cells' = came_kept c.args.limit c.args.code.now was m m cells cells' refl refl d.1 d.2 _ _ _ _ _ c.compute.ensures.room c.compute.ensures.stays.0
    (record { came = i.came; ready = i.ready; calm = i.calm; clear = i.clear; within = i.within; at = at; tops = i.tops; looks = i.looks; falls = i.falls }) in
    let last = c.keep-then-turns-limit.new.m in
    let e : last ≡ record m { looks = c.saturating_add-looks.result } = kept_at (record c.loop-to.m { stack = c.compute.new.stack }) last c.loop-to.pc c.loop-to.turns c.saturating_add-looks.result c.loop-to.base c.keep-then-turns-limit.ensures i.base in
    let looks : last.looks ≡ c.saturating_add-looks.result = ap (λ (q : Machine). q.looks) e in
    let s : Steps c.args.limit c.args.code.now (went.Stopped stop.Spent) m cells' last cells' = subst (λ q. Steps c.args.limit c.args.code.now (went.Stopped stop.Spent) m cells' q cells') (sym e) (steps_stopped c.args.limit c.args.code.now m cells' b.ready b.within (record m { looks = c.saturating_add-looks.result }) cells' stop.Spent (turn_spent c.args.limit c.args.code.now m m cells' cells' b.ready b.calm b.at (omega arith)) tt b.within) in
    record {
      strides = stops_there c.args.limit c.args.code.now _ _ _ _ m cells' b last cells' stop.Spent s;
      paused = λ e. cc;
      halts = (c.asked.ensures.kept ∙ i.halts.0, λ t. c.asked.ensures.stays (i.halts.1 t));
      heeds = unheard _ _ _ _ c.asked.result c.if-asked.false c.asked.ensures.heard;
      stays = stays_on (g.C.Cells.floor) (g.C.Cells.whole) (g.C.Cells.place) i.stays c.compute.ensures.stays;
      looks = looks_stopped c.args.limit c.args.code.now _ _ _ _ m cells' b last cells' stop.Spent s (same_looks c.args.code.now (state_of m cells') instr.Turn (went.Stopped stop.Spent) m.looks last.looks 1 b.calm b.at refl (looks ∙ c.saturating_add-looks.ensures));
    }

pub loop-to-preserved-in-Turn : goal.loop-to-preserved-in-Turn
loop-to-preserved-in-Turn g c =
    let i = c.loop-to.invariant in
    let cells = g.C.Cells.cells c.loop-to.view in
    let cells' = g.C.Cells.cells c.compute.new.view in
    let was = record c.loop-to.m { pc = c.loop-to.pc; turns = c.loop-to.turns; looks = c.loop-to.looks; base = c.loop-to.base } in
    let m = record was { stack = c.compute.new.stack } in
    let at = ap (λ l. slice_get l c.loop-to.pc) (sym c.as_slice-instrs.ensures) ∙ c.instr_at-instr.ensures.instr ∙ ap Some c.in-Turn.is in
    let d = c.in-Other.ensures.deed in
    let b : Came c.args.limit c.args.code.now c.args.m.now (g.C.Cells.cells c.args.view.now) (g.C.Cells.floor c.compute.new.view) instr.Turn m cells' = came_kept c.args.limit c.args.code.now was m m cells cells' refl refl d.1 d.2 _ _ _ _ _ c.compute.ensures.room c.compute.ensures.stays.0
    (record { came = i.came; ready = i.ready; calm = i.calm; clear = i.clear; within = i.within; at = at; tops = i.tops; looks = i.looks; falls = i.falls }) in
    let m' = record m { pc = c.loop-to.pc + 1; turns = c.loop-to.turns + 1; looks = c.saturating_add-looks.result } in
    let l : m.turns < c.args.limit = omega (arith, i.within) in
    let s : Steps c.args.limit c.args.code.now went.On m cells' m' cells' = goes_same c.args.limit c.args.code.now m m' cells' cells' b.ready (state_of m' cells') b.within (turn_on c.args.limit c.args.code.now m m' cells' cells' b.ready b.calm b.at l) refl refl refl refl refl b.calm in
    let one = comes_one c.args.limit c.args.code.now _ _ s.goes.0 in
    record {
      came = comes_on c.args.limit c.args.code.now _ _ _ b.came one;
      ready = s.ready;
      base = i.base;
      calm = b.calm;
      clear = never_on c.args.limit c.args.code.now _ _ one b.clear;
      within = s.within;
      looks = looked_step c.args.limit c.args.code.now (state_of c.args.m.now (g.C.Cells.cells c.args.view.now)) (state_of m cells') (state_of m' cells') c.args.m.now.looks m.looks m'.looks b.looks refl s.goes.0 (same_looks c.args.code.now (state_of m cells') instr.Turn went.On m.looks m'.looks 1 b.calm b.at refl c.saturating_add-looks.ensures);
      stays = stays_on (g.C.Cells.floor) (g.C.Cells.whole) (g.C.Cells.place) i.stays c.compute.ensures.stays;
      tops = topped_one c.args.limit c.args.code.now _ _ refl _ _ s.goes.0 b.tops;
      halts = (c.asked.ensures.kept ∙ i.halts.0, λ t. c.asked.ensures.stays (i.halts.1 t));
      heeds = unheard _ _ _ _ c.asked.result c.if-asked.false c.asked.ensures.heard;
      falls = omega (arith, b.falls, s.falls);
    }

pub loop-to-smaller-in-Turn : goal.loop-to-smaller-in-Turn
loop-to-smaller-in-Turn g c =
    let i = c.loop-to.invariant in
    let cells = g.C.Cells.cells c.loop-to.view in
    let cells' = g.C.Cells.cells c.compute.new.view in
    let was = record c.loop-to.m { pc = c.loop-to.pc; turns = c.loop-to.turns; looks = c.loop-to.looks; base = c.loop-to.base } in
    let m = record was { stack = c.compute.new.stack } in
    let at = ap (λ l. slice_get l c.loop-to.pc) (sym c.as_slice-instrs.ensures) ∙ c.instr_at-instr.ensures.instr ∙ ap Some c.in-Turn.is in
    let d = c.in-Other.ensures.deed in
    let same : state_of m cells' ≡ state_of was cells = ap (λ st. record (state_of was cells') { stack = reverse st }) d.1 ∙ ap (λ w. state_of was w) d.2 in
    let b : Came c.args.limit c.args.code.now c.args.m.now (g.C.Cells.cells c.args.view.now) (g.C.Cells.floor c.compute.new.view) instr.Turn m cells' = came_kept c.args.limit c.args.code.now was m m cells cells' refl refl d.1 d.2 _ _ _ _ _ c.compute.ensures.room c.compute.ensures.stays.0
    (record { came = i.came; ready = i.ready; calm = i.calm; clear = i.clear; within = i.within; at = at; tops = i.tops; looks = i.looks; falls = i.falls }) in
    let m' = record m { pc = c.loop-to.pc + 1; turns = c.loop-to.turns + 1; looks = c.saturating_add-looks.result } in
    let l : m.turns < c.args.limit = omega (arith, i.within) in
    let s : Steps c.args.limit c.args.code.now went.On m cells' m' cells' = goes_same c.args.limit c.args.code.now m m' cells' cells' b.ready (state_of m' cells') b.within (turn_on c.args.limit c.args.code.now m m' cells' cells' b.ready b.calm b.at l) refl refl refl refl refl b.calm in
    subst (λ q. rank c.args.code.now c.args.limit (state_of m' cells') < rank c.args.code.now c.args.limit q) same s.falls

pub compute-requires : goal.compute-requires
compute-requires g c =
    let i = c.loop-to.invariant in
    let cells = g.C.Cells.cells c.loop-to.view in
    let m = record c.loop-to.m { pc = c.loop-to.pc; turns = c.loop-to.turns; looks = c.loop-to.looks; base = c.loop-to.base } in
    let at = ap (λ l. slice_get l c.loop-to.pc) (sym c.as_slice-instrs.ensures) ∙ c.instr_at-instr.ensures.instr in
    let f = fine_here c.args.code.now i.ready.low i.ready.valid m cells c.instr_at-instr.result.now i.ready.stands i.ready.roomy i.calm at in
    record {
      operands = omega (arith, f.operands);
      room = omega (arith, f.room);
      there = subst (λ fs. Finds c.args.code.now fs c.instr_at-instr.result.now) (sym c.as_slice.ensures.value) f.there;
      base = i.ready.roomy.near;
      near = subst (λ fs. EachIndex fs (λ k. slice_index fs k ≤ 2 ^ 62)) (sym c.as_slice.ensures.value) i.ready.roomy.frames;
      next = c.instr_at-instr.ensures.near;
      clear = subst (λ fs. IsClear (deed_of c.args.code.now m.pc (reverse m.stack.items) m.base fs c.instr_at-instr.result.now) cells) (sym c.as_slice.ensures.value)
          (clear_here c.args.limit c.args.code.now (state_of m cells) c.instr_at-instr.result.now i.calm at i.clear);
    }

pub loop-to-preserved-in-To : goal.loop-to-preserved-in-To
loop-to-preserved-in-To g c =
    let i = c.loop-to.invariant in
    let cells = g.C.Cells.cells c.loop-to.view in
    let m = record c.loop-to.m { pc = c.loop-to.pc; turns = c.loop-to.turns; looks = c.loop-to.looks; base = c.loop-to.base } in
    let cells' = g.C.Cells.cells c.compute.new.view in
    let at = ap (λ l. slice_get l c.loop-to.pc) (sym c.as_slice-instrs.ensures) ∙ c.instr_at-instr.ensures.instr in
    let m' = record m { pc = c.in-To.to; stack = c.compute.new.stack } in
    let deed : plays (deed_of c.args.code.now m.pc (reverse m.stack.items) m.base m.outward.items c.instr_at-instr.result.now) cells ≡ Onward c.in-To.to (reverse c.compute.new.stack.items) cells' =
    subst (λ fs. plays (deed_of c.args.code.now m.pc (reverse m.stack.items) m.base fs c.instr_at-instr.result.now) cells ≡ Onward c.in-To.to (reverse c.compute.new.stack.items) cells') c.as_slice.ensures.value c.in-To.ensures.deed in
    let s : Steps c.args.limit c.args.code.now went.On m cells m' cells' = goes_same c.args.limit c.args.code.now m m' cells cells' i.ready (state_of m' cells') i.within (step_plays c.args.limit c.args.code.now (state_of m cells) c.instr_at-instr.result.now i.calm at c.in-To.to (reverse c.compute.new.stack.items) cells' deed) refl c.compute.ensures.room refl refl refl i.calm in
    let one = comes_one c.args.limit c.args.code.now _ _ s.goes.0 in
    record {
      came = comes_on c.args.limit c.args.code.now _ _ _ i.came one;
      ready = s.ready;
      base = i.base;
      calm = i.calm;
      clear = never_on c.args.limit c.args.code.now _ _ one i.clear;
      within = s.within;
      looks = looked_step c.args.limit c.args.code.now (state_of c.args.m.now (g.C.Cells.cells c.args.view.now)) (state_of m cells) (state_of m' cells') c.args.m.now.looks m.looks m.looks i.looks refl s.goes.0 (none_looks c.args.code.now (state_of m cells) c.instr_at-instr.result.now went.On m.looks m.looks i.calm at (onward_none (deed_of c.args.code.now m.pc (reverse m.stack.items) m.base m.outward.items c.instr_at-instr.result.now) (state_of m cells) c.in-To.to (reverse c.compute.new.stack.items) cells' deed) refl);
      stays = stays_on (g.C.Cells.floor) (g.C.Cells.whole) (g.C.Cells.place) i.stays c.compute.ensures.stays;
      tops = topped_one c.args.limit c.args.code.now _ _ c.compute.ensures.stays.0 _ _ s.goes.0 i.tops;
      halts = i.halts;
      heeds = i.heeds;
      falls = omega (arith, i.falls, s.falls);
    }

pub loop-to-smaller-in-To : goal.loop-to-smaller-in-To
loop-to-smaller-in-To g c =
    let i = c.loop-to.invariant in
    let cells = g.C.Cells.cells c.loop-to.view in
    let m = record c.loop-to.m { pc = c.loop-to.pc; turns = c.loop-to.turns; looks = c.loop-to.looks; base = c.loop-to.base } in
    let cells' = g.C.Cells.cells c.compute.new.view in
    let at = ap (λ l. slice_get l c.loop-to.pc) (sym c.as_slice-instrs.ensures) ∙ c.instr_at-instr.ensures.instr in
    let m' = record m { pc = c.in-To.to; stack = c.compute.new.stack } in
    let deed : plays (deed_of c.args.code.now m.pc (reverse m.stack.items) m.base m.outward.items c.instr_at-instr.result.now) cells ≡ Onward c.in-To.to (reverse c.compute.new.stack.items) cells' =
    subst (λ fs. plays (deed_of c.args.code.now m.pc (reverse m.stack.items) m.base fs c.instr_at-instr.result.now) cells ≡ Onward c.in-To.to (reverse c.compute.new.stack.items) cells') c.as_slice.ensures.value c.in-To.ensures.deed in
    let s : Steps c.args.limit c.args.code.now went.On m cells m' cells' = goes_same c.args.limit c.args.code.now m m' cells cells' i.ready (state_of m' cells') i.within (step_plays c.args.limit c.args.code.now (state_of m cells) c.instr_at-instr.result.now i.calm at c.in-To.to (reverse c.compute.new.stack.items) cells' deed) refl c.compute.ensures.room refl refl refl i.calm in
    s.falls

pub returns-in-Failed : goal.returns-in-Failed
returns-in-Failed g c =
    let i = c.loop-to.invariant in
    let cells = g.C.Cells.cells c.loop-to.view in
    let m = record c.loop-to.m { pc = c.loop-to.pc; turns = c.loop-to.turns; looks = c.loop-to.looks; base = c.loop-to.base } in
    let cells' = g.C.Cells.cells c.compute.new.view in
    let at = ap (λ l. slice_get l c.loop-to.pc) (sym c.as_slice-instrs.ensures) ∙ c.instr_at-instr.ensures.instr in
    let a : Came c.args.limit c.args.code.now c.args.m.now (g.C.Cells.cells c.args.view.now) (g.C.Cells.floor c.loop-to.view) c.instr_at-instr.result.now m cells = record { came = i.came; ready = i.ready; calm = i.calm; clear = i.clear; within = i.within; at = at; tops = i.tops; looks = i.looks; falls = i.falls } in
    let m' = record m { stack = c.compute.new.stack; raising = Some c.in-Failed.reason } in
    let deed : plays (deed_of c.args.code.now m.pc (reverse m.stack.items) m.base m.outward.items c.instr_at-instr.result.now) cells ≡ Raised c.in-Failed.reason (reverse c.compute.new.stack.items) cells' =
    subst (λ fs. plays (deed_of c.args.code.now m.pc (reverse m.stack.items) m.base fs c.instr_at-instr.result.now) cells ≡ Raised c.in-Failed.reason (reverse c.compute.new.stack.items) cells') c.as_slice.ensures.value c.in-Failed.ensures.deed in
    let last = record c.keep.new.m { raising = Some c.in-Failed.reason } in
    let e : last ≡ m' = ap (λ (q : Machine). record q { raising = Some c.in-Failed.reason }) (kept_at (record c.loop-to.m { stack = c.compute.new.stack }) c.keep.new.m c.loop-to.pc c.loop-to.turns c.loop-to.looks c.loop-to.base c.keep.ensures i.base) in
    let looks : last.looks ≡ m.looks = ap (λ (q : Machine). q.looks) e in
    let s : Steps c.args.limit c.args.code.now went.Raising m cells last cells' = raises_same c.args.limit c.args.code.now m last cells cells' i.ready (state_of m' cells') i.within (step_raises c.args.limit c.args.code.now (state_of m cells) c.instr_at-instr.result.now i.calm at c.in-Failed.reason (reverse c.compute.new.stack.items) cells' deed) (ap (λ (q : Machine). state_of q cells') e) (ap (λ (q : Machine). vec_capacity q.stack) e ∙ c.compute.ensures.room) refl refl refl in
    record {
      strides = raises_there c.args.limit c.args.code.now _ _ _ _ m cells a last cells' s;
      paused = λ e. cc;
      halts = i.halts;
      heeds = heeds_kept _ _ _ _ _ looks i.heeds;
      stays = stays_on (g.C.Cells.floor) (g.C.Cells.whole) (g.C.Cells.place) i.stays c.compute.ensures.stays;
      looks = looks_raised c.args.limit c.args.code.now _ _ _ _ m cells a last cells' s (none_looks c.args.code.now (state_of m cells) c.instr_at-instr.result.now went.Raising m.looks last.looks i.calm at (raised_none (deed_of c.args.code.now m.pc (reverse m.stack.items) m.base m.outward.items c.instr_at-instr.result.now) (state_of m cells) c.in-Failed.reason (reverse c.compute.new.stack.items) cells' deed) looks);
    }

pub returns-in-Beyond : goal.returns-in-Beyond
returns-in-Beyond g c =
    let i = c.loop-to.invariant in
    let cells = g.C.Cells.cells c.loop-to.view in
    let m = record c.loop-to.m { pc = c.loop-to.pc; turns = c.loop-to.turns; looks = c.loop-to.looks; base = c.loop-to.base } in
    let cells' = g.C.Cells.cells c.compute.new.view in
    let at = ap (λ l. slice_get l c.loop-to.pc) (sym c.as_slice-instrs.ensures) ∙ c.instr_at-instr.ensures.instr in
    let a : Came c.args.limit c.args.code.now c.args.m.now (g.C.Cells.cells c.args.view.now) (g.C.Cells.floor c.loop-to.view) c.instr_at-instr.result.now m cells = record { came = i.came; ready = i.ready; calm = i.calm; clear = i.clear; within = i.within; at = at; tops = i.tops; looks = i.looks; falls = i.falls } in
    let last = c.keep-in-Beyond.new.m in
    let e : last ≡ record m { stack = c.compute.new.stack } = kept_at (record c.loop-to.m { stack = c.compute.new.stack }) last c.loop-to.pc c.loop-to.turns c.loop-to.looks c.loop-to.base c.keep-in-Beyond.ensures i.base in
    let looks : last.looks ≡ m.looks = ap (λ (q : Machine). q.looks) e in
    let d = c.in-Beyond.ensures.deed in
    let same : state_of last cells' ≡ state_of m cells = ap (λ (q : Machine). state_of q cells') e ∙ ap (λ st. record (state_of m cells') { stack = st }) d.1 ∙ ap (λ w. state_of m w) d.2 in
    let s : Steps c.args.limit c.args.code.now (went.Stopped stop.NoMemory) m cells last cells' = beyond_still c.args.limit c.args.code.now m last cells cells' same (ap (λ (q : Machine). vec_capacity q.stack) e ∙ c.compute.ensures.room) i.ready i.within i.calm c.instr_at-instr.result.now at d.0 in
    record {
      strides = stops_there c.args.limit c.args.code.now _ _ _ _ m cells a last cells' stop.NoMemory s;
      paused = λ e. cc;
      halts = i.halts;
      heeds = heeds_kept _ _ _ _ _ looks i.heeds;
      stays = stays_on (g.C.Cells.floor) (g.C.Cells.whole) (g.C.Cells.place) i.stays c.compute.ensures.stays;
      looks = looks_stopped c.args.limit c.args.code.now _ _ _ _ m cells a last cells' stop.NoMemory s looks;
    }

pub effect-requires : goal.effect-requires
effect-requires g c =
    let i = c.loop-to.invariant in
    let cells = g.C.Cells.cells c.loop-to.view in
    let m = record c.loop-to.m { pc = c.loop-to.pc; turns = c.loop-to.turns; looks = c.loop-to.looks; base = c.loop-to.base } in
    let cells' = g.C.Cells.cells c.compute.new.view in
    let at = ap (λ l. slice_get l c.loop-to.pc) (sym c.as_slice-instrs.ensures) ∙ c.instr_at-instr.ensures.instr in
    let a : Came c.args.limit c.args.code.now c.args.m.now (g.C.Cells.cells c.args.view.now) (g.C.Cells.floor c.loop-to.view) c.instr_at-instr.result.now m cells = record { came = i.came; ready = i.ready; calm = i.calm; clear = i.clear; within = i.within; at = at; tops = i.tops; looks = i.looks; falls = i.falls } in
    let last = c.keep-in_default.new.m in
    let e : last ≡ record m { stack = c.compute.new.stack } = kept_at (record c.loop-to.m { stack = c.compute.new.stack }) last c.loop-to.pc c.loop-to.turns c.loop-to.looks c.loop-to.base c.keep-in_default.ensures i.base in
    let looks : last.looks ≡ m.looks = ap (λ (q : Machine). q.looks) e in
    let d = c.in-Other.ensures.deed in
    let b : Came c.args.limit c.args.code.now c.args.m.now (g.C.Cells.cells c.args.view.now) (g.C.Cells.floor c.compute.new.view) c.instr_at-instr.result.now last cells' = came_kept c.args.limit c.args.code.now m (record m { stack = c.compute.new.stack }) last cells cells' e refl d.1 d.2 _ _ _ _ _ c.compute.ensures.room c.compute.ensures.stays.0 a in
    record {
      ready = b.ready;
      calm = b.calm;
      at = b.at;
      more = handed_on c.instr_at-instr.result.now d.0 c.in_default.not-Turn;
      within = b.within;
      next = omega (arith, c.instr_at-instr.ensures.near, ap (λ (q : Machine). q.pc) e);
      whole = c.compute.ensures.stays.1 (i.stays.1 c.requires.whole);
      tops = b.tops;
    }

pub loop-to-preserved : goal.loop-to-preserved
loop-to-preserved g c =
    let i = c.loop-to.invariant in
    let cells = g.C.Cells.cells c.loop-to.view in
    let m = record c.loop-to.m { pc = c.loop-to.pc; turns = c.loop-to.turns; looks = c.loop-to.looks; base = c.loop-to.base } in
    let cells' = g.C.Cells.cells c.compute.new.view in
    let at = ap (λ l. slice_get l c.loop-to.pc) (sym c.as_slice-instrs.ensures) ∙ c.instr_at-instr.ensures.instr in
    let a : Came c.args.limit c.args.code.now c.args.m.now (g.C.Cells.cells c.args.view.now) (g.C.Cells.floor c.loop-to.view) c.instr_at-instr.result.now m cells = record { came = i.came; ready = i.ready; calm = i.calm; clear = i.clear; within = i.within; at = at; tops = i.tops; looks = i.looks; falls = i.falls } in
    let last = c.keep-in_default.new.m in
    let e : last ≡ record m { stack = c.compute.new.stack } = kept_at (record c.loop-to.m { stack = c.compute.new.stack }) last c.loop-to.pc c.loop-to.turns c.loop-to.looks c.loop-to.base c.keep-in_default.ensures i.base in
    let looks : last.looks ≡ m.looks = ap (λ (q : Machine). q.looks) e in
    let d = c.in-Other.ensures.deed in
    let b : Came c.args.limit c.args.code.now c.args.m.now (g.C.Cells.cells c.args.view.now) (g.C.Cells.floor c.compute.new.view) c.instr_at-instr.result.now last cells' = came_kept c.args.limit c.args.code.now m (record m { stack = c.compute.new.stack }) last cells cells' e refl d.1 d.2 _ _ _ _ _ c.compute.ensures.room c.compute.ensures.stays.0 a in
    let s = c.in-On.ensures.steps in
    let one = comes_one c.args.limit c.args.code.now _ _ s.goes.0 in
    record {
      came = comes_on c.args.limit c.args.code.now _ _ _ b.came one;
      ready = s.ready;
      base = refl;
      calm = s.goes.1;
      clear = never_on c.args.limit c.args.code.now _ _ one b.clear;
      within = s.within;
      looks = looked_step c.args.limit c.args.code.now (state_of c.args.m.now (g.C.Cells.cells c.args.view.now)) (state_of last cells') (state_of c.effect.new.m (g.C.Cells.cells c.effect.new.view)) c.args.m.now.looks last.looks c.effect.new.m.looks b.looks refl s.goes.0 (c.in-On.ensures.looks);
      stays = stays_on (g.C.Cells.floor) (g.C.Cells.whole) (g.C.Cells.place) (stays_on (g.C.Cells.floor) (g.C.Cells.whole) (g.C.Cells.place) i.stays c.compute.ensures.stays) c.effect.ensures.stays;
      tops = topped_one c.args.limit c.args.code.now _ _ c.effect.ensures.stays.0 _ _ s.goes.0 b.tops;
      halts = (c.effect.ensures.halts.0 ∙ i.halts.0, λ t. c.effect.ensures.halts.1 (i.halts.1 t));
      heeds = heeds_on _ _ _ _ _ _ (heeds_kept _ _ _ _ _ looks i.heeds) c.in-On.ensures.heeds;
      falls = omega (arith, b.falls, s.falls);
    }

pub loop-to-smaller : goal.loop-to-smaller
loop-to-smaller g c =
    let cells = g.C.Cells.cells c.loop-to.view in
    let m = record c.loop-to.m { pc = c.loop-to.pc; turns = c.loop-to.turns; looks = c.loop-to.looks; base = c.loop-to.base } in
    let cells' = g.C.Cells.cells c.compute.new.view in
    let last = c.keep-in_default.new.m in
    let e : last ≡ record m { stack = c.compute.new.stack } = kept_at (record c.loop-to.m { stack = c.compute.new.stack }) last c.loop-to.pc c.loop-to.turns c.loop-to.looks c.loop-to.base c.keep-in_default.ensures c.loop-to.invariant.base in
    let d = c.in-Other.ensures.deed in
    let same : state_of last cells' ≡ state_of m cells = ap (λ (q : Machine). state_of q cells') e ∙ ap (λ st. record (state_of m cells') { stack = reverse st }) d.1 ∙ ap (λ w. state_of m w) d.2 in
    subst (λ s. rank c.args.code.now c.args.limit (state_of c.effect.new.m (g.C.Cells.cells c.effect.new.view)) < rank c.args.code.now c.args.limit s) same c.in-On.ensures.steps.falls

pub returns-in-Raising : goal.returns-in-Raising
returns-in-Raising g c =
    let i = c.loop-to.invariant in
    let cells = g.C.Cells.cells c.loop-to.view in
    let m = record c.loop-to.m { pc = c.loop-to.pc; turns = c.loop-to.turns; looks = c.loop-to.looks; base = c.loop-to.base } in
    let cells' = g.C.Cells.cells c.compute.new.view in
    let at = ap (λ l. slice_get l c.loop-to.pc) (sym c.as_slice-instrs.ensures) ∙ c.instr_at-instr.ensures.instr in
    let a : Came c.args.limit c.args.code.now c.args.m.now (g.C.Cells.cells c.args.view.now) (g.C.Cells.floor c.loop-to.view) c.instr_at-instr.result.now m cells = record { came = i.came; ready = i.ready; calm = i.calm; clear = i.clear; within = i.within; at = at; tops = i.tops; looks = i.looks; falls = i.falls } in
    let last = c.keep-in_default.new.m in
    let e : last ≡ record m { stack = c.compute.new.stack } = kept_at (record c.loop-to.m { stack = c.compute.new.stack }) last c.loop-to.pc c.loop-to.turns c.loop-to.looks c.loop-to.base c.keep-in_default.ensures i.base in
    let looks : last.looks ≡ m.looks = ap (λ (q : Machine). q.looks) e in
    let d = c.in-Other.ensures.deed in
    let b : Came c.args.limit c.args.code.now c.args.m.now (g.C.Cells.cells c.args.view.now) (g.C.Cells.floor c.compute.new.view) c.instr_at-instr.result.now last cells' = came_kept c.args.limit c.args.code.now m (record m { stack = c.compute.new.stack }) last cells cells' e refl d.1 d.2 _ _ _ _ _ c.compute.ensures.room c.compute.ensures.stays.0 a in
    let s = c.in-Raising.ensures.steps in
    record {
      strides = raises_there c.args.limit c.args.code.now _ _ _ _ last cells' b c.effect.new.m (g.C.Cells.cells c.effect.new.view) s;
      paused = λ e. cc;
      halts = (c.effect.ensures.halts.0 ∙ i.halts.0, λ t. c.effect.ensures.halts.1 (i.halts.1 t));
      heeds = heeds_on _ _ _ _ _ _ (heeds_kept _ _ _ _ _ looks i.heeds) c.in-Raising.ensures.heeds;
      stays = stays_on (g.C.Cells.floor) (g.C.Cells.whole) (g.C.Cells.place) (stays_on (g.C.Cells.floor) (g.C.Cells.whole) (g.C.Cells.place) i.stays c.compute.ensures.stays) c.effect.ensures.stays;
      looks = looks_raised c.args.limit c.args.code.now _ _ _ _ last cells' b c.effect.new.m (g.C.Cells.cells c.effect.new.view) s (c.in-Raising.ensures.looks);
    }

pub returns-in-Stopped : goal.returns-in-Stopped
returns-in-Stopped g c =
    let i = c.loop-to.invariant in
    let cells = g.C.Cells.cells c.loop-to.view in
    let m = record c.loop-to.m { pc = c.loop-to.pc; turns = c.loop-to.turns; looks = c.loop-to.looks; base = c.loop-to.base } in
    let cells' = g.C.Cells.cells c.compute.new.view in
    let at = ap (λ l. slice_get l c.loop-to.pc) (sym c.as_slice-instrs.ensures) ∙ c.instr_at-instr.ensures.instr in
    let a : Came c.args.limit c.args.code.now c.args.m.now (g.C.Cells.cells c.args.view.now) (g.C.Cells.floor c.loop-to.view) c.instr_at-instr.result.now m cells = record { came = i.came; ready = i.ready; calm = i.calm; clear = i.clear; within = i.within; at = at; tops = i.tops; looks = i.looks; falls = i.falls } in
    let last = c.keep-in_default.new.m in
    let e : last ≡ record m { stack = c.compute.new.stack } = kept_at (record c.loop-to.m { stack = c.compute.new.stack }) last c.loop-to.pc c.loop-to.turns c.loop-to.looks c.loop-to.base c.keep-in_default.ensures i.base in
    let looks : last.looks ≡ m.looks = ap (λ (q : Machine). q.looks) e in
    let d = c.in-Other.ensures.deed in
    let b : Came c.args.limit c.args.code.now c.args.m.now (g.C.Cells.cells c.args.view.now) (g.C.Cells.floor c.compute.new.view) c.instr_at-instr.result.now last cells' = came_kept c.args.limit c.args.code.now m (record m { stack = c.compute.new.stack }) last cells cells' e refl d.1 d.2 _ _ _ _ _ c.compute.ensures.room c.compute.ensures.stays.0 a in
    let s = c.in-Stopped.ensures.steps in
    record {
      strides = stops_there c.args.limit c.args.code.now _ _ _ _ last cells' b c.effect.new.m (g.C.Cells.cells c.effect.new.view) c.in-Stopped.stop s;
      paused = λ e. let f : c.in-Stopped.stop ≡ stop.Paused = cc in c.in-Stopped.ensures.paused (ap went.Stopped f);
      halts = (c.effect.ensures.halts.0 ∙ i.halts.0, λ t. c.effect.ensures.halts.1 (i.halts.1 t));
      heeds = heeds_later c.in-Stopped.stop _ _ _ _ _ _ (heeds_kept _ _ _ _ _ looks i.heeds) c.in-Stopped.ensures.heeds;
      stays = stays_on (g.C.Cells.floor) (g.C.Cells.whole) (g.C.Cells.place) (stays_on (g.C.Cells.floor) (g.C.Cells.whole) (g.C.Cells.place) i.stays c.compute.ensures.stays) c.effect.ensures.stays;
      looks = looks_stopped c.args.limit c.args.code.now _ _ _ _ last cells' b c.effect.new.m (g.C.Cells.cells c.effect.new.view) c.in-Stopped.stop s (c.in-Stopped.ensures.looks);
    }
