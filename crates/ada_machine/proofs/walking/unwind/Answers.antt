use Rattle.std.proofs.Common.{refl, sym, ap, subst, ◌∙◌, arith}
use Rattle.stack_code.proofs.Runs.{comes_none, comes_one, comes_on}
use Rattle.ada_machine.specs.States.{state_of}
use Rattle.ada_machine.proofs.Walks.{stops_after}
use Rattle.ada_machine.proofs.Keeping.{stays_on, topped_one}
use Rattle.ada_machine.specs.declared.machine.Went.TheVariants as went
use Rattle.ada_machine.specs.States.{more, LooksBy}
use Rattle.ada_machine.proofs.Looking.{looked_none, looked_step, looked_stops, looks_raising}
use Rattle.leave_board.proofs.Heeding.{heeds_on}
use Rattle.ada_machine.proofs.Heeding.{heeds_later}
use Rattle.ada_machine.proofs.walking.unwind.Goals as goal

pub loop-m-init : goal.loop-m-init
loop-m-init g c = record { came = comes_none c.args.limit c.args.code.now (state_of c.args.m.now (g.C.Cells.cells c.args.view.now)); ready = c.requires.ready; within = c.requires.within; looks = looked_none c.args.limit c.args.code.now (state_of c.args.m.now (g.C.Cells.cells c.args.view.now)) c.args.m.now.looks; stays = (refl, λ w. w, refl); tops = c.requires.tops; halts = (refl, λ t. t); heeds = λ t. (t, refl); falls = omega arith }

pub returns-in-None-clause-unwinds : goal.returns-in-None-clause-unwinds
returns-in-None-clause-unwinds g c = let i = c.loop-m.invariant in record { goes = (i.came, c.in-None.is); ready = i.ready; within = i.within; falls = i.falls }

pub loop-m-preserved-in-On : goal.loop-m-preserved-in-On
loop-m-preserved-in-On g c =
    let i = c.loop-m.invariant in
    let s = c.in-On.ensures.steps in
    record {
      came = comes_on c.args.limit c.args.code.now _ _ _ i.came (comes_one c.args.limit c.args.code.now _ _ s.goes.0);
      ready = s.ready;
      within = s.within;
      stays = stays_on (g.C.Cells.floor) (g.C.Cells.whole) (g.C.Cells.place) i.stays c.raise.ensures.stays;
      tops = topped_one c.args.limit c.args.code.now _ _ c.raise.ensures.stays.0 _ _ s.goes.0 i.tops;
      looks = looked_step c.args.limit c.args.code.now (state_of c.args.m.now (g.C.Cells.cells c.args.view.now)) (state_of c.loop-m.m (g.C.Cells.cells c.loop-m.view)) (state_of c.raise.new.m (g.C.Cells.cells c.raise.new.view)) c.args.m.now.looks c.loop-m.m.looks _ i.looks refl s.goes.0 (c.in-On.ensures.looks ∙ ap (more c.loop-m.m.looks) (sym (looks_raising c.args.code.now (state_of c.loop-m.m (g.C.Cells.cells c.loop-m.view)) c.in-Some.reason c.in-Some.is)));
      halts = (c.raise.ensures.halts.0 ∙ i.halts.0, λ t. c.raise.ensures.halts.1 (i.halts.1 t));
      heeds = heeds_on _ _ _ _ _ _ i.heeds c.in-On.ensures.heeds;
      falls = omega (arith, i.falls, s.falls);
    }

pub loop-m-preserved : goal.loop-m-preserved
loop-m-preserved g c =
    let i = c.loop-m.invariant in
    let s = c.in-Raising.ensures.steps in
    record {
      came = comes_on c.args.limit c.args.code.now _ _ _ i.came (comes_one c.args.limit c.args.code.now _ _ s.goes);
      ready = s.ready;
      within = s.within;
      stays = stays_on (g.C.Cells.floor) (g.C.Cells.whole) (g.C.Cells.place) i.stays c.raise.ensures.stays;
      tops = topped_one c.args.limit c.args.code.now _ _ c.raise.ensures.stays.0 _ _ s.goes i.tops;
      looks = looked_step c.args.limit c.args.code.now (state_of c.args.m.now (g.C.Cells.cells c.args.view.now)) (state_of c.loop-m.m (g.C.Cells.cells c.loop-m.view)) (state_of c.raise.new.m (g.C.Cells.cells c.raise.new.view)) c.args.m.now.looks c.loop-m.m.looks _ i.looks refl s.goes (c.in-Raising.ensures.looks ∙ ap (more c.loop-m.m.looks) (sym (looks_raising c.args.code.now (state_of c.loop-m.m (g.C.Cells.cells c.loop-m.view)) c.in-Some.reason c.in-Some.is)));
      halts = (c.raise.ensures.halts.0 ∙ i.halts.0, λ t. c.raise.ensures.halts.1 (i.halts.1 t));
      heeds = heeds_on _ _ _ _ _ _ i.heeds c.in-Raising.ensures.heeds;
      falls = omega (arith, i.falls, s.falls);
    }

pub loop-m-smaller-in-On : goal.loop-m-smaller-in-On
loop-m-smaller-in-On g c = c.in-On.ensures.steps.falls

pub loop-m-smaller : goal.loop-m-smaller
loop-m-smaller g c = c.in-Raising.ensures.steps.falls

pub returns-in-Stopped-clause-unwinds : goal.returns-in-Stopped-clause-unwinds
returns-in-Stopped-clause-unwinds g c =
    let s = c.in-Stopped.ensures.steps in
    record { goes = stops_after c.args.limit c.args.code.now c.in-Stopped.stop _ _ _ c.loop-m.invariant.came s.goes; ready = s.ready; within = s.within; falls = tt }

pub returns-in-None-clause-halts : goal.returns-in-None-clause-halts
returns-in-None-clause-halts g c = c.loop-m.invariant.halts

pub returns-in-Stopped-clause-halts : goal.returns-in-Stopped-clause-halts
returns-in-Stopped-clause-halts g c = let i = c.loop-m.invariant in (c.raise.ensures.halts.0 ∙ i.halts.0, λ t. c.raise.ensures.halts.1 (i.halts.1 t))

pub returns-in-None-clause-stays : goal.returns-in-None-clause-stays
returns-in-None-clause-stays g c = c.loop-m.invariant.stays

pub raise-requires-clause-whole : goal.raise-requires-clause-whole
raise-requires-clause-whole g c = c.loop-m.invariant.stays.1 c.requires.whole

pub raise-requires-clause-tops : goal.raise-requires-clause-tops
raise-requires-clause-tops g c = c.loop-m.invariant.tops

pub returns-in-Stopped-clause-stays : goal.returns-in-Stopped-clause-stays
returns-in-Stopped-clause-stays g c = stays_on (g.C.Cells.floor) (g.C.Cells.whole) (g.C.Cells.place) c.loop-m.invariant.stays c.raise.ensures.stays

pub returns-in-None-clause-looks : goal.returns-in-None-clause-looks
returns-in-None-clause-looks g c = c.loop-m.invariant.looks

pub returns-in-Stopped-clause-looks : goal.returns-in-Stopped-clause-looks
returns-in-Stopped-clause-looks g c = looked_stops c.args.limit c.args.code.now c.in-Stopped.stop (state_of c.args.m.now (g.C.Cells.cells c.args.view.now)) (state_of c.loop-m.m (g.C.Cells.cells c.loop-m.view)) (state_of c.raise.new.m (g.C.Cells.cells c.raise.new.view)) c.args.m.now.looks c.loop-m.m.looks _ c.loop-m.invariant.looks refl c.in-Stopped.ensures.steps.goes
    (subst (LooksBy (went.Stopped c.in-Stopped.stop) c.loop-m.m.looks c.raise.new.m.looks) (sym (looks_raising c.args.code.now (state_of c.loop-m.m (g.C.Cells.cells c.loop-m.view)) c.in-Some.reason c.in-Some.is)) c.in-Stopped.ensures.looks)

pub returns-in-None-clause-heeds : goal.returns-in-None-clause-heeds
returns-in-None-clause-heeds g c = c.loop-m.invariant.heeds

pub returns-in-Stopped-clause-heeds : goal.returns-in-Stopped-clause-heeds
returns-in-Stopped-clause-heeds g c = heeds_later c.in-Stopped.stop _ _ _ _ _ _ c.loop-m.invariant.heeds c.in-Stopped.ensures.heeds
