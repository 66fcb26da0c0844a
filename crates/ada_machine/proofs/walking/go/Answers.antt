use Rattle.std.proofs.Common.{refl, ◌∙◌, arith}
use Rattle.stack_code.proofs.Runs.{comes_none, comes_on, never_on}
use Rattle.ada_machine.proofs.Walks.{stops_later}
use Rattle.ada_machine.specs.States.{state_of}
use Rattle.ada_machine.proofs.Looking.{looked_none, looked_run, looked_later}
use Rattle.ada_machine.proofs.Keeping.{stays_on, topped_comes, topped_stops}
use Rattle.leave_board.proofs.Heeding.{heeds_on}
use Rattle.ada_machine.proofs.Heeding.{heeds_later}
use Rattle.ada_machine.proofs.walking.go.Goals as goal

pub loop-stop-init : goal.loop-stop-init
loop-stop-init g c =
    let cells = g.C.Cells.cells in
    let begun = state_of c.args.m.now (cells c.args.view.now) in
    record {
      came = comes_none c.args.limit c.args.code.now begun;
      ready = c.requires.ready;
      clear = c.requires.clear;
      within = c.requires.within;
      looks = looked_none c.args.limit c.args.code.now begun c.args.m.now.looks;
      stays = (refl, λ w. w, refl);
      tops = c.requires.tops;
      halts = (refl, λ t. t);
      heeds = λ t. (t, refl);
    }

pub unwind-requires-clause-whole : goal.unwind-requires-clause-whole
unwind-requires-clause-whole g c =
    c.loop-stop.invariant.stays.1 c.requires.whole

pub unwind-requires-clause-tops : goal.unwind-requires-clause-tops
unwind-requires-clause-tops g c =
    c.loop-stop.invariant.tops

pub returns-in-Some-clause-stops : goal.returns-in-Some-clause-stops
returns-in-Some-clause-stops g c =
    stops_later c.args.limit c.args.code.now c.in-Some.stop _ _ _ c.loop-stop.invariant.came c.in-Some.ensures.unwinds.goes

pub returns-in-Some-clause-halts : goal.returns-in-Some-clause-halts
returns-in-Some-clause-halts g c =
    let i = c.loop-stop.invariant in
    (c.unwind.ensures.halts.0 ∙ i.halts.0, λ t. c.unwind.ensures.halts.1 (i.halts.1 t))

pub returns-in-Some-clause-heeds : goal.returns-in-Some-clause-heeds
returns-in-Some-clause-heeds g c =
    heeds_later c.in-Some.stop _ _ _ _ _ _ c.loop-stop.invariant.heeds c.in-Some.ensures.heeds

pub returns-in-Some-clause-stays : goal.returns-in-Some-clause-stays
returns-in-Some-clause-stays g c =
    stays_on (g.C.Cells.floor) (g.C.Cells.whole) (g.C.Cells.place) c.loop-stop.invariant.stays c.unwind.ensures.stays

pub returns-in-Some-clause-tops : goal.returns-in-Some-clause-tops
returns-in-Some-clause-tops g c =
    topped_stops c.args.limit c.args.code.now _ _ c.unwind.ensures.stays.0 _ _ c.in-Some.stop c.in-Some.ensures.unwinds.goes c.loop-stop.invariant.tops

pub returns-in-Some-clause-looks : goal.returns-in-Some-clause-looks
returns-in-Some-clause-looks g c =
    let cells = g.C.Cells.cells in
    let begun = state_of c.args.m.now (cells c.args.view.now) in
    let here = state_of c.loop-stop.m (cells c.loop-stop.view) in
    let calmed = state_of c.unwind.new.m (cells c.unwind.new.view) in
    looked_later c.args.limit c.args.code.now c.in-Some.stop begun here calmed c.args.m.now.looks c.loop-stop.m.looks c.unwind.new.m.looks c.loop-stop.invariant.looks c.in-Some.ensures.looks

pub stride-requires-clause-clear : goal.stride-requires-clause-clear
stride-requires-clause-clear g c =
    let i = c.loop-stop.invariant in
    let u = c.in-None.ensures.unwinds in
    let calm = comes_on c.args.limit c.args.code.now _ _ _ i.came u.goes.0 in
    never_on c.args.limit c.args.code.now _ _ calm c.requires.clear

pub stride-requires-clause-whole : goal.stride-requires-clause-whole
stride-requires-clause-whole g c =
    c.unwind.ensures.stays.1 (c.loop-stop.invariant.stays.1 c.requires.whole)

pub stride-requires-clause-tops : goal.stride-requires-clause-tops
stride-requires-clause-tops g c =
    let i = c.loop-stop.invariant in
    let u = c.in-None.ensures.unwinds in
    topped_comes c.args.limit c.args.code.now _ _ c.unwind.ensures.stays.0 _ _ u.goes.0 i.tops

pub returns-in-Some-stride-clause-stops : goal.returns-in-Some-stride-clause-stops
returns-in-Some-stride-clause-stops g c =
    let i = c.loop-stop.invariant in
    let u = c.in-None.ensures.unwinds in
    let calm = comes_on c.args.limit c.args.code.now _ _ _ i.came u.goes.0 in
    stops_later c.args.limit c.args.code.now c.in-Some-stride.stop _ _ _ calm c.in-Some-stride.ensures.strides.goes

pub returns-in-Some-stride-clause-halts : goal.returns-in-Some-stride-clause-halts
returns-in-Some-stride-clause-halts g c =
    let i = c.loop-stop.invariant in
    (c.stride.ensures.halts.0 ∙ c.unwind.ensures.halts.0 ∙ i.halts.0, λ t. c.stride.ensures.halts.1 (c.unwind.ensures.halts.1 (i.halts.1 t)))

pub returns-in-Some-stride-clause-heeds : goal.returns-in-Some-stride-clause-heeds
returns-in-Some-stride-clause-heeds g c =
    let i = c.loop-stop.invariant in
    heeds_later c.in-Some-stride.stop _ _ _ _ _ _ (heeds_on _ _ _ _ _ _ i.heeds c.in-None.ensures.heeds) c.in-Some-stride.ensures.heeds

pub returns-in-Some-stride-clause-stays : goal.returns-in-Some-stride-clause-stays
returns-in-Some-stride-clause-stays g c =
    let i = c.loop-stop.invariant in
    stays_on (g.C.Cells.floor) (g.C.Cells.whole) (g.C.Cells.place) (stays_on (g.C.Cells.floor) (g.C.Cells.whole) (g.C.Cells.place) i.stays c.unwind.ensures.stays) c.stride.ensures.stays

pub returns-in-Some-stride-clause-tops : goal.returns-in-Some-stride-clause-tops
returns-in-Some-stride-clause-tops g c =
    let i = c.loop-stop.invariant in
    let u = c.in-None.ensures.unwinds in
    topped_stops c.args.limit c.args.code.now _ _ c.stride.ensures.stays.0 _ _ c.in-Some-stride.stop c.in-Some-stride.ensures.strides.goes (topped_comes c.args.limit c.args.code.now _ _ c.unwind.ensures.stays.0 _ _ u.goes.0 i.tops)

pub returns-in-Some-stride-clause-looks : goal.returns-in-Some-stride-clause-looks
returns-in-Some-stride-clause-looks g c =
    let cells = g.C.Cells.cells in
    let begun = state_of c.args.m.now (cells c.args.view.now) in
    let here = state_of c.loop-stop.m (cells c.loop-stop.view) in
    let calmed = state_of c.unwind.new.m (cells c.unwind.new.view) in
    let strode = state_of c.stride.new.m (cells c.stride.new.view) in
    let looked = looked_run c.args.limit c.args.code.now begun here calmed c.args.m.now.looks c.loop-stop.m.looks c.unwind.new.m.looks c.loop-stop.invariant.looks c.in-None.ensures.looks in
    looked_later c.args.limit c.args.code.now c.in-Some-stride.stop begun calmed strode c.args.m.now.looks c.unwind.new.m.looks c.stride.new.m.looks looked c.in-Some-stride.ensures.looks

pub loop-stop-preserved : goal.loop-stop-preserved
loop-stop-preserved g c =
    let i = c.loop-stop.invariant in
    let u = c.in-None.ensures.unwinds in
    let s = c.in-None-stride.ensures.strides in
    let calm = comes_on c.args.limit c.args.code.now _ _ _ i.came u.goes.0 in
    let came = comes_on c.args.limit c.args.code.now _ _ _ calm s.goes in
    let cells = g.C.Cells.cells in
    let begun = state_of c.args.m.now (cells c.args.view.now) in
    let here = state_of c.loop-stop.m (cells c.loop-stop.view) in
    let calmed = state_of c.unwind.new.m (cells c.unwind.new.view) in
    let strode = state_of c.stride.new.m (cells c.stride.new.view) in
    let looked = looked_run c.args.limit c.args.code.now begun here calmed c.args.m.now.looks c.loop-stop.m.looks c.unwind.new.m.looks c.loop-stop.invariant.looks c.in-None.ensures.looks in
    record {
      came = came;
      ready = s.ready;
      clear = never_on c.args.limit c.args.code.now _ _ came c.requires.clear;
      within = s.within;
      looks = looked_run c.args.limit c.args.code.now begun calmed strode c.args.m.now.looks c.unwind.new.m.looks c.stride.new.m.looks looked c.in-None-stride.ensures.looks;
      stays = stays_on (g.C.Cells.floor) (g.C.Cells.whole) (g.C.Cells.place) (stays_on (g.C.Cells.floor) (g.C.Cells.whole) (g.C.Cells.place) i.stays c.unwind.ensures.stays) c.stride.ensures.stays;
      tops = topped_comes c.args.limit c.args.code.now _ _ c.stride.ensures.stays.0 _ _ s.goes (topped_comes c.args.limit c.args.code.now _ _ c.unwind.ensures.stays.0 _ _ u.goes.0 i.tops);
      halts = (c.stride.ensures.halts.0 ∙ c.unwind.ensures.halts.0 ∙ i.halts.0, λ t. c.stride.ensures.halts.1 (c.unwind.ensures.halts.1 (i.halts.1 t)));
      heeds = heeds_on _ _ _ _ _ _ (heeds_on _ _ _ _ _ _ i.heeds c.in-None.ensures.heeds) c.in-None-stride.ensures.heeds;
    }

pub loop-stop-smaller : goal.loop-stop-smaller
loop-stop-smaller g c =
    omega (arith, c.in-None-stride.ensures.strides.falls, c.in-None.ensures.unwinds.falls)
