use Rattle.std.proofs.Common.{◌-ℤ◌, pos, reverse, w64, SFits}
use Rattle.std.proofs.lemmas.Int.{to_z-of_z}
use Rattle.std.specs.Prelude.{int_lt}
use Rattle.stack_code.specs.Deeds.{stepped}
use Rattle.ada_machine.proofs.Memories.{step_first, step_second, prior_third, prior_back, prior_on}
use Rattle.ada_machine.proofs.Narrows.{below_fits}
use Rattle.ada_machine.proofs.memory.prior.Goals as goal

pub get-x-requires : goal.get-x-requires
get-x-requires g c = step_first c.args.pc (g.C.Cells.cells c.args.view.now) (reverse c.args.stack.now.items) (pos c.args.counter) (pos c.args.last) c.args.to (λ x y. stepped c.args.pc (reverse c.args.stack.now.items) (pos c.args.counter) (int_lt y x) (x -ℤ pos 1) c.args.to) c.requires.clear

pub get-y-requires : goal.get-y-requires
get-y-requires g c = step_second c.args.pc (g.C.Cells.cells c.args.view.now) (reverse c.args.stack.now.items) (pos c.args.counter) (pos c.args.last) c.args.to (λ x y. stepped c.args.pc (reverse c.args.stack.now.items) (pos c.args.counter) (int_lt y x) (x -ℤ pos 1) c.args.to) c.get-x.result c.requires.clear c.get-x.ensures

pub overflow_sub-x : goal.overflow_sub-x
overflow_sub-x g c =
    let fx : SFits w64 c.get-x.result = record { sfits = c.get-x.type_inv } in
    let fy : SFits w64 c.get-y.result = record { sfits = c.get-y.type_inv } in
    let x = to_z-of_z w64 c.get-x.result fx in
    let y = to_z-of_z w64 c.get-y.result fy in
    rw x (below_fits c.get-x.result c.get-y.result fx fy (simp (x, y) at c.if-y-x.true))

pub set-requires : goal.set-requires
set-requires g c =
    let fx : SFits w64 c.get-x.result = record { sfits = c.get-x.type_inv } in
    let fy : SFits w64 c.get-y.result = record { sfits = c.get-y.type_inv } in
    let x = to_z-of_z w64 c.get-x.result fx in
    let y = to_z-of_z w64 c.get-y.result fy in
    let less = simp (x, y) at c.if-y-x.true in
    rw (x, to_z-of_z w64 _ (below_fits c.get-x.result c.get-y.result fx fy less))
    (prior_third c.args.pc (g.C.Cells.cells c.args.view.now) (reverse c.args.stack.now.items) (pos c.args.counter) (pos c.args.last) c.args.to c.get-x.result c.get-y.result c.requires.clear c.get-x.ensures c.get-y.ensures less)

pub returns-then-y-x-clause-done : goal.returns-then-y-x-clause-done
returns-then-y-x-clause-done g c =
    let fx : SFits w64 c.get-x.result = record { sfits = c.get-x.type_inv } in
    let fy : SFits w64 c.get-y.result = record { sfits = c.get-y.type_inv } in
    let x = to_z-of_z w64 c.get-x.result fx in
    let y = to_z-of_z w64 c.get-y.result fy in
    let less = simp (x, y) at c.if-y-x.true in
    let v = to_z-of_z w64 _ (below_fits c.get-x.result c.get-y.result fx fy less) in
    prior_back c.args.pc (g.C.Cells.cells c.args.view.now) (reverse c.args.stack.now.items) (pos c.args.counter) (pos c.args.last) c.args.to c.get-x.result c.get-y.result (g.C.Cells.cells c.set.new.self) c.get-x.ensures c.get-y.ensures less (simp (x, v) at c.set.ensures.written)

pub returns-else-y-x-clause-done : goal.returns-else-y-x-clause-done
returns-else-y-x-clause-done g c =
    let fx : SFits w64 c.get-x.result = record { sfits = c.get-x.type_inv } in
    let fy : SFits w64 c.get-y.result = record { sfits = c.get-y.type_inv } in
    prior_on c.args.pc (g.C.Cells.cells c.args.view.now) (reverse c.args.stack.now.items) (pos c.args.counter) (pos c.args.last) c.args.to c.get-x.result c.get-y.result c.get-x.ensures c.get-y.ensures (simp (to_z-of_z w64 c.get-x.result fx, to_z-of_z w64 c.get-y.result fy) at c.if-y-x.false)
