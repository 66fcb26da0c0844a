use Rattle.std.proofs.Common.{◌+ℤ◌, pos, reverse, w64, SFits}
use Rattle.std.proofs.lemmas.Int.{to_z-of_z}
use Rattle.std.specs.Prelude.{int_lt}
use Rattle.stack_code.specs.Deeds.{stepped}
use Rattle.ada_machine.proofs.Memories.{step_first, step_second, next_third, next_back, next_on}
use Rattle.ada_machine.proofs.Narrows.{above_fits}
use Rattle.ada_machine.proofs.memory.next.Goals as goal

pub get-x-requires : goal.get-x-requires
get-x-requires g c = step_first c.args.pc (g.C.Cells.cells c.args.view.now) (reverse c.args.stack.now.items) (pos c.args.counter) (pos c.args.last) c.args.to (λ x y. stepped c.args.pc (reverse c.args.stack.now.items) (pos c.args.counter) (int_lt x y) (x +ℤ pos 1) c.args.to) c.requires.clear

pub get-y-requires : goal.get-y-requires
get-y-requires g c = step_second c.args.pc (g.C.Cells.cells c.args.view.now) (reverse c.args.stack.now.items) (pos c.args.counter) (pos c.args.last) c.args.to (λ x y. stepped c.args.pc (reverse c.args.stack.now.items) (pos c.args.counter) (int_lt x y) (x +ℤ pos 1) c.args.to) c.get-x.result c.requires.clear c.get-x.ensures

pub overflow_add-x : goal.overflow_add-x
overflow_add-x g c =
    let fx : SFits w64 c.get-x.result = record { sfits = c.get-x.type_inv } in
    let fy : SFits w64 c.get-y.result = record { sfits = c.get-y.type_inv } in
    let x = to_z-of_z w64 c.get-x.result fx in
    let y = to_z-of_z w64 c.get-y.result fy in
    rw x (above_fits c.get-x.result c.get-y.result fx fy (simp (x, y) at c.if-x-y.true))

pub set-requires : goal.set-requires
set-requires g c =
    let fx : SFits w64 c.get-x.result = record { sfits = c.get-x.type_inv } in
    let fy : SFits w64 c.get-y.result = record { sfits = c.get-y.type_inv } in
    let x = to_z-of_z w64 c.get-x.result fx in
    let y = to_z-of_z w64 c.get-y.result fy in
    let less = simp (x, y) at c.if-x-y.true in
    rw (x, to_z-of_z w64 _ (above_fits c.get-x.result c.get-y.result fx fy less))
    (next_third c.args.pc (g.C.Cells.cells c.args.view.now) (reverse c.args.stack.now.items) (pos c.args.counter) (pos c.args.last) c.args.to c.get-x.result c.get-y.result c.requires.clear c.get-x.ensures c.get-y.ensures less)

pub returns-then-x-y-clause-done : goal.returns-then-x-y-clause-done
returns-then-x-y-clause-done g c =
    let fx : SFits w64 c.get-x.result = record { sfits = c.get-x.type_inv } in
    let fy : SFits w64 c.get-y.result = record { sfits = c.get-y.type_inv } in
    let x = to_z-of_z w64 c.get-x.result fx in
    let y = to_z-of_z w64 c.get-y.result fy in
    let less = simp (x, y) at c.if-x-y.true in
    let v = to_z-of_z w64 _ (above_fits c.get-x.result c.get-y.result fx fy less) in
    next_back c.args.pc (g.C.Cells.cells c.args.view.now) (reverse c.args.stack.now.items) (pos c.args.counter) (pos c.args.last) c.args.to c.get-x.result c.get-y.result (g.C.Cells.cells c.set.new.self) c.get-x.ensures c.get-y.ensures less (simp (x, v) at c.set.ensures.written)

pub returns-else-x-y-clause-done : goal.returns-else-x-y-clause-done
returns-else-x-y-clause-done g c =
    let fx : SFits w64 c.get-x.result = record { sfits = c.get-x.type_inv } in
    let fy : SFits w64 c.get-y.result = record { sfits = c.get-y.type_inv } in
    next_on c.args.pc (g.C.Cells.cells c.args.view.now) (reverse c.args.stack.now.items) (pos c.args.counter) (pos c.args.last) c.args.to c.get-x.result c.get-y.result c.get-x.ensures c.get-y.ensures (simp (to_z-of_z w64 c.get-x.result fx, to_z-of_z w64 c.get-y.result fy) at c.if-x-y.false)
