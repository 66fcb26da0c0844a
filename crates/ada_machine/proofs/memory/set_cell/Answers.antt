use Rattle.std.proofs.Common.{pos, reverse, sym, ◌∙◌, w64, SFits}
use Rattle.std.proofs.lemmas.Int.{to_z-of_z}
use Rattle.ada_machine.proofs.Memories.{set_cell_clear, set_cell_in, set_cell_out}
use Rattle.ada_machine.proofs.memory.set_cell.Goals as goal

pub set-requires : goal.set-requires
set-requires g c =
    let fv : SFits w64 c.take-value.result = record { sfits = c.take-value.type_inv } in
    let v = to_z-of_z w64 c.take-value.result fv in
    let l = to_z-of_z w64 c.args.low c.ranges.low in
    let h = to_z-of_z w64 c.args.high c.ranges.high in
    rw v (set_cell_clear c.args.pc (g.C.Cells.cells c.args.view.now) c.args.low c.args.high (pos c.args.at) c.args.stack.now.items (reverse c.take-value.new.stack.items) c.take-value.result c.requires.clear c.take-value.ensures.top (sym (simp (v, l, h) at c.is_between.ensures) ∙ c.if-is_between.true))

pub returns-then-is_between-clause-deed : goal.returns-then-is_between-clause-deed
returns-then-is_between-clause-deed g c =
    let fv : SFits w64 c.take-value.result = record { sfits = c.take-value.type_inv } in
    let v = to_z-of_z w64 c.take-value.result fv in
    let l = to_z-of_z w64 c.args.low c.ranges.low in
    let h = to_z-of_z w64 c.args.high c.ranges.high in
    set_cell_in c.args.pc (g.C.Cells.cells c.args.view.now) c.args.low c.args.high (pos c.args.at) (g.C.Cells.cells c.set.new.self) c.args.stack.now.items c.take-value.new.stack.items c.take-value.result c.take-value.ensures.top (sym (simp (v, l, h) at c.is_between.ensures) ∙ c.if-is_between.true) (simp v at c.set.ensures.written)

pub returns-else-is_between-clause-deed : goal.returns-else-is_between-clause-deed
returns-else-is_between-clause-deed g c =
    let fv : SFits w64 c.take-value.result = record { sfits = c.take-value.type_inv } in
    let v = to_z-of_z w64 c.take-value.result fv in
    let l = to_z-of_z w64 c.args.low c.ranges.low in
    let h = to_z-of_z w64 c.args.high c.ranges.high in
    set_cell_out c.args.pc (g.C.Cells.cells c.args.view.now) c.args.low c.args.high (pos c.args.at) c.args.stack.now.items c.take-value.new.stack.items c.take-value.result c.take-value.ensures.top (sym (simp (v, l, h) at c.is_between.ensures) ∙ c.if-is_between.false)
