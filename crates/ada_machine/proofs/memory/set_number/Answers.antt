use Rattle.std.proofs.Common.{pos, reverse, sym, ◌∙◌, w64, SFits}
use Rattle.std.proofs.lemmas.Int.{to_z-of_z}
use Rattle.ada_machine.proofs.Memories.{set_number_clear, set_number_in, set_number_out}
use Rattle.ada_machine.proofs.memory.set_number.Goals as goal

pub set-requires : goal.set-requires
set-requires g c =
    let fv : SFits w64 c.take-value.result = record { sfits = c.take-value.type_inv } in
    let v = to_z-of_z w64 c.take-value.result fv in
    let l = to_z-of_z w64 c.args.low c.ranges.low in
    let h = to_z-of_z w64 c.args.high c.ranges.high in
    rw v (set_number_clear c.args.pc (g.C.Cells.cells c.args.view.now) c.args.low c.args.high (pos c.args.at) c.args.stack.now.items (reverse c.take-value.new.stack.items) c.take-value.result c.requires.clear c.take-value.ensures.top (sym (simp (v, l, h) at c.is_among.ensures) ∙ c.if-is_among.true))

pub returns-then-is_among-clause-deed : goal.returns-then-is_among-clause-deed
returns-then-is_among-clause-deed g c =
    let fv : SFits w64 c.take-value.result = record { sfits = c.take-value.type_inv } in
    let v = to_z-of_z w64 c.take-value.result fv in
    let l = to_z-of_z w64 c.args.low c.ranges.low in
    let h = to_z-of_z w64 c.args.high c.ranges.high in
    set_number_in c.args.pc (g.C.Cells.cells c.args.view.now) c.args.low c.args.high (pos c.args.at) (g.C.Cells.cells c.set.new.self) c.args.stack.now.items c.take-value.new.stack.items c.take-value.result c.take-value.ensures.top (sym (simp (v, l, h) at c.is_among.ensures) ∙ c.if-is_among.true) (simp v at c.set.ensures.written)

pub returns-else-is_among-clause-deed : goal.returns-else-is_among-clause-deed
returns-else-is_among-clause-deed g c =
    let fv : SFits w64 c.take-value.result = record { sfits = c.take-value.type_inv } in
    let v = to_z-of_z w64 c.take-value.result fv in
    let l = to_z-of_z w64 c.args.low c.ranges.low in
    let h = to_z-of_z w64 c.args.high c.ranges.high in
    set_number_out c.args.pc (g.C.Cells.cells c.args.view.now) c.args.low c.args.high (pos c.args.at) c.args.stack.now.items c.take-value.new.stack.items c.take-value.result c.take-value.ensures.top (sym (simp (v, l, h) at c.is_among.ensures) ∙ c.if-is_among.false)
