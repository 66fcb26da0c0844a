use Rattle.std.proofs.Common.{pos, w64, SFits, rules}
use Rattle.std.proofs.lemmas.Int.{to_z-of_z}
use Rattle.ada_machine.proofs.Memories.{there_same, index_cell_there, index_cell_at, index_cell_out}
use Rattle.ada_machine.proofs.memory.index_cell.Goals as goal

pub returns-in-At-clause-deed : goal.returns-in-At-clause-deed
returns-in-At-clause-deed g c =
    let fa : SFits w64 c.top-address.result = record { sfits = c.top-address.type_inv } in
    let fn : SFits w64 c.get-number.result = record { sfits = c.get-number.type_inv } in
    let a = to_z-of_z w64 c.top-address.result fa in
    let n = to_z-of_z w64 c.get-number.result fn in
    let ft : SFits w64 c.in-At.to = search rules in
    let t = to_z-of_z w64 c.in-At.to ft in
    index_cell_at c.args.pc c.args.dimension.low c.args.dimension.high c.args.dimension.size (g.C.Cells.cells c.args.view.now) (pos c.args.at) c.args.stack.now.items c.set_top.new.stack.items c.top-address.result c.get-number.result c.in-At.to c.requires.clear c.get-number.ensures c.top-address.ensures
    (simp (a, n) at c.in-At.ensures) (simp t at c.set_top.ensures.top)

pub returns-in-Outside-clause-deed : goal.returns-in-Outside-clause-deed
returns-in-Outside-clause-deed g c =
    let fa : SFits w64 c.top-address.result = record { sfits = c.top-address.type_inv } in
    let fn : SFits w64 c.get-number.result = record { sfits = c.get-number.type_inv } in
    let a = to_z-of_z w64 c.top-address.result fa in
    let n = to_z-of_z w64 c.get-number.result fn in
    index_cell_out c.args.pc c.args.dimension.low c.args.dimension.high c.args.dimension.size (g.C.Cells.cells c.args.view.now) (pos c.args.at) c.args.stack.now.items c.take.new.stack.items c.top-address.result c.take.result c.get-number.result c.get-number.ensures c.top-address.ensures c.take.ensures.top
    (simp (a, n) at c.in-Outside.ensures)

pub place-requires : goal.place-requires
place-requires g c =
    let fa : SFits w64 c.top-address.result = record { sfits = c.top-address.type_inv } in
    let fn : SFits w64 c.get-number.result = record { sfits = c.get-number.type_inv } in
    let a = to_z-of_z w64 c.top-address.result fa in
    let n = to_z-of_z w64 c.get-number.result fn in
    record {
      there = there_same (g.C.Cells.cells c.args.view.now) c.args.dimension.low c.args.dimension.high c.top-address.result _ c.get-number.result _ c.args.dimension.size a n
          (index_cell_there c.args.pc c.args.dimension.low c.args.dimension.high c.args.dimension.size (g.C.Cells.cells c.args.view.now) (pos c.args.at) c.args.stack.now.items c.top-address.result c.get-number.result c.requires.clear c.get-number.ensures c.top-address.ensures);
    }
