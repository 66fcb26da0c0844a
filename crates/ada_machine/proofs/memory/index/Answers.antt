use Rattle.std.proofs.Common.{◌∷◌, reverse, ap, ◌∙◌, w64, SFits, rules}
use Rattle.std.proofs.lemmas.Int.{to_z-of_z}
use Rattle.ada_machine.proofs.Memories.{index_at, index_out, index_there, there_same}
use Rattle.ada_machine.proofs.memory.index.Goals as goal

pub place-requires : goal.place-requires
place-requires g c =
    let fa : SFits w64 c.take-address.result = record { sfits = c.take-address.type_inv } in
    let fn : SFits w64 c.take-number.result = record { sfits = c.take-number.type_inv } in
    let a = to_z-of_z w64 c.take-address.result fa in
    let n = to_z-of_z w64 c.take-number.result fn in
    record {
      there = there_same (g.C.Cells.cells c.args.view.now) c.args.dimension.low c.args.dimension.high c.take-address.result _ c.take-number.result _ c.args.dimension.size a n
          (index_there c.args.pc c.args.dimension.low c.args.dimension.high c.args.dimension.size (g.C.Cells.cells c.args.view.now) c.args.stack.now.items c.take-number.new.stack.items (reverse c.take-address.new.stack.items) c.take-address.result c.take-number.result c.requires.clear c.take-number.ensures.top c.take-address.ensures.top);
    }

pub returns-in-At-clause-deed : goal.returns-in-At-clause-deed
returns-in-At-clause-deed g c =
    let fa : SFits w64 c.take-address.result = record { sfits = c.take-address.type_inv } in
    let fn : SFits w64 c.take-number.result = record { sfits = c.take-number.type_inv } in
    let a = to_z-of_z w64 c.take-address.result fa in
    let n = to_z-of_z w64 c.take-number.result fn in
    let ft : SFits w64 c.in-At.to = search rules in
    index_at c.args.pc c.args.dimension.low c.args.dimension.high c.args.dimension.size (g.C.Cells.cells c.args.view.now) c.args.stack.now.items c.take-number.new.stack.items c.take-address.new.stack.items c.put.new.stack.items c.take-address.result c.take-number.result c.in-At.to c.requires.clear c.take-number.ensures.top c.take-address.ensures.top
    (simp (a, n) at c.in-At.ensures) (c.put.ensures.top ∙ ap (λ z. z ∷ reverse c.take-address.new.stack.items) (to_z-of_z w64 c.in-At.to ft))

pub returns-in-Outside-clause-deed : goal.returns-in-Outside-clause-deed
returns-in-Outside-clause-deed g c =
    let fa : SFits w64 c.take-address.result = record { sfits = c.take-address.type_inv } in
    let fn : SFits w64 c.take-number.result = record { sfits = c.take-number.type_inv } in
    let a = to_z-of_z w64 c.take-address.result fa in
    let n = to_z-of_z w64 c.take-number.result fn in
    index_out c.args.pc c.args.dimension.low c.args.dimension.high c.args.dimension.size (g.C.Cells.cells c.args.view.now) c.args.stack.now.items c.take-number.new.stack.items c.take-address.new.stack.items c.take-address.result c.take-number.result c.take-number.ensures.top c.take-address.ensures.top (simp (a, n) at c.in-Outside.ensures)
