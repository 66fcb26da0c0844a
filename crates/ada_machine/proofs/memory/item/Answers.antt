use Rattle.std.proofs.Common.{ℤ, ◌∷◌, reverse, sym, ap, ◌∙◌, subst, w64, SFits, rules}
use Rattle.std.proofs.lemmas.Int.{to_z-of_z}
use Rattle.std.specs.Prelude.{IsSome}
use Rattle.ada_base.specs.Cells.{seen}
use Rattle.ada_machine.proofs.Memories.{item_clear, item_at_cell, item_out, item_place, there_same}
use Rattle.ada_machine.proofs.memory.item.Goals as goal

pub place-requires : goal.place-requires
place-requires g c =
    let fa : SFits w64 c.take-address.result = record { sfits = c.take-address.type_inv } in
    let fn : SFits w64 c.take-number.result = record { sfits = c.take-number.type_inv } in
    let a = to_z-of_z w64 c.take-address.result fa in
    let n = to_z-of_z w64 c.take-number.result fn in
    record {
      there = there_same (g.C.Cells.cells c.args.view.now) c.args.dimension.low c.args.dimension.high c.take-address.result _ c.take-number.result _ c.args.dimension.size a n
          (item_place c.args.pc c.args.dimension.low c.args.dimension.high c.args.dimension.size (g.C.Cells.cells c.args.view.now) c.args.stack.now.items c.take-number.new.stack.items (reverse c.take-address.new.stack.items) c.take-address.result c.take-number.result c.requires.clear c.take-number.ensures.top c.take-address.ensures.top);
    }

pub read_at-value-requires : goal.read_at-value-requires
read_at-value-requires g c =
    let fa : SFits w64 c.take-address.result = record { sfits = c.take-address.type_inv } in
    let fn : SFits w64 c.take-number.result = record { sfits = c.take-number.type_inv } in
    let a = to_z-of_z w64 c.take-address.result fa in
    let n = to_z-of_z w64 c.take-number.result fn in
    let ft : SFits w64 c.in-At.to = search rules in
    subst (λ (z : ℤ). IsSome (seen (g.C.Cells.cells c.args.view.now) z)) (sym (to_z-of_z w64 c.in-At.to ft))
    (item_clear c.args.pc c.args.dimension.low c.args.dimension.high c.args.dimension.size (g.C.Cells.cells c.args.view.now) c.args.stack.now.items c.take-number.new.stack.items (reverse c.take-address.new.stack.items) c.take-address.result c.take-number.result c.in-At.to c.requires.clear c.take-number.ensures.top c.take-address.ensures.top (simp (a, n) at c.in-At.ensures))

pub returns-in-At-clause-deed : goal.returns-in-At-clause-deed
returns-in-At-clause-deed g c =
    let fa : SFits w64 c.take-address.result = record { sfits = c.take-address.type_inv } in
    let fn : SFits w64 c.take-number.result = record { sfits = c.take-number.type_inv } in
    let a = to_z-of_z w64 c.take-address.result fa in
    let n = to_z-of_z w64 c.take-number.result fn in
    let fv : SFits w64 c.read_at-value.result = record { sfits = c.read_at-value.type_inv } in
    let ft : SFits w64 c.in-At.to = search rules in
    item_at_cell c.args.pc c.args.dimension.low c.args.dimension.high c.args.dimension.size (g.C.Cells.cells c.args.view.now) c.args.stack.now.items c.take-number.new.stack.items c.take-address.new.stack.items c.put.new.stack.items c.take-address.result c.take-number.result c.in-At.to c.read_at-value.result c.take-number.ensures.top c.take-address.ensures.top
    (simp (a, n) at c.in-At.ensures) (simp (to_z-of_z w64 c.in-At.to ft) at c.read_at-value.ensures) (c.put.ensures.top ∙ ap (λ z. z ∷ reverse c.take-address.new.stack.items) (to_z-of_z w64 c.read_at-value.result fv))

pub returns-in-Outside-clause-deed : goal.returns-in-Outside-clause-deed
returns-in-Outside-clause-deed g c =
    let fa : SFits w64 c.take-address.result = record { sfits = c.take-address.type_inv } in
    let fn : SFits w64 c.take-number.result = record { sfits = c.take-number.type_inv } in
    let a = to_z-of_z w64 c.take-address.result fa in
    let n = to_z-of_z w64 c.take-number.result fn in
    item_out c.args.pc c.args.dimension.low c.args.dimension.high c.args.dimension.size (g.C.Cells.cells c.args.view.now) c.args.stack.now.items c.take-number.new.stack.items c.take-address.new.stack.items c.take-address.result c.take-number.result c.take-number.ensures.top c.take-address.ensures.top (simp (a, n) at c.in-Outside.ensures)
