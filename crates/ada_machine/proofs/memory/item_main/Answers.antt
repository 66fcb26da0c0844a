use Rattle.std.proofs.Common.{◌≡◌, ℤ, pos, Some, None, sym, ◌∙◌, subst, w64, SFits, rules}
use Rattle.std.proofs.lemmas.Int.{to_z-of_z}
use Rattle.std.specs.Prelude.{IsSome}
use Rattle.ada_base.specs.Cells.{seen}
use Rattle.stack_code.specs.Deeds.{indexed}
use Rattle.ada_machine.proofs.Memories.{there_same, item_main_there, item_main_clear, item_main_at, item_main_out}
use Rattle.ada_machine.proofs.memory.item_main.Goals as goal

pub returns-in-At-clause-deed : goal.returns-in-At-clause-deed
returns-in-At-clause-deed g c =
    let fo : SFits w64 c.from.result = record { sfits = c.from.type_inv } in
    let fn : SFits w64 c.get-number.result = record { sfits = c.get-number.type_inv } in
    let o = to_z-of_z w64 c.from.result fo in
    let n = to_z-of_z w64 c.get-number.result fn in
    let ft : SFits w64 c.in-At.to = search rules in
    let t = to_z-of_z w64 c.in-At.to ft in
    let fv : SFits w64 c.read_at-value.result = record { sfits = c.read_at-value.type_inv } in
    let v = to_z-of_z w64 c.read_at-value.result fv in
    item_main_at c.args.pc c.args.dimension.low c.args.dimension.high c.args.dimension.size (g.C.Cells.cells c.args.view.now) (pos c.args.at) (pos c.args.object) c.args.stack.now.items c.put.new.stack.items c.get-number.result c.in-At.to c.read_at-value.result c.get-number.ensures
    (subst (λ (a : ℤ). indexed c.args.dimension.low c.args.dimension.high c.args.dimension.size a c.get-number.result ≡ Some c.in-At.to) (o ∙ c.from.ensures) (simp n at c.in-At.ensures)) (simp t at c.read_at-value.ensures) (simp v at c.put.ensures.top)

pub read_at-value-requires : goal.read_at-value-requires
read_at-value-requires g c =
    let fo : SFits w64 c.from.result = record { sfits = c.from.type_inv } in
    let fn : SFits w64 c.get-number.result = record { sfits = c.get-number.type_inv } in
    let o = to_z-of_z w64 c.from.result fo in
    let n = to_z-of_z w64 c.get-number.result fn in
    let ft : SFits w64 c.in-At.to = search rules in
    subst (λ (z : ℤ). IsSome (seen (g.C.Cells.cells c.args.view.now) z)) (sym (to_z-of_z w64 c.in-At.to ft))
    (item_main_clear c.args.pc c.args.dimension.low c.args.dimension.high c.args.dimension.size (g.C.Cells.cells c.args.view.now) (pos c.args.at) (pos c.args.object) c.args.stack.now.items c.get-number.result c.in-At.to c.requires.clear c.get-number.ensures (subst (λ (a : ℤ). indexed c.args.dimension.low c.args.dimension.high c.args.dimension.size a c.get-number.result ≡ Some c.in-At.to) (o ∙ c.from.ensures) (simp n at c.in-At.ensures)))

pub returns-in-Outside-clause-deed : goal.returns-in-Outside-clause-deed
returns-in-Outside-clause-deed g c =
    let fo : SFits w64 c.from.result = record { sfits = c.from.type_inv } in
    let fn : SFits w64 c.get-number.result = record { sfits = c.get-number.type_inv } in
    let o = to_z-of_z w64 c.from.result fo in
    let n = to_z-of_z w64 c.get-number.result fn in
    item_main_out c.args.pc c.args.dimension.low c.args.dimension.high c.args.dimension.size (g.C.Cells.cells c.args.view.now) (pos c.args.at) (pos c.args.object) c.args.stack.now.items c.get-number.result c.get-number.ensures (subst (λ (a : ℤ). indexed c.args.dimension.low c.args.dimension.high c.args.dimension.size a c.get-number.result ≡ None) (o ∙ c.from.ensures) (simp n at c.in-Outside.ensures))

pub place-requires : goal.place-requires
place-requires g c =
    let fo : SFits w64 c.from.result = record { sfits = c.from.type_inv } in
    let fn : SFits w64 c.get-number.result = record { sfits = c.get-number.type_inv } in
    let o = to_z-of_z w64 c.from.result fo in
    let n = to_z-of_z w64 c.get-number.result fn in
    record {
      there = there_same (g.C.Cells.cells c.args.view.now) c.args.dimension.low c.args.dimension.high (pos c.args.object) _ c.get-number.result _ c.args.dimension.size (o ∙ c.from.ensures) n
          (item_main_there c.args.pc c.args.dimension.low c.args.dimension.high c.args.dimension.size (g.C.Cells.cells c.args.view.now) (pos c.args.at) (pos c.args.object) c.args.stack.now.items c.get-number.result c.requires.clear c.get-number.ensures);
    }
