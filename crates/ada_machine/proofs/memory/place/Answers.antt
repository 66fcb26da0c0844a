use Rattle.std.proofs.Common.{sym, ◌∙◌, rules, w64, SFits}
use Rattle.std.proofs.lemmas.Int.{to_z-of_z}
use Rattle.ada_machine.proofs.Memories.{there_near}
use Rattle.ada_machine.proofs.memory.place.Goals as goal

pub component-requires-clause-near : goal.component-requires-clause-near
component-requires-clause-near g c =
    let fl : SFits w64 c.args.dimension.low = search rules in
    let fh : SFits w64 c.args.dimension.high = search rules in
    let a = to_z-of_z w64 c.args.address c.ranges.address in
    let i = to_z-of_z w64 c.args.index c.ranges.index in
    let l = to_z-of_z w64 c.args.dimension.low fl in
    let h = to_z-of_z w64 c.args.dimension.high fh in
    rw (a, i, l) (there_near (g.C.Cells.cells c.args.view.now) c.args.dimension.low c.args.dimension.high c.args.address c.args.index c.args.dimension.size
    (simp (l, i, h) at (sym c.is_between.ensures ∙ c.if-is_between.true)) c.len-cells.ensures.small c.requires.there)
