use Rattle.std.proofs.Common.{◌≡◌, ap, ◌∙◌, arith, w64}
use Rattle.std.proofs.lemmas.Int.{to_z-of_z}
use Rattle.stack_code.specs.Deeds.{loads_all, stores_all}
use Rattle.ada_machine.specs.Played.{cell_of, plays}
use Rattle.ada_machine.proofs.Stretches.{copy_moved, copy_near, plays_moved}
use Rattle.ada_machine.proofs.blocks.copy_at.Goals as goal

pub copy_up-requires-clause-clear : goal.copy_up-requires-clause-clear
copy_up-requires-clause-clear g c = copy_moved (g.C.Cells.cells c.args.view.now) c.args.count c.cell_of-from.result c.cell_of-to.result c.args.source c.args.target (omega arith)
    (c.cell_of-from.ensures ∙ ap cell_of (to_z-of_z w64 c.args.source c.ranges.source)) (c.cell_of-to.ensures ∙ ap cell_of (to_z-of_z w64 c.args.target c.ranges.target)) c.requires.clear

pub copy_up-requires-clause-near : goal.copy_up-requires-clause-near
copy_up-requires-clause-near g c = (copy_near (g.C.Cells.cells c.args.view.now) c.args.count c.cell_of-from.result c.cell_of-to.result c.args.source c.args.target (omega arith)
    (c.cell_of-from.ensures ∙ ap cell_of (to_z-of_z w64 c.args.source c.ranges.source)) (c.cell_of-to.ensures ∙ ap cell_of (to_z-of_z w64 c.args.target c.ranges.target)) c.requires.clear c.ranges.source c.ranges.target c.requires.few).1

pub copy_up-requires-clause-near_source : goal.copy_up-requires-clause-near_source
copy_up-requires-clause-near_source g c = (copy_near (g.C.Cells.cells c.args.view.now) c.args.count c.cell_of-from.result c.cell_of-to.result c.args.source c.args.target (omega arith)
    (c.cell_of-from.ensures ∙ ap cell_of (to_z-of_z w64 c.args.source c.ranges.source)) (c.cell_of-to.ensures ∙ ap cell_of (to_z-of_z w64 c.args.target c.ranges.target)) c.requires.clear c.ranges.source c.ranges.target c.requires.few).0

pub copy_down-requires-clause-clear : goal.copy_down-requires-clause-clear
copy_down-requires-clause-clear g c = copy_moved (g.C.Cells.cells c.args.view.now) c.args.count c.cell_of-from.result c.cell_of-to.result c.args.source c.args.target (omega arith)
    (c.cell_of-from.ensures ∙ ap cell_of (to_z-of_z w64 c.args.source c.ranges.source)) (c.cell_of-to.ensures ∙ ap cell_of (to_z-of_z w64 c.args.target c.ranges.target)) c.requires.clear

pub copy_down-requires-clause-near : goal.copy_down-requires-clause-near
copy_down-requires-clause-near g c = (copy_near (g.C.Cells.cells c.args.view.now) c.args.count c.cell_of-from.result c.cell_of-to.result c.args.source c.args.target (omega arith)
    (c.cell_of-from.ensures ∙ ap cell_of (to_z-of_z w64 c.args.source c.ranges.source)) (c.cell_of-to.ensures ∙ ap cell_of (to_z-of_z w64 c.args.target c.ranges.target)) c.requires.clear c.ranges.source c.ranges.target c.requires.few).1

pub copy_down-requires-clause-near_source : goal.copy_down-requires-clause-near_source
copy_down-requires-clause-near_source g c = (copy_near (g.C.Cells.cells c.args.view.now) c.args.count c.cell_of-from.result c.cell_of-to.result c.args.source c.args.target (omega arith)
    (c.cell_of-from.ensures ∙ ap cell_of (to_z-of_z w64 c.args.source c.ranges.source)) (c.cell_of-to.ensures ∙ ap cell_of (to_z-of_z w64 c.args.target c.ranges.target)) c.requires.clear c.ranges.source c.ranges.target c.requires.few).0

pub returns-then-to-from-clause-done : goal.returns-then-to-from-clause-done
returns-then-to-from-clause-done g c = plays_moved (g.C.Cells.cells c.args.view.now) c.args.count c.cell_of-from.result c.cell_of-to.result c.args.source c.args.target (omega arith)
    (c.cell_of-from.ensures ∙ ap cell_of (to_z-of_z w64 c.args.source c.ranges.source)) (c.cell_of-to.ensures ∙ ap cell_of (to_z-of_z w64 c.args.target c.ranges.target)) c.requires.clear (g.C.Cells.cells c.copy_up.new.view) c.copy_up.ensures.done

pub returns-else-to-from-clause-done : goal.returns-else-to-from-clause-done
returns-else-to-from-clause-done g c = plays_moved (g.C.Cells.cells c.args.view.now) c.args.count c.cell_of-from.result c.cell_of-to.result c.args.source c.args.target (omega arith)
    (c.cell_of-from.ensures ∙ ap cell_of (to_z-of_z w64 c.args.source c.ranges.source)) (c.cell_of-to.ensures ∙ ap cell_of (to_z-of_z w64 c.args.target c.ranges.target)) c.requires.clear (g.C.Cells.cells c.copy_down.new.view) c.copy_down.ensures.done

pub returns-then-count-eq0-clause-done : goal.returns-then-count-eq0-clause-done
returns-then-count-eq0-clause-done g c = λ d. let none : c.args.count ≡ 0 = omega arith in ap (λ n. plays (loads_all n c.args.source (λ vs. stores_all vs c.args.target d)) (g.C.Cells.cells c.args.view.now)) none
