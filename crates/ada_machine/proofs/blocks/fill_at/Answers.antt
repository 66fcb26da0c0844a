use Rattle.std.proofs.Common.{◌≡◌, ℕ, ℤ, pos, replicate, sym, ap, ◌∙◌, subst, arith, w64}
use Rattle.std.proofs.lemmas.Int.{to_z-of_z}
use Rattle.stack_code.specs.Deeds.{Deed, Lacks, stores_all}
use Rattle.ada_machine.specs.Played.{cell_of, IsClear, plays}
use Rattle.ada_machine.proofs.Stretches.{fill_near, fill_moved, filled_moved}
use Rattle.ada_machine.proofs.blocks.fill_at.Goals as goal

pub fill_cells-requires-clause-near : goal.fill_cells-requires-clause-near
fill_cells-requires-clause-near g c = fill_near (g.C.Cells.cells c.args.view.now) c.args.count c.cell_of.result c.args.at c.args.value (omega arith)
    (c.cell_of.ensures ∙ ap cell_of (to_z-of_z w64 c.args.at c.ranges.at)) c.requires.clear c.ranges.at c.requires.few

pub fill_cells-requires-clause-clear : goal.fill_cells-requires-clause-clear
fill_cells-requires-clause-clear g c = subst (λ (v : ℤ). IsClear (stores_all (replicate c.args.count v) (pos c.cell_of.result) Lacks) (g.C.Cells.cells c.args.view.now)) (sym (to_z-of_z w64 c.args.value c.ranges.value))
    (fill_moved (g.C.Cells.cells c.args.view.now) c.args.count c.cell_of.result c.args.at c.args.value (omega arith) (c.cell_of.ensures ∙ ap cell_of (to_z-of_z w64 c.args.at c.ranges.at)) c.requires.clear)

pub returns-clause-done : goal.returns-clause-done
returns-clause-done g c =
    filled_moved (g.C.Cells.cells c.args.view.now) c.args.count c.cell_of.result c.args.at c.args.value (omega arith) (c.cell_of.ensures ∙ ap cell_of (to_z-of_z w64 c.args.at c.ranges.at)) c.requires.clear (g.C.Cells.cells c.fill_cells.new.view)
    (subst (λ (v : ℤ). (d : Deed) → plays (stores_all (replicate c.args.count v) (pos c.cell_of.result) d) (g.C.Cells.cells c.args.view.now) ≡ plays d (g.C.Cells.cells c.fill_cells.new.view)) (to_z-of_z w64 c.args.value c.ranges.value) c.fill_cells.ensures.done)

pub returns-then-count-eq0-clause-done : goal.returns-then-count-eq0-clause-done
returns-then-count-eq0-clause-done g c = λ d. let none : c.args.count ≡ 0 = omega arith in ap (λ (n : ℕ). plays (stores_all (replicate n c.args.value) c.args.at d) (g.C.Cells.cells c.args.view.now)) none
