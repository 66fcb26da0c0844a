use Rattle.std.proofs.Common.{rules, sym, ap, ◌∙◌, subst}
use Rattle.std.proofs.lemmas.Int.{to_z-of_z}
use mir.Syntax.{w64}
use mir.Val.{SFits, to_z, of_z}
use Rattle.cell_memory.specs.Sight.{Sight}
use Rattle.ada_workers.specs.Paths.{SamePlace}
use Rattle.tests_workers.proofs.Stepping.{there, place_set, copy_mine, copy_step, turn_step, leave_step}
use Rattle.tests_workers.proofs.walker.Walker.step_once.Goals as goal

pub returns-in-Copy-clause-step : goal.returns-in-Copy-clause-step
returns-in-Copy-clause-step g c =
    let p = c.args.self.now in let cs = c.args.view.now.cells in let fits : SFits w64 c.get-value.result = search rules in
    copy_step p cs c.in-Copy.from c.in-Copy.to (to_z w64 (of_z w64 c.get-value.result)) c.set-in-Copy.new.self.cells (there p.ops.items p.at c.index.result.now _ c.index.ensures c.requires.more c.in-Copy.is) c.requires.fine
    (to_z-of_z w64 c.get-value.result fits ∙ c.get-value.ensures) (ap (λ (s : Sight). s.cells) c.set-in-Copy.ensures)

pub returns-in-Copy-clause-place : goal.returns-in-Copy-clause-place
returns-in-Copy-clause-place g c =
    let p = c.args.self.now in let s = c.args.view.now in
    subst (λ t. SamePlace s t) (sym c.set-in-Copy.ensures)
    (place_set s c.in-Copy.to (to_z w64 (of_z w64 c.get-value.result)) c.requires.there (copy_mine p s.cells c.in-Copy.from c.in-Copy.to (there p.ops.items p.at c.index.result.now _ c.index.ensures c.requires.more c.in-Copy.is) c.requires.fine))

pub returns-else-self-clause-step : goal.returns-else-self-clause-step
returns-else-self-clause-step g c = let p = c.args.self.now in turn_step p c.args.view.now.cells (there p.ops.items p.at c.index.result.now _ c.index.ensures c.requires.more c.in-Turn.is) c.if-self.false

pub returns-in-Leave-clause-step : goal.returns-in-Leave-clause-step
returns-in-Leave-clause-step g c = let p = c.args.self.now in leave_step p c.args.view.now.cells (there p.ops.items p.at c.index.result.now _ c.index.ensures c.requires.more c.in-Leave.is)
