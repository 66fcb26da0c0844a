use Rattle.std.proofs.Common.{rules, refl, sym, ◌++◌, [], replicate}
use Rattle.run_parts.proofs.Copying.{back_from}
use Rattle.run_parts.proofs.copies.back_cells.Goals as goal

pub returns-in-Some : goal.returns-in-Some
returns-in-Some g c =
    back_from c.args.work.now c.args.store.now c.back_cells_behind.result c.kept_in_front-kept.result c.out.inside.before c.in-Some.before c.args.passed.now c.behind-rest.result.now c.out.inside.lists (replicate c.in-Some.before [] ++ c.out.inside.lists) c.args.out c.kept_in_front-kept.ensures (search rules) c.behind-rest.ensures (search rules) refl (sym c.out.view_is)
    c.back_cells_behind.ensures
