use Rattle.std.proofs.Common.{sym, subst, ap}
use Rattle.cell_memory.specs.Sight.{Sight, OwnThere}
use Rattle.tests_workers.proofs.Working.{main_there}
use Rattle.tests_workers.proofs.programs.run.Goals as goal

pub on_view-done-requires-clause-view : goal.on_view-done-requires-clause-view
on_view-done-requires-clause-view g c _ _ = (ap (λ (v : Sight). v.held) c.main-view.ensures, subst OwnThere (sym c.main-view.ensures) (main_there c.in-Ok-new.own))
