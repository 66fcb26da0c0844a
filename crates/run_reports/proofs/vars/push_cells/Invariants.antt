use Rattle.std.proofs.Common.{◌≡◌, ◌++◌, drop}
use Rattle.ada_meaning.specs.Stored.{filled}
use Rattle.run_reports.specs.Vars.{cells_text}
use Rattle.run_reports.proofs.vars.push_cells.Given as goal

abbrev pub invariant-loop-kind : goal.invariant-loop-kind
invariant-loop-kind l = l.line ++ cells_text (drop l.kind-index l.kinds) (filled l.left l.rest) ≡ l.fn.line ++ cells_text l.kinds (filled l.cells l.values)
