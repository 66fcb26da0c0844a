use Rattle.std.proofs.Common.{arith, drop}
use Rattle.run_reports.specs.declared.ends.CellKind.TheVariants as kind
use Rattle.run_reports.proofs.Cells.{cells_next, cells_spent}
use Rattle.run_reports.proofs.vars.push_cells.Goals as goal

pub returns-then-left-eq0 : goal.returns-then-left-eq0
returns-then-left-eq0 c = cells_spent c.loop-kind.line _ (drop c.loop-kind.kind-index c.args.kinds.now) c.loop-kind.left c.loop-kind.rest.now (omega (arith, c.if-left-eq0.true)) c.loop-kind.invariant

pub loop-kind-preserved : goal.loop-kind-preserved
loop-kind-preserved c =
    rw c.behind-rest.ensures (cells_next c.loop-kind.line c.push_first.new.line _ c.args.kinds.now c.loop-kind.kind-index c.loop-kind.left c.loop-kind.rest.now kind.Truth (omega (arith, c.loop-kind-test.true)) (omega (arith, c.if-left-eq0.false))
    c.loop-kind.invariant c.in_ok-push_first.ensures)
