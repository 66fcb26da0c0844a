use Rattle.std.proofs.Common.{◌≡◌, take}
use Rattle.driver.specs.Kept.{read_over}
use Rattle.driver.proofs.kept.read.Given as goal

abbrev pub invariant-loop-at : goal.invariant-loop-at
invariant-loop-at l = l.kept ≡ read_over l.fn.kept (take l.at l.view.cells)
