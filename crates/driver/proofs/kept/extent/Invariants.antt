use Rattle.std.proofs.Common.{take}
use Rattle.driver.specs.Kept.{AreWithin}
use Rattle.driver.proofs.kept.extent.Given as goal

abbrev pub invariant-loop-variable : goal.invariant-loop-variable
invariant-loop-variable l = AreWithin l.size (take l.variable-index l.variables)
