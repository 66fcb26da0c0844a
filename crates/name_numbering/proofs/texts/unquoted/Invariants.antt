use Rattle.std.proofs.Common.{◌≡◌, ◌++◌, false, length}
use Rattle.name_symbols.specs.Naming as spec
use Rattle.name_numbering.proofs.texts.unquoted.Given as goal

abbrev pub invariant-marks : goal.invariant-marks
invariant-marks l = spec.unquoted false l.bytes ≡ l.all ++ spec.unquoted l.passed l.left

abbrev pub decreases-marks : goal.decreases-marks
decreases-marks l = length l.left
