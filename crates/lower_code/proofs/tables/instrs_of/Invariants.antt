use Rattle.std.proofs.Common.{◌≡◌, ◌-◌, ◌++◌, drop, length}
use Rattle.lower_emission.specs.Tables as spec
use Rattle.lower_code.proofs.tables.instrs_of.Given as goal

abbrev pub invariant-loop-placed : goal.invariant-loop-placed
invariant-loop-placed l = l.all ++ spec.instrs_from l.code l.at (drop l.at l.code) ≡ spec.instrs_from l.code 0 l.code

abbrev pub decreases-loop-placed : goal.decreases-loop-placed
decreases-loop-placed l = length l.code - l.at
