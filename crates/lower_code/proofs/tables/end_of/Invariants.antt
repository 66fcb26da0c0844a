use Rattle.std.proofs.Common.{◌≡◌, ◌+◌, ◌-◌, drop, length}
use Rattle.lower_emission.specs.Tables as spec
use Rattle.lower_code.proofs.tables.end_of.Given as goal

abbrev pub invariant-loop-placed : goal.invariant-loop-placed
invariant-loop-placed l = l.fn.from + spec.stretch l.label (drop l.fn.from l.code) ≡ l.to + spec.stretch l.label (drop l.to l.code)

abbrev pub decreases-loop-placed : goal.decreases-loop-placed
decreases-loop-placed l = length l.code - l.to
