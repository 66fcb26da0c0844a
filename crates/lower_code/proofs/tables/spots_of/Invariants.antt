use Rattle.std.proofs.Common.{◌≡◌, ◌++◌, drop}
use Rattle.std.specs.Prelude.{None}
use Rattle.lower_emission.specs.Tables as spec
use Rattle.lower_code.proofs.tables.spots_of.Given as goal

abbrev pub invariant-loop-placed : goal.invariant-loop-placed
invariant-loop-placed l = l.all ++ spec.spots_from l.before l.begun (drop l.placed-index l.code) ≡ spec.spots_from None 0 l.code
