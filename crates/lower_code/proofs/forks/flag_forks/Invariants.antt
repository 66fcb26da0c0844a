use Rattle.std.proofs.Common.{◌≡◌, drop}
use Rattle.lower_code.specs.BodyTables as spec
use Rattle.lower_code.specs.BodyTables.{each}
use Rattle.lower_code.proofs.forks.flag_forks.Given as goal

abbrev pub invariant-loop-placed : goal.invariant-loop-placed
invariant-loop-placed l = each (λ k b. spec.flag_after (drop l.placed-index l.code) k b) 0 l.flags ≡ each (λ k b. spec.flag_after l.code k b) 0 l.fn.flags
