use Rattle.std.proofs.Common.{◌≡◌, ◌-◌, drop, length}
use Rattle.lower_code.specs.BodyTables as spec
use Rattle.lower_code.specs.BodyTables.{each}
use Rattle.lower_code.proofs.body_tables.begin_sites.Given as goal

abbrev pub invariant-loop-placed : goal.invariant-loop-placed
invariant-loop-placed l = each (λ k b. spec.site_after l.at (drop l.at l.code) k b) 0 l.sites ≡ each (λ k b. spec.site_after 0 l.code k b) 0 l.fn.sites

abbrev pub decreases-loop-placed : goal.decreases-loop-placed
decreases-loop-placed l = length l.code - l.at
