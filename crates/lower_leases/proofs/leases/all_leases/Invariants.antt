use Rattle.std.proofs.Common.{◌≡◌, ◌++◌, length}
use Rattle.typed_tree.specs.Programs.{program}
use Rattle.ada_lower.specs.Places.{leases_from}
use Rattle.lower_leases.specs.Lent.{site_leases}
use Rattle.lower_leases.proofs.leases.all_leases.Given as goal

abbrev pub invariant-loop-others : goal.invariant-loop-others
invariant-loop-others l =
    l.all ++ leases_from (site_leases (program l.found.typed.now) l.found.homes.now l.found.standings.now l.grants) l.number l.rest ≡ leases_from (site_leases (program l.found.typed.now) l.found.homes.now l.found.standings.now l.grants) 0 (program l.found.typed.now).sites

abbrev pub decreases-loop-others : goal.decreases-loop-others
decreases-loop-others l = length l.rest
