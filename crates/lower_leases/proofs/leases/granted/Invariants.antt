use Rattle.std.proofs.Common.{◌≡◌, ◌++◌, length, Some}
use Rattle.typed_tree.specs.Programs.{program}
use Rattle.ada_lower.specs.Leases.{all_leased}
use Rattle.ada_lower.specs.Places.{names_from}
use Rattle.lower_leases.specs.Grants.{granted_by}
use Rattle.lower_leases.proofs.leases.granted.Given as goal

abbrev pub invariant-loop-grant : goal.invariant-loop-grant
invariant-loop-grant l = l.all ++ all_leased (program l.seen.typed.now) (names_from (Some l.seen.standing) l.seen.homes.now) l.seen.standing.ranges (granted_by l.rest l.site) ≡ all_leased (program l.seen.typed.now) (names_from (Some l.seen.standing) l.seen.homes.now) l.seen.standing.ranges (granted_by l.grants l.site)

abbrev pub decreases-loop-grant : goal.decreases-loop-grant
decreases-loop-grant l = length l.rest
