use Rattle.std.proofs.Common.{◌≡◌, ◌++◌, drop}
use Rattle.std.specs.Vec.Iter.{into_iter_items}
use Rattle.lower_code.specs.BodyTables as spec
use Rattle.lower_code.proofs.body_tables.leased.Given as goal

abbrev pub invariant-loop-site : goal.invariant-loop-site
invariant-loop-site l = (l.all ++ spec.sites_from l.fn.leases l.site-index (drop l.site-index l.begun) ≡ spec.sites_from l.fn.leases 0 l.fn.begun) × (into_iter_items l.rest ≡ drop l.site-index l.fn.leases)
