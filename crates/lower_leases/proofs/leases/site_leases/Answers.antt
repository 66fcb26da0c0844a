use Rattle.typed_tree.specs.Programs.{program}
use Rattle.lower_leases.proofs.Lent.{stands_nowhere}
use Rattle.lower_leases.proofs.leases.site_leases.Goals as goal

pub returns-in-None : goal.returns-in-None
returns-in-None c = stands_nowhere (program c.args.found.typed.now) c.args.found.homes.now c.args.found.standings.now c.args.grants.now c.args.site c.new.result c.new.ensures c.in-None.ensures
