use Rattle.std.proofs.Common.{arith, refl}
use Rattle.run_store.proofs.Getting.{get_shows}
use Rattle.run_store.proofs.store.Store.get.Goals as goal

pub returns : goal.returns
returns g c = rw (c.number_of.ensures, ← c.self.view_is) (get_shows c.args.limit c.in-Some.left _ (g.P.Port.outside c.get-got.new.self) c.get-got.result refl refl (omega arith) c.get-got.ensures)
