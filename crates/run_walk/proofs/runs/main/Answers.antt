use Rattle.run_walk.proofs.Running.{main_shows}
use Rattle.run_walk.proofs.runs.main.Goals as goal

pub returns : goal.returns
returns g c = rw c.main_ended.ensures (main_shows c.args.work.now c.body-how.result c.args.store.now c.body-how.new.store c.body-how.ensures)
