use Rattle.run_walk.proofs.Running.{run_shows}
use Rattle.run_walk.proofs.runs.run.Goals as goal

pub returns : goal.returns
returns g c = run_shows c.args.work.now c.main-result.result c.args.store.now c.main-result.new.store c.main-result.ensures
