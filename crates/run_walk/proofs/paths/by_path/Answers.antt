use Rattle.std.proofs.Common.{rules}
use Rattle.run_store.specs.Environment.{env_of}
use Rattle.run_walk.proofs.Following.{follows_one, follows_two}
use Rattle.run_walk.proofs.paths.by_path.Goals as goal

pub returns-in-Some-One : goal.returns-in-Some-One
returns-in-Some-One c = follows_one c.args.work.now (env_of c.args.env.now) c.args.id c.args.offset c.in-Some-One.index c.by_parameter.result (search rules) c.by_parameter.ensures

pub returns-in-Some : goal.returns-in-Some
returns-in-Some c = follows_two c.args.work.now (env_of c.args.env.now) c.args.id c.args.offset c.in-Some.inner c.in-Some-Two.first c.in-Some-Two.second c.by_parameter-in-Some.result (search rules) c.in-Some.ensures c.by_parameter-in-Some.ensures
