use Rattle.behaviours.specs.Paths.{ConstantOf}
use Rattle.ada_meaning.specs.Meaning.{constant_root}
use Rattle.run_store.specs.Environment.{env_of}
use Rattle.run_walk.proofs.Following.{gives_there}
use Rattle.run_walk.proofs.paths.constant_by_path.Goals as goal

pub returns-in-Some : goal.returns-in-Some
returns-in-Some g c = gives_there c.args.work.now (env_of c.args.env.now) g.P.Port.Tells c.args.store.now ConstantOf c.args.calls c.args.id c.constant_root-part.result.object c.constant_root-part.result.offset c.in-Some.offset (constant_root c.args.root (env_of c.args.env.now)) c.cell.result c.constant_root-part.ensures c.in-Some.ensures c.cell.ensures
