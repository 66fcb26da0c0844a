use Rattle.std.proofs.Common.{rules, []}
use Rattle.typed_tree.specs.Decoded.{actuals_at}
use Rattle.run_store.specs.Environment.{env_of}
use Rattle.run_parts.specs.Words.{nodes_of}
use Rattle.run_walk.specs.Walk.{pass}
use Rattle.run_walk.proofs.Giving.{given_all}
use Rattle.run_walk.proofs.scalars.pass_scalars.Goals as goal

pub returns : goal.returns
returns g c = given_all g.P.Port.Tells c.args.work.now c.args.calls (env_of c.args.env.now) c.args.store.now (pass c.args.work.now c.args.calls (actuals_at (nodes_of c.args.work.now) c.args.id) (env_of c.args.env.now) []) c.loop-cell.given (actuals_at (nodes_of c.args.work.now) c.loop-cell.at) c.loop-cell.invariant (search rules)
