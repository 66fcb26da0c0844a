use Rattle.std.proofs.Common.{rules}
use Rattle.typed_tree.specs.Decoded.{expr_at, selections_at}
use Rattle.run_store.specs.Environment.{env_of}
use Rattle.run_parts.specs.Words.{nodes_of}
use Rattle.run_walk.specs.Quick.{at_offset}
use Rattle.run_walk.specs.Walk.{select}
use Rattle.run_walk.proofs.Quickly.{unary_quick, places_end}
use Rattle.run_walk.proofs.quick.+quick.Goals as goal

pub quick-returns-in-Unary : goal.quick-returns-in-Unary
quick-returns-in-Unary g t c = unary_quick g.P.Port.Tells c.args.work.now c.args.calls (env_of c.args.env.now) c.args.store.now c.in-Unary.at c.in-Unary.sign c.in-Unary.class (expr_at (nodes_of c.args.work.now) c.in-Unary.operand) (expr_at (nodes_of c.args.work.now) c.args.id) c.quick_unary.result (c.quick_unary.ensures c.in-Unary.at) (search rules)

pub quick_places-returns-in-None : goal.quick_places-returns-in-None
quick_places-returns-in-None g t c = places_end g.P.Port.Tells c.args.work.now c.args.calls (env_of c.args.env.now) c.args.store.now (at_offset c.args.object) (select c.args.work.now c.args.calls (selections_at (nodes_of c.args.work.now) c.args.id) (env_of c.args.env.now) (at_offset c.args.object c.args.offset)) (selections_at (nodes_of c.args.work.now) c.loop-k.at) c.loop-k.place c.loop-k.invariant (search rules)
