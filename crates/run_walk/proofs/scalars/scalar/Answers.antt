use Rattle.std.proofs.Common.{rules, to_z, of_z, w64}
use Rattle.typed_tree.specs.Decoded.{as_actual, expr_at, part_at}
use Rattle.run_store.specs.Environment.{env_of}
use Rattle.run_parts.specs.Words.{nodes_of}
use Rattle.run_walk.proofs.Giving.{scalar_in}
use Rattle.run_walk.proofs.scalars.scalar.Goals as goal

pub returns-then-is_in : goal.returns-then-is_in
returns-then-is_in g c = scalar_in g.P.Port.Tells c.args.work.now c.args.calls (env_of c.args.env.now) c.args.store.now c.in-Some-In.formal c.in-Some-In.value c.in-Some-Number.check (expr_at (nodes_of c.args.work.now) c.in-Some-Number.value) c.in-Some.x (to_z w64 (of_z w64 c.in-Some.x)) (as_actual (part_at (nodes_of c.args.work.now) c.args.id)) c.in-Some-In.field-0 c.in-Some-In.ensures.is (search rules) (search rules) c.in-Some.ensures (search rules) (search rules)
