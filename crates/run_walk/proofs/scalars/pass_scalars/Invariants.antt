use Rattle.std.proofs.Common.{[]}
use Rattle.typed_tree.specs.Decoded.{actuals_at}
use Rattle.run_store.specs.Environment.{env_of}
use Rattle.run_parts.specs.Given.{in_list}
use Rattle.run_parts.specs.Words.{nodes_of}
use Rattle.run_walk.specs.Quick.{SameAs}
use Rattle.run_walk.specs.Walk.{pass}
use Rattle.run_walk.proofs.scalars.pass_scalars.Given as goal

-- what is left, behind the parameters so far, does what the whole does
abbrev pub invariant-loop-cell : goal.invariant-loop-cell
invariant-loop-cell g l = SameAs g.P.Port.Tells (pass l.work l.calls (actuals_at (nodes_of l.work) l.id) (env_of l.env) []) (pass l.work l.calls (actuals_at (nodes_of l.work) l.at) (env_of l.env) (in_list l.given)) l.store

abbrev pub decreases-loop-cell : goal.decreases-loop-cell
decreases-loop-cell g l = l.at
