use Rattle.std.proofs.Common.{rules}
use Rattle.typed_tree.specs.Programs.{sub_of}
use Rattle.run_parts.specs.Words.{nodes_of}
use Rattle.run_parts.proofs.Reducing.{formal_none, formal_some}
use Rattle.run_parts.proofs.reducers.formal_of.Goals as goal

pub returns-in-None : goal.returns-in-None
returns-in-None c = formal_none c.args.work.now c.args.sub c.args.number (search rules)

pub returns-in-Some : goal.returns-in-Some
returns-in-Some c = formal_some c.args.work.now c.args.sub c.args.number c.formal_in.result (sub_of (nodes_of c.args.work.now) c.in-Some.sub) (search rules) c.formal_in.ensures
