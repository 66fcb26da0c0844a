use Rattle.syntax_nodes.proofs.Stacks.{latest-none, latest-last}
use Rattle.syntax_nodes.proofs.naming.latest.Goals as goal

pub returns-then-roots-eq0 : goal.returns-then-roots-eq0
returns-then-roots-eq0 c = latest-none c.args.nodes.now c.args.roots.now c.as_slice-roots.result.now c.as_slice-roots.ensures c.if-roots-eq0.true

pub returns-else-roots-eq0 : goal.returns-else-roots-eq0
returns-else-roots-eq0 c = latest-last c.args.nodes.now c.args.roots.now c.as_slice-roots.result.now c.as_slice-roots.ensures c.if-roots-eq0.false
