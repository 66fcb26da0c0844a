use Rattle.std.proofs.Common.{rules}
use Rattle.syntax_nodes.proofs.Stacks.{stack-snoc, fit-hold}
use Rattle.syntax_nodes.proofs.rooting.hold.Goals as goal

pub returns-clause-ok : goal.returns-clause-ok
returns-clause-ok c = search (rules, stack-snoc c.args.nodes.now c.args.roots.now c.args.root)

pub returns-clause-fit : goal.returns-clause-fit
returns-clause-fit c = search (rules, fit-hold c.args.nodes.now c.args.roots.now c.args.root)
