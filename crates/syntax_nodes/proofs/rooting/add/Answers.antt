use Rattle.std.proofs.Common.{rules, arith}
use Rattle.syntax_nodes.proofs.Stacks.{add-is, add-kept, fit-more}
use Rattle.syntax_nodes.proofs.rooting.add.Goals as goal

pub returns-clause-ok : goal.returns-clause-ok
returns-clause-ok c = rw (c.in_ok-push.ensures.ok) (add-is c.args.nodes.now c.args.node _ (omega (arith, c.len-count.ensures)))

pub returns-clause-kept : goal.returns-clause-kept
returns-clause-kept c = rw (c.in_ok-push.ensures.ok) (add-kept c.args.nodes.now c.args.node c.args.roots.now c.requires.fit)

pub returns-clause-fit : goal.returns-clause-fit
returns-clause-fit c = search (rules, fit-more c.args.nodes.now c.args.node c.args.roots.now c.requires.below c.requires.fit)
