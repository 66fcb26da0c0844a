use Rattle.std.proofs.Common.{rules}
use Rattle.syntax_nodes.proofs.Reading.{part_zero}
use Rattle.syntax_nodes.proofs.Stacks.{stack-snoc, stack_none, fit-less, fit-last}
use Rattle.syntax_nodes.proofs.rooting.taken.Goals as goal

pub returns-in-Some-clause-is : goal.returns-in-Some-clause-is
returns-in-Some-clause-is c = search (rules, stack-snoc c.args.nodes.now c.pop.new.self c.in-Some.root)

pub returns-in-Some-clause-rest : goal.returns-in-Some-clause-rest
returns-in-Some-clause-rest c = search (rules, stack-snoc c.args.nodes.now c.pop.new.self c.in-Some.root)

pub returns-in-Some-clause-fit : goal.returns-in-Some-clause-fit
returns-in-Some-clause-fit c = search (rules, fit-less c.args.nodes.now c.pop.new.self c.in-Some.root)

pub returns-in-Some-clause-below : goal.returns-in-Some-clause-below
returns-in-Some-clause-below c = search (rules, fit-last c.args.nodes.now c.pop.new.self c.in-Some.root)

pub returns-in-None-clause-is : goal.returns-in-None-clause-is
returns-in-None-clause-is c = search (rules, stack_none c.args.nodes.now, part_zero c.args.nodes.now)

pub returns-in-None-clause-rest : goal.returns-in-None-clause-rest
returns-in-None-clause-rest c = search (rules, stack_none c.args.nodes.now)
