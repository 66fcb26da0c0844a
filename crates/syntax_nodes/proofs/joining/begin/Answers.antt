use Rattle.syntax_nodes.specs.Stack.{parts}
use Rattle.syntax_nodes.proofs.Stacks.{stack_none}
use Rattle.syntax_nodes.proofs.joining.begin.Goals as goal

pub returns : goal.returns
unfolding parts
returns c = rw (c.new-2.ensures) (stack_none _)
