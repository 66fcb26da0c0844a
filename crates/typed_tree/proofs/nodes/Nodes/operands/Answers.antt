use Rattle.typed_tree.proofs.ChainSteps.{down_begin, down_step}
use Rattle.typed_tree.proofs.nodes.Nodes.operands.Goals as goal

pub loop-link-init : goal.loop-link-init
loop-link-init c = down_begin _ _ _

pub loop-link-preserved : goal.loop-link-preserved
loop-link-preserved c = rw c.in_ok-push.ensures.ok (down_step _ _ _ _ _ _ _ c.loop-link.invariant c.in-Some.ensures.0 c.in-Some.ensures.1 c.in-Some.ensures.2)
