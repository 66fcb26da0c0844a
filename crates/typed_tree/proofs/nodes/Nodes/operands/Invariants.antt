use Rattle.typed_tree.proofs.ChainSteps.{Down}
use Rattle.typed_tree.proofs.nodes.Nodes.operands.Given as goal

abbrev pub invariant-loop-link : goal.invariant-loop-link
invariant-loop-link l = Down l.self l.fn.id l.first l.fn.links l.links

abbrev pub decreases-loop-link : goal.decreases-loop-link
decreases-loop-link l = l.first
