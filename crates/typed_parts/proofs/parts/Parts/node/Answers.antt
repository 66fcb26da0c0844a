use Rattle.std.proofs.Common.{sym}
use Rattle.typed_parts.proofs.Stacks.{node_is, node_none}
use Rattle.typed_parts.proofs.parts.Parts.node.Goals as goal

pub returns-in-Some : goal.returns-in-Some
returns-in-Some c = node_is _ _ _ _ _ c.self.view_is c.self.invariant (sym c.in-Some.ensures.item)

pub returns-in-None : goal.returns-in-None
returns-in-None c = (node_none _ _ _ _ c.self.view_is (sym c.in-None.ensures.item), tt)
