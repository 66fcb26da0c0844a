use Rattle.typed_parts.specs.ClassChains.{Leads}
use Rattle.typed_tree.specs.Decoded.{part_at}
use Rattle.typed_parts.proofs.parts.Parts.last_of.Given as goal

abbrev pub invariant-loop-next : goal.invariant-loop-next
invariant-loop-next l = Leads (part_at l.self.nodes) l.fn.id l.chain l.last

abbrev pub decreases-loop-next : goal.decreases-loop-next
decreases-loop-next l = l.last
