use Rattle.typed_parts.proofs.Chains.{leads_on}
use Rattle.typed_parts.proofs.parts.Parts.last_of.Goals as goal

pub loop-next-preserved : goal.loop-next-preserved
loop-next-preserved c = rw c.in_ok-push.ensures.ok (leads_on _ _ _ _ _ c.loop-next.invariant c.in-Some.ensures.0 c.in-Some.ensures.1)
