use Rattle.typed_parts.proofs.Stacks.{stays_put}
use Rattle.typed_parts.proofs.parts.Parts.put_on.Goals as goal

pub returns : goal.returns
returns c = (c.in_ok-put.ensures.0, stays_put _ _ _ c.in_ok-put.ensures.1)
