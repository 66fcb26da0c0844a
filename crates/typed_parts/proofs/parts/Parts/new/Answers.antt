use Rattle.typed_parts.proofs.Stacks.{fit_new, new_parts}
use Rattle.typed_parts.proofs.parts.Parts.new.Goals as goal

pub invariant_of-result : goal.invariant_of-result
invariant_of-result c = rw (c.in_ok-push.ensures.ok, c.new-nodes.ensures, c.new.ensures) fit_new

pub returns : goal.returns
returns c = new_parts _ _ c.new.ensures
