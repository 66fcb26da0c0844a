use Rattle.typed_parts.proofs.Stacks.{fit_held, hold_is}
use Rattle.typed_parts.proofs.parts.Parts.hold.Goals as goal

pub invariant_of-self-2 : goal.invariant_of-self-2
invariant_of-self-2 c = fit_held _ _ _ _ _ c.self.view_is c.in_ok-push.ensures.ok c.requires c.self.invariant

pub returns : goal.returns
returns c = hold_is _ _ _ _ _ c.self.view_is c.in_ok-push.ensures.ok
