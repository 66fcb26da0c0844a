use Rattle.typed_parts.proofs.Stacks.{add_is, fit_unheld}
use Rattle.typed_parts.proofs.parts.Parts.add.Goals as goal

pub invariant_of-self-2 : goal.invariant_of-self-2
invariant_of-self-2 c = fit_unheld _ _ _ _ _ c.self.view_is c.in_ok-id.ensures.ok.0 c.requires c.self.invariant

pub returns : goal.returns
returns c = add_is _ _ _ _ _ _ c.self.view_is c.in_ok-id.ensures.ok.0 c.in_ok-id.ensures.ok.1 c.self.invariant
