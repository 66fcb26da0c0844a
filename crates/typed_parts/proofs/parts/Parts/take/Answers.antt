use Rattle.typed_parts.proofs.Stacks.{fit_latest, taken}
use Rattle.typed_parts.proofs.parts.Parts.take.Goals as goal

pub invariant_of-self : goal.invariant_of-self
invariant_of-self c = fit_latest _ _ _ _ c.latest.ensures c.self.invariant

pub returns : goal.returns
returns c = taken _ _ _ _ _ c.self.view_is c.latest.ensures c.self.invariant
