use Rattle.typed_parts.proofs.Stacks.{none_is}
use Rattle.typed_parts.proofs.parts.Parts.none.Goals as goal

pub returns : goal.returns
returns c = none_is _ _ _ c.self.view_is c.self.invariant
