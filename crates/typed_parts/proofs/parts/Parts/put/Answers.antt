use Rattle.typed_parts.proofs.Stacks.{fit_unheld, fit_written, put_is}
use Rattle.typed_parts.proofs.parts.Parts.put.Goals as goal

pub invariant_of-self-in_err-push : goal.invariant_of-self-in_err-push
invariant_of-self-in_err-push c =
    rw c.in_err-push.ensures.err (fit_unheld _ _ _ _ _ c.self.view_is c.in_ok-id.ensures.ok.0 c.requires c.self.invariant)

pub invariant_of-self-2 : goal.invariant_of-self-2
invariant_of-self-2 c =
    fit_written _ _ _ _ _ _ _ c.self.view_is c.in_ok-id.ensures.ok.0 c.in_ok-id.ensures.ok.1 c.in_ok-push.ensures.ok c.requires c.self.invariant

pub returns : goal.returns
returns c = put_is _ _ _ _ _ _ _ c.self.view_is c.in_ok-id.ensures.ok.0 c.in_ok-id.ensures.ok.1 c.self.invariant c.in_ok-push.ensures.ok
