use Rattle.driver.proofs.Steps.{refuses_left_out, refuses_syntax, refuses_deep}
use Rattle.driver.proofs.compiler.syntax_refusal.Goals as goal

pub returns-in-LeftOut : goal.returns-in-LeftOut
returns-in-LeftOut c =
    let fault = rw c.in-LeftOut.is at c.requires in
    refuses_left_out c.args.tokens.now c.in-LeftOut.token c.of.result fault.0 fault.1 (rw (← c.place.ensures) c.of.ensures)

pub returns-in-Unexpected : goal.returns-in-Unexpected
returns-in-Unexpected c =
    let fault = rw c.in-Unexpected.is at c.requires in
    refuses_syntax c.args.tokens.now c.in-Unexpected.token c.of-in-Unexpected.result fault.0 fault.1 (rw (← c.place-in-Unexpected.ensures) c.of-in-Unexpected.ensures)

pub returns-in-TooDeep : goal.returns-in-TooDeep
returns-in-TooDeep c =
    refuses_deep c.args.tokens.now c.in-TooDeep.token c.of-in-TooDeep.result (rw c.in-TooDeep.is at c.requires) (rw (← c.place-in-TooDeep.ensures) c.of-in-TooDeep.ensures)
