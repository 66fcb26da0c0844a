use Rattle.ada_io.proofs.Steps.{needed_digit_asks, needed_digit_fails}
use Rattle.ada_io.proofs.phases.need_digit.Goals as goal

pub returns-in-Some : goal.returns-in-Some
returns-in-Some c =
    needed_digit_asks c.args.negative c.args.magnitude c.with_digit.result c.in-Some.digit c.args.symbol c.in-Some.ensures.0 c.in-Some.ensures.1 c.with_digit.ensures

pub returns-in-None : goal.returns-in-None
returns-in-None c = needed_digit_fails c.args.negative c.args.magnitude c.args.symbol c.in-None.ensures
