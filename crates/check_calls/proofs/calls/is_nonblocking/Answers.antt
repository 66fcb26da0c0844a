use Rattle.check_calls.proofs.Reading.{rule_none, rule_some}
use Rattle.check_calls.proofs.calls.is_nonblocking.Goals as goal

pub returns-in-None : goal.returns-in-None
returns-in-None c = rule_none c.args.typed.now c.args.sub c.in-None.ensures

pub returns-in-Some : goal.returns-in-Some
returns-in-Some c = rule_some c.args.typed.now c.args.sub c.in-Some.found c.in-Some.ensures
