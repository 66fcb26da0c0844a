use Rattle.driver.proofs.Coded.{has_code}
use Rattle.driver.proofs.units.lowered.Goals as goal

pub returns : goal.returns
returns c = has_code c.laws.ensures.table c.args.typed.now c.args.grants.now c.in_ok-leases.leases c.in_ok-code.code c.requires c.in_ok-leases.ensures c.in_ok-code.ensures (c.is_countable.ensures c.if-not-is_countable.false)
