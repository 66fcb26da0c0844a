use Rattle.std.proofs.Common.{sym}
use Rattle.name_values.proofs.actuals.parameter_of.Goals as goal

-- src/actuals.rt:190:1
pub returns-in-Some : goal.returns-in-Some
returns-in-Some c = rw c.in-Some.is (rw (sym c.symbol.ensures) (rw (sym c.position_of-index.ensures) c.found_or_unknown.ensures))
