use Rattle.std.proofs.Common.{arith, refl}
use Rattle.driver.proofs.Leavings.{no_mark}
use Rattle.driver.proofs.refusal.text_of_mark.Goals as goal

pub returns-else-number-lt29 : goal.returns-else-number-lt29
returns-else-number-lt29 c = rw (no_mark c.args.number (omega (arith, c.if-number-lt29.false))) refl
