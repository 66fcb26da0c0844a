use Rattle.std.proofs.Common.{arith, refl}
use Rattle.driver.proofs.Leavings.{no_word}
use Rattle.driver.proofs.refusal.text_of_reserved.Goals as goal

pub returns-else-number-lt74 : goal.returns-else-number-lt74
returns-else-number-lt74 c = rw (no_word c.args.number (omega (arith, c.if-number-lt74.false))) refl
