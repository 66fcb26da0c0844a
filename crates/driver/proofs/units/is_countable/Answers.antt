use Rattle.std.proofs.Common.{arith, ap, length, [], ◌∷◌}
use Rattle.stack_code.specs.Valid.{IsCountable}
use Rattle.stack_code.proofs.Lists.{there_in, each_more, each_all}
use Rattle.driver.proofs.Coded.{countable_all}
use Rattle.driver.proofs.units.is_countable.Goals as goal

pub loop-at-preserved : goal.loop-at-preserved
loop-at-preserved c = each_more c.args.code.now.instrs (λ at i. IsCountable (i ∷ [])) c.loop-at.at _
    (there_in c.args.code.now.instrs c.as_slice-instrs.result.now c.loop-at.at _ c.as_slice-instrs.ensures (omega (arith, ap length c.as_slice-instrs.ensures))) c.loop-at.invariant (c.is_counted.ensures c.if-not-is_counted.false)

pub returns : goal.returns
returns c = λ t. countable_all c.args.code.now.instrs (each_all c.args.code.now.instrs (λ at i. IsCountable (i ∷ [])) c.loop-at.at (omega (arith, ap length c.as_slice-instrs.ensures)) c.loop-at.invariant)
