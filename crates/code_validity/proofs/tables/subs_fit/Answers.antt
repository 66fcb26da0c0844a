use Rattle.std.proofs.Common.{arith, refl, ap, length}
use Rattle.stack_code.specs.Valid.{SubFits}
use Rattle.stack_code.proofs.Lists.{there_in, each_more, each_all}
use Rattle.code_validity.proofs.tables.subs_fit.Goals as goal

pub loop-number-preserved : goal.loop-number-preserved
loop-number-preserved c = each_more c.args.code.now.subs (SubFits c.args.code.now) c.loop-number.number _
    (there_in c.args.code.now.subs c.as_slice-subs.result.now c.loop-number.number _ c.as_slice-subs.ensures (omega (arith, ap length c.as_slice-subs.ensures))) c.loop-number.invariant (c.enters_sub.ensures.0 c.if-not-enters_sub.false)

pub returns : goal.returns
returns c = (λ t. each_all c.args.code.now.subs (SubFits c.args.code.now) c.loop-number.number (omega (arith, ap length c.as_slice-subs.ensures)) c.loop-number.invariant, λ h. refl)
