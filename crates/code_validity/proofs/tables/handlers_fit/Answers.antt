use Rattle.std.proofs.Common.{arith, refl, ap, length}
use Rattle.stack_code.specs.Valid.{HandlerFits}
use Rattle.stack_code.proofs.Lists.{there_in, each_more, each_all}
use Rattle.code_validity.proofs.tables.handlers_fit.Goals as goal

pub loop-number-preserved : goal.loop-number-preserved
loop-number-preserved c = each_more c.args.code.now.unwind (λ k u. HandlerFits c.args.code.now u) c.loop-number.number _
    (there_in c.args.code.now.unwind c.as_slice-entries.result.now c.loop-number.number _ c.as_slice-entries.ensures (omega (arith, ap length c.as_slice-entries.ensures))) c.loop-number.invariant (c.handler_fits.ensures.0 c.if-not-handler_fits.false)

pub returns : goal.returns
returns c = (λ t. each_all c.args.code.now.unwind (λ k u. HandlerFits c.args.code.now u) c.loop-number.number (omega (arith, ap length c.as_slice-entries.ensures)) c.loop-number.invariant, λ h. refl)
