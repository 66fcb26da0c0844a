use Rattle.std.proofs.Common.{arith, refl, ap, length}
use Rattle.stack_code.specs.Valid.{Has, SpotFits}
use Rattle.stack_code.proofs.Lists.{there_in, each_more, each_all}
use Rattle.code_validity.proofs.validity.instrs_fit.Goals as goal

pub loop-at-preserved : goal.loop-at-preserved
loop-at-preserved c = each_more c.args.code.now.instrs (λ at i. Has c.args.code.now.spots at (SpotFits c.args.code.now at i)) c.loop-at.at _
    (there_in c.args.code.now.instrs c.as_slice-instrs.result.now c.loop-at.at _ c.as_slice-instrs.ensures (omega (arith, ap length c.as_slice-instrs.ensures))) c.loop-at.invariant (c.instr_fits.ensures.0 c.if-not-instr_fits.false)

pub returns : goal.returns
returns c = (λ t. each_all c.args.code.now.instrs (λ at i. Has c.args.code.now.spots at (SpotFits c.args.code.now at i)) c.loop-at.at (omega (arith, ap length c.as_slice-instrs.ensures)) c.loop-at.invariant, λ h. refl)
