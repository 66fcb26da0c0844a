use Rattle.std.proofs.Common.{arith, refl}
use Rattle.stack_code.specs.Valid.{LeaseFits}
use Rattle.stack_code.proofs.Lists.{there_in, each_more, each_all}
use Rattle.code_validity.proofs.tables.leases_fit.Goals as goal

pub loop-number-preserved : goal.loop-number-preserved
loop-number-preserved c = each_more c.args.leases.now (λ n lease. LeaseFits c.args.code.now c.args.around lease.frame) c.loop-number.number _
    (there_in c.args.leases.now c.args.leases.now c.loop-number.number c.index-leases-number.result refl (omega arith)) c.loop-number.invariant (c.lease_fits.ensures.0 c.if-not-lease_fits.false)

pub returns : goal.returns
returns c = (λ t. each_all c.args.leases.now (λ n lease. LeaseFits c.args.code.now c.args.around lease.frame) c.loop-number.number (omega arith) c.loop-number.invariant, λ h. refl)
