use Rattle.std.proofs.Common.{arith, refl, ap, length}
use Rattle.stack_code.specs.Valid.{SiteFits}
use Rattle.stack_code.proofs.Lists.{there, each_more, each_all}
use Rattle.code_validity.proofs.tables.sites_fit.Goals as goal

pub loop-number-preserved : goal.loop-number-preserved
loop-number-preserved c = each_more c.args.code.now.sites (SiteFits c.args.code.now) c.loop-number.number c.index-sites-number.result
    (there c.args.code.now.sites c.loop-number.number c.index-sites-number.result (omega (arith, ap length c.as_slice-sites.ensures)) (cc)) c.loop-number.invariant (c.site_fits.ensures.0 c.if-not-site_fits.false)

pub returns : goal.returns
returns c = (λ t. each_all c.args.code.now.sites (SiteFits c.args.code.now) c.loop-number.number (omega (arith, ap length c.as_slice-sites.ensures)) c.loop-number.invariant, λ h. refl)
