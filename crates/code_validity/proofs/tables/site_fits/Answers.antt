use Rattle.std.proofs.Common.{rules, ◌≤◌, ◌↔◌, IsTrue, subst}
use Rattle.stack_code.specs.Valid.{Each, LeaseFits}
use Rattle.code_validity.proofs.Sites.{site_whole}
use Rattle.code_validity.proofs.tables.site_fits.Goals as goal

pub returns : goal.returns
returns c =
    let cells : 4 ≤ c.args.site.now.frame = search rules in
    site_whole (c.enters_site.ensures.0 c.if-not-enters_site.false) cells (c.is_earlier.ensures.0 c.if-not-is_earlier.false) (c.fold_fits.ensures.0 c.if-not-fold_fits.false)
    (subst (λ l. IsTrue c.leases_fit.result ↔ Each l (λ n lease. LeaseFits c.args.code.now c.args.site.now.around lease.frame)) c.as_slice.ensures c.leases_fit.ensures)
