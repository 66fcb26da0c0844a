use Rattle.std.proofs.Common.{◌≡◌, ◌<◌, arith, ap, subst, length}
use Rattle.std.proofs.lemmas.List.{take_all}
use Rattle.ada_threads.specs.Shares.{share_of}
use Rattle.ada_threads.specs.Areas.{AddsLease}
use Rattle.ada_threads.proofs.LeaseCells.{Covers, covers_on, item_same, lent_all}
use Rattle.ada_threads.proofs.regions.regions_of.Goals as goal

pub loop-lease-preserved : goal.loop-lease-preserved
loop-lease-preserved c =
    let lender = c.args.lender.now in
    let j = share_of c.args.part in
    let k = c.loop-lease.lease-index in
    let now = c.loop-lease.regions.items in
    let next = c.add_lease.new.regions.items in
    let ls = c.as_slice-lease-items.ensures in
    let adds : AddsLease lender.site.now lender.asked lender.sees.now lender.many j c.lease-item.result now next = c.in_ok-add_lease.ensures in
    covers_on lender.site.now lender.asked lender.sees.now lender.many j lender.site.now.leases k _ now next (subst (λ l. k < length l) ls c.loop-lease-test.true) c.loop-lease.invariant
    (subst (λ l. AddsLease lender.site.now lender.asked lender.sees.now lender.many j l now next) (item_same c.as_slice-lease-items.result.now lender.site.now.leases k _ c.lease-item.result c.lease-item.is ls) adds)

pub returns-clause-exact : goal.returns-clause-exact
returns-clause-exact c =
    let lender = c.args.lender.now in
    let j = share_of c.args.part in
    let leases = lender.site.now.leases in
    let n : length c.as_slice-lease-items.result.now ≡ length leases = ap length c.as_slice-lease-items.ensures in
    lent_all lender.site.now lender.asked lender.sees.now lender.many j c.loop-lease.regions.items
    (subst (λ l. Covers lender.site.now lender.asked lender.sees.now lender.many j l c.loop-lease.regions.items) (take_all c.loop-lease.lease-index leases (omega (arith, n))) c.loop-lease.invariant)
