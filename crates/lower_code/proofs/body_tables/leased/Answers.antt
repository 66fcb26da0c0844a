use Rattle.std.proofs.Common.{refl, ap, drop, ◌∙◌}
use Rattle.std.proofs.lemmas.List.{drop_more}
use Rattle.lower_code.specs.BodyTables as spec
use Rattle.lower_code.proofs.Grown.{leased_kept, lease_next}
use Rattle.lower_code.proofs.TableSteps.{ended}
use Rattle.lower_code.proofs.body_tables.leased.Goals as goal

pub loop-site-preserved : goal.loop-site-preserved
loop-site-preserved c =
    let bs = c.args.begun.now in
    let k = c.loop-site.site-index in
    let h = c.loop-site.invariant in (
      leased_kept c.args.leases k bs _ _ _ _ _ _ _ (drop_more bs k _ c.loop-site-test.true) c.next_lease-list.ensures.0 h.1 c.in_ok-site_by.ensures.is c.in_ok-push.ensures.ok h.0,
      c.next_lease-list.ensures.1 ∙ (ap (drop 1) h.1 ∙ lease_next c.args.leases k),
    )

pub returns : goal.returns
returns c = ended (spec.sites_from c.args.leases c.loop-site.site-index) c.args.begun.now c.loop-site.site-index _ _ refl c.loop-site-test.false c.loop-site.invariant.0
