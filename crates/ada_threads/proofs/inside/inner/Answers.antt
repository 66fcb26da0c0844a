use Rattle.std.proofs.Common.{◌<◌, ◌≤◌, length, drop, arith, refl, sym, subst}
use Rattle.std.specs.Prelude.{EachIndex, slice_index, ◌^◌}
use Rattle.run_plan.specs.Plans.{plan_of}
use Rattle.stack_code.specs.declared.code.Around.TheVariants.{Site}
use Rattle.stack_code.specs.Stands.{Sees}
use Rattle.ada_threads.proofs.Inner.{at_element, below, body_has, inner_is, near_all, none_some, sees_here, site_here}
use Rattle.ada_threads.proofs.inside.inner.Goals as goal

pub bounds-as_slice-site : goal.bounds-as_slice-site
bounds-as_slice-site c =
    let h = site_here c.args.team.now.code.now c.args.machine.now c.requires.here.0 c.args.site c.requires.awaits.valid c.requires.here.1 in
    below c.args.team.now.code.now.sites c.as_slice.result.now c.args.site h.0 h.1 c.as_slice.ensures

pub invariant_of-result : goal.invariant_of-result
invariant_of-result c =
    let k = c.args.team.now.code.now in
    let m = c.args.machine.now in
    let h = site_here k m c.requires.here.0 c.args.site c.requires.awaits.valid c.requires.here.1 in
    let x = c.index-as_slice-site.result in
    let at = at_element k.sites c.args.site h.0 x h.1 c.as_slice.result.now c.as_slice.ensures c.index-as_slice-site.is in
    let f = sym c.in-Ok.ensures in
    record {
      valid = c.requires.awaits.valid;
      forward = c.requires.awaits.forward;
      planned = c.requires.planned;
      body = body_has k m c.requires.here.0 c.args.site c.requires.awaits.valid c.requires.here.1 x at x.entry refl;
      own = subst (λ l. 0 < length l) f (omega arith);
      sees = subst (λ l. Sees k (Site c.args.site) (drop 1 l)) f (sees_here k m c.requires.here.0 c.args.site c.requires.awaits.valid c.requires.here.1 x at);
      near = subst (λ l. EachIndex l (λ n. slice_index l n ≤ 2 ^ 62)) f (near_all k c.requires.awaits.low m c.requires.awaits.roomy c.args.base c.requires.near);
      within = c.requires.within;
      well = λ w site e at. absurd (none_some e);
    }

pub returns : goal.returns
returns c =
    let k = c.args.team.now.code.now in
    let m = c.args.machine.now in
    let h = site_here k m c.requires.here.0 c.args.site c.requires.awaits.valid c.requires.here.1 in
    let x = c.index-as_slice-site.result in
    let at = at_element k.sites c.args.site h.0 x h.1 c.as_slice.result.now c.as_slice.ensures c.index-as_slice-site.is in
    inner_is c.args.team.now.limit k (plan_of c.args.team.now.plan.now) c.args.base c.args.site x at m x.entry refl c.in-Ok.frames.items c.in-Ok.ensures
