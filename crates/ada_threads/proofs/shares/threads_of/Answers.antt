use Rattle.std.proofs.Common.{[], ◌∙◌, subst}
use Rattle.behaviours.specs.Joins.{deal}
use Rattle.run_plan.specs.Plans.{plan_of}
use Rattle.ada_machine.specs.States.{state_of}
use Rattle.ada_threads.specs.Dealt.{AllDealt}
use Rattle.ada_threads.proofs.Inner.{at_element, below, site_here}
use Rattle.ada_threads.proofs.Dealing.{fits_all, inside_all, lent_so, starts_so}
use Rattle.ada_threads.proofs.shares.threads_of.Goals as goal

pub bounds-as_slice-asked : goal.bounds-as_slice-asked
bounds-as_slice-asked c =
    let k = c.args.team.now.code.now in
    let h = site_here k c.args.machine.now c.requires.here.0 c.args.asked.site c.requires.awaits.valid c.requires.here.1 in
    below k.sites c.as_slice.result.now c.args.asked.site h.0 h.1 c.as_slice.ensures

pub dealt-requires-clause-lends : goal.dealt-requires-clause-lends
dealt-requires-clause-lends c =
    let k = c.args.team.now.code.now in
    let h = site_here k c.args.machine.now c.requires.here.0 c.args.asked.site c.requires.awaits.valid c.requires.here.1 in
    record {
      site = at_element k.sites c.args.asked.site h.0 c.index-as_slice-asked.result h.1 c.as_slice.result.now c.as_slice.ensures c.index-as_slice-asked.is;
      sees = c.as_slice-2.ensures.value ∙ c.in-Ok.ensures [];
    }

pub returns-in-Some-clause-starts : goal.returns-in-Some-clause-starts
returns-in-Some-clause-starts c =
    let k = c.args.team.now.code.now in
    let plan = plan_of c.args.team.now.plan.now in
    let h = site_here k c.args.machine.now c.requires.here.0 c.args.asked.site c.requires.awaits.valid c.requires.here.1 in
    let site = c.index-as_slice-asked.result in
    let at = at_element k.sites c.args.asked.site h.0 site h.1 c.as_slice.result.now c.as_slice.ensures c.index-as_slice-asked.is in
    starts_so c.args.team.now.limit k plan c.args.asked c.args.machine.now c.args.many site at c.in-Ok-sizes_of.sizes c.in-Ok-sizes_of.ensures c.in-Some.threads.items
    (subst (λ ns. AllDealt c.args.team.now.limit k plan site c.args.asked (state_of c.args.machine.now []) c.args.many (deal 0 0 ns) c.in-Some.threads.items) c.as_slice-3.ensures c.in-Some.ensures.threads)

pub returns-in-Some-clause-fits : goal.returns-in-Some-clause-fits
returns-in-Some-clause-fits c = (
  fits_all c.args.team.now.limit c.args.team.now.code.now (plan_of c.args.team.now.plan.now) c.index-as_slice-asked.result c.args.asked (state_of c.args.machine.now []) c.args.many (deal 0 0 c.as_slice-3.result.now) c.in-Some.threads.items c.in-Some.ensures.threads,
  c.in-Some.ensures.many,
)

pub returns-in-Some-clause-inside : goal.returns-in-Some-clause-inside
returns-in-Some-clause-inside c =
    inside_all c.args.team.now.limit c.args.team.now.code.now (plan_of c.args.team.now.plan.now) c.index-as_slice-asked.result c.args.asked (state_of c.args.machine.now []) c.args.many (deal 0 0 c.as_slice-3.result.now) c.in-Some.threads.items c.in-Some.ensures.threads

pub returns-in-Some-clause-lent : goal.returns-in-Some-clause-lent
returns-in-Some-clause-lent c =
    let k = c.args.team.now.code.now in
    let plan = plan_of c.args.team.now.plan.now in
    let h = site_here k c.args.machine.now c.requires.here.0 c.args.asked.site c.requires.awaits.valid c.requires.here.1 in
    let site = c.index-as_slice-asked.result in
    let at = at_element k.sites c.args.asked.site h.0 site h.1 c.as_slice.result.now c.as_slice.ensures c.index-as_slice-asked.is in
    lent_so c.args.team.now.limit k plan c.args.asked c.args.machine.now c.args.many site at c.in-Ok-sizes_of.sizes c.in-Ok-sizes_of.ensures c.in-Some.threads.items
    (subst (λ ns. AllDealt c.args.team.now.limit k plan site c.args.asked (state_of c.args.machine.now []) c.args.many (deal 0 0 ns) c.in-Some.threads.items) c.as_slice-3.ensures c.in-Some.ensures.threads)
