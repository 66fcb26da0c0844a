use Rattle.std.proofs.Common.{◌+◌, ◌<◌, ◌^◌, drop, [], arith, sym, ◌∙◌, ap, subst}
use Rattle.std.proofs.Math.ListN.{drop_of_length-le}
use Rattle.run_plan.specs.Plans.{plan_of}
use Rattle.ada_machine.specs.States.{state_of}
use Rattle.ada_threads.specs.declared.iterations.Iterations.{Iterations}
use Rattle.ada_threads.proofs.Dealing.{Dealing, dealing_first, dealing_on, dealing_last}
use Rattle.ada_threads.proofs.shares.dealt.Goals as goal

pub loop-size-init : goal.loop-size-init
loop-size-init c =
    let lender = c.args.lender.now in (
      subst (λ ts. Dealing c.args.team.now.limit c.args.team.now.code.now (plan_of c.args.team.now.plan.now) lender.site.now lender.asked (state_of c.args.machine.now []) lender.many c.args.sizes.now 0 0 c.args.sizes.now ts) (sym c.new-threads.ensures.items)
          (dealing_first c.args.team.now.limit c.args.team.now.code.now (plan_of c.args.team.now.plan.now) lender.site.now lender.asked (state_of c.args.machine.now []) lender.many c.args.sizes.now),
      c.new-threads.ensures.len,
      omega arith,
    )

pub loop-size-preserved : goal.loop-size-preserved
loop-size-preserved c =
    let lender = c.args.lender.now in
    let sizes = c.args.sizes.now in
    let l = c.loop-size in (
      subst (λ (n : Iterations). Dealing c.args.team.now.limit c.args.team.now.code.now (plan_of c.args.team.now.plan.now) lender.site.now lender.asked (state_of c.args.machine.now []) lender.many sizes n.number n.first (drop (l.size-index + 1) sizes) c.push.new.self.items) (sym c.in_ok-next.ensures.next)
          (dealing_on c.args.team.now.limit c.args.team.now.code.now (plan_of c.args.team.now.plan.now) lender.site.now lender.asked (state_of c.args.machine.now []) lender.many sizes l.next.number l.next.first l.size-index 0 l.threads.items c.push.new.self.items c.in_ok-thread.thread c.loop-size-test.true l.invariant.0 c.in_ok-thread.ensures c.in-Ok.ensures.items),
      c.in-Ok.ensures.len ∙ ap (λ n. n + 1) l.invariant.1 ∙ sym (ap (λ (n : Iterations). n.number) c.in_ok-next.ensures.next),
      c.in_ok-next.ensures.small,
    )

pub returns-clause-threads : goal.returns-clause-threads
returns-clause-threads c =
    let lender = c.args.lender.now in
    let l = c.loop-size in
    dealing_last c.args.team.now.limit c.args.team.now.code.now (plan_of c.args.team.now.plan.now) lender.site.now lender.asked (state_of c.args.machine.now []) lender.many c.args.sizes.now l.next.number l.next.first l.size-index l.threads.items
    (drop_of_length-le c.args.sizes.now c.loop-size-test.false) l.invariant.0

pub returns-clause-many : goal.returns-clause-many
returns-clause-many c = subst (λ n. n < 2 ^ 32) (sym c.loop-size.invariant.1) c.loop-size.invariant.2
