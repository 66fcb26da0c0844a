use Rattle.std.proofs.Common.{◌≡◌, ◌<◌, ◌^◌, [], drop}
use Rattle.std.specs.Prelude.{vec_len}
use Rattle.run_plan.specs.Plans.{plan_of}
use Rattle.ada_machine.specs.States.{state_of}
use Rattle.ada_threads.proofs.Dealing.{Dealing}
use Rattle.ada_threads.proofs.shares.dealt.Given as goal

abbrev pub invariant-loop-size : goal.invariant-loop-size
invariant-loop-size l =
    Dealing l.team.limit l.team.code.now (plan_of l.team.plan.now) l.lender.site.now l.lender.asked (state_of l.machine []) l.lender.many l.sizes l.next.number l.next.first (drop l.size-index l.sizes) l.threads.items
    × (vec_len l.threads ≡ l.next.number) × (l.next.number < 2 ^ 32)
