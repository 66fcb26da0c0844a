use Rattle.std.proofs.Common.{[]}
use Rattle.run_plan.specs.Plans.{plan_of}
use Rattle.ada_machine.specs.States.{state_of}
use Rattle.ada_threads.specs.Shares.{share_of}
use Rattle.ada_threads.proofs.Dealing.{is_dealt}
use Rattle.ada_threads.proofs.shares.thread_of.Goals as goal

pub returns : goal.returns
returns c =
    let lender = c.args.lender.now in
    is_dealt c.args.team.now.limit c.args.team.now.code.now (plan_of c.args.team.now.plan.now) lender.site.now lender.asked (state_of c.args.machine.now []) lender.many (share_of c.args.part) _ lender.sees.now
    c.requires.lends.site c.requires.lends.sees c.in_ok-path.ensures c.in_ok-frame.ensures.values c.in_ok-frame.ensures.fits c.in-Ok.ensures.exact c.in-Ok.ensures.inside
