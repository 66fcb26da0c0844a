use Rattle.run_plan.specs.Plans.{plan_of}
use Rattle.run_machine.proofs.Forks.{fine_there, starts_there}
use Rattle.run_machine.proofs.looping.construct.Goals as goal

pub run_site-requires-clause-starts : goal.run_site-requires-clause-starts
run_site-requires-clause-starts g c κs within =
    starts_there c.args.team.now.limit c.args.team.now.code.now (plan_of c.args.team.now.plan.now) c.args.asked c.args.machine.now c.args.view.now.cells c.len.result c.len.ensures.many c.requires.here.0 c.requires.awaits.valid c.requires.here.1 c.in-Ok.threads.items c.in-Ok.ensures.starts

pub run_site-requires-clause-fine : goal.run_site-requires-clause-fine
run_site-requires-clause-fine g c κs within =
    fine_there c.args.team.now.limit c.args.team.now.code.now (plan_of c.args.team.now.plan.now) c.args.asked c.args.machine.now c.args.view.now.cells c.len.result c.len.ensures.many c.requires.here.0 c.requires.awaits.valid c.requires.here.1 c.in-Ok.threads.items c.in-Ok.ensures.starts c.in-Ok.ensures.lent c.requires.fine
