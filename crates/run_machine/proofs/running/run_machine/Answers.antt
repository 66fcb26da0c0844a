use Rattle.std.proofs.Common.{length}
use Rattle.ada_port.specs.Ports.{IsTold}
use Rattle.run_plan.specs.Plans.{plan_of}
use Rattle.run_machine.specs.Running.{setting_of}
use Rattle.run_machine.proofs.Begun.{forward, is_on, main_stack, plan_is, sees_none, short_run, whole_run}
use Rattle.run_machine.proofs.running.run_machine.Goals as goal

pub start-requires-clause-valid : goal.start-requires-clause-valid
start-requires-clause-valid g c =
    c.requires.loaded.2.valid

pub start-requires-clause-forward : goal.start-requires-clause-forward
start-requires-clause-forward g c =
    let l = c.requires.loaded in forward l.0 c.args.team.now.code.now (length c.args.view.now.cells) l.1 l.2

pub start-requires-clause-there : goal.start-requires-clause-there
start-requires-clause-there g c =
    let l = c.requires.loaded in main_stack l.0 c.args.team.now.code.now (length c.args.view.now.cells) l.1 l.2

pub start-requires-clause-sees : goal.start-requires-clause-sees
start-requires-clause-sees g c =
    sees_none c.args.team.now.code.now

pub go_on-requires-clause-on : goal.go_on-requires-clause-on
go_on-requires-clause-on g c κs within =
    let l = c.requires.loaded in ((length c.args.view.now.cells), c.args.ports.now.put, is_on ((s : _) → IsTold (g.I.Source.state s)) c.laws.ensures.steps c.laws-2.ensures.view (setting_of (plan_of c.args.team.now.plan.now) c.args.team.now.limit c.args.crew.now.workers) (plan_is c.args.team.now.plan.now c.requires.planned) l.0 c.args.team.now.code.now (length c.args.view.now.cells) l.1 l.2 c.args.ports.now c.requires.fresh.0 c.requires.fresh.1 c.in-Ok.machine c.args.view.now (c.in-Ok.ensures.ready c.args.view.now.cells) (c.in-Ok.ensures.begun c.args.view.now.cells) c.in-Ok.ensures.entry c.requires.zeroed c.requires.main.0 c.requires.main.1)

pub returns-in-Ok-clause-runs : goal.returns-in-Ok-clause-runs
returns-in-Ok-clause-runs g c =
    let l = c.requires.loaded in whole_run ((s : _) → IsTold (g.I.Source.state s)) c.laws.ensures.steps c.laws-2.ensures.view (setting_of (plan_of c.args.team.now.plan.now) c.args.team.now.limit c.args.crew.now.workers) (plan_is c.args.team.now.plan.now c.requires.planned) l.0 c.args.team.now.code.now (length c.args.view.now.cells) l.1 l.2 c.args.ports.now c.requires.fresh.0 c.requires.fresh.1 c.laws.ensures.tells c.go_on.result c.go_on.new.ports c.go_on.new.view (c.go_on.ensures.ends (length c.args.view.now.cells) c.args.ports.now.put (is_on ((s : _) → IsTold (g.I.Source.state s)) c.laws.ensures.steps c.laws-2.ensures.view (setting_of (plan_of c.args.team.now.plan.now) c.args.team.now.limit c.args.crew.now.workers) (plan_is c.args.team.now.plan.now c.requires.planned) l.0 c.args.team.now.code.now (length c.args.view.now.cells) l.1 l.2 c.args.ports.now c.requires.fresh.0 c.requires.fresh.1 c.in-Ok.machine c.args.view.now (c.in-Ok.ensures.ready c.args.view.now.cells) (c.in-Ok.ensures.begun c.args.view.now.cells) c.in-Ok.ensures.entry c.requires.zeroed c.requires.main.0 c.requires.main.1))

pub returns-in-Err-clause-runs : goal.returns-in-Err-clause-runs
returns-in-Err-clause-runs g c =
    let l = c.requires.loaded in short_run ((s : _) → IsTold (g.I.Source.state s)) c.laws.ensures.steps c.laws-2.ensures.view (setting_of (plan_of c.args.team.now.plan.now) c.args.team.now.limit c.args.crew.now.workers) (plan_is c.args.team.now.plan.now c.requires.planned) l.0 c.args.team.now.code.now (length c.args.view.now.cells) l.1 l.2 c.args.ports.now c.requires.fresh.0 c.requires.fresh.1 c.laws.ensures.tells c.args.view.now c.requires.main

pub returns-in-Ok-clause-main : goal.returns-in-Ok-clause-main
returns-in-Ok-clause-main g c =
    let l = c.requires.loaded in (c.go_on.ensures.ends (length c.args.view.now.cells) c.args.ports.now.put (is_on ((s : _) → IsTold (g.I.Source.state s)) c.laws.ensures.steps c.laws-2.ensures.view (setting_of (plan_of c.args.team.now.plan.now) c.args.team.now.limit c.args.crew.now.workers) (plan_is c.args.team.now.plan.now c.requires.planned) l.0 c.args.team.now.code.now (length c.args.view.now.cells) l.1 l.2 c.args.ports.now c.requires.fresh.0 c.requires.fresh.1 c.in-Ok.machine c.args.view.now (c.in-Ok.ensures.ready c.args.view.now.cells) (c.in-Ok.ensures.begun c.args.view.now.cells) c.in-Ok.ensures.entry c.requires.zeroed c.requires.main.0 c.requires.main.1)).main
