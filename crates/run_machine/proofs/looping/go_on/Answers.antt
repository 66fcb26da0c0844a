use Rattle.ada_port.specs.Ports.{IsTold}
use Rattle.run_plan.specs.Plans.{plan_of}
use Rattle.run_machine.specs.Running.{setting_of}
use Rattle.run_machine.specs.declared.ends.How.TheVariants as how
use Rattle.run_machine.proofs.Stops.{kept_none, kept_on, since, ends_short}
use Rattle.run_machine.proofs.looping.go_on.Goals as goal

pub loop-init : goal.loop-init
loop-init g c =
    λ frame before on. (on, kept_none ((s : _) → IsTold (g.I.Source.state s)) (setting_of (plan_of c.args.team.now.plan.now) c.args.team.now.limit c.args.crew.now.workers) c.args.team.now.code.now frame before c.args.ports.now)

pub next_stop-requires-clause-on : goal.next_stop-requires-clause-on
next_stop-requires-clause-on g c κs within =
    let f = c.requires.on in (f.0, f.1, (c.loop.invariant f.0 f.1 f.2).0)

pub loop-preserved : goal.loop-preserved
loop-preserved g c =
    λ frame before on. let i = c.loop.invariant frame before on in let s = c.in-Ok.ensures.stopped frame before i.0 in (s.0, kept_on ((s : _) → IsTold (g.I.Source.state s)) (setting_of (plan_of c.args.team.now.plan.now) c.args.team.now.limit c.args.crew.now.workers) c.args.team.now.code.now frame before c.args.ports.now c.loop.ports c.next_stop.new.ports i.1 s.1)

pub returns-in-Err : goal.returns-in-Err
returns-in-Err g c =
    record { ends = λ frame before on. let i = c.loop.invariant frame before on in since ((s : _) → IsTold (g.I.Source.state s)) (setting_of (plan_of c.args.team.now.plan.now) c.args.team.now.limit c.args.crew.now.workers) c.args.team.now.code.now frame before c.in-Err.how c.args.ports.now c.loop.ports c.next_stop.new.ports c.next_stop.new.view i.1 (c.in-Err.ensures.stopped frame before i.0) }

pub returns : goal.returns
returns g c =
    record { ends = λ frame before on. let i = c.loop.invariant frame before on in since ((s : _) → IsTold (g.I.Source.state s)) (setting_of (plan_of c.args.team.now.plan.now) c.args.team.now.limit c.args.crew.now.workers) c.args.team.now.code.now frame before how.NoMemory c.args.ports.now c.loop.ports c.loop.ports c.loop.view i.1 (ends_short ((s : _) → IsTold (g.I.Source.state s)) (setting_of (plan_of c.args.team.now.plan.now) c.args.team.now.limit c.args.crew.now.workers) c.args.team.now.code.now frame before c.laws.ensures.steps c.loop.machine c.loop.view c.loop.ports i.0 c.loop.view (i.0.main, i.0.there)) }
