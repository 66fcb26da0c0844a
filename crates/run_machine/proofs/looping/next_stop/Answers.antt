use Rattle.std.proofs.Common.{ap, refl, subst, ◌∙◌}
use Rattle.std.proofs.lemmas.Bool.{eqb-true}
use Rattle.ada_port.specs.Ports.{IsTold}
use Rattle.run_plan.specs.Plans.{plan_of}
use Rattle.stack_code.specs.declared.path.Io.{Io}
use Rattle.stack_code.specs.Machine.{Asks, Spent, Comes_to}
use Rattle.ada_machine.specs.States.{state_of}
use Rattle.ada_machine.specs.Viewed.{Seat}
use Rattle.run_machine.specs.Running.{setting_of}
use Rattle.run_machine.specs.declared.ends.How.TheVariants as how
use Rattle.run_machine.proofs.Asks.{takes_at, writes_at}
use Rattle.run_machine.proofs.Stops.{never_stuck, leaves_by, ends_done, ends_itself, ends_raised, ends_short, fork_here, fork_fine, built_so, answered_so}
use Rattle.run_machine.proofs.looping.next_stop.Goals as goal

pub go-requires-clause-ready : goal.go-requires-clause-ready
go-requires-clause-ready g c =
    c.requires.on.2.ready

pub go-requires-clause-clear : goal.go-requires-clause-clear
go-requires-clause-clear g c =
    let f = c.requires.on in never_stuck ((s : _) → IsTold (g.I.Source.state s)) (setting_of (plan_of c.args.team.now.plan.now) c.args.team.now.limit c.args.crew.now.workers) c.args.team.now.code.now f.0 f.1 c.laws.ensures.steps c.args.machine.now c.args.view.now c.args.ports.now f.2 c.laws.ensures.stops

pub go-requires-clause-within : goal.go-requires-clause-within
go-requires-clause-within g c =
    c.requires.on.2.within

pub go-requires-clause-whole : goal.go-requires-clause-whole
go-requires-clause-whole g c =
    c.requires.on.2.there

pub go-requires-clause-tops : goal.go-requires-clause-tops
go-requires-clause-tops g c =
    c.requires.on.2.tops

pub construct-requires-clause-here : goal.construct-requires-clause-here
construct-requires-clause-here g c κs within =
    let f = c.requires.on in fork_here ((s : _) → IsTold (g.I.Source.state s)) (setting_of (plan_of c.args.team.now.plan.now) c.args.team.now.limit c.args.crew.now.workers) c.args.team.now.code.now f.0 f.1 c.laws.ensures.steps c.args.machine.now c.args.view.now c.args.ports.now f.2 c.in-Construct.asked c.go.new.m c.go.new.view c.in-Construct.ensures.stops

pub construct-requires-clause-main : goal.construct-requires-clause-main
construct-requires-clause-main g c κs within =
    let f = c.requires.on in (ap (λ (s : Seat). s.held) c.go.ensures.stays.2 ∙ f.2.main)

pub construct-requires-clause-there : goal.construct-requires-clause-there
construct-requires-clause-there g c κs within =
    let f = c.requires.on in (c.go.ensures.stays.1 f.2.there)

pub construct-requires-clause-fine : goal.construct-requires-clause-fine
construct-requires-clause-fine g c κs within =
    let f = c.requires.on in fork_fine ((s : _) → IsTold (g.I.Source.state s)) (setting_of (plan_of c.args.team.now.plan.now) c.args.team.now.limit c.args.crew.now.workers) c.args.team.now.code.now f.0 f.1 c.laws.ensures.steps c.args.machine.now c.args.view.now c.args.ports.now f.2 c.in-Construct.asked c.go.new.m c.go.new.view c.in-Construct.ensures.stops c.laws-2.ensures c.go.ensures.within (c.go.ensures.stays.1 f.2.there) (c.len-many.ensures.flat (ap (λ (s : Seat). s.held) c.go.ensures.stays.2 ∙ f.2.main)) (c.len-many.ensures.main (ap (λ (s : Seat). s.held) c.go.ensures.stays.2 ∙ f.2.main))

pub returns-in-Construct : goal.returns-in-Construct
returns-in-Construct g c =
    record { stopped = λ frame before on. built_so ((s : _) → IsTold (g.I.Source.state s)) (setting_of (plan_of c.args.team.now.plan.now) c.args.team.now.limit c.args.crew.now.workers) c.args.team.now.code.now frame before c.laws.ensures.steps c.args.machine.now c.args.view.now c.args.ports.now on c.in-Construct.asked c.go.new.m c.go.new.view c.in-Construct.ensures.stops c.args.crew.now.workers (eqb-true c.args.crew.now.workers 1) c.construct.result c.construct.new.machine c.construct.new.view c.construct.ensures.built c.construct.ensures.ready c.construct.ensures.within c.construct.ensures.stays (ap (λ (s : Seat). s.held) c.go.ensures.stays.2 ∙ on.main) c.go.ensures.tops }

pub answer-requires-clause-sends : goal.answer-requires-clause-sends
answer-requires-clause-sends g c =
    let f = c.requires.on in λ piece e. writes_at c.args.team.now.limit c.args.team.now.code.now f.2.ready.low f.2.ready.valid (state_of c.args.machine.now c.args.view.now.cells) (state_of c.go.new.m c.go.new.view.cells) piece f.2.ready.stands (subst (λ (x : Io). Comes_to c.args.team.now.limit c.args.team.now.code.now (state_of c.args.machine.now c.args.view.now.cells) (Asks x) (state_of c.go.new.m c.go.new.view.cells)) e c.in-Ask.ensures.stops)

pub answer-requires-clause-gets : goal.answer-requires-clause-gets
answer-requires-clause-gets g c =
    let f = c.requires.on in λ e. takes_at c.args.team.now.limit c.args.team.now.code.now f.2.ready.low f.2.ready.valid (state_of c.args.machine.now c.args.view.now.cells) (state_of c.go.new.m c.go.new.view.cells) f.2.ready.stands (subst (λ (x : Io). Comes_to c.args.team.now.limit c.args.team.now.code.now (state_of c.args.machine.now c.args.view.now.cells) (Asks x) (state_of c.go.new.m c.go.new.view.cells)) e c.in-Ask.ensures.stops)

pub returns-in-Ask : goal.returns-in-Ask
returns-in-Ask g c =
    record { stopped = λ frame before on. answered_so ((s : _) → IsTold (g.I.Source.state s)) (setting_of (plan_of c.args.team.now.plan.now) c.args.team.now.limit c.args.crew.now.workers) c.args.team.now.code.now frame before c.laws.ensures.steps c.args.machine.now c.args.view.now c.args.ports.now on c.go.new.m c.answer.new.machine c.go.new.view c.answer.new.ports c.go.ensures.within c.laws.ensures.gets c.in-Ask.io c.in-Ask.ensures.stops (ap (λ (s : Seat). s.held) c.go.ensures.stays.2 ∙ on.main) (c.go.ensures.stays.1 on.there) c.go.ensures.tops c.answer.result c.answer.ensures.answers }

pub returns-in-Done : goal.returns-in-Done
returns-in-Done g c =
    record { stopped = λ frame before on. ends_done ((s : _) → IsTold (g.I.Source.state s)) (setting_of (plan_of c.args.team.now.plan.now) c.args.team.now.limit c.args.crew.now.workers) c.args.team.now.code.now frame before c.laws.ensures.steps c.args.machine.now c.args.view.now c.args.ports.now on c.laws.ensures.stops c.in-Done.field-0 c.go.new.m c.go.new.view c.in-Done.ensures.stops ((ap (λ (s : Seat). s.held) c.go.ensures.stays.2 ∙ on.main), (c.go.ensures.stays.1 on.there)) }

pub left_by-requires : goal.left_by-requires
left_by-requires g c =
    let f = c.requires.on in leaves_by ((s : _) → IsTold (g.I.Source.state s)) (setting_of (plan_of c.args.team.now.plan.now) c.args.team.now.limit c.args.crew.now.workers) c.args.team.now.code.now f.0 f.1 c.laws.ensures.steps c.args.machine.now c.args.view.now c.args.ports.now f.2 c.laws.ensures.stops c.in-Left.leave (state_of c.go.new.m c.go.new.view.cells) c.in-Left.ensures.stops

pub returns-in-Left : goal.returns-in-Left
returns-in-Left g c =
    record { stopped = λ frame before on. let r = leaves_by ((s : _) → IsTold (g.I.Source.state s)) (setting_of (plan_of c.args.team.now.plan.now) c.args.team.now.limit c.args.crew.now.workers) c.args.team.now.code.now frame before c.laws.ensures.steps c.args.machine.now c.args.view.now c.args.ports.now on c.laws.ensures.stops c.in-Left.leave (state_of c.go.new.m c.go.new.view.cells) c.in-Left.ensures.stops in ends_raised ((s : _) → IsTold (g.I.Source.state s)) (setting_of (plan_of c.args.team.now.plan.now) c.args.team.now.limit c.args.crew.now.workers) c.args.team.now.code.now frame before c.laws.ensures.steps c.args.machine.now c.args.view.now c.args.ports.now on c.in-Left.leave r.0 c.left_by.result c.go.new.m c.go.new.view c.in-Left.ensures.stops r.1 (c.left_by.ensures r.0 r.1) ((ap (λ (s : Seat). s.held) c.go.ensures.stays.2 ∙ on.main), (c.go.ensures.stays.1 on.there)) }

pub returns-in-Spent : goal.returns-in-Spent
returns-in-Spent g c =
    record { stopped = λ frame before on. ends_itself ((s : _) → IsTold (g.I.Source.state s)) (setting_of (plan_of c.args.team.now.plan.now) c.args.team.now.limit c.args.crew.now.workers) c.args.team.now.code.now frame before c.laws.ensures.steps c.args.machine.now c.args.view.now c.args.ports.now on Spent how.TurnsSpent c.go.new.m c.go.new.view c.in-Spent.ensures.stops refl refl ((ap (λ (s : Seat). s.held) c.go.ensures.stays.2 ∙ on.main), (c.go.ensures.stays.1 on.there)) }

pub returns-in-NoMemory : goal.returns-in-NoMemory
returns-in-NoMemory g c =
    record { stopped = λ frame before on. ends_short ((s : _) → IsTold (g.I.Source.state s)) (setting_of (plan_of c.args.team.now.plan.now) c.args.team.now.limit c.args.crew.now.workers) c.args.team.now.code.now frame before c.laws.ensures.steps c.args.machine.now c.args.view.now c.args.ports.now on c.go.new.view ((ap (λ (s : Seat). s.held) c.go.ensures.stays.2 ∙ on.main), (c.go.ensures.stays.1 on.there)) }
