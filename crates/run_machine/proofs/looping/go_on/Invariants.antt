use Rattle.std.proofs.Common.{ℕ, List}
use Rattle.ada_port.specs.Ports.{IsTold}
use Rattle.run_plan.specs.Plans.{plan_of}
use Rattle.run_machine.specs.Loops.{IsOn, Kept}
use Rattle.run_machine.specs.Running.{setting_of}
use Rattle.run_machine.proofs.looping.go_on.Given as goal

-- the run stands where the machine does, and the outside kept to it
abbrev pub invariant-loop : goal.invariant-loop
invariant-loop g l =
    (frame : ℕ) (before : List ℕ) → IsOn ((s : _) → IsTold (g.I.Source.state s)) (setting_of (plan_of l.team.plan.now) l.team.limit l.crew.workers) l.team.code.now frame before l.fn.machine l.fn.view l.fn.ports
    → IsOn ((s : _) → IsTold (g.I.Source.state s)) (setting_of (plan_of l.team.plan.now) l.team.limit l.crew.workers) l.team.code.now frame before l.machine l.view l.ports
    × Kept ((s : _) → IsTold (g.I.Source.state s)) l.fn.ports l.ports
