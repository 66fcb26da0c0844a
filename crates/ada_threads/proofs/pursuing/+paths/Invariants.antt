use Rattle.std.proofs.Common.{◌≡◌, ◌+◌, ◌*◌, drop}
use Rattle.cell_memory.specs.Sight.{OwnThere, lower_length}
use Rattle.run_plan.specs.Plans.{plan_of}
use Rattle.stack_code.specs.Tops.{IsTopped}
use Rattle.ada_machine.specs.Places.{Stays}
use Rattle.ada_machine.specs.States.{state_of}
use Rattle.ada_machine.specs.Viewed.{seat_of}
use Rattle.ada_threads.specs.Came.{IsSet, Led, OrderLed}
use Rattle.ada_threads.proofs.pursuing.+paths.Given as goal

abbrev pub decreases-pursue : goal.decreases-pursue
decreases-pursue g l = 5 * l.levels

abbrev pub decreases-run_fork : goal.decreases-run_fork
decreases-run_fork g l = 5 * l.levels + 4

abbrev pub decreases-run_order : goal.decreases-run_order
decreases-run_order g l = 5 * l.levels + 3

abbrev pub decreases-run_thread : goal.decreases-run_thread
decreases-run_thread g l = 5 * l.levels + 2

abbrev pub decreases-run_body : goal.decreases-run_body
decreases-run_body g l = 5 * l.levels + 1

-- so far the path came to a machine that is ready again
abbrev pub invariant-pursue-loop : goal.invariant-pursue-loop
invariant-pursue-loop g l = record {
  set : IsSet l.team.limit l.team.code.now (plan_of l.team.plan.now) l.machine l.view.cells;
  led : Led l.team.limit l.team.code.now (plan_of l.team.plan.now) l.fn.machine l.fn.view.cells l.machine l.view.cells;
  stays : Stays lower_length OwnThere seat_of l.fn.view l.view;
  tops : IsTopped (lower_length l.view) (state_of l.machine l.view.cells);
  halts : (g.H.Halt.kept l.halt ≡ g.H.Halt.kept l.fn.halt) × (g.H.Halt.told l.fn.halt → g.H.Halt.told l.halt);
}

-- the threads that are left come to what all come to
abbrev pub invariant-run_order-loop-size : goal.invariant-run_order-loop-size
invariant-run_order-loop-size g l = record {
  led : OrderLed l.path l.fork.frame l.fork.asked l.sizes l.fn.view.cells (drop l.size-index l.sizes) l.tally l.view.cells;
  stays : Stays lower_length OwnThere seat_of l.fn.view l.view;
  halts : (g.H.Halt.kept l.halt ≡ g.H.Halt.kept l.fn.halt) × (g.H.Halt.told l.fn.halt → g.H.Halt.told l.halt);
}
