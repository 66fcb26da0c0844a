use Rattle.std.proofs.Common.{◌≤◌, sym, subst}
use Rattle.machine_paths.specs.Threads.{ThreadPath}
use Rattle.ada_threads.specs.Came.{OfBody, WayWell}
use Rattle.ada_threads.proofs.Began.{came_well}
use Rattle.ada_threads.proofs.thread.MachineThread.came.Goals as goal

pub invariant_of-self : goal.invariant_of-self
invariant_of-self c =
    let i = c.self.invariant in
    record {
      valid = i.valid;
      forward = i.forward;
      planned = i.planned;
      body = i.body;
      own = i.own;
      sees = i.sees;
      near = i.near;
      within = subst (λ (p : ThreadPath). c.args.ran.turns ≤ p.limit) (sym c.self.view_is) c.requires.within;
      well = came_well c.self.inside i c.args.ran.way (subst (λ p. OfBody p (λ b. WayWell b c.args.ran.way)) (sym c.self.view_is) c.requires.well);
    }
