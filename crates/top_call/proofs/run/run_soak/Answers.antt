use Rattle.std.proofs.Common.{refl}
use Rattle.typed_tree.specs.Programs.{program}
use Rattle.driver.specs.Running.{setting_of}
use Rattle.ada_port.specs.Sinks.{grown_of}
use Rattle.top_call.proofs.Soaking.{held_runs}
use Rattle.top_call.proofs.run.run_soak.Goals as goal

pub returns : goal.returns
returns g c =
    let ran = c.execute-end.result in
    record {
      end = ran.end;
      held = grown_of ran.out;
      tells = λ told. told c.args.out;
      runs = held_runs (program c.args.unit.now.typed) (setting_of c.args.setting) ran.end _ (g.I.Source.state ran.input) _ (grown_of ran.out) (λ s. refl) (rw c.new-held.ensures at c.execute-end.ensures);
      ends = rw c.bytes.ensures at c.say_soak-status.ensures;
    }
