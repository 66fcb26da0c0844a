use Rattle.std.proofs.Common.{refl}
use Rattle.ada_meaning.proofs.Unblocked.{blocked_law}
use Rattle.typed_tree.specs.Programs.{program}
use Rattle.driver.specs.Running.{setting_of}
use Rattle.driver.proofs.FromTheOutset.{unbegun_runs}
use Rattle.driver.proofs.runner.execute.Goals as goal

pub returns : goal.returns
returns g c =
    unbegun_runs (program c.args.unit.now.typed) (setting_of c.args.setting) c.new-ports.result c.new-ports.result (g.I.Source.state c.args.input) (g.I.Source.state c.into_parts-input.result.0) (g.O.Sink.state c.args.out) (g.O.Sink.state c.into_parts-input.result.1)
    ((blocked_law (program c.args.unit.now.typed)).1 c.requires.built.accepted.unblocked) c.new-ports.ensures refl c.into_parts-input.ensures
