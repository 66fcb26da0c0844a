use Rattle.std.proofs.Common.{length, refl}
use Rattle.ada_port.specs.Ports.{IsTold}
use Rattle.run_plan.specs.Plans.{plan_of}
use Rattle.typed_tree.specs.Programs.{program}
use Rattle.driver.specs.Kept.{main_frame}
use Rattle.driver.specs.Running.{by_workers}
use Rattle.driver.proofs.Framed.{framed}
use Rattle.driver.proofs.FromTheOutset.{machine_ran}
use Rattle.driver.proofs.Loads.{loaded_by}
use Rattle.driver.proofs.runner.on_machine.Goals as goal

pub run_machine-how-requires-clause-main : goal.run_machine-how-requires-clause-main
run_machine-how-requires-clause-main g c κs within =
    let f = framed c.args.begun.memory (main_frame c.args.unit.now.code) c.main-view.result c.requires.memory c.main-view.ensures in (f.main, f.there)

pub run_machine-how-requires-clause-zeroed : goal.run_machine-how-requires-clause-zeroed
run_machine-how-requires-clause-zeroed g c κs within =
    (framed c.args.begun.memory (main_frame c.args.unit.now.code) c.main-view.result c.requires.memory c.main-view.ensures).zeroed

pub run_machine-how-requires-clause-loaded : goal.run_machine-how-requires-clause-loaded
run_machine-how-requires-clause-loaded g c κs within =
    let f = framed c.args.begun.memory (main_frame c.args.unit.now.code) c.main-view.result c.requires.memory c.main-view.ensures in
    let l = loaded_by c.laws-2.ensures.named c.laws.ensures.accepted c.args.unit.now (length c.main-view.result.cells) c.requires.built f.long in
    (program c.args.unit.now.typed, l.0, l.1)

pub returns : goal.returns
returns g c =
    let f = framed c.args.begun.memory (main_frame c.args.unit.now.code) c.main-view.result c.requires.memory c.main-view.ensures in
    machine_ran ((s : _) → IsTold (g.I.Source.state s)) ((s : _) → IsTold (g.O.Sink.state s)) (program c.args.unit.now.typed) (by_workers (plan_of c.args.setting.now.plan) c.args.crew.now.workers c.args.setting.now.turns) c.args.unit.now.code (length c.main-view.result.cells)
    c.args.unit.now.variables c.args.begun.finals (record { kept = c.read.new.kept; declared = c.args.begun.finals.declared }) c.run_machine-how.result c.args.ports c.run_machine-how.new.ports c.run_machine-how.new.view.cells
    (g.I.Source.state c.into_parts-input.result.0) (g.O.Sink.state c.into_parts-input.result.1) c.ended-end.result
    (loaded_by c.laws-2.ensures.named c.laws.ensures.accepted c.args.unit.now (length c.main-view.result.cells) c.requires.built f.long)
    c.requires.built.placed c.requires.room c.read.ensures refl c.run_machine-how.ensures.runs c.into_parts-input.ensures c.ended-end.ensures
