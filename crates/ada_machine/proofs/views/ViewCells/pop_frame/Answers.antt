use Rattle.std.proofs.Common.{◌-◌, ap, ◌∙◌}
use Rattle.cell_memory.specs.Sight.{popped}
use Rattle.ada_machine.proofs.Viewing.{pop_stays}
use Rattle.ada_machine.proofs.views.ViewCells.pop_frame.Goals as goal

pub returns-clause-stays : goal.returns-clause-stays
returns-clause-stays c = pop_stays c.args.self.now c.pop_frame.new.self c.args.base c.len.ensures.own c.requires.own c.requires.there (c.pop_frame.ensures ∙ ap (λ n. popped c.args.self.now (n - c.args.base)) c.len.ensures.many)
