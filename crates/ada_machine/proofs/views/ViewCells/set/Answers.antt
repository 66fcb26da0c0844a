use Rattle.std.proofs.Common.{ap, ◌∙◌}
use Rattle.std.proofs.lemmas.Int.{to_z-of_z}
use mir.Syntax.{w64}
use Rattle.cell_memory.specs.Sight.{stored}
use Rattle.ada_machine.proofs.Viewing.{may_write, writes, set_stays}
use Rattle.ada_machine.proofs.views.ViewCells.set.Goals as goal

pub set-requires : goal.set-requires
set-requires c = may_write c.args.self.now c.args.at _ c.requires

pub returns-clause-written : goal.returns-clause-written
returns-clause-written c = writes c.args.self.now c.set.new.self c.args.at c.args.value c.requires (c.set.ensures ∙ ap (λ v. stored c.args.self.now c.args.at v) (to_z-of_z w64 c.args.value c.ranges.value))

pub returns-clause-stays : goal.returns-clause-stays
returns-clause-stays c = set_stays c.args.self.now c.set.new.self c.args.at c.args.value c.requires (c.set.ensures ∙ ap (λ v. stored c.args.self.now c.args.at v) (to_z-of_z w64 c.args.value c.ranges.value))
