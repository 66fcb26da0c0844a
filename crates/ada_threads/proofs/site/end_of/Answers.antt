use Rattle.stack_code.specs.Operands.{is_reduction}
use Rattle.ada_threads.proofs.site.end_of.Goals as goal

pub returns-in-None-clause-well : goal.returns-in-None-clause-well
returns-in-None-clause-well c = λ p all k site at s. c.own_ends.ensures.well (is_reduction site.kind)
