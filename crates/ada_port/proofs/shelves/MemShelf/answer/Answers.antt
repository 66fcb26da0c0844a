use Rattle.std.proofs.Common.{rules}
use Rattle.ada_port.proofs.Texts.{copied-fails}
use Rattle.ada_port.proofs.shelves.MemShelf.answer.Goals as goal

pub returns-in-Some-clause-fails : goal.returns-in-Some-clause-fails
returns-in-Some-clause-fails c = copied-fails _ _ c.copy_of.ensures.memory (search rules)
