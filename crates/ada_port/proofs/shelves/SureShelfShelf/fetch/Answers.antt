use Rattle.ada_port.proofs.Texts.{copied-fetches}
use Rattle.ada_port.proofs.shelves.SureShelfShelf.fetch.Goals as goal

pub returns-clause-fetches : goal.returns-clause-fetches
returns-clause-fetches c =
    rw (← c.self.view_is, ← c.deref.ensures.value) (copied-fetches _ _ _ c.copy_of.ensures.bytes c.copy_of.ensures.memory)
