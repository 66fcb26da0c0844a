use Rattle.ada_port.proofs.counts.raise.Goals as goal

pub returns : goal.returns
returns c = c.saturating_add.ensures
