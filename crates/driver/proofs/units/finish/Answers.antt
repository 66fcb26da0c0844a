use Rattle.driver.proofs.units.finish.Goals as goal

pub returns-clause-built : goal.returns-clause-built
returns-clause-built c = record { named = c.requires.named; accepted = c.requires.accepted; coded = c.in_ok-code.ensures; placed = c.in_ok-variables.ensures }
