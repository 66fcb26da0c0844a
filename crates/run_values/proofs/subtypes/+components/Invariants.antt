use Rattle.run_values.proofs.subtypes.+components.Given as goal

abbrev pub decreases-components : goal.decreases-components
decreases-components l = l.id
