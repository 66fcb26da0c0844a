use Rattle.lower_values.proofs.cells.+cells_from.Given as goal

abbrev pub decreases-cells_from : goal.decreases-cells_from
decreases-cells_from l = l.id
