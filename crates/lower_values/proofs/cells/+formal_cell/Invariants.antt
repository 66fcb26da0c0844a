use Rattle.lower_values.proofs.cells.+formal_cell.Given as goal

abbrev pub decreases-formal_cell : goal.decreases-formal_cell
decreases-formal_cell l = l.id
