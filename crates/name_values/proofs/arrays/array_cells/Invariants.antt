use Rattle.std.proofs.Common.{◌≡◌, ◌-◌, length, drop}
use Rattle.name_rules.specs.Types as types
use Rattle.name_values.proofs.arrays.array_cells.Given as goal

abbrev pub invariant-dimensions : goal.invariant-dimensions
invariant-dimensions l = types.array_cells (drop l.i l.dimensions) l.all ≡ types.array_cells (drop l.fn.from l.dimensions) l.fn.cells

abbrev pub decreases-dimensions : goal.decreases-dimensions
decreases-dimensions l = length l.dimensions - l.i
