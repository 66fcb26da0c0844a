-- What a view shows of a memory: cells that are lent to its thread, cells to read, and not those that other threads have.
use Rattle.std.specs.Prelude.{ℕ, suc, nat_eq, List, [], ◌∷◌, Option, Some, None, cond}
use Rattle.ada_base.specs.Cells.{Cell, Gone, Seen, Mine}

-- what may be done with a cell: nothing, as other threads have it; it may be read; or written too
pub data Access : Type 0 where
  Barred : Access
  Readable : Access
  Full : Access

-- of a cell by who has it
abbrev pub access_by : Option ℕ → ℕ → Access
access_by None j = Readable
access_by (Some l) j = cond (nat_eq l j) Full Barred

abbrev pub view_cell : Access → Cell → Cell
view_cell Barred z = Gone
view_cell y Gone = Gone
view_cell Readable (Seen v) = Seen v
view_cell Readable (Mine v) = Seen v
view_cell Full z = z

-- cells from an address on
abbrev pub viewed : (ℕ → Access) → ℕ → List Cell → List Cell
viewed y a [] = []
viewed y a (z ∷ zs) = view_cell (y a) z ∷ viewed y (suc a) zs
