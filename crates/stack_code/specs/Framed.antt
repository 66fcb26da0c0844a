-- A path on cells some of which are gone, and the same path on a memory that has them.
use Rattle.std.specs.Prelude.{◌≡◌, ℕ, ◌≤◌, List, [], ◌∷◌, length, Some}
use Rattle.ada_base.specs.Cells.{Cell, Gone, Seen, Mine, value_in}
use Rattle.stack_code.specs.Machine.{Frame, State, Went, Goes, Stops, Stuck}

-- the memory, but for the cells that the path has to write, and with the frames that it began
abbrev pub fill : List Cell → List Cell → List Cell
fill [] ys = []
fill (x ∷ xs) [] = x ∷ xs
fill (Gone ∷ xs) (y ∷ ys) = y ∷ fill xs ys
fill (Seen v ∷ xs) (y ∷ ys) = y ∷ fill xs ys
fill (Mine v ∷ xs) (y ∷ ys) = Mine v ∷ fill xs ys

-- what the path has to read is in the memory
abbrev pub Shown : List Cell → List Cell → Type 0
Shown [] ys = Unit {0}
Shown (x ∷ xs) [] = Unit {0}
Shown (Gone ∷ xs) (y ∷ ys) = Shown xs ys
Shown (Seen v ∷ xs) (y ∷ ys) = (value_in (Some y) ≡ Some v) × Shown xs ys
Shown (Mine v ∷ xs) (y ∷ ys) = Shown xs ys

-- the bodies that wait have so many cells or more
abbrev pub Above : ℕ → List Frame → Type 0
Above n [] = Unit {0}
Above n (f ∷ fs) = (n ≤ f.top) × Above n fs

pub record Framed (outer : List Cell) (s : State) : Type 0 where
  pub shown : Shown s.cells outer
  pub long : length outer ≤ length s.cells
  pub above : Above (length outer) s.waiting

abbrev pub filled : List Cell → State → State
filled outer s = record s { cells = fill s.cells outer }

-- what the path does that isn't stuck it does on the memory, of whose other cells it changes none
abbrev pub Same : List Cell → Went → Went → Type 0
Same outer (Goes s) w = (w ≡ Goes (filled outer s)) × Framed outer s
Same outer (Stops Stuck s) w = Unit {0}
Same outer (Stops x s) w = w ≡ Stops x (filled outer s)
