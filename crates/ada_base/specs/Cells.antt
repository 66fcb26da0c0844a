-- The cells of memory as one path sees them.
use Rattle.std.specs.Prelude.{ℕ, ℤ, pos, negsuc, List, set, replicate, Option, Some, None, slice_get}

-- what a path has at an address: nothing, as the cell is lent out or another's; a cell to read; or one to read and to write
pub data Cell : Type 0 where
  Gone : Cell
  Seen : ℤ → Cell
  Mine : ℤ → Cell

abbrev pub value_in : Option Cell → Option ℤ
value_in (Some (Seen v)) = Some v
value_in (Some (Mine v)) = Some v
value_in _ = None

-- the value at an address, where there is a cell to read
abbrev pub seen : List Cell → ℤ → Option ℤ
seen cells (pos n) = value_in (slice_get cells n)
seen cells (negsuc n) = None

abbrev pub where_mine : Option Cell → List Cell → Option (List Cell)
where_mine (Some (Mine v)) cells = Some cells
where_mine _ cells = None

-- with another value there, where there is a cell to write
abbrev pub written : List Cell → ℤ → ℤ → Option (List Cell)
written cells (pos n) v = where_mine (slice_get cells n) (set cells n (Mine v))
written cells (negsuc n) v = None

-- a frame of so many cells
abbrev pub zeros : ℕ → List Cell
zeros n = replicate n (Mine (pos 0))
