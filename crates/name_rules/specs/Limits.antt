-- The limits of size: how many objects a program may have, and cells in all of them, how many arms a parallel block,
-- and how many dimensions an array type.
use Rattle.std.specs.Prelude.{ℕ}

abbrev pub most_objects : ℕ
most_objects = 4096

abbrev pub most_cells : ℕ
most_cells = 4194304

abbrev pub most_arms : ℕ
most_arms = 4096

abbrev pub most_dimensions : ℕ
most_dimensions = 4
