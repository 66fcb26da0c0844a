-- Which cells a region has.
use Rattle.std.specs.Prelude.{◌≡◌, ℕ, zero, suc, ◌+◌, ◌*◌, ◌<◌, ◌≤◌, Bool, false, ◌&&◌, ◌||◌, List, [], ◌∷◌}
use lib.Dec.{leb, ltb}
use Rattle.cell_strip.specs.declared.region.Region.{Region}

-- x is a cell of r
abbrev pub IsIn : Region → ℕ → Type 0
IsIn r x = (a : ℕ) × (b : ℕ) × (a < r.count) × (b < r.run) × (x ≡ r.base + a * r.stride + b)

-- x is one of so many cells from the first on
abbrev pub in_row : ℕ → ℕ → ℕ → Bool
in_row first run x = leb first x && ltb x (first + run)

-- x is a cell of one of the region's first rows
abbrev pub in_rows : ℕ → Region → ℕ → Bool
in_rows zero r x = false
in_rows (suc a) r x = in_rows a r x || in_row (r.base + a * r.stride) r.run x

-- x is a cell of r, as a test
unfoldable pub has : Region → ℕ → Bool
has r x = in_rows r.count r x

-- x is a cell of one of the regions
abbrev pub covered : List Region → ℕ → Bool
covered [] x = false
covered (r ∷ rs) x = has r x || covered rs x

-- the region without a cell
abbrev pub empty : Region
empty = record { base = 0; count = 0; stride = 0; run = 0 }

-- row a is one of r's, begins no further than d behind the first one, and is the last such
abbrev pub IsLastRow : Region → ℕ → ℕ → Type 0
IsLastRow r d a = (a < r.count) × (a * r.stride ≤ d) × ((k : ℕ) → k < r.count → k * r.stride ≤ d → k ≤ a)
