-- The indexes that a thread's iterations reach by a parameter and a distance, inside an array's bounds: one run of them.
use Rattle.std.specs.Prelude.{◌≡◌, ℕ, ◌<◌, ℤ, pos, ◌+ℤ◌, ◌-ℤ◌, true}
use Rattle.std.specs.Int.{int_min, int_max}
use Rattle.ada_meaning.specs.Values.{between, count}

-- the first and the last of them, where the parameter has so many values from one on
abbrev pub first_reached : (low distance start : ℤ) → ℤ
first_reached low distance start = int_max low (start +ℤ distance)

abbrev pub last_reached : (high distance start : ℤ) (size : ℕ) → ℤ
last_reached high distance start size = int_min high ((start +ℤ pos size) -ℤ pos 1 +ℤ distance)

abbrev pub reached : (low high distance start : ℤ) (size : ℕ) → ℕ
reached low high distance start size = count (first_reached low distance start) (last_reached high distance start size)

-- An index inside the bounds that some iteration reaches is one of the run, and each of the run is such an index.
abbrev pub ClipLaw : Type 0
ClipLaw = (low high distance start v : ℤ) (size : ℕ)
    → (between low v high ≡ true → (i : ℕ) → i < size → v ≡ (start +ℤ pos i) +ℤ distance → (k : ℕ) × (k < reached low high distance start size) × (v ≡ first_reached low distance start +ℤ pos k))
    × ((k : ℕ) → k < reached low high distance start size → v ≡ first_reached low distance start +ℤ pos k → (between low v high ≡ true) × ((i : ℕ) × (i < size) × (v ≡ (start +ℤ pos i) +ℤ distance)))
