-- What stays of cells that are read, written, begun and ended.
use Rattle.std.specs.Prelude.{◌≡◌, ℕ}

-- where the own ones begin, whether they are whole, and what no call changes
abbrev pub Stays : {S H : Type 0} → (floor : S → ℕ) → (whole : S → Type 0) → (place : S → H) → S → S → Type 0
Stays floor whole place old new = (floor new ≡ floor old) × (whole old → whole new) × (place new ≡ place old)
