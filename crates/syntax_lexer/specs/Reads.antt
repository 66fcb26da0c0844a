-- What a function that reads characters returned, beside what there is to read.
use Rattle.std.specs.Prelude.{◌≡◌, ℕ, List, Option, Some, None}
use Rattle.std.specs.Borrow.{Bor}

-- a value and the characters after it
abbrev pub Reads : {A : Type 0} → Option (A × Bor (List ℕ)) → Option (A × List ℕ) → Type 0
Reads None there = there ≡ None
Reads (Some found) there = there ≡ Some (found.0, found.1.now)

-- the characters after what was read
abbrev pub Leaves : Option (Bor (List ℕ)) → Option (List ℕ) → Type 0
Leaves None there = there ≡ None
Leaves (Some rest) there = there ≡ Some rest.now
