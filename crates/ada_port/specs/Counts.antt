-- Counts of calls and of faults.
use Rattle.std.specs.Prelude.{ℕ, ◌+◌, ◌-◌, ◌^◌, ◌≤◌, min, Result, Ok, Err}

-- the next count; at the greatest u64 it stands still
abbrev pub next_count : ℕ → ℕ
next_count count = min (count + 1) (2 ^ 64 - 1)

-- the count of faults after a call, of which each one that failed is counted
abbrev pub counted : {T E : Type 0} → Result T E → ℕ → ℕ
counted (Ok _) faults = faults
counted (Err _) faults = next_count faults

-- a count rose: it is greater than before, or stands at the greatest u64
pub record Risen (old new : ℕ) : Type 0 where
  pub later : old ≤ new
  pub higher : next_count old ≤ new
