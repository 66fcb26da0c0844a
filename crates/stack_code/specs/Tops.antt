-- Where the cells of the bodies end that wait for their calls.
use Rattle.std.specs.Prelude.{ℕ, ◌≤◌, List, [], ◌∷◌, length}
use Rattle.stack_code.specs.Machine.{Frame, State, Went, Goes, Stops}

-- one after another, the innermost at most so high, and all above so many
abbrev pub AreTops : (low : ℕ) → List Frame → (high : ℕ) → Type 0
AreTops low [] high = low ≤ high
AreTops low (f ∷ fs) high = (f.top ≤ high) × AreTops low fs f.top

abbrev pub IsTopped : ℕ → State → Type 0
IsTopped low s = AreTops low s.waiting (length s.cells)

abbrev pub StaysTopped : ℕ → Went → Type 0
StaysTopped low (Goes s) = IsTopped low s
StaysTopped low (Stops x s) = IsTopped low s
