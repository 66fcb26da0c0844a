use Rattle.std.proofs.Common.{◌≡◌, ℕ, ◌-◌, ◌<◌, ◌≤◌, length}
use Rattle.ada_base.specs.Tokens.{place_of_token}
use Rattle.driver.proofs.refusal.token_at.Given as goal

abbrev pub invariant-loop-low : goal.invariant-loop-low
invariant-loop-low l =
    (l.low ≤ l.high) × (l.high ≤ length l.tokens.items)
    × ((token : ℕ) → token < length l.tokens.items → place_of_token l.tokens token ≡ l.at → (l.low ≤ token) × (token ≤ l.high))

abbrev pub decreases-loop-low : goal.decreases-loop-low
decreases-loop-low l = l.high - l.low
