use Rattle.std.proofs.Common.{◌≡◌, ℕ, ◌+◌, ◌-◌, length, Option, None}
use Rattle.ada_workers.specs.Paths.{Fine, SamePlace}
use Rattle.tests_workers.specs.Walks.{walk, plus}
use Rattle.tests_workers.proofs.walker.WalkerPath.go.Given as goal

abbrev pub invariant-loop-self : goal.invariant-loop-self
invariant-loop-self g l =
    (k : ℕ) × (l.self.turns ≡ l.fn.self.turns + k) × ((b : Option ℕ) → walk l.fn.self (plus k b) l.fn.view.cells ≡ walk l.self b l.view.cells) × Fine (walk l.self None l.view.cells).end × SamePlace l.fn.view l.view
    × (g.H.Halt.kept l.halt ≡ g.H.Halt.kept l.fn.halt) × (g.H.Halt.told l.fn.halt → g.H.Halt.told l.halt)

abbrev pub decreases-loop-self : goal.decreases-loop-self
decreases-loop-self g l = length l.self.ops.items - l.self.at
