-- Walkers that touch a cell of their own and their frame.
use Rattle.std.specs.Prelude.{◌≡◌, ℕ, suc, ◌+◌, ◌<◌, ◌≤◌, ◌⊎◌, List, [], ◌∷◌}
use Rattle.cell_strip.specs.declared.region.Region.{Region}
use Rattle.ada_workers.specs.declared.threads.Thread.{Thread}
use Rattle.tests_workers.specs.declared.walker.Op.{Op}
use Rattle.tests_workers.specs.declared.walker.Op.TheVariants as op
use Rattle.tests_workers.specs.declared.walker.Walker.{Walker}

-- the region of one cell
abbrev pub only : ℕ → Region
only k = record { base = k; count = 1; stride = 1; run = 1 }

-- a is cell k, or one of the first four of a frame that begins at address n
abbrev pub IsOwn : ℕ → ℕ → ℕ → Type 0
IsOwn n k a = (a ≡ k) ⊎ ((n ≤ a) × (a < n + 4))

abbrev pub Keeps : ℕ → ℕ → Op → Type 0
Keeps n k (op.Put a v) = IsOwn n k a
Keeps n k (op.Copy a b) = IsOwn n k a × IsOwn n k b
Keeps n k op.Turn = Unit {0}
Keeps n k op.Leave = Unit {0}

abbrev pub AllKeep : ℕ → ℕ → List Op → Type 0
AllKeep n k [] = Unit {0}
AllKeep n k (o ∷ os) = Keeps n k o × AllKeep n k os

-- the thread has cell k of n, and touches no other
pub record OnOwnCell (n k : ℕ) (t : Thread Walker) : Type 0 where
  pub has : t.regions.items ≡ only k ∷ []
  pub start : t.path.at ≡ 0
  pub keeps : AllKeep n k t.path.ops.items
  pub small : t.frame.more ≡ 1

-- as have the threads from number k on
abbrev pub AllOnOwn : ℕ → ℕ → List (Thread Walker) → Type 0
AllOnOwn n k [] = Unit {0}
AllOnOwn n k (t ∷ ts) = OnOwnCell n k t × AllOnOwn n (suc k) ts
