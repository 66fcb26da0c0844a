-- Which cells the threads of a fork are lent, by the leases of its site.
use Rattle.std.specs.Prelude.{◌≡◌, ℕ, ◌+◌, ◌*◌, ◌<◌, ◌≤◌, ℤ, pos, ◌+ℤ◌, List, [], ◌∷◌, Option, Some, None, slice_get, ◌⊎◌}
use Rattle.behaviours.specs.Joins.{Share}
use Rattle.stack_code.specs.declared.code.CodeSite.{CodeSite}
use Rattle.stack_code.specs.declared.code.Lease.{Lease}
use Rattle.stack_code.specs.declared.code.Step.{Step}
use Rattle.stack_code.specs.declared.code.Step.TheVariants as step
use Rattle.stack_code.specs.declared.code.SiteKind.{SiteKind}
use Rattle.stack_code.specs.declared.code.SiteKind.TheVariants as kind
use Rattle.stack_code.specs.declared.path.Asked.{Asked}

abbrev pub Among : {A : Type 0} → A → List A → Type 0
Among x [] = ⊥
Among x (y ∷ ys) = (x ≡ y) ⊎ Among x ys

-- the steps lead from one cell to another, by the loop value or position and the chunk value
abbrev pub StepsTo : (value chunk : ℤ) → List Step → ℕ → ℕ → Type 0
StepsTo v ch [] n o = o ≡ n
StepsTo v ch (step.All count size ∷ more) n o = (i : ℕ) × (i < count) × StepsTo v ch more (n + i * size) o
StepsTo v ch (step.Loop low count size ∷ more) n o = (i : ℕ) × (i < count) × (v ≡ low +ℤ pos i) × StepsTo v ch more (n + i * size) o
StepsTo v ch (step.Chunk low count size ∷ more) n o = (i : ℕ) × (i < count) × (ch ≡ low +ℤ pos i) × StepsTo v ch more (n + i * size) o

-- where a frame begins: the main one, or one of those that the forking path sees
abbrev pub frame_at : (sees : List ℕ) → Option ℕ → Option ℕ
frame_at sees None = Some 0
frame_at sees (Some k) = slice_get sees k

-- in a block an iteration is an arm
abbrev pub IsOfArm : SiteKind → (iteration arm : ℕ) → Type 0
IsOfArm (kind.Block arms) i arm = i ≡ arm
IsOfArm other i arm = Unit {0}

-- what the chunk value of a thread is
abbrev pub chunk_at : SiteKind → Asked → ℕ → ℤ
chunk_at kind.ChunkLoop q j = q.chunk +ℤ pos j
chunk_at (kind.ChunkReduction by) q j = q.chunk +ℤ pos j
chunk_at other q j = pos j

module _ (site : CodeSite) (q : Asked) (sees : List ℕ) where
  -- a cell lies in a lease in one iteration of a thread
  abbrev pub LiesIn : Lease → (thread iteration : ℕ) → ℕ → Type 0
  LiesIn l j i a =
      (base : ℕ) × (frame_at sees l.frame ≡ Some base)
      × ((o : ℕ) × (k : ℕ) × StepsTo (q.first +ℤ pos i) (chunk_at site.kind q j) l.steps (base + l.base) o × (k < l.run) × (a ≡ o + k))

  -- a cell is lent to a thread, in some iteration of its own
  abbrev pub IsLent : Share → ℕ → Type 0
  IsLent j a = (i : ℕ) × (j.first ≤ i) × (i < j.first + j.size) × ((l : Lease) × Among l site.leases × IsOfArm site.kind i l.arm × LiesIn l j.number i a)

  -- each cell that threads are lent has one of them for its owner, and no other cell has any
  pub record Owns (js : List Share) (owner : ℕ → Option ℕ) : Type 0 where
    pub lent : (a n : ℕ) → owner a ≡ Some n → (j : Share) × Among j js × (j.number ≡ n) × IsLent j a
    pub all : (a : ℕ) (j : Share) → Among j js → IsLent j a → owner a ≡ None → ⊥
