-- The cells that the leases of a construct lend one of its threads, as regions.
use Rattle.std.specs.Prelude.{◌≡◌, ◌⊎◌, ◌↔◌, ℕ, ◌+◌, ◌*◌, ◌<◌, ◌≤◌, pos, ◌+ℤ◌, true, List}
use Rattle.behaviours.specs.Joins.{Share}
use Rattle.cell_strip.specs.declared.region.Region.{Region}
use Rattle.cell_strip.specs.Regions.{covered, has}
use Rattle.stack_code.specs.declared.code.CodeSite.{CodeSite}
use Rattle.stack_code.specs.declared.code.Lease.{Lease}
use Rattle.stack_code.specs.declared.code.SiteKind.{SiteKind}
use Rattle.stack_code.specs.declared.path.Asked.{Asked}
use Rattle.ada_lower.specs.Lending.{IsOfArm, LiesIn}
use Rattle.ada_threads.specs.declared.combs.Comb.{Comb}
use Rattle.ada_threads.specs.declared.regions.Span.{Span}
use Rattle.ada_threads.specs.declared.regions.Rows.{Rows}
use Rattle.ada_threads.specs.Reaching.{Any}

-- the regions have none but the first cells
abbrev pub Inside : ℕ → List Region → Type 0
Inside many rs = (x : ℕ) → covered rs x ≡ true → x < many

-- those iterations of a thread that are of the arm
abbrev pub IsSpan : SiteKind → (arm : ℕ) → Share → Span → Type 0
IsSpan kind arm j s = (i : ℕ) → ((s.first ≤ i) × (i < s.first + s.count)) ↔ ((j.first ≤ i) × (i < j.first + j.size) × IsOfArm kind i arm)

-- the same distances
abbrev pub SameRows : Comb → Rows → Type 0
SameRows b r = (0 < r.count) × ((n : ℕ) → ((a : ℕ) × (a < b.count) × (n ≡ a * b.stride)) ↔ ((a : ℕ) × (a < r.count) × (n ≡ a * r.stride)))

-- one of so many cells from a place of the comb on
abbrev pub HasCell : (run : ℕ) → ℕ → Comb → Type 0
HasCell run x b = (a : ℕ) × (a < b.count) × ((k : ℕ) × (k < run) × (x ≡ b.at + a * b.stride + k))

abbrev pub IsRegion : Comb → (run many : ℕ) → Region → Type 0
IsRegion b run many r = (x : ℕ) → ((has r x ≡ true) ↔ HasCell run x b) × (has r x ≡ true → x < many)

-- these cells are added, and none that there isn't
abbrev pub Adds : (many : ℕ) → (ℕ → Type 0) → List Region → List Region → Type 0
Adds many More old new = ((x : ℕ) → (covered new x ≡ true) ↔ ((covered old x ≡ true) ⊎ More x)) × (Inside many old → Inside many new)

abbrev pub AddsCells : (run many : ℕ) → List Comb → List Region → List Region → Type 0
AddsCells run many bs old new = Adds many (λ x. Any (HasCell run x) bs) old new

-- where the steps of a lease begin, in these iterations
pub record IsFirst (q : Asked) (l : Lease) (s : Span) (base : ℕ) (b : Comb) : Type 0 where
  pub value : b.value ≡ q.first +ℤ pos s.first
  pub count : b.count ≡ s.count
  pub at : b.at ≡ base + l.base
  pub stride : b.stride ≡ 0

module _ (site : CodeSite) (q : Asked) (sees : List ℕ) where
  -- a cell is lent to a thread by the lease
  abbrev pub LentBy : Share → ℕ → Lease → Type 0
  LentBy j x l = (i : ℕ) × (j.first ≤ i) × (i < j.first + j.size) × (IsOfArm site.kind i l.arm × LiesIn site q sees l j.number i x)

  abbrev pub AddsLease : (many : ℕ) → Share → Lease → List Region → List Region → Type 0
  AddsLease many j l old new = Adds many (λ x. LentBy j x l) old new
