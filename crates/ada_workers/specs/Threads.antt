-- Threads in order, where each but those after one that leaves goes to its own end.
use Rattle.std.specs.Prelude.{◌≡◌, ℕ, suc, ◌+◌, ◌-◌, ◌<◌, ◌≤◌, ◌^◌, ℤ, pos, true, List, [], ◌∷◌, ◌++◌, map, take, replicate, length, Option, Some, None}
use Rattle.cell_strip.specs.declared.region.Region.{Region}
use Rattle.cell_strip.specs.Regions.{covered}
use Rattle.ada_base.specs.Cells.{Cell, Mine}
use Rattle.cell_memory.specs.Sight.{Sight, OwnThere, lower_length}
use Rattle.ada_workers.specs.Paths.{Ending, AtEnd, Left, Spent, Cut, Stuck, Outcome, Runs, Fine, Covers}
use Rattle.ada_workers.specs.Orders.{Start, view_of, lent_of, out_of}
use Rattle.ada_workers.specs.Iterated.{Touch, AllAllowed, OwnMine}
use Rattle.ada_workers.specs.declared.path.Stop.TheVariants as stop
use Rattle.ada_workers.specs.declared.tasks.State.{State}
use Rattle.ada_workers.specs.declared.tasks.State.TheVariants as state
use Rattle.ada_workers.specs.declared.construct.Over.{Over}
use Rattle.ada_workers.specs.declared.threads.Frame.{Frame}
use Rattle.ada_workers.specs.declared.threads.Thread.{Thread}

-- the first values of a frame's cells
abbrev pub frame_values : Frame → List ℤ
frame_values f = f.chunk ∷ f.initial ∷ f.first ∷ f.last ∷ replicate f.more (pos 0)

-- how an end is told
abbrev pub state_of : Ending → State
state_of AtEnd = state.Stopped stop.Ended
state_of Left = state.Stopped stop.Gone
state_of Spent = state.Stopped stop.Spent
state_of Cut = state.Stopped (stop.Paused 0)
state_of Stuck = state.Stopped stop.NoMemory

-- what threads in order come to: each, which of them left, and the memory
pub record Order (P : Type 0) : Type 0 where
  pub overs : List (Over P)
  pub chosen : Option ℕ
  pub cells : List Cell

module _ {P : Type 0} where
  abbrev pub begin_of : Thread P → Start P
  begin_of t = record { path = t.path; own = frame_values t.frame }

  abbrev pub begins_of : List (Thread P) → List (Start P)
  begins_of [] = []
  begins_of (t ∷ ts) = begin_of t ∷ begins_of ts

  abbrev pub areas_of : List (Thread P) → List (List Region)
  areas_of [] = []
  areas_of (t ∷ ts) = t.regions.items ∷ areas_of ts

  abbrev pub AllInside : ℕ → List (Thread P) → Type 0
  AllInside n [] = Unit {0}
  AllInside n (t ∷ ts) = ((x : ℕ) → covered t.regions.items x ≡ true → x < n) × AllInside n ts

  abbrev pub told : Outcome P → Over P
  told o = record { path = o.path; state = state_of o.end }

  abbrev pub unbegun : List (Start P) → List (Over P)
  unbegun [] = []
  unbegun (s ∷ ss) = record { path = s.path; state = state.NotBegun } ∷ unbegun ss

  abbrev pub before : Over P → Order P → Order P
  before o r = record r { overs = o ∷ r.overs }

  module _ (runs : Runs P) where
    abbrev pub alone : Start P → List Cell → Outcome P
    alone s cs = runs s.path None (cs ++ map Mine s.own)

    abbrev pub ordered : List (Start P) → ℕ → List Cell → Order P
    ordered [] k cs = record { overs = []; chosen = None; cells = cs }
    ordered (s ∷ ss) k cs =
        elim (alone s cs).end [
          | Left ↦ record { overs = told (alone s cs) ∷ unbegun ss; chosen = Some k; cells = take (length cs) (alone s cs).cells }
          | AtEnd ↦ before (told (alone s cs)) (ordered ss (suc k) (take (length cs) (alone s cs).cells))
          | Spent ↦ before (told (alone s cs)) (ordered ss (suc k) (take (length cs) (alone s cs).cells))
          | Cut ↦ before (told (alone s cs)) (ordered ss (suc k) (take (length cs) (alone s cs).cells))
          | Stuck ↦ before (told (alone s cs)) (ordered ss (suc k) (take (length cs) (alone s cs).cells))
        ]

    -- none of them touches what it doesn't have
    abbrev pub FineInOrder : List (Start P) → List Cell → Type 0
    FineInOrder [] cs = Unit {0}
    FineInOrder (s ∷ ss) cs = Fine (alone s cs).end × FineInOrder ss (take (length cs) (alone s cs).cells)

abbrev pub FramesFit : {P : Type 0} → List (Thread P) → Type 0
FramesFit [] = Unit {0}
FramesFit (t ∷ ts) = (t.frame.more + 4 < 2 ^ 32) × FramesFit ts

-- the same cells, as much its own
pub record SameView (s t : Sight) : Type 0 where
  pub cells : t.cells ≡ s.cells
  pub own : t.own ≡ s.own
  pub held : t.held ≡ s.held

pub record Entered (s : Sight) (f : Frame) (t : Sight) : Type 0 where
  pub cells : t.cells ≡ s.cells ++ map Mine (frame_values f)
  pub own : t.own ≡ s.own + (f.more + 4)
  pub held : t.held ≡ s.held
  pub there : OwnThere t

-- its own cells begin among the first n, and are there
pub record Leaves (n : ℕ) (s : Sight) : Type 0 where
  pub many : n ≤ length s.cells
  pub own : lower_length s ≤ n
  pub there : OwnThere s

pub record Leaving (n : ℕ) (s t : Sight) : Type 0 where
  pub cells : t.cells ≡ take n s.cells
  pub own : t.own ≡ n - lower_length s
  pub held : t.held ≡ s.held
  pub there : OwnThere t

-- as many cells, as much its own, and none of these lent
pub record StaysOn (s t : Sight) : Type 0 where
  pub held : t.held ≡ s.held
  pub own : t.own ≡ s.own
  pub many : length t.cells ≡ length s.cells
  pub there : OwnThere t

abbrev pub extend : {P : Type 0} → List (Over P) → Order P → Order P
extend os r = record r { overs = os ++ r.overs }

abbrev pub IsOrdered : {P : Type 0} → Runs P → List (Start P) → List Cell → Option ℕ → List (Over P) → List Cell → Type 0
IsOrdered runs ss cs c os ds = record { overs = os; chosen = c; cells = ds } ≡ ordered runs ss 0 cs

-- ---- what threads touch, in order on one memory
-- a run that touches no more of the first b cells than the view lets it, isn't stuck there
abbrev pub Touching : {P : Type 0} → Runs P → (P → List Cell → List Touch) → Type 0
Touching runs touched = (b : ℕ) (p : _) (vs ms : List Cell) → b ≤ length vs → Covers ms vs → OwnMine b vs → Fine (runs p None ms).end → AllAllowed b vs (touched p ms) → Fine (runs p None vs).end

-- each thread touches no more than its view would let it
abbrev pub TouchesIn : {P : Type 0} → Runs P → (P → List Cell → List Touch) → List Cell → List Cell → List (Start P) → List (List Region) → List Cell → Type 0
TouchesIn runs touched end cs [] rss ms = Unit {0}
TouchesIn runs touched end cs (s ∷ ss) [] ms = Unit {0}
TouchesIn runs touched end cs (s ∷ ss) (rs ∷ rss) ms =
    AllAllowed (length end) (view_of end (lent_of cs rs) s.own) (touched s.path (ms ++ map Mine s.own)) × TouchesIn runs touched end (out_of cs rs) ss rss (take (length ms) (alone runs s ms).cells)
