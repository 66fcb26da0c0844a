-- What a path does on the cells of its view, as a function, and what makes it the same on a memory that has more.
use Rattle.std.specs.Prelude.{◌≡◌, ◌≢◌, ℕ, ◌<◌, ◌≤◌, false, List, length, get_or, Option, Some, None}
use Rattle.ada_base.specs.Cells.{Cell, Gone, Seen, Mine}
use Rattle.cell_memory.specs.Sight.{Sight, cell_at, is_mine, lower_length, OwnThere}
use Rattle.ada_workers.specs.declared.path.Stop.{Stop}
use Rattle.ada_workers.specs.declared.path.Stop.TheVariants as stop

-- how a run ends: at its end, by leaving, at the limit of turns, cut at a look, or at a cell that isn't its own
pub data Ending : Type 0 where
  AtEnd : Ending
  Left : Ending
  Spent : Ending
  Cut : Ending
  Stuck : Ending

pub record Outcome (P : Type 0) : Type 0 where
  pub path : P
  pub cells : List Cell
  pub end : Ending

-- what a path comes to, with so many looks, if they have a bound
abbrev pub Runs : Type 0 → Type 0
Runs P = P → Option ℕ → List Cell → Outcome P

abbrev pub Fine : Ending → Type 0
Fine AtEnd = Unit {0}
Fine Left = Unit {0}
Fine Spent = Unit {0}
Fine Cut = Unit {0}
Fine Stuck = ⊥

-- a memory's cell shows a view's cell
abbrev pub Shows : Cell → Cell → Type 0
Shows m Gone = Unit {0}
Shows m (Seen v) = m ≡ Mine v
Shows m (Mine v) = m ≡ Mine v

abbrev pub Covers : List Cell → List Cell → Type 0
Covers ms vs = (length ms ≡ length vs) × ((x : ℕ) → Shows (get_or ms x Gone) (get_or vs x Gone))

-- the cells that were there keep their kinds, and those that aren't to write their values
pub record Keeps (vs ws : List Cell) : Type 0 where
  pub long : length vs ≤ length ws
  pub kinds : (x : ℕ) → x < length vs → is_mine (get_or ws x Gone) ≡ is_mine (get_or vs x Gone)
  pub others : (x : ℕ) → x < length vs → is_mine (get_or vs x Gone) ≡ false → get_or ws x Gone ≡ get_or vs x Gone

-- on the memory ms a run comes to the same as on the view vs
pub record SameRun {P : Type 0} (vs ms : List Cell) (o q : Outcome P) : Type 0 where
  pub path : q.path ≡ o.path
  pub end : q.end ≡ o.end
  pub covers : Covers q.cells o.cells
  pub others : (x : ℕ) → x < length vs → is_mine (get_or vs x Gone) ≡ false → get_or q.cells x Gone ≡ get_or ms x Gone

-- what a machine that steps through cells keeps: a run touches no cell but those that its view lets it
pub record Frames {P : Type 0} (runs : Runs P) : Type 0 where
  pub keeps : (p : P) (n : Option ℕ) (vs : List Cell) → Fine (runs p n vs).end → Keeps vs (runs p n vs).cells
  pub same : (p : P) (n : Option ℕ) (vs ms : List Cell) → Fine (runs p n vs).end → Covers ms vs → SameRun vs ms (runs p n vs) (runs p n ms)
  -- a run that is cut is the beginning of one that isn't
  pub begins : (p : P) (n : ℕ) (vs : List Cell) → Fine (runs p None vs).end → Fine (runs p (Some n) vs).end
  pub uncut : (p : P) (vs : List Cell) → (runs p None vs).end ≢ Cut

-- what a path that stopped did: it went to its own end, or was cut after some looks
abbrev pub Went : {P : Type 0} → Runs P → P → List Cell → Stop → P → List Cell → Type 0
Went runs p cs stop.Ended q ds = runs p None cs ≡ record { path = q; cells = ds; end = AtEnd }
Went runs p cs stop.Gone q ds = runs p None cs ≡ record { path = q; cells = ds; end = Left }
Went runs p cs stop.Spent q ds = runs p None cs ≡ record { path = q; cells = ds; end = Spent }
Went runs p cs (stop.Paused looks) q ds = runs p (Some looks) cs ≡ record { path = q; cells = ds; end = Cut }
Went runs p cs stop.NoMemory q ds = Unit {0}

-- the view is where it was: over the same cells, with the same lent ones
pub record SamePlace (s t : Sight) : Type 0 where
  pub held : t.held ≡ s.held
  pub lower : lower_length t ≡ lower_length s
  pub long : length s.cells ≤ length t.cells
  pub there : OwnThere t
  pub kinds : (x : ℕ) → x < lower_length s → is_mine (cell_at t x) ≡ is_mine (cell_at s x)
