-- Runs made of steps.
use Rattle.std.specs.Prelude.{◌≡◌, ◌≢◌, ℕ, zero, suc, ◌<◌, ◌≤◌, ◌⊎◌, true, false, List, [], ◌∷◌, ◌++◌, length, get_or, Option, Some, None}
use Rattle.ada_base.specs.Cells.{Cell, Gone}
use Rattle.cell_memory.specs.Sight.{is_mine, is_gone}
use Rattle.ada_workers.specs.Paths.{Cut, Stuck, Outcome, Fine, Covers}

-- where a step leads, with the looks that are left
pub data Next (P : Type 0) : Type 0 where
  On : P → Option ℕ → List Cell → Next P
  Ends : Outcome P → Next P

abbrev pub Steps : Type 0 → Type 0
Steps P = P → Option ℕ → List Cell → Next P

-- no more than so many steps
abbrev pub iterated : {P : Type 0} → Steps P → ℕ → P → Option ℕ → List Cell → Outcome P
iterated step zero p n cs = record { path = p; cells = cs; end = Stuck }
iterated step (suc k) p n cs = elim (step p n cs) [ On q m ds ↦ iterated step k q m ds | Ends o ↦ o ]

-- the first b cells keep their kinds, and those that aren't to write their values
pub record KeepsTo (b : ℕ) (vs ws : List Cell) : Type 0 where
  pub long : b ≤ length ws
  pub kinds : (x : ℕ) → x < b → is_mine (get_or ws x Gone) ≡ is_mine (get_or vs x Gone)
  pub others : (x : ℕ) → x < b → is_mine (get_or vs x Gone) ≡ false → get_or ws x Gone ≡ get_or vs x Gone

pub record SameTo {P : Type 0} (b : ℕ) (vs ms : List Cell) (o q : Outcome P) : Type 0 where
  pub path : q.path ≡ o.path
  pub end : q.end ≡ o.end
  pub covers : Covers q.cells o.cells
  pub others : (x : ℕ) → x < b → is_mine (get_or vs x Gone) ≡ false → get_or q.cells x Gone ≡ get_or ms x Gone

module _ {P : Type 0} (Above : ℕ → P → List Cell → Type 0) where
  abbrev pub KeepsNext : ℕ → List Cell → Next P → Type 0
  KeepsNext b vs (On q n ws) = Above b q ws × KeepsTo b vs ws
  KeepsNext b vs (Ends o) = Fine o.end → KeepsTo b vs o.cells

  abbrev pub SameNext : ℕ → List Cell → List Cell → Next P → Next P → Type 0
  SameNext b vs ms (On q n ws) y = (ns : List Cell) × (y ≡ On q n ns) × Covers ns ws × ((x : ℕ) → x < b → is_mine (get_or vs x Gone) ≡ false → get_or ns x Gone ≡ get_or ms x Gone)
  SameNext b vs ms (Ends o) y = Fine o.end → (q : Outcome P) × (y ≡ Ends q) × SameTo b vs ms o q

  abbrev pub BeginsNext : Next P → Next P → Type 0
  BeginsNext (On q n ws) y = ((n ≡ None) × ((m : ℕ) × (y ≡ On q (Some m) ws))) ⊎ ((o : Outcome P) × (y ≡ Ends o) × Fine o.end)
  BeginsNext (Ends o) y = Fine o.end → (q : Outcome P) × (y ≡ Ends q) × Fine q.end

  abbrev pub Uncut : Next P → Type 0
  Uncut (On q n ws) = n ≡ None
  Uncut (Ends o) = o.end ≢ Cut

  -- a step of a path whose frames stand above the first b cells
  pub record StepFrames (step : Steps P) : Type 0 where
    pub keeps : (b : ℕ) (p : P) (n : Option ℕ) (vs : List Cell) → Above b p vs → KeepsNext b vs (step p n vs)
    pub same : (b : ℕ) (p : P) (n : Option ℕ) (vs ms : List Cell) → Above b p vs → Covers ms vs → SameNext b vs ms (step p n vs) (step p n ms)
    pub begins : (p : P) (m : ℕ) (vs : List Cell) → BeginsNext (step p None vs) (step p (Some m) vs)
    pub uncut : (p : P) (vs : List Cell) → Uncut (step p None vs)

-- ---- what a run reads and writes
pub data Touch : Type 0 where
  Reads : ℕ → Touch
  Writes : ℕ → Touch

-- among the first b cells the view lets it
abbrev pub Allowed : ℕ → List Cell → Touch → Type 0
Allowed b vs (Reads a) = a < b → is_gone (get_or vs a Gone) ≡ false
Allowed b vs (Writes a) = a < b → is_mine (get_or vs a Gone) ≡ true

abbrev pub AllAllowed : ℕ → List Cell → List Touch → Type 0
AllAllowed b vs [] = Unit {0}
AllAllowed b vs (t ∷ ts) = Allowed b vs t × AllAllowed b vs ts

-- the cells from b on are to write
abbrev pub OwnMine : ℕ → List Cell → Type 0
OwnMine b vs = (x : ℕ) → b ≤ x → x < length vs → is_mine (get_or vs x Gone) ≡ true

module _ {P : Type 0} (step : Steps P) (touches : P → List Cell → List Touch) where
  abbrev pub run_touches : ℕ → P → Option ℕ → List Cell → List Touch
  run_touches zero p n cs = []
  run_touches (suc k) p n cs = touches p cs ++ elim (step p n cs) [ On q m ds ↦ run_touches k q m ds | Ends o ↦ [] ]

module _ {P : Type 0} (Above : ℕ → P → List Cell → Type 0) where
  abbrev pub FollowsNext : ℕ → List Cell → Next P → Next P → Type 0
  FollowsNext b vs (On q m ns) y = (ws : List Cell) × (y ≡ On q m ws) × Covers ns ws × Above b q ws × OwnMine b ws × KeepsTo b vs ws
  FollowsNext b vs (Ends o) y = Fine o.end → (q : Outcome P) × (y ≡ Ends q) × Fine q.end

  -- where a step on the memory touches no more than the view lets it, the step on the view is the same
  abbrev pub StepTouches : Steps P → (P → List Cell → List Touch) → Type 0
  StepTouches step touches =
      (b : ℕ) (p : P) (n : Option ℕ) (vs ms : List Cell) → Above b p vs → Covers ms vs → OwnMine b vs → AllAllowed b vs (touches p ms) → FollowsNext b vs (step p n ms) (step p n vs)
