-- A machine on a view, and the same machine on a memory that shows what the view has.
use Rattle.std.specs.Prelude.{◌≡◌, ℕ, ◌<◌, ◌≤◌, false, List, [], ◌∷◌, length, get_or}
use Rattle.ada_base.specs.Cells.{Cell, Gone}
use Rattle.cell_memory.specs.Sight.{is_mine}
use Rattle.ada_workers.specs.Paths.{Covers}
use Rattle.stack_code.specs.Machine.{Frame, State, Stop, Done, Left, Spent, Cut, Asks, Constructs, Stuck, Astray, Went, Goes, Stops}

abbrev pub at : List Cell → ℕ → Cell
at cs x = get_or cs x Gone

-- from vs, and the memory ms, the machine came to ws, and the memory to ns: the first b cells kept their kinds, those that
-- aren't to write kept their values, in the memory too, and the memory still shows what the view has
pub record Kept (b : ℕ) (vs ms ws ns : List Cell) : Type 0 where
  pub long : b ≤ length ws
  pub kinds : (x : ℕ) → x < b → is_mine (at ws x) ≡ is_mine (at vs x)
  pub view : (x : ℕ) → x < b → is_mine (at vs x) ≡ false → at ws x ≡ at vs x
  pub memory : (x : ℕ) → x < b → is_mine (at vs x) ≡ false → at ns x ≡ at ms x
  pub covers : Covers ns ws

abbrev pub with_memory : State → List Cell → State
with_memory s cs = record s { cells = cs }

-- the bodies that wait had the first b cells
abbrev pub Chain : ℕ → List Frame → Type 0
Chain b [] = Unit {0}
Chain b (f ∷ fs) = (b ≤ f.top) × Chain b fs

abbrev pub NotStuck : Stop → Type 0
NotStuck Stuck = ⊥
NotStuck (Done v) = Unit {0}
NotStuck (Left l) = Unit {0}
NotStuck Spent = Unit {0}
NotStuck Cut = Unit {0}
NotStuck (Asks q) = Unit {0}
NotStuck (Constructs q) = Unit {0}
NotStuck Astray = Unit {0}

abbrev pub Alike : ℕ → List Cell → List Cell → Went → Went → Type 0
Alike b vs ms (Goes t) y = Chain b t.waiting × ((ns : List Cell) × (y ≡ Goes (with_memory t ns)) × Kept b vs ms t.cells ns)
Alike b vs ms (Stops x t) y = NotStuck x → (ns : List Cell) × (y ≡ Stops x (with_memory t ns)) × Kept b vs ms t.cells ns × Chain b t.waiting
