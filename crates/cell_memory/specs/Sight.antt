-- What contracts see of memories and views.
use Rattle.std.specs.Prelude.{◌≡◌, ℕ, ◌+◌, ◌-◌, ◌<◌, ◌≤◌, ℤ, pos, Bool, true, false, cond, List, ◌++◌, map, length, take, get_or, set, Option, Some, None}
use Rattle.std.specs.List.{range_with_len}
use Rattle.ada_base.specs.Cells.{Cell, Gone, Seen, Mine, zeros}
use Rattle.cell_strip.specs.declared.region.Region.{Region}
use Rattle.cell_strip.specs.Regions.{covered}
use Rattle.cell_strip.specs.Strips.{Block, Strip, cell}

-- cells that a view can own
pub record Store : Type 0 where
  pub home : Block
  pub values : List ℤ

-- a view: its own cells are the last ones, in the block `home`; `held` is the block of the cells that were lent to it, of a thread's view alone
pub record Sight : Type 0 where
  pub cells : List Cell
  pub own : ℕ
  pub spare : ℕ
  pub home : Block
  pub held : Option Block

abbrev pub cell_at : Sight → ℕ → Cell
cell_at s x = get_or s.cells x Gone

abbrev pub value_of : Cell → ℤ
value_of Gone = pos 0
value_of (Seen v) = v
value_of (Mine v) = v

abbrev pub is_mine : Cell → Bool
is_mine Gone = false
is_mine (Seen v) = false
is_mine (Mine v) = true

abbrev pub is_gone : Cell → Bool
is_gone Gone = true
is_gone (Seen v) = false
is_gone (Mine v) = false

-- as the views of threads have the cell
abbrev pub shown : Cell → Cell
shown Gone = Gone
shown (Seen v) = Seen v
shown (Mine v) = Seen v

abbrev pub mine_or : Option ℤ → Cell → Cell
mine_or None c = c
mine_or (Some v) c = Mine v

-- what is lent of the cell
abbrev pub lent_value : Cell → Option ℤ
lent_value Gone = None
lent_value (Seen v) = None
lent_value (Mine v) = Some v

-- the cells f 0 to f (n - 1)
abbrev pub table : ℕ → (ℕ → Cell) → List Cell
table n f = map f (range_with_len 0 n)

-- how many cells stand before its own
abbrev pub lower_length : Sight → ℕ
lower_length s = length s.cells - s.own

abbrev pub main_sight : Store → Sight
main_sight m = record { cells = map Mine m.values; own = length m.values; spare = 0; home = m.home; held = None }

-- a thread's cells over those of the view around it
abbrev pub thread_cells : List Cell → Strip → List ℤ → List Cell
thread_cells cs l own = table (length cs) (λ x. mine_or (cell l x) (shown (get_or cs x Gone))) ++ map Mine own

abbrev pub thread_sight : Sight → Strip → Store → Sight
thread_sight o l m = record { cells = thread_cells o.cells l m.values; own = length m.values; spare = 0; home = m.home; held = Some l.block }

abbrev pub stored : Sight → ℕ → ℤ → Sight
stored s x v = record s { cells = set s.cells x (Mine v) }

abbrev pub lent_out : Sight → List Region → Sight
lent_out s rs = record s { cells = table (length s.cells) (λ x. cond (covered rs x) Gone (cell_at s x)) }

abbrev pub taken_back : Sight → Strip → Sight
taken_back s l = record s { cells = table (length s.cells) (λ x. mine_or (cell l x) (cell_at s x)) }

abbrev pub pushed : Sight → ℕ → Sight
pushed s n = record s { cells = s.cells ++ zeros n; own = s.own + n; spare = s.spare - n }

abbrev pub popped : Sight → ℕ → Sight
popped s n = record s { cells = take (length s.cells - n) s.cells; own = s.own - n; spare = s.spare + n }

-- none of its own cells is lent
abbrev pub OwnThere : Sight → Type 0
OwnThere s = (x : ℕ) → lower_length s ≤ x → x < length s.cells → is_gone (cell_at s x) ≡ false

-- what a view gives back: the cells that it has to write, below its own
abbrev pub GivesBack : Sight → Option Strip → Type 0
GivesBack s None = s.held ≡ None
GivesBack s (Some l) = (s.held ≡ Some l.block) × ((x : ℕ) → x < lower_length s → cell l x ≡ lent_value (cell_at s x))
