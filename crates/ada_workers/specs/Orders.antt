-- Threads one after the other on one memory, by notes.
use Rattle.std.specs.Prelude.{ℕ, ℤ, cond, List, [], ◌∷◌, ◌++◌, map, take, length, get_or, Option, Some, None}
use Rattle.cell_strip.specs.declared.region.Region.{Region}
use Rattle.cell_strip.specs.Regions.{covered}
use Rattle.ada_base.specs.Cells.{Cell, Gone, Mine}
use Rattle.cell_memory.specs.Sight.{shown, mine_or, lent_value, table}
use Rattle.ada_base.specs.Notes.{ThreadNote, Whole, NotBegun, CutAfter}
use Rattle.ada_workers.specs.Paths.{Ending, Cut, Outcome, Runs, Fine}

-- a thread as it begins: its path, and the first values of its own cells
pub record Start (P : Type 0) : Type 0 where
  pub path : P
  pub own : List ℤ

module _ {P : Type 0} (runs : Runs P) where
  abbrev pub by_note : P → ThreadNote → List Cell → Outcome P
  by_note p Whole cs = runs p None cs
  by_note p NotBegun cs = record { path = p; cells = cs; end = Cut }
  by_note p (CutAfter n) cs = runs p (Some n) cs

  abbrev pub in_turn : Start P → ThreadNote → List Cell → Outcome P
  in_turn s n cs = by_note s.path n (cs ++ map Mine s.own)

  -- the memory after the threads, each with its own cells behind the others
  abbrev pub memory_after : List (Start P) → List ThreadNote → List Cell → List Cell
  memory_after [] ns cs = cs
  memory_after (s ∷ ss) [] cs = cs
  memory_after (s ∷ ss) (n ∷ ns) cs = memory_after ss ns (take (length cs) (in_turn s n cs).cells)

  -- what each of them comes to
  abbrev pub ends_of : List (Start P) → List ThreadNote → List Cell → List (P × Ending)
  ends_of [] ns cs = []
  ends_of (s ∷ ss) [] cs = []
  ends_of (s ∷ ss) (n ∷ ns) cs = let o = in_turn s n cs in (o.path, o.end) ∷ ends_of ss ns (take (length cs) o.cells)

-- ---- views
-- the cells when those of the regions are lent
abbrev pub out_of : List Cell → List Region → List Cell
out_of cs rs = table (length cs) (λ x. cond (covered rs x) Gone (get_or cs x Gone))

abbrev pub all_out : List Cell → List (List Region) → List Cell
all_out cs [] = cs
all_out cs (rs ∷ rss) = all_out (out_of cs rs) rss

-- what is lent of them
abbrev pub lent_of : List Cell → List Region → ℕ → Option ℤ
lent_of cs rs x = cond (covered rs x) (lent_value (get_or cs x Gone)) None

-- the view of a thread over cells from which those of all threads are lent
abbrev pub view_of : List Cell → (ℕ → Option ℤ) → List ℤ → List Cell
view_of cs given own = table (length cs) (λ x. mine_or (given x) (shown (get_or cs x Gone))) ++ map Mine own

-- no thread's own run touches what it doesn't have
abbrev pub AllFine : {P : Type 0} → Runs P → List Cell → List Cell → List (Start P) → List (List Region) → Type 0
AllFine runs end cs [] rss = Unit {0}
AllFine runs end cs (s ∷ ss) [] = Unit {0}
AllFine runs end cs (s ∷ ss) (rs ∷ rss) = Fine (runs s.path None (view_of end (lent_of cs rs) s.own)).end × AllFine runs end (out_of cs rs) ss rss
