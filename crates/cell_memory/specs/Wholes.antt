-- What the fields of memories and views stand for, and what they keep.
use Rattle.std.specs.Prelude.{◌≡◌, ℕ, ◌+◌, ◌-◌, ◌^◌, ◌<◌, ◌≤◌, ℤ, pos, true, cond, List, map, Option, Some, None}
use lib.Dec.{ltb}
use Rattle.cell_strip.specs.Strips.{Block, Strip, cell, owns}
use Rattle.ada_base.specs.Cells.{Cell, Gone, Seen}
use Rattle.cell_memory.specs.Sight.{Store, Sight, mine_or, table}
use Rattle.cell_memory.specs.declared.view.Lower.{Lower}
use Rattle.cell_memory.specs.declared.view.Memory.TheInside as M
use Rattle.cell_memory.specs.declared.view.View.TheInside as V

abbrev pub value_or_zero : Option ℤ → ℤ
value_or_zero None = pos 0
value_or_zero (Some v) = v

-- the part has every cell of its block
abbrev pub All : Strip → Type 0
All p = (x : ℕ) → x < p.block.many → owns p x ≡ true

abbrev pub values_of : Strip → List ℤ
values_of p = map value_or_zero p.cells

abbrev pub store : M.Inside → Store
store m = record { home = m.part.block; values = values_of m.part }

abbrev pub StoreWhole : M.Inside → Type 0
StoreWhole m = All m.part

abbrev pub seen : Option ℤ → Cell
seen None = Gone
seen (Some v) = Seen v

abbrev pub own_cell : Strip → ℕ → Cell
own_cell p x = mine_or (cell p x) Gone

abbrev pub low_cell : Option Lower → ℕ → Cell
low_cell None x = Gone
low_cell (Some l) x = mine_or (cell l.lent x) (seen (cell l.outer.now x))

abbrev pub cell_of : Option Lower → ℕ → Strip → ℕ → Cell
cell_of low base own x = cond (ltb x base) (low_cell low x) (own_cell own (x - base))

abbrev pub block_of : Option Lower → Option Block
block_of None = None
block_of (Some l) = Some l.lent.block

abbrev pub sight_of : Option Lower → ℕ → Strip → ℕ → Sight
sight_of low base own len = record { cells = table (base + len) (cell_of low base own); own = len; spare = own.block.many - len; home = own.block; held = block_of low }

abbrev pub whole : V.Inside → Sight
whole v = sight_of v.lower v.base v.own v.len

pub record WholeOf (low : Option Lower) (base : ℕ) (own : Strip) (len : ℕ) : Type 0 where
  pub alone : low ≡ None → base ≡ 0
  pub one : (l : Lower) → low ≡ Some l → l.lent.block ≡ l.outer.now.block
  pub room : base < 2 ^ 32
  pub small : own.block.many < 2 ^ 32
  pub within : len ≤ own.block.many
  -- its spare cells are its own
  pub spare : (x : ℕ) → len ≤ x → x < own.block.many → owns own x ≡ true

abbrev pub Whole : V.Inside → Type 0
Whole v = WholeOf v.lower v.base v.own v.len
