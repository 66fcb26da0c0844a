-- Where a view stands.
use Rattle.std.specs.Prelude.{Bool, List, map, Option}
use Rattle.std.specs.List.{range_with_len}
use Rattle.cell_strip.specs.Strips.{Block}
use Rattle.cell_memory.specs.Sight.{Sight, cell_at, is_mine, lower_length}

-- the block of the cells that were lent to it, and which of the cells below its own ones it may write
pub record Seat : Type 0 where
  pub held : Option Block
  pub kinds : List Bool

abbrev pub seat_of : Sight → Seat
seat_of s = record { held = s.held; kinds = map (λ x. is_mine (cell_at s x)) (range_with_len 0 (lower_length s)) }
