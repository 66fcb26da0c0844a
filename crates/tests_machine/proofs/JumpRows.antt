-- Jumps: the instruction, its operands, the last first, and where it goes on.
use Rattle.std.proofs.Common.{◌≡◌, ℕ, List, [], ◌∷◌, ℤ, pos, negsuc, refl, map}
use Rattle.ada_base.specs.Cells.{Mine, Seen}
use Rattle.stack_code.specs.declared.instr.Instr.{Instr}
use Rattle.stack_code.specs.declared.instr.Instr.TheVariants as i
use Rattle.stack_code.specs.Deeds.{Deed, GoesOn, deed_of}
use Rattle.ada_machine.specs.Played.{Played, Onward, plays}
use Rattle.tests_machine.specs.Samples.{code_of}

data Row : Type 0 where
  row : Instr → List ℤ → ℕ → Row

abbrev wanted : Row → Deed
wanted (row instr st to) = GoesOn to []

abbrev found : Row → Deed
found (row instr st to) = deed_of (code_of [] []) 7 st 3 [] instr

abbrev jumps : List Row
jumps =
    row (i.Jump 2) [] 2 ∷
    row (i.JFalse 2) (pos 0 ∷ []) 2 ∷
    row (i.JFalse 2) (negsuc 0 ∷ []) 8 ∷
    row (i.JTrue 2) (pos 0 ∷ []) 8 ∷
    row (i.JTrue 2) (negsuc 0 ∷ []) 2 ∷
    row (i.JfEq 2) (pos 3 ∷ pos 3 ∷ []) 8 ∷
    row (i.JfEq 2) (pos 4 ∷ pos 3 ∷ []) 2 ∷
    row (i.JfNe 2) (pos 4 ∷ pos 3 ∷ []) 8 ∷
    row (i.JfNe 2) (pos 3 ∷ pos 3 ∷ []) 2 ∷
    row (i.JfLt 2) (pos 4 ∷ pos 3 ∷ []) 8 ∷
    row (i.JfLt 2) (pos 3 ∷ pos 3 ∷ []) 2 ∷
    row (i.JfLe 2) (pos 3 ∷ pos 3 ∷ []) 8 ∷
    row (i.JfLe 2) (pos 3 ∷ pos 4 ∷ []) 2 ∷
    row (i.JfGt 2) (pos 3 ∷ pos 4 ∷ []) 8 ∷
    row (i.JfGt 2) (pos 3 ∷ pos 3 ∷ []) 2 ∷
    row (i.JfGe 2) (pos 3 ∷ pos 3 ∷ []) 8 ∷
    row (i.JfGe 2) (pos 4 ∷ pos 3 ∷ []) 2 ∷
    []

jump_rows : map wanted jumps ≡ map found jumps
jump_rows = refl

-- the ends of turns: the counter, the last value, where it goes on, and the counter then
data Turn : Type 0 where
  turn : Instr → (counter last : ℤ) → (to : ℕ) → ℤ → Turn

abbrev wanted_turn : Turn → Played
wanted_turn (turn instr x y to z) = Onward to [] (Mine z ∷ Seen y ∷ [])

abbrev found_turn : Turn → Played
found_turn (turn instr x y to z) = plays (deed_of (code_of [] []) 7 [] 0 [] instr) (Mine x ∷ Seen y ∷ [])

abbrev turns : List Turn
turns =
    turn (i.Next 0 1 2) (pos 4) (pos 5) 2 (pos 5) ∷
    turn (i.Next 0 1 2) (pos 5) (pos 5) 8 (pos 5) ∷
    turn (i.Next 0 1 2) (pos 9223372036854775806) (pos 9223372036854775807) 2 (pos 9223372036854775807) ∷
    turn (i.Prior 0 1 2) (pos 5) (pos 4) 2 (pos 4) ∷
    turn (i.Prior 0 1 2) (pos 4) (pos 4) 8 (pos 4) ∷
    turn (i.Prior 0 1 2) (negsuc 9223372036854775806) (negsuc 9223372036854775807) 2 (negsuc 9223372036854775807) ∷
    []

turn_rows : map wanted_turn turns ≡ map found_turn turns
turn_rows = refl
