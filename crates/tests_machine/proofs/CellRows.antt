-- Instructions that read and write cells, in a frame at address 3, with one outward at address 1; Neither is a path that is
-- stuck there.
use Rattle.std.proofs.Common.{◌≡◌, List, [], ◌∷◌, ℤ, pos, negsuc, refl, map}
use Rattle.ada_base.specs.Cells.{Cell, Gone, Seen, Mine}
use Rattle.ada_base.specs.declared.reason.Reason.TheVariants.{ConstraintError}
use Rattle.stack_code.specs.declared.instr.Instr.{Instr}
use Rattle.stack_code.specs.declared.instr.Instr.TheVariants as i
use Rattle.stack_code.specs.Deeds.{deed_of}
use Rattle.ada_machine.specs.Played.{Played, Onward, Raised, Neither, plays}
use Rattle.tests_machine.specs.Samples.{code_of, five}

data Row : Type 0 where
  row : Instr → List ℤ → Played → Row

abbrev wanted : Row → Played
wanted (row instr st want) = want

abbrev found : Row → Played
found (row instr st want) = plays (deed_of (code_of [] []) 7 st 3 (1 ∷ []) instr) five

abbrev reads : List Row
reads =
    row i.Load (pos 0 ∷ []) (Onward 8 (pos 10 ∷ []) five) ∷
    row i.Load (pos 1 ∷ []) (Onward 8 (pos 11 ∷ []) five) ∷
    row i.Load (pos 2 ∷ []) Neither ∷
    row i.Load (pos 5 ∷ []) Neither ∷
    row i.Load (negsuc 0 ∷ []) Neither ∷
    row (i.LoadL 1) [] (Onward 8 (pos 14 ∷ []) five) ∷
    row (i.LoadO 1 0) [] (Onward 8 (pos 11 ∷ []) five) ∷
    row (i.Outer 1 3) (pos 99 ∷ []) (Onward 8 (pos 4 ∷ pos 99 ∷ []) five) ∷
    row (i.Outer 2 3) (pos 99 ∷ []) Neither ∷
    row (i.LoadG 3) [] (Onward 8 (pos 13 ∷ []) five) ∷
    row (i.Item (pos 1) (pos 4) 3) (pos 2 ∷ pos 0 ∷ []) (Onward 8 (pos 13 ∷ []) five) ∷
    row (i.Item (pos 1) (pos 4) 3) (pos 5 ∷ pos 0 ∷ []) (Raised ConstraintError [] five) ∷
    row (i.Item (pos 1) (pos 4) 3) (pos 0 ∷ pos 0 ∷ []) (Raised ConstraintError [] five) ∷
    row (i.ItemL 0 (pos 13) (pos 20) 9) (pos 4 ∷ []) (Onward 8 (pos 14 ∷ []) five) ∷
    row (i.ItemL 0 (pos 14) (pos 20) 9) (pos 4 ∷ []) (Raised ConstraintError [] five) ∷
    row (i.ItemG 1 (pos 10) (pos 13) 1 0) (pos 99 ∷ []) (Onward 8 (pos 14 ∷ pos 99 ∷ []) five) ∷
    row (i.ItemG 1 (pos 10) (pos 12) 1 0) (pos 99 ∷ []) (Raised ConstraintError (pos 99 ∷ []) five) ∷
    row (i.ItemG 0 (pos 13) (pos 20) 3 1) [] (Onward 8 (pos 13 ∷ []) five) ∷
    row (i.ItemG 2 (pos 13) (pos 13) 7 0) [] Neither ∷
    []

-- an address that a field is added to, and one that a component has, are those of a cell or the end of all five
abbrev points : List Row
points =
    row (i.Field 4) (pos 0 ∷ pos 99 ∷ []) (Onward 8 (pos 4 ∷ pos 99 ∷ []) five) ∷
    row (i.Field 4) (pos 5 ∷ pos 99 ∷ []) (Onward 8 (pos 9 ∷ pos 99 ∷ []) five) ∷
    row (i.Field 0) (pos 6 ∷ []) Neither ∷
    row (i.Field 4) (negsuc 0 ∷ []) Neither ∷
    row (i.Index (pos 1) (pos 3) 2) (pos 1 ∷ pos 1 ∷ []) (Onward 8 (pos 1 ∷ []) five) ∷
    row (i.Index (pos 1) (pos 3) 2) (pos 0 ∷ pos 1 ∷ []) (Raised ConstraintError [] five) ∷
    row (i.Index (pos 1) (pos 3) 2) (pos 3 ∷ pos 1 ∷ pos 99 ∷ []) (Onward 8 (pos 5 ∷ pos 99 ∷ []) five) ∷
    row (i.Index (pos 1) (pos 3) 2) (pos 3 ∷ pos 2 ∷ []) Neither ∷
    row (i.Index (pos 1) (pos 3) 2) (pos 4 ∷ pos 1 ∷ []) (Raised ConstraintError [] five) ∷
    row (i.Index (pos 1) (pos 3) 2) (pos 4 ∷ pos 77 ∷ []) (Raised ConstraintError [] five) ∷
    row (i.Index (pos 1) (pos 3) 2) (pos 1 ∷ negsuc 0 ∷ []) Neither ∷
    row (i.Index (pos 1) (pos 3) 2) (pos 2 ∷ negsuc 1 ∷ []) (Onward 8 (pos 0 ∷ []) five) ∷
    row (i.Index (negsuc 1) (pos 0) 2) (pos 0 ∷ pos 0 ∷ []) (Onward 8 (pos 4 ∷ []) five) ∷
    row (i.Index (negsuc 1) (pos 0) 3) (pos 0 ∷ pos 0 ∷ []) Neither ∷
    row (i.Index (negsuc 9223372036854775807) (pos 9223372036854775807) 4294967295) (pos 9223372036854775807 ∷ pos 5 ∷ []) Neither ∷
    row (i.Index (negsuc 9223372036854775807) (pos 9223372036854775807) 0) (pos 9223372036854775807 ∷ pos 5 ∷ []) (Onward 8 (pos 5 ∷ []) five) ∷
    row (i.IndexL 0 (pos 10) (pos 13) 1) (pos 1 ∷ []) (Onward 8 (pos 4 ∷ []) five) ∷
    row (i.IndexL 0 (pos 10) (pos 13) 1) (pos 2 ∷ []) (Onward 8 (pos 5 ∷ []) five) ∷
    row (i.IndexL 0 (pos 10) (pos 13) 1) (pos 3 ∷ []) Neither ∷
    row (i.IndexL 0 (pos 10) (pos 12) 2) (pos 1 ∷ []) (Raised ConstraintError [] five) ∷
    row (i.IndexG 1 (pos 10) (pos 13) 1 0) (pos 99 ∷ []) (Onward 8 (pos 4 ∷ pos 99 ∷ []) five) ∷
    row (i.IndexG 2 (pos 10) (pos 13) 1 0) (pos 99 ∷ []) (Onward 8 (pos 5 ∷ pos 99 ∷ []) five) ∷
    row (i.IndexG 3 (pos 10) (pos 13) 1 0) (pos 99 ∷ []) Neither ∷
    row (i.IndexG 100 (pos 10) (pos 12) 2 0) (pos 99 ∷ []) (Raised ConstraintError (pos 99 ∷ []) five) ∷
    row (i.IndexG 5 (pos 14) (pos 20) 2 1) [] (Onward 8 (pos 5 ∷ []) five) ∷
    row (i.IndexG 100 (pos 14) (pos 20) 2 0) [] (Raised ConstraintError [] five) ∷
    []

abbrev ten : ℤ → List Cell
ten v = Mine v ∷ Seen (pos 11) ∷ Gone ∷ Mine (pos 13) ∷ Mine (pos 14) ∷ []

abbrev last_two : ℤ → ℤ → List Cell
last_two v w = Mine (pos 10) ∷ Seen (pos 11) ∷ Gone ∷ Mine v ∷ Mine w ∷ []

abbrev writes : List Row
writes =
    row i.Store (pos 7 ∷ pos 0 ∷ []) (Onward 8 [] (ten (pos 7))) ∷
    row i.Store (pos 7 ∷ pos 1 ∷ []) Neither ∷
    row i.Store (pos 7 ∷ pos 2 ∷ []) Neither ∷
    row (i.StoreL 1) (pos 7 ∷ []) (Onward 8 [] (last_two (pos 13) (pos 7))) ∷
    row (i.StoreO 1 2) (pos 7 ∷ []) (Onward 8 [] (last_two (pos 7) (pos 14))) ∷
    row (i.StoreG 4) (pos 7 ∷ []) (Onward 8 [] (last_two (pos 13) (pos 7))) ∷
    row (i.SetL 1 (pos 7) (pos 9)) (pos 7 ∷ pos 99 ∷ []) (Onward 8 (pos 99 ∷ []) (last_two (pos 13) (pos 7))) ∷
    row (i.SetL 1 (pos 5) (pos 7)) (pos 7 ∷ []) (Onward 8 [] (last_two (pos 13) (pos 7))) ∷
    row (i.SetL 1 (pos 8) (pos 9)) (pos 7 ∷ pos 99 ∷ []) (Raised ConstraintError (pos 99 ∷ []) five) ∷
    row (i.SetL 1 (negsuc 8) (pos 6)) (pos 7 ∷ []) (Raised ConstraintError [] five) ∷
    row (i.SetL 2 (pos 7) (pos 9)) (pos 7 ∷ []) Neither ∷
    row (i.SetL 2 (pos 8) (pos 9)) (pos 7 ∷ []) (Raised ConstraintError [] five) ∷
    row (i.Fill 2 (negsuc 0)) (pos 3 ∷ []) (Onward 8 [] (last_two (negsuc 0) (negsuc 0))) ∷
    row (i.Fill 3 (negsuc 0)) (pos 3 ∷ []) Neither ∷
    row (i.Fill 0 (pos 5)) (pos 77 ∷ []) (Onward 8 [] five) ∷
    row (i.Copy 2) (pos 0 ∷ pos 3 ∷ []) (Onward 8 [] (last_two (pos 10) (pos 11))) ∷
    row (i.Copy 1) (pos 4 ∷ pos 3 ∷ []) (Onward 8 [] (last_two (pos 14) (pos 14))) ∷
    row (i.Copy 0) (pos 99 ∷ pos 98 ∷ []) (Onward 8 [] five) ∷
    []

abbrev all_mine : List Cell
all_mine = Mine (pos 1) ∷ Mine (pos 2) ∷ Mine (pos 3) ∷ Mine (pos 4) ∷ []

-- the source is read first as a whole, downward and upward
copied_down : plays (deed_of (code_of [] []) 7 (pos 1 ∷ pos 0 ∷ []) 0 [] (i.Copy 3)) all_mine ≡ Onward 8 [] (Mine (pos 2) ∷ Mine (pos 3) ∷ Mine (pos 4) ∷ Mine (pos 4) ∷ [])
copied_down = refl

copied_up : plays (deed_of (code_of [] []) 7 (pos 0 ∷ pos 1 ∷ []) 0 [] (i.Copy 3)) all_mine ≡ Onward 8 [] (Mine (pos 1) ∷ Mine (pos 1) ∷ Mine (pos 2) ∷ Mine (pos 3) ∷ [])
copied_up = refl

read_rows : map wanted reads ≡ map found reads
read_rows = refl

write_rows : map wanted writes ≡ map found writes
write_rows = refl

point_rows : map wanted points ≡ map found points
point_rows = refl
