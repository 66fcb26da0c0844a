-- What instructions push that take numbers alone: the operands, the last first, and what is there then; None is
-- Constraint_Error.
use Rattle.std.proofs.Common.{◌≡◌, List, [], ◌∷◌, Option, Some, None, ℤ, pos, negsuc, refl, map}
use Rattle.ada_base.specs.declared.operation.Base.TheVariants.{Narrow, Wide}
use Rattle.ada_base.specs.declared.reason.Reason.TheVariants.{ConstraintError}
use Rattle.stack_code.specs.declared.instr.Instr.{Instr}
use Rattle.stack_code.specs.declared.instr.Instr.TheVariants as i
use Rattle.stack_code.specs.Deeds.{Deed, GoesOn, Fails, deed_of}
use Rattle.tests_machine.specs.Samples.{code_of}

data Row : Type 0 where
  row : Instr → List ℤ → Option (List ℤ) → Row

abbrev wanted : Row → Deed
wanted (row instr st (Some new)) = GoesOn 8 new
wanted (row instr st None) = Fails ConstraintError (pos 99 ∷ [])

abbrev found : Row → Deed
found (row instr st want) = deed_of (code_of [] []) 7 st 3 [] instr

abbrev stack : List Row
stack =
    row (i.Push (negsuc 4)) (pos 99 ∷ []) (Some (negsuc 4 ∷ pos 99 ∷ [])) ∷
    row i.Pop (pos 5 ∷ pos 99 ∷ []) (Some (pos 99 ∷ [])) ∷
    row i.Dup (pos 5 ∷ pos 99 ∷ []) (Some (pos 5 ∷ pos 5 ∷ pos 99 ∷ [])) ∷
    row i.Swap (pos 2 ∷ pos 1 ∷ pos 99 ∷ []) (Some (pos 1 ∷ pos 2 ∷ pos 99 ∷ [])) ∷
    row (i.Local 4) (pos 99 ∷ []) (Some (pos 7 ∷ pos 99 ∷ [])) ∷
    row (i.Global 4) (pos 99 ∷ []) (Some (pos 4 ∷ pos 99 ∷ [])) ∷
    []

abbrev narrow : List Row
narrow =
    row (i.Add Narrow) (pos 1 ∷ pos 2147483646 ∷ pos 99 ∷ []) (Some (pos 2147483647 ∷ pos 99 ∷ [])) ∷
    row (i.Add Narrow) (pos 1 ∷ pos 2147483647 ∷ pos 99 ∷ []) None ∷
    row (i.Add Narrow) (negsuc 0 ∷ negsuc 2147483647 ∷ pos 99 ∷ []) None ∷
    row (i.Sub Narrow) (pos 1 ∷ negsuc 2147483646 ∷ pos 99 ∷ []) (Some (negsuc 2147483647 ∷ pos 99 ∷ [])) ∷
    row (i.Sub Narrow) (pos 1 ∷ negsuc 2147483647 ∷ pos 99 ∷ []) None ∷
    row (i.Sub Narrow) (pos 3 ∷ pos 10 ∷ pos 99 ∷ []) (Some (pos 7 ∷ pos 99 ∷ [])) ∷
    row (i.Mul Narrow) (negsuc 1 ∷ pos 1073741824 ∷ pos 99 ∷ []) (Some (negsuc 2147483647 ∷ pos 99 ∷ [])) ∷
    row (i.Mul Narrow) (pos 2 ∷ pos 1073741824 ∷ pos 99 ∷ []) None ∷
    row (i.Div Narrow) (pos 2 ∷ negsuc 6 ∷ pos 99 ∷ []) (Some (negsuc 2 ∷ pos 99 ∷ [])) ∷
    row (i.Div Narrow) (negsuc 0 ∷ negsuc 2147483647 ∷ pos 99 ∷ []) None ∷
    row (i.Div Narrow) (pos 0 ∷ pos 1 ∷ pos 99 ∷ []) None ∷
    row (i.Mod Narrow) (pos 2 ∷ negsuc 6 ∷ pos 99 ∷ []) (Some (pos 1 ∷ pos 99 ∷ [])) ∷
    row (i.Mod Narrow) (negsuc 0 ∷ negsuc 2147483647 ∷ pos 99 ∷ []) (Some (pos 0 ∷ pos 99 ∷ [])) ∷
    row (i.Mod Narrow) (pos 0 ∷ pos 1 ∷ pos 99 ∷ []) None ∷
    row (i.Rem Narrow) (pos 2 ∷ negsuc 6 ∷ pos 99 ∷ []) (Some (negsuc 0 ∷ pos 99 ∷ [])) ∷
    row (i.Rem Narrow) (pos 0 ∷ pos 1 ∷ pos 99 ∷ []) None ∷
    row (i.Pow Narrow) (pos 30 ∷ pos 2 ∷ pos 99 ∷ []) (Some (pos 1073741824 ∷ pos 99 ∷ [])) ∷
    row (i.Pow Narrow) (pos 31 ∷ pos 2 ∷ pos 99 ∷ []) None ∷
    row (i.Pow Narrow) (pos 31 ∷ negsuc 1 ∷ pos 99 ∷ []) (Some (negsuc 2147483647 ∷ pos 99 ∷ [])) ∷
    row (i.Pow Narrow) (negsuc 0 ∷ pos 2 ∷ pos 99 ∷ []) None ∷
    row (i.Neg Narrow) (negsuc 2147483646 ∷ pos 99 ∷ []) (Some (pos 2147483647 ∷ pos 99 ∷ [])) ∷
    row (i.Neg Narrow) (negsuc 2147483647 ∷ pos 99 ∷ []) None ∷
    row (i.Abs Narrow) (negsuc 2147483646 ∷ pos 99 ∷ []) (Some (pos 2147483647 ∷ pos 99 ∷ [])) ∷
    row (i.Abs Narrow) (negsuc 2147483647 ∷ pos 99 ∷ []) None ∷
    row (i.AddI (pos 1) Narrow) (pos 2147483646 ∷ pos 99 ∷ []) (Some (pos 2147483647 ∷ pos 99 ∷ [])) ∷
    row (i.AddI (pos 1) Narrow) (pos 2147483647 ∷ pos 99 ∷ []) None ∷
    row (i.SubI (pos 3) Narrow) (pos 10 ∷ pos 99 ∷ []) (Some (pos 7 ∷ pos 99 ∷ [])) ∷
    row (i.SubI (pos 1) Narrow) (negsuc 2147483646 ∷ pos 99 ∷ []) (Some (negsuc 2147483647 ∷ pos 99 ∷ [])) ∷
    row (i.SubI (pos 1) Narrow) (negsuc 2147483647 ∷ pos 99 ∷ []) None ∷
    row (i.MulI (negsuc 1) Narrow) (pos 1073741824 ∷ pos 99 ∷ []) (Some (negsuc 2147483647 ∷ pos 99 ∷ [])) ∷
    row (i.MulI (pos 2) Narrow) (pos 1073741824 ∷ pos 99 ∷ []) None ∷
    row (i.ModI (pos 2) Narrow) (negsuc 6 ∷ pos 99 ∷ []) (Some (pos 1 ∷ pos 99 ∷ [])) ∷
    row (i.ModI (negsuc 6) Narrow) (pos 2 ∷ pos 99 ∷ []) (Some (negsuc 4 ∷ pos 99 ∷ [])) ∷
    row (i.ModI (negsuc 0) Narrow) (negsuc 2147483647 ∷ pos 99 ∷ []) (Some (pos 0 ∷ pos 99 ∷ [])) ∷
    row (i.ModI (pos 0) Narrow) (pos 1 ∷ pos 99 ∷ []) None ∷
    []

abbrev wide : List Row
wide =
    row (i.Add Wide) (pos 1 ∷ pos 2147483647 ∷ pos 99 ∷ []) (Some (pos 2147483648 ∷ pos 99 ∷ [])) ∷
    row (i.Add Wide) (pos 1 ∷ pos 9223372036854775806 ∷ pos 99 ∷ []) (Some (pos 9223372036854775807 ∷ pos 99 ∷ [])) ∷
    row (i.Add Wide) (pos 1 ∷ pos 9223372036854775807 ∷ pos 99 ∷ []) None ∷
    row (i.Sub Wide) (pos 1 ∷ negsuc 9223372036854775806 ∷ pos 99 ∷ []) (Some (negsuc 9223372036854775807 ∷ pos 99 ∷ [])) ∷
    row (i.Sub Wide) (pos 1 ∷ negsuc 9223372036854775807 ∷ pos 99 ∷ []) None ∷
    row (i.Mul Wide) (pos 4294967296 ∷ pos 2147483647 ∷ pos 99 ∷ []) (Some (pos 9223372032559808512 ∷ pos 99 ∷ [])) ∷
    row (i.Mul Wide) (pos 4294967296 ∷ pos 2147483648 ∷ pos 99 ∷ []) None ∷
    row (i.Div Wide) (negsuc 0 ∷ negsuc 9223372036854775806 ∷ pos 99 ∷ []) (Some (pos 9223372036854775807 ∷ pos 99 ∷ [])) ∷
    row (i.Div Wide) (negsuc 0 ∷ negsuc 9223372036854775807 ∷ pos 99 ∷ []) None ∷
    row (i.Neg Wide) (negsuc 9223372036854775807 ∷ pos 99 ∷ []) None ∷
    row (i.Abs Wide) (negsuc 9223372036854775807 ∷ pos 99 ∷ []) None ∷
    row (i.AddI (negsuc 0) Wide) (negsuc 9223372036854775806 ∷ pos 99 ∷ []) (Some (negsuc 9223372036854775807 ∷ pos 99 ∷ [])) ∷
    row (i.AddI (negsuc 0) Wide) (negsuc 9223372036854775807 ∷ pos 99 ∷ []) None ∷
    row (i.SubI (negsuc 0) Wide) (pos 9223372036854775806 ∷ pos 99 ∷ []) (Some (pos 9223372036854775807 ∷ pos 99 ∷ [])) ∷
    row (i.SubI (negsuc 0) Wide) (pos 9223372036854775807 ∷ pos 99 ∷ []) None ∷
    row (i.MulI (pos 4294967296) Wide) (pos 2147483647 ∷ pos 99 ∷ []) (Some (pos 9223372032559808512 ∷ pos 99 ∷ [])) ∷
    row (i.MulI (pos 4294967296) Wide) (pos 2147483648 ∷ pos 99 ∷ []) None ∷
    []

abbrev others : List Row
others =
    row i.Max (pos 3 ∷ negsuc 3 ∷ []) (Some (pos 3 ∷ [])) ∷
    row i.Min (pos 3 ∷ negsuc 3 ∷ []) (Some (negsuc 3 ∷ [])) ∷
    row i.Eq (pos 3 ∷ pos 3 ∷ []) (Some (pos 1 ∷ [])) ∷
    row i.Eq (pos 3 ∷ pos 4 ∷ []) (Some (pos 0 ∷ [])) ∷
    row i.Ne (pos 3 ∷ pos 3 ∷ []) (Some (pos 0 ∷ [])) ∷
    row i.Ne (pos 3 ∷ pos 4 ∷ []) (Some (pos 1 ∷ [])) ∷
    row i.Lt (pos 4 ∷ pos 3 ∷ []) (Some (pos 1 ∷ [])) ∷
    row i.Lt (pos 3 ∷ pos 3 ∷ []) (Some (pos 0 ∷ [])) ∷
    row i.Le (pos 3 ∷ pos 3 ∷ []) (Some (pos 1 ∷ [])) ∷
    row i.Le (pos 3 ∷ pos 4 ∷ []) (Some (pos 0 ∷ [])) ∷
    row i.Gt (pos 3 ∷ pos 4 ∷ []) (Some (pos 1 ∷ [])) ∷
    row i.Gt (pos 3 ∷ pos 3 ∷ []) (Some (pos 0 ∷ [])) ∷
    row i.Ge (pos 3 ∷ pos 3 ∷ []) (Some (pos 1 ∷ [])) ∷
    row i.Ge (pos 4 ∷ pos 3 ∷ []) (Some (pos 0 ∷ [])) ∷
    row (i.Far 3) (pos 8 ∷ pos 5 ∷ pos 99 ∷ []) (Some (pos 1 ∷ pos 99 ∷ [])) ∷
    row (i.Far 3) (pos 7 ∷ pos 5 ∷ []) (Some (pos 0 ∷ [])) ∷
    row (i.Far 0) (pos 5 ∷ pos 5 ∷ []) (Some (pos 1 ∷ [])) ∷
    row (i.Far 0) (pos 4 ∷ pos 5 ∷ []) (Some (pos 0 ∷ [])) ∷
    row (i.Far 4096) (pos 9223372036854775806 ∷ pos 9223372036854775800 ∷ []) (Some (pos 0 ∷ [])) ∷
    row (i.Far 4096) (pos 9223372036854775807 ∷ pos 9223372036854771711 ∷ []) (Some (pos 1 ∷ [])) ∷
    row (i.Far 4096) (pos 9223372036854775807 ∷ pos 9223372036854771712 ∷ []) (Some (pos 0 ∷ [])) ∷
    row (i.Far 4096) (negsuc 9223372036854771711 ∷ negsuc 9223372036854775807 ∷ []) (Some (pos 1 ∷ [])) ∷
    row (i.Far 4096) (negsuc 9223372036854771712 ∷ negsuc 9223372036854775807 ∷ []) (Some (pos 0 ∷ [])) ∷
    row (i.Far 4294967295) (pos 9223372036854775807 ∷ negsuc 9223372036854775807 ∷ []) (Some (pos 1 ∷ [])) ∷
    row (i.Far 0) (negsuc 9223372036854775807 ∷ pos 9223372036854775807 ∷ []) (Some (pos 0 ∷ [])) ∷
    row i.Not (pos 0 ∷ []) (Some (pos 1 ∷ [])) ∷
    row i.Not (negsuc 0 ∷ []) (Some (pos 0 ∷ [])) ∷
    row i.And (pos 5 ∷ pos 3 ∷ pos 99 ∷ []) (Some (pos 1 ∷ pos 99 ∷ [])) ∷
    row i.And (pos 6 ∷ negsuc 3 ∷ []) (Some (pos 4 ∷ [])) ∷
    row i.And (negsuc 0 ∷ negsuc 9223372036854775807 ∷ []) (Some (negsuc 9223372036854775807 ∷ [])) ∷
    row i.Or (pos 5 ∷ pos 3 ∷ pos 99 ∷ []) (Some (pos 7 ∷ pos 99 ∷ [])) ∷
    row i.Or (pos 1 ∷ negsuc 3 ∷ []) (Some (negsuc 2 ∷ [])) ∷
    row i.Xor (pos 5 ∷ pos 3 ∷ pos 99 ∷ []) (Some (pos 6 ∷ pos 99 ∷ [])) ∷
    row i.Xor (pos 1 ∷ negsuc 0 ∷ []) (Some (negsuc 1 ∷ [])) ∷
    row i.Flip (pos 0 ∷ []) (Some (pos 1 ∷ [])) ∷
    row i.Flip (pos 1 ∷ []) (Some (pos 0 ∷ [])) ∷
    row i.Differ (pos 1 ∷ pos 0 ∷ []) (Some (pos 1 ∷ [])) ∷
    row i.Differ (pos 1 ∷ pos 7 ∷ []) (Some (pos 0 ∷ [])) ∷
    []

stack_rows : map wanted stack ≡ map found stack
stack_rows = refl

narrow_rows : map wanted narrow ≡ map found narrow
narrow_rows = refl

wide_rows : map wanted wide ≡ map found wide
wide_rows = refl

other_rows : map wanted others ≡ map found others
other_rows = refl
