-- Instructions on numbers of modular types, as they are kept: 2 ** 63 as -(2 ** 63), 2 ** 64 - 1 as -1. The operands, the last
-- first, and what is there then; None is Constraint_Error.
use Rattle.std.proofs.Common.{◌≡◌, List, [], ◌∷◌, Option, Some, None, ℤ, pos, negsuc, refl, map}
use Rattle.ada_base.specs.Cells.{Cell, Mine, Seen, Gone}
use Rattle.ada_base.specs.declared.operation.Base.TheVariants.{Modulo}
use Rattle.ada_base.specs.declared.reason.Reason.TheVariants.{ConstraintError}
use Rattle.stack_code.specs.declared.instr.Instr.{Instr}
use Rattle.stack_code.specs.declared.instr.Instr.TheVariants as i
use Rattle.stack_code.specs.Deeds.{Deed, GoesOn, Fails, deed_of}
use Rattle.ada_machine.specs.Played.{Played, Onward, Raised, Neither, plays}
use Rattle.tests_machine.specs.Samples.{code_of, five}

data Row : Type 0 where
  row : Instr → List ℤ → Option (List ℤ) → Row

abbrev wanted : Row → Deed
wanted (row instr st (Some new)) = GoesOn 8 new
wanted (row instr st None) = Fails ConstraintError (pos 99 ∷ [])

abbrev found : Row → Deed
found (row instr st want) = deed_of (code_of [] []) 7 st 3 [] instr

-- each of 1, 8, 32, 63 and 64 digits turned: 2 ** k - 1 less the number
abbrev turned_digits : List Row
turned_digits =
    row (i.BNot 1) (pos 0 ∷ pos 99 ∷ []) (Some (pos 1 ∷ pos 99 ∷ [])) ∷
    row (i.BNot 1) (pos 1 ∷ pos 99 ∷ []) (Some (pos 0 ∷ pos 99 ∷ [])) ∷
    row (i.BNot 8) (pos 0 ∷ pos 99 ∷ []) (Some (pos 255 ∷ pos 99 ∷ [])) ∷
    row (i.BNot 8) (pos 1 ∷ pos 99 ∷ []) (Some (pos 254 ∷ pos 99 ∷ [])) ∷
    row (i.BNot 8) (pos 255 ∷ pos 99 ∷ []) (Some (pos 0 ∷ pos 99 ∷ [])) ∷
    row (i.BNot 32) (pos 0 ∷ pos 99 ∷ []) (Some (pos 4294967295 ∷ pos 99 ∷ [])) ∷
    row (i.BNot 32) (pos 1 ∷ pos 99 ∷ []) (Some (pos 4294967294 ∷ pos 99 ∷ [])) ∷
    row (i.BNot 32) (pos 4294967295 ∷ pos 99 ∷ []) (Some (pos 0 ∷ pos 99 ∷ [])) ∷
    row (i.BNot 63) (pos 0 ∷ pos 99 ∷ []) (Some (pos 9223372036854775807 ∷ pos 99 ∷ [])) ∷
    row (i.BNot 63) (pos 1 ∷ pos 99 ∷ []) (Some (pos 9223372036854775806 ∷ pos 99 ∷ [])) ∷
    row (i.BNot 63) (pos 9223372036854775807 ∷ pos 99 ∷ []) (Some (pos 0 ∷ pos 99 ∷ [])) ∷
    row (i.BNot 64) (pos 0 ∷ pos 99 ∷ []) (Some (negsuc 0 ∷ pos 99 ∷ [])) ∷
    row (i.BNot 64) (pos 1 ∷ pos 99 ∷ []) (Some (negsuc 1 ∷ pos 99 ∷ [])) ∷
    row (i.BNot 64) (pos 9223372036854775807 ∷ pos 99 ∷ []) (Some (negsuc 9223372036854775807 ∷ pos 99 ∷ [])) ∷
    row (i.BNot 64) (negsuc 9223372036854775807 ∷ pos 99 ∷ []) (Some (pos 9223372036854775807 ∷ pos 99 ∷ [])) ∷
    row (i.BNot 64) (negsuc 0 ∷ pos 99 ∷ []) (Some (pos 0 ∷ pos 99 ∷ [])) ∷
    []

-- 0, 1, 2 ** 63 - 1, 2 ** 63 and 2 ** 64 - 1 stand in this order; the last two are kept as less than 0
abbrev related : List Row
related =
    row i.ULt (pos 0 ∷ pos 0 ∷ pos 99 ∷ []) (Some (pos 0 ∷ pos 99 ∷ [])) ∷
    row i.ULt (pos 1 ∷ pos 0 ∷ pos 99 ∷ []) (Some (pos 1 ∷ pos 99 ∷ [])) ∷
    row i.ULt (pos 9223372036854775807 ∷ pos 1 ∷ pos 99 ∷ []) (Some (pos 1 ∷ pos 99 ∷ [])) ∷
    row i.ULt (pos 9223372036854775807 ∷ pos 9223372036854775807 ∷ pos 99 ∷ []) (Some (pos 0 ∷ pos 99 ∷ [])) ∷
    row i.ULt (negsuc 9223372036854775807 ∷ pos 9223372036854775807 ∷ pos 99 ∷ []) (Some (pos 1 ∷ pos 99 ∷ [])) ∷
    row i.ULt (pos 9223372036854775807 ∷ negsuc 9223372036854775807 ∷ pos 99 ∷ []) (Some (pos 0 ∷ pos 99 ∷ [])) ∷
    row i.ULt (negsuc 9223372036854775807 ∷ negsuc 9223372036854775807 ∷ pos 99 ∷ []) (Some (pos 0 ∷ pos 99 ∷ [])) ∷
    row i.ULt (negsuc 0 ∷ negsuc 9223372036854775807 ∷ pos 99 ∷ []) (Some (pos 1 ∷ pos 99 ∷ [])) ∷
    row i.ULt (negsuc 0 ∷ negsuc 0 ∷ pos 99 ∷ []) (Some (pos 0 ∷ pos 99 ∷ [])) ∷
    row i.ULt (pos 0 ∷ negsuc 0 ∷ pos 99 ∷ []) (Some (pos 0 ∷ pos 99 ∷ [])) ∷
    row i.ULt (negsuc 0 ∷ pos 0 ∷ pos 99 ∷ []) (Some (pos 1 ∷ pos 99 ∷ [])) ∷
    row i.ULt (negsuc 9223372036854775807 ∷ pos 1 ∷ pos 99 ∷ []) (Some (pos 1 ∷ pos 99 ∷ [])) ∷
    row i.ULe (pos 0 ∷ pos 0 ∷ pos 99 ∷ []) (Some (pos 1 ∷ pos 99 ∷ [])) ∷
    row i.ULe (pos 1 ∷ pos 0 ∷ pos 99 ∷ []) (Some (pos 1 ∷ pos 99 ∷ [])) ∷
    row i.ULe (pos 0 ∷ pos 1 ∷ pos 99 ∷ []) (Some (pos 0 ∷ pos 99 ∷ [])) ∷
    row i.ULe (pos 9223372036854775807 ∷ pos 9223372036854775807 ∷ pos 99 ∷ []) (Some (pos 1 ∷ pos 99 ∷ [])) ∷
    row i.ULe (negsuc 9223372036854775807 ∷ pos 9223372036854775807 ∷ pos 99 ∷ []) (Some (pos 1 ∷ pos 99 ∷ [])) ∷
    row i.ULe (pos 9223372036854775807 ∷ negsuc 9223372036854775807 ∷ pos 99 ∷ []) (Some (pos 0 ∷ pos 99 ∷ [])) ∷
    row i.ULe (negsuc 9223372036854775807 ∷ negsuc 9223372036854775807 ∷ pos 99 ∷ []) (Some (pos 1 ∷ pos 99 ∷ [])) ∷
    row i.ULe (negsuc 0 ∷ negsuc 9223372036854775807 ∷ pos 99 ∷ []) (Some (pos 1 ∷ pos 99 ∷ [])) ∷
    row i.ULe (negsuc 9223372036854775807 ∷ negsuc 0 ∷ pos 99 ∷ []) (Some (pos 0 ∷ pos 99 ∷ [])) ∷
    row i.ULe (negsuc 0 ∷ negsuc 0 ∷ pos 99 ∷ []) (Some (pos 1 ∷ pos 99 ∷ [])) ∷
    row i.ULe (pos 0 ∷ negsuc 0 ∷ pos 99 ∷ []) (Some (pos 0 ∷ pos 99 ∷ [])) ∷
    row i.ULe (pos 1 ∷ negsuc 0 ∷ pos 99 ∷ []) (Some (pos 0 ∷ pos 99 ∷ [])) ∷
    row i.UGt (pos 0 ∷ pos 0 ∷ pos 99 ∷ []) (Some (pos 0 ∷ pos 99 ∷ [])) ∷
    row i.UGt (pos 0 ∷ pos 1 ∷ pos 99 ∷ []) (Some (pos 1 ∷ pos 99 ∷ [])) ∷
    row i.UGt (pos 1 ∷ pos 0 ∷ pos 99 ∷ []) (Some (pos 0 ∷ pos 99 ∷ [])) ∷
    row i.UGt (negsuc 9223372036854775807 ∷ pos 9223372036854775807 ∷ pos 99 ∷ []) (Some (pos 0 ∷ pos 99 ∷ [])) ∷
    row i.UGt (pos 9223372036854775807 ∷ negsuc 9223372036854775807 ∷ pos 99 ∷ []) (Some (pos 1 ∷ pos 99 ∷ [])) ∷
    row i.UGt (negsuc 9223372036854775807 ∷ negsuc 9223372036854775807 ∷ pos 99 ∷ []) (Some (pos 0 ∷ pos 99 ∷ [])) ∷
    row i.UGt (pos 1 ∷ negsuc 9223372036854775807 ∷ pos 99 ∷ []) (Some (pos 1 ∷ pos 99 ∷ [])) ∷
    row i.UGt (negsuc 9223372036854775807 ∷ negsuc 0 ∷ pos 99 ∷ []) (Some (pos 1 ∷ pos 99 ∷ [])) ∷
    row i.UGt (negsuc 0 ∷ negsuc 9223372036854775807 ∷ pos 99 ∷ []) (Some (pos 0 ∷ pos 99 ∷ [])) ∷
    row i.UGt (negsuc 0 ∷ negsuc 0 ∷ pos 99 ∷ []) (Some (pos 0 ∷ pos 99 ∷ [])) ∷
    row i.UGt (pos 0 ∷ negsuc 0 ∷ pos 99 ∷ []) (Some (pos 1 ∷ pos 99 ∷ [])) ∷
    row i.UGt (negsuc 0 ∷ pos 0 ∷ pos 99 ∷ []) (Some (pos 0 ∷ pos 99 ∷ [])) ∷
    row i.UGe (pos 0 ∷ pos 0 ∷ pos 99 ∷ []) (Some (pos 1 ∷ pos 99 ∷ [])) ∷
    row i.UGe (pos 1 ∷ pos 0 ∷ pos 99 ∷ []) (Some (pos 0 ∷ pos 99 ∷ [])) ∷
    row i.UGe (pos 0 ∷ pos 1 ∷ pos 99 ∷ []) (Some (pos 1 ∷ pos 99 ∷ [])) ∷
    row i.UGe (pos 9223372036854775807 ∷ pos 9223372036854775807 ∷ pos 99 ∷ []) (Some (pos 1 ∷ pos 99 ∷ [])) ∷
    row i.UGe (negsuc 9223372036854775807 ∷ pos 9223372036854775807 ∷ pos 99 ∷ []) (Some (pos 0 ∷ pos 99 ∷ [])) ∷
    row i.UGe (pos 9223372036854775807 ∷ negsuc 9223372036854775807 ∷ pos 99 ∷ []) (Some (pos 1 ∷ pos 99 ∷ [])) ∷
    row i.UGe (negsuc 9223372036854775807 ∷ negsuc 9223372036854775807 ∷ pos 99 ∷ []) (Some (pos 1 ∷ pos 99 ∷ [])) ∷
    row i.UGe (negsuc 0 ∷ negsuc 9223372036854775807 ∷ pos 99 ∷ []) (Some (pos 0 ∷ pos 99 ∷ [])) ∷
    row i.UGe (negsuc 9223372036854775807 ∷ negsuc 0 ∷ pos 99 ∷ []) (Some (pos 1 ∷ pos 99 ∷ [])) ∷
    row i.UGe (negsuc 0 ∷ negsuc 0 ∷ pos 99 ∷ []) (Some (pos 1 ∷ pos 99 ∷ [])) ∷
    row i.UGe (pos 0 ∷ negsuc 0 ∷ pos 99 ∷ []) (Some (pos 1 ∷ pos 99 ∷ [])) ∷
    row i.UGe (negsuc 0 ∷ pos 0 ∷ pos 99 ∷ []) (Some (pos 0 ∷ pos 99 ∷ [])) ∷
    []

-- the greater and the lesser of two
abbrev extremes : List Row
extremes =
    row i.UMax (pos 0 ∷ pos 0 ∷ pos 99 ∷ []) (Some (pos 0 ∷ pos 99 ∷ [])) ∷
    row i.UMax (pos 1 ∷ pos 0 ∷ pos 99 ∷ []) (Some (pos 1 ∷ pos 99 ∷ [])) ∷
    row i.UMax (pos 9223372036854775807 ∷ pos 1 ∷ pos 99 ∷ []) (Some (pos 9223372036854775807 ∷ pos 99 ∷ [])) ∷
    row i.UMax (negsuc 9223372036854775807 ∷ pos 9223372036854775807 ∷ pos 99 ∷ []) (Some (negsuc 9223372036854775807 ∷ pos 99 ∷ [])) ∷
    row i.UMax (pos 9223372036854775807 ∷ negsuc 9223372036854775807 ∷ pos 99 ∷ []) (Some (negsuc 9223372036854775807 ∷ pos 99 ∷ [])) ∷
    row i.UMax (negsuc 0 ∷ negsuc 9223372036854775807 ∷ pos 99 ∷ []) (Some (negsuc 0 ∷ pos 99 ∷ [])) ∷
    row i.UMax (pos 0 ∷ negsuc 0 ∷ pos 99 ∷ []) (Some (negsuc 0 ∷ pos 99 ∷ [])) ∷
    row i.UMax (negsuc 0 ∷ negsuc 0 ∷ pos 99 ∷ []) (Some (negsuc 0 ∷ pos 99 ∷ [])) ∷
    row i.UMin (pos 0 ∷ pos 0 ∷ pos 99 ∷ []) (Some (pos 0 ∷ pos 99 ∷ [])) ∷
    row i.UMin (pos 1 ∷ pos 0 ∷ pos 99 ∷ []) (Some (pos 0 ∷ pos 99 ∷ [])) ∷
    row i.UMin (pos 9223372036854775807 ∷ pos 1 ∷ pos 99 ∷ []) (Some (pos 1 ∷ pos 99 ∷ [])) ∷
    row i.UMin (negsuc 9223372036854775807 ∷ pos 9223372036854775807 ∷ pos 99 ∷ []) (Some (pos 9223372036854775807 ∷ pos 99 ∷ [])) ∷
    row i.UMin (pos 9223372036854775807 ∷ negsuc 9223372036854775807 ∷ pos 99 ∷ []) (Some (pos 9223372036854775807 ∷ pos 99 ∷ [])) ∷
    row i.UMin (negsuc 0 ∷ negsuc 9223372036854775807 ∷ pos 99 ∷ []) (Some (negsuc 9223372036854775807 ∷ pos 99 ∷ [])) ∷
    row i.UMin (pos 0 ∷ negsuc 0 ∷ pos 99 ∷ []) (Some (pos 0 ∷ pos 99 ∷ [])) ∷
    row i.UMin (negsuc 0 ∷ negsuc 0 ∷ pos 99 ∷ []) (Some (negsuc 0 ∷ pos 99 ∷ [])) ∷
    []

-- ranges within the lower half, over the middle, and up to the greatest number
abbrev checked : List Row
checked =
    row (i.URange (pos 0) (pos 1)) (pos 0 ∷ pos 99 ∷ []) (Some (pos 0 ∷ pos 99 ∷ [])) ∷
    row (i.URange (pos 0) (pos 1)) (pos 1 ∷ pos 99 ∷ []) (Some (pos 1 ∷ pos 99 ∷ [])) ∷
    row (i.URange (pos 0) (pos 1)) (pos 9223372036854775807 ∷ pos 99 ∷ []) None ∷
    row (i.URange (pos 0) (pos 1)) (negsuc 9223372036854775807 ∷ pos 99 ∷ []) None ∷
    row (i.URange (pos 0) (pos 1)) (negsuc 0 ∷ pos 99 ∷ []) None ∷
    row (i.URange (pos 1) (negsuc 9223372036854775807)) (pos 0 ∷ pos 99 ∷ []) None ∷
    row (i.URange (pos 1) (negsuc 9223372036854775807)) (pos 1 ∷ pos 99 ∷ []) (Some (pos 1 ∷ pos 99 ∷ [])) ∷
    row (i.URange (pos 1) (negsuc 9223372036854775807)) (pos 9223372036854775807 ∷ pos 99 ∷ []) (Some (pos 9223372036854775807 ∷ pos 99 ∷ [])) ∷
    row (i.URange (pos 1) (negsuc 9223372036854775807)) (negsuc 9223372036854775807 ∷ pos 99 ∷ []) (Some (negsuc 9223372036854775807 ∷ pos 99 ∷ [])) ∷
    row (i.URange (pos 1) (negsuc 9223372036854775807)) (negsuc 0 ∷ pos 99 ∷ []) None ∷
    row (i.URange (negsuc 9223372036854775807) (negsuc 0)) (pos 0 ∷ pos 99 ∷ []) None ∷
    row (i.URange (negsuc 9223372036854775807) (negsuc 0)) (pos 9223372036854775807 ∷ pos 99 ∷ []) None ∷
    row (i.URange (negsuc 9223372036854775807) (negsuc 0)) (negsuc 9223372036854775807 ∷ pos 99 ∷ []) (Some (negsuc 9223372036854775807 ∷ pos 99 ∷ [])) ∷
    row (i.URange (negsuc 9223372036854775807) (negsuc 0)) (negsuc 0 ∷ pos 99 ∷ []) (Some (negsuc 0 ∷ pos 99 ∷ [])) ∷
    row (i.URange (pos 0) (negsuc 0)) (pos 0 ∷ pos 99 ∷ []) (Some (pos 0 ∷ pos 99 ∷ [])) ∷
    row (i.URange (pos 0) (negsuc 0)) (pos 9223372036854775807 ∷ pos 99 ∷ []) (Some (pos 9223372036854775807 ∷ pos 99 ∷ [])) ∷
    row (i.URange (pos 0) (negsuc 0)) (negsuc 9223372036854775807 ∷ pos 99 ∷ []) (Some (negsuc 9223372036854775807 ∷ pos 99 ∷ [])) ∷
    row (i.URange (pos 0) (negsuc 0)) (negsuc 0 ∷ pos 99 ∷ []) (Some (negsuc 0 ∷ pos 99 ∷ [])) ∷
    row (i.URange (negsuc 0) (pos 0)) (pos 0 ∷ pos 99 ∷ []) None ∷
    row (i.URange (negsuc 0) (pos 0)) (negsuc 0 ∷ pos 99 ∷ []) None ∷
    []

-- on 8 digits
abbrev of_eight : List Row
of_eight =
    row (i.Add (Modulo 8)) (pos 10 ∷ pos 250 ∷ pos 99 ∷ []) (Some (pos 4 ∷ pos 99 ∷ [])) ∷
    row (i.Add (Modulo 8)) (pos 1 ∷ pos 255 ∷ pos 99 ∷ []) (Some (pos 0 ∷ pos 99 ∷ [])) ∷
    row (i.Add (Modulo 8)) (pos 255 ∷ pos 255 ∷ pos 99 ∷ []) (Some (pos 254 ∷ pos 99 ∷ [])) ∷
    row (i.Add (Modulo 8)) (pos 27 ∷ pos 100 ∷ pos 99 ∷ []) (Some (pos 127 ∷ pos 99 ∷ [])) ∷
    row (i.Sub (Modulo 8)) (pos 1 ∷ pos 0 ∷ pos 99 ∷ []) (Some (pos 255 ∷ pos 99 ∷ [])) ∷
    row (i.Sub (Modulo 8)) (pos 250 ∷ pos 10 ∷ pos 99 ∷ []) (Some (pos 16 ∷ pos 99 ∷ [])) ∷
    row (i.Sub (Modulo 8)) (pos 10 ∷ pos 250 ∷ pos 99 ∷ []) (Some (pos 240 ∷ pos 99 ∷ [])) ∷
    row (i.Sub (Modulo 8)) (pos 255 ∷ pos 0 ∷ pos 99 ∷ []) (Some (pos 1 ∷ pos 99 ∷ [])) ∷
    row (i.Mul (Modulo 8)) (pos 16 ∷ pos 16 ∷ pos 99 ∷ []) (Some (pos 0 ∷ pos 99 ∷ [])) ∷
    row (i.Mul (Modulo 8)) (pos 255 ∷ pos 255 ∷ pos 99 ∷ []) (Some (pos 1 ∷ pos 99 ∷ [])) ∷
    row (i.Mul (Modulo 8)) (pos 3 ∷ pos 100 ∷ pos 99 ∷ []) (Some (pos 44 ∷ pos 99 ∷ [])) ∷
    row (i.Mul (Modulo 8)) (pos 17 ∷ pos 15 ∷ pos 99 ∷ []) (Some (pos 255 ∷ pos 99 ∷ [])) ∷
    row (i.Div (Modulo 8)) (pos 2 ∷ pos 255 ∷ pos 99 ∷ []) (Some (pos 127 ∷ pos 99 ∷ [])) ∷
    row (i.Div (Modulo 8)) (pos 255 ∷ pos 5 ∷ pos 99 ∷ []) (Some (pos 0 ∷ pos 99 ∷ [])) ∷
    row (i.Div (Modulo 8)) (pos 255 ∷ pos 255 ∷ pos 99 ∷ []) (Some (pos 1 ∷ pos 99 ∷ [])) ∷
    row (i.Div (Modulo 8)) (pos 0 ∷ pos 5 ∷ pos 99 ∷ []) None ∷
    row (i.Mod (Modulo 8)) (pos 7 ∷ pos 255 ∷ pos 99 ∷ []) (Some (pos 3 ∷ pos 99 ∷ [])) ∷
    row (i.Mod (Modulo 8)) (pos 255 ∷ pos 5 ∷ pos 99 ∷ []) (Some (pos 5 ∷ pos 99 ∷ [])) ∷
    row (i.Mod (Modulo 8)) (pos 255 ∷ pos 255 ∷ pos 99 ∷ []) (Some (pos 0 ∷ pos 99 ∷ [])) ∷
    row (i.Mod (Modulo 8)) (pos 0 ∷ pos 5 ∷ pos 99 ∷ []) None ∷
    row (i.Rem (Modulo 8)) (pos 7 ∷ pos 255 ∷ pos 99 ∷ []) (Some (pos 3 ∷ pos 99 ∷ [])) ∷
    row (i.Rem (Modulo 8)) (pos 255 ∷ pos 5 ∷ pos 99 ∷ []) (Some (pos 5 ∷ pos 99 ∷ [])) ∷
    row (i.Rem (Modulo 8)) (pos 255 ∷ pos 255 ∷ pos 99 ∷ []) (Some (pos 0 ∷ pos 99 ∷ [])) ∷
    row (i.Rem (Modulo 8)) (pos 0 ∷ pos 5 ∷ pos 99 ∷ []) None ∷
    row (i.Pow (Modulo 8)) (pos 7 ∷ pos 2 ∷ pos 99 ∷ []) (Some (pos 128 ∷ pos 99 ∷ [])) ∷
    row (i.Pow (Modulo 8)) (pos 8 ∷ pos 2 ∷ pos 99 ∷ []) (Some (pos 0 ∷ pos 99 ∷ [])) ∷
    row (i.Pow (Modulo 8)) (pos 6 ∷ pos 3 ∷ pos 99 ∷ []) (Some (pos 217 ∷ pos 99 ∷ [])) ∷
    row (i.Pow (Modulo 8)) (pos 2 ∷ pos 255 ∷ pos 99 ∷ []) (Some (pos 1 ∷ pos 99 ∷ [])) ∷
    row (i.Pow (Modulo 8)) (pos 3 ∷ pos 255 ∷ pos 99 ∷ []) (Some (pos 255 ∷ pos 99 ∷ [])) ∷
    row (i.Pow (Modulo 8)) (pos 0 ∷ pos 0 ∷ pos 99 ∷ []) (Some (pos 1 ∷ pos 99 ∷ [])) ∷
    row (i.Pow (Modulo 8)) (pos 0 ∷ pos 7 ∷ pos 99 ∷ []) (Some (pos 1 ∷ pos 99 ∷ [])) ∷
    row (i.Pow (Modulo 8)) (negsuc 0 ∷ pos 2 ∷ pos 99 ∷ []) None ∷
    row (i.Pow (Modulo 8)) (negsuc 0 ∷ pos 1 ∷ pos 99 ∷ []) None ∷
    row (i.Neg (Modulo 8)) (pos 0 ∷ pos 99 ∷ []) (Some (pos 0 ∷ pos 99 ∷ [])) ∷
    row (i.Neg (Modulo 8)) (pos 1 ∷ pos 99 ∷ []) (Some (pos 255 ∷ pos 99 ∷ [])) ∷
    row (i.Neg (Modulo 8)) (pos 128 ∷ pos 99 ∷ []) (Some (pos 128 ∷ pos 99 ∷ [])) ∷
    row (i.Neg (Modulo 8)) (pos 255 ∷ pos 99 ∷ []) (Some (pos 1 ∷ pos 99 ∷ [])) ∷
    row (i.Abs (Modulo 8)) (pos 0 ∷ pos 99 ∷ []) (Some (pos 0 ∷ pos 99 ∷ [])) ∷
    row (i.Abs (Modulo 8)) (pos 128 ∷ pos 99 ∷ []) (Some (pos 128 ∷ pos 99 ∷ [])) ∷
    row (i.Abs (Modulo 8)) (pos 255 ∷ pos 99 ∷ []) (Some (pos 255 ∷ pos 99 ∷ [])) ∷
    []

-- on 64 digits
abbrev of_all : List Row
of_all =
    row (i.Add (Modulo 64)) (pos 1 ∷ negsuc 0 ∷ pos 99 ∷ []) (Some (pos 0 ∷ pos 99 ∷ [])) ∷
    row (i.Add (Modulo 64)) (pos 1 ∷ pos 9223372036854775807 ∷ pos 99 ∷ []) (Some (negsuc 9223372036854775807 ∷ pos 99 ∷ [])) ∷
    row (i.Add (Modulo 64)) (negsuc 9223372036854775807 ∷ negsuc 9223372036854775807 ∷ pos 99 ∷ []) (Some (pos 0 ∷ pos 99 ∷ [])) ∷
    row (i.Add (Modulo 64)) (negsuc 0 ∷ negsuc 0 ∷ pos 99 ∷ []) (Some (negsuc 1 ∷ pos 99 ∷ [])) ∷
    row (i.Add (Modulo 64)) (pos 9223372036854775807 ∷ pos 9223372036854775807 ∷ pos 99 ∷ []) (Some (negsuc 1 ∷ pos 99 ∷ [])) ∷
    row (i.Sub (Modulo 64)) (pos 1 ∷ pos 0 ∷ pos 99 ∷ []) (Some (negsuc 0 ∷ pos 99 ∷ [])) ∷
    row (i.Sub (Modulo 64)) (negsuc 9223372036854775807 ∷ pos 0 ∷ pos 99 ∷ []) (Some (negsuc 9223372036854775807 ∷ pos 99 ∷ [])) ∷
    row (i.Sub (Modulo 64)) (negsuc 0 ∷ pos 1 ∷ pos 99 ∷ []) (Some (pos 2 ∷ pos 99 ∷ [])) ∷
    row (i.Sub (Modulo 64)) (pos 1 ∷ negsuc 9223372036854775807 ∷ pos 99 ∷ []) (Some (pos 9223372036854775807 ∷ pos 99 ∷ [])) ∷
    row (i.Sub (Modulo 64)) (pos 9223372036854775807 ∷ negsuc 0 ∷ pos 99 ∷ []) (Some (negsuc 9223372036854775807 ∷ pos 99 ∷ [])) ∷
    row (i.Mul (Modulo 64)) (negsuc 0 ∷ negsuc 0 ∷ pos 99 ∷ []) (Some (pos 1 ∷ pos 99 ∷ [])) ∷
    row (i.Mul (Modulo 64)) (pos 2 ∷ negsuc 9223372036854775807 ∷ pos 99 ∷ []) (Some (pos 0 ∷ pos 99 ∷ [])) ∷
    row (i.Mul (Modulo 64)) (pos 2147483648 ∷ pos 4294967296 ∷ pos 99 ∷ []) (Some (negsuc 9223372036854775807 ∷ pos 99 ∷ [])) ∷
    row (i.Mul (Modulo 64)) (pos 4294967296 ∷ pos 4294967296 ∷ pos 99 ∷ []) (Some (pos 0 ∷ pos 99 ∷ [])) ∷
    row (i.Mul (Modulo 64)) (pos 2 ∷ pos 9223372036854775807 ∷ pos 99 ∷ []) (Some (negsuc 1 ∷ pos 99 ∷ [])) ∷
    row (i.Div (Modulo 64)) (pos 2 ∷ negsuc 0 ∷ pos 99 ∷ []) (Some (pos 9223372036854775807 ∷ pos 99 ∷ [])) ∷
    row (i.Div (Modulo 64)) (pos 2 ∷ negsuc 9223372036854775807 ∷ pos 99 ∷ []) (Some (pos 4611686018427387904 ∷ pos 99 ∷ [])) ∷
    row (i.Div (Modulo 64)) (negsuc 0 ∷ negsuc 9223372036854775807 ∷ pos 99 ∷ []) (Some (pos 0 ∷ pos 99 ∷ [])) ∷
    row (i.Div (Modulo 64)) (negsuc 0 ∷ negsuc 0 ∷ pos 99 ∷ []) (Some (pos 1 ∷ pos 99 ∷ [])) ∷
    row (i.Div (Modulo 64)) (negsuc 9223372036854775807 ∷ negsuc 0 ∷ pos 99 ∷ []) (Some (pos 1 ∷ pos 99 ∷ [])) ∷
    row (i.Div (Modulo 64)) (pos 0 ∷ negsuc 0 ∷ pos 99 ∷ []) None ∷
    row (i.Mod (Modulo 64)) (pos 10 ∷ negsuc 0 ∷ pos 99 ∷ []) (Some (pos 5 ∷ pos 99 ∷ [])) ∷
    row (i.Mod (Modulo 64)) (pos 10 ∷ negsuc 9223372036854775807 ∷ pos 99 ∷ []) (Some (pos 8 ∷ pos 99 ∷ [])) ∷
    row (i.Mod (Modulo 64)) (negsuc 0 ∷ pos 1 ∷ pos 99 ∷ []) (Some (pos 1 ∷ pos 99 ∷ [])) ∷
    row (i.Mod (Modulo 64)) (negsuc 9223372036854775807 ∷ negsuc 0 ∷ pos 99 ∷ []) (Some (pos 9223372036854775807 ∷ pos 99 ∷ [])) ∷
    row (i.Mod (Modulo 64)) (pos 0 ∷ negsuc 0 ∷ pos 99 ∷ []) None ∷
    row (i.Rem (Modulo 64)) (pos 10 ∷ negsuc 0 ∷ pos 99 ∷ []) (Some (pos 5 ∷ pos 99 ∷ [])) ∷
    row (i.Rem (Modulo 64)) (pos 10 ∷ negsuc 9223372036854775807 ∷ pos 99 ∷ []) (Some (pos 8 ∷ pos 99 ∷ [])) ∷
    row (i.Rem (Modulo 64)) (negsuc 0 ∷ pos 1 ∷ pos 99 ∷ []) (Some (pos 1 ∷ pos 99 ∷ [])) ∷
    row (i.Rem (Modulo 64)) (negsuc 9223372036854775807 ∷ negsuc 0 ∷ pos 99 ∷ []) (Some (pos 9223372036854775807 ∷ pos 99 ∷ [])) ∷
    row (i.Rem (Modulo 64)) (pos 0 ∷ negsuc 0 ∷ pos 99 ∷ []) None ∷
    row (i.Pow (Modulo 64)) (pos 63 ∷ pos 2 ∷ pos 99 ∷ []) (Some (negsuc 9223372036854775807 ∷ pos 99 ∷ [])) ∷
    row (i.Pow (Modulo 64)) (pos 2 ∷ negsuc 0 ∷ pos 99 ∷ []) (Some (pos 1 ∷ pos 99 ∷ [])) ∷
    row (i.Pow (Modulo 64)) (pos 3 ∷ negsuc 0 ∷ pos 99 ∷ []) (Some (negsuc 0 ∷ pos 99 ∷ [])) ∷
    row (i.Pow (Modulo 64)) (pos 10 ∷ pos 2 ∷ pos 99 ∷ []) (Some (pos 1024 ∷ pos 99 ∷ [])) ∷
    row (i.Pow (Modulo 64)) (pos 0 ∷ pos 0 ∷ pos 99 ∷ []) (Some (pos 1 ∷ pos 99 ∷ [])) ∷
    row (i.Pow (Modulo 64)) (pos 0 ∷ negsuc 0 ∷ pos 99 ∷ []) (Some (pos 1 ∷ pos 99 ∷ [])) ∷
    row (i.Pow (Modulo 64)) (negsuc 0 ∷ negsuc 0 ∷ pos 99 ∷ []) None ∷
    row (i.Pow (Modulo 64)) (negsuc 0 ∷ pos 1 ∷ pos 99 ∷ []) None ∷
    row (i.Neg (Modulo 64)) (pos 0 ∷ pos 99 ∷ []) (Some (pos 0 ∷ pos 99 ∷ [])) ∷
    row (i.Neg (Modulo 64)) (pos 1 ∷ pos 99 ∷ []) (Some (negsuc 0 ∷ pos 99 ∷ [])) ∷
    row (i.Neg (Modulo 64)) (pos 9223372036854775807 ∷ pos 99 ∷ []) (Some (negsuc 9223372036854775806 ∷ pos 99 ∷ [])) ∷
    row (i.Neg (Modulo 64)) (negsuc 9223372036854775807 ∷ pos 99 ∷ []) (Some (negsuc 9223372036854775807 ∷ pos 99 ∷ [])) ∷
    row (i.Neg (Modulo 64)) (negsuc 0 ∷ pos 99 ∷ []) (Some (pos 1 ∷ pos 99 ∷ [])) ∷
    row (i.Abs (Modulo 64)) (pos 0 ∷ pos 99 ∷ []) (Some (pos 0 ∷ pos 99 ∷ [])) ∷
    row (i.Abs (Modulo 64)) (pos 9223372036854775807 ∷ pos 99 ∷ []) (Some (pos 9223372036854775807 ∷ pos 99 ∷ [])) ∷
    row (i.Abs (Modulo 64)) (negsuc 9223372036854775807 ∷ pos 99 ∷ []) (Some (negsuc 9223372036854775807 ∷ pos 99 ∷ [])) ∷
    row (i.Abs (Modulo 64)) (negsuc 0 ∷ pos 99 ∷ []) (Some (negsuc 0 ∷ pos 99 ∷ [])) ∷
    []

-- on 1, 32 and 63 digits
abbrev of_others : List Row
of_others =
    row (i.Add (Modulo 1)) (pos 1 ∷ pos 1 ∷ pos 99 ∷ []) (Some (pos 0 ∷ pos 99 ∷ [])) ∷
    row (i.Add (Modulo 1)) (pos 0 ∷ pos 1 ∷ pos 99 ∷ []) (Some (pos 1 ∷ pos 99 ∷ [])) ∷
    row (i.Sub (Modulo 1)) (pos 1 ∷ pos 0 ∷ pos 99 ∷ []) (Some (pos 1 ∷ pos 99 ∷ [])) ∷
    row (i.Mul (Modulo 1)) (pos 1 ∷ pos 1 ∷ pos 99 ∷ []) (Some (pos 1 ∷ pos 99 ∷ [])) ∷
    row (i.Pow (Modulo 1)) (pos 5 ∷ pos 1 ∷ pos 99 ∷ []) (Some (pos 1 ∷ pos 99 ∷ [])) ∷
    row (i.Pow (Modulo 1)) (pos 5 ∷ pos 0 ∷ pos 99 ∷ []) (Some (pos 0 ∷ pos 99 ∷ [])) ∷
    row (i.Neg (Modulo 1)) (pos 1 ∷ pos 99 ∷ []) (Some (pos 1 ∷ pos 99 ∷ [])) ∷
    row (i.Neg (Modulo 1)) (pos 0 ∷ pos 99 ∷ []) (Some (pos 0 ∷ pos 99 ∷ [])) ∷
    row (i.Add (Modulo 32)) (pos 1 ∷ pos 4294967295 ∷ pos 99 ∷ []) (Some (pos 0 ∷ pos 99 ∷ [])) ∷
    row (i.Add (Modulo 32)) (pos 4294967295 ∷ pos 4294967295 ∷ pos 99 ∷ []) (Some (pos 4294967294 ∷ pos 99 ∷ [])) ∷
    row (i.Sub (Modulo 32)) (pos 1 ∷ pos 0 ∷ pos 99 ∷ []) (Some (pos 4294967295 ∷ pos 99 ∷ [])) ∷
    row (i.Mul (Modulo 32)) (pos 65536 ∷ pos 65536 ∷ pos 99 ∷ []) (Some (pos 0 ∷ pos 99 ∷ [])) ∷
    row (i.Mul (Modulo 32)) (pos 32768 ∷ pos 65536 ∷ pos 99 ∷ []) (Some (pos 2147483648 ∷ pos 99 ∷ [])) ∷
    row (i.Pow (Modulo 32)) (pos 31 ∷ pos 2 ∷ pos 99 ∷ []) (Some (pos 2147483648 ∷ pos 99 ∷ [])) ∷
    row (i.Pow (Modulo 32)) (pos 32 ∷ pos 2 ∷ pos 99 ∷ []) (Some (pos 0 ∷ pos 99 ∷ [])) ∷
    row (i.Neg (Modulo 32)) (pos 1 ∷ pos 99 ∷ []) (Some (pos 4294967295 ∷ pos 99 ∷ [])) ∷
    row (i.Add (Modulo 63)) (pos 1 ∷ pos 9223372036854775807 ∷ pos 99 ∷ []) (Some (pos 0 ∷ pos 99 ∷ [])) ∷
    row (i.Add (Modulo 63)) (pos 9223372036854775807 ∷ pos 9223372036854775807 ∷ pos 99 ∷ []) (Some (pos 9223372036854775806 ∷ pos 99 ∷ [])) ∷
    row (i.Sub (Modulo 63)) (pos 1 ∷ pos 0 ∷ pos 99 ∷ []) (Some (pos 9223372036854775807 ∷ pos 99 ∷ [])) ∷
    row (i.Mul (Modulo 63)) (pos 9223372036854775807 ∷ pos 9223372036854775807 ∷ pos 99 ∷ []) (Some (pos 1 ∷ pos 99 ∷ [])) ∷
    row (i.Mul (Modulo 63)) (pos 2147483648 ∷ pos 4294967296 ∷ pos 99 ∷ []) (Some (pos 0 ∷ pos 99 ∷ [])) ∷
    row (i.Neg (Modulo 63)) (pos 1 ∷ pos 99 ∷ []) (Some (pos 9223372036854775807 ∷ pos 99 ∷ [])) ∷
    row (i.Neg (Modulo 63)) (pos 9223372036854775807 ∷ pos 99 ∷ []) (Some (pos 1 ∷ pos 99 ∷ [])) ∷
    []

-- with one operand in the instruction
abbrev by_constants : List Row
by_constants =
    row (i.AddI (pos 10) (Modulo 8)) (pos 250 ∷ pos 99 ∷ []) (Some (pos 4 ∷ pos 99 ∷ [])) ∷
    row (i.AddI (pos 10) (Modulo 8)) (pos 0 ∷ pos 99 ∷ []) (Some (pos 10 ∷ pos 99 ∷ [])) ∷
    row (i.AddI (pos 255) (Modulo 8)) (pos 0 ∷ pos 99 ∷ []) (Some (pos 255 ∷ pos 99 ∷ [])) ∷
    row (i.AddI (pos 255) (Modulo 8)) (pos 1 ∷ pos 99 ∷ []) (Some (pos 0 ∷ pos 99 ∷ [])) ∷
    row (i.SubI (pos 1) (Modulo 8)) (pos 0 ∷ pos 99 ∷ []) (Some (pos 255 ∷ pos 99 ∷ [])) ∷
    row (i.SubI (pos 1) (Modulo 8)) (pos 1 ∷ pos 99 ∷ []) (Some (pos 0 ∷ pos 99 ∷ [])) ∷
    row (i.SubI (pos 250) (Modulo 8)) (pos 10 ∷ pos 99 ∷ []) (Some (pos 16 ∷ pos 99 ∷ [])) ∷
    row (i.MulI (pos 3) (Modulo 8)) (pos 100 ∷ pos 99 ∷ []) (Some (pos 44 ∷ pos 99 ∷ [])) ∷
    row (i.MulI (pos 255) (Modulo 8)) (pos 255 ∷ pos 99 ∷ []) (Some (pos 1 ∷ pos 99 ∷ [])) ∷
    row (i.ModI (pos 7) (Modulo 8)) (pos 255 ∷ pos 99 ∷ []) (Some (pos 3 ∷ pos 99 ∷ [])) ∷
    row (i.ModI (pos 0) (Modulo 8)) (pos 5 ∷ pos 99 ∷ []) None ∷
    row (i.AddI (pos 1) (Modulo 64)) (negsuc 0 ∷ pos 99 ∷ []) (Some (pos 0 ∷ pos 99 ∷ [])) ∷
    row (i.AddI (pos 1) (Modulo 64)) (pos 9223372036854775807 ∷ pos 99 ∷ []) (Some (negsuc 9223372036854775807 ∷ pos 99 ∷ [])) ∷
    row (i.AddI (negsuc 0) (Modulo 64)) (pos 0 ∷ pos 99 ∷ []) (Some (negsuc 0 ∷ pos 99 ∷ [])) ∷
    row (i.AddI (negsuc 0) (Modulo 64)) (pos 1 ∷ pos 99 ∷ []) (Some (pos 0 ∷ pos 99 ∷ [])) ∷
    row (i.SubI (pos 1) (Modulo 64)) (pos 0 ∷ pos 99 ∷ []) (Some (negsuc 0 ∷ pos 99 ∷ [])) ∷
    row (i.SubI (pos 1) (Modulo 64)) (negsuc 9223372036854775807 ∷ pos 99 ∷ []) (Some (pos 9223372036854775807 ∷ pos 99 ∷ [])) ∷
    row (i.SubI (negsuc 0) (Modulo 64)) (pos 1 ∷ pos 99 ∷ []) (Some (pos 2 ∷ pos 99 ∷ [])) ∷
    row (i.MulI (pos 2) (Modulo 64)) (negsuc 9223372036854775807 ∷ pos 99 ∷ []) (Some (pos 0 ∷ pos 99 ∷ [])) ∷
    row (i.MulI (pos 2) (Modulo 64)) (pos 9223372036854775807 ∷ pos 99 ∷ []) (Some (negsuc 1 ∷ pos 99 ∷ [])) ∷
    row (i.MulI (negsuc 0) (Modulo 64)) (negsuc 0 ∷ pos 99 ∷ []) (Some (pos 1 ∷ pos 99 ∷ [])) ∷
    row (i.ModI (pos 10) (Modulo 64)) (negsuc 0 ∷ pos 99 ∷ []) (Some (pos 5 ∷ pos 99 ∷ [])) ∷
    row (i.ModI (pos 10) (Modulo 64)) (negsuc 9223372036854775807 ∷ pos 99 ∷ []) (Some (pos 8 ∷ pos 99 ∷ [])) ∷
    row (i.ModI (negsuc 0) (Modulo 64)) (pos 5 ∷ pos 99 ∷ []) (Some (pos 5 ∷ pos 99 ∷ [])) ∷
    row (i.ModI (negsuc 0) (Modulo 64)) (negsuc 0 ∷ pos 99 ∷ []) (Some (pos 0 ∷ pos 99 ∷ [])) ∷
    row (i.ModI (pos 0) (Modulo 64)) (negsuc 0 ∷ pos 99 ∷ []) None ∷
    []

-- the operations on digits, which take no base
abbrev by_digits : List Row
by_digits =
    row i.And (negsuc 9223372036854775807 ∷ negsuc 0 ∷ pos 99 ∷ []) (Some (negsuc 9223372036854775807 ∷ pos 99 ∷ [])) ∷
    row i.And (pos 9223372036854775807 ∷ negsuc 0 ∷ pos 99 ∷ []) (Some (pos 9223372036854775807 ∷ pos 99 ∷ [])) ∷
    row i.And (pos 9223372036854775807 ∷ negsuc 9223372036854775807 ∷ pos 99 ∷ []) (Some (pos 0 ∷ pos 99 ∷ [])) ∷
    row i.And (pos 255 ∷ negsuc 0 ∷ pos 99 ∷ []) (Some (pos 255 ∷ pos 99 ∷ [])) ∷
    row i.Or (pos 9223372036854775807 ∷ negsuc 9223372036854775807 ∷ pos 99 ∷ []) (Some (negsuc 0 ∷ pos 99 ∷ [])) ∷
    row i.Or (pos 1 ∷ negsuc 9223372036854775807 ∷ pos 99 ∷ []) (Some (negsuc 9223372036854775806 ∷ pos 99 ∷ [])) ∷
    row i.Or (negsuc 0 ∷ pos 0 ∷ pos 99 ∷ []) (Some (negsuc 0 ∷ pos 99 ∷ [])) ∷
    row i.Xor (negsuc 9223372036854775807 ∷ negsuc 0 ∷ pos 99 ∷ []) (Some (pos 9223372036854775807 ∷ pos 99 ∷ [])) ∷
    row i.Xor (pos 9223372036854775807 ∷ negsuc 0 ∷ pos 99 ∷ []) (Some (negsuc 9223372036854775807 ∷ pos 99 ∷ [])) ∷
    row i.Xor (negsuc 0 ∷ negsuc 0 ∷ pos 99 ∷ []) (Some (pos 0 ∷ pos 99 ∷ [])) ∷
    row i.Xor (negsuc 9223372036854775807 ∷ pos 0 ∷ pos 99 ∷ []) (Some (negsuc 9223372036854775807 ∷ pos 99 ∷ [])) ∷
    []

-- a number is checked, and then written to a cell of the own frame
data Set : Type 0 where
  set : Instr → List ℤ → Played → Set

abbrev wanted_set : Set → Played
wanted_set (set instr st want) = want

abbrev found_set : Set → Played
found_set (set instr st want) = plays (deed_of (code_of [] []) 7 st 3 [] instr) five

abbrev last : ℤ → List Cell
last v = Mine (pos 10) ∷ Seen (pos 11) ∷ Gone ∷ Mine (pos 13) ∷ Mine v ∷ []

abbrev sets : List Set
sets =
    set (i.USetL 1 (pos 0) (pos 1)) (pos 0 ∷ pos 99 ∷ []) (Onward 8 (pos 99 ∷ []) (last (pos 0))) ∷
    set (i.USetL 1 (pos 0) (pos 1)) (pos 1 ∷ pos 99 ∷ []) (Onward 8 (pos 99 ∷ []) (last (pos 1))) ∷
    set (i.USetL 1 (pos 0) (pos 1)) (pos 9223372036854775807 ∷ pos 99 ∷ []) (Raised ConstraintError (pos 99 ∷ []) five) ∷
    set (i.USetL 1 (pos 0) (pos 1)) (negsuc 0 ∷ pos 99 ∷ []) (Raised ConstraintError (pos 99 ∷ []) five) ∷
    set (i.USetL 1 (pos 9223372036854775807) (negsuc 9223372036854775807)) (pos 1 ∷ pos 99 ∷ []) (Raised ConstraintError (pos 99 ∷ []) five) ∷
    set (i.USetL 1 (pos 9223372036854775807) (negsuc 9223372036854775807)) (pos 9223372036854775807 ∷ pos 99 ∷ []) (Onward 8 (pos 99 ∷ []) (last (pos 9223372036854775807))) ∷
    set (i.USetL 1 (pos 9223372036854775807) (negsuc 9223372036854775807)) (negsuc 9223372036854775807 ∷ pos 99 ∷ []) (Onward 8 (pos 99 ∷ []) (last (negsuc 9223372036854775807))) ∷
    set (i.USetL 1 (pos 9223372036854775807) (negsuc 9223372036854775807)) (negsuc 0 ∷ pos 99 ∷ []) (Raised ConstraintError (pos 99 ∷ []) five) ∷
    set (i.USetL 1 (negsuc 9223372036854775807) (negsuc 0)) (pos 9223372036854775807 ∷ pos 99 ∷ []) (Raised ConstraintError (pos 99 ∷ []) five) ∷
    set (i.USetL 1 (negsuc 9223372036854775807) (negsuc 0)) (negsuc 9223372036854775807 ∷ pos 99 ∷ []) (Onward 8 (pos 99 ∷ []) (last (negsuc 9223372036854775807))) ∷
    set (i.USetL 1 (negsuc 9223372036854775807) (negsuc 0)) (negsuc 0 ∷ pos 99 ∷ []) (Onward 8 (pos 99 ∷ []) (last (negsuc 0))) ∷
    set (i.USetL 1 (negsuc 9223372036854775807) (negsuc 0)) (pos 0 ∷ pos 99 ∷ []) (Raised ConstraintError (pos 99 ∷ []) five) ∷
    set (i.USetL 2 (pos 0) (negsuc 0)) (pos 5 ∷ pos 99 ∷ []) Neither ∷
    set (i.USetL 2 (pos 0) (pos 1)) (pos 5 ∷ pos 99 ∷ []) (Raised ConstraintError (pos 99 ∷ []) five) ∷
    []

turned_digits_rows : map wanted turned_digits ≡ map found turned_digits
turned_digits_rows = refl

related_rows : map wanted related ≡ map found related
related_rows = refl

extremes_rows : map wanted extremes ≡ map found extremes
extremes_rows = refl

checked_rows : map wanted checked ≡ map found checked
checked_rows = refl

of_eight_rows : map wanted of_eight ≡ map found of_eight
of_eight_rows = refl

of_all_rows : map wanted of_all ≡ map found of_all
of_all_rows = refl

of_others_rows : map wanted of_others ≡ map found of_others
of_others_rows = refl

by_constants_rows : map wanted by_constants ≡ map found by_constants
by_constants_rows = refl

by_digits_rows : map wanted by_digits ≡ map found by_digits
by_digits_rows = refl

set_rows : map wanted_set sets ≡ map found_set sets
set_rows = refl
