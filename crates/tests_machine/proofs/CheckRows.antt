-- Checks of ranges: the instruction, its operands, the last first, and what is there then; None is
-- Constraint_Error.
use Rattle.std.proofs.Common.{◌≡◌, List, [], ◌∷◌, Option, Some, None, ℤ, pos, negsuc, refl, map}
use Rattle.ada_base.specs.declared.reason.Reason.TheVariants.{ConstraintError}
use Rattle.stack_code.specs.declared.instr.Instr.{Instr}
use Rattle.stack_code.specs.declared.instr.Instr.TheVariants as i
use Rattle.stack_code.specs.Deeds.{Deed, GoesOn, Fails, deed_of}
use Rattle.tests_machine.specs.Samples.{code_of}

data Row : Type 0 where
  row : Instr → List ℤ → Option (List ℤ) → Row

abbrev wanted : Row → Deed
wanted (row instr st (Some new)) = GoesOn 8 new
wanted (row instr st None) = Fails ConstraintError []

abbrev found : Row → Deed
found (row instr st want) = deed_of (code_of [] []) 7 st 3 [] instr

abbrev checks : List Row
checks =
    row (i.Range (negsuc 1) (pos 3)) (negsuc 1 ∷ []) (Some (negsuc 1 ∷ [])) ∷
    row (i.Range (negsuc 1) (pos 3)) (negsuc 2 ∷ []) None ∷
    row (i.Range (negsuc 1) (pos 3)) (pos 3 ∷ []) (Some (pos 3 ∷ [])) ∷
    row (i.Range (negsuc 1) (pos 3)) (pos 4 ∷ []) None ∷
    []

check_rows : map wanted checks ≡ map found checks
check_rows = refl
