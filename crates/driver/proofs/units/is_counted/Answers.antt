use Rattle.std.proofs.Common.{◌≡◌, refl, [], ◌∷◌}
use Rattle.stack_code.specs.Valid.{IsCountable}
use Rattle.stack_code.specs.declared.instr.Instr.{Instr}
use Rattle.stack_code.specs.declared.instr.Instr.TheVariants.{Repeat}
use Rattle.driver.proofs.units.is_counted.Goals as goal

pub returns-in_default : goal.returns-in_default
returns-in_default c = λ t. rest c.args.instr refl
  where
    rest : (i : Instr) → c.args.instr ≡ i → IsCountable (i ∷ [])
    rest (Repeat n) e = absurd (c.in_default.not-Repeat n e)
    rest i e = tt
