-- Code that is loaded: from what names, checks and lowering say of a program to what the laws of the machine ask.
use Rattle.std.specs.Prelude.{ℕ, List, Bool}
use Rattle.behaviours.specs.Paths.{Entity}
use Rattle.typed_tree.specs.Syntax.{Program}
use Rattle.typed_scopes.specs.Named.{IsNamed}
use Rattle.ada_meaning.specs.Nonblocking.{KeepsRule}
use Rattle.check_effects.specs.Accepted.{IsAccepted}
use Rattle.check_effects.specs.Conflicts.{EffectPath}
use Rattle.check_clashes.specs.declared.granted.Grants.{Grants}
use Rattle.check_conflicts.specs.Answer.{AreGrants}
use Rattle.stack_code.specs.declared.code.Around.TheVariants.{Sub}
use Rattle.stack_code.specs.Valid.{IsCountable}
use Rattle.lower_emission.specs.Programs.{code_of}
use Rattle.ada_lower.specs.Places.{leases_at}
use Rattle.lower_laws.specs.CodeLaw.{frame_of}
use Rattle.lower_laws.specs.Granted.{AreGranted, granted_by}
use Rattle.run_machine_laws.specs.Programs.{IsLoaded}

-- The code of an accepted program, with leases of what is granted, is loaded, with a number of slots in which its runs by notes
-- have room: where what is granted is what threads may write, and no part of it is repeated too often for numbers of 64 bits.
abbrev pub LoadedLaw : Type 0
LoadedLaw = (program : Program) (shown : ℕ → Entity → Bool) (granted : ℕ → List (ℕ × EffectPath))
    → IsAccepted program → KeepsRule program → IsNamed program shown → AreGranted program granted
    → IsCountable (code_of program (leases_at program granted)).instrs
    → (slots : ℕ) × IsLoaded program (code_of program (leases_at program granted)) (frame_of program (Sub 0)) slots

-- So it is with the leases of what `accept` grants.
abbrev pub AcceptedLaw : Type 0
AcceptedLaw = (program : Program) (shown : ℕ → Entity → Bool) (grants : Grants)
    → IsAccepted program → KeepsRule program → IsNamed program shown → AreGrants program grants
    → IsCountable (code_of program (leases_at program (granted_by grants))).instrs
    → (slots : ℕ) × IsLoaded program (code_of program (leases_at program (granted_by grants))) (frame_of program (Sub 0)) slots
