-- The code of a program with the leases of its constructs.
use Rattle.std.specs.Prelude.{◌≡◌, ℕ, List, [], get_or}
use Rattle.typed_tree.specs.Syntax.{Program}
use Rattle.check_effects.specs.Conflicts.{EffectPath}
use Rattle.lower_emission.specs.Programs.{code_of}
use Rattle.ada_lower.specs.Places.{all_leases, leases_at}

-- The table of all leases gives each construct its own.
abbrev pub TableLaw : Type 0
TableLaw = (program : Program) (granted : ℕ → List (ℕ × EffectPath)) → code_of program (λ site. get_or (all_leases program granted) site []) ≡ code_of program (leases_at program granted)
