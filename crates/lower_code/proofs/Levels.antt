-- A subtype's defaults, a level deeper.
use Rattle.std.proofs.Common.{◌≡◌, ◌≤◌, ◌-◌, ℕ, zero, suc, arith, refl}
use Rattle.std.specs.Prelude.{slice_get}
use Rattle.typed_tree.specs.Syntax.{Program}
use Rattle.lower_emission.specs.Scope.{Scope}
use Rattle.lower_emission.specs.Statements.{defaults_within, default_of}

pub within_next : (program : Program) (s : Scope) (levels t number : ℕ) → 1 ≤ levels →
    defaults_within program s levels t number ≡ default_of program s (defaults_within program s (levels - 1)) t (slice_get program.subtypes number)
within_next program s zero t number h = absurd (omega (arith, h))
within_next program s (suc levels) t number h = let e : suc levels - 1 ≡ levels = omega arith in rw e refl
