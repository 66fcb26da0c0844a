-- The exits of two texts.
use Rattle.std.proofs.Common.{◌≡◌, ℕ, List, [], ◌∷◌, ◌++◌, Option, refl}
use Rattle.lower_emission.specs.declared.types.Placed.{Placed}
use Rattle.lower_emission.specs.Emits.{written}
use Rattle.lower_emission.specs.Scope.{Scope}
use Rattle.lower_emission.specs.Statements.{exits_code, exit_code}

pub exits_both : (s : Scope) (d : ℕ) (number : Option ℕ) (ms ns : List ℕ) (c : List Placed) →
    written (exits_code s d number (ms ++ ns)) c ≡ written (exits_code s d number ns) (written (exits_code s d number ms) c)
exits_both s d number [] ns c = refl
exits_both s d number (m ∷ ms) ns c = exits_both s d number ms ns (written (exit_code s d number m) c)
