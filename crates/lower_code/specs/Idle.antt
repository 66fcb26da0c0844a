-- The forks of constructs that have none in the listing, by flags which have.
use Rattle.std.specs.Prelude.{ℕ, ◌+◌, List, [], ◌∷◌, Bool, cond}
use Rattle.lower_emission.specs.Emits.{Emit}
use Rattle.lower_emission.specs.Scope.{Scope, none, ◌⨟◌}
use Rattle.lower_emission.specs.Programs.{idle_fork}

-- those of constructs from a number on
abbrev pub missing : Scope → ℕ → List Bool → Emit
missing s n [] = none
missing s n (b ∷ bs) = cond b none (idle_fork s n) ⨟ missing s (n + 1) bs
