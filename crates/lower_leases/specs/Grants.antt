-- What is granted at each parallel construct, of the grants of a program (9.10.1).
use Rattle.std.specs.Prelude.{ℕ, nat_eq, List, [], ◌∷◌, cond}
use Rattle.check_clashes.specs.declared.granted.Grant.{Grant}
use Rattle.check_effects.specs.Conflicts.{EffectPath}
use Rattle.check_inference.specs.Exact.{effect_path}

-- the arms and the paths of those of a site, in order
abbrev pub granted_by : List Grant → ℕ → List (ℕ × EffectPath)
granted_by [] site = []
granted_by (g ∷ gs) site = cond (nat_eq site g.site) ((g.arm, effect_path g.path) ∷ granted_by gs site) (granted_by gs site)
