-- The paths that the threads of each construct may write, by the number of its site and, in a block, of the arm (9.10.1); and
-- where the objects of those paths lie.
use Rattle.std.specs.Prelude.{◌≡◌, ℕ, nat_eq, List, [], ◌∷◌, Option, Some, Bool, true, not, cond}
use Rattle.behaviours.specs.Paths.{Entity, VariableOf}
use Rattle.typed_tree.specs.Syntax.{Program}
use Rattle.check_effects.specs.Effects.{Access, Construct, Holds}
use Rattle.check_effects.specs.Conflicts.{EffectPath, path_of, InProgram, IsGranted, IsThreadEffect}
use Rattle.check_effects.specs.Covered.{site_of}
use Rattle.check_clashes.specs.declared.granted.Grant.{Grant}
use Rattle.check_clashes.specs.declared.granted.Grants.{Grants}
use Rattle.check_inference.specs.Exact.{OfThread, effect_path, is_block}
use Rattle.stack_code.specs.declared.code.CodeSite.{CodeSite}
use Rattle.lower_emission.specs.declared.types.Named.{Named}
use Rattle.ada_lower.specs.declared.types.Standing.{Standing}
use Rattle.ada_lower.specs.Standings.{standings_of}
use Rattle.ada_lower.specs.Lending.{Among}
use Rattle.ada_lower.specs.Sights.{Sight}

-- those of a list of grants
abbrev pub paths_at : ℕ → List Grant → List (ℕ × EffectPath)
paths_at site [] = []
paths_at site (g ∷ gs) = cond (nat_eq g.site site) ((g.arm, effect_path g.path) ∷ paths_at site gs) (paths_at site gs)

abbrev pub granted_by : Grants → ℕ → List (ℕ × EffectPath)
granted_by grants site = paths_at site grants.owned

module _ (program : Program) where
  -- the paths of each site are just those that the threads of its construct write
  pub record AreGranted (granted : ℕ → List (ℕ × EffectPath)) : Type 0 where
    pub written : (site arm : ℕ) (p : EffectPath) → Among (arm, p) (granted site)
        → (k : Construct) × InProgram program (Holds k) × (site_of k ≡ site) × ((j : ℕ) → OfThread (is_block k) j arm → (a : Access) × IsGranted program k j a × (path_of a ≡ p))
    pub all : (k : Construct) → InProgram program (Holds k) → (j : ℕ) (a : Access) → IsGranted program k j a
        → (arm : ℕ) × Among (arm, path_of a) (granted (site_of k)) × OfThread (is_block k) j arm

  -- where a construct stands, it is known whether it goes through a range, and what its threads may write is in scope there,
  -- where the names say (8.2)
  abbrev pub told : (names : ℕ → Entity → Option Named) (ranges : ℕ → Bool) (items : Bool) → Sight → ℕ → CodeSite → Type 0
  told names ranges items s site cs =
      (ranges site ≡ not items)
      × ((k : Construct) → InProgram program (Holds k) → site_of k ≡ site → (j at : ℕ) (a : Access) → IsThreadEffect program k j at a → a.writes ≡ true
      → (m : Named) × (s.scope.object (VariableOf a.object) ≡ Some m) × (names site (VariableOf a.object) ≡ Some m))

  -- where a construct stands, what its threads may write is in scope (8.2)
  abbrev pub seen : (items : Bool) → Sight → ℕ → CodeSite → Type 0
  seen items s site cs = (k : Construct) → InProgram program (Holds k) → site_of k ≡ site → (j at : ℕ) (a : Access) → IsThreadEffect program k j at a → a.writes ≡ true → (m : Named) × (s.scope.object (VariableOf a.object) ≡ Some m)

  -- a construct stands once
  abbrev pub StandingsAreDistinct : Type 0
  StandingsAreDistinct = (t j : Standing) → Among t (standings_of program) → Among j (standings_of program) → t.site ≡ j.site → t ≡ j
