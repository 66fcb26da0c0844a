-- Where variables lie as a parallel construct sees them, and the leases of the constructs of a program.
use Rattle.std.specs.Prelude.{ℕ, ◌+◌, ◌-◌, nat_eq, nat_lt, List, [], ◌∷◌, Option, Some, None, Bool, false, cond}
use Rattle.behaviours.specs.Paths.{Entity, VariableOf, ConstantOf}
use Rattle.typed_tree.specs.declared.program.Site.{Site}
use Rattle.typed_tree.specs.Syntax.{Program}
use Rattle.check_effects.specs.Conflicts.{EffectPath}
use Rattle.stack_code.specs.declared.code.Lease as code
use Rattle.lower_emission.specs.declared.types.Level.{Level}
use Rattle.lower_emission.specs.declared.types.Level.TheVariants.{Own, Around, Main}
use Rattle.lower_emission.specs.declared.types.Named.{Named}
use Rattle.ada_lower.specs.declared.types.Home.{Home}
use Rattle.ada_lower.specs.declared.types.Standing.{Standing}
use Rattle.ada_lower.specs.Homes.{homes_of}
use Rattle.ada_lower.specs.Leases.{leases_of}
use Rattle.ada_lower.specs.Standings.{standings_of}

-- the first that has that number
abbrev pub home_in : ℕ → List Home → Option Home
home_in x [] = None
home_in x (h ∷ hs) = cond (nat_eq x h.object) (Some h) (home_in x hs)

abbrev pub standing_in : ℕ → List Standing → Option Standing
standing_in site [] = None
standing_in site (s ∷ ss) = cond (nat_eq site s.site) (Some s) (standing_in site ss)

-- ---- seen from a text around which so many constructs' threads stand

abbrev pub level_from : ℕ → Home → Level
level_from d h = cond h.main Main (cond (nat_lt h.depth d) (Around (d - h.depth)) Own)

abbrev pub named_from : ℕ → Home → Named
named_from d h = record { through = false; place = record { level = level_from d h; cell = h.cell }; cells = h.cells }

abbrev pub seen_from : Option Standing → Option Home → Option Named
seen_from None h = None
seen_from (Some s) None = None
seen_from (Some s) (Some h) = Some (named_from s.depth h)

abbrev pub ranges_in : Option Standing → Bool
ranges_in None = false
ranges_in (Some s) = s.ranges

-- where objects lie as a construct sees them; constants are written by nobody
abbrev pub names_from : Option Standing → List Home → Entity → Option Named
names_from s hs (VariableOf x) = seen_from s (home_in x hs)
names_from s hs (ConstantOf x) = None

abbrev pub names_of : Program → ℕ → Entity → Option Named
names_of program site = names_from (standing_in site (standings_of program)) (homes_of program)

abbrev pub ranges_of : Program → ℕ → Bool
ranges_of program site = ranges_in (standing_in site (standings_of program))

-- ---- the leases of all constructs, with the paths that are granted at each

abbrev pub leases_at : Program → (granted : ℕ → List (ℕ × EffectPath)) → ℕ → List code.Lease
leases_at program granted = leases_of program (names_of program) (ranges_of program) granted

-- those of sites from a number on
abbrev pub leases_from : (ℕ → List code.Lease) → ℕ → List Site → List (List code.Lease)
leases_from leases n [] = []
leases_from leases n (x ∷ more) = leases n ∷ leases_from leases (n + 1) more

abbrev pub all_leases : Program → (granted : ℕ → List (ℕ × EffectPath)) → List (List code.Lease)
all_leases program granted = leases_from (leases_at program granted) 0 program.sites
