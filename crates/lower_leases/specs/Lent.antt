-- What the functions make of a grant.
use Rattle.std.specs.Prelude.{ℕ, ◌+◌, nat_eq, List, [], Option, Some, None, Bool, cond, map}
use Rattle.ada_meaning.specs.Shapes.{object_shape}
use Rattle.typed_tree.specs.Syntax.{Program}
use Rattle.stack_code.specs.declared.code.Lease as code
use Rattle.check_clashes.specs.declared.granted.Grant.{Grant}
use Rattle.check_inference.specs.Exact.{plain}
use Rattle.ada_lower.specs.Leases.{Way, all_leased, frame_of, leased, way_of}
use Rattle.ada_lower.specs.Places.{home_in, level_from, names_from, ranges_in, seen_from, standing_in}
use Rattle.ada_lower.specs.declared.types.Home.{Home}
use Rattle.ada_lower.specs.declared.types.Standing.{Standing}
use Rattle.lower_leases.specs.Grants.{granted_by}
use Rattle.lower_leases.specs.Paths.{path_by}
use Rattle.lower_leases.specs.declared.paths.Path.{Path}

-- the way to what is granted
abbrev pub way_to : Program → Bool → Grant → Option Way
way_to program ranges g = way_of ranges None (object_shape program g.path.object) (map plain g.path.selectors) 0

abbrev pub path_of : Program → Bool → Grant → Option Path
path_of program ranges g = path_by [] (way_to program ranges g)

abbrev pub lease_by : ℕ → Home → ℕ → Path → code.Lease
lease_by d h arm p = record { arm = arm; frame = frame_of (level_from d h); base = h.cell + p.base; steps = p.steps; run = p.run }

-- the lease of a grant, if there is one
abbrev pub lent_by : Program → Standing → List Home → Grant → List code.Lease
lent_by program s hs g = leased g.arm (seen_from (Some s) (home_in g.path.object hs)) (way_to program s.ranges g) []

-- where it is granted at that site
abbrev pub lent_at : Program → Standing → List Home → ℕ → Grant → List code.Lease
lent_at program s hs site g = cond (nat_eq site g.site) (lent_by program s hs g) []

-- the leases of the construct of a site's number, by where variables lie and constructs stand
abbrev pub site_leases : Program → List Home → List Standing → List Grant → ℕ → List code.Lease
site_leases program hs ss grants site = all_leased program (names_from (standing_in site ss) hs) (ranges_in (standing_in site ss)) (granted_by grants site)
