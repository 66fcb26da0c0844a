-- Leases as they are found, one after another.
use Rattle.std.proofs.Common.{◌≡◌, ℕ, suc, ◌+◌, ◌-◌, ◌<◌, nat_eq, List, [], ◌∷◌, ◌++◌, Option, Some, None, Bool, true, false, cond, Result, Ok, Err, IfOk, refl, sym, ap, ap₂, ◌∙◌, arith, append_assoc, append-nil}
use Rattle.typed_tree.specs.declared.program.Site.{Site}
use Rattle.typed_tree.specs.Syntax.{Program}
use Rattle.check_effects.specs.Conflicts.{EffectPath}
use Rattle.check_clashes.specs.declared.granted.Grant.{Grant}
use Rattle.check_inference.specs.Exact.{effect_path}
use Rattle.stack_code.specs.declared.code.Lease as code
use Rattle.lower_emission.specs.declared.types.Named.{Named}
use Rattle.ada_lower.specs.declared.types.Home.{Home}
use Rattle.ada_lower.specs.declared.types.Standing.{Standing}
use Rattle.ada_lower.specs.Homes.{homes_of}
use Rattle.ada_lower.specs.Leases.{Way, all_leased, leased}
use Rattle.ada_lower.specs.Standings.{standings_of}
use Rattle.ada_lower.specs.Places.{all_leases, home_in, leases_at, leases_from, names_from, ranges_in, seen_from, standing_in}
use Rattle.lower_leases.specs.Grants.{granted_by}
use Rattle.lower_leases.specs.Lent.{lease_by, lent_at, lent_by, path_of, way_to, site_leases}
use Rattle.lower_leases.specs.Paths.{path_by}
use Rattle.lower_leases.specs.declared.paths.Path.{Path}

pub outward : (d h : ℕ) → h < d → d - h ≡ suc (d - h - 1)
outward d h lt = omega (arith, lt)

pub none_more : {A : Type 0} (xs : List A) → xs ≡ xs ++ []
none_more xs = sym (append-nil xs)

leased_by : Program → (hs : List Home) (s : Standing) (g : Grant) (h : Option Home) (w : Option Way) → List code.Lease
leased_by program hs s g h w = leased g.arm (seen_from (Some s) h) w []

pub no_home : (program : Program) (s : Standing) (hs : List Home) (g : Grant) (xs : List code.Lease) → None ≡ home_in g.path.object hs → xs ≡ xs ++ lent_by program s hs g
no_home program s hs g xs e = sym (append-nil xs) ∙ ap (λ h. xs ++ leased g.arm (seen_from (Some s) h) (way_to program s.ranges g) []) e

nothing : (arm : ℕ) (s : Standing) (h : Home) (w : Option Way) → None ≡ path_by [] w → [] ≡ leased arm (seen_from (Some s) (Some h)) w []
nothing arm s h None e = refl
nothing arm s h (Some w) e = cc

pub no_path : (program : Program) (s : Standing) (hs : List Home) (g : Grant) (h : Home) (xs : List code.Lease) → Some h ≡ home_in g.path.object hs → None ≡ path_of program s.ranges g → xs ≡ xs ++ lent_by program s hs g
no_path program s hs g h xs e f = sym (append-nil xs) ∙ ap (λ ys. xs ++ ys) (nothing g.arm s h (way_to program s.ranges g) f ∙ ap (λ h. leased g.arm (seen_from (Some s) h) (way_to program s.ranges g) []) e)

one : (arm : ℕ) (s : Standing) (h : Home) (w : Option Way) (p : Path) → Some p ≡ path_by [] w → lease_by s.depth h arm p ∷ [] ≡ leased arm (seen_from (Some s) (Some h)) w []
one arm s h None p e = cc
one arm s h (Some w) p e = ap (λ (p : Option Path). by p) e
  where
    by : Option Path → List code.Lease
    by None = []
    by (Some p) = lease_by s.depth h arm p ∷ []

pub is_lent : (program : Program) (s : Standing) (hs : List Home) (g : Grant) (h : Home) (p : Path) (xs : List code.Lease) → Some h ≡ home_in g.path.object hs → Some p ≡ path_of program s.ranges g → xs ++ (lease_by s.depth h g.arm p ∷ []) ≡ xs ++ lent_by program s hs g
is_lent program s hs g h p xs e f = ap (λ ys. xs ++ ys) (one g.arm s h (way_to program s.ranges g) p f ∙ ap (λ h. leased g.arm (seen_from (Some s) h) (way_to program s.ranges g) []) e)

-- ---- one grant after another

leased_more : (arm : ℕ) (m : Option Named) (w : Option Way) (more : List code.Lease) → leased arm m w [] ++ more ≡ leased arm m w more
leased_more arm None w more = refl
leased_more arm (Some m) None more = refl
leased_more arm (Some m) (Some w) more = refl

module _ (program : Program) (s : Standing) (hs : List Home) (site : ℕ) where
  abbrev rest_of : List Grant → List code.Lease
  rest_of gs = all_leased program (names_from (Some s) hs) s.ranges (granted_by gs site)

  grant_next : (g : Grant) (gs : List Grant) → lent_at program s hs site g ++ rest_of gs ≡ rest_of (g ∷ gs)
  grant_next g gs = go (nat_eq site g.site)
    where
      go : (b : Bool) → cond b (lent_by program s hs g) [] ++ rest_of gs ≡ all_leased program (names_from (Some s) hs) s.ranges (cond b ((g.arm, effect_path g.path) ∷ granted_by gs site) (granted_by gs site))
      go true = leased_more g.arm (seen_from (Some s) (home_in g.path.object hs)) (way_to program s.ranges g) (rest_of gs)
      go false = refl

  pub grants_next : (g : Grant) (gs : List Grant) (found more all : List code.Lease) → more ≡ found ++ lent_at program s hs site g → found ++ rest_of (g ∷ gs) ≡ all → more ++ rest_of gs ≡ all
  grants_next g gs found more all e f = ap (λ xs. xs ++ rest_of gs) e ∙ append_assoc found (lent_at program s hs site g) (rest_of gs) ∙ ap (λ xs. found ++ xs) (grant_next g gs) ∙ f

  pub grants_end : (found all : List code.Lease) → found ++ rest_of [] ≡ all → found ≡ all
  grants_end found all e = sym (append-nil found) ∙ e

-- a construct that stands nowhere has none
pub nowhere : (program : Program) (hs : List Home) (loops : Bool) (gs : List (ℕ × EffectPath)) → [] ≡ all_leased program (names_from None hs) loops gs
nowhere program hs loops [] = refl
nowhere program hs loops (g ∷ gs) = nowhere program hs loops gs

pub stands_nowhere : (program : Program) (hs : List Home) (ss : List Standing) (gs : List Grant) (site : ℕ) (xs : List code.Lease) → xs ≡ [] → None ≡ standing_in site ss → xs ≡ site_leases program hs ss gs site
stands_nowhere program hs ss gs site xs e f = e ∙ nowhere program hs false (granted_by gs site) ∙ ap (λ (s : Option Standing). all_leased program (names_from s hs) (ranges_in s) (granted_by gs site)) f

-- ---- one construct after another

module _ (leases : ℕ → List code.Lease) where
  pub sites_next : (n : ℕ) (x : Site) (xs : List Site) (found more all : List (List code.Lease)) → more ≡ found ++ leases n ∷ [] → found ++ leases_from leases n (x ∷ xs) ≡ all → more ++ leases_from leases (n + 1) xs ≡ all
  sites_next n x xs found more all e f = ap (λ ys. ys ++ leases_from leases (n + 1) xs) e ∙ append_assoc found (leases n ∷ []) (leases_from leases (n + 1) xs) ∙ f

  pub sites_end : (n : ℕ) (found all : List (List code.Lease)) → found ++ leases_from leases n [] ≡ all → found ≡ all
  sites_end n found all e = sym (append-nil found) ∙ e

leases_same : (f g : ℕ → List code.Lease) (n : ℕ) (xs : List Site) → ((k : ℕ) → f k ≡ g k) → leases_from f n xs ≡ leases_from g n xs
leases_same f g n [] same = refl
leases_same f g n (x ∷ xs) same = ap₂ (λ (l : List code.Lease) (ls : List (List code.Lease)). l ∷ ls) (same n) (leases_same f g (n + 1) xs same)

pub all_is : (program : Program) (hs : List Home) (ss : List Standing) (gs : List Grant) → hs ≡ homes_of program → ss ≡ standings_of program → leases_from (site_leases program hs ss gs) 0 program.sites ≡ all_leases program (granted_by gs)
all_is program hs ss gs e f = leases_same (site_leases program hs ss gs) (leases_at program (granted_by gs)) 0 program.sites (λ k. ap (λ hs. site_leases program hs ss gs k) e ∙ ap (λ ss. site_leases program (homes_of program) ss gs k) f)

pub leases_are : {E : Type 0} (program : Program) (hs : List Home) (ss : List Standing) (gs grants : List Grant) (result : Result (List (List code.Lease)) E) → hs ≡ homes_of program → ss ≡ standings_of program → gs ≡ grants
    → IfOk result (λ all. all ≡ leases_from (site_leases program hs ss gs) 0 program.sites) → IfOk result (λ all. all ≡ all_leases program (granted_by grants))
leases_are program hs ss gs grants (Err why) e f g c = tt
leases_are program hs ss gs grants (Ok all) e f g c = c ∙ all_is program hs ss gs e f ∙ ap (λ (gs : List Grant). all_leases program (granted_by gs)) g
