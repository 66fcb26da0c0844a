-- What the threads of parallel constructs write, by their effects.
use Rattle.std.specs.Prelude.{ℕ, List, [], ◌∷◌, ◌++◌, cond}
use Rattle.check_clashes.specs.declared.effects.Effects.{Effects}
use Rattle.check_clashes.specs.declared.effects.SiteEffects.{SiteEffects}
use Rattle.check_clashes.specs.declared.effects.Touch.{Touch}
use Rattle.check_clashes.specs.declared.effects.Uses.{Uses}
use Rattle.check_clashes.specs.declared.granted.Grant.{Grant}
use Rattle.check_clashes.specs.declared.granted.Grants.{Grants}
use Rattle.check_clashes.specs.Breaches.{writes}
use Rattle.check_clashes.specs.Called.{effects_in}

abbrev pub grant_of : ℕ → Touch → Grant
grant_of site t = record { site = site; arm = t.arm; path = t.path }

-- the paths of the effects of a site that are writes, behind those found before
unfoldable pub written : ℕ → List Touch → List Grant → List Grant
written site [] found = found
written site (t ∷ ts) found = written site ts (cond (writes t.access) (found ++ grant_of site t ∷ []) found)

abbrev pub granted_in : List Uses → SiteEffects → List Grant → List Grant
granted_in subs site found = written site.site (effects_in subs site.threads) found

unfoldable pub granted_of : List Uses → List SiteEffects → List Grant → List Grant
granted_of subs [] found = found
granted_of subs (site ∷ sites) found = granted_of subs sites (granted_in subs site found)

abbrev pub grants_of : Effects → Grants
grants_of effects = record { owned = granted_of effects.subs effects.sites [] }
