-- The least breach of the strict rule, and the least pair of effects that clash.
use Rattle.std.specs.Prelude.{ℕ, pos, List, [], ◌∷◌, Option, Some, None, Bool, true, false, not, ◌&&◌, ◌||◌, cond, nat_eq, nat_lt}
use Rattle.std.specs.Ordering.{int_eq}
use Rattle.check_clashes.specs.declared.effects.Access.{Access}
use Rattle.check_clashes.specs.declared.effects.Access.TheVariants.{Read, Write, Update}
use Rattle.check_clashes.specs.declared.effects.Effects.{Effects}
use Rattle.check_clashes.specs.declared.effects.Path.{Path}
use Rattle.check_clashes.specs.declared.effects.Selector.{Selector}
use Rattle.check_clashes.specs.declared.effects.Selector.TheVariants.{Field, Fixed, Loop, Chunk}
use Rattle.check_clashes.specs.declared.effects.SiteEffects.{SiteEffects}
use Rattle.check_clashes.specs.declared.effects.Touch.{Touch}
use Rattle.check_clashes.specs.declared.effects.Uses.{Uses}
use Rattle.check_clashes.specs.declared.breaches.Pair.{Pair}
use Rattle.check_clashes.specs.Called.{effects_in}

abbrev pub is_before : Pair → Pair → Bool
is_before p q = nat_lt p.first q.first || (nat_eq p.first q.first && nat_lt p.second q.second)

abbrev pub least : Pair → Option Pair → Option Pair
least p None = Some p
least p (Some q) = cond (is_before p q) (Some p) (Some q)

-- the strict rule

-- an index that is a parameter itself
abbrev pub is_parameter : Selector → Bool
is_parameter (Loop c) = int_eq c (pos 0)
is_parameter (Chunk c) = int_eq c (pos 0)
is_parameter s = false

unfoldable pub has_parameter : List Selector → Bool
has_parameter [] = false
has_parameter (s ∷ ss) = is_parameter s || has_parameter ss

-- a name of a loop or reduction that goes by a parameter of it
abbrev pub is_exempt : Bool → Path → Bool
is_exempt block p = not block && has_parameter p.selectors

unfoldable pub least_touched : Bool → List Touch → Option Pair → Option Pair
least_touched block [] found = found
least_touched block (t ∷ ts) found = least_touched block ts (cond (is_exempt block t.path) found (least (record { first = t.at; second = t.path.object }) found))

abbrev pub touched_in : List Uses → SiteEffects → Option Pair → Option Pair
touched_in subs site found = least_touched site.block (effects_in subs site.threads) (least_touched site.block (effects_in subs site.front) found)

unfoldable pub touched_of : List Uses → List SiteEffects → Option Pair → Option Pair
touched_of subs [] found = found
touched_of subs (site ∷ sites) found = touched_of subs sites (touched_in subs site found)

-- the disjoint rule

abbrev pub differ : Selector → Selector → Bool
differ (Field j) (Field k) = not (nat_eq j k)
differ (Fixed i) (Fixed j) = not (int_eq i j)
differ (Loop c) (Loop d) = int_eq c d
differ (Chunk c) (Chunk d) = int_eq c d
differ s t = false

unfoldable pub some_differ : List Selector → List Selector → Bool
some_differ [] ts = false
some_differ (s ∷ ss) [] = false
some_differ (s ∷ ss) (t ∷ ts) = differ s t || some_differ ss ts

abbrev pub are_separated : Path → Path → Bool
are_separated p q = not (nat_eq p.object q.object) || some_differ p.selectors q.selectors

abbrev pub writes : Access → Bool
writes Read = false
writes Write = true
writes Update = true

-- in a block two arms are compared, elsewhere any two effects
abbrev pub are_compared : Bool → ℕ → ℕ → Bool
are_compared block j k = not block || not (nat_eq j k)

abbrev pub do_clash : Bool → Touch → Touch → Bool
do_clash block t u = are_compared block t.arm u.arm && not (are_separated t.path u.path)

abbrev pub in_order : ℕ → ℕ → Pair
in_order j k = cond (nat_lt k j) (record { first = k; second = j }) (record { first = j; second = k })

-- with an effect that is a write
unfoldable pub least_with : Bool → Touch → List Touch → Option Pair → Option Pair
least_with block t [] found = found
least_with block t (u ∷ us) found = least_with block t us (cond (do_clash block t u) (least (in_order t.at u.at) found) found)

unfoldable pub least_clash : Bool → (all from : List Touch) → Option Pair → Option Pair
least_clash block all [] found = found
least_clash block all (t ∷ ts) found = least_clash block all ts (cond (writes t.access) (least_with block t all found) found)

abbrev pub clash_in : List Uses → SiteEffects → Option Pair → Option Pair
clash_in subs site found = least_clash site.block (effects_in subs site.threads) (effects_in subs site.threads) found

unfoldable pub clash_of : List Uses → List SiteEffects → Option Pair → Option Pair
clash_of subs [] found = found
clash_of subs (site ∷ sites) found = clash_of subs sites (clash_in subs site found)

-- what is found of a program's effects, where the strict rule is asked for or not

abbrev pub touched_by : Bool → Effects → Option Pair
touched_by false effects = None
touched_by true effects = touched_of effects.subs effects.sites None

abbrev pub clash_by : Effects → Option Pair
clash_by effects = clash_of effects.subs effects.sites None
