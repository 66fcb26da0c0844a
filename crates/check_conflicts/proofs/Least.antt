-- What is found is the least of the pairs that were put in.
use Rattle.std.proofs.Common.{◌≡◌, ◌≤◌, ℕ, List, [], ◌∷◌, Option, Some, None, inl, inr, ◌⊎◌, Bool, true, false, cond, refl, sym, subst, arith}
use Rattle.std.proofs.lemmas.Bool.Decides.{nat_tests}
use Rattle.check_clashes.specs.declared.effects.SiteEffects.{SiteEffects}
use Rattle.check_clashes.specs.declared.effects.Touch.{Touch}
use Rattle.check_clashes.specs.declared.effects.Uses.{Uses}
use Rattle.check_inference.specs.Exact.{IsIn}
use Rattle.check_clashes.specs.declared.breaches.Pair.{Pair}
use Rattle.check_conflicts.specs.Answer.{IsNotAfter}
use Rattle.check_clashes.specs.Breaches.{is_before, least, is_exempt, least_touched, touched_in, touched_of, writes, do_clash, in_order, least_with, least_clash, clash_in, clash_of}
use Rattle.check_clashes.specs.Called.{effects_in}

-- what is found doesn't stand behind this pair
abbrev pub AtMost : Option Pair → ℕ → ℕ → Type 0
AtMost None a b = ⊥
AtMost (Some p) a b = IsNotAfter p.first p.second a b

-- what is found is one of these pairs, if anything is
abbrev pub States : (ℕ → ℕ → Type 0) → Option Pair → Type 0
States P None = Unit {0}
States P (Some p) = P p.first p.second

pub below : (found : Option Pair) (a b c d : ℕ) → AtMost found a b → a ≤ c → b ≤ d → AtMost found c d
below None a b c d h i j = absurd h
below (Some p) a b c d h i j = grind arith

-- ---- one pair

kept_if : (before : Bool) (p q : Pair) (a b : ℕ) → is_before p q ≡ before → AtMost (Some q) a b → AtMost (cond before (Some p) (Some q)) a b
kept_if true p q a b e h = grind (arith, nat_tests)
kept_if false p q a b e h = h

kept_least : (p : Pair) (found : Option Pair) (a b : ℕ) → AtMost found a b → AtMost (least p found) a b
kept_least p None a b h = absurd h
kept_least p (Some q) a b h = kept_if (is_before p q) p q a b refl h

reached_if : (before : Bool) (p q : Pair) → is_before p q ≡ before → AtMost (cond before (Some p) (Some q)) p.first p.second
reached_if true p q e = grind (arith, nat_tests)
reached_if false p q e = grind (arith, nat_tests)

reached_least : (p : Pair) (found : Option Pair) → AtMost (least p found) p.first p.second
reached_least p None = grind arith
reached_least p (Some q) = reached_if (is_before p q) p q refl

stated_if : (before : Bool) (p q : Pair) (P : ℕ → ℕ → Type 0) → P p.first p.second → P q.first q.second → States P (cond before (Some p) (Some q))
stated_if true p q P x y = x
stated_if false p q P x y = y

stated_least : (p : Pair) (found : Option Pair) (P : ℕ → ℕ → Type 0) → P p.first p.second → States P found → States P (least p found)
stated_least p None P x h = x
stated_least p (Some q) P x h = stated_if (is_before p q) p q P x h

-- ---- a pair that is put in where a test is met, or where it isn't

kept_where : (b : Bool) (p : Pair) (found : Option Pair) (c d : ℕ) → AtMost found c d → AtMost (cond b (least p found) found) c d
kept_where true p found c d h = kept_least p found c d h
kept_where false p found c d h = h

reached_where : (b : Bool) (p : Pair) (found : Option Pair) → b ≡ true → AtMost (cond b (least p found) found) p.first p.second
reached_where true p found e = reached_least p found
reached_where false p found e = cc

stated_where : (b : Bool) (p : Pair) (found : Option Pair) (P : ℕ → ℕ → Type 0) → (b ≡ true → P p.first p.second) → States P found → States P (cond b (least p found) found)
stated_where true p found P given h = stated_least p found P (given refl) h
stated_where false p found P given h = h

kept_unless : (b : Bool) (p : Pair) (found : Option Pair) (c d : ℕ) → AtMost found c d → AtMost (cond b found (least p found)) c d
kept_unless true p found c d h = h
kept_unless false p found c d h = kept_least p found c d h

reached_unless : (b : Bool) (p : Pair) (found : Option Pair) → b ≡ false → AtMost (cond b found (least p found)) p.first p.second
reached_unless true p found e = cc
reached_unless false p found e = reached_least p found

stated_unless : (b : Bool) (p : Pair) (found : Option Pair) (P : ℕ → ℕ → Type 0) → (b ≡ false → P p.first p.second) → States P found → States P (cond b found (least p found))
stated_unless true p found P given h = h
stated_unless false p found P given h = stated_least p found P (given refl) h

-- ---- the strict rule

abbrev touched_at : Touch → Pair
touched_at t = record { first = t.at; second = t.path.object }

kept_touched : (block : Bool) (ts : List Touch) (found : Option Pair) (c d : ℕ) → AtMost found c d → AtMost (least_touched block ts found) c d
unfolding least_touched
kept_touched block [] found c d h = h
kept_touched block (t ∷ ts) found c d h = kept_touched block ts (cond (is_exempt block t.path) found (least (touched_at t) found)) c d (kept_unless (is_exempt block t.path) (touched_at t) found c d h)

reached_touched : (block : Bool) (ts : List Touch) (found : Option Pair) (t : Touch) → IsIn t ts → is_exempt block t.path ≡ false → AtMost (least_touched block ts found) t.at t.path.object
unfolding least_touched
reached_touched block [] found t h e = absurd h
reached_touched block (u ∷ ts) found t (inl same) e = kept_touched block ts (cond (is_exempt block u.path) found (least (touched_at u) found)) t.at t.path.object
    (subst (λ (x : Touch). AtMost (cond (is_exempt block u.path) found (least (touched_at u) found)) x.at x.path.object) (sym same)
    (reached_unless (is_exempt block u.path) (touched_at u) found (subst (λ (x : Touch). is_exempt block x.path ≡ false) same e)))
reached_touched block (u ∷ ts) found t (inr h) e = reached_touched block ts (cond (is_exempt block u.path) found (least (touched_at u) found)) t h e

stated_touched : (block : Bool) (ts : List Touch) (found : Option Pair) (P : ℕ → ℕ → Type 0) → ((t : Touch) → IsIn t ts → is_exempt block t.path ≡ false → P t.at t.path.object)
    → States P found → States P (least_touched block ts found)
unfolding least_touched
stated_touched block [] found P given h = h
stated_touched block (u ∷ ts) found P given h = stated_touched block ts (cond (is_exempt block u.path) found (least (touched_at u) found)) P (λ t i. given t (inr i))
    (stated_unless (is_exempt block u.path) (touched_at u) found P (given u (inl refl)) h)

-- in the threads of a construct, or in front of them
abbrev pub IsFound : List Uses → SiteEffects → Touch → Type 0
IsFound subs site t = IsIn t (effects_in subs site.threads) ⊎ IsIn t (effects_in subs site.front)

kept_touched_in : (subs : List Uses) (site : SiteEffects) (found : Option Pair) (c d : ℕ) → AtMost found c d → AtMost (touched_in subs site found) c d
kept_touched_in subs site found c d h =
    kept_touched site.block (effects_in subs site.threads) (least_touched site.block (effects_in subs site.front) found) c d (kept_touched site.block (effects_in subs site.front) found c d h)

reached_touched_in : (subs : List Uses) (site : SiteEffects) (found : Option Pair) (t : Touch) → IsFound subs site t → is_exempt site.block t.path ≡ false → AtMost (touched_in subs site found) t.at t.path.object
reached_touched_in subs site found t (inl h) e = reached_touched site.block (effects_in subs site.threads) (least_touched site.block (effects_in subs site.front) found) t h e
reached_touched_in subs site found t (inr h) e =
    kept_touched site.block (effects_in subs site.threads) (least_touched site.block (effects_in subs site.front) found) t.at t.path.object (reached_touched site.block (effects_in subs site.front) found t h e)

stated_touched_in : (subs : List Uses) (site : SiteEffects) (found : Option Pair) (P : ℕ → ℕ → Type 0) → ((t : Touch) → IsFound subs site t → is_exempt site.block t.path ≡ false → P t.at t.path.object)
    → States P found → States P (touched_in subs site found)
stated_touched_in subs site found P given h = stated_touched site.block (effects_in subs site.threads) (least_touched site.block (effects_in subs site.front) found) P (λ t i. given t (inl i))
    (stated_touched site.block (effects_in subs site.front) found P (λ t i. given t (inr i)) h)

kept_touched_of : (subs : List Uses) (sites : List SiteEffects) (found : Option Pair) (c d : ℕ) → AtMost found c d → AtMost (touched_of subs sites found) c d
unfolding touched_of
kept_touched_of subs [] found c d h = h
kept_touched_of subs (site ∷ sites) found c d h = kept_touched_of subs sites (touched_in subs site found) c d (kept_touched_in subs site found c d h)

pub reached_touched_of : (subs : List Uses) (sites : List SiteEffects) (found : Option Pair) (site : SiteEffects) → IsIn site sites → (t : Touch) → IsFound subs site t → is_exempt site.block t.path ≡ false
    → AtMost (touched_of subs sites found) t.at t.path.object
unfolding touched_of
reached_touched_of subs [] found site i t h e = absurd i
reached_touched_of subs (s ∷ sites) found site (inl same) t h e = kept_touched_of subs sites (touched_in subs s found) t.at t.path.object
    (subst (λ (x : SiteEffects). AtMost (touched_in subs x found) t.at t.path.object) same (reached_touched_in subs site found t h e))
reached_touched_of subs (s ∷ sites) found site (inr i) t h e = reached_touched_of subs sites (touched_in subs s found) site i t h e

pub stated_touched_of : (subs : List Uses) (sites : List SiteEffects) (found : Option Pair) (P : ℕ → ℕ → Type 0)
    → ((site : SiteEffects) → IsIn site sites → (t : Touch) → IsFound subs site t → is_exempt site.block t.path ≡ false → P t.at t.path.object) → States P found → States P (touched_of subs sites found)
unfolding touched_of
stated_touched_of subs [] found P given h = h
stated_touched_of subs (s ∷ sites) found P given h = stated_touched_of subs sites (touched_in subs s found) P (λ site i. given site (inr i)) (stated_touched_in subs s found P (given s (inl refl)) h)

-- ---- the disjoint rule

kept_with : (block : Bool) (t : Touch) (us : List Touch) (found : Option Pair) (c d : ℕ) → AtMost found c d → AtMost (least_with block t us found) c d
unfolding least_with
kept_with block t [] found c d h = h
kept_with block t (u ∷ us) found c d h = kept_with block t us (cond (do_clash block t u) (least (in_order t.at u.at) found) found) c d (kept_where (do_clash block t u) (in_order t.at u.at) found c d h)

reached_with : (block : Bool) (t : Touch) (us : List Touch) (found : Option Pair) (u : Touch) → IsIn u us → do_clash block t u ≡ true
    → AtMost (least_with block t us found) (in_order t.at u.at).first (in_order t.at u.at).second
unfolding least_with
reached_with block t [] found u h e = absurd h
reached_with block t (v ∷ us) found u (inl same) e = kept_with block t us (cond (do_clash block t v) (least (in_order t.at v.at) found) found) (in_order t.at u.at).first (in_order t.at u.at).second
    (subst (λ (x : Touch). AtMost (cond (do_clash block t v) (least (in_order t.at v.at) found) found) (in_order t.at x.at).first (in_order t.at x.at).second) (sym same)
    (reached_where (do_clash block t v) (in_order t.at v.at) found (subst (λ (x : Touch). do_clash block t x ≡ true) same e)))
reached_with block t (v ∷ us) found u (inr h) e = reached_with block t us (cond (do_clash block t v) (least (in_order t.at v.at) found) found) u h e

stated_with : (block : Bool) (t : Touch) (us : List Touch) (found : Option Pair) (P : ℕ → ℕ → Type 0)
    → ((u : Touch) → IsIn u us → do_clash block t u ≡ true → P (in_order t.at u.at).first (in_order t.at u.at).second) → States P found → States P (least_with block t us found)
unfolding least_with
stated_with block t [] found P given h = h
stated_with block t (v ∷ us) found P given h = stated_with block t us (cond (do_clash block t v) (least (in_order t.at v.at) found) found) P (λ u i. given u (inr i))
    (stated_where (do_clash block t v) (in_order t.at v.at) found P (given v (inl refl)) h)

kept_writing : (b block : Bool) (t : Touch) (us : List Touch) (found : Option Pair) (c d : ℕ) → AtMost found c d → AtMost (cond b (least_with block t us found) found) c d
kept_writing true block t us found c d h = kept_with block t us found c d h
kept_writing false block t us found c d h = h

reached_writing : (b block : Bool) (t : Touch) (us : List Touch) (found : Option Pair) (u : Touch) → b ≡ true → IsIn u us → do_clash block t u ≡ true
    → AtMost (cond b (least_with block t us found) found) (in_order t.at u.at).first (in_order t.at u.at).second
reached_writing true block t us found u w h e = reached_with block t us found u h e
reached_writing false block t us found u w h e = cc

stated_writing : (b block : Bool) (t : Touch) (us : List Touch) (found : Option Pair) (P : ℕ → ℕ → Type 0)
    → (b ≡ true → (u : Touch) → IsIn u us → do_clash block t u ≡ true → P (in_order t.at u.at).first (in_order t.at u.at).second) → States P found → States P (cond b (least_with block t us found) found)
stated_writing true block t us found P given h = stated_with block t us found P (given refl) h
stated_writing false block t us found P given h = h

kept_clash : (block : Bool) (all ts : List Touch) (found : Option Pair) (c d : ℕ) → AtMost found c d → AtMost (least_clash block all ts found) c d
unfolding least_clash
kept_clash block all [] found c d h = h
kept_clash block all (t ∷ ts) found c d h = kept_clash block all ts (cond (writes t.access) (least_with block t all found) found) c d (kept_writing (writes t.access) block t all found c d h)

reached_clash : (block : Bool) (all ts : List Touch) (found : Option Pair) (t u : Touch) → IsIn t ts → IsIn u all → writes t.access ≡ true → do_clash block t u ≡ true
    → AtMost (least_clash block all ts found) (in_order t.at u.at).first (in_order t.at u.at).second
unfolding least_clash
reached_clash block all [] found t u h i w e = absurd h
reached_clash block all (v ∷ ts) found t u (inl same) i w e = kept_clash block all ts (cond (writes v.access) (least_with block v all found) found) (in_order t.at u.at).first (in_order t.at u.at).second
    (subst (λ (x : Touch). AtMost (cond (writes v.access) (least_with block v all found) found) (in_order x.at u.at).first (in_order x.at u.at).second) (sym same)
    (reached_writing (writes v.access) block v all found u (subst (λ (x : Touch). writes x.access ≡ true) same w) i (subst (λ (x : Touch). do_clash block x u ≡ true) same e)))
reached_clash block all (v ∷ ts) found t u (inr h) i w e = reached_clash block all ts (cond (writes v.access) (least_with block v all found) found) t u h i w e

stated_clash : (block : Bool) (all ts : List Touch) (found : Option Pair) (P : ℕ → ℕ → Type 0)
    → ((t u : Touch) → IsIn t ts → IsIn u all → writes t.access ≡ true → do_clash block t u ≡ true → P (in_order t.at u.at).first (in_order t.at u.at).second)
    → States P found → States P (least_clash block all ts found)
unfolding least_clash
stated_clash block all [] found P given h = h
stated_clash block all (v ∷ ts) found P given h = stated_clash block all ts (cond (writes v.access) (least_with block v all found) found) P (λ t u i. given t u (inr i))
    (stated_writing (writes v.access) block v all found P (λ w u i. given v u (inl refl) i w) h)

kept_clash_of : (subs : List Uses) (sites : List SiteEffects) (found : Option Pair) (c d : ℕ) → AtMost found c d → AtMost (clash_of subs sites found) c d
unfolding clash_of
kept_clash_of subs [] found c d h = h
kept_clash_of subs (site ∷ sites) found c d h = kept_clash_of subs sites (clash_in subs site found) c d (kept_clash site.block (effects_in subs site.threads) (effects_in subs site.threads) found c d h)

pub reached_clash_of : (subs : List Uses) (sites : List SiteEffects) (found : Option Pair) (site : SiteEffects) → IsIn site sites → (t u : Touch) → IsIn t (effects_in subs site.threads) → IsIn u (effects_in subs site.threads)
    → writes t.access ≡ true → do_clash site.block t u ≡ true → AtMost (clash_of subs sites found) (in_order t.at u.at).first (in_order t.at u.at).second
unfolding clash_of
reached_clash_of subs [] found site i t u h j w e = absurd i
reached_clash_of subs (s ∷ sites) found site (inl same) t u h j w e = kept_clash_of subs sites (clash_in subs s found) (in_order t.at u.at).first (in_order t.at u.at).second
    (subst (λ (x : SiteEffects). AtMost (clash_in subs x found) (in_order t.at u.at).first (in_order t.at u.at).second) same
    (reached_clash site.block (effects_in subs site.threads) (effects_in subs site.threads) found t u h j w e))
reached_clash_of subs (s ∷ sites) found site (inr i) t u h j w e = reached_clash_of subs sites (clash_in subs s found) site i t u h j w e

pub stated_clash_of : (subs : List Uses) (sites : List SiteEffects) (found : Option Pair) (P : ℕ → ℕ → Type 0)
    → ((site : SiteEffects) → IsIn site sites → (t u : Touch) → IsIn t (effects_in subs site.threads) → IsIn u (effects_in subs site.threads) → writes t.access ≡ true → do_clash site.block t u ≡ true
    → P (in_order t.at u.at).first (in_order t.at u.at).second)
    → States P found → States P (clash_of subs sites found)
unfolding clash_of
stated_clash_of subs [] found P given h = h
stated_clash_of subs (s ∷ sites) found P given h = stated_clash_of subs sites (clash_in subs s found) P (λ site i. given site (inr i))
    (stated_clash s.block (effects_in subs s.threads) (effects_in subs s.threads) found P (given s (inl refl)) h)
