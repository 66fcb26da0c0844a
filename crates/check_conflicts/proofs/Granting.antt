-- What is granted is just what threads write.
use Rattle.std.proofs.Common.{◌≡◌, ℕ, List, [], ◌∷◌, ◌++◌, inl, inr, ◌⊎◌, ⊎_elim, Bool, true, false, cond, refl, sym, subst, true≢false}
use Rattle.typed_tree.specs.Syntax.{Program}
use Rattle.check_effects.specs.Backwards.{CallsBackwards}
use Rattle.check_effects.specs.Conflicts.{InProgram, IsGranted, path_of}
use Rattle.check_effects.specs.Covered.{site_of}
use Rattle.check_effects.specs.Effects.{Access, Construct, Holds, InThread}
use Rattle.check_clashes.specs.declared.effects.Effects.{Effects}
use Rattle.check_clashes.specs.declared.effects.SiteEffects.{SiteEffects}
use Rattle.check_clashes.specs.declared.effects.Touch.{Touch}
use Rattle.check_clashes.specs.declared.effects.Uses.{Uses}
use Rattle.check_clashes.specs.declared.granted.Grant.{Grant}
use Rattle.check_clashes.specs.Breaches.{writes}
use Rattle.check_clashes.specs.Called.{effects_in}
use Rattle.check_clashes.specs.Granted.{grant_of, written, granted_of, grants_of}
use Rattle.check_inference.specs.Exact.{AreEffects, IsIn, OfThread, TellsSite, effect_path, is_block}
use Rattle.check_conflicts.specs.Answer.{AreGrants}
use Rattle.check_conflicts.proofs.Found.{includes_write, is_write}
use Rattle.check_conflicts.proofs.Told.{Told}
use Rattle.check_conflicts.proofs.Telling.{in_append, in_left, in_right, threads_told}

-- ---- one more grant, or none

last_is : (g h : Grant) → IsIn g (h ∷ []) → g ≡ h
last_is g h (inl e) = e
last_is g h (inr i) = absurd i

one_told : (b : Bool) (g h : Grant) (found : List Grant) → IsIn g (cond b (found ++ h ∷ []) found) → IsIn g found ⊎ ((b ≡ true) × (g ≡ h))
one_told true g h found i = ⊎_elim (λ k. inl k) (λ k. inr (refl, last_is g h k)) (in_append g found (h ∷ []) i)
one_told false g h found i = inl i

one_kept : (b : Bool) (g h : Grant) (found : List Grant) → IsIn g found → IsIn g (cond b (found ++ h ∷ []) found)
one_kept true g h found i = in_left g found (h ∷ []) i
one_kept false g h found i = i

one_whole : (b : Bool) (h : Grant) (found : List Grant) → b ≡ true → IsIn h (cond b (found ++ h ∷ []) found)
one_whole true h found e = in_right h found (h ∷ []) (inl refl)
one_whole false h found e = absurd (true≢false (sym e))

-- ---- the grants of a site

-- the path of one of the effects, which is a write
abbrev Writes : ℕ → List Touch → Grant → Type 0
Writes site ts g = (t : Touch) × IsIn t ts × (writes t.access ≡ true) × (g ≡ grant_of site t)

written_told : (site : ℕ) (ts : List Touch) (found : List Grant) (g : Grant) → IsIn g (written site ts found) → IsIn g found ⊎ Writes site ts g
unfolding written
written_told site [] found g i = inl i
written_told site (t ∷ ts) found g i = ⊎_elim
    (λ h. ⊎_elim (λ k. inl k) (λ k. inr (t, inl refl, k.0, k.1)) (one_told (writes t.access) g (grant_of site t) found h))
    (λ h. inr (h.0, inr h.1, h.2, h.3))
    (written_told site ts (cond (writes t.access) (found ++ grant_of site t ∷ []) found) g i)

written_kept : (site : ℕ) (ts : List Touch) (found : List Grant) (g : Grant) → IsIn g found → IsIn g (written site ts found)
unfolding written
written_kept site [] found g i = i
written_kept site (t ∷ ts) found g i = written_kept site ts (cond (writes t.access) (found ++ grant_of site t ∷ []) found) g (one_kept (writes t.access) g (grant_of site t) found i)

written_whole : (site : ℕ) (ts : List Touch) (found : List Grant) (t : Touch) → IsIn t ts → writes t.access ≡ true → IsIn (grant_of site t) (written site ts found)
unfolding written
written_whole site [] found t i w = absurd i
written_whole site (u ∷ ts) found t (inl e) w = written_kept site ts (cond (writes u.access) (found ++ grant_of site u ∷ []) found) (grant_of site t)
    (subst (λ z. IsIn (grant_of site t) (cond (writes z.access) (found ++ grant_of site z ∷ []) found)) e (one_whole (writes t.access) (grant_of site t) found w))
written_whole site (u ∷ ts) found t (inr i) w = written_whole site ts (cond (writes u.access) (found ++ grant_of site u ∷ []) found) t i w

-- ---- the grants of all sites

module _ (subs : List Uses) where
  abbrev found_in : SiteEffects → List Grant → List Grant
  found_in site found = written site.site (effects_in subs site.threads) found

  abbrev IsFrom : List SiteEffects → Grant → Type 0
  IsFrom sites g = (site : SiteEffects) × IsIn site sites × Writes site.site (effects_in subs site.threads) g

  granted_told : (sites : List SiteEffects) (found : List Grant) (g : Grant) → IsIn g (granted_of subs sites found) → IsIn g found ⊎ IsFrom sites g
  unfolding granted_of
  granted_told [] found g i = inl i
  granted_told (site ∷ sites) found g i = ⊎_elim
      (λ h. ⊎_elim (λ k. inl k) (λ k. inr (site, inl refl, k)) (written_told site.site (effects_in subs site.threads) found g h))
      (λ h. inr (h.0, inr h.1, h.2))
      (granted_told sites (found_in site found) g i)

  granted_kept : (sites : List SiteEffects) (found : List Grant) (g : Grant) → IsIn g found → IsIn g (granted_of subs sites found)
  unfolding granted_of
  granted_kept [] found g i = i
  granted_kept (site ∷ sites) found g i = granted_kept sites (found_in site found) g (written_kept site.site (effects_in subs site.threads) found g i)

  granted_whole : (sites : List SiteEffects) (found : List Grant) (site : SiteEffects) (t : Touch) → IsIn site sites → IsIn t (effects_in subs site.threads) → writes t.access ≡ true
      → IsIn (grant_of site.site t) (granted_of subs sites found)
  unfolding granted_of
  granted_whole [] found site t i j w = absurd i
  granted_whole (first ∷ sites) found site t (inl e) j w = granted_kept sites (found_in first found) (grant_of site.site t)
      (subst (λ z. IsIn (grant_of site.site t) (found_in z found)) e (written_whole site.site (effects_in subs site.threads) found t j w))
  granted_whole (first ∷ sites) found site t (inr i) j w = granted_whole sites (found_in first found) site t i j w

-- ---- they are what threads write

module _ (program : Program) (effects : Effects) (back : CallsBackwards program) (known : AreEffects program effects) where
  abbrev ToldOf : Construct → SiteEffects → Type 0
  ToldOf k site = Told program site.block (InThread program.subtypes k) (effects_in effects.subs site.threads)

  abbrev Written : Grant → Type 0
  Written g = (k : Construct) × InProgram program (Holds k) × (site_of k ≡ g.site) × ((j : ℕ) → OfThread (is_block k) j g.arm → (a : Access) × IsGranted program k j a × (path_of a ≡ effect_path g.path))

  written_by : (site : SiteEffects) (t : Touch) → IsIn site effects.sites → IsIn t (effects_in effects.subs site.threads) → writes t.access ≡ true → Written (grant_of site.site t)
  written_by site t i j w = go (known.sites site i)
    where
      go : (k : Construct) × InProgram program (Holds k) × TellsSite program k site → Written (grant_of site.site t)
      go (k, held, tells) = (
        k,
        held,
        sym tells.number,
        λ n of.
            let x = (threads_told program effects back known k site tells).sound t j n (subst (λ (b : Bool). OfThread b n t.arm) (sym tells.block) of) true (includes_write t.access w) in
            (x.0, (t.at, x.1, x.2), x.3),
      )

  grants_written : (g : Grant) → IsIn g (grants_of effects).owned → Written g
  grants_written g i = go (granted_told effects.subs effects.sites [] g i)
    where
      go : IsIn g [] ⊎ IsFrom effects.subs effects.sites g → Written g
      go (inl none) = absurd none
      go (inr (site, i, (t, j, w, same))) = subst (λ z. Written z) (sym same) (written_by site t i j w)

  abbrev Granted : Construct → ℕ → Access → Type 0
  Granted k j a = (g : Grant) × IsIn g (grants_of effects).owned × (g.site ≡ site_of k) × OfThread (is_block k) j g.arm × (effect_path g.path ≡ path_of a)

  all_granted : (k : Construct) → InProgram program (Holds k) → (j : ℕ) (a : Access) → IsGranted program k j a → Granted k j a
  all_granted k held j a (at, effect, w) = go (known.held k held)
    where
      go : (site : SiteEffects) × IsIn site effects.sites × TellsSite program k site → Granted k j a
      go (site, i, tells) =
          let x = (threads_told program effects back known k site tells).whole j at a effect in (
            grant_of site.site x.0,
            granted_whole effects.subs effects.sites [] site x.0 i x.1 (is_write x.0.access a.writes w x.4),
            tells.number,
            subst (λ (b : Bool). OfThread b j x.0.arm) tells.block x.2,
            x.5,
          )

  pub are_grants : AreGrants program (grants_of effects)
  are_grants = record { written = grants_written; granted = all_granted }
