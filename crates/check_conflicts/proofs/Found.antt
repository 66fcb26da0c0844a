-- What is found of a program's effects is the least breach of each rule.
use Rattle.std.proofs.Common.{◌≡◌, ◌≤◌, ℕ, List, Option, Some, None, inl, inr, ◌⊎◌, Bool, true, false, not, ◌&&◌, cond, nat_lt, refl, sym, ap, subst, ◌∙◌, arith}
use Rattle.std.proofs.lemmas.Bool.Decides.{nat_tests}
use Rattle.typed_tree.specs.Syntax.{Program}
use Rattle.check_effects.specs.Effects as law
use Rattle.check_effects.specs.Effects.{Construct, Holds, InThread, InFront, IsEffect}
use Rattle.check_effects.specs.Conflicts.{EffectPath, path_of, Exempt, Clashes, ClashPair, GlobalTouched, InProgram, IsThreadEffect}
use Rattle.check_clashes.specs.declared.effects.Access.{Access}
use Rattle.check_clashes.specs.declared.effects.Access.TheVariants.{Read, Write, Update}
use Rattle.check_clashes.specs.declared.effects.Effects.{Effects}
use Rattle.check_clashes.specs.declared.effects.SiteEffects.{SiteEffects}
use Rattle.check_clashes.specs.declared.effects.Touch.{Touch}
use Rattle.check_inference.specs.Exact.{IsIn, effect_path, Includes, OfThread, TellsSite, AreEffects}
use Rattle.check_clashes.specs.declared.breaches.Pair.{Pair}
use Rattle.check_conflicts.specs.Answer.{TouchedFound, ClashFound, FoundLaw}
use Rattle.check_clashes.specs.Breaches.{is_exempt, writes, are_compared, are_separated, do_clash, in_order, touched_of, clash_of}
use Rattle.check_clashes.specs.Called.{effects_in}
use Rattle.check_conflicts.proofs.Told.{Told}
use Rattle.check_conflicts.proofs.Telling.{threads_told, front_told}
use Rattle.check_conflicts.proofs.Least.{AtMost, States, IsFound, below, reached_touched_of, stated_touched_of, reached_clash_of, stated_clash_of}
use Rattle.check_conflicts.proofs.Deciding.{together, not_separated, not_exempt, is_judged, thread, of_thread, compared, are_compared_so}

-- ---- reads and writes

-- one of what is done
abbrev one_of : Access → Bool
one_of Read = false
one_of Write = true
one_of Update = true

includes_one : (a : Access) → Includes a (one_of a)
includes_one Read = refl
includes_one Write = refl
includes_one Update = tt

pub includes_write : (a : Access) → writes a ≡ true → Includes a true
includes_write Read e = sym e
includes_write Write e = refl
includes_write Update e = tt

pub is_write : (a : Access) (w : Bool) → w ≡ true → Includes a w → writes a ≡ true
is_write Read w e h = sym h ∙ e
is_write Write w e h = refl
is_write Update w e h = refl

-- ---- tests

both : (a b : Bool) → a ≡ true → b ≡ false → (a && not b) ≡ true
both a b e f = grind arith

first_part : (a b : Bool) → (a && not b) ≡ true → a ≡ true
first_part a b e = grind arith

other_part : (a b : Bool) → (a && not b) ≡ true → b ≡ false
other_part a b e = grind arith

-- ---- order

-- two numbers that aren't above two others in their order, in order
in_order_below : (t u at other : ℕ) → t ≤ at → u ≤ other → at ≤ other → ((in_order t u).first ≤ at) × ((in_order t u).second ≤ other)
in_order_below t u at other h i j = grind (arith, nat_tests)

in_order_across : (t u at other : ℕ) → t ≤ other → u ≤ at → at ≤ other → ((in_order t u).first ≤ at) × ((in_order t u).second ≤ other)
in_order_across t u at other h i j = grind (arith, nat_tests)

-- two numbers, turned round or not
abbrev turned : Bool → ℕ → ℕ → Pair
turned true t u = record { first = u; second = t }
turned false t u = record { first = t; second = u }

in_order_turned : (before : Bool) (t u : ℕ) → cond before (turned true t u) (turned false t u) ≡ turned before t u
in_order_turned true t u = refl
in_order_turned false t u = refl

module _ (program : Program) where
  abbrev SomeTouched : (at object : ℕ) → Type 0
  SomeTouched at object = (k : Construct) × InProgram program (Holds k) × GlobalTouched program k at object

  abbrev SomeClash : (at other : ℕ) → Type 0
  SomeClash at other = (k : Construct) × InProgram program (Holds k) × ClashPair program k at other

  pair_if : (k : Construct) (before : Bool) (t u : ℕ) → nat_lt u t ≡ before → Clashes program k t u → ClashPair program k (turned before t u).first (turned before t u).second
  pair_if k true t u e c = (grind (arith, nat_tests), inr c)
  pair_if k false t u e c = (grind (arith, nat_tests), inl c)

  -- the tokens of a clash in their order
  clash_in_order : (k : Construct) (t u : ℕ) → Clashes program k t u → ClashPair program k (in_order t u).first (in_order t u).second
  clash_in_order k t u c = subst (λ (p : Pair). ClashPair program k p.first p.second) (sym (in_order_turned (nat_lt u t) t u)) (pair_if k (nat_lt u t) t u refl c)

  -- what is found, from what was put in and what it doesn't stand behind

  touched_found : (found : Option Pair) → States SomeTouched found
      → ((k : Construct) → InProgram program (Holds k) → (at x : ℕ) → GlobalTouched program k at x → AtMost found at x) → TouchedFound program found
  touched_found None s h = h
  touched_found (Some p) s h = record { touched = s; least = h }

  clash_reached : (found : Option Pair) → ((k : Construct) → InProgram program (Holds k) → (at other : ℕ) → ClashPair program k at other → AtMost found at other)
      → (k : Construct) → InProgram program (Holds k) → (at other : ℕ) → Clashes program k at other → AtMost found (in_order at other).first (in_order at other).second
  clash_reached found h k i at other c = h k i (in_order at other).first (in_order at other).second (clash_in_order k at other c)

  clash_found : (found : Option Pair) → States SomeClash found
      → ((k : Construct) → InProgram program (Holds k) → (at other : ℕ) → ClashPair program k at other → AtMost found at other) → ClashFound program found
  clash_found None s h = clash_reached None h
  clash_found (Some p) s h = record { clash = s; least = h }

-- ---- a construct

-- a name of a breach, no later than it
abbrev BreachIn : SiteEffects → List Touch → (at object : ℕ) → Type 0
BreachIn site found at x = (t : Touch) × IsIn t found × (t.at ≤ at) × (t.path.object ≡ x) × (is_exempt site.block t.path ≡ false)

-- two effects of a clash, no later than it
abbrev ClashIn : SiteEffects → List Touch → (at other : ℕ) → Type 0
ClashIn site found at other = (t : Touch) × (u : Touch) × IsIn t found × IsIn u found × (t.at ≤ at) × (u.at ≤ other) × (writes t.access ≡ true) × (do_clash site.block t u ≡ true)

module _ (program : Program) (k : Construct) (site : SiteEffects) (tells : TellsSite program k site) where
  -- a name in its threads, or in front of them, that breaks the strict rule
  touched_thread : (found : List Touch) → Told program site.block (InThread program.subtypes k) found → (t : Touch) → IsIn t found → is_exempt site.block t.path ≡ false
      → GlobalTouched program k t.at t.path.object
  touched_thread found told t i e = go (told.sound t i (thread site.block t.arm) (of_thread site.block t.arm) (one_of t.access) (includes_one t.access))
    where
      go : (a : law.Access) × IsEffect program (InThread program.subtypes k (thread site.block t.arm)) t.at a × (a.writes ≡ one_of t.access) × (path_of a ≡ effect_path t.path)
          → GlobalTouched program k t.at t.path.object
      go (a, effect, w, same) = (a, ap (λ (x : EffectPath). x.object) same, inr (thread site.block t.arm, effect), not_exempt program k site.block t.path a tells.block same e)

  touched_front : (found : List Touch) → Told program false (λ j. InFront program.subtypes k) found → (t : Touch) → IsIn t found → is_exempt site.block t.path ≡ false
      → GlobalTouched program k t.at t.path.object
  touched_front found told t i e = go (told.sound t i 0 tt (one_of t.access) (includes_one t.access))
    where
      go : (a : law.Access) × IsEffect program (InFront program.subtypes k) t.at a × (a.writes ≡ one_of t.access) × (path_of a ≡ effect_path t.path)
          → GlobalTouched program k t.at t.path.object
      go (a, effect, w, same) = (a, ap (λ (x : EffectPath). x.object) same, inl effect, not_exempt program k site.block t.path a tells.block same e)

  thread_breach : (found : List Touch) → Told program site.block (InThread program.subtypes k) found → (j at x : ℕ) (a : law.Access) → a.object ≡ x → IsThreadEffect program k j at a
      → (Exempt program k a → ⊥) → BreachIn site found at x
  thread_breach found told j at x a object effect refused = go (told.whole j at a effect)
    where
      go : (t : Touch) × IsIn t found × OfThread site.block j t.arm × (t.at ≤ at) × Includes t.access a.writes × (effect_path t.path ≡ path_of a) → BreachIn site found at x
      go (t, i, asked, before, w, same) = (t, i, before, ap (λ (p : EffectPath). p.object) same ∙ object, is_judged program k site.block t.path a tells.block same refused)

  front_breach : (found : List Touch) → Told program false (λ j. InFront program.subtypes k) found → (at x : ℕ) (a : law.Access) → a.object ≡ x → IsEffect program (InFront program.subtypes k) at a
      → (Exempt program k a → ⊥) → BreachIn site found at x
  front_breach found told at x a object effect refused = go (told.whole 0 at a effect)
    where
      go : (t : Touch) × IsIn t found × OfThread false 0 t.arm × (t.at ≤ at) × Includes t.access a.writes × (effect_path t.path ≡ path_of a) → BreachIn site found at x
      go (t, i, asked, before, w, same) = (t, i, before, ap (λ (p : EffectPath). p.object) same ∙ object, is_judged program k site.block t.path a tells.block same refused)

  -- two effects that clash by the tests
  touches_clash : (found : List Touch) → Told program site.block (InThread program.subtypes k) found → (t u : Touch) → IsIn t found → IsIn u found
      → writes t.access ≡ true → do_clash site.block t u ≡ true → Clashes program k t.at u.at
  touches_clash found told t u i j w e = go (told.sound t i (thread site.block t.arm) (of_thread site.block t.arm) true (includes_write t.access w))
      (told.sound u j (thread site.block u.arm) (of_thread site.block u.arm) (one_of u.access) (includes_one u.access))
    where
      go : (a : law.Access) × IsEffect program (InThread program.subtypes k (thread site.block t.arm)) t.at a × (a.writes ≡ true) × (path_of a ≡ effect_path t.path)
          → (b : law.Access) × IsEffect program (InThread program.subtypes k (thread site.block u.arm)) u.at b × (b.writes ≡ one_of u.access) × (path_of b ≡ effect_path u.path)
          → Clashes program k t.at u.at
      go (a, effect, written, path) (b, other_effect, w', other_path) = record {
        arm = thread site.block t.arm;
        other_arm = thread site.block u.arm;
        compared = compared program k site.block t.arm u.arm tells.block (first_part (are_compared site.block t.arm u.arm) (are_separated t.path u.path) e);
        access = a;
        other_access = b;
        effect = effect;
        other_effect = other_effect;
        writes = written;
        together = together t.path u.path a b path other_path (other_part (are_compared site.block t.arm u.arm) (are_separated t.path u.path) e);
      }

  clash_touches : (found : List Touch) → Told program site.block (InThread program.subtypes k) found → (at other : ℕ) → Clashes program k at other → ClashIn site found at other
  clash_touches found told at other c = go (told.whole c.arm at c.access c.effect) (told.whole c.other_arm other c.other_access c.other_effect)
    where
      go : (t : Touch) × IsIn t found × OfThread site.block c.arm t.arm × (t.at ≤ at) × Includes t.access c.access.writes × (effect_path t.path ≡ path_of c.access)
          → (u : Touch) × IsIn u found × OfThread site.block c.other_arm u.arm × (u.at ≤ other) × Includes u.access c.other_access.writes × (effect_path u.path ≡ path_of c.other_access)
          → ClashIn site found at other
      go (t, i, asked, before, w, path) (u, j, other_asked, other_before, v, other_path) = (
        t,
        u,
        i,
        j,
        before,
        other_before,
        is_write t.access c.access.writes c.writes w,
        both (are_compared site.block t.arm u.arm) (are_separated t.path u.path)
            (are_compared_so program k site.block t.arm u.arm c.arm c.other_arm tells.block asked other_asked c.compared)
            (not_separated t.path u.path c.access c.other_access path other_path c.together),
      )

-- ---- all constructs

module _ (program : Program) (effects : Effects) (known : AreEffects program effects)
    (threads : (k : Construct) (site : SiteEffects) → TellsSite program k site → Told program site.block (InThread program.subtypes k) (effects_in effects.subs site.threads))
    (front : (k : Construct) (site : SiteEffects) → TellsSite program k site → Told program false (λ j. InFront program.subtypes k) (effects_in effects.subs site.front)) where
  abbrev touched : Option Pair
  touched = touched_of effects.subs effects.sites None

  abbrev clash : Option Pair
  clash = clash_of effects.subs effects.sites None

  touched_given : (site : SiteEffects) → IsIn site effects.sites → (t : Touch) → IsFound effects.subs site t → is_exempt site.block t.path ≡ false → SomeTouched program t.at t.path.object
  touched_given site i t h e = go (known.sites site i) h
    where
      go : (k : Construct) × InProgram program (Holds k) × TellsSite program k site → IsFound effects.subs site t → SomeTouched program t.at t.path.object
      go (k, held, tells) (inl j) = (k, held, touched_thread program k site tells (effects_in effects.subs site.threads) (threads k site tells) t j e)
      go (k, held, tells) (inr j) = (k, held, touched_front program k site tells (effects_in effects.subs site.front) (front k site tells) t j e)

  breach_reached : (site : SiteEffects) → IsIn site effects.sites → (at x : ℕ) (t : Touch) → IsFound effects.subs site t → t.at ≤ at → t.path.object ≡ x → is_exempt site.block t.path ≡ false → AtMost touched at x
  breach_reached site i at x t j before same e = below touched t.at t.path.object at x (reached_touched_of effects.subs effects.sites None site i t j e) before (omega arith)

  touched_reached : (k : Construct) → InProgram program (Holds k) → (at x : ℕ) → GlobalTouched program k at x → AtMost touched at x
  touched_reached k held at x (a, object, effect, refused) = go (known.held k held) effect
    where
      threads_reach : (site : SiteEffects) → IsIn site effects.sites → BreachIn site (effects_in effects.subs site.threads) at x → AtMost touched at x
      threads_reach site i (t, j, before, same, e) = breach_reached site i at x t (inl j) before same e

      front_reach : (site : SiteEffects) → IsIn site effects.sites → BreachIn site (effects_in effects.subs site.front) at x → AtMost touched at x
      front_reach site i (t, j, before, same, e) = breach_reached site i at x t (inr j) before same e

      go : (site : SiteEffects) × IsIn site effects.sites × TellsSite program k site → IsEffect program (InFront program.subtypes k) at a ⊎ ((j : ℕ) × IsThreadEffect program k j at a) → AtMost touched at x
      go (site, i, tells) (inl h) = front_reach site i (front_breach program k site tells (effects_in effects.subs site.front) (front k site tells) at x a object h refused)
      go (site, i, tells) (inr h) = threads_reach site i (thread_breach program k site tells (effects_in effects.subs site.threads) (threads k site tells) h.0 at x a object h.1 refused)

  clash_given : (site : SiteEffects) → IsIn site effects.sites → (t u : Touch) → IsIn t (effects_in effects.subs site.threads) → IsIn u (effects_in effects.subs site.threads)
      → writes t.access ≡ true → do_clash site.block t u ≡ true → SomeClash program (in_order t.at u.at).first (in_order t.at u.at).second
  clash_given site i t u h j w e = go (known.sites site i)
    where
      go : (k : Construct) × InProgram program (Holds k) × TellsSite program k site → SomeClash program (in_order t.at u.at).first (in_order t.at u.at).second
      go (k, held, tells) = (k, held, clash_in_order program k t.at u.at (touches_clash program k site tells (effects_in effects.subs site.threads) (threads k site tells) t u h j w e))

  -- with the tokens of a clash in either order
  clash_either : (k : Construct) (site : SiteEffects) → IsIn site effects.sites → TellsSite program k site → (at other : ℕ) → at ≤ other → Clashes program k at other ⊎ Clashes program k other at → AtMost clash at other
  clash_either k site i tells at other order (inl c) = go (clash_touches program k site tells (effects_in effects.subs site.threads) (threads k site tells) at other c)
    where
      go : ClashIn site (effects_in effects.subs site.threads) at other → AtMost clash at other
      go (t, u, h, j, before, other_before, w, e) = below clash (in_order t.at u.at).first (in_order t.at u.at).second at other
          (reached_clash_of effects.subs effects.sites None site i t u h j w e) (in_order_below t.at u.at at other before other_before order).0 (in_order_below t.at u.at at other before other_before order).1
  clash_either k site i tells at other order (inr c) = go (clash_touches program k site tells (effects_in effects.subs site.threads) (threads k site tells) other at c)
    where
      go : ClashIn site (effects_in effects.subs site.threads) other at → AtMost clash at other
      go (t, u, h, j, before, other_before, w, e) = below clash (in_order t.at u.at).first (in_order t.at u.at).second at other
          (reached_clash_of effects.subs effects.sites None site i t u h j w e) (in_order_across t.at u.at at other before other_before order).0 (in_order_across t.at u.at at other before other_before order).1

  clash_reached_by : (k : Construct) → InProgram program (Holds k) → (at other : ℕ) → ClashPair program k at other → AtMost clash at other
  clash_reached_by k held at other (order, c) = go (known.held k held)
    where
      go : (site : SiteEffects) × IsIn site effects.sites × TellsSite program k site → AtMost clash at other
      go (site, i, tells) = clash_either k site i tells at other order c

  both_found : TouchedFound program touched × ClashFound program clash
  both_found = (
    touched_found program touched (stated_touched_of effects.subs effects.sites None (SomeTouched program) touched_given tt) touched_reached,
    clash_found program clash (stated_clash_of effects.subs effects.sites None (SomeClash program) clash_given tt) clash_reached_by,
  )

pub found_law : FoundLaw
found_law program effects backwards known = both_found program effects known (threads_told program effects backwards known) (front_told program effects backwards known)
