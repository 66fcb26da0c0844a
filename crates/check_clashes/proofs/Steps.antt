-- One step of a loop.
use Rattle.std.proofs.Common.{◌≡◌, ℕ, zero, suc, ◌+◌, ◌-◌, ◌<◌, ◌≤◌, List, [], ◌∷◌, ◌++◌, length, drop, get_or, slice_get, Option, Bool, cond, refl, sym, ap, ◌∙◌, arith, add-one}
use Rattle.std.proofs.Math.Seq.{drop-cons}
use Rattle.check_clashes.specs.declared.effects.Call.{Call}
use Rattle.check_clashes.specs.declared.effects.Touch.{Touch}
use Rattle.check_clashes.specs.declared.effects.Uses.{Uses}
use Rattle.check_clashes.specs.declared.effects.Effect.{Effect}
use Rattle.check_clashes.specs.declared.breaches.Pair.{Pair}
use Rattle.check_clashes.specs.declared.granted.Grant.{Grant}
use Rattle.check_clashes.specs.Breaches.{least, is_exempt, least_touched, writes, do_clash, in_order, least_with, least_clash}
use Rattle.check_clashes.specs.Called.{spread_of, spread_all, reached, with_called, with_arms}
use Rattle.check_clashes.specs.Granted.{grant_of, written}
use Rattle.check_clashes.specs.Touching.{touch_of, touches_of}

-- an effect at the end of those that were found is the next of those to come
pub pushed : (found : List Effect) (e : Effect) (more : List Touch) → touches_of (found ++ e ∷ []) ++ more ≡ touches_of found ++ (touch_of e ∷ more)
pushed [] e more = refl
pushed (f ∷ found) e more = ap (λ ts. touch_of f ∷ ts) (pushed found e more)

pub spread_before : (subs : List Uses) (n : ℕ) (tokens : List (Option ℕ)) → 0 < n → spread_all subs n tokens ≡ spread_all subs (n - 1) (spread_of (slice_get subs (n - 1)) (slice_get tokens (n - 1)) tokens)
unfolding spread_all
spread_before subs zero tokens h = absurd (omega arith)
spread_before subs (suc n) tokens h = let e : suc n - 1 ≡ n = omega arith in rw e refl

pub arms_before : (subs : List Uses) (calls : List Call) (n : ℕ) (found : List Touch) → 0 < n → with_arms subs calls n found ≡ with_arms subs calls (n - 1) (with_called (n - 1) subs (reached subs (n - 1) calls) found)
unfolding with_arms
arms_before subs calls zero found h = absurd (omega arith)
arms_before subs calls (suc n) found h = let e : suc n - 1 ≡ n = omega arith in rw e refl

-- effects from an index on

next_effect : (es : List Effect) (i : ℕ) (e : Effect) → i < length es → e ≡ get_or es i e → touches_of (drop i es) ≡ touch_of e ∷ touches_of (drop (i + 1) es)
next_effect es i e h k = rw add-one (ap touches_of (drop-cons es i e h) ∙ ap (λ x. touch_of x ∷ touches_of (drop (suc i) es)) (sym k))

no_effect : (es : List Effect) (i : ℕ) → length es ≤ i → touches_of (drop i es) ≡ []
no_effect [] zero h = refl
no_effect [] (suc i) h = refl
no_effect (e ∷ es) zero h = absurd (omega arith)
no_effect (e ∷ es) (suc i) h = no_effect es i (omega arith)

pub touched_next : (block : Bool) (es : List Effect) (i : ℕ) (e : Effect) (all : Option Pair) → i < length es → e ≡ get_or es i e → least_touched block (touches_of (drop (i + 1) es)) (cond (is_exempt block e.path.now) all (least (record { first = e.at; second = e.path.now.object }) all)) ≡ least_touched block (touches_of (drop i es)) all
unfolding least_touched
touched_next block es i e all h k = rw (next_effect es i e h k) refl

pub touched_end : (block : Bool) (es : List Effect) (i : ℕ) (all : Option Pair) → length es ≤ i → least_touched block (touches_of (drop i es)) all ≡ all
unfolding least_touched
touched_end block es i all h = rw (no_effect es i h) refl

pub with_next : (block : Bool) (t : Touch) (es : List Effect) (i : ℕ) (e : Effect) (all : Option Pair) → i < length es → e ≡ get_or es i e → least_with block t (touches_of (drop (i + 1) es)) (cond (do_clash block t (touch_of e)) (least (in_order t.at e.at) all) all) ≡ least_with block t (touches_of (drop i es)) all
unfolding least_with
with_next block t es i e all h k = rw (next_effect es i e h k) refl

pub with_end : (block : Bool) (t : Touch) (es : List Effect) (i : ℕ) (all : Option Pair) → length es ≤ i → least_with block t (touches_of (drop i es)) all ≡ all
unfolding least_with
with_end block t es i all h = rw (no_effect es i h) refl

pub clash_next : (block : Bool) (ts : List Touch) (es : List Effect) (i : ℕ) (e : Effect) (all : Option Pair) → i < length es → e ≡ get_or es i e → least_clash block ts (touches_of (drop (i + 1) es)) (cond (writes e.access) (least_with block (touch_of e) ts all) all) ≡ least_clash block ts (touches_of (drop i es)) all
unfolding least_clash
clash_next block ts es i e all h k = rw (next_effect es i e h k) refl

pub clash_end : (block : Bool) (ts : List Touch) (es : List Effect) (i : ℕ) (all : Option Pair) → length es ≤ i → least_clash block ts (touches_of (drop i es)) all ≡ all
unfolding least_clash
clash_end block ts es i all h = rw (no_effect es i h) refl

pub written_next : (site : ℕ) (es : List Effect) (i : ℕ) (e : Effect) (all : List Grant) → i < length es → e ≡ get_or es i e → written site (touches_of (drop (i + 1) es)) (cond (writes e.access) (all ++ grant_of site (touch_of e) ∷ []) all) ≡ written site (touches_of (drop i es)) all
unfolding written
written_next site es i e all h k = rw (next_effect es i e h k) refl

pub written_end : (site : ℕ) (es : List Effect) (i : ℕ) (all : List Grant) → length es ≤ i → written site (touches_of (drop i es)) all ≡ all
unfolding written
written_end site es i all h = rw (no_effect es i h) refl
