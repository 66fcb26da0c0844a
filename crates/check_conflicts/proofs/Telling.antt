-- What is found of a text with its calls is exactly its effects, each at the least token at which it has them.
use Rattle.std.proofs.Common.{◌≡◌, ◌<◌, ◌≤◌, ℕ, zero, suc, List, [], ◌∷◌, ◌++◌, length, map, slice_get, Option, Some, None, inl, inr, ◌⊎◌, ⊎_elim, Bool, false, cond, nat_lt, refl, sym, ap, subst, arith, le_trans}
use Rattle.std.proofs.lemmas.Bool.{cases_eq}
use Rattle.std.proofs.lemmas.Bool.Decides.{nat_tests}
use Rattle.typed_tree.specs.Syntax.{Sub, Program}
use Rattle.ada_meaning.specs.Meaning.{sub_at}
use Rattle.check_effects.specs.Backwards.{CallsBackwards}
use Rattle.check_effects.specs.Effects.{Access, Item, Touches, Calls, InFront, InSub, InCallee, Chain, IsEffect}
use Rattle.check_effects.specs.Conflicts.{path_of}
use Rattle.check_clashes.specs.declared.effects.Call.{Call}
use Rattle.check_clashes.specs.declared.effects.Effects.{Effects}
use Rattle.check_clashes.specs.declared.effects.Touch.{Touch}
use Rattle.check_clashes.specs.declared.effects.Uses.{Uses}
use Rattle.check_inference.specs.Exact.{IsIn, effect_path, Includes, Tells, OfThread, AreEffects}
use Rattle.check_clashes.specs.Called.{reached, moved, with_called, arm_bound, with_arms, effects_in}
use Rattle.check_conflicts.proofs.Reached.{get_within, AtMost, Justified, GoBackwards, LeadsOn, reached_told, reached_low, reached_closed}
use Rattle.check_conflicts.proofs.Told.{ToldLaw, ThreadsLaw, FrontLaw}

-- ---- lists

pub in_left : {X : Type 0} (x : X) (xs ys : List X) → IsIn x xs → IsIn x (xs ++ ys)
in_left x [] ys i = absurd i
in_left x (y ∷ xs) ys (inl e) = inl e
in_left x (y ∷ xs) ys (inr i) = inr (in_left x xs ys i)

pub in_right : {X : Type 0} (x : X) (xs ys : List X) → IsIn x ys → IsIn x (xs ++ ys)
in_right x [] ys i = i
in_right x (y ∷ xs) ys i = inr (in_right x xs ys i)

pub in_append : {X : Type 0} (x : X) (xs ys : List X) → IsIn x (xs ++ ys) → IsIn x xs ⊎ IsIn x ys
in_append x [] ys i = inr i
in_append x (y ∷ xs) ys (inl e) = inl (inl e)
in_append x (y ∷ xs) ys (inr i) = ⊎_elim (λ j. inl (inr j)) (λ j. inr j) (in_append x xs ys i)

in_map : {X Y : Type 0} (f : X → Y) (x : X) (xs : List X) → IsIn x xs → IsIn (f x) (map f xs)
in_map f x [] i = absurd i
in_map f x (y ∷ ys) (inl e) = inl (ap f e)
in_map f x (y ∷ ys) (inr i) = inr (in_map f x ys i)

of_map : {X Y : Type 0} (f : X → Y) (y : Y) (xs : List X) → IsIn y (map f xs) → (x : X) × IsIn x xs × (y ≡ f x)
of_map f y [] i = absurd i
of_map f y (x ∷ xs) (inl e) = (x, inl refl, e)
of_map f y (x ∷ xs) (inr i) = let h = of_map f y xs i in (h.0, inr h.1, h.2)

-- ---- what is touched by calls of an arm

record Called (arm : ℕ) (subs : List Uses) (tokens : List (Option ℕ)) (t : Touch) : Type 0 where
  sub : ℕ
  at : ℕ
  uses : Uses
  touch : Touch
  there : slice_get subs sub ≡ Some uses
  token : slice_get tokens sub ≡ Some (Some at)
  has : IsIn touch uses.touches
  is : t ≡ moved arm at touch

called_later : (arm : ℕ) (uses : Uses) (subs : List Uses) (o : Option ℕ) (tokens : List (Option ℕ)) (t : Touch) → Called arm subs tokens t → Called arm (uses ∷ subs) (o ∷ tokens) t
called_later arm uses subs o tokens t h = record { sub = suc h.sub; at = h.at; uses = h.uses; touch = h.touch; there = h.there; token = h.token; has = h.has; is = h.is }

called_first : (arm : ℕ) (uses : Uses) (subs : List Uses) (at : ℕ) (tokens : List (Option ℕ)) (t : Touch) → IsIn t (map (moved arm at) uses.touches) → Called arm (uses ∷ subs) (Some at ∷ tokens) t
called_first arm uses subs at tokens t i = let h = of_map (moved arm at) t uses.touches i in record { sub = zero; at = at; uses = uses; touch = h.0; there = refl; token = refl; has = h.1; is = h.2 }

called_told : (arm : ℕ) (subs : List Uses) (tokens : List (Option ℕ)) (found : List Touch) (t : Touch) → IsIn t (with_called arm subs tokens found) → IsIn t found ⊎ Called arm subs tokens t
unfolding with_called
called_told arm [] tokens found t i = inl i
called_told arm (uses ∷ subs) [] found t i = inl i
called_told arm (uses ∷ subs) (None ∷ tokens) found t i = ⊎_elim (λ h. inl h) (λ h. inr (called_later arm uses subs None tokens t h)) (called_told arm subs tokens found t i)
called_told arm (uses ∷ subs) (Some at ∷ tokens) found t i = ⊎_elim
    (λ h. ⊎_elim (λ g. inl g) (λ g. inr (called_first arm uses subs at tokens t g)) (in_append t found (map (moved arm at) uses.touches) h))
    (λ h. inr (called_later arm uses subs (Some at) tokens t h))
    (called_told arm subs tokens (found ++ map (moved arm at) uses.touches) t i)

called_kept : (arm : ℕ) (subs : List Uses) (tokens : List (Option ℕ)) (found : List Touch) (t : Touch) → IsIn t found → IsIn t (with_called arm subs tokens found)
unfolding with_called
called_kept arm [] tokens found t i = i
called_kept arm (uses ∷ subs) [] found t i = i
called_kept arm (uses ∷ subs) (None ∷ tokens) found t i = called_kept arm subs tokens found t i
called_kept arm (uses ∷ subs) (Some at ∷ tokens) found t i = called_kept arm subs tokens _ t (in_left t found (map (moved arm at) uses.touches) i)

called_whole : (arm : ℕ) (subs : List Uses) (tokens : List (Option ℕ)) (found : List Touch) (u : ℕ) (uses : Uses) (at : ℕ) (t : Touch) → slice_get subs u ≡ Some uses → slice_get tokens u ≡ Some (Some at) → IsIn t uses.touches
    → IsIn (moved arm at t) (with_called arm subs tokens found)
unfolding with_called
called_whole arm [] tokens found u uses at t e f i = cc
called_whole arm (v ∷ subs) [] found u uses at t e f i = cc
called_whole arm (v ∷ subs) (None ∷ tokens) found zero uses at t e f i = cc
called_whole arm (v ∷ subs) (None ∷ tokens) found (suc u) uses at t e f i = called_whole arm subs tokens found u uses at t e f i
called_whole arm (v ∷ subs) (Some r ∷ tokens) found zero uses at t e f i =
    let same : uses ≡ v = cc in
    let now : at ≡ r = cc in
    called_kept arm subs tokens _ (moved arm at t) (in_right (moved arm at t) found (map (moved arm r) v.touches)
    (subst (λ z. IsIn (moved arm at t) (map (moved arm z) v.touches)) now (in_map (moved arm at) t v.touches (subst (λ z. IsIn t z.touches) same i))))
called_whole arm (v ∷ subs) (Some r ∷ tokens) found (suc u) uses at t e f i = called_whole arm subs tokens _ u uses at t e f i

-- ---- what is touched by calls of all arms

bound_kept : (calls : List Call) (most : ℕ) → most ≤ arm_bound calls most
unfolding arm_bound
bound_kept [] most = omega arith
bound_kept (c ∷ cs) most = le_trans (grind (arith, nat_tests)) (bound_kept cs (cond (nat_lt c.arm most) most (suc c.arm)))

below_bound : (calls : List Call) (most : ℕ) (c : Call) → IsIn c calls → c.arm < arm_bound calls most
unfolding arm_bound
below_bound [] most c i = absurd i
below_bound (d ∷ ds) most c (inl e) = le_trans (let f = ap (λ z. z.arm) e in grind (arith, nat_tests)) (bound_kept ds (cond (nat_lt d.arm most) most (suc d.arm)))
below_bound (d ∷ ds) most c (inr i) = below_bound ds _ c i

module _ (subs : List Uses) (calls : List Call) where
  arms_told : (n : ℕ) (found : List Touch) (t : Touch) → IsIn t (with_arms subs calls n found) → IsIn t found ⊎ ((arm : ℕ) × Called arm subs (reached subs arm calls) t)
  unfolding with_arms
  arms_told zero found t i = inl i
  arms_told (suc arm) found t i = ⊎_elim
      (λ h. ⊎_elim (λ g. inl g) (λ g. inr (arm, g)) (called_told arm subs (reached subs arm calls) found t h))
      (λ h. inr h)
      (arms_told arm (with_called arm subs (reached subs arm calls) found) t i)

  arms_kept : (n : ℕ) (found : List Touch) (t : Touch) → IsIn t found → IsIn t (with_arms subs calls n found)
  unfolding with_arms
  arms_kept zero found t i = i
  arms_kept (suc arm) found t i = arms_kept arm _ t (called_kept arm subs (reached subs arm calls) found t i)

  arms_whole : (n : ℕ) (found : List Touch) (arm : ℕ) (t : Touch) → arm < n → ((found : List Touch) → IsIn t (with_called arm subs (reached subs arm calls) found)) → IsIn t (with_arms subs calls n found)
  unfolding with_arms
  arms_whole zero found arm t h f = absurd (omega arith)
  arms_whole (suc n) found arm t h f = ⊎_elim
      (λ e. arms_kept n _ t (subst (λ z. IsIn t (with_called z subs (reached subs z calls) found)) e (f found)))
      (λ d. arms_whole n _ arm t (omega arith) f)
      (cases_eq arm n)

-- ---- chains of calls

module _ (program : Program) where
  sub_within : (subs : List Sub) (s : ℕ) (i : Item) → InCallee program (sub_at subs s) i → s < length subs
  sub_within [] s i h = absurd h
  sub_within (sub ∷ subs) zero i h = omega arith
  sub_within (sub ∷ subs) (suc s) i h = let g = sub_within subs s i h in omega arith

  chain_on : (n s t at callee u : ℕ) → Chain program n s t → InSub program t (Calls at callee u) → Chain program (suc n) s u
  chain_on zero s t at callee u c h = (u, at, callee, subst (λ z. InSub program z (Calls at callee u)) (sym c) h, refl)
  chain_on (suc n) s t at callee u c h = (c.0, c.1, c.2, c.3, chain_on n c.0 t at callee u c.4 h)

  chain_within : (n s t : ℕ) (i : Item) → Chain program n s t → InSub program t i → s < length program.subs
  chain_within zero s t i c h = sub_within program.subs s i (subst (λ z. InSub program z i) (sym c) h)
  chain_within (suc n) s t i c h = sub_within program.subs s (Calls c.1 c.2 c.0) c.3

  module _ (effects : Effects) (are : AreEffects program effects) where
    within : (s : ℕ) (i : Item) → InSub program s i → (uses : Uses) × (slice_get effects.subs s ≡ Some uses)
    within s i h = get_within effects.subs s (let g = sub_within program.subs s i h in let e = are.count in omega arith)

    go_backwards : CallsBackwards program → GoBackwards effects.subs
    go_backwards back s uses e c i = let x = (are.subs s uses e).calls c i tt in back s c.at x.0 c.sub x.1

    -- a call of the arm at that token leads there
    abbrev Led : List Call → ℕ → ℕ → ℕ → Type 0
    Led calls arm u t = (c : Call) × IsIn c calls × (c.arm ≡ arm) × (c.at ≡ t) × (n : ℕ) × Chain program n c.sub u

    leads_on : (calls : List Call) (arm : ℕ) → LeadsOn effects.subs (Led calls arm)
    leads_on calls arm s uses e c i t h = let x = (are.subs s uses e).calls c i tt in (h.0, h.1, h.2, h.3, suc h.4, chain_on h.4 h.0.sub s c.at x.0 c.sub h.5 x.1)

    all_led : (calls : List Call) (arm : ℕ) → Justified (Led calls arm) (reached effects.subs arm calls)
    all_led calls arm = reached_told effects.subs (Led calls arm) arm calls (λ c i e. (c, i, e, refl, zero, refl)) (leads_on calls arm)

    reached_by : CallsBackwards program → (arm : ℕ) (calls : List Call) (n s u : ℕ) (i : Item) (t : ℕ) → Chain program n s u → InSub program u i → AtMost (reached effects.subs arm calls) s t → AtMost (reached effects.subs arm calls) u t
    reached_by back arm calls zero s u i t c h a = subst (λ z. AtMost (reached effects.subs arm calls) z t) c a
    reached_by back arm calls (suc n) s u i t (v, at, callee, g, c) h a =
        let w = within s (Calls at callee v) g in
        let x = (are.subs s w.0 w.1).called at callee v g in
        let l : x.0.sub < length effects.subs = (let k = chain_within n v u i c h in let e = are.count in let d = x.4 in omega arith) in
        reached_by back arm calls n v u i t c h (subst (λ z. AtMost (reached effects.subs arm calls) z t) x.4 (reached_closed effects.subs (go_backwards back) arm calls s w.0 w.1 t a x.0 x.1 l))

    -- ---- effects

    module _ (block : Bool) (items : ℕ → Item → Type 0) (uses : Uses) (tells : (j : ℕ) → Tells (items j) (OfThread block j) uses) where
      abbrev IsSound : Touch → Type 0
      IsSound t = (j : ℕ) → OfThread block j t.arm → (writes : Bool) → Includes t.access writes → (a : Access) × IsEffect program (items j) t.at a × (a.writes ≡ writes) × (path_of a ≡ effect_path t.path)

      own_sound : (t : Touch) → IsIn t uses.touches → IsSound t
      own_sound t i j o w h = let x = (tells j).touches t i o w h in (x.0, inl x.1, x.2, x.3)

      moved_sound : (arm at u : ℕ) (called : Uses) (t : Touch) → slice_get effects.subs u ≡ Some called → slice_get (reached effects.subs arm uses.calls) u ≡ Some (Some at) → IsIn t called.touches → IsSound (moved arm at t)
      moved_sound arm at u called t e f i j o w h =
          let l = all_led uses.calls arm u at f in
          let c = (tells j).calls l.0 l.1 (subst (λ z. OfThread block j z) (sym l.2) o) in
          let x = (are.subs u called e).touches t i tt w h in
          (x.0, inr (c.0, l.0.sub, subst (λ z. items j (Calls z c.0 l.0.sub)) l.3 c.1, t.at, (u, l.4, l.5, x.1.0), x.1.1), x.2, x.3)

      called_sound : (arm : ℕ) (t : Touch) → Called arm effects.subs (reached effects.subs arm uses.calls) t → IsSound t
      called_sound arm t h = subst (λ z. IsSound z) (sym h.is) (moved_sound arm h.at h.sub h.uses h.touch h.there h.token h.has)

      all_sound : (t : Touch) → IsIn t (effects_in effects.subs uses) → IsSound t
      all_sound t i = ⊎_elim (λ h. own_sound t h) (λ h. called_sound h.0 t h.1) (arms_told effects.subs uses.calls (arm_bound uses.calls 0) uses.touches t i)

      abbrev IsFound : ℕ → ℕ → Access → Type 0
      IsFound j at a = (t : Touch) × IsIn t (effects_in effects.subs uses) × OfThread block j t.arm × (t.at ≤ at) × Includes t.access a.writes × (effect_path t.path ≡ path_of a)

      all_whole : CallsBackwards program → (j at : ℕ) (a : Access) → IsEffect program (items j) at a → IsFound j at a
      all_whole back j at a (inl h) =
          let x = (tells j).touched at a h in
          (x.0, arms_kept effects.subs uses.calls (arm_bound uses.calls 0) uses.touches x.0 x.1, x.2, (let e = x.3 in omega arith), x.4, x.5)
      all_whole back j at a (inr (callee, s, h, there, (u, n, chain, text), global)) =
          let c = (tells j).called at callee s h in
          let w = within u (Touches there a) text in
          let x = (are.subs u w.0 w.1).touched there a (text, global) in
          let from : Chain program n c.0.sub u = subst (λ z. Chain program n z u) (sym c.4) chain in
          let l : c.0.sub < length effects.subs = (let k = chain_within n c.0.sub u (Touches there a) from text in let e = are.count in omega arith) in
          let r = reached_by back c.0.arm uses.calls n c.0.sub u (Touches there a) c.0.at from text (reached_low effects.subs c.0.arm uses.calls c.0 c.1 refl l) in (
            moved c.0.arm r.token x.0,
            arms_whole effects.subs uses.calls (arm_bound uses.calls 0) uses.touches c.0.arm (moved c.0.arm r.token x.0) (below_bound uses.calls 0 c.0 c.1)
                (λ found. called_whole c.0.arm effects.subs (reached effects.subs c.0.arm uses.calls) found u w.0 r.token x.0 w.1 r.is x.1),
            c.2,
            (let e = c.3 in let f = r.low in omega arith),
            x.4,
            x.5,
          )

  pub told : ToldLaw program
  told effects back are block items uses tells = record { sound = all_sound effects are block items uses tells; whole = all_whole effects are block items uses tells back }

  pub threads_told : ThreadsLaw program
  threads_told effects back are k site tells = told effects back are site.block _ site.threads tells.threads

  pub front_told : FrontLaw program
  front_told effects back are k site tells = told effects back are false (λ j. InFront program.subtypes k) site.front (λ j. tells.front)
