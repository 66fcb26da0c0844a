-- The threads of a construct against the planned run, which takes them in order.
use Rattle.std.proofs.Common.{◌≡◌, ℕ, max, List, [], ◌∷◌, ◌++◌, ◌⊎◌, inl, inr, ⊎_elim, Bool, true, false, ◌||◌, refl, sym, subst, ap, ap₂, ◌∙◌, true≢false, arith, append-nil}
use Rattle.behaviours.specs.Paths.{Leave, Instance, End, Gives, Leaves, Spent, Stopped, Path, Scope, joined, is_inside}
use Rattle.behaviours.specs.Events.{Reads, Writes, Recalls, Keeps, Takes, Puts, Looks, Trace, output_of, Has, Merge, Shuffle, Apart, ApartFrom, AllApart, in_order, IsInputOutput}
use Rattle.behaviours.specs.Memory.{Memory, after, Fits, EachFits}
use Rattle.behaviours.specs.Joins.{Site, Ran, traces, EachRan, most_turns, AllGive, SomeEnds, NoneLeft, Joins, Form, JoinsInOrder, FirstEnds, Idle, some_early, Share}
use Rattle.behaviours.specs.Behaviours.{Behaviour, Unbegun, is_left, MayTrace, EachSafe, ThreadApart, ThreadsApart, asks_at_once}
use Rattle.behaviours.specs.Behaviours
use Rattle.behaviours.specs.Joins
use Rattle.ada_meaning.specs.Planned
use Rattle.ada_meaning.specs.Planned.{Result, Planned, follow, both, before, threads, closed, with_turns}
use Rattle.behaviours.proofs.Shuffle.{fits_split, shuffle_law, shuffle_in_order, fits_frame, after_other, merge_has, alike_flip}
use Rattle.ada_meaning.proofs.Quiet.{Quiet}
use Rattle.ada_meaning.proofs.Agrees.{Does, AgreesAt, Agrees, Same, Settled, settled_right, gives-ne-leaves, gives-ne-stopped, leaves-ne-spent, leaves-ne-stopped, spent-ne-stopped, or_left, or_right, does_append}

-- what a thread may do in one scope
record Body (A : Type 0) : Type 1 where
  pub runs : Joins.Runs Instance A
  pub safe : Path Instance → Type 0

abbrev Step : Type 0 → Type 0
Step A = Path Instance → Memory → Result A

abbrev AgreesBody : {A : Type 0} → Bool → Body A → Step A → Type 0
AgreesBody one b g = (p : Path Instance) (m : Memory) → b.safe p → AgreesAt one (λ tr y p' e. b.runs p tr y p' e) m (g p m)

abbrev QuietBody : {A : Type 0} → Body A → Type 0
QuietBody {A} b = (p : Path Instance) (tr : Trace Instance) (y : Bool) (p' : Path Instance) (e : End A) → b.runs p tr y p' e → Has IsInputOutput tr → ⊥

abbrev Each : {A : Type 0} → (Share → Body A) → Path Instance → List Share → List (Ran Instance A) → Type 0
Each body p js rs = EachRan (λ j. (body j).runs) p js rs

-- no run of the thread has a race with a run of one of these
abbrev Clear : {A : Type 0} → (Share → Body A) → Path Instance → Share → List Share → Type 0
Clear {A} body p j [] = Unit {0}
Clear {A} body p j (k ∷ ks) =
    ((t u : Trace Instance) (yt yu : Bool) (pt pu : Path Instance) (et eu : End A) → (body j).runs p t yt pt et → (body k).runs p u yu pu eu → Apart t u)
    × Clear body p j ks

abbrev SafeThreads : {A : Type 0} → (Share → Body A) → Path Instance → List Share → Type 0
SafeThreads body p [] = Unit {0}
SafeThreads body p (j ∷ js) = (body j).safe p × Clear body p j js × SafeThreads body p js

abbrev SafeInOrder : {A : Type 0} → (Share → Body A) → Path Instance → List Share → Type 0
SafeInOrder body p [] = Unit {0}
SafeInOrder body p (j ∷ js) = (body j).safe p × SafeInOrder body p js

abbrev Safe : {A : Type 0} → Bool → (Share → Body A) → Path Instance → List Share → Type 0
Safe true body p js = SafeInOrder body p js
Safe false body p js = SafeThreads body p js

-- how threads end

-- the end of a construct whose threads weren't left
abbrev ending : {A : Type 0} → List (Ran Instance A) → End (List A)
ending [] = Gives []
ending (r ∷ rs) = before r.end (ending rs)

joined_before : {A : Type 0} (r : Ran Instance A) (rs : List (Ran Instance A)) (e : End A) (f : End (List A)) → r.end ≡ e → NoneLeft (r ∷ rs) → Joins rs f → Joins (r ∷ rs) (before e f)
joined_before r rs (Gives a) (Gives more) eq n j = (a, more, refl, eq, j)
joined_before r rs (Gives a) (Leaves x) eq n j = inr j
joined_before r rs (Gives a) Spent eq n j = (n, inr j.1)
joined_before r rs (Gives a) Stopped eq n j = tt
joined_before r rs (Leaves x) f eq n j = inl eq
joined_before r rs Spent (Gives more) eq n j = (n, inl eq)
joined_before r rs Spent (Leaves x) eq n j = inr j
joined_before r rs Spent Spent eq n j = (n, inl eq)
joined_before r rs Spent Stopped eq n j = tt
joined_before r rs Stopped f eq n j = tt

joined_ending : {A : Type 0} (rs : List (Ran Instance A)) → NoneLeft rs → Joins rs (ending rs)
joined_ending [] n = refl
joined_ending (r ∷ rs) n = joined_before r rs r.end (ending rs) refl n (joined_ending rs n.2)

all_give : {A : Type 0} (rs : List (Ran Instance A)) (values : List A) → AllGive rs values → Gives values ≡ ending rs
all_give [] values g = ap Gives g
all_give (r ∷ rs) values (a, more, e, f, g) = ap Gives e ∙ ap₂ before (sym f) (all_give rs more g)

none_left : {A : Type 0} (rs : List (Ran Instance A)) (values : List A) → AllGive rs values → NoneLeft rs
none_left [] values g = tt
none_left (r ∷ rs) values (a, more, e, f, g) = (λ x h. gives-ne-leaves (sym f ∙ h), λ h. gives-ne-stopped (sym f ∙ h), none_left rs more g)

none_leaves : {A : Type 0} (rs : List (Ran Instance A)) (x : Leave) → NoneLeft rs → SomeEnds rs (Leaves x) → ⊥
none_leaves [] x n s = s
none_leaves (r ∷ rs) x n (inl e) = n.0 x e
none_leaves (r ∷ rs) x n (inr s) = none_leaves rs x n.2 s

finished : {A : Type 0} (e : End A) → ((x : Leave) → e ≡ Leaves x → ⊥) → (e ≡ Stopped → ⊥) → ((a : A) × (e ≡ Gives a)) ⊎ (e ≡ Spent)
finished (Gives a) l s = inl (a, refl)
finished (Leaves x) l s = absurd (l x refl)
finished Spent l s = inr refl
finished Stopped l s = absurd (s refl)

ending_finished : {A : Type 0} (rs : List (Ran Instance A)) → NoneLeft rs → ((values : List A) × (Gives values ≡ ending rs)) ⊎ (Spent ≡ ending rs)
ending_finished [] n = inl ([], refl)
ending_finished {A} (r ∷ rs) n = go (finished r.end n.0 n.1) (ending_finished rs n.2)
  where
    go : ((a : A) × (r.end ≡ Gives a)) ⊎ (r.end ≡ Spent) → ((values : List A) × (Gives values ≡ ending rs)) ⊎ (Spent ≡ ending rs) → ((values : List A) × (Gives values ≡ before r.end (ending rs))) ⊎ (Spent ≡ before r.end (ending rs))
    go (inl (a, e)) (inl (values, f)) = inl (a ∷ values, ap₂ before (sym e) f)
    go (inl (a, e)) (inr f) = inr (ap₂ before (sym e) f)
    go (inr e) (inl (values, f)) = inr (ap₂ before (sym e) f)
    go (inr e) (inr f) = inr (ap₂ before (sym e) f)

some_spent : {A : Type 0} (rs : List (Ran Instance A)) → NoneLeft rs → SomeEnds rs Spent → Spent ≡ ending rs
some_spent [] n s = absurd s
some_spent (r ∷ rs) n (inl e) = ⊎_elim (λ f. ap₂ before (sym e) f.1) (λ f. ap₂ before (sym e) f) (ending_finished rs n.2)
some_spent (r ∷ rs) n (inr s) = ⊎_elim (λ f. ap₂ before (sym f.1) (some_spent rs n.2 s)) (λ f. ap₂ before (sym f) (some_spent rs n.2 s)) (finished r.end n.0 n.1)

ending_only : {A : Type 0} (rs : List (Ran Instance A)) (e : End (List A)) → NoneLeft rs → Joins rs e → (e ≡ Stopped → ⊥) → e ≡ ending rs
ending_only rs (Gives values) n j ne = all_give rs values j
ending_only rs (Leaves x) n j ne = absurd (none_leaves rs x n j)
ending_only rs Spent n j ne = some_spent rs n j.1
ending_only rs Stopped n j ne = absurd (ne refl)

-- what safe threads do

no_outs : (w : Trace Instance) → (Has IsInputOutput w → ⊥) → output_of w ≡ []
no_outs [] n = refl
no_outs (Reads x i v ∷ w) n = no_outs w (λ h. n (inr h))
no_outs (Writes x i v ∷ w) n = no_outs w (λ h. n (inr h))
no_outs (Recalls h ∷ w) n = no_outs w (λ h. n (inr h))
no_outs (Keeps h ∷ w) n = no_outs w (λ h. n (inr h))
no_outs (Takes k b ∷ w) n = no_outs w (λ h. n (inr h))
no_outs (Looks ∷ w) n = no_outs w (λ h. n (inr h))
no_outs (Puts piece ∷ w) n = absurd (n (inl tt))

module _ {A : Type 0} (body : Share → Body A) (p : Path Instance) where
  apart_from : (j : Share) (js : List Share) (rs : List (Ran Instance A)) (t : Trace Instance) (y : Bool) (q : Path Instance) (e : End A) → Clear body p j js → (body j).runs p t y q e → Each body p js rs → ApartFrom t (traces rs)
  apart_from j [] rs t y q e c ran each = subst (λ z. ApartFrom t (traces z)) (sym each) tt
  apart_from j (k ∷ ks) rs t y q e c ran (r, more, eq, ran', each) = subst (λ z. ApartFrom t (traces z)) (sym eq) (c.0 t r.trace y r.early q r.path e r.end ran ran', apart_from j ks more t y q e c.1 ran each)

  all_apart : (js : List Share) (rs : List (Ran Instance A)) → SafeThreads body p js → Each body p js rs → AllApart (traces rs)
  all_apart [] rs s each = subst (λ z. AllApart (traces z)) (sym each) tt
  all_apart (j ∷ js) rs s (r, more, eq, ran, each) = subst (λ z. AllApart (traces z)) (sym eq) (apart_from j js more r.trace r.early r.path r.end s.1 ran each, all_apart js more s.2 each)

  quiet : ((j : Share) → QuietBody (body j)) → (js : List Share) (rs : List (Ran Instance A)) (w : Trace Instance) → Each body p js rs → Shuffle (traces rs) w → Has IsInputOutput w → ⊥
  quiet q [] rs w each sh h =
      let e : w ≡ [] = subst (λ z. Shuffle (traces z) w) each sh in
      subst (λ z. Has IsInputOutput z) e h
  quiet q (j ∷ js) rs w (r, more, eq, ran, each) sh h =
      let sh' : (u : Trace Instance) × Shuffle (traces more) u × Merge r.trace u w = subst (λ z. Shuffle (traces z) w) eq sh in
      ⊎_elim (λ k. q j p r.trace r.early r.path r.end ran k) (λ k. quiet q js more sh'.0 each sh'.1 k) (merge_has IsInputOutput w r.trace sh'.0 sh'.2 h)

  -- what a thread wrote is nothing to the later ones
  each_frame : (js : List Share) (rs : List (Ran Instance A)) (m : Memory) (t : Trace Instance) → ApartFrom t (traces rs) → EachFits m (traces rs) → EachFits (after m t) (traces rs)
  each_frame js [] m t a f = tt
  each_frame js (r ∷ rs) m t a f = (fits_frame r.trace m (after m t) (λ y h. alike_flip (after m t) m y (after_other t m y (λ w. a.0.forth y w h))) f.0, each_frame js rs m t a.1 f.1)

  -- The threads in order

  safe_each : (js : List Share) → SafeThreads body p js → SafeInOrder body p js
  safe_each [] s = tt
  safe_each (j ∷ js) s = (s.0, safe_each js s.2)

-- what follows a thread

before_done : {A : Type 0} (e : End A) (x : Leave) → ((y : Leave) → e ≡ Leaves y → ⊥) → (e ≡ Stopped → ⊥) → before e (Leaves x) ≡ Leaves x
before_done (Gives a) x l s = refl
before_done (Leaves y) x l s = absurd (l y refl)
before_done Spent x l s = refl
before_done Stopped x l s = absurd (s refl)

or_true : (a b : Bool) → true ≡ b → true ≡ (a || b)
or_true true b e = refl
or_true false b e = e

follow_early : {A : Type 0} (p : Path Instance) (r : Result A) (e : End A) (k : Memory → Result (List A)) → (follow p r e k).early ≡ false → r.early ≡ false
follow_early p r (Gives a) k c = or_left r.early (k r.memory).early c
follow_early p r (Leaves x) k c = absurd (true≢false c)
follow_early p r Spent k c = or_left r.early (k r.memory).early c
follow_early p r Stopped k c = absurd (true≢false c)

follow_done : {A : Type 0} (p : Path Instance) (r : Result A) (e : End A) (k : Memory → Result (List A)) → ((x : Leave) → e ≡ Leaves x → ⊥) → (e ≡ Stopped → ⊥) → both r (k r.memory) ≡ follow p r e k
follow_done p r (Gives a) k l s = refl
follow_done p r (Leaves x) k l s = absurd (l x refl)
follow_done p r Spent k l s = refl
follow_done p r Stopped k l s = absurd (s refl)

follow_calm : {A : Type 0} (p : Path Instance) (r : Result A) (e : End A) (k : Memory → Result (List A)) → (follow p r e k).early ≡ false → ((x : Leave) → e ≡ Leaves x → ⊥) × (e ≡ Stopped → ⊥)
follow_calm p r (Gives a) k c = (λ x h. gives-ne-leaves h, gives-ne-stopped)
follow_calm p r (Leaves x) k c = absurd (true≢false c)
follow_calm p r Spent k c = (λ x h. leaves-ne-spent (sym h), spent-ne-stopped)
follow_calm p r Stopped k c = absurd (true≢false c)

abbrev stays : {A : Type 0} → Path Instance → Result A → Leave → Result (List A)
stays p r x = record { path = with_turns r.path (max r.path.turns p.turns); memory = r.memory; output = r.output; early = true; noted = r.noted; end = Leaves x }

idle_turns : {A : Type 0} (p : Path Instance) (rs : List (Ran Instance A)) → Idle p rs → most_turns p.turns rs ≡ p.turns
idle_turns p [] i = refl
idle_turns p (r ∷ rs) i = ap₂ max i.0.2 (idle_turns p rs i.1) ∙ twice p.turns
  where
    twice : (n : ℕ) → max n n ≡ n
    twice n = omega arith

idle_trace : {A : Type 0} (p : Path Instance) (rs : List (Ran Instance A)) → Idle p rs → in_order (traces rs) ≡ []
idle_trace p [] i = refl
idle_trace p (r ∷ rs) i = ap₂ (λ z w. z ++ w) i.0.0 (idle_trace p rs i.1)

does_both : {A : Type 0} (m : Memory) (t u : Trace Instance) (r : Result A) (s : Result (List A)) → Does m t r → Does r.memory u s → Does m (t ++ u) (both r s)
does_both m t u r s d e = let f = does_append m t u r s d e in record { fits = f.fits; memory = f.memory; out = f.out }

module _ {A : Type 0} (one : Bool) (body : Share → Body A) (plan : Share → Step A) (agree : (j : Share) → AgreesBody one (body j) (plan j)) (p : Path Instance) where
  -- runs of the threads that are the plan's
  record SameThreads (js : List Share) (m : Memory) (s : Result (List A)) : Type 0 where
    pub rans : List (Ran Instance A)
    pub ran : Each body p js rans
    pub does : Does m (in_order (traces rans)) s
    pub turns : s.path.turns ≡ most_turns p.turns rans
    pub none_left : NoneLeft rans
    pub early : some_early rans ≡ s.early
    pub end : s.end ≡ ending rans

  both_same : (j : Share) (js : List Share) (m : Memory) (r : Result A) (s : Result (List A)) → ((x : Leave) → r.end ≡ Leaves x → ⊥) × (r.end ≡ Stopped → ⊥)
      → Same (λ tr y p' e. (body j).runs p tr y p' e) m r → SameThreads js r.memory s → SameThreads (j ∷ js) m (both r s)
  both_same j js m r s done t u = record {
    rans = record { trace = t.trace; early = r.early; path = r.path; end = r.end } ∷ u.rans;
    ran = (record { trace = t.trace; early = r.early; path = r.path; end = r.end }, u.rans, refl, t.runs, u.ran);
    does = does_both m t.trace (in_order (traces u.rans)) r s t.does u.does;
    turns = ap (max r.path.turns) u.turns;
    none_left = (done.0, done.1, u.none_left);
    early = ap (λ z. r.early || z) u.early;
    end = ap (before r.end) u.end;
  }

  same_threads : (js : List Share) (m : Memory) → SafeInOrder body p js → (threads plan p js m).early ≡ false → SameThreads js m (threads plan p js m)
  same_threads [] m safe calm = record { rans = []; ran = refl; does = record { fits = tt; memory = refl; out = refl }; turns = refl; none_left = tt; early = refl; end = refl }
  same_threads (j ∷ js) m safe calm =
      let r = plan j p m in
      let k = λ (m' : Memory). threads plan p js m' in
      let done = follow_calm p r r.end k calm in
      let eq = follow_done p r r.end k done.0 done.1 in
      let calm' = subst (λ (z : Result (List A)). z.early ≡ false) (sym eq) calm in
      subst (λ z. SameThreads (j ∷ js) m z) eq
      (both_same j js m r (k r.memory) done ((agree j p m safe.0).some (or_left r.early (k r.memory).early calm')) (same_threads js r.memory safe.1 (or_right r.early (k r.memory).early calm')))

  -- threads in order, none of them left
  abbrev Chained : List Share → Memory → Result (List A) → List (Ran Instance A) → Type 0
  Chained js m s rs = (most_turns p.turns rs ≡ s.path.turns) × (ending rs ≡ s.end) × (some_early rs ≡ s.early) × Does m (in_order (traces rs)) s

  settled_thread : (r : Result A) (k : Memory → Result (List A)) (y z : Bool) → Settled one (follow p r r.end k).early (y || z) → Settled one r.early y
  settled_thread r k y z (inl e) = inl (follow_early p r r.end k e)
  settled_thread r k y z (inr (inl e)) = inr (inl (or_left y z e))
  settled_thread r k y z (inr (inr e)) = inr (inr e)

  chained : (js : List Share) (m : Memory) (rs : List (Ran Instance A)) → SafeInOrder body p js → Each body p js rs → NoneLeft rs → Fits m (in_order (traces rs))
      → Settled one (threads plan p js m).early (some_early rs) → Chained js m (threads plan p js m) rs
  chained [] m rs safe each n f st =
      (ap (most_turns p.turns) each, ap ending each, ap some_early each, record { fits = f; memory = sym (ap (λ z. after m (in_order (traces z))) each); out = sym (ap (λ z. output_of (in_order (traces z))) each) })
  chained (j ∷ js) m rs safe (r', more, eq, ran, each) n0 f0 st0 =
      let go = subst (λ z. NoneLeft z → Fits m (in_order (traces z)) → Settled one (threads plan p (j ∷ js) m).early (some_early z) → Chained (j ∷ js) m (threads plan p (j ∷ js) m) z) (sym eq)
      (λ n f st.
      let r = plan j p m in
      let k = λ (m' : Memory). threads plan p js m' in
      let split = fits_split r'.trace (in_order (traces more)) m f in
      let o = (agree j p m safe.0).only r'.trace r'.early r'.path r'.end ran split.0 n.1 (settled_thread r k r'.early (some_early more) st) in
      let done = follow_done p r r.end k (λ x h. n.0 x (o.1 ∙ h)) (λ h. n.1 (o.1 ∙ h)) in
      let st' = subst (λ (z : Result (List A)). Settled one z.early (r'.early || some_early more)) (sym done) st in
      let t = chained js r.memory more safe.1 each n.2 (subst (λ z. Fits z (in_order (traces more))) (sym o.3.memory) split.1) (settled_right one r.early (k r.memory).early r'.early (some_early more) st') in
      subst (λ z. Chained (j ∷ js) m z (r' ∷ more)) done
      (ap₂ max (ap (λ (z : Path Instance). z.turns) o.0) t.0, ap₂ before o.1 t.1, ap₂ (λ z w. z || w) o.2 t.2, does_both m r'.trace (in_order (traces more)) r (k r.memory) o.3 t.3)) in
      go n0 f0 st0

  -- threads in order up to the first that is left
  abbrev Left : Memory → Result (List A) → List (Ran Instance A) → Leave → Type 0
  Left m s rs x = (most_turns p.turns rs ≡ s.path.turns) × (Leaves x ≡ s.end) × (true ≡ s.early) × Does m (in_order (traces rs)) s

  first_left : (js : List Share) (m : Memory) (rs : List (Ran Instance A)) (x : Leave) → SafeInOrder body p js → Each body p js rs → FirstEnds p rs (Leaves x) → Fits m (in_order (traces rs))
      → Settled one (threads plan p js m).early true → Left m (threads plan p js m) rs x
  first_left [] m rs x safe each first f st = absurd (subst (λ z. FirstEnds p z (Leaves x)) each first)
  first_left (j ∷ js) m rs x safe (r', more, eq, ran, each) first0 f0 st0 =
      let go = subst (λ z. FirstEnds p z (Leaves x) → Fits m (in_order (traces z)) → Settled one (threads plan p (j ∷ js) m).early true → Left m (threads plan p (j ∷ js) m) z x) (sym eq) (λ first f st. ⊎_elim
      (λ h.
      let r = plan j p m in
      let k = λ (m' : Memory). threads plan p js m' in
      let split = fits_split r'.trace (in_order (traces more)) m f in
      let o = (agree j p m safe.0).only r'.trace r'.early r'.path r'.end ran split.0 (λ s. leaves-ne-stopped (sym h.0 ∙ s)) (settled_one r k r'.early st) in
      subst (λ z. Left m (follow p r z k) (r' ∷ more) x) (sym h.0 ∙ o.1) (
        ap₂ max (ap (λ (z : Path Instance). z.turns) o.0) (idle_turns p more h.1),
        refl,
        refl,
        record { fits = f; memory = o.3.memory ∙ ap (after m) (same_trace r'.trace (traces more) (idle_trace p more h.1)); out = o.3.out ∙ ap output_of (same_trace r'.trace (traces more) (idle_trace p more h.1)) },
      ))
      (λ h.
      let r = plan j p m in
      let k = λ (m' : Memory). threads plan p js m' in
      let split = fits_split r'.trace (in_order (traces more)) m f in
      let o = (agree j p m safe.0).only r'.trace r'.early r'.path r'.end ran split.0 h.0.1 (settled_one r k r'.early st) in
      let done = follow_done p r r.end k (λ x h'. h.0.0 x (o.1 ∙ h')) (λ h'. h.0.1 (o.1 ∙ h')) in
      let st' = subst (λ (z : Result (List A)). Settled one z.early true) (sym done) st in
      let t = first_left js r.memory more x safe.1 each h.1 (subst (λ z. Fits z (in_order (traces more))) (sym o.3.memory) split.1) (settled_rest r.early (k r.memory).early st') in
      subst (λ z. Left m z (r' ∷ more) x) done
      (ap₂ max (ap (λ (z : Path Instance). z.turns) o.0) t.0, sym (before_done r.end x (λ y h'. h.0.0 y (o.1 ∙ h')) (λ h'. h.0.1 (o.1 ∙ h'))) ∙ ap (before r.end) t.1, or_true r.early (k r.memory).early t.2, does_both m r'.trace (in_order (traces more)) r (k r.memory) o.3 t.3))
      first) in
      go first0 f0 st0
    where
      same_trace : (t : Trace Instance) (us : List (Trace Instance)) → in_order us ≡ [] → t ≡ t ++ in_order us
      same_trace t us e = sym (append-nil t) ∙ ap (λ z. t ++ z) (sym e)

      settled_one : (r : Result A) (k : Memory → Result (List A)) (y : Bool) → Settled one (follow p r r.end k).early true → Settled one r.early y
      settled_one r k y (inl e) = inl (follow_early p r r.end k e)
      settled_one r k y (inr (inl e)) = absurd (true≢false e)
      settled_one r k y (inr (inr e)) = inr (inr e)

      settled_rest : (a b : Bool) → Settled one (a || b) true → Settled one b true
      settled_rest a b (inl e) = inl (or_right a b e)
      settled_rest a b (inr e) = inr e

  -- no thread of a race-free construct is left where none of the plan's is
  none_is_left : (js : List Share) (m : Memory) (rs : List (Ran Instance A)) (x : Leave) → SafeThreads body p js → (threads plan p js m).early ≡ false → Each body p js rs → EachFits m (traces rs) → SomeEnds rs (Leaves x) → ⊥
  none_is_left [] m rs x safe calm each f ends = subst (λ z. SomeEnds z (Leaves x)) each ends
  none_is_left (j ∷ js) m rs x safe calm (r', more, eq, ran, each) f0 ends0 =
      let r = plan j p m in
      let k = λ (m' : Memory). threads plan p js m' in
      let done = follow_calm p r r.end k calm in
      let calm' = subst (λ (z : Result (List A)). z.early ≡ false) (sym (follow_done p r r.end k done.0 done.1)) calm in
      let a = agree j p m safe.0 in
      let t = a.some (or_left r.early (k r.memory).early calm') in
      let go = subst (λ z. EachFits m (traces z) → SomeEnds z (Leaves x) → ⊥) (sym eq) (λ f ends. ⊎_elim
      (λ h. done.0 x (sym (a.only r'.trace r'.early r'.path r'.end ran f.0 (λ s. leaves-ne-stopped (sym h ∙ s)) (inl (or_left r.early (k r.memory).early calm'))).1 ∙ h))
      (λ h. none_is_left js r.memory more x safe.2 (or_right r.early (k r.memory).early calm') each
      (subst (λ z. EachFits z (traces more)) (sym t.does.memory) (each_frame body p js more m t.trace (apart_from body p j js more t.trace r.early r.path r.end safe.1 t.runs each) f.1)) h)
      ends) in
      go f0 ends0

-- constructs

or_false : (a : Bool) → (a || false) ≡ a
or_false true = refl
or_false false = refl

or_right_true : (a : Bool) → true ≡ (a || true)
or_right_true true = refl
or_right_true false = refl

joined_ordered : {A : Type 0} (p : Path Instance) (rs : List (Ran Instance A)) (e : End (List A)) → NoneLeft rs → Joins rs e → JoinsInOrder p rs e
joined_ordered p rs (Gives values) n j = j
joined_ordered p rs (Leaves x) n j = absurd (none_leaves rs x n j)
joined_ordered p rs Spent n j = j
joined_ordered p rs Stopped n j = inr n

left_ending : {A : Type 0} (rs : List (Ran Instance A)) → NoneLeft rs → is_left (ending rs) ≡ false
left_ending rs n = ⊎_elim (λ h. ap is_left (sym h.1)) (λ h. ap is_left (sym h)) (ending_finished rs n)

module _ {A : Type 0} (one : Bool) (js : List Share) (body : Share → Body A) (plan : Share → Step A) (agree : (j : Share) → AgreesBody one (body j) (plan j)) (hush : (j : Share) → QuietBody (body j)) (p : Path Instance) (m : Memory) where
  abbrev plans : Result (List A)
  plans = threads plan p js m

  abbrev Runs' : Bool → Trace Instance → Bool → Path Instance → End (List A) → Type 0
  Runs' form tr y p' e = (rs : List (Ran Instance A)) × Each body p js rs × Form form p rs tr e × (y ≡ (some_early rs || is_left e)) × (p' ≡ joined p (most_turns p.turns rs))

  same_early : (t : SameThreads one body plan agree p js m plans) → plans.early ≡ (some_early t.rans || is_left plans.end)
  same_early t = sym (or_false plans.early) ∙ ap₂ (λ z w. z || w) (sym t.early) (sym (ap is_left t.end ∙ left_ending t.rans t.none_left))

  -- what is chained is the plan's
  chained_same : (rs : List (Ran Instance A)) (tr : Trace Instance) (y : Bool) (p' : Path Instance) (e : End (List A)) → NoneLeft rs → Joins rs e → (e ≡ Stopped → ⊥) → y ≡ (some_early rs || is_left e) → p' ≡ joined p (most_turns p.turns rs) → Chained one body plan agree p js m plans rs
      → (p' ≡ joined p plans.path.turns) × (e ≡ plans.end) × (y ≡ plans.early)
  chained_same rs tr y p' e n j ne ey ep c =
      let ee = ending_only rs e n j ne in
      (ep ∙ ap (joined p) c.0, ee ∙ c.1, ey ∙ ap₂ (λ z w. z || w) c.2 (ap is_left ee ∙ left_ending rs n) ∙ or_false plans.early)

  settled_threads : (rs : List (Ran Instance A)) (y : Bool) (e : End (List A)) → y ≡ (some_early rs || is_left e) → Settled one plans.early y → Settled one plans.early (some_early rs)
  settled_threads rs y e ey (inl h) = inl h
  settled_threads rs y e ey (inr (inl h)) = inr (inl (or_left (some_early rs) (is_left e) (sym ey ∙ h)))
  settled_threads rs y e ey (inr (inr h)) = inr (inr h)

  ordered_agrees : SafeInOrder body p js → AgreesAt one (Runs' true) m (closed p plans)
  ordered_agrees safe = record {
    some = λ calm.
        let t = same_threads one body plan agree p js m safe calm in
        record {
          trace = in_order (traces t.rans);
          runs = (t.rans, t.ran, (refl, subst (λ z. JoinsInOrder p t.rans z) (sym t.end) (joined_ordered p t.rans (ending t.rans) t.none_left (joined_ending t.rans t.none_left))), same_early t, ap (joined p) t.turns);
          does = record { fits = t.does.fits; memory = t.does.memory; out = t.does.out };
        };
    only = λ tr y p' e ran f ne st. go tr y p' e ran.0 ran.1 ran.2 ran.3 ran.4 f ne st;
  }
    where
      finish : (tr : Trace Instance) (y : Bool) (p' : Path Instance) (e : End (List A)) (rs : List (Ran Instance A)) → Each body p js rs → tr ≡ in_order (traces rs) → NoneLeft rs → Joins rs e → y ≡ (some_early rs || is_left e) → p' ≡ joined p (most_turns p.turns rs) → Fits m tr → (e ≡ Stopped → ⊥) → Settled one plans.early y
          → (p' ≡ joined p plans.path.turns) × (e ≡ plans.end) × (y ≡ plans.early) × Does m tr (closed p plans)
      finish tr y p' e rs each etr n j ey ep f ne st =
          let c = chained one body plan agree p js m rs safe each n (subst (λ z. Fits m z) etr f) (settled_threads rs y e ey st) in
          let s = chained_same rs tr y p' e n j ne ey ep c in
          let d = subst (λ z. Does m z plans) (sym etr) c.3 in
          (s.0, s.1, s.2, record { fits = f; memory = d.memory; out = d.out })

      go : (tr : Trace Instance) (y : Bool) (p' : Path Instance) (e : End (List A)) (rs : List (Ran Instance A)) → Each body p js rs → Form true p rs tr e → y ≡ (some_early rs || is_left e) → p' ≡ joined p (most_turns p.turns rs) → Fits m tr → (e ≡ Stopped → ⊥) → Settled one plans.early y
          → (p' ≡ joined p plans.path.turns) × (e ≡ plans.end) × (y ≡ plans.early) × Does m tr (closed p plans)
      go tr y p' (Gives values) rs each form ey ep f ne st = finish tr y p' (Gives values) rs each form.0 (none_left rs values form.1) form.1 ey ep f ne st
      go tr y p' Spent rs each form ey ep f ne st = finish tr y p' Spent rs each form.0 form.1.0 form.1 ey ep f ne st
      go tr y p' Stopped rs each form ey ep f ne st = absurd (ne refl)
      go tr y p' (Leaves x) rs each form ey ep f ne st =
          let t : y ≡ true = ey ∙ sym (or_right_true (some_early rs)) in
          let c = first_left one body plan agree p js m rs x safe each form.1 (subst (λ z. Fits m z) form.0 f) (subst (λ z. Settled one plans.early z) t st) in
          let d = subst (λ z. Does m z plans) (sym form.0) c.3 in
          (ep ∙ ap (joined p) c.0, c.1, t ∙ c.2, record { fits = f; memory = d.memory; out = d.out })

  shuffled_agrees : one ≡ false → SafeThreads body p js → AgreesAt one (Runs' false) m (closed p plans)
  shuffled_agrees many safe = record {
    some = λ calm.
        let t = same_threads one body plan agree p js m (safe_each body p js safe) calm in
        record {
          trace = in_order (traces t.rans);
          runs = (t.rans, t.ran, (shuffle_in_order (traces t.rans), subst (λ z. Joins t.rans z) (sym t.end) (joined_ending t.rans t.none_left)), same_early t, ap (joined p) t.turns);
          does = record { fits = t.does.fits; memory = t.does.memory; out = t.does.out };
        };
    only = λ tr y p' e ran f ne st. go tr y p' e ran.0 ran.1 ran.2 ran.3 ran.4 f ne st;
  }
    where
      finish : (tr : Trace Instance) (y : Bool) (p' : Path Instance) (e : End (List A)) (rs : List (Ran Instance A)) → Each body p js rs → Shuffle (traces rs) tr → NoneLeft rs → Joins rs e → y ≡ (some_early rs || is_left e) → p' ≡ joined p (most_turns p.turns rs) → Fits m tr → (e ≡ Stopped → ⊥) → Settled one plans.early y
          → (p' ≡ joined p plans.path.turns) × (e ≡ plans.end) × (y ≡ plans.early) × Does m tr (closed p plans)
      finish tr y p' e rs each sh n j ey ep f ne st =
          let law = shuffle_law (traces rs) m (all_apart body p js rs safe each) (inl (tr, sh, f)) in
          let c = chained one body plan agree p js m rs (safe_each body p js safe) each n (law.1 (in_order (traces rs)) (shuffle_in_order (traces rs))).fits (settled_threads rs y e ey st) in
          let s = chained_same rs tr y p' e n j ne ey ep c in
          let same : output_of (in_order (traces rs)) ≡ output_of tr = no_outs (in_order (traces rs)) (quiet body p hush js rs (in_order (traces rs)) each (shuffle_in_order (traces rs))) ∙ sym (no_outs tr (quiet body p hush js rs tr each sh)) in
          (s.0, s.1, s.2, record { fits = f; memory = c.3.memory ∙ (law.1 tr sh).after; out = c.3.out ∙ same })

      leaves : (tr : Trace Instance) (y : Bool) (rs : List (Ran Instance A)) (x : Leave) → Each body p js rs → Shuffle (traces rs) tr → SomeEnds rs (Leaves x) → y ≡ (some_early rs || true) → Fits m tr → Settled one plans.early y → ⊥
      leaves tr y rs x each sh ends ey f (inl calm) =
          none_is_left one body plan agree p js m rs x safe calm each (shuffle_law (traces rs) m (all_apart body p js rs safe each) (inl (tr, sh, f))).0 ends
      leaves tr y rs x each sh ends ey f (inr (inl h)) = true≢false (or_right_true (some_early rs) ∙ sym ey ∙ h)
      leaves tr y rs x each sh ends ey f (inr (inr h)) = true≢false (sym h ∙ many)

      go : (tr : Trace Instance) (y : Bool) (p' : Path Instance) (e : End (List A)) (rs : List (Ran Instance A)) → Each body p js rs → Form false p rs tr e → y ≡ (some_early rs || is_left e) → p' ≡ joined p (most_turns p.turns rs) → Fits m tr → (e ≡ Stopped → ⊥) → Settled one plans.early y
          → (p' ≡ joined p plans.path.turns) × (e ≡ plans.end) × (y ≡ plans.early) × Does m tr (closed p plans)
      go tr y p' (Gives values) rs each form ey ep f ne st = finish tr y p' (Gives values) rs each form.0 (none_left rs values form.1) form.1 ey ep f ne st
      go tr y p' Spent rs each form ey ep f ne st = finish tr y p' Spent rs each form.0 form.1.0 form.1 ey ep f ne st
      go tr y p' Stopped rs each form ey ep f ne st = absurd (ne refl)
      go tr y p' (Leaves x) rs each form ey ep f ne st = absurd (leaves tr y rs x each form.0 form.1 ey f st)

  form_agrees : (form : Bool) → (one || is_inside p) ≡ form → Safe form body p js → AgreesAt one (Runs' form) m (closed p plans)
  form_agrees true eq safe = ordered_agrees safe
  form_agrees false eq safe = shuffled_agrees (or_left one (is_inside p) eq) safe

unbegun_agrees : {A : Type 0} (one : Bool) (F : Trace Instance → Bool → Path Instance → End A → Type 0) (p : Path Instance) (m : Memory) (r : Result A) → AgreesAt one F m r → AgreesAt one (λ tr y p' e. F tr y p' e ⊎ Unbegun p tr y p' e) m r
unbegun_agrees one F p m r a = record {
  some = λ calm. let t = a.some calm in record { trace = t.trace; runs = inl t.runs; does = t.does };
  only = λ tr y p' e ran f ne st. ⊎_elim (λ h. a.only tr y p' e h f ne st) (λ h. absurd (ne h.3)) ran;
}

-- a construct in a scope

abbrev in_scope : {A : Type 0} → Scope Instance → Behaviour Instance A → Body A
in_scope s b = record { runs = b.runs s; safe = b.safe s }

clear_of : {A : Type 0} (body : Share → Behaviour Instance A) (s : Scope Instance) (p : Path Instance) (j : Share) (js : List Share) → ThreadApart (λ k tr. MayTrace (body k) s p tr) j js → Clear (λ k. in_scope s (body k)) p j js
clear_of body s p j [] a = tt
clear_of body s p j (k ∷ ks) a =
    (λ t u yt yu pt pu et eu run run'. a.0 t u (record { early = yt; path = pt; end = et; run = run }) (record { early = yu; path = pu; end = eu; run = run' }), clear_of body s p j ks a.1)

in_order_of : {A : Type 0} (body : Share → Behaviour Instance A) (s : Scope Instance) (p : Path Instance) (js : List Share) → EachSafe body s p js → SafeInOrder (λ k. in_scope s (body k)) p js
in_order_of body s p [] e = tt
in_order_of body s p (j ∷ js) e = (e.0, in_order_of body s p js e.1)

threads_of : {A : Type 0} (body : Share → Behaviour Instance A) (s : Scope Instance) (p : Path Instance) (js : List Share) → ThreadsApart (λ k tr. MayTrace (body k) s p tr) js → EachSafe body s p js → SafeThreads (λ k. in_scope s (body k)) p js
threads_of body s p [] a e = tt
threads_of body s p (j ∷ js) a e = (e.0, clear_of body s p j js a.0, threads_of body s p js a.1 e.1)

safe_of : {A : Type 0} (form : Bool) (site : Site) (body : Share → Behaviour Instance A) (s : Scope Instance) (p : Path Instance) (js : List Share)
    → asks_at_once form p.name site p.constructs s js (λ j tr. MayTrace (body j) s p tr) × EachSafe body s p js → Safe form (λ k. in_scope s (body k)) p js
safe_of true site body s p js h = in_order_of body s p js h.1
safe_of false site body s p js h = threads_of body s p js h.0 h.1

module _ (limit : ℕ) (cuts : ℕ → ℕ → List ℕ) (one : Bool) where
  pub par_agrees : {A : Type 0} (site : Site) (js : List Share) (body : Share → Behaviour Instance A) (plan : Share → Planned A) → ((j : Share) → Agrees one (body j) (plan j)) → ((j : Share) → Quiet (body j))
      → Agrees one (Behaviours.par asks_at_once one site js body) (Planned.par js plan)
  par_agrees site js body plan agree hush s p m safe =
      let b : (k : Share) → Body _ = λ k. in_scope s (body k) in
      let g : (k : Share) → Step _ = λ k. plan k s in
      unbegun_agrees one (λ tr y p' e. Runs' one js b g (λ j. agree j s) (λ j. hush j s) p m (one || is_inside p) tr y p' e) p m (closed p (threads g p js m))
      (form_agrees one js b g (λ j. agree j s) (λ j. hush j s) p m (one || is_inside p) refl (safe_of (one || is_inside p) site body s p js safe))

  pub par_quiet : {A : Type 0} (site : Site) (js : List Share) (body : Share → Behaviour Instance A) → ((j : Share) → Quiet (body j)) → Quiet (Behaviours.par asks_at_once one site js body)
  par_quiet {A} site js body q s p tr y p' e (inr u) h = subst (λ z. Has IsInputOutput z) u.0 h
  par_quiet {A} site js body q s p tr y p' e (inl (rs, each, form, ey, ep)) h = go (one || is_inside p) form
    where
      go : (f : Bool) → Form f p rs tr e → ⊥
      go true g = quiet (λ k. in_scope s (body k)) p (λ j. q j s) js rs (in_order (traces rs)) each (shuffle_in_order (traces rs)) (subst (λ z. Has IsInputOutput z) g.0 h)
      go false g = quiet (λ k. in_scope s (body k)) p (λ j. q j s) js rs tr each g.0 h
