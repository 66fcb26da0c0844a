-- Threads in order, one after the other.
use Rattle.std.proofs.Common.{◌≡◌, ℕ, zero, suc, ◌+◌, max, List, [], ◌∷◌, drop, slice_get, Bool, true, false, ◌||◌, cond, Some, None, refl, sym, subst, ap, ◌∙◌, arith}
use Rattle.std.specs.Prelude.{Result, Ok, Err}
use Rattle.behaviours.specs.Joins.{Share, deal}
use Rattle.ada_meaning.specs.Stored.{Stored, After, Took, took, Left, at, bind, ret, spent, rewinds, thread, threads, par, is_spent, gathered, first_of_both}
use Rattle.run_values.specs.declared.ends.End.{End}
use Rattle.run_values.specs.declared.ends.End.TheVariants as end
use Rattle.run_values.specs.declared.ends.Leave.{Leave}
use Rattle.run_outside.specs.Outside.{Outside}
use Rattle.run_store.specs.Shows.{Image, facing, Goes, ShowsAs, Shows, Does, leave_of}
use Rattle.run_values.specs.Values.{OrNoMemory}
use Rattle.run_store.proofs.Going.{also, stays, goes_refl, goes_on, goes_then, goes_ends, goes_gives, goes_fails, then_shows}

-- ---- one thread, where an answer of the code stands for what it took

module _ {Tells : List ℕ → Outside → Type 0} {A C : Type 0} (h : C → Took A) (most : ℕ) (m : Stored A) (s t : Image) where
  pub thread_gives : (a : A) (c : C) → h c ≡ record { value = Some a; most = max most t.state.turns } → Shows Tells m (Ok a) s t → ShowsAs h Tells (thread most m) (Ok c) s t
  unfolding thread
  thread_gives a c e k = (k.0, k.1, λ input told. ap (λ (z : After A). took most z.state z.end) (k.2 input told) ∙ ap (λ (z : Took A). at (facing input t.state) (Ok z)) (sym e))

  pub thread_spent : (c : C) → h c ≡ record { value = None; most = max most t.state.turns } → Shows Tells m (Err end.Spent) s t → ShowsAs h Tells (thread most m) (Ok c) s t
  unfolding thread
  thread_spent c e k = (k.0, k.1, λ input told. ap (λ (z : After A). took most z.state z.end) (k.2 input told) ∙ ap (λ (z : Took A). at (facing input t.state) (Ok z)) (sym e))

  pub thread_left : (y : Leave) (n : ℕ) (u : Image) → n ≡ max most t.state.turns → Shows Tells m (Err (end.Left y)) s t → Does Tells (rewinds n) t u → ShowsAs h Tells (thread most m) (Err (end.Left y)) s u
  unfolding thread rewinds
  thread_left y n u e k d =
      let d' : Does Tells (rewinds (max most t.state.turns)) t u = subst (λ n. Does Tells (rewinds n) t u) e d in
      (d'.0 ∙ k.0, also k.1 d'.1, λ input told. ap (λ (z : After A). took most z.state z.end) (k.2 input (d'.1.back input told)) ∙ ap (λ (z : After _). at z.state (Err (Left (leave_of y)))) (d'.2 input told))

  pub thread_memory : Shows Tells m (Err end.NoMemory) s t → ShowsAs h Tells (thread most m) (Err end.NoMemory) s t
  unfolding thread
  thread_memory k = k

  pub thread_read : Shows Tells m (Err end.ReadFault) s t → ShowsAs h Tells (thread most m) (Err end.ReadFault) s t
  unfolding thread
  thread_read k = k

  pub thread_write : Shows Tells m (Err end.WriteFault) s t → ShowsAs h Tells (thread most m) (Err end.WriteFault) s t
  unfolding thread
  thread_write k = k

-- ---- sizes that are left

drop_some : (ns : List ℕ) (k n : ℕ) → slice_get ns k ≡ Some n → drop k ns ≡ n ∷ drop (k + 1) ns
drop_some [] k n e = cc
drop_some (x ∷ xs) zero n e = let q : x ≡ n = cc in rw q refl
drop_some (x ∷ xs) (suc k) n e = let q : suc k + 1 ≡ suc (k + 1) = omega arith in rw q (drop_some xs k n e)

drop_none : (ns : List ℕ) (k : ℕ) → slice_get ns k ≡ None → drop k ns ≡ []
drop_none [] zero e = refl
drop_none [] (suc k) e = refl
drop_none (x ∷ xs) zero e = cc
drop_none (x ∷ xs) (suc k) e = drop_none xs k e

deal_more : (ns : List ℕ) (k n first : ℕ) → slice_get ns k ≡ Some n → deal k first (drop k ns) ≡ record { number = k; first = first; size = n } ∷ deal (k + 1) (first + n) (drop (k + 1) ns)
deal_more ns k n first e = ap (λ ms. deal k first ms) (drop_some ns k n e) ∙ ap (λ j. record { number = k; first = first; size = n } ∷ deal j (first + n) (drop (k + 1) ns)) (let q : suc k ≡ k + 1 = omega arith in q)

deal_none : (ns : List ℕ) (k first : ℕ) → slice_get ns k ≡ None → deal k first (drop k ns) ≡ []
deal_none ns k first e = ap (λ ms. deal k first ms) (drop_none ns k e)

-- ---- all threads

pub threads_begin : {Tells : List ℕ → Outside → Type 0} {A B : Type 0} (f : B → A → B) (b : B) (sizes : List ℕ) (body : Share → Stored A) (s : Image) (n most : ℕ) → n ≡ s.state.turns → most ≡ s.state.turns → Goes Tells (par f b (deal 0 0 sizes) body) s (threads f body n (deal 0 0 (drop 0 sizes)) most false b) s
unfolding par
threads_begin {Tells} f b sizes body s n most e q =
    subst (λ n. Goes Tells (par f b (deal 0 0 sizes) body) s (threads f body n (deal 0 0 sizes) most false b) s) (sym e)
    (subst (λ n. Goes Tells (par f b (deal 0 0 sizes) body) s (threads f body s.state.turns (deal 0 0 sizes) n false b) s) (sym q)
    (record { faults = refl; keeps = stays; same = λ input told. refl; stops = λ input told x u h. h }))

module _ {Tells : List ℕ → Outside → Type 0} {A B : Type 0} (whole : Stored B) (f : B → A → B) (body : Share → Stored A) (from most k first : ℕ) (sizes : List ℕ) (over : Bool) (b : B) (s t u : Image) (g : Goes Tells whole s (threads f body from (deal k first (drop k sizes)) most over b) t) where
  module _ (n : ℕ) (is : slice_get sizes k ≡ Some n) (r : Does Tells (rewinds from) t u) where
    abbrev share : Share
    share = record { number = k; first = first; size = n }

    abbrev rest : Took A → Stored B
    rest x = threads f body from (deal (k + 1) (first + n) (drop (k + 1) sizes)) x.most (over || is_spent x.value) (gathered f b x.value)

    begun : Goes Tells whole s (bind (thread most (body share)) rest) u
    begun = goes_on whole (rewinds from) (λ _. bind (thread most (body share)) rest) s t u (subst (λ js. Goes Tells whole s (threads f body from js most over b) t) (deal_more sizes k n first is) g) r

    module _ {C : Type 0} (h : C → Took A) (v : Image) where
      -- a thread went to its end, or its turns are spent
      pub threads_more : (c : C) (most' next : ℕ) (over' : Bool) (b' : B) → ShowsAs h Tells (thread most (body share)) (Ok c) u v → (h c).most ≡ most' → next ≡ first + n → over' ≡ (over || is_spent (h c).value) → b' ≡ gathered f b (h c).value
          → Goes Tells whole s (threads f body from (deal (k + 1) next (drop (k + 1) sizes)) most' over' b') v
      threads_more c most' next over' b' l e q w x =
          subst (λ z. Goes Tells whole s (threads f body from (deal (k + 1) z (drop (k + 1) sizes)) most' over' b') v) (sym q)
          (subst (λ z. Goes Tells whole s (threads f body from (deal (k + 1) (first + n) (drop (k + 1) sizes)) z over' b') v) e
          (subst (λ z. Goes Tells whole s (threads f body from (deal (k + 1) (first + n) (drop (k + 1) sizes)) (h c).most z b') v) (sym w)
          (subst (λ z. Goes Tells whole s (threads f body from (deal (k + 1) (first + n) (drop (k + 1) sizes)) (h c).most (over || is_spent (h c).value) z) v) (sym x)
          (goes_then h (λ a. a) whole (thread most (body share)) rest s u v c begun l))))

      -- no other thread runs
      pub threads_end : (e : End) (y : Result B End) → y ≡ Err e → ShowsAs h Tells (thread most (body share)) (Err e) u v → Shows Tells whole y s v
      threads_end e y q l = subst (λ z. Shows Tells whole z s v) (sym q) (goes_ends h (λ a. a) whole (thread most (body share)) rest s u v e begun l)

      -- and memory failed after it
      pub threads_fail : {X : Type 0} (P : X → Type 0) (c : C) (e : End) (y : Result B End) → y ≡ Err e → OrNoMemory P (Err e) → ShowsAs h Tells (thread most (body share)) (Ok c) u v → Shows Tells whole y s v
      threads_fail P c e y q o l = subst (λ z. Shows Tells whole z s v) (sym q) (go e o)
        where
          go : (e : End) → OrNoMemory P (Err e) → Shows Tells whole (Err e) s v
          go (end.Left x) o = absurd o
          go end.Spent o = absurd o
          go end.NoMemory o = goes_fails (λ a. a) whole (rest (h c)) s v (goes_then h (λ a. a) whole (thread most (body share)) rest s u v c begun l)
          go end.ReadFault o = absurd o
          go end.WriteFault o = absurd o

  -- after the last thread
  module _ (is : slice_get sizes k ≡ None) (r : Does Tells (rewinds most) t u) where
    joined : Goes Tells whole s (cond over spent (ret b)) u
    joined = goes_on whole (rewinds most) (λ _. cond over spent (ret b)) s t u (subst (λ js. Goes Tells whole s (threads f body from js most over b) t) (deal_none sizes k first is) g) r

    pub threads_joined : over ≡ false → Shows Tells whole (Ok b) s u
    threads_joined e = goes_gives (λ a. a) whole b s u (subst (λ z. Goes Tells whole s (cond z spent (ret b)) u) e joined)

    pub threads_spent : over ≡ true → Shows Tells whole (Err end.Spent) s u
    unfolding spent
    threads_spent e = let q = subst (λ z. Goes Tells whole s (cond z spent (ret b)) u) e joined in (q.faults, q.keeps, q.same)

-- a part, and nothing after it
pub then_done : {Tells : List ℕ → Outside → Type 0} (m : Stored (Unit {0})) (r : Result (Unit {0}) End) (s t : Image) → Shows Tells m r s t → Shows Tells (bind m (λ _. ret tt)) r s t
unfolding ret
then_done m (Ok u) s t h = then_shows (λ a. a) (λ a. a) m (λ _. ret tt) s t t tt (Ok tt) h (refl, stays, λ input told. refl)
then_done m (Err e) s t h = goes_ends (λ a. a) (λ a. a) _ m (λ _. ret tt) s s t e (goes_refl _ s) h

-- what code holds of a thread of a loop

pub spent_as : (b : Bool) → is_spent {A = Unit {0}} (cond b None (Some tt)) ≡ b
spent_as true = refl
spent_as false = refl

pub gathered_none : (b : Bool) → tt ≡ gathered first_of_both tt (cond b None (Some tt))
gathered_none true = refl
gathered_none false = refl
