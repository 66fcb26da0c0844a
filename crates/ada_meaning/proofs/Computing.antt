-- What code computes, put together from what its parts compute.
use Rattle.std.proofs.Common.{◌≡◌, ℕ, suc, ◌+◌, ◌-◌, ◌<◌, ◌≤◌, ℤ, List, inl, inr, Bool, true, false, cond, refl, sym, subst, ap, ◌∙◌, arith}
use Rattle.std.specs.Prelude.{Result, Ok, Err}
use Rattle.behaviours.specs.Doings.{through}
use Rattle.behaviours.specs.Paths.{Leave, Entity, Region}
use Rattle.ada_meaning.specs.Stored.{State, Stored, After, at, Cause, Left, OutOfTurns, MemoryFault, Stops, Stop, Goes, Fails, Computes, Continues, next, next_halts, handled, handled_halts, ret, bind, leaves, spent, handles, begun, ended, has_room, NoRoom, CutOff, Misnoted, elaborates, apart, doings}

pub ret_computes : {A : Type 0} (a : A) (s : State) → Computes (ret a) s (Ok a) s
unfolding ret
ret_computes a s = refl

pub leaves_computes : {A : Type 0} (x : Leave) (s : State) → Computes (leaves {A = A} x) s (Err (Goes (Left x))) s
unfolding leaves
leaves_computes x s = refl

pub spent_computes : {A : Type 0} (s : State) → Computes (spent {A = A}) s (Err (Goes OutOfTurns)) s
unfolding spent
spent_computes s = refl

-- before anything memory may fail
pub memory_fails : {A : Type 0} (m : Stored A) (s : State) → Computes m s (Err (Fails MemoryFault)) s
memory_fails m s = inl (refl, refl)

module _ {A B : Type 0} (m : Stored A) (k : A → Stored B) where
  next_of : (s : State) (r : After A) → m.does s ≡ r → (bind m k).does s ≡ next r.state r.end k
  unfolding bind
  next_of s r e = ap (λ (z : After A). next z.state z.end k) e

  -- one thing and then another
  pub then_computes : (s t u : State) (a : A) (r : Result B Stop) → Computes m s (Ok a) t → Computes (k a) t r u → Computes (bind m k) s r u
  unfolding bind
  then_computes s t u a (Ok b) h g = next_of s (at t (Ok a)) h ∙ g
  then_computes s t u a (Err (Goes c)) h g = next_of s (at t (Ok a)) h ∙ g
  then_computes s t u a (Err (Fails f)) h g = inr (inr (subst (λ (z : After A). next_halts z.state z.end k f u) (sym h) g))

  -- a part that ends so is the last
  pub ends_computes : (s t : State) (e : Stop) → Computes m s (Err e) t → Computes (bind m k) s (Err e) t
  unfolding bind
  ends_computes s t (Goes c) h = next_of s (at t (Err c)) h
  ends_computes s t (Fails f) h = inr (inl h)

  -- the whole goes on as what comes after a part
  pub then_continues : (s t : State) (a : A) → Computes m s (Ok a) t → Continues (bind m k) s (k a) t
  unfolding bind
  then_continues s t a h = record { same = next_of s (at t (Ok a)) h; stops = λ f u g. inr (inr (subst (λ (z : After A). next_halts z.state z.end k f u) (sym h) g)) }

-- loops

pub continues_refl : {A : Type 0} (m : Stored A) (s : State) → Continues m s m s
continues_refl m s = record { same = refl; stops = λ f t h. h }

pub continues_trans : {A : Type 0} (m n k : Stored A) (s t u : State) → Continues m s n t → Continues n t k u → Continues m s k u
continues_trans m n k s t u c d = record { same = c.same ∙ d.same; stops = λ f w h. c.stops f w (d.stops f w h) }

pub continues_computes : {A : Type 0} (m n : Stored A) (s t u : State) (r : Result A Stop) → Continues m s n t → Computes n t r u → Computes m s r u
continues_computes m n s t u (Ok a) c h = c.same ∙ h
continues_computes m n s t u (Err (Goes e)) c h = c.same ∙ h
continues_computes m n s t u (Err (Fails f)) c h = c.stops f u h

-- an iteration of those from i on, of n
pub through_more : {A : Type 0} (i n : ℕ) (a : A) (f : ℕ → A → Stored A) → i < n → through doings i (n - i) a f ≡ bind (f i a) (λ b. through doings (i + 1) (n - (i + 1)) b f)
through_more i n a f lt =
    ap (λ z. through doings i z a f) (let h : n - i ≡ suc (n - (i + 1)) = omega arith in h)
    ∙ ap (λ z. bind (f i a) (λ b. through doings z (n - (i + 1)) b f)) (let h : suc i ≡ i + 1 = omega arith in h)

pub through_done : {A : Type 0} (i n : ℕ) (a : A) (f : ℕ → A → Stored A) → n ≤ i → through doings i (n - i) a f ≡ ret a
through_done i n a f le = ap (λ z. through doings i z a f) (let h : n - i ≡ 0 = omega arith in h)

-- ways to be left

module _ {A : Type 0} (m : Stored A) (takes : Leave → Bool) (h : Leave → Stored A) where
  handled_of : (s : State) (r : After A) → m.does s ≡ r → (handles m takes h).does s ≡ handled r.state r.end takes h
  unfolding handles
  handled_of s r e = ap (λ (z : After A). handled z.state z.end takes h) e

  -- what is left in a way that is handled
  pub handled_computes : (s t u : State) (x : Leave) (r : Result A Stop) → Computes m s (Err (Goes (Left x))) t → takes x ≡ true → Computes (h x) t r u → Computes (handles m takes h) s r u
  unfolding handles
  handled_computes s t u x (Ok a) e k g = handled_of s (at t (Err (Left x))) e ∙ ap (λ b. cond b ((h x).does t) (at t (Err (Left x)))) k ∙ g
  handled_computes s t u x (Err (Goes c)) e k g = handled_of s (at t (Err (Left x))) e ∙ ap (λ b. cond b ((h x).does t) (at t (Err (Left x)))) k ∙ g
  handled_computes s t u x (Err (Fails f)) e k g = inr (inr (subst (λ (z : After A). handled_halts z.state z.end takes h f u) (sym e) (subst (λ b. cond b (Stops (h x) t f u) ⊥) (sym k) g)))

  abbrev pub Handled : Result A Stop → Bool
  Handled (Err (Goes (Left x))) = takes x
  Handled _ = false

  -- and what isn't
  pub not_handled_computes : (s t : State) (r : Result A Stop) → Computes m s r t → Handled r ≡ false → Computes (handles m takes h) s r t
  unfolding handles
  not_handled_computes s t (Ok a) e k = handled_of s (at t (Ok a)) e
  not_handled_computes s t (Err (Goes (Left x))) e k = handled_of s (at t (Err (Left x))) e ∙ ap (λ b. cond b ((h x).does t) (at t (Err (Left x)))) k
  not_handled_computes s t (Err (Goes OutOfTurns)) e k = handled_of s (at t (Err OutOfTurns)) e
  not_handled_computes s t (Err (Goes NoRoom)) e k = handled_of s (at t (Err NoRoom)) e
  not_handled_computes s t (Err (Goes CutOff)) e k = handled_of s (at t (Err CutOff)) e
  not_handled_computes s t (Err (Goes Misnoted)) e k = handled_of s (at t (Err Misnoted)) e
  not_handled_computes s t (Err (Fails f)) e k = inr (inl e)

-- parts between two changes of the state, of which the second comes however they end

module _ {A : Type 0} (region : Region) (x : Entity) (vs : List ℤ) (m : Stored A) (s : State) (room : has_room region x s ≡ true) where
  elaborated_of : (t : State) (e : Result A Cause) → m.does (begun region x vs s) ≡ at t e → (elaborates region x vs m).does s ≡ at (ended region x s t) e
  unfolding elaborates
  elaborated_of t e h = ap (λ c. cond c (at (ended region x s (m.does (begun region x vs s)).state) (m.does (begun region x vs s)).end) (at s (Err NoRoom))) room ∙ ap (λ (z : After A). at (ended region x s z.state) z.end) h

  pub elaborates_computes : (t : State) (r : Result A Stop) → Computes m (begun region x vs s) r t → Computes (elaborates region x vs m) s r (ended region x s t)
  unfolding elaborates
  elaborates_computes t (Ok a) e = elaborated_of t (Ok a) e
  elaborates_computes t (Err (Goes c)) e = elaborated_of t (Err c) e
  elaborates_computes t (Err (Fails f)) e = inr (room, (t, e, refl))

pub apart_computes : {A : Type 0} (m : Stored A) (s t : State) (r : Result A Stop) → Computes m (record s { frame = s.frame + 1 }) r t → Computes (apart m) s r (record t { frame = s.frame })
unfolding apart
apart_computes m s t (Ok a) e = ap (λ (z : After _). at (record z.state { frame = s.frame }) z.end) e
apart_computes m s t (Err (Goes c)) e = ap (λ (z : After _). at (record z.state { frame = s.frame }) z.end) e
apart_computes m s t (Err (Fails f)) e = inr (t, e, refl)
