-- Wherever the trace of a run is parted, there is a run that was stopped there; and bytes of input are asked for in order,
-- outside threads alone.
use Rattle.std.proofs.Common.{◌≡◌, ℕ, zero, suc, ◌+◌, ℤ, List, [], ◌∷◌, ◌++◌, length, Option, Some, None, ◌⊎◌, inl, inr, ⊎_elim, Bool, true, false, cond, not, is_some, ◌||◌, refl, sym, subst, ap, ap₂, ◌∙◌, true≢false, arith, append_assoc, append-nil, ltb, ltb-true, ltb-false}
use Rattle.typed_tree.specs.declared.scalars.Scalar.{Scalar}
use Rattle.typed_tree.specs.declared.expressions.Reducer.{Reducer}
use Rattle.typed_tree.specs.declared.expressions.Reducer.TheVariants.{Operator, Function}
use Rattle.typed_tree.specs.Syntax.{Program}
use Rattle.ada_base.specs.declared.reason.Reason.TheVariants as reason
use Rattle.ada_base.specs.Input.{Nothing}
use Rattle.behaviours.specs.Doings.{through, onto, folded}
use Rattle.behaviours.specs.Paths.{Leave, Raises, Entity, VariableOf, Region, Everywhere, Here, Instance, End, Gives, Leaves, Spent, Stopped, Path, Scope, find, declares, apart_of, enter, leave, joined, is_inside, one_turn, one_taken, one_elaboration}
use Rattle.behaviours.specs.Events.{Event, Reads, Writes, Recalls, Keeps, Takes, Puts, Looks, Trace, Merge, Shuffle, in_order}
use Rattle.behaviours.specs.Joins.{Site, Share, deal, Ran, traces, EachRan, most_turns, AllGive, NoneLeft, JoinsInOrder, FirstEnds, Idle, Form, some_early}
use Rattle.behaviours.specs.Behaviours.{Behaviour, Asks, Did, Untaken, Carries, is_left}
use Rattle.behaviours.specs.Behaviours
use Rattle.ada_meaning.specs.Values.{result, divides, overflows, is_zero, value_or_zero}
use Rattle.ada_meaning.specs.Operations.{CheckKind, ZeroCheck, OverflowCheck, chunk_of, Operations, reduce, zero_checked, overflow_checked}
use Rattle.ada_meaning.specs.Meaning.{main}
use Rattle.ada_meaning.specs.Runs
use Rattle.ada_meaning.specs.Nonblocking.{KeepsRule}
use Rattle.ada_meaning.specs.Deeds.{takes_in, deed_of, deeds_of}
use Rattle.ada_meaning.proofs.Agrees.{gives-ne-leaves, gives-ne-stopped}
use Rattle.ada_meaning.proofs.Induction
use Rattle.ada_meaning.proofs.Induction.{Relates}
use Rattle.ada_meaning.proofs.Stops.{nothing}

-- lists

tails : {A : Type 0} {a b : A} {t u : List A} → a ∷ t ≡ b ∷ u → t ≡ u
tails e = cc

heads : {A : Type 0} {a b : A} {t u : List A} → a ∷ t ≡ b ∷ u → a ≡ b
heads e = cc

nil-ne-cons : {A : Type 0} {a : A} {t : List A} → ◌≡◌ {A = List A} [] (a ∷ t) → ⊥
nil-ne-cons e = absurd (cc)

-- where two lists joined are two others joined, the first ends in the first of those, or behind it
pub split : {A : Type 0} (front back t u : List A) → t ++ u ≡ front ++ back → ((rest : List A) × (t ≡ front ++ rest)) ⊎ ((rest : List A) × (front ≡ t ++ rest) × (u ≡ rest ++ back))
split [] back t u e = inl (t, refl)
split (a ∷ front) back [] u e = inr (a ∷ front, refl, e)
split {A} (a ∷ front) back (b ∷ t) u e =
    let one : b ≡ a = heads e in
    ⊎_elim (λ h. inl (h.0, ap (λ (z : A). z ∷ t) one ∙ ap (λ (z : List A). a ∷ z) h.1)) (λ h. inr (h.0, ap (λ (z : A). z ∷ front) (sym one) ∙ ap (λ (z : List A). b ∷ z) h.1, h.2))
    (split front back t u (tails e))

both_nil : {A : Type 0} (t u : List A) → t ++ u ≡ [] → (t ≡ []) × (u ≡ [])
both_nil [] u e = (refl, e)
both_nil (a ∷ t) u e = absurd (nil-ne-cons (sym e))

nil_front : {A : Type 0} (front back : List A) → [] ≡ front ++ back → front ≡ []
nil_front front back e = (both_nil front back (sym e)).0

-- deeds

pub deeds_append : {P : Type 0} (t u : Trace P) → deeds_of (t ++ u) ≡ deeds_of t ++ deeds_of u
deeds_append [] u = refl
deeds_append (e ∷ t) u = ap (λ z. deed_of e ++ z) (deeds_append t u) ∙ sym (append_assoc (deed_of e) (deeds_of t) (deeds_of u))

module _ {P : Type 0} where
  -- bytes are asked for by their numbers, from one on to another
  abbrev pub Numbered : ℕ → Trace P → ℕ → Type 0
  Numbered n [] m = m ≡ n
  Numbered n (Takes k b ∷ tr) m = (k ≡ n) × Numbered (suc n) tr m
  Numbered n (Reads x i v ∷ tr) m = Numbered n tr m
  Numbered n (Writes x i v ∷ tr) m = Numbered n tr m
  Numbered n (Recalls h ∷ tr) m = Numbered n tr m
  Numbered n (Keeps h ∷ tr) m = Numbered n tr m
  Numbered n (Puts piece ∷ tr) m = Numbered n tr m
  Numbered n (Looks ∷ tr) m = Numbered n tr m

  pub numbered_append : (t u : Trace P) (n m k : ℕ) → Numbered n t m → Numbered m u k → Numbered n (t ++ u) k
  numbered_append [] u n m k e h = subst (λ z. Numbered z u k) e h
  numbered_append (Takes i b ∷ t) u n m k e h = (e.0, numbered_append t u (suc n) m k e.1 h)
  numbered_append (Reads x i v ∷ t) u n m k e h = numbered_append t u n m k e h
  numbered_append (Writes x i v ∷ t) u n m k e h = numbered_append t u n m k e h
  numbered_append (Recalls r ∷ t) u n m k e h = numbered_append t u n m k e h
  numbered_append (Keeps r ∷ t) u n m k e h = numbered_append t u n m k e h
  numbered_append (Puts piece ∷ t) u n m k e h = numbered_append t u n m k e h
  numbered_append (Looks ∷ t) u n m k e h = numbered_append t u n m k e h

  pub numbered_taken : (t : Trace P) (n m : ℕ) → Numbered n t m → m ≡ n + takes_in (deeds_of t)
  numbered_taken [] n m e = let z = e in omega arith
  numbered_taken (Takes i b ∷ t) n m e = let z = numbered_taken t (suc n) m e.1 in omega arith
  numbered_taken (Reads x i v ∷ t) n m e = numbered_taken t n m e
  numbered_taken (Writes x i v ∷ t) n m e = numbered_taken t n m e
  numbered_taken (Recalls r ∷ t) n m e = numbered_taken t n m e
  numbered_taken (Keeps r ∷ t) n m e = numbered_taken t n m e
  numbered_taken (Puts piece ∷ t) n m e = numbered_taken t n m e
  numbered_taken (Looks ∷ t) n m e = numbered_taken t n m e

  silent_numbered : (t : Trace P) (n : ℕ) → deeds_of t ≡ [] → Numbered n t n
  silent_numbered [] n e = refl
  silent_numbered (Takes i b ∷ t) n e = absurd (nil-ne-cons (sym e))
  silent_numbered (Reads x i v ∷ t) n e = silent_numbered t n e
  silent_numbered (Writes x i v ∷ t) n e = silent_numbered t n e
  silent_numbered (Recalls r ∷ t) n e = silent_numbered t n e
  silent_numbered (Keeps r ∷ t) n e = silent_numbered t n e
  silent_numbered (Puts piece ∷ t) n e = absurd (nil-ne-cons (sym e))
  silent_numbered (Looks ∷ t) n e = silent_numbered t n e

  pub fillings_silent : (x : P) (i : ℕ) (vs : List ℤ) → deeds_of (Behaviours.fillings x i vs) ≡ []
  fillings_silent x i [] = refl
  fillings_silent x i (v ∷ vs) = fillings_silent x (suc i) vs

  -- shuffles

  merge_silent : (t u w : Trace P) → Merge t u w → deeds_of t ≡ [] → deeds_of u ≡ [] → deeds_of w ≡ []
  merge_silent t u [] m a b = refl
  merge_silent t u (e ∷ w) (inl (rest, is, m)) a b =
      let h = both_nil (deed_of e) (deeds_of rest) (ap deeds_of (sym is) ∙ a) in
      ap₂ (λ y z. y ++ z) h.0 (merge_silent rest u w m h.1 b)
  merge_silent t u (e ∷ w) (inr (rest, is, m)) a b =
      let h = both_nil (deed_of e) (deeds_of rest) (ap deeds_of (sym is) ∙ b) in
      ap₂ (λ y z. y ++ z) h.0 (merge_silent t rest w m a h.1)

  AllSilent : List (Trace P) → Type 0
  AllSilent [] = Unit {0}
  AllSilent (t ∷ ts) = (deeds_of t ≡ []) × AllSilent ts

  shuffle_silent : (ts : List (Trace P)) (w : Trace P) → Shuffle ts w → AllSilent ts → deeds_of w ≡ []
  unfolding AllSilent
  shuffle_silent [] w e a = ap deeds_of e
  shuffle_silent (t ∷ ts) w (u, s, m) a = merge_silent t u w m a.0 (shuffle_silent ts u s a.1)

  in_order_silent : (ts : List (Trace P)) → AllSilent ts → deeds_of (in_order ts) ≡ []
  unfolding AllSilent
  in_order_silent [] a = refl
  in_order_silent (t ∷ ts) a = deeds_append t (in_order ts) ∙ ap₂ (λ y z. y ++ z) a.0 (in_order_silent ts a.1)

  abbrev Front : Trace P → Trace P → Type 0
  Front u t = (rest : Trace P) × (t ≡ u ++ rest)

  merge_front : (front back t u w : Trace P) → Merge t u w → w ≡ front ++ back → (t' : Trace P) × (u' : Trace P) × Front t' t × Front u' u × Merge t' u' front
  merge_front [] back t u w m e = ([], [], (t, refl), (u, refl), (refl, refl))
  merge_front (a ∷ front) back t u [] m e = absurd (nil-ne-cons e)
  merge_front (a ∷ front) back t u (b ∷ w) (inl (rest, is, m)) e =
      let h = merge_front front back rest u w m (tails e) in
      (a ∷ h.0, h.1, (h.2.0, is ∙ ap₂ (λ y z. y ∷ z) (heads e) h.2.1), h.3, inl (h.0, refl, h.4))
  merge_front (a ∷ front) back t u (b ∷ w) (inr (rest, is, m)) e =
      let h = merge_front front back t rest w m (tails e) in
      (h.0, a ∷ h.1, h.2, (h.3.0, is ∙ ap₂ (λ y z. y ∷ z) (heads e) h.3.1), inr (h.1, refl, h.4))

  EachFront : List (Trace P) → List (Trace P) → Type 0
  EachFront us [] = us ≡ []
  EachFront us (t ∷ ts) = (u : Trace P) × (more : List (Trace P)) × (us ≡ u ∷ more) × Front u t × EachFront more ts

  shuffle_front : (ts : List (Trace P)) (front back w : Trace P) → Shuffle ts w → w ≡ front ++ back → (us : List (Trace P)) × EachFront us ts × Shuffle us front
  unfolding EachFront
  shuffle_front [] front back w s e = ([], refl, nil_front front back (sym s ∙ e))
  shuffle_front (t ∷ ts) front back w (v, s, m) e =
      let h = merge_front front back t v w m e in
      let g = shuffle_front ts h.1 h.3.0 v s h.3.1 in
      (h.0 ∷ g.0, (h.0, g.0, refl, h.2, g.1), (h.1, g.2, h.4))

module _ (P : Type 0) (new : Instance → P) (admits : Scalar → ℤ → Type 0) (asks : Asks P) (limit : ℕ) (cuts : ℕ → ℕ → List ℕ) (one : Bool) where
  abbrev ops : Operations {1}
  ops = Runs.operations P new admits asks limit cuts one

  -- where blocking calls are allowed, or not
  pub record Fronts {A : Type 0} (w : Bool) (b : Behaviour P A) : Type 0 where
    pub stops : (s : Scope P) (p : Path P) → b.runs s p [] false p Stopped
    pub counts : (s : Scope P) (p : Path P) (tr : Trace P) (y : Bool) (q : Path P) (e : End A) → b.runs s p tr y q e → Numbered p.taken tr q.taken
    pub silent : w ≡ false → (s : Scope P) (p : Path P) (tr : Trace P) (y : Bool) (q : Path P) (e : End A) → b.runs s p tr y q e → deeds_of tr ≡ []
    pub fronts : (s : Scope P) (p : Path P) (tr : Trace P) (y : Bool) (q : Path P) (e : End A) → b.runs s p tr y q e → (front back : Trace P) → tr ≡ front ++ back → (z : Bool) × (there : Path P) × b.runs s p front z there Stopped

  -- what is done at once, by one event or none

  abbrev Short : Trace P → Type 0
  Short [] = Unit {0}
  Short (a ∷ []) = Unit {0}
  Short (a ∷ b ∷ tr) = ⊥

  short_front : (act front back : Trace P) → Short act → act ≡ front ++ back → (front ≡ []) ⊎ (front ≡ act)
  short_front act [] back k e = inl refl
  short_front [] (a ∷ front) back k e = absurd (nil-ne-cons e)
  short_front (b ∷ []) (a ∷ front) back k e = inr (ap₂ (λ y z. y ∷ z) (sym (heads e)) (nil_front front back (tails e)))
  short_front (b ∷ c ∷ act) (a ∷ front) back k e = absurd k

  module _ {A : Type 0} (p : Path P) (act : Trace P) (q : Path P) (end : End A) where
    did_stops : Did p act q end [] false p Stopped
    did_stops = (refl, inr (refl, refl, refl))

    did_counts : (tr : Trace P) (y : Bool) (p' : Path P) (e : End A) → Numbered p.taken act q.taken → Did p act q end tr y p' e → Numbered p.taken tr p'.taken
    did_counts tr y p' e k (f, inl (is, to, how)) = subst (λ z. Numbered p.taken z p'.taken) (sym is) (subst (λ (z : Path P). Numbered p.taken act z.taken) (sym to) k)
    did_counts tr y p' e k (f, inr (is, to, how)) = subst (λ z. Numbered p.taken z p'.taken) (sym is) (ap (λ (z : Path P). z.taken) to)

    did_silent : (tr : Trace P) (y : Bool) (p' : Path P) (e : End A) → deeds_of act ≡ [] → Did p act q end tr y p' e → deeds_of tr ≡ []
    did_silent tr y p' e k (f, inl (is, to, how)) = ap deeds_of is ∙ k
    did_silent tr y p' e k (f, inr (is, to, how)) = ap deeds_of is

    did_front : (tr : Trace P) (y : Bool) (p' : Path P) (e : End A) → Short act → Did p act q end tr y p' e → (front back : Trace P) → tr ≡ front ++ back → (z : Bool) × (there : Path P) × Did p act q end front z there Stopped
    did_front tr y p' e k (f, inl (is, to, how)) front back split =
        ⊎_elim (λ h. (false, p, (refl, inr (h, refl, refl)))) (λ h. (false, q, (refl, inl (h, refl, inr refl)))) (short_front act front back k (sym is ∙ split))
    did_front tr y p' e k (f, inr (is, to, how)) front back split = (false, p, (refl, inr (nil_front front back (sym is ∙ split), refl, refl)))

  -- from each path one thing
  once_fronts : {A : Type 0} (w : Bool) (act : Path P → Trace P) (q : Path P → Path P) (end : Path P → End A) → ((p : Path P) → Short (act p)) → ((p : Path P) → Numbered p.taken (act p) (q p).taken) → (w ≡ false → (p : Path P) → deeds_of (act p) ≡ [])
      → Fronts w (Behaviours.at_once (λ p tr y p' e. Did p (act p) (q p) (end p) tr y p' e))
  once_fronts w act q end short numbered silent = record {
    stops = λ s p. did_stops p (act p) (q p) (end p);
    counts = λ s p tr y p' e ran. did_counts p (act p) (q p) (end p) tr y p' e (numbered p) ran;
    silent = λ k s p tr y p' e ran. did_silent p (act p) (q p) (end p) tr y p' e (silent k p) ran;
    fronts = λ s p tr y p' e ran front back is. did_front p (act p) (q p) (end p) tr y p' e (short p) ran front back is;
  }

  ret_fronts : {A : Type 0} (w : Bool) (a : A) → Fronts w (Behaviours.ret {P = P} a)
  ret_fronts w a = once_fronts w (λ p. []) (λ p. p) (λ p. Gives a) (λ p. tt) (λ p. refl) (λ k p. refl)

  leaves_fronts : {A : Type 0} (w : Bool) (x : Leave) → Fronts {A = A} w (Behaviours.leaves {P = P} x)
  leaves_fronts w x = once_fronts w (λ p. []) (λ p. p) (λ p. Leaves x) (λ p. tt) (λ p. refl) (λ k p. refl)

  spent_fronts : {A : Type 0} (w : Bool) → Fronts {A = A} w (Behaviours.spent {P = P})
  spent_fronts w = once_fronts w (λ p. []) (λ p. p) (λ p. Spent) (λ p. tt) (λ p. refl) (λ k p. refl)

  emits_fronts : (w : Bool) (event : Event P) → ((n : ℕ) → Numbered n (event ∷ []) n) → (w ≡ false → deeds_of (event ∷ []) ≡ []) → Fronts w (Behaviours.emits event)
  emits_fronts w event numbered silent = once_fronts w (λ p. event ∷ []) (λ p. p) (λ p. Gives tt) (λ p. tt) (λ p. numbered p.taken) (λ k p. silent k)

  checks_fronts : (w : Bool) (kind : CheckKind) (at : ℕ) (holds : Bool) → Fronts w (Runs.checks {P = P} kind at holds)
  checks_fronts w kind at true = ret_fronts w tt
  checks_fronts w kind at false = leaves_fronts w (Raises reason.ConstraintError)

  where_fronts : {A : Type 0} (w : Bool) (f : P → Behaviour P A) → ((x : P) → Fronts w (f x)) → (x : Option P) → Fronts w (Behaviours.where_found f x)
  where_fronts w f h None = leaves_fronts w (Raises reason.ProgramError)
  where_fronts w f h (Some x) = h x

  scope_fronts : {A : Type 0} (w : Bool) (f : Scope P → Behaviour P A) → ((s : Scope P) → Fronts w (f s)) → Fronts w (Behaviours.with_scope f)
  scope_fronts w f h = record {
    stops = λ s p. (h s).stops s p;
    counts = λ s p tr y q e ran. (h s).counts s p tr y q e ran;
    silent = λ k s p tr y q e ran. (h s).silent k s p tr y q e ran;
    fronts = λ s p tr y q e ran front back is. (h s).fronts s p tr y q e ran front back is;
  }

  -- some value, and then one thing; or it isn't begun
  any_fronts : {A V : Type 0} (w : Bool) (fine : V → Type 0) (act : V → Path P → Trace P) (q : Path P → Path P) (end : V → End A) (none : Path P → Trace P → Bool → Path P → End A → Type 0) → ((p : Path P) → ((v : V) × fine v × Did p (act v p) (q p) (end v) [] false p Stopped) ⊎ none p [] false p Stopped)
      → ((p : Path P) (tr : Trace P) (y : Bool) (p' : Path P) (e : End A) → none p tr y p' e → (tr ≡ []) × (p' ≡ p))
      → ((v : V) (p : Path P) → Short (act v p)) → ((v : V) (p : Path P) → Numbered p.taken (act v p) (q p).taken) → (w ≡ false → (v : V) (p : Path P) → deeds_of (act v p) ≡ [])
      → Fronts w (Behaviours.at_once (λ p tr y p' e. ((v : V) × fine v × Did p (act v p) (q p) (end v) tr y p' e) ⊎ none p tr y p' e))
  any_fronts {A} {V} w fine act q end none stops unbegun short numbered silent = record {
    stops = λ s p. stops p;
    counts = λ s p tr y p' e ran. ⊎_elim (λ h. did_counts p (act h.0 p) (q p) (end h.0) tr y p' e (numbered h.0 p) h.2)
        (λ h. let u = unbegun p tr y p' e h in subst (λ z. Numbered p.taken z p'.taken) (sym u.0) (ap (λ (z : Path P). z.taken) u.1)) ran;
    silent = λ k s p tr y p' e ran. ⊎_elim (λ h. did_silent p (act h.0 p) (q p) (end h.0) tr y p' e (silent k h.0 p) h.2) (λ h. ap deeds_of (unbegun p tr y p' e h).0) ran;
    fronts = λ s p tr y p' e ran front back is. ⊎_elim
        (λ h. let d = did_front p (act h.0 p) (q p) (end h.0) tr y p' e (short h.0 p) h.2 front back is in (d.0, d.1, inl (h.0, h.1, d.2)))
        (λ h. let u = unbegun p tr y p' e h in (false, p, subst (λ z. ((v : V) × fine v × Did p (act v p) (q p) (end v) z false p Stopped) ⊎ none p z false p Stopped) (sym (nil_front front back (sym u.0 ∙ is))) (stops p))) ran;
  }

  reads_fronts : (w : Bool) (x : Entity) (i : ℕ) (cell : Scalar) → Fronts w (Runs.reads {P = P} admits x i cell)
  reads_fronts w x i cell = scope_fronts w _ (λ s. where_fronts w _ (λ l. any_fronts w (admits cell) (λ v p. Reads l i v ∷ []) (λ p. p) (λ v. Gives v) (λ p tr y p' e. Behaviours.Unbegun p tr y p' e) (λ p. inr (refl, refl, refl, refl)) (λ p tr y p' e h. (h.0, h.2))
      (λ v p. tt) (λ v p. refl) (λ k v p. refl)) (find s x i))

  writes_fronts : (w : Bool) (x i : ℕ) (v : ℤ) → Fronts w (Behaviours.writes {P = P} x i v)
  writes_fronts w x i v = scope_fronts w _ (λ s. where_fronts w (λ l. Behaviours.emits (Writes l i v)) (λ l. emits_fronts w (Writes l i v) (λ n. refl) (λ k. refl)) (find s (VariableOf x) i))

  turn_fronts : (w : Bool) → Fronts w (Behaviours.turn {P = P} limit)
  turn_fronts w = record {
    stops = λ s p. go p (ltb p.turns limit) refl;
    counts = λ s p tr y p' e ran. ⊎_elim (λ h. did_counts p [] (one_turn p) (Gives tt) tr y p' e refl h.1) (λ h. did_counts p [] p Spent tr y p' e refl h.1) ran;
    silent = λ k s p tr y p' e ran. ⊎_elim (λ h. did_silent p [] (one_turn p) (Gives tt) tr y p' e refl h.1) (λ h. did_silent p [] p Spent tr y p' e refl h.1) ran;
    fronts = λ s p tr y p' e ran front back is. ⊎_elim (λ h. let d = did_front p [] (one_turn p) (Gives tt) tr y p' e tt h.1 front back is in (d.0, d.1, inl (h.0, d.2)))
        (λ h. let d = did_front p [] p Spent tr y p' e tt h.1 front back is in (d.0, d.1, inr (h.0, d.2))) ran;
  }
    where
      go : (p : Path P) (c : Bool) → ltb p.turns limit ≡ c → (Behaviours.turn {P = P} limit).runs Rattle.behaviours.specs.Paths.nothing_visible p [] false p Stopped
      go p true e = inl (ltb-true p.turns limit e, (refl, inr (refl, refl, refl)))
      go p false e = inr (ltb-false p.turns limit e, (refl, inr (refl, refl, refl)))

  recalls_fronts : (w : Bool) → Fronts w (Behaviours.recalls {P = P})
  recalls_fronts w = record {
    stops = λ s p. (Nothing, did_stops p (Recalls Nothing ∷ []) p (Gives Nothing));
    counts = λ s p tr y p' e ran. did_counts p (Recalls ran.0 ∷ []) p (Gives ran.0) tr y p' e refl ran.1;
    silent = λ k s p tr y p' e ran. did_silent p (Recalls ran.0 ∷ []) p (Gives ran.0) tr y p' e refl ran.1;
    fronts = λ s p tr y p' e ran front back is. let d = did_front p (Recalls ran.0 ∷ []) p (Gives ran.0) tr y p' e tt ran.1 front back is in (d.0, d.1, (ran.0, d.2));
  }

  takes_fronts : (w : Bool) → w ≡ true → Fronts w (Behaviours.takes {P = P})
  takes_fronts w o = record {
    stops = λ s p. (None, did_stops p (Takes p.taken None ∷ []) (one_taken p) (Gives None));
    counts = λ s p tr y p' e ran. did_counts p (Takes p.taken ran.0 ∷ []) (one_taken p) (Gives ran.0) tr y p' e (refl, refl) ran.1;
    silent = λ k s p tr y p' e ran. absurd (true≢false (sym o ∙ k));
    fronts = λ s p tr y p' e ran front back is. let d = did_front p (Takes p.taken ran.0 ∷ []) (one_taken p) (Gives ran.0) tr y p' e tt ran.1 front back is in (d.0, d.1, (ran.0, d.2));
  }

  -- put together

  bind_fronts : {A B : Type 0} (w : Bool) (b : Behaviour P A) (k : A → Behaviour P B) → Fronts w b → ((a : A) → Fronts w (k a)) → Fronts w (Behaviours.◌>>=◌ b k)
  bind_fronts {A} {B} w b k first rest = record {
    stops = λ s p. inr (Stopped, refl, first.stops s p);
    counts = λ s p tr y q e ran. ⊎_elim
        (λ h. subst (λ z. Numbered p.taken z q.taken) (sym h.6) (numbered_append h.2 h.3 p.taken h.1.taken q.taken (first.counts s p h.2 h.4 h.1 (Gives h.0) h.8) ((rest h.0).counts s h.1 h.3 h.5 q e h.9)))
        (λ h. first.counts s p tr y q h.0 h.2) ran;
    silent = λ c s p tr y q e ran. ⊎_elim
        (λ h. ap deeds_of h.6 ∙ deeds_append h.2 h.3 ∙ ap₂ (λ u v. u ++ v) (first.silent c s p h.2 h.4 h.1 (Gives h.0) h.8) ((rest h.0).silent c s h.1 h.3 h.5 q e h.9))
        (λ h. first.silent c s p tr y q h.0 h.2) ran;
    fronts = λ s p tr y q e ran front back is. ⊎_elim
        (λ h. ⊎_elim
        (λ g. let d = first.fronts s p h.2 h.4 h.1 (Gives h.0) h.8 front g.0 g.1 in (d.0, d.1, inr (Stopped, refl, d.2)))
        (λ g. let d = (rest h.0).fronts s h.1 h.3 h.5 q e h.9 g.0 back g.2 in (h.4 || d.0, d.1, inl (h.0, h.1, h.2, g.0, h.4, d.0, g.1, refl, h.8, d.2)))
        (split front back h.2 h.3 (sym h.6 ∙ is)))
        (λ h. let d = first.fronts s p tr y q h.0 h.2 front back is in (d.0, d.1, inr (Stopped, refl, d.2))) ran;
  }

  handles_fronts : {A : Type 0} (w : Bool) (b : Behaviour P A) (takes : Leave → Bool) (k : Leave → Behaviour P A) → Fronts w b → ((x : Leave) → Fronts w (k x)) → Fronts w (Behaviours.handles b takes k)
  handles_fronts {A} w b takes k first rest = record {
    stops = λ s p. inr (first.stops s p, tt);
    counts = λ s p tr y q e ran. ⊎_elim
        (λ h. subst (λ z. Numbered p.taken z q.taken) (sym h.6) (numbered_append h.2 h.3 p.taken h.1.taken q.taken (first.counts s p h.2 h.4 h.1 (Leaves h.0) h.8) ((rest h.0).counts s h.1 h.3 h.5 q e h.10)))
        (λ h. first.counts s p tr y q e h.0) ran;
    silent = λ c s p tr y q e ran. ⊎_elim
        (λ h. ap deeds_of h.6 ∙ deeds_append h.2 h.3 ∙ ap₂ (λ u v. u ++ v) (first.silent c s p h.2 h.4 h.1 (Leaves h.0) h.8) ((rest h.0).silent c s h.1 h.3 h.5 q e h.10))
        (λ h. first.silent c s p tr y q e h.0) ran;
    fronts = λ s p tr y q e ran front back is. ⊎_elim
        (λ h. ⊎_elim
        (λ g. let d = first.fronts s p h.2 h.4 h.1 (Leaves h.0) h.8 front g.0 g.1 in (d.0, d.1, inr (d.2, tt)))
        (λ g. let d = (rest h.0).fronts s h.1 h.3 h.5 q e h.10 g.0 back g.2 in (h.4 || d.0, d.1, inl (h.0, h.1, h.2, g.0, h.4, d.0, g.1, refl, h.8, h.9, d.2)))
        (split front back h.2 h.3 (sym h.6 ∙ is)))
        (λ h. let d = first.fronts s p tr y q e h.0 front back is in (d.0, d.1, inr (d.2, tt))) ran;
  }

  apart_fronts : {A : Type 0} (w : Bool) (b : Behaviour P A) → Fronts w b → Fronts w (Behaviours.apart b)
  apart_fronts w b h = record {
    stops = λ s p. h.stops (apart_of s) p;
    counts = λ s p tr y q e ran. h.counts (apart_of s) p tr y q e ran;
    silent = λ k s p tr y q e ran. h.silent k (apart_of s) p tr y q e ran;
    fronts = λ s p tr y q e ran front back is. h.fronts (apart_of s) p tr y q e ran front back is;
  }

  within_fronts : {A : Type 0} (w : Bool) (i : ℕ) (b : Behaviour P A) → Fronts w b → Fronts w (Behaviours.within i b)
  within_fronts w i b h = record {
    stops = λ s p. (enter i p, refl, h.stops s (enter i p));
    counts = λ s p tr y q e ran. subst (λ (z : Path P). Numbered p.taken tr z.taken) (sym ran.1) (h.counts s (enter i p) tr y ran.0 e ran.2);
    silent = λ k s p tr y q e ran. h.silent k s (enter i p) tr y ran.0 e ran.2;
    fronts = λ s p tr y q e ran front back is. let d = h.fronts s (enter i p) tr y ran.0 e ran.2 front back is in (d.0, leave p d.1, (d.1, refl, d.2));
  }

  cond_fronts : {A : Type 0} (w : Bool) (c : Bool) (m n : Behaviour P A) → Fronts w m → Fronts w n → Fronts w (cond c m n)
  cond_fronts w true m n h g = h
  cond_fronts w false m n h g = g

  through_fronts : {A : Type 0} (w : Bool) (first n : ℕ) (a : A) (f : ℕ → A → Behaviour P A) → ((i : ℕ) (b : A) → Fronts w (f i b)) → Fronts w (through (Behaviours.doings P) first n a f)
  through_fronts w first zero a f h = ret_fronts w a
  through_fronts w first (suc n) a f h = bind_fronts w (f first a) (λ b. through (Behaviours.doings P) (suc first) n b f) (h first a) (λ b. through_fronts w (suc first) n b f h)

  onto_fronts : (w : Bool) (a : ℤ) (more : List ℤ) (f : ℤ → ℤ → Behaviour P ℤ) → ((b c : ℤ) → Fronts w (f b c)) → Fronts w (onto (Behaviours.doings P) a more f)
  onto_fronts w a [] f h = ret_fronts w a
  onto_fronts w a (b ∷ more) f h = bind_fronts w (f a b) (λ c. onto (Behaviours.doings P) c more f) (h a b) (λ c. onto_fronts w c more f h)

  folded_fronts : (w : Bool) (f : ℤ → ℤ → Behaviour P ℤ) → ((b c : ℤ) → Fronts w (f b c)) → (a : ℤ) (v : Option ℤ) → Fronts w (folded (Behaviours.doings P) f a v)
  folded_fronts w f h a None = ret_fronts w a
  folded_fronts w f h a (Some v) = h a v

  reduce_fronts : (w : Bool) (by : Reducer) (at : ℕ) (f : ℤ → ℤ → Behaviour P ℤ) → ((b c : ℤ) → Fronts w (f b c)) → (a b : ℤ) → Fronts w (reduce (Behaviours.doings P) Runs.checks by at f a b)
  reduce_fronts w (Operator t op class) at f h a b =
      bind_fronts w (zero_checked (Behaviours.doings P) Runs.checks op at b) (λ _. Behaviours.◌>>=◌ (overflow_checked (Behaviours.doings P) Runs.checks op at (result op class a b)) (λ _. Behaviours.ret (value_or_zero (result op class a b))))
      (cond_fronts w (divides op) (Runs.checks ZeroCheck at (not (is_zero b))) (Behaviours.ret tt) (checks_fronts w ZeroCheck at (not (is_zero b))) (ret_fronts w tt))
      (λ _. bind_fronts w (overflow_checked (Behaviours.doings P) Runs.checks op at (result op class a b)) (λ _. Behaviours.ret (value_or_zero (result op class a b)))
      (cond_fronts w (overflows op) (Runs.checks OverflowCheck at (is_some (result op class a b))) (Behaviours.ret tt) (checks_fronts w OverflowCheck at (is_some (result op class a b))) (ret_fronts w tt)) (λ _. ret_fronts w (value_or_zero (result op class a b))))
  reduce_fronts w (Function t sub x y) at f h a b = h a b

  combined_fronts : (w : Bool) (v : ℤ) (values : List ℤ) (f : ℤ → ℤ → Behaviour P ℤ) → ((b c : ℤ) → Fronts w (f b c)) → Fronts w (Runs.combined P new admits asks limit cuts one v values f)
  combined_fronts w v [] f h = ret_fronts w v
  combined_fronts w v (a ∷ more) f h = onto_fronts w a more f h

  -- a new instance

  front_silent : (t whole : Trace P) → deeds_of whole ≡ [] → Behaviours.Begins t whole → deeds_of t ≡ []
  front_silent t whole e (rest, is) = (both_nil (deeds_of t) (deeds_of rest) (sym (deeds_append t rest) ∙ ap deeds_of (sym is) ∙ e)).0

  elaborated_taken : (region : Region) (x : P) (p : Path P) → (one_elaboration region x p).taken ≡ p.taken
  elaborated_taken Everywhere x p = refl
  elaborated_taken Here x p = refl

  elaborates_fronts : {A : Type 0} (w : Bool) (region : Region) (x : Entity) (vs : List ℤ) (b : Behaviour P A) → Fronts w b → Fronts w (Behaviours.elaborates new region x vs b)
  elaborates_fronts {A} w region x vs b h = record {
    stops = λ s p. inr (refl, refl, refl, (_, refl));
    counts = λ s p tr y q e ran. ⊎_elim
        (λ k. subst (λ z. Numbered p.taken z q.taken) (sym k.1)
        (numbered_append (filled p) k.0 p.taken p.taken q.taken (silent_numbered (filled p) p.taken (fillings_silent (l p) 0 vs)) (subst (λ n. Numbered n k.0 q.taken) (elaborated_taken region (l p) p) (h.counts (inner s p) (one_elaboration region (l p) p) k.0 y q e k.2))))
        (λ k. subst (λ (z : Path P). Numbered p.taken tr z.taken) (sym k.1) (silent_numbered tr p.taken (front_silent tr (filled p) (fillings_silent (l p) 0 vs) k.3))) ran;
    silent = λ c s p tr y q e ran. ⊎_elim
        (λ k. ap deeds_of k.1 ∙ deeds_append (filled p) k.0 ∙ ap₂ (λ u v. u ++ v) (fillings_silent (l p) 0 vs) (h.silent c (inner s p) (one_elaboration region (l p) p) k.0 y q e k.2))
        (λ k. front_silent tr (filled p) (fillings_silent (l p) 0 vs) k.3) ran;
    fronts = λ s p tr y q e ran front back is. ⊎_elim
        (λ k. ⊎_elim
        (λ g. (false, p, inr (refl, refl, refl, (g.0, g.1))))
        (λ g. let d = h.fronts (inner s p) (one_elaboration region (l p) p) k.0 y q e k.2 g.0 back g.2 in (d.0, d.1, inl (g.0, g.1, d.2)))
        (split front back (filled p) k.0 (sym k.1 ∙ is)))
        (λ k. (false, p, inr (refl, refl, refl, (back ++ k.3.0, k.3.1 ∙ ap (λ z. z ++ k.3.0) is ∙ append_assoc front back k.3.0)))) ran;
  }
    where
      l : Path P → P
      l p = new (record { thread = p.name; number = p.elaborations; object = x })

      filled : Path P → Trace P
      filled p = Behaviours.fillings (l p) 0 vs

      inner : Scope P → Path P → Scope P
      inner s p = declares region x (l p) (length vs) s

  -- threads

  module _ {A : Type 0} (body : Share → Behaviour P A) (fine : (j : Share) → Fronts false (body j)) (s : Scope P) (p : Path P) where
    abbrev Each : List Share → List (Ran P A) → Type 0
    Each js rs = EachRan (λ j. (body j).runs s) p js rs

    idle : List Share → List (Ran P A)
    idle [] = []
    idle (j ∷ js) = record { trace = []; early = false; path = p; end = Stopped } ∷ idle js

    idle_each : (js : List Share) → Each js (idle js)
    unfolding idle
    idle_each [] = refl
    idle_each (j ∷ js) = (record { trace = []; early = false; path = p; end = Stopped }, idle js, refl, (fine j).stops s p, idle_each js)

    idle_idle : (js : List Share) → Idle p (idle js)
    unfolding idle
    idle_idle [] = tt
    idle_idle (j ∷ js) = ((refl, refl, refl, refl), idle_idle js)

    idle_trace : (js : List Share) → in_order (traces (idle js)) ≡ []
    unfolding idle
    idle_trace [] = refl
    idle_trace (j ∷ js) = idle_trace js

    rans_silent : (js : List Share) (rs : List (Ran P A)) → Each js rs → AllSilent (traces rs)
    unfolding AllSilent
    rans_silent [] rs each = subst (λ z. AllSilent (traces z)) (sym each) tt
    rans_silent (j ∷ js) rs (r, more, is, ran, each) = subst (λ z. AllSilent (traces z)) (sym is) ((fine j).silent refl s p r.trace r.early r.path r.end ran, rans_silent js more each)

    -- in any order: each thread is stopped in its trace
    each_front : (js : List Share) (rs : List (Ran P A)) (us : List (Trace P)) → Each js rs → EachFront us (traces rs) → (qs : List (Ran P A)) × Each js qs × (traces qs ≡ us)
    unfolding EachFront
    each_front [] rs us each f = ([], refl, sym (subst (λ z. EachFront us (traces z)) each f))
    each_front (j ∷ js) rs us (r, more, is, ran, each) f =
        let g = subst (λ z. EachFront us (traces z)) is f in
        let d = (fine j).fronts s p r.trace r.early r.path r.end ran g.0 g.3.0 g.3.1 in
        let h = each_front js more g.1 each g.4 in
        let q : Ran P A = record { trace = g.0; early = d.0; path = d.1; end = Stopped } in
        (q ∷ h.0, (q, h.0, refl, d.2, h.1), ap (λ z. g.0 ∷ z) h.2 ∙ sym g.2)

    -- in order: the threads before one went to their ends, and it is stopped
    abbrev InOrder : List Share → Trace P → Type 0
    InOrder js front = (qs : List (Ran P A)) × Each js qs × (front ≡ in_order (traces qs)) × (FirstEnds p qs Stopped ⊎ NoneLeft qs)

    -- how threads ended that were taken in order
    abbrev Ordered : List (Ran P A) → Type 0
    Ordered rs = NoneLeft rs ⊎ ((e : End A) × FirstEnds p rs e)

    idle_silent : (rs : List (Ran P A)) → Idle p rs → in_order (traces rs) ≡ []
    idle_silent [] i = refl
    idle_silent (r ∷ rs) i = ap₂ (λ y z. y ++ z) i.0.0 (idle_silent rs i.1)

    stopped_in : (j : Share) (js : List Share) (r : Ran P A) → (body j).runs s p r.trace r.early r.path r.end → (front back : Trace P) → r.trace ≡ front ++ back → InOrder (j ∷ js) front
    stopped_in j js r ran front back is =
        let d = (fine j).fronts s p r.trace r.early r.path r.end ran front back is in
        let q : Ran P A = record { trace = front; early = d.0; path = d.1; end = Stopped } in
        (q ∷ idle js, (q, idle js, refl, d.2, idle_each js), sym (append-nil front) ∙ ap (λ z. front ++ z) (sym (idle_trace js)), inl (inl (refl, idle_idle js)))

    behind_one : (j : Share) (js : List Share) (r : Ran P A) → (body j).runs s p r.trace r.early r.path r.end → ((x : Leave) → r.end ≡ Leaves x → ⊥) → (r.end ≡ Stopped → ⊥) → (front rest : Trace P) → front ≡ r.trace ++ rest → InOrder js rest → InOrder (j ∷ js) front
    behind_one j js r ran left stopped front rest is (qs, each, same, how) =
        (r ∷ qs, (r, qs, refl, ran, each), is ∙ ap (λ z. r.trace ++ z) same, ⊎_elim (λ k. inl (inr ((left, stopped), k))) (λ k. inr (left, stopped, k)) how)

    ordered_front : (js : List Share) (rs : List (Ran P A)) → Each js rs → Ordered rs → (front back : Trace P) → in_order (traces rs) ≡ front ++ back → InOrder js front
    ordered_front [] rs each o front back is = ([], refl, nil_front front back (sym (ap (λ z. in_order (traces z)) each) ∙ is), inr tt)
    ordered_front (j ∷ js) rs (r, more, eq, ran, each) o front back is = go (λ o' f b. ordered_front js more each o' f b) (subst Ordered eq o) (sym (ap (λ z. in_order (traces z)) eq) ∙ is)
      where
        go : (Ordered more → (f b : Trace P) → in_order (traces more) ≡ f ++ b → InOrder js f) → Ordered (r ∷ more) → r.trace ++ in_order (traces more) ≡ front ++ back → InOrder (j ∷ js) front
        go again (inr (e, inl (ended, i))) is = stopped_in j js r ran front back (sym (append-nil r.trace) ∙ ap (λ z. r.trace ++ z) (sym (idle_silent more i)) ∙ is)
        go again (inr (e, inr ((left, stopped), k))) is = ⊎_elim (λ h. stopped_in j js r ran front h.0 h.1) (λ h. behind_one j js r ran left stopped front h.0 h.1 (again (inr (e, k)) h.0 back h.2)) (split front back r.trace (in_order (traces more)) is)
        go again (inl (left, stopped, k)) is = ⊎_elim (λ h. stopped_in j js r ran front h.0 h.1) (λ h. behind_one j js r ran left stopped front h.0 h.1 (again (inl k) h.0 back h.2)) (split front back r.trace (in_order (traces more)) is)

    all_give : (rs : List (Ran P A)) (values : List A) → AllGive rs values → NoneLeft rs
    all_give [] values g = tt
    all_give (r ∷ rs) values (a, more, e, f, g) = (λ x h. gives-ne-leaves (sym f ∙ h), λ h. gives-ne-stopped (sym f ∙ h), all_give rs more g)

    ordered : (rs : List (Ran P A)) (e : End (List A)) → JoinsInOrder p rs e → Ordered rs
    ordered rs (Gives values) j = inl (all_give rs values j)
    ordered rs (Leaves x) j = inr (Leaves x, j)
    ordered rs Spent j = inl j.0
    ordered rs Stopped j = ⊎_elim (λ k. inr (Stopped, k)) (λ k. inl k) j

    module _ (js : List Share) (site : Site) where
      abbrev construct : Behaviour P (List A)
      construct = Behaviours.par asks one site js body

      form_silent : (o : Bool) (rs : List (Ran P A)) (tr : Trace P) (e : End (List A)) → Each js rs → Form o p rs tr e → deeds_of tr ≡ []
      form_silent true rs tr e each f = ap deeds_of f.0 ∙ in_order_silent (traces rs) (rans_silent js rs each)
      form_silent false rs tr e each f = shuffle_silent (traces rs) tr f.0 (rans_silent js rs each)

      form_front : (o : Bool) (rs : List (Ran P A)) (tr : Trace P) (e : End (List A)) → Each js rs → Form o p rs tr e → (front back : Trace P) → tr ≡ front ++ back → (qs : List (Ran P A)) × Each js qs × Form o p qs front Stopped
      form_front true rs tr e each f front back is =
          let h = ordered_front js rs each (ordered rs e f.1) front back (sym f.0 ∙ is) in
          (h.0, h.1, (h.2, h.3))
      form_front false rs tr e each f front back is =
          let h = shuffle_front (traces rs) front back tr f.0 is in
          let g = each_front js rs h.0 each h.1 in
          (g.0, g.1, (subst (λ z. Shuffle z front) (sym g.2) h.2, tt))

      par_stops : construct.runs s p [] false p Stopped
      par_stops = inr (refl, refl, refl, refl)

      par_silent : (tr : Trace P) (y : Bool) (q : Path P) (e : End (List A)) → construct.runs s p tr y q e → deeds_of tr ≡ []
      par_silent tr y q e (inl (rs, each, form, early, to)) = form_silent (one || is_inside p) rs tr e each form
      par_silent tr y q e (inr (is, early, to, end)) = ap deeds_of is

      par_counts : (tr : Trace P) (y : Bool) (q : Path P) (e : End (List A)) → construct.runs s p tr y q e → Numbered p.taken tr q.taken
      par_counts tr y q e ran = subst (λ n. Numbered p.taken tr n) (sym (same ran)) (silent_numbered tr p.taken (par_silent tr y q e ran))
        where
          same : construct.runs s p tr y q e → q.taken ≡ p.taken
          same (inl (rs, each, form, early, to)) = ap (λ (z : Path P). z.taken) to
          same (inr (is, early, to, end)) = ap (λ (z : Path P). z.taken) to

      par_front : (tr : Trace P) (y : Bool) (q : Path P) (e : End (List A)) → construct.runs s p tr y q e → (front back : Trace P) → tr ≡ front ++ back → (z : Bool) × (there : Path P) × construct.runs s p front z there Stopped
      par_front tr y q e (inl (rs, each, form, early, to)) front back is =
          let h = form_front (one || is_inside p) rs tr e each form front back is in
          (some_early h.0 || false, joined p (most_turns p.turns h.0), inl (h.0, h.1, h.2, refl, refl))
      par_front tr y q e (inr (none, early, to, end)) front back is = (false, p, inr (nil_front front back (sym none ∙ is), refl, refl, refl))

  par_fronts : {A : Type 0} (w : Bool) (site : Site) (js : List Share) (body : Share → Behaviour P A) → ((j : Share) → Fronts false (body j)) → Fronts w (Behaviours.par asks one site js body)
  par_fronts w site js body fine = record {
    stops = λ s p. par_stops body fine s p js site;
    counts = λ s p tr y q e ran. par_counts body fine s p js site tr y q e ran;
    silent = λ k s p tr y q e ran. par_silent body fine s p js site tr y q e ran;
    fronts = λ s p tr y q e ran front back is. par_front body fine s p js site tr y q e ran front back is;
  }

  loop_fronts : (f : ℕ → ℕ → Behaviour P (Unit {0})) → ((j i : ℕ) → Fronts false (f j i)) → (c : Share) → Fronts false (Runs.loop_thread f c)
  loop_fronts f h c = within_fronts false c.number (through (Behaviours.doings P) c.first c.size tt (λ i _. f c.number i)) (through_fronts false c.first c.size tt (λ i _. f c.number i) (λ i _. h c.number i))

  fold_fronts : (by : Reducer) (at : ℕ) (v : ℤ) (f : ℕ → ℕ → Behaviour P (Option ℤ)) (call : ℤ → ℤ → Behaviour P ℤ) → ((j i : ℕ) → Fronts false (f j i)) → ((a b : ℤ) → Fronts false (call a b)) → (c : Share) → Fronts false (Runs.fold_thread by at v f call c)
  fold_fronts by at v f call h g c = within_fronts false c.number _ (through_fronts false c.first c.size v
      (λ i so_far. Behaviours.◌>>=◌ (f c.number i) (folded (Behaviours.doings P) (reduce (Behaviours.doings P) Runs.checks by at call) so_far))
      (λ i so_far. bind_fronts false (f c.number i) (folded (Behaviours.doings P) (reduce (Behaviours.doings P) Runs.checks by at call) so_far) (h c.number i) (folded_fronts false (reduce (Behaviours.doings P) Runs.checks by at call) (reduce_fronts false by at call g) so_far)))

  have_fronts : Relates {1, 0, 0} ops nothing
  have_fronts = record {
    World = Bool;
    Open = λ w. w ≡ true;
    inner = λ w. false;
    R = λ w b n. Fronts w b;
    ret = λ w a. ret_fronts w a;
    bind = λ {A} {B} w {m} {n} {k} {l} r f. bind_fronts w m k r f;
    reads = λ w x i cell. reads_fronts w x i cell;
    writes = λ w x i v. writes_fronts w x i v;
    elaborates = λ {A} w region u x vs {m} {n} r. elaborates_fronts w region x vs m r;
    apart = λ {A} w {m} {n} r. apart_fronts w m r;
    turn = λ w. turn_fronts w;
    look = λ w. emits_fronts w Looks (λ n. refl) (λ k. refl);
    checks = λ w kind at holds. checks_fronts w kind at holds;
    leaves = λ {A} w x. leaves_fronts w x;
    spent = λ {A} w. spent_fronts w;
    handles = λ {A} w {m} {n} takes {h} {g} r f. handles_fronts w m takes h r f;
    puts = λ w allowed bytes. emits_fronts w (Puts bytes) (λ n. refl) (λ k. absurd (true≢false (sym allowed ∙ k)));
    recalls = λ w allowed. recalls_fronts w;
    keeps = λ w allowed h. emits_fronts w (Keeps h) (λ n. refl) (λ k. refl);
    takes = λ w allowed. takes_fronts w allowed;
    loops = λ w site cut {f} {g} r. bind_fronts w (Behaviours.par asks one site (deal 0 0 (Runs.sizes_of P new admits asks limit cuts one cut)) (Runs.loop_thread (λ j. f (chunk_of cut j)))) (λ _. Behaviours.ret tt)
        (par_fronts w site (deal 0 0 (Runs.sizes_of P new admits asks limit cuts one cut)) (Runs.loop_thread (λ j. f (chunk_of cut j))) (loop_fronts (λ j. f (chunk_of cut j)) (λ j. r (chunk_of cut j)))) (λ _. ret_fronts w tt);
    reduces = λ w site cut by at v {f} {g} {c} {c'} {d} {d'} r t u.
        bind_fronts w (Behaviours.par asks one site (deal 0 0 (Runs.sizes_of P new admits asks limit cuts one cut)) (Runs.fold_thread by at v (λ j. f (chunk_of cut j)) c)) (λ values. Runs.combined P new admits asks limit cuts one v values (reduce (Behaviours.doings P) Runs.checks by at c'))
        (par_fronts w site (deal 0 0 (Runs.sizes_of P new admits asks limit cuts one cut)) (Runs.fold_thread by at v (λ j. f (chunk_of cut j)) c) (fold_fronts by at v (λ j. f (chunk_of cut j)) c (λ j. r (chunk_of cut j)) t))
        (λ values. combined_fronts w v values (reduce (Behaviours.doings P) Runs.checks by at c') (reduce_fronts w by at c' u));
  }

  pub program_fronts : (program : Program) → KeepsRule program → Fronts true (main ops limit program)
  unfolding have_fronts
  program_fronts program keeps = Induction.main have_fronts limit program keeps true refl
