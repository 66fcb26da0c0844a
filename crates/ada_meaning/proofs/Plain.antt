-- From plain states the run by notes is the stored run, operation by operation.
use Rattle.std.proofs.Common.{◌≡◌, ℕ, zero, suc, ◌+◌, ℤ, nat_lt, List, [], ◌∷◌, ◌++◌, Option, Some, None, Result, Ok, Err, inl, inr, ⊎_elim, Bool, true, false, cond, not, is_some, ◌||◌, refl, sym, subst, ap, ap₂, ◌∙◌}
use Rattle.ada_base.specs.Cuts.{cuts_of}
use Rattle.ada_base.specs.declared.reason.Reason.TheVariants as reason
use Rattle.typed_tree.specs.declared.expressions.Reducer.{Reducer}
use Rattle.typed_tree.specs.declared.expressions.Reducer.TheVariants.{Operator, Function}
use Rattle.behaviours.specs.Doings.{through, onto, folded}
use Rattle.behaviours.specs.Paths.{Leave, Raises, Entity, VariableOf, Region, Everywhere, Here}
use Rattle.behaviours.specs.Joins.{Share, Site, deal}
use Rattle.ada_meaning.specs.Values.{result, divides, overflows, is_zero, value_or_zero}
use Rattle.ada_meaning.specs.Operations.{CheckKind, ZeroCheck, OverflowCheck, chunk_of, reduce, zero_checked, overflow_checked}
use Rattle.ada_meaning.specs.Stored
use Rattle.ada_base.specs.Notes.{InOrder}
use Rattle.ada_meaning.specs.Stored.{State, Cause, Left, OutOfTurns, NoRoom, CutOff, Misnoted, After, at, Outage, Address, Kept, Stacked, Stored, Stops, cell_at, next, next_halts, next_touches, next_deeds, handled, handled_halts, handled_touches, handled_deeds, begun, ended, has_room, place_of, put_at, written_at, read_at, value_read, taken_from, took}
use Rattle.ada_meaning.specs.StoredLaw.{PlainLaw}
use Rattle.ada_meaning.proofs.Induction
use Rattle.ada_meaning.proofs.Induction.{Relates}

abbrev Plain : State → Type 0
Plain s = (s.left ≡ None) × (s.notes ≡ InOrder)

-- the bound of looks and the notes stay
abbrev Stays : State → State → Type 0
Stays s u = (u.left ≡ s.left) × (u.notes ≡ s.notes)

plain_stays : (s u : State) → Stays s u → Plain s → Plain u
plain_stays s u k p = (k.0 ∙ p.0, k.1 ∙ p.1)

stays_then : (s t u : State) → Stays s t → Stays t u → Stays s u
stays_then s t u h k = (k.0 ∙ h.0, k.1 ∙ h.1)

record Alike {A : Type 0} (m n : Stored A) : Type 0 where
  pub stays : (s : State) → Stays s (m.does s).state
  pub does : (s : State) → Plain s → m.does s ≡ n.does s
  pub into : (s : State) (f : Outage) (t : State) → Plain s → m.halts s f t → n.halts s f t
  pub back : (s : State) (f : Outage) (t : State) → Plain s → n.halts s f t → m.halts s f t
  pub touches : (s : State) → Plain s → m.touches s ≡ n.touches s
  pub deeds : (s : State) → Plain s → m.deeds s ≡ n.deeds s

alike_same : {A : Type 0} (m : Stored A) → ((s : State) → Stays s (m.does s).state) → Alike m m
alike_same m stays = record { stays = stays; does = λ s p. refl; into = λ s f t p h. h; back = λ s f t p h. h; touches = λ s p. refl; deeds = λ s p. refl }

-- what is done at once

ret_alike : {A : Type 0} (a : A) → Alike (Stored.ret a) (Stored.ret a)
unfolding Stored.ret
ret_alike a = alike_same (Stored.ret a) (λ s. (refl, refl))

leaves_alike : {A : Type 0} (x : Leave) → Alike (Stored.leaves {A = A} x) (Stored.leaves x)
unfolding Stored.leaves
leaves_alike {A} x = alike_same (Stored.leaves {A = A} x) (λ s. (refl, refl))

spent_alike : {A : Type 0} → Alike (Stored.spent {A = A}) Stored.spent
unfolding Stored.spent
spent_alike {A} = alike_same (Stored.spent {A = A}) (λ s. (refl, refl))

checks_alike : (kind : CheckKind) (token : ℕ) (holds : Bool) → Alike (Stored.checks kind token holds) (Stored.checks kind token holds)
checks_alike kind token true = ret_alike tt
checks_alike kind token false = leaves_alike (Raises reason.ConstraintError)

turn_alike : (limit : ℕ) → Alike (Stored.turn limit) (Stored.turn limit)
unfolding Stored.turn
turn_alike limit = alike_same (Stored.turn limit) (λ s. go s (nat_lt s.turns limit))
  where
    go : (s : State) (c : Bool) → let r : After (Unit {0}) = cond c (at (record s { turns = s.turns + 1 }) (Ok tt)) (at s (Err OutOfTurns)) in Stays s r.state
    go s true = (refl, refl)
    go s false = (refl, refl)

look_alike : Alike (Stored.ret tt) Stored.look
unfolding Stored.look Stored.ret
look_alike = record {
  stays = λ s. (refl, refl);
  does = λ s p. ap (λ l. Stored.looked s l) (sym p.0);
  into = λ s f t p h. h;
  back = λ s f t p h. h;
  touches = λ s p. refl;
  deeds = λ s p. refl;
}

reads_alike : (x : Entity) (i : ℕ) → Alike (Stored.reads x i) (Stored.reads x i)
unfolding Stored.reads
reads_alike x i = alike_same (Stored.reads x i) (λ s. go s (place_of s x i))
  where
    of_value : (s : State) (v : Option ℤ) → Stays s (value_read s v).state
    of_value s None = (refl, refl)
    of_value s (Some v) = (refl, refl)

    go : (s : State) (a : Option Address) → Stays s (read_at s a).state
    go s None = (refl, refl)
    go s (Some a) = of_value s (cell_at s a)

writes_alike : (x i : ℕ) (v : ℤ) → Alike (Stored.writes x i v) (Stored.writes x i v)
unfolding Stored.writes
writes_alike x i v = alike_same (Stored.writes x i v) (λ s. go s (place_of s (VariableOf x) i))
  where
    go : (s : State) (a : Option Address) → Stays s (written_at s a v).state
    go s None = (refl, refl)
    go s (Some (Kept a)) = (refl, refl)
    go s (Some (Stacked a)) = (refl, refl)

puts_alike : (piece : List ℕ) → Alike (Stored.puts piece) (Stored.puts piece)
unfolding Stored.puts
puts_alike piece = alike_same (Stored.puts piece) (λ s. (refl, refl))

recalls_alike : Alike Stored.recalls Stored.recalls
unfolding Stored.recalls
recalls_alike = alike_same Stored.recalls (λ s. (refl, refl))

keeps_alike : (h : _) → Alike (Stored.keeps h) (Stored.keeps h)
unfolding Stored.keeps
keeps_alike h = alike_same (Stored.keeps h) (λ s. (refl, refl))

takes_alike : Alike Stored.takes Stored.takes
unfolding Stored.takes
takes_alike = alike_same Stored.takes (λ s. go s s.input)
  where
    go : (s : State) (input : List ℕ) → Stays s (taken_from s input).state
    go s [] = (refl, refl)
    go s (b ∷ rest) = (refl, refl)

rewinds_alike : (n : ℕ) → Alike (Stored.rewinds n) (Stored.rewinds n)
unfolding Stored.rewinds
rewinds_alike n = alike_same (Stored.rewinds n) (λ s. (refl, refl))

-- put together

stops_into : {A : Type 0} (m n : Stored A) → Alike m n → (s : State) (f : Outage) (t : State) → Plain s → Stops m s f t → Stops n s f t
stops_into m n h s f t p (inl k) = inl k
stops_into m n h s f t p (inr k) = inr (h.into s f t p k)

stops_back : {A : Type 0} (m n : Stored A) → Alike m n → (s : State) (f : Outage) (t : State) → Plain s → Stops n s f t → Stops m s f t
stops_back m n h s f t p (inl k) = inl k
stops_back m n h s f t p (inr k) = inr (h.back s f t p k)

bind_alike : {A B : Type 0} (m n : Stored A) (k l : A → Stored B) → Alike m n → ((a : A) → Alike (k a) (l a)) → Alike (Stored.bind m k) (Stored.bind n l)
unfolding Stored.bind
bind_alike {A} {B} m n k l first rest = record {
  stays = λ s. stays_then s (m.does s).state (next (m.does s).state (m.does s).end k).state (first.stays s) (stays (m.does s).state (m.does s).end);
  does = λ s p. same (m.does s).state (m.does s).end (plain s p) ∙ ap (λ (r : After A). next r.state r.end l) (first.does s p);
  into = λ s f t p h. ⊎_elim (λ z. inl (stops_into m n first s f t p z)) (λ z. inr (subst (λ (r : After A). next_halts r.state r.end l f t) (first.does s p) (into f t (m.does s).state (m.does s).end (plain s p) z))) h;
  back = λ s f t p h. ⊎_elim (λ z. inl (stops_back m n first s f t p z)) (λ z. inr (back f t (m.does s).state (m.does s).end (plain s p) (subst (λ (r : After A). next_halts r.state r.end l f t) (sym (first.does s p)) z))) h;
  touches = λ s p. ap₂ (λ y z. y ++ z) (first.touches s p) (touches (m.does s).state (m.does s).end (plain s p) ∙ ap (λ (r : After A). next_touches r.state r.end l) (first.does s p));
  deeds = λ s p. ap₂ (λ y z. y ++ z) (first.deeds s p) (deeds (m.does s).state (m.does s).end (plain s p) ∙ ap (λ (r : After A). next_deeds r.state r.end l) (first.does s p));
}
  where
    plain : (s : State) → Plain s → Plain (m.does s).state
    plain s p = plain_stays s (m.does s).state (first.stays s) p

    stays : (u : State) (e : Result A Cause) → Stays u (next u e k).state
    stays u (Ok a) = (rest a).stays u
    stays u (Err c) = (refl, refl)

    same : (u : State) (e : Result A Cause) → Plain u → next u e k ≡ next u e l
    same u (Ok a) p = (rest a).does u p
    same u (Err c) p = refl

    into : (f : Outage) (t u : State) (e : Result A Cause) → Plain u → next_halts u e k f t → next_halts u e l f t
    into f t u (Ok a) p h = stops_into (k a) (l a) (rest a) u f t p h
    into f t u (Err c) p h = h

    back : (f : Outage) (t u : State) (e : Result A Cause) → Plain u → next_halts u e l f t → next_halts u e k f t
    back f t u (Ok a) p h = stops_back (k a) (l a) (rest a) u f t p h
    back f t u (Err c) p h = h

    touches : (u : State) (e : Result A Cause) → Plain u → next_touches u e k ≡ next_touches u e l
    touches u (Ok a) p = (rest a).touches u p
    touches u (Err c) p = refl

    deeds : (u : State) (e : Result A Cause) → Plain u → next_deeds u e k ≡ next_deeds u e l
    deeds u (Ok a) p = (rest a).deeds u p
    deeds u (Err c) p = refl

choose : {A : Type 0} (c : Bool) {m n k l : Stored A} → Alike m n → Alike k l → Alike (cond c m k) (cond c n l)
choose true h g = h
choose false h g = g

handles_alike : {A : Type 0} (m n : Stored A) (takes : Leave → Bool) (k l : Leave → Stored A) → Alike m n → ((x : Leave) → Alike (k x) (l x)) → Alike (Stored.handles m takes k) (Stored.handles n takes l)
unfolding Stored.handles
handles_alike {A} m n takes k l first rest = record {
  stays = λ s. stays_then s (m.does s).state (handled (m.does s).state (m.does s).end takes k).state (first.stays s) (stays (m.does s).state (m.does s).end);
  does = λ s p. same (m.does s).state (m.does s).end (plain s p) ∙ ap (λ (r : After A). handled r.state r.end takes l) (first.does s p);
  into = λ s f t p h. ⊎_elim (λ z. inl (stops_into m n first s f t p z)) (λ z. inr (subst (λ (r : After A). handled_halts r.state r.end takes l f t) (first.does s p) (into f t (m.does s).state (m.does s).end (plain s p) z))) h;
  back = λ s f t p h. ⊎_elim (λ z. inl (stops_back m n first s f t p z)) (λ z. inr (back f t (m.does s).state (m.does s).end (plain s p) (subst (λ (r : After A). handled_halts r.state r.end takes l f t) (sym (first.does s p)) z))) h;
  touches = λ s p. ap₂ (λ y z. y ++ z) (first.touches s p) (touches (m.does s).state (m.does s).end (plain s p) ∙ ap (λ (r : After A). handled_touches r.state r.end takes l) (first.does s p));
  deeds = λ s p. ap₂ (λ y z. y ++ z) (first.deeds s p) (deeds (m.does s).state (m.does s).end (plain s p) ∙ ap (λ (r : After A). handled_deeds r.state r.end takes l) (first.does s p));
}
  where
    plain : (s : State) → Plain s → Plain (m.does s).state
    plain s p = plain_stays s (m.does s).state (first.stays s) p

    stays_taken : (u : State) (x : Leave) (c : Bool) → Stays u (cond c ((k x).does u) (at u (Err (Left x)))).state
    stays_taken u x true = (rest x).stays u
    stays_taken u x false = (refl, refl)

    stays : (u : State) (e : Result A Cause) → Stays u (handled u e takes k).state
    stays u (Ok a) = (refl, refl)
    stays u (Err (Left x)) = stays_taken u x (takes x)
    stays u (Err OutOfTurns) = (refl, refl)
    stays u (Err NoRoom) = (refl, refl)
    stays u (Err CutOff) = (refl, refl)
    stays u (Err Misnoted) = (refl, refl)

    same : (u : State) (e : Result A Cause) → Plain u → handled u e takes k ≡ handled u e takes l
    same u (Ok a) p = refl
    same u (Err (Left x)) p = ap (λ z. cond (takes x) z (at u (Err (Left x)))) ((rest x).does u p)
    same u (Err OutOfTurns) p = refl
    same u (Err NoRoom) p = refl
    same u (Err CutOff) p = refl
    same u (Err Misnoted) p = refl

    into_taken : (f : Outage) (t u : State) (x : Leave) → Plain u → (c : Bool) → cond c (Stops (k x) u f t) ⊥ → cond c (Stops (l x) u f t) ⊥
    into_taken f t u x p true h = stops_into (k x) (l x) (rest x) u f t p h
    into_taken f t u x p false h = h

    into : (f : Outage) (t u : State) (e : Result A Cause) → Plain u → handled_halts u e takes k f t → handled_halts u e takes l f t
    into f t u (Ok a) p h = h
    into f t u (Err (Left x)) p h = into_taken f t u x p (takes x) h
    into f t u (Err OutOfTurns) p h = h
    into f t u (Err NoRoom) p h = h
    into f t u (Err CutOff) p h = h
    into f t u (Err Misnoted) p h = h

    back_taken : (f : Outage) (t u : State) (x : Leave) → Plain u → (c : Bool) → cond c (Stops (l x) u f t) ⊥ → cond c (Stops (k x) u f t) ⊥
    back_taken f t u x p true h = stops_back (k x) (l x) (rest x) u f t p h
    back_taken f t u x p false h = h

    back : (f : Outage) (t u : State) (e : Result A Cause) → Plain u → handled_halts u e takes l f t → handled_halts u e takes k f t
    back f t u (Ok a) p h = h
    back f t u (Err (Left x)) p h = back_taken f t u x p (takes x) h
    back f t u (Err OutOfTurns) p h = h
    back f t u (Err NoRoom) p h = h
    back f t u (Err CutOff) p h = h
    back f t u (Err Misnoted) p h = h

    touches : (u : State) (e : Result A Cause) → Plain u → handled_touches u e takes k ≡ handled_touches u e takes l
    touches u (Ok a) p = refl
    touches u (Err (Left x)) p = ap (λ z. cond (takes x) z []) ((rest x).touches u p)
    touches u (Err OutOfTurns) p = refl
    touches u (Err NoRoom) p = refl
    touches u (Err CutOff) p = refl
    touches u (Err Misnoted) p = refl

    deeds : (u : State) (e : Result A Cause) → Plain u → handled_deeds u e takes k ≡ handled_deeds u e takes l
    deeds u (Ok a) p = refl
    deeds u (Err (Left x)) p = ap (λ z. cond (takes x) z []) ((rest x).deeds u p)
    deeds u (Err OutOfTurns) p = refl
    deeds u (Err NoRoom) p = refl
    deeds u (Err CutOff) p = refl
    deeds u (Err Misnoted) p = refl

apart_alike : {A : Type 0} (m n : Stored A) → Alike m n → Alike (Stored.apart m) (Stored.apart n)
unfolding Stored.apart
apart_alike {A} m n h = record {
  stays = λ s. h.stays (record s { frame = s.frame + 1 });
  does = λ s p. ap (λ (r : After A). at (record r.state { frame = s.frame }) r.end) (h.does (record s { frame = s.frame + 1 }) p);
  into = λ s f t p (u, k, e). (u, stops_into m n h (record s { frame = s.frame + 1 }) f u p k, e);
  back = λ s f t p (u, k, e). (u, stops_back m n h (record s { frame = s.frame + 1 }) f u p k, e);
  touches = λ s p. h.touches (record s { frame = s.frame + 1 }) p;
  deeds = λ s p. h.deeds (record s { frame = s.frame + 1 }) p;
}

begun_stays : (region : Region) (x : Entity) (vs : List ℤ) (s : State) → Stays s (begun region x vs s)
begun_stays Here x vs s = (refl, refl)
begun_stays Everywhere x vs s = (refl, refl)

ended_stays : (region : Region) (x : Entity) (s u : State) → Stays u (ended region x s u)
ended_stays Here x s u = (refl, refl)
ended_stays Everywhere x s u = (refl, refl)

elaborates_alike : {A : Type 0} (region : Region) (x : Entity) (vs : List ℤ) (m n : Stored A) → Alike m n → Alike (Stored.elaborates region x vs m) (Stored.elaborates region x vs n)
unfolding Stored.elaborates
elaborates_alike {A} region x vs m n h = record {
  stays = λ s. stays s (has_room region x s);
  does = λ s p. ap (λ (r : After A). cond (has_room region x s) (at (ended region x s r.state) r.end) (at s (Err NoRoom))) (h.does (begun region x vs s) (plain s p));
  into = λ s f t p (room, (u, k, e)). (room, (u, stops_into m n h (begun region x vs s) f u (plain s p) k, e));
  back = λ s f t p (room, (u, k, e)). (room, (u, stops_back m n h (begun region x vs s) f u (plain s p) k, e));
  touches = λ s p. ap (λ z. cond (has_room region x s) z []) (h.touches (begun region x vs s) (plain s p));
  deeds = λ s p. ap (λ z. cond (has_room region x s) z []) (h.deeds (begun region x vs s) (plain s p));
}
  where
    plain : (s : State) → Plain s → Plain (begun region x vs s)
    plain s p = plain_stays s (begun region x vs s) (begun_stays region x vs s) p

    stays : (s : State) (c : Bool) → Stays s (cond c (at (ended region x s (m.does (begun region x vs s)).state) (m.does (begun region x vs s)).end) (at s (Err NoRoom))).state
    stays s true =
        let b = begun region x vs s in
        let u = (m.does b).state in
        stays_then s b (ended region x s u) (begun_stays region x vs s) (stays_then b u (ended region x s u) (h.stays b) (ended_stays region x s u))
    stays s false = (refl, refl)

-- threads

took_stays : {A : Type 0} (most : ℕ) (u : State) (e : Result A Cause) → Stays u (took most u e).state
took_stays most u (Ok a) = (refl, refl)
took_stays most u (Err (Left x)) = (refl, refl)
took_stays most u (Err OutOfTurns) = (refl, refl)
took_stays most u (Err NoRoom) = (refl, refl)
took_stays most u (Err CutOff) = (refl, refl)
took_stays most u (Err Misnoted) = (refl, refl)

thread_alike : {A : Type 0} (most : ℕ) (m n : Stored A) → Alike m n → Alike (Stored.thread most m) (Stored.thread most n)
unfolding Stored.thread
thread_alike {A} most m n h = record {
  stays = λ s. stays_then s (m.does s).state (took most (m.does s).state (m.does s).end).state (h.stays s) (took_stays most (m.does s).state (m.does s).end);
  does = λ s p. ap (λ (r : After A). took most r.state r.end) (h.does s p);
  into = h.into;
  back = h.back;
  touches = h.touches;
  deeds = h.deeds;
}

module _ {A B : Type 0} (f : B → A → B) (body other : Share → Stored A) (each : (j : Share) → Alike (body j) (other j)) where
  threads_alike : (from : ℕ) (js : List Share) (most : ℕ) (over : Bool) (b : B) → Alike (Stored.threads f body from js most over b) (Stored.threads f other from js most over b)
  threads_alike from [] most over b = bind_alike (Stored.rewinds most) (Stored.rewinds most) (λ _. cond over Stored.spent (Stored.ret b)) (λ _. cond over Stored.spent (Stored.ret b)) (rewinds_alike most) (λ _. choose over spent_alike (ret_alike b))
  threads_alike from (j ∷ js) most over b =
      bind_alike (Stored.rewinds from) (Stored.rewinds from) (λ _. Stored.bind (Stored.thread most (body j)) (λ k. Stored.threads f body from js k.most (over || Stored.is_spent k.value) (Stored.gathered f b k.value)))
      (λ _. Stored.bind (Stored.thread most (other j)) (λ k. Stored.threads f other from js k.most (over || Stored.is_spent k.value) (Stored.gathered f b k.value))) (rewinds_alike from)
      (λ _. bind_alike (Stored.thread most (body j)) (Stored.thread most (other j)) (λ k. Stored.threads f body from js k.most (over || Stored.is_spent k.value) (Stored.gathered f b k.value)) (λ k. Stored.threads f other from js k.most (over || Stored.is_spent k.value) (Stored.gathered f b k.value)) (thread_alike most (body j) (other j) (each j))
      (λ k. threads_alike from js k.most (over || Stored.is_spent k.value) (Stored.gathered f b k.value)))

  par_alike : (b : B) (js : List Share) → Alike (Stored.par f b js body) (Stored.par f b js other)
  unfolding Stored.par
  par_alike b js = record {
    stays = λ s. (threads_alike s.turns js s.turns false b).stays s;
    does = λ s p. (threads_alike s.turns js s.turns false b).does s p;
    into = λ s. (threads_alike s.turns js s.turns false b).into s;
    back = λ s. (threads_alike s.turns js s.turns false b).back s;
    touches = λ s p. (threads_alike s.turns js s.turns false b).touches s p;
    deeds = λ s p. (threads_alike s.turns js s.turns false b).deeds s p;
  }

team_alike : {A B : Type 0} (site : Site) (f : B → A → B) (body other : Share → Stored A) → ((j : Share) → Alike (body j) (other j)) → (b : B) (js : List Share) → Alike (Stored.par f b js body) (Stored.noted_team site f b js other)
unfolding Stored.noted_team Stored.noted_par
team_alike {A} {B} site f body other each b js = record {
  stays = in_order.stays;
  does = λ s p. in_order.does s p ∙ ap (λ N. (Stored.by_notes f b js other' N).does s) (sym p.1);
  into = λ s t u p h. subst (λ N. (Stored.by_notes f b js other' N).halts s t u) (sym p.1) (in_order.into s t u p h);
  back = λ s t u p h. in_order.back s t u p (subst (λ N. (Stored.by_notes f b js other' N).halts s t u) p.1 h);
  touches = λ s p. in_order.touches s p ∙ ap (λ N. (Stored.by_notes f b js other' N).touches s) (sym p.1);
  deeds = λ s p. in_order.deeds s p ∙ ap (λ N. (Stored.by_notes f b js other' N).deeds s) (sym p.1);
}
  where
    other' : Share → Stored A
    other' j = Stored.visited j (other j)

    in_order : Alike (Stored.par f b js body) (Stored.par f b js other')
    in_order = par_alike f body other' (λ j. let h = each j in record { stays = h.stays; does = h.does; into = h.into; back = h.back; touches = h.touches; deeds = h.deeds }) b js

-- constructs

through_alike : {A : Type 0} (first n : ℕ) (a : A) (f g : ℕ → A → Stored A) → ((i : ℕ) (b : A) → Alike (f i b) (g i b)) → Alike (through Stored.doings first n a f) (through Stored.doings first n a g)
through_alike first zero a f g h = ret_alike a
through_alike first (suc n) a f g h = bind_alike (f first a) (g first a) (λ b. through Stored.doings (suc first) n b f) (λ b. through Stored.doings (suc first) n b g) (h first a) (λ b. through_alike (suc first) n b f g h)

onto_alike : (a : ℤ) (more : List ℤ) (f g : ℤ → ℤ → Stored ℤ) → ((b c : ℤ) → Alike (f b c) (g b c)) → Alike (onto Stored.doings a more f) (onto Stored.doings a more g)
onto_alike a [] f g h = ret_alike a
onto_alike a (b ∷ more) f g h = bind_alike (f a b) (g a b) (λ c. onto Stored.doings c more f) (λ c. onto Stored.doings c more g) (h a b) (λ c. onto_alike c more f g h)

folded_alike : (f g : ℤ → ℤ → Stored ℤ) → ((b c : ℤ) → Alike (f b c) (g b c)) → (a : ℤ) (v : Option ℤ) → Alike (folded Stored.doings f a v) (folded Stored.doings g a v)
folded_alike f g h a None = ret_alike a
folded_alike f g h a (Some v) = h a v

reduce_alike : (by : Reducer) (token : ℕ) (f g : ℤ → ℤ → Stored ℤ) → ((b c : ℤ) → Alike (f b c) (g b c)) → (a b : ℤ) → Alike (reduce Stored.doings Stored.checks by token f a b) (reduce Stored.doings Stored.checks by token g a b)
reduce_alike (Operator t op class) token f g h a b =
    let last = λ (_ : Unit {0}). Stored.ret (value_or_zero (result op class a b)) in
    let then = λ (_ : Unit {0}). Stored.bind (overflow_checked Stored.doings Stored.checks op token (result op class a b)) last in
    bind_alike (zero_checked Stored.doings Stored.checks op token b) (zero_checked Stored.doings Stored.checks op token b) then then
    (choose (divides op) (checks_alike ZeroCheck token (not (is_zero b))) (ret_alike tt))
    (λ _. bind_alike (overflow_checked Stored.doings Stored.checks op token (result op class a b)) (overflow_checked Stored.doings Stored.checks op token (result op class a b)) last last
    (choose (overflows op) (checks_alike OverflowCheck token (is_some (result op class a b))) (ret_alike tt)) (λ _. ret_alike (value_or_zero (result op class a b))))
reduce_alike (Function t s x y) token f g h a b = h a b

module _ (limit : ℕ) (cuts : ℕ → ℕ → List ℕ) where
  combined_alike : (v : ℤ) (values : List ℤ) (f g : ℤ → ℤ → Stored ℤ) → ((b c : ℤ) → Alike (f b c) (g b c)) → Alike (Stored.combined limit cuts v values f) (Stored.combined limit cuts v values g)
  combined_alike v [] f g h = ret_alike v
  combined_alike v (a ∷ more) f g h = onto_alike a more f g h

  loop_alike : (f g : ℕ → ℕ → Stored (Unit {0})) → ((j i : ℕ) → Alike (f j i) (g j i)) → (c : Share) → Alike (Stored.loop_thread f c) (Stored.loop_thread g c)
  loop_alike f g h c = through_alike c.first c.size tt (λ i _. f c.number i) (λ i _. g c.number i) (λ i _. h c.number i)

  fold_alike : (by : Reducer) (token : ℕ) (v : ℤ) (f g : ℕ → ℕ → Stored (Option ℤ)) (c d : ℤ → ℤ → Stored ℤ) → ((j i : ℕ) → Alike (f j i) (g j i)) → ((a b : ℤ) → Alike (c a b) (d a b)) → (k : Share) → Alike (Stored.fold_thread by token v f c k) (Stored.fold_thread by token v g d k)
  fold_alike by token v f g c d h e k = through_alike k.first k.size v
      (λ i so_far. Stored.bind (f k.number i) (folded Stored.doings (reduce Stored.doings Stored.checks by token c) so_far))
      (λ i so_far. Stored.bind (g k.number i) (folded Stored.doings (reduce Stored.doings Stored.checks by token d) so_far))
      (λ i so_far. bind_alike (f k.number i) (g k.number i) (folded Stored.doings (reduce Stored.doings Stored.checks by token c) so_far) (folded Stored.doings (reduce Stored.doings Stored.checks by token d) so_far) (h k.number i)
      (folded_alike (reduce Stored.doings Stored.checks by token c) (reduce Stored.doings Stored.checks by token d) (reduce_alike by token c d e) so_far))

  alike : Relates {1, 1, 0} (Stored.operations limit cuts) (Stored.noted_operations limit cuts)
  alike = record {
    World = Unit {0};
    Open = λ w. Unit {0};
    inner = λ w. tt;
    R = λ w m n. Alike m n;
    ret = λ w a. ret_alike a;
    bind = λ {A} {B} w {m} {n} {k} {l} r f. bind_alike m n k l r f;
    reads = λ w x i cell. reads_alike x i;
    writes = λ w x i v. writes_alike x i v;
    elaborates = λ {A} w region u x vs {m} {n} r. elaborates_alike region x vs m n r;
    apart = λ {A} w {m} {n} r. apart_alike m n r;
    turn = λ w. turn_alike limit;
    look = λ w. look_alike;
    checks = λ w kind at holds. checks_alike kind at holds;
    leaves = λ {A} w x. leaves_alike x;
    spent = λ {A} w. spent_alike;
    handles = λ {A} w {m} {n} takes {h} {g} r f. handles_alike m n takes h g r f;
    puts = λ w allowed bytes. puts_alike bytes;
    recalls = λ w allowed. recalls_alike;
    keeps = λ w allowed h. keeps_alike h;
    takes = λ w allowed. takes_alike;
    loops = λ w site cut {f} {g} r.
        let js = deal 0 0 (Stored.sizes_of limit cuts cut) in
        bind_alike (Stored.par Stored.first_of_both tt js (Stored.loop_thread (λ j. f (chunk_of cut j)))) (Stored.noted_team site Stored.first_of_both tt js (Stored.loop_thread (λ j. g (chunk_of cut j)))) (λ _. Stored.ret tt) (λ _. Stored.ret tt)
        (team_alike site Stored.first_of_both (Stored.loop_thread (λ j. f (chunk_of cut j))) (Stored.loop_thread (λ j. g (chunk_of cut j))) (loop_alike (λ j. f (chunk_of cut j)) (λ j. g (chunk_of cut j)) (λ j. r (chunk_of cut j))) tt js) (λ _. ret_alike tt);
    reduces = λ w site cut by at v {f} {g} {c} {c'} {d} {d'} r t u.
        let js = deal 0 0 (Stored.sizes_of limit cuts cut) in
        bind_alike (Stored.par Stored.after_all [] js (Stored.fold_thread by at v (λ j. f (chunk_of cut j)) c)) (Stored.noted_team site Stored.after_all [] js (Stored.fold_thread by at v (λ j. g (chunk_of cut j)) d))
        (λ values. Stored.combined limit cuts v values (reduce Stored.doings Stored.checks by at c')) (λ values. Stored.combined limit cuts v values (reduce Stored.doings Stored.checks by at d'))
        (team_alike site Stored.after_all (Stored.fold_thread by at v (λ j. f (chunk_of cut j)) c) (Stored.fold_thread by at v (λ j. g (chunk_of cut j)) d) (fold_alike by at v (λ j. f (chunk_of cut j)) (λ j. g (chunk_of cut j)) c d (λ j. r (chunk_of cut j)) t) [] js)
        (λ values. combined_alike v values (reduce Stored.doings Stored.checks by at c') (reduce Stored.doings Stored.checks by at d') (reduce_alike by at c' d' u));
  }

pub plain_law : PlainLaw
unfolding alike
plain_law program set s keeps left notes =
    let h = Induction.main (alike set.limit (cuts_of set.plan)) set.limit program keeps tt tt in
    (h.does s (left, notes), λ f t k. h.into s f t (left, notes) k, λ f t k. h.back s f t (left, notes) k, h.touches s (left, notes), h.deeds s (left, notes))
