-- A Get of the plain reading is the one of a stored run.
use Rattle.std.proofs.Common.{◌≡◌, ℕ, zero, suc, ◌+◌, ◌-◌, ◌≤◌, nat_lt, List, [], ◌∷◌, ◌++◌, Option, None, Result, Ok, Err, true, false, ℤ, refl, sym, ap, subst, ◌∙◌, inl, inr, arith}
use Rattle.std.proofs.lemmas.Bool.{lt-ltb, lt-leb}
use Rattle.std.proofs.lemmas.List.{append-nil}
use Rattle.ada_base.specs.Input.{Held}
use Rattle.ada_base.specs.Input as input
use Rattle.ada_base.proofs.Readings
use Rattle.ada_base.proofs.Readings.{Relates}
use Rattle.behaviours.specs.Paths.{Raises}
use Rattle.ada_meaning.specs.Meaning
use Rattle.ada_meaning.specs.Deeds.{Deed}
use Rattle.ada_meaning.specs.Stored
use Rattle.ada_meaning.specs.Stored.{State, Stored, Left, OutOfTurns, InputFault, Goes, Fails, Stops, next_halts, Computes}
use Rattle.ada_io.specs.declared.input.GetEnd.{GetEnd}
use Rattle.ada_io.specs.declared.input.Got.{Got}
use Rattle.ada_io.specs.declared.input.GetEnd.TheVariants.{Number, Raise, ReadFault, Spent}
use Rattle.ada_io.specs.Plain.{Feed, Byte, End, Fault, fed, Raised, Failed, TurnsSpent, Doing, given, asked, plain}
use Rattle.ada_io.specs.Plain
use Rattle.ada_io.specs.Gets.{Last, Open, AtEnd, Broken, MayFollow, last_of, answer_of, ReaderState, Gets}
use Rattle.ada_io.proofs.Enough.{enough}
use Rattle.ada_port.specs.Ports.{Stream}

-- the bytes that are still to come, where these come after a fault
abbrev pub bytes_of : Feed → List ℕ → List ℕ
bytes_of (Byte b more) later = b ∷ bytes_of more later
bytes_of End later = []
bytes_of Fault later = later

module _ (limit : ℕ) (cuts : ℕ → ℕ → List ℕ) where
  -- the state of a stored run, which doesn't keep what it does outside, in which a plain one is read
  abbrev pub around : State → List ℕ → Plain.State → State
  around base later p = record base { held = p.held; input = bytes_of p.feed later; turns = limit - p.turns; taken = p.taken; done = None }

  abbrev Ends : {A : Type 0} → Stored A → State → Result A Plain.Stop → State → Type 0
  Ends q s (Ok a) t = q.does s ≡ Stored.at t (Ok a)
  Ends q s (Err (Raised r)) t = q.does s ≡ Stored.at t (Err (Left (Raises r)))
  Ends q s (Err TurnsSpent) t = q.does s ≡ Stored.at t (Err OutOfTurns)
  Ends q s (Err Failed) t = Stops q s InputFault t

  record Same {A : Type 0} (m : Doing A) (q : Stored A) : Type 0 where
    within : (p : Plain.State) → p.turns ≤ limit → (m p).state.turns ≤ limit
    same : (base : State) (later : List ℕ) (p : Plain.State) → p.turns ≤ limit → Ends q (around base later p) (m p).answer (around base later (m p).state)

  -- what is done after a value
  goes_on : {A B : Type 0} (q : Stored A) (l : A → Stored B) (s t u : State) (a : A) (answer : Result B Plain.Stop) → q.does s ≡ Stored.at t (Ok a) → Ends (l a) t answer u → Ends (Stored.bind q l) s answer u
  unfolding Stored.bind
  goes_on q l s t u a (Ok b) e h = ap (λ r. Stored.next r.state r.end l) e ∙ h
  goes_on q l s t u a (Err (Raised r)) e h = ap (λ x. Stored.next x.state x.end l) e ∙ h
  goes_on q l s t u a (Err TurnsSpent) e h = ap (λ r. Stored.next r.state r.end l) e ∙ h
  goes_on q l s t u a (Err Failed) e h = inr (inr (subst (λ r. next_halts r.state r.end l InputFault u) (sym e) h))

  stopped : {A B : Type 0} (q : Stored A) (l : A → Stored B) (s t : State) (stop : Plain.Stop) → Ends q s (Err stop) t → Ends (Stored.bind q l) s (Err stop) t
  unfolding Stored.bind
  stopped q l s t (Raised r) e = ap (λ x. Stored.next x.state x.end l) e
  stopped q l s t TurnsSpent e = ap (λ r. Stored.next r.state r.end l) e
  stopped q l s t Failed e = inr (inl e)

  bound : {A B : Type 0} {m : Doing A} {q : Stored A} {k : A → Doing B} {l : A → Stored B} → Same m q → ((a : A) → Same (k a) (l a)) → Same (Plain.then m k) (Stored.bind q l)
  bound {A} {B} {m} {q} {k} {l} first rest = record {
    within = λ p h. keeps (m p) (first.within p h);
    same = λ base later p h. goes base later (around base later p) (m p) (first.within p h) (first.same base later p h);
  }
    where
      keeps : (r : Plain.After A) → r.state.turns ≤ limit → (Plain.next r.state r.answer k).state.turns ≤ limit
      keeps r h = go r.answer
        where
          go : (answer : Result A Plain.Stop) → (Plain.next r.state answer k).state.turns ≤ limit
          go (Ok a) = (rest a).within r.state h
          go (Err stop) = h

      goes : (base : State) (later : List ℕ) (s : State) (r : Plain.After A) → r.state.turns ≤ limit → Ends q s r.answer (around base later r.state)
          → let n = Plain.next r.state r.answer k in Ends (Stored.bind q l) s n.answer (around base later n.state)
      goes base later s r h e = go r.answer e
        where
          go : (answer : Result A Plain.Stop) → Ends q s answer (around base later r.state) → let n = Plain.next r.state answer k in Ends (Stored.bind q l) s n.answer (around base later n.state)
          go (Ok a) d = goes_on q l s (around base later r.state) _ a _ d ((rest a).same base later r.state h)
          go (Err stop) d = stopped q l s (around base later r.state) stop d

  -- a turn and then the source
  abbrev pub plainly : Held → Feed → ℕ → ℕ → Plain.State
  plainly h feed turns taken = record { held = h; feed = feed; turns = turns; taken = taken }

  takes_same : (base : State) (later : List ℕ) (h : Held) (n taken : ℕ) (feed : Feed) → let r = given (plainly h feed n taken) feed in Ends Stored.takes (around base later (plainly h feed n taken)) r.answer (around base later r.state)
  unfolding Stored.takes
  takes_same base later h n taken (Byte b more) = refl
  takes_same base later h n taken End = refl
  takes_same base later h n taken Fault = inr (refl, refl)

  turn_same : (base : State) (later : List ℕ) (p : Plain.State) (n : ℕ) → p.turns ≡ suc n → p.turns ≤ limit → (Stored.turn limit).does (around base later p) ≡ Stored.at (around base later (record p { turns = n })) (Ok tt)
  unfolding Stored.turn
  turn_same base later p n e h =
      let yes : nat_lt (limit - p.turns) limit ≡ true = lt-ltb (limit - p.turns) limit (omega arith) in
      let one : limit - p.turns + 1 ≡ limit - n = omega arith in
      rw yes (ap (λ k. Stored.at (record base { held = p.held; input = bytes_of p.feed later; turns = k; taken = p.taken; done = None }) (Ok tt)) one)

  spent_same : (base : State) (later : List ℕ) (p : Plain.State) → p.turns ≡ 0 → (Stored.turn limit).does (around base later p) ≡ Stored.at (around base later p) (Err OutOfTurns)
  unfolding Stored.turn
  spent_same base later p e = let nay : nat_lt (limit - p.turns) limit ≡ false = lt-leb (suc (limit - p.turns)) limit (omega arith) in rw nay refl

  asks_same : Same (λ p. asked p p.turns) (Stored.bind (Stored.turn limit) (λ u. Stored.takes))
  asks_same = record { within = λ p h. fewer p p.turns refl h; same = λ base later p h. go base later p p.turns refl h }
    where
      fewer : (p : Plain.State) (n : ℕ) → p.turns ≡ n → p.turns ≤ limit → (asked p n).state.turns ≤ limit
      fewer p zero e h = h
      fewer p (suc n) e h = left p.feed
        where
          left : (feed : Feed) → (given (record p { turns = n }) feed).state.turns ≤ limit
          left (Byte b more) = omega arith
          left End = omega arith
          left Fault = omega arith

      go : (base : State) (later : List ℕ) (p : Plain.State) (n : ℕ) → p.turns ≡ n → p.turns ≤ limit → let r = asked p n in Ends (Stored.bind (Stored.turn limit) (λ u. Stored.takes)) (around base later p) r.answer (around base later r.state)
      go base later p zero e h = stopped (Stored.turn limit) (λ u. Stored.takes) _ _ TurnsSpent (spent_same base later p e)
      go base later p (suc n) e h = goes_on (Stored.turn limit) (λ u. Stored.takes) (around base later p) (around base later (record p { turns = n })) _ tt _ (turn_same base later p n e h) (takes_same base later p.held n p.taken p.feed)

  related : Relates {0, 1, 0} plain (Meaning.reading (Stored.operations limit cuts))
  unfolding Stored.ret Stored.recalls Stored.keeps Stored.leaves Stored.spent
  related = record {
    R = λ {A} m q. Same {A = A} m q;
    ret = λ {A} a. record { within = λ p h. h; same = λ base later p h. refl };
    bind = λ {A} {B} {m} {n} {k} {l} g h. bound g h;
    asks = asks_same;
    recalls = record { within = λ p h. h; same = λ base later p h. refl };
    keeps = λ held. record { within = λ p h. h; same = λ base later p h. refl };
    raises = λ {A} r. record { within = λ p h. h; same = λ base later p h. refl };
    spent = λ {A}. record { within = λ p h. h; same = λ base later p h. refl };
  }

  got_same : Same (input.got plain limit) (Meaning.got (Stored.operations limit cuts) limit)
  unfolding related
  got_same = Readings.gets related limit

  -- how a Get ends
  abbrev pub end_of : GetEnd → Result ℤ Stored.Stop
  end_of (Number v) = Ok v
  end_of (Raise r) = Err (Goes (Left (Raises r)))
  end_of ReadFault = Err (Fails InputFault)
  end_of Spent = Err (Goes OutOfTurns)

  computed : (q : Stored ℤ) (s t : State) (result : GetEnd) → Ends q s (answer_of result) t → Computes q s (end_of result) t
  computed q s t (Number v) h = h
  computed q s t (Raise r) h = h
  computed q s t ReadFault h = h
  computed q s t Spent h = h

  bytes-append : (bytes : List ℕ) (more : Feed) (later : List ℕ) → bytes_of (fed bytes more) later ≡ bytes ++ bytes_of more later
  bytes-append [] more later = refl
  bytes-append (b ∷ bytes) more later = ap (λ bs. b ∷ bs) (bytes-append bytes more later)

  -- what a source gives after this, where these bytes are left
  abbrev more_of : Last → List ℕ → Feed
  more_of Open later = fed later End
  more_of AtEnd later = fed later End
  more_of Broken later = Fault

  -- nothing is left after the end
  abbrev pub IsRest : Last → List ℕ → Type 0
  IsRest Open later = Unit {0}
  IsRest AtEnd later = later ≡ []
  IsRest Broken later = Unit {0}

  follows : (last : Last) (later : List ℕ) → IsRest last later → MayFollow last (more_of last later)
  follows Open later r = tt
  follows AtEnd later r = ap (λ bs. fed bs End) r
  follows Broken later r = refl

  rest_bytes : (last : Last) (later : List ℕ) → bytes_of (more_of last later) later ≡ later
  rest_bytes Open later = bytes-append later End later ∙ append-nil later
  rest_bytes AtEnd later = bytes-append later End later ∙ append-nil later
  rest_bytes Broken later = refl

  abbrev pub put : State → Held → List ℕ → ℕ → ℕ → State
  put s h bytes turns taken = record s { held = h; input = bytes; turns = turns; taken = taken; done = None }

  put_same : (s : State) (h k : Held) (bs cs : List ℕ) (m n taken : ℕ) → h ≡ k → bs ≡ cs → m ≡ n → put s h bs m taken ≡ put s k cs n taken
  put_same s h k bs cs m n taken d e f = ap (λ x. put s x bs m taken) d ∙ ap (λ x. put s k x m taken) e ∙ ap (λ x. put s k cs x taken) f

  -- the law: what the code's Get gives is what the stored run's does
  pub stored_get : (old new : Stream) (before after : ReaderState) (turns : ℕ) (result : Got) (g : Gets old new before after turns result) (s : State) (later : List ℕ) → s.done ≡ None → s.held ≡ before.held → s.turns + turns ≡ limit
      → s.input ≡ g.bytes ++ later → IsRest (last_of result.end g.ended) later
      → Computes (Meaning.got (Stored.operations limit cuts) limit) s (end_of result.end)
      (put s after.held later (s.turns + result.took) (s.taken + result.came))
  stored_get old new before after turns result g s later d e f i r =
      let q = Meaning.got (Stored.operations limit cuts) limit in
      let last = last_of result.end g.ended in
      let more = more_of last later in
      let p = plainly before.held (fed g.bytes more) turns s.taken in
      let within : turns ≤ limit = omega arith in
      let whole = enough limit p within ∙ g.same more (follows last later r) s.taken in
      let ends = got_same.same s later p within in
      let moved = subst (λ (x : Plain.After ℤ). Ends q (around s later p) x.answer (around s later x.state)) whole ends in
      let begun : around s later p ≡ s = put_same s before.held s.held _ s.input _ s.turns s.taken (sym e) (bytes-append g.bytes more later ∙ ap (λ bs. g.bytes ++ bs) (rest_bytes last later) ∙ sym i) (omega arith) ∙ ap (λ (o : Option (List Deed)). record s { done = o }) (sym d) in
      let few : result.took ≤ turns = g.within in
      let over : around s later (plainly after.held more (turns - result.took) (s.taken + result.came)) ≡ put s after.held later (s.turns + result.took) (s.taken + result.came) = put_same s after.held after.held _ later _ _ _ refl (rest_bytes last later) (omega arith) in
      computed q s (put s after.held later (s.turns + result.took) (s.taken + result.came)) result.end
      (subst (λ (x : State). Ends q x (answer_of result.end) (put s after.held later (s.turns + result.took) (s.taken + result.came))) begun
      (subst (λ (x : State). Ends q (around s later p) (answer_of result.end) x) over moved))
