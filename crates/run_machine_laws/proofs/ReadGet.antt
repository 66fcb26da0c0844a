-- A Get of the plain reading is the one of the machine's path.
use Rattle.std.proofs.Common.{◌≡◌, ℕ, zero, suc, ◌+◌, ◌-◌, ◌≤◌, nat_lt, ℤ, List, [], ◌∷◌, ◌++◌, Option, Some, None, Result, Ok, Err, Bool, true, false, cond, refl, sym, ap, subst, ◌∙◌, arith, append_assoc}
use Rattle.std.proofs.lemmas.Bool.{lt-ltb, lt-leb}
use Rattle.std.proofs.lemmas.List.{append-nil}
use Rattle.ada_base.specs.declared.reason.Reason.{Reason}
use Rattle.ada_base.specs.Input.{Held}
use Rattle.ada_base.specs.Input as input
use Rattle.ada_base.proofs.Readings
use Rattle.ada_base.proofs.Readings.{Relates}
use Rattle.ada_io.specs.declared.input.GetEnd.{GetEnd}
use Rattle.ada_io.specs.declared.input.Got.{Got}
use Rattle.ada_io.specs.declared.input.GetEnd.TheVariants.{Number, Raise, ReadFault, Spent}
use Rattle.ada_io.specs.Plain.{Feed, Byte, End, Fault, fed, Raised, Failed, TurnsSpent, Doing, given, asked, plain}
use Rattle.ada_io.specs.Plain
use Rattle.ada_io.specs.Gets.{Last, Open, AtEnd, Broken, MayFollow, last_of, answer_of, ReaderState, Gets}
use Rattle.ada_io.proofs.Enough.{enough}
use Rattle.ada_port.specs.Ports.{Stream}
use Rattle.ada_meaning.specs.Deeds.{Deed, Asked}
use Rattle.ada_meaning.specs.Stored.{also_done}
use Rattle.ada_lower.specs.Asking.{Reads, Read, at, next, taken_from, reading, got}
use Rattle.run_machine_laws.specs.Reading.{longer, askings, Further, IsRest, ReadsTo}

longer_none : (o : Option (List Deed)) → o ≡ longer o []
longer_none None = refl
longer_none (Some es) = ap Some (sym (append-nil es))

longer_by : (d : Deed) (o : Option (List Deed)) → also_done d o ≡ longer o (d ∷ [])
longer_by d None = refl
longer_by d (Some es) = refl

pub longer_twice : (o : Option (List Deed)) (ds es : List Deed) → longer (longer o ds) es ≡ longer o (ds ++ es)
longer_twice None ds es = refl
longer_twice (Some fs) ds es = ap Some (append_assoc fs ds es)

pub further_refl : (o : Option (List Deed)) → Further o o
further_refl o = ([], longer_none o)

pub further_same : (o p : Option (List Deed)) → o ≡ p → Further o p
further_same o p e = ([], sym e ∙ longer_none o)

pub further_then : (o p q : Option (List Deed)) → Further o p → Further p q → Further o q
further_then o p q (ds, e) (es, f) = (ds ++ es, f ∙ ap (λ z. longer z es) e ∙ longer_twice o ds es)

pub further_done : (d : Deed) (o : Option (List Deed)) → Further o (also_done d o)
further_done d o = (d ∷ [], longer_by d o)

-- one asking more
asked_again : (o : Option (List Deed)) (n : ℕ) → also_done Asked (longer o (askings n)) ≡ longer o (askings (suc n))
asked_again o n = longer_by Asked (longer o (askings n)) ∙ longer_twice o (askings n) (Asked ∷ [])

-- the bytes that are still to come, where these come after a fault
abbrev bytes_of : Feed → List ℕ → List ℕ
bytes_of (Byte b more) later = b ∷ bytes_of more later
bytes_of End later = []
bytes_of Fault later = later

module _ (limit : ℕ) where
  -- what a plain Get is read in, that began where so many turns were left and this was done
  abbrev around : Option (List Deed) → List ℕ → ℕ → Plain.State → Reads
  around o later left p = record { turns = limit - p.turns; taken = p.taken; held = p.held; input = bytes_of p.feed later; done = longer o (askings (left - p.turns)) }

  abbrev Ends : {A : Type 0} → (Reads → Read A) → Reads → Result A Plain.Stop → Reads → Type 0
  Ends q s (Ok a) t = q s ≡ at t (Ok a)
  Ends q s (Err (Raised r)) t = q s ≡ at t (Err (Some r))
  Ends q s (Err TurnsSpent) t = q s ≡ at t (Err None)
  Ends q s (Err Failed) t = Further t.done (q s).state.done

  record Same {A : Type 0} (m : Doing A) (q : Reads → Read A) : Type 0 where
    fewer : (p : Plain.State) → (m p).state.turns ≤ p.turns
    grows : (s : Reads) → Further s.done (q s).state.done
    same : (o : Option (List Deed)) (later : List ℕ) (left : ℕ) (p : Plain.State) → p.turns ≤ left → left ≤ limit → Ends q (around o later left p) (m p).answer (around o later left (m p).state)

  abbrev then : {A B : Type 0} → (Reads → Read A) → (A → Reads → Read B) → Reads → Read B
  then q l s = next (q s).state (q s).end l

  -- what is done after a value
  goes_on : {A B : Type 0} (q : Reads → Read A) (l : A → Reads → Read B) (s t u : Reads) (a : A) (answer : Result B Plain.Stop) → q s ≡ at t (Ok a) → Ends (l a) t answer u → Ends (then q l) s answer u
  goes_on q l s t u a (Ok b) e h = ap (λ r. next r.state r.end l) e ∙ h
  goes_on q l s t u a (Err (Raised r)) e h = ap (λ x. next x.state x.end l) e ∙ h
  goes_on q l s t u a (Err TurnsSpent) e h = ap (λ r. next r.state r.end l) e ∙ h
  goes_on q l s t u a (Err Failed) e h = subst (λ r. Further u.done (next r.state r.end l).state.done) (sym e) h

  stopped : {A B : Type 0} (q : Reads → Read A) (l : A → Reads → Read B) → ((a : A) (s : Reads) → Further s.done (l a s).state.done) → (s t : Reads) (stop : Plain.Stop) → Ends q s (Err stop) t → Ends (then q l) s (Err stop) t
  stopped q l grows s t (Raised r) e = ap (λ x. next x.state x.end l) e
  stopped q l grows s t TurnsSpent e = ap (λ r. next r.state r.end l) e
  stopped {A} {B} q l grows s t Failed e = further_then t.done (q s).state.done (then q l s).state.done e (go (q s).state (q s).end)
    where
      go : (u : Reads) (r : Result A (Option Reason)) → Further u.done (next u r l).state.done
      go u (Ok a) = grows a u
      go u (Err x) = further_refl u.done

  bound : {A B : Type 0} {m : Doing A} {q : Reads → Read A} {k : A → Doing B} {l : A → Reads → Read B} → Same m q → ((a : A) → Same (k a) (l a)) → Same (Plain.then m k) (then q l)
  bound {A} {B} {m} {q} {k} {l} first rest = record {
    fewer = λ p. less p (m p) (first.fewer p);
    grows = λ s. further_then s.done (q s).state.done (then q l s).state.done (first.grows s) (more (q s).state (q s).end);
    same = λ o later left p h w. goes o later left w (around o later left p) (m p) (let f = first.fewer p in let z : (m p).state.turns ≤ left = omega (arith, f, h) in z) (first.same o later left p h w);
  }
    where
      less : (p : Plain.State) (r : Plain.After A) → r.state.turns ≤ p.turns → (Plain.next r.state r.answer k).state.turns ≤ p.turns
      less p r h = go r.answer
        where
          go : (answer : Result A Plain.Stop) → (Plain.next r.state answer k).state.turns ≤ p.turns
          go (Ok a) = let f = (rest a).fewer r.state in omega (arith, f, h)
          go (Err stop) = h

      more : (u : Reads) (r : Result A (Option Reason)) → Further u.done (next u r l).state.done
      more u (Ok a) = (rest a).grows u
      more u (Err x) = further_refl u.done

      goes : (o : Option (List Deed)) (later : List ℕ) (left : ℕ) → left ≤ limit → (s : Reads) (r : Plain.After A) → r.state.turns ≤ left → Ends q s r.answer (around o later left r.state)
          → let n = Plain.next r.state r.answer k in Ends (then q l) s n.answer (around o later left n.state)
      goes o later left w s r h e = go r.answer e
        where
          go : (answer : Result A Plain.Stop) → Ends q s answer (around o later left r.state) → let n = Plain.next r.state answer k in Ends (then q l) s n.answer (around o later left n.state)
          go (Ok a) d = goes_on q l s (around o later left r.state) _ a _ d ((rest a).same o later left r.state h w)
          go (Err stop) d = stopped q l (λ a. (rest a).grows) s (around o later left r.state) stop d

  -- ---- a turn and then the source
  abbrev asks : Reads → Read (Option ℕ)
  asks s = cond (nat_lt s.turns limit) (taken_from (record s { turns = s.turns + 1 }) s.input) (at s (Err None))

  taken_grows : (s : Reads) (input : List ℕ) → (taken_from s input).state.done ≡ also_done Asked s.done
  taken_grows s [] = refl
  taken_grows s (b ∷ rest) = refl

  asks_grows : (s : Reads) (b : Bool) → Further s.done (cond b (taken_from (record s { turns = s.turns + 1 }) s.input) (at s (Err None))).state.done
  asks_grows s true = further_then s.done (also_done Asked s.done) _ (further_done Asked s.done) (further_same _ _ (sym (taken_grows (record s { turns = s.turns + 1 }) s.input)))
  asks_grows s false = further_refl s.done

  abbrev plainly : Held → Feed → ℕ → ℕ → Plain.State
  plainly h feed turns taken = record { held = h; feed = feed; turns = turns; taken = taken }

  abbrev reads : Held → List ℕ → ℕ → ℕ → Option (List Deed) → Reads
  reads h bytes turns taken done = record { turns = turns; taken = taken; held = h; input = bytes; done = done }

  reads_same : (h : Held) (bs cs : List ℕ) (m n taken : ℕ) (o p : Option (List Deed)) → bs ≡ cs → m ≡ n → o ≡ p → reads h bs m taken o ≡ reads h cs n taken p
  reads_same h bs cs m n taken o p d e f = ap (λ x. reads h x m taken o) d ∙ ap (λ x. reads h cs x taken o) e ∙ ap (λ x. reads h cs n taken x) f

  module _ (o : Option (List Deed)) (later : List ℕ) (left n taken : ℕ) (h : Held) (within : suc n ≤ left) (w : left ≤ limit) where
    one : limit - suc n + 1 ≡ limit - n
    one = omega (arith, within, w)

    logged : also_done Asked (longer o (askings (left - suc n))) ≡ longer o (askings (left - n))
    logged = asked_again o (left - suc n) ∙ ap (λ k. longer o (askings k)) (let z : suc (left - suc n) ≡ left - n = omega (arith, within) in z)

    abbrev from : Feed → Reads
    from feed = around o later left (plainly h feed (suc n) taken)

    took : (feed : Feed) → let r = given (plainly h feed n taken) feed in Ends (λ s. taken_from (record s { turns = s.turns + 1 }) s.input) (from feed) r.answer (around o later left r.state)
    took (Byte b more) = ap (λ s. at s (Ok (Some b))) (reads_same h (bytes_of more later) (bytes_of more later) _ _ (taken + 1) _ _ refl one logged)
    took End = ap (λ s. at s (Ok None)) (reads_same h [] [] _ _ taken _ _ refl one logged)
    took Fault = further_same _ _ (sym (taken_grows (record (from Fault) { turns = (from Fault).turns + 1 }) later ∙ logged))

    chosen : (feed : Feed) → asks (from feed) ≡ taken_from (record (from feed) { turns = (from feed).turns + 1 }) (from feed).input
    chosen feed =
        let yes : nat_lt (limit - suc n) limit ≡ true = lt-ltb (limit - suc n) limit (omega (arith, within, w)) in
        ap (λ b. cond b (taken_from (record (from feed) { turns = (from feed).turns + 1 }) (from feed).input) (at (from feed) (Err None))) yes

    asks_on : (feed : Feed) → let r = given (plainly h feed n taken) feed in Ends asks (from feed) r.answer (around o later left r.state)
    asks_on (Byte b more) = chosen (Byte b more) ∙ took (Byte b more)
    asks_on End = chosen End ∙ took End
    asks_on Fault = subst (λ (r : Read (Option ℕ)). Further (longer o (askings (left - n))) r.state.done) (sym (chosen Fault)) (took Fault)

  asks_spent : (o : Option (List Deed)) (later : List ℕ) (left : ℕ) (p : Plain.State) → p.turns ≡ 0 → asks (around o later left p) ≡ at (around o later left p) (Err None)
  asks_spent o later left p e =
      let nay : nat_lt (limit - p.turns) limit ≡ false = lt-leb (suc (limit - p.turns)) limit (omega (arith, e)) in
      ap (λ b. cond b (taken_from (record (around o later left p) { turns = limit - p.turns + 1 }) (bytes_of p.feed later)) (at (around o later left p) (Err None))) nay

  asks_same : Same (λ p. asked p p.turns) asks
  asks_same = record { fewer = λ p. less p p.turns refl; grows = λ s. asks_grows s (nat_lt s.turns limit); same = λ o later left p h w. go o later left p p.turns refl h w }
    where
      less : (p : Plain.State) (n : ℕ) → p.turns ≡ n → (asked p n).state.turns ≤ p.turns
      less p zero e = omega arith
      less p (suc n) e = by p.feed
        where
          by : (feed : Feed) → (given (record p { turns = n }) feed).state.turns ≤ p.turns
          by (Byte b more) = omega (arith, e)
          by End = omega (arith, e)
          by Fault = omega (arith, e)

      go : (o : Option (List Deed)) (later : List ℕ) (left : ℕ) (p : Plain.State) (n : ℕ) → p.turns ≡ n → p.turns ≤ left → left ≤ limit → let r = asked p n in Ends asks (around o later left p) r.answer (around o later left r.state)
      go o later left p zero e h w = asks_spent o later left p e
      go o later left p (suc n) e h w =
          subst (λ m. let r = given (plainly p.held p.feed n p.taken) p.feed in Ends asks (around o later left (plainly p.held p.feed m p.taken)) r.answer (around o later left r.state)) (sym e)
          (asks_on o later left n p.taken p.held (omega (arith, e, h)) w p.feed)

  related : Relates {0, 0, 0} plain (reading limit)
  related = record {
    R = λ {A} m q. Same {A = A} m q;
    ret = λ {A} a. record { fewer = λ p. omega arith; grows = λ s. further_refl s.done; same = λ o later left p h w. refl };
    bind = λ {A} {B} {m} {n} {k} {l} g h. bound g h;
    asks = asks_same;
    recalls = record { fewer = λ p. omega arith; grows = λ s. further_refl s.done; same = λ o later left p h w. refl };
    keeps = λ held. record { fewer = λ p. omega arith; grows = λ s. further_refl s.done; same = λ o later left p h w. refl };
    raises = λ {A} r. record { fewer = λ p. omega arith; grows = λ s. further_refl s.done; same = λ o later left p h w. refl };
    spent = λ {A}. record { fewer = λ p. omega arith; grows = λ s. further_refl s.done; same = λ o later left p h w. refl };
  }

  got_same : Same (input.got plain limit) (got limit)
  unfolding related
  got_same = Readings.gets related limit

  -- what a Get does is never taken back
  pub got_further : (r : Reads) → Further r.done (got limit r).state.done
  got_further r = got_same.grows r

  -- what a source gives after this, where these bytes are left
  abbrev more_of : Last → List ℕ → Feed
  more_of Open later = fed later End
  more_of AtEnd later = fed later End
  more_of Broken later = Fault

  follows : (last : Last) (later : List ℕ) → IsRest last later → MayFollow last (more_of last later)
  follows Open later r = tt
  follows AtEnd later r = ap (λ bs. fed bs End) r
  follows Broken later r = refl

  bytes-append : (bytes : List ℕ) (more : Feed) (later : List ℕ) → bytes_of (fed bytes more) later ≡ bytes ++ bytes_of more later
  bytes-append [] more later = refl
  bytes-append (b ∷ bytes) more later = ap (λ bs. b ∷ bs) (bytes-append bytes more later)

  rest_bytes : (last : Last) (later : List ℕ) → bytes_of (more_of last later) later ≡ later
  rest_bytes Open later = bytes-append later End later ∙ append-nil later
  rest_bytes AtEnd later = bytes-append later End later ∙ append-nil later
  rest_bytes Broken later = refl

  ends_as : (s t : Reads) (e : GetEnd) → Ends (got limit) s (answer_of e) t → ReadsTo (got limit s) e t
  ends_as s t (Number v) h = h
  ends_as s t (Raise r) h = h
  ends_as s t ReadFault h = h
  ends_as s t Spent h = h

  -- the law: what the code's Get gives is what the machine's path is given
  pub path_gets : (old new : Stream) (before after : ReaderState) (turns : ℕ) (result : Got) (g : Gets old new before after turns result) (s : Reads) (later : List ℕ) → s.held ≡ before.held → s.turns + turns ≡ limit
      → s.input ≡ g.bytes ++ later → IsRest (last_of result.end g.ended) later
      → ReadsTo (got limit s) result.end (record { turns = s.turns + result.took; taken = s.taken + result.came; held = after.held; input = later; done = longer s.done (askings result.took) })
  path_gets old new before after turns result g s later e f i r =
      let last = last_of result.end g.ended in
      let more = more_of last later in
      let p = plainly before.held (fed g.bytes more) turns s.taken in
      let within : turns ≤ limit = omega (arith, f) in
      let few : result.took ≤ turns = g.within in
      let whole = enough limit p within ∙ g.same more (follows last later r) s.taken in
      let ends = got_same.same s.done later turns p (omega arith) within in
      let moved = subst (λ (x : Plain.After ℤ). Ends (got limit) (around s.done later turns p) x.answer (around s.done later turns x.state)) whole ends in
      let begun : around s.done later turns p ≡ s = reads_same before.held _ s.input _ s.turns s.taken _ s.done (bytes-append g.bytes more later ∙ ap (λ bs. g.bytes ++ bs) (rest_bytes last later) ∙ sym i) (omega (arith, f)) (ap (λ k. longer s.done (askings k)) (let z : turns - turns ≡ 0 = omega arith in z) ∙ sym (longer_none s.done)) ∙ ap (λ h. reads h s.input s.turns s.taken s.done) (sym e) in
      let over : around s.done later turns (plainly after.held more (turns - result.took) (s.taken + result.came)) ≡ reads after.held later (s.turns + result.took) (s.taken + result.came) (longer s.done (askings result.took))
      = reads_same after.held _ later _ _ (s.taken + result.came) _ _ (rest_bytes last later) (omega (arith, f, few)) (ap (λ k. longer s.done (askings k)) (let z : turns - (turns - result.took) ≡ result.took = omega (arith, few) in z)) in
      ends_as s (reads after.held later (s.turns + result.took) (s.taken + result.came) (longer s.done (askings result.took))) result.end
      (subst (λ (x : Reads). Ends (got limit) x (answer_of result.end) (reads after.held later (s.turns + result.took) (s.taken + result.came) (longer s.done (askings result.took)))) begun
      (subst (λ (x : Reads). Ends (got limit) (around s.done later turns p) (answer_of result.end) x) over moved))
