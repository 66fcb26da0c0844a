-- Turns, and parts whose leaves are handled.
use Rattle.std.proofs.Common.{◌≡◌, ℕ, zero, suc, ◌+◌, ◌<◌, ℤ, List, [], slice_get, nat_lt, Option, Some, None, Result, Ok, Err, Bool, true, false, cond, refl, sym, ap, ap₂, ◌∙◌, subst, le_refl, arith, inl, ltb-true, is_some}
use Rattle.behaviours.specs.Paths.{Leave}
use Rattle.ada_meaning.specs.Operations.{Operations}
use Rattle.ada_meaning.specs.Stored as stored
use Rattle.ada_meaning.specs.Stored.{Stored, Cause, Left, OutOfTurns, NoRoom, CutOff, Misnoted, Address, Touch}
use Rattle.ada_meaning.specs.Meaning
use Rattle.stack_code.specs.declared.code.Code.{Code}
use Rattle.stack_code.specs.declared.instr.Instr.{Instr}
use Rattle.stack_code.specs.declared.instr.Instr.TheVariants as i
use Rattle.stack_code.specs.Machine.{State, Went, Spent, Goes, Stops, turned, on as machine_on}
use Rattle.ada_lower.specs.Driven.{Dyn, Fixed, Step, halt, on, state_of, driven, At}
use Rattle.ada_lower.specs.Fits.{Ghost, Agrees, Fit, Ends, left_by, Land, Lands, Allows, Asks}
use Rattle.ada_lower.proofs.Framework.{any, To, Doing, comes_here, comes_as, led, lands_from, land_from, asks_split, leads_on}
use Rattle.ada_lower.proofs.Parts.{Runs, allows_fewer}
use Rattle.ada_lower.proofs.Memory.{right_same}

-- the counts of a path are those of the stored run
abbrev pub counted : ℕ → Option ℕ → Dyn → Dyn
counted t l d = record d { turns = t; left = l }

pub counted_same : (s : stored.State) (d : Dyn) → Agrees s d → counted s.turns s.left d ≡ d
counted_same s d a = ap₂ (λ t l. counted t l d) (sym a.turns) (sym a.left)

abbrev pub least_at : ℕ → Ghost → Ghost
least_at k g = record g { least = k }

abbrev pub more_turns : Ghost → Ghost
more_turns g = record g { least = suc g.least }

module _ (limit : ℕ) (c : Code) (f : Fixed) (x : Ends) (cuts : ℕ → ℕ → List ℕ) where
  abbrev pub ops : Operations {1}
  ops = stored.noted_operations limit cuts

  -- what a turn comes to, with a count of looks and a test of turns
  module _ (g : Ghost) (q : ℕ) (st : List ℤ) (most : g.most ≡ limit) (jn : Instr) (kw : State → Went) (deed : (d : Dyn) → led limit c f q st d jn ≡ driven limit c (turned limit (state_of f q st [] None d) kw) d.world) (j : At c q jn x.entry) (s : stored.State) (d : Dyn) (fit : Fit g s d) where
    abbrev Landed : Option ℕ → stored.After (Unit {0}) → Type 0
    Landed o r = Lands limit c f x any g (on f q st (counted s.turns o d)) s.turns (λ _ d. driven limit c (kw (state_of f q st [] None d)) d.world) r.state r.end

    -- where the looks don't end
    turn_on : (o l : Option ℕ) (b : Bool) → nat_lt s.turns limit ≡ b → ((b : Bool) → nat_lt s.turns limit ≡ b → led limit c f q st (counted s.turns o d) jn ≡ cond b (driven limit c (kw (state_of f q st [] None (counted (s.turns + 1) l d))) d.world) (halt f Spent (counted s.turns l d)))
        → Landed o (cond b (stored.at (record s { turns = s.turns + 1; left = l }) (Ok tt)) (stored.at (record s { left = l }) (Err OutOfTurns)))
    turn_on o l true e k = (
      tt,
      record {
        dyn = counted (s.turns + 1) l d;
        fit = record {
          here = fit.here;
          everywhere = fit.everywhere;
          declared = fit.declared;
          frame = fit.frame;
          top = fit.top;
          least = (let b = fit.least in omega (arith, b));
          most = (let lt : s.turns < limit = ltb-true s.turns limit e in omega (arith, lt, most));
          agrees = record { turns = refl; left = refl; taken = fit.agrees.taken; held = fit.agrees.held; input = fit.agrees.input; output = fit.agrees.output; notes = fit.agrees.notes; done = fit.agrees.done };
          plan = fit.plan;
          order = fit.order;
          cells = λ a. right_same (g.what a) s _ (slice_get d.cells a) refl refl (fit.cells a);
        };
        comes = comes_as limit c f st (counted s.turns o d) j (k true e) _;
        grows = omega arith;
      },
    )
    turn_on o l false e k = record {
      dyn = counted s.turns l d;
      fit = record {
        here = fit.here;
        everywhere = fit.everywhere;
        declared = fit.declared;
        frame = fit.frame;
        top = fit.top;
        least = fit.least;
        most = fit.most;
        agrees = record { turns = refl; left = refl; taken = fit.agrees.taken; held = fit.agrees.held; input = fit.agrees.input; output = fit.agrees.output; notes = fit.agrees.notes; done = fit.agrees.done };
        plan = fit.plan;
        order = fit.order;
        cells = λ a. right_same (g.what a) s _ (slice_get d.cells a) refl refl (fit.cells a);
      };
      comes = comes_as limit c f st (counted s.turns o d) j (k false e) _;
      grows = le_refl s.turns;
    }

    taken : (o l : Option ℕ) (b : Bool) → nat_lt s.turns limit ≡ b
        → led limit c f q st (counted s.turns o d) jn ≡ driven limit c (cond (nat_lt s.turns limit) (kw (state_of f q st [] None (counted (s.turns + 1) l d))) (Stops Spent (state_of f q st [] None (counted s.turns l d)))) d.world
        → led limit c f q st (counted s.turns o d) jn ≡ cond b (driven limit c (kw (state_of f q st [] None (counted (s.turns + 1) l d))) d.world) (halt f Spent (counted s.turns l d))
    taken o l true eb e = e ∙ ap (λ b. driven limit c (cond b (kw (state_of f q st [] None (counted (s.turns + 1) l d))) (Stops Spent (state_of f q st [] None (counted s.turns l d)))) d.world) eb
    taken o l false eb e = e ∙ ap (λ b. driven limit c (cond b (kw (state_of f q st [] None (counted (s.turns + 1) l d))) (Stops Spent (state_of f q st [] None (counted s.turns l d)))) d.world) eb

    turn_by : (o : Option ℕ) → s.left ≡ o → Landed o (let r = stored.looked s o in stored.next r.state r.end (λ _. stored.turn limit))
    unfolding stored.turn
    turn_by None e =
        subst (λ l. Landed None (cond (nat_lt s.turns limit) (stored.at (record s { turns = s.turns + 1; left = l }) (Ok tt)) (stored.at (record s { left = l }) (Err OutOfTurns)))) (sym e)
        (turn_on None None (nat_lt s.turns limit) refl (λ b eb. taken None None b eb (deed (counted s.turns None d))))
    turn_by (Some zero) e = record {
      dyn = counted s.turns (Some 0) d;
      fit = record {
        here = fit.here;
        everywhere = fit.everywhere;
        declared = fit.declared;
        frame = fit.frame;
        top = fit.top;
        least = fit.least;
        most = fit.most;
        agrees = record { turns = refl; left = sym e; taken = fit.agrees.taken; held = fit.agrees.held; input = fit.agrees.input; output = fit.agrees.output; notes = fit.agrees.notes; done = fit.agrees.done };
        plan = fit.plan;
        order = fit.order;
        cells = fit.cells;
      };
      comes = comes_as limit c f st (counted s.turns (Some 0) d) j (deed (counted s.turns (Some 0) d)) _;
      grows = le_refl s.turns;
    }
    turn_by (Some (suc n)) e = turn_on (Some (suc n)) (Some n) (nat_lt s.turns limit) refl (λ b eb. taken (Some (suc n)) (Some n) b eb (deed (counted s.turns (Some (suc n)) d)))

  -- an instruction that begins with a turn
  pub does_turned : {g : Ghost} {q : ℕ} {jn : Instr} (st : List ℤ) (kw : State → Went) → ((d : Dyn) → led limit c f q st d jn ≡ driven limit c (turned limit (state_of f q st [] None d) kw) d.world) → g.most ≡ limit → At c q jn x.entry
      → Runs limit c f x g any (Meaning.turned ops) (λ d. on f q st d) (λ _ d. driven limit c (kw (state_of f q st [] None d)) d.world)
  unfolding stored.bind stored.look
  does_turned {g} {q} {jn} st kw deed most j = record {
    by = λ s d fit al.
        subst (λ z. let r = stored.looked s s.left in let t = stored.next r.state r.end (λ _. stored.turn limit) in Lands limit c f x any g (on f q st z) s.turns (λ _ d. driven limit c (kw (state_of f q st [] None d)) d.world) t.state t.end) (counted_same s d fit.agrees)
        (turn_by g q st most jn kw deed j s d fit s.left refl);
  }

  pub does_turn : {g : Ghost} {q : ℕ} (st : List ℤ) → g.most ≡ limit → At c q i.Turn x.entry → Runs limit c f x g any (Meaning.turned ops) (λ d. on f q st d) (λ _ d. on f (q + 1) st d)
  does_turn st most j = does_turned st (λ s. Goes (machine_on s.stack s)) (λ d. refl) most j

  -- a turn that is begun counts

  abbrev Counts : stored.State → stored.State → Result (Unit {0}) Cause → Type 0
  Counts s t (Ok u) = t.turns ≡ s.turns + 1
  Counts s t (Err e) = Unit {0}

  turn_counts : (s : stored.State) (b : Bool) → (let r = cond b (stored.at (record s { turns = s.turns + 1 }) (Ok tt)) (stored.at s (Err OutOfTurns)) in Counts s r.state r.end)
  turn_counts s true = refl
  turn_counts s false = tt

  turned_counts : (s : stored.State) (o : Option ℕ) → (let r = stored.looked s o in let t = stored.next r.state r.end (λ _. stored.turn limit) in Counts s t.state t.end)
  unfolding stored.turn
  turned_counts s None = turn_counts s (nat_lt s.turns limit)
  turned_counts s (Some zero) = tt
  turned_counts s (Some (suc n)) = turn_counts (record s { left = Some n }) (nat_lt s.turns limit)

  turned_is : (s : stored.State) → (let t = (Meaning.turned ops).does s in Counts s t.state t.end)
  unfolding stored.bind stored.look
  turned_is s = turned_counts s s.left

  -- a turn, and what is done in it
  pub does_turn_then : {A : Type 0} {g h : Ghost} {p : A → Type 0} {m : Stored A} {to : A → Dyn → Step} {q : ℕ} (st : List ℤ) → g.most ≡ limit → At c q i.Turn x.entry → ((s : stored.State) (d : Dyn) → Fit g s d → Fit h s d)
      → Doing limit c f x (more_turns g) h p m (λ d. on f (q + 1) st d) to → Doing limit c f x g h p (stored.bind (Meaning.turned ops) (λ _. m)) (λ d. on f q st d) to
  unfolding stored.bind
  does_turn_then {A} {g} {h} {p} {m} {to} {q} st most j weak k = record {
    by = λ s d fit al.
        let (ax, ay) = asks_split limit c f x g ((Meaning.turned ops).touches s) (stored.next_touches ((Meaning.turned ops).does s).state ((Meaning.turned ops).does s).end (λ _. m)) ((Meaning.turned ops).visits s) (stored.next_visits ((Meaning.turned ops).does s).state ((Meaning.turned ops).does s).end (λ _. m)) al in
        go s d fit ((Meaning.turned ops).does s).state ((Meaning.turned ops).does s).end ay (turned_is s) ((does_turn st most j).by s d fit ax);
  }
    where
      go : (s : stored.State) (d : Dyn) → Fit g s d → (t : stored.State) (e : Result (Unit {0}) Cause) → Asks f g (stored.next_touches t e (λ _. m)) (stored.next_visits t e (λ _. m)) → Counts s t e → Lands limit c f x any g (on f q st d) s.turns (λ _ d. on f (q + 1) st d) t e
          → (let r = stored.next t e (λ _. m) in Lands limit c f x p h (on f q st d) s.turns to r.state r.end)
      go s d fit t (Ok u) al n l =
          let w = l.1.fit in
          lands_from limit c f x p to (m.does t).state (m.does t).end l.1.comes l.1.grows (λ s d fit. fit)
          (k.by t l.1.dyn (record { here = w.here; everywhere = w.everywhere; declared = w.declared; frame = w.frame; top = w.top; least = (let b = fit.least in omega (arith, b, n)); most = w.most; agrees = w.agrees; plan = w.plan; order = w.order; cells = w.cells })
          (allows_fewer limit c f x g (more_turns g) (m.touches t) (λ a y p e. inl e) al.0, al.1))
      go s d fit t (Err (Left y)) al n l = land_from limit c f x (comes_here limit c (on f q st d) _) (le_refl s.turns) weak l
      go s d fit t (Err OutOfTurns) al n l = land_from limit c f x (comes_here limit c (on f q st d) _) (le_refl s.turns) weak l
      go s d fit t (Err CutOff) al n l = land_from limit c f x (comes_here limit c (on f q st d) _) (le_refl s.turns) weak l
      go s d fit t (Err NoRoom) al n l = tt
      go s d fit t (Err Misnoted) al n (un, l) = (un, land_from limit c f x (comes_here limit c (on f q st d) _) (le_refl s.turns) weak l)

  -- leaves that are handled
  pub does_handles : {A : Type 0} {g j : Ghost} {q : A → Type 0} {m : Stored A} {takes : Leave → Bool} {h : Leave → Stored A} {from : Dyn → Step} {to : A → Dyn → Step} (y : Ends) → ((ts : List Touch) → Allows g ts → Allows j ts) → Doing limit c f y g j q m from to
      → ((l : Leave) → takes l ≡ true → Doing limit c f x j j q (h l) (λ d. left_by f y l d) to)
      → ((l : Leave) → takes l ≡ false → (d : Dyn) → To limit c (left_by f y l d) (left_by f x l d))
      → Doing limit c f x g j q (stored.handles m takes h) from to
  unfolding stored.handles
  does_handles {A} {g} {j} {q} {m} {takes} {h} {from} {to} y few i k past = record {
    by = λ s d fit al. let (ax, ay) = asks_split limit c f x g (m.touches s) (stored.handled_touches (m.does s).state (m.does s).end takes h) (m.visits s) (stored.handled_visits (m.does s).state (m.does s).end takes h) al in go s d (m.does s).state (m.does s).end ay (i.by s d fit ax);
  }
    where
      left : (s : stored.State) (d : Dyn) (t : stored.State) (l : Leave) (b : Bool) → takes l ≡ b → Asks f g (cond b ((h l).touches t) []) (cond b ((h l).visits t) []) → Land limit c (is_some f.asked) j (from d) s.turns t (λ d. left_by f y l d)
          → (let r = cond b ((h l).does t) (stored.at t (Err (Left l))) in Lands limit c f x q j (from d) s.turns to r.state r.end)
      left s d t l true e al w = lands_from limit c f x q to _ _ w.comes w.grows (λ s d fit. fit) ((k l e).by t w.dyn w.fit (few ((h l).touches t) al.0, al.1))
      left s d t l false e al w = record { dyn = w.dyn; fit = w.fit; comes = leads_on limit c w.comes (past l e w.dyn _); grows = w.grows }

      go : (s : stored.State) (d : Dyn) (t : stored.State) (e : Result A Cause) → Asks f g (stored.handled_touches t e takes h) (stored.handled_visits t e takes h) → Lands limit c f y q j (from d) s.turns to t e
          → (let r = stored.handled t e takes h in Lands limit c f x q j (from d) s.turns to r.state r.end)
      go s d t (Ok a) al l = l
      go s d t (Err (Left w)) al l = left s d t w (takes w) refl al l
      go s d t (Err OutOfTurns) al l = l
      go s d t (Err CutOff) al l = l
      go s d t (Err NoRoom) al l = tt
      go s d t (Err Misnoted) al l = l
