-- Constructs that are begun and ended in a body: what is inside runs with one more, and is left as the body is.
use Rattle.std.proofs.Common.{◌≡◌, ℕ, zero, suc, ◌+◌, ◌-◌, ℤ, List, [], ◌∷◌, nat_lt, Option, Some, None, Result, Ok, Err, Bool, true, false, cond, refl, sym, ap, ap₂, ◌∙◌, subst, arith, is_some}
use Rattle.behaviours.specs.Paths.{Leave, Exits, Returns, Raises}
use Rattle.ada_base.specs.declared.reason.Reason.{Reason}
use Rattle.ada_base.specs.declared.reason.Reason.TheVariants as reason
use Rattle.ada_meaning.specs.Stored as stored
use Rattle.ada_meaning.specs.Stored.{Stored, Cause, OutOfTurns, NoRoom, CutOff, Misnoted, Touch}
use Rattle.ada_meaning.specs.Meaning
use Rattle.ada_meaning.specs.Meaning.{Env}
use Rattle.stack_code.specs.declared.code.Code.{Code}
use Rattle.stack_code.specs.declared.instr.Instr.TheVariants as i
use Rattle.stack_code.specs.Machine.{Frame, Spent, Cut, Astray, Goes, look_by, nesting, Stop}
use Rattle.ada_lower.specs.Driven.{Dyn, Fixed, Step, On, on, halt, state_of, driven, thrown, looked, passed_on, At}
use Rattle.ada_lower.specs.Teams.{AreSound}
use Rattle.ada_lower.specs.Fits.{Ghost, Allows, Fit, Ends, left_by, Land, Lands, Asks}
use Rattle.ada_lower.proofs.Framework.{To, Doing, comes_here, comes_on, comes_as, comes_thrown, does_bind, does_before, lands_from, asks_split, leads_on, none_sound}
use Rattle.ada_lower.proofs.Parts.{Runs, does_is}
use Rattle.ada_lower.proofs.Blocks.{does_look}
use Rattle.ada_lower.proofs.ForkSteps.{keeping, MayEnd}

-- with a construct begun
abbrev pub nested_in : Fixed → Fixed
nested_in f = record f { nest = f.nest + 1; nested = f.nested + 1 }

-- where the one is left as the other
abbrev pub LeftAs : (limit : ℕ) → Code → Fixed → Fixed → Ends → Type 0
LeftAs limit c f' f x = (l : Leave) (d : Dyn) → To limit c (left_by f' x l d) (left_by f x l d)

module _ (limit : ℕ) (c : Code) (f : Fixed) (x : Ends) where
  -- where a raise leads doesn't hang on the constructs begun, and a fork's accumulators
  passed_same : (vs : List ℤ) (r : Reason) (ws : List Frame) (d : Dyn) → f.waiting ≡ ws → passed_on r ws (keeping vs (nested_in f)) d ≡ passed_on r ws f d
  passed_same vs r [] d e = refl
  passed_same vs r (w ∷ ws) d e = rw (let z : (f.nested + 1) - (f.nest + 1) ≡ f.nested - f.nest = omega arith in z) refl

  thrown_same : (vs : List ℤ) (r : Reason) (e : Option ℕ) (d : Dyn) → f.kept ≡ vs → thrown r e (keeping vs (nested_in f)) d ≡ thrown r e f d
  thrown_same vs r None d k = passed_same vs r f.waiting d refl
  thrown_same vs r (Some h) d k = rw (sym k, let z : (f.nested + 1) - (f.nest + 1 - 0) ≡ f.nested - (f.nest - 0) = omega arith in z) refl

  pub raises_same : (r : Reason) (d : Dyn) → thrown r x.entry (nested_in f) d ≡ thrown r x.entry f d
  raises_same r d = thrown_same f.kept r x.entry d refl

  pub left_as_kept : (vs : List ℤ) → f.kept ≡ vs → LeftAs limit c (keeping vs (nested_in f)) f x
  left_as_kept vs k (Exits n) d = comes_here limit c (x.exits n d)
  left_as_kept vs k (Returns v) d = comes_here limit c (x.returns v d)
  left_as_kept vs k (Raises r) d = subst (λ y. To limit c y (thrown r x.entry f d)) (sym (thrown_same vs r x.entry d k)) (comes_here limit c (thrown r x.entry f d))

  pub left_as_nested : LeftAs limit c (nested_in f) f x
  left_as_nested l d = left_as_kept f.kept refl l d

  asked_moved : (f' : Fixed) {h : Ghost} {from : Step} {n : ℕ} {s : stored.State} {to : Dyn → Step} → f'.asked ≡ f.asked → Land limit c (is_some f'.asked) h from n s to → Land limit c (is_some f.asked) h from n s to
  asked_moved f' {h} {from} {n} {s} {to} whose l = subst (λ o. Land limit c (is_some o) h from n s to) whose l

  clipped_moved : (f' : Fixed) {h : Ghost} {from : Step} {n : ℕ} {s : stored.State} (x : Stop) → f'.asked ≡ f.asked → f'.waiting ≡ f.waiting → Land limit c (is_some f'.asked) h from n s (λ d. halt f' x d) → Land limit c (is_some f.asked) h from n s (λ d. halt f x d)
  clipped_moved f' {h} {from} {n} {s} x whose ws l = subst (λ ws. Land limit c (is_some f.asked) h from n s (λ d. Rattle.ada_lower.specs.Driven.off x (Rattle.ada_lower.specs.Driven.clip ws d))) ws (asked_moved f' whose l)

  -- what is done inside
  pub does_inside : {A : Type 0} {g h : Ghost} {q : A → Type 0} {m : Stored A} {from : Dyn → Step} {to : A → Dyn → Step} (f' : Fixed) → f'.asked ≡ f.asked → f'.waiting ≡ f.waiting → LeftAs limit c f' f x → Doing limit c f' x g h q m from to → Doing limit c f x g h q m from to
  does_inside {A} {g} {h} {q} {m} {from} {to} f' whose ws past j = record { by = λ s d fit al. go s d (m.does s).state (m.does s).end (j.by s d fit (al.0, subst (λ p. AreSound p (m.visits s)) (sym whose) al.1)) }
    where
      go : (s : stored.State) (d : Dyn) (t : stored.State) (e : Result A Cause) → Lands limit c f' x q h (from d) s.turns to t e → Lands limit c f x q h (from d) s.turns to t e
      go s d t (Ok a) (ok, l) = (ok, asked_moved f' whose l)
      go s d t (Err (stored.Left w)) k = let l = asked_moved f' whose k in record { dyn = l.dyn; fit = l.fit; comes = leads_on limit c l.comes (past w l.dyn _); grows = l.grows }
      go s d t (Err OutOfTurns) l = clipped_moved f' Spent whose ws l
      go s d t (Err CutOff) l = clipped_moved f' Cut whose ws l
      go s d t (Err NoRoom) l = tt
      go s d t (Err Misnoted) (un, l) = (un, clipped_moved f' Astray whose ws l)

  -- ---- a construct is begun

  nest_looks : (q : ℕ) (st : List ℤ) (o : Option ℕ) (d : Dyn) → driven limit c (look_by o (state_of f q st [] None d) (nesting limit)) d.world
      ≡ looked f o d (λ d. driven limit c (nesting limit (state_of f q st [] None d)) d.world)
  nest_looks q st None d = refl
  nest_looks q st (Some zero) d = refl
  nest_looks q st (Some (suc n)) d = refl

  abbrev entered : ℕ → List ℤ → Bool → Dyn → Step
  entered q st true d = on (nested_in f) (q + 1) st d
  entered q st false d = thrown reason.StorageError x.entry f d

  nest_goes : (q : ℕ) (st : List ℤ) (d : Dyn) (b : Bool) → At c q i.Nest x.entry → nat_lt f.nested 16 ≡ b → To limit c (driven limit c (nesting limit (state_of f q st [] None d)) d.world) (entered q st b d)
  nest_goes q st d true a e = subst (λ b. To limit c (driven limit c (cond b (Goes (state_of (nested_in f) (q + 1) st [] None d)) (Goes (state_of f q st [] (Some reason.StorageError) d))) d.world) (on (nested_in f) (q + 1) st d)) (sym e) (comes_here limit c (on (nested_in f) (q + 1) st d))
  nest_goes q st d false a e = subst (λ b. To limit c (driven limit c (cond b (Goes (state_of (nested_in f) (q + 1) st [] None d)) (Goes (state_of f q st [] (Some reason.StorageError) d))) d.world) (thrown reason.StorageError x.entry f d)) (sym e) (comes_thrown limit c f st reason.StorageError d a)

  pub does_unless : {g : Ghost} {from : Dyn → Step} {to : Dyn → Step} (cuts : ℕ → ℕ → List ℕ) (b : Bool) (r : Reason) → (b ≡ true → (d : Dyn) → To limit c (from d) (to d)) → (b ≡ false → (d : Dyn) → To limit c (from d) (thrown r x.entry f d))
      → Runs limit c f x g (λ _. b ≡ true) (Meaning.unless (stored.noted_operations limit cuts) b r) from (λ _. to)
  unfolding stored.ret stored.leaves
  does_unless cuts true r holds fails = does_is limit c f x (Ok tt) (λ s. refl) (refl, λ d. holds refl d)
  does_unless cuts false r holds fails = does_is limit c f x (Err (stored.Left (Raises r))) (λ s. refl) (λ d. fails refl d)

  pub does_opened : {g : Ghost} {q : ℕ} (cuts : ℕ → ℕ → List ℕ) (env : Env) (st : List ℤ) → f.nested ≡ env.nested → At c q i.Nest x.entry
      → Runs limit c f x g (λ _. nat_lt env.nested 16 ≡ true) (Meaning.opened (stored.noted_operations limit cuts) env) (λ d. on f q st d) (λ _ d. on (nested_in f) (q + 1) st d)
  does_opened {g} {q} cuts env st e a =
      does_before limit c f x (λ d. subst (λ y. To limit c (on f q st d) y) (nest_looks q st d.left d) (comes_as limit c f st d a refl))
      (does_bind limit c f x (does_look limit c f x (λ d. driven limit c (nesting limit (state_of f q st [] None d)) d.world)) (λ _ _.
      does_unless cuts (nat_lt env.nested 16) reason.StorageError (λ b d. nest_goes q st d true a (ap (λ n. nat_lt n 16) e ∙ b)) (λ b d. nest_goes q st d false a (ap (λ n. nat_lt n 16) e ∙ b))))

  -- ---- and ended

  ended_same : f.kept ≡ [] → record (keeping [] (nested_in f)) { nest = f.nest + 1 - 1; nested = f.nested + 1 - 1 } ≡ f
  ended_same k =
      let a : f.nest + 1 - 1 ≡ f.nest = omega arith in
      let b : f.nested + 1 - 1 ≡ f.nested = omega arith in
      ap₂ (λ m n. record (keeping [] f) { nest = m; nested = n }) a b ∙ ap (λ vs. record f { kept = vs }) (sym k)

  pub comes_unnest : {q : ℕ} {e : Option ℕ} (st : List ℤ) (d : Dyn) → f.kept ≡ [] → At c q i.Unnest e → To limit c (on (keeping [] (nested_in f)) q st d) (on f (q + 1) st d)
  comes_unnest {q} st d k a =
      comes_on limit c (comes_as limit c (keeping [] (nested_in f)) st d a refl)
      (subst (λ y. To limit c (on (record (keeping [] (nested_in f)) { nest = f.nest + 1 - 1; nested = f.nested + 1 - 1 }) (q + 1) st d) (on y (q + 1) st d)) (ended_same k) (comes_here limit c _))

  -- ---- what left a construct is left to

  -- a part that is done inside, and what code does where it is ended or left: by one in whose ways it may be
  pub record Inside {A : Type 0} (may : Leave → Type 0) (f' : Fixed) (y : Ends) (g h : Ghost) (q : A → Type 0) (m : Stored A) (from : Dyn → Step) (to : A → Dyn → Step) : Type 0 where
    pub by : (s : stored.State) (d : Dyn) → Fit g s d → Asks f g (m.touches s) (m.visits s) → (let r = m.does s in Lands limit c f' y q h (from d) s.turns to r.state r.end × MayEnd may r.end)

  pub does_caught : {A : Type 0} {g h j : Ghost} {q : A → Type 0} {p : A → Type 0} {m : Stored A} {takes : Leave → Bool} {k : Leave → Stored A} {from : Dyn → Step} {mid to : A → Dyn → Step} (may : Leave → Type 0) (f' : Fixed) (y : Ends) → f'.asked ≡ f.asked → f'.waiting ≡ f.waiting
      → ((ts : List Touch) → Allows g ts → Allows h ts) → ((s : stored.State) (d : Dyn) → Fit h s d → Fit j s d)
      → Inside may f' y g h q m from mid
      → ((a : A) → q a → Doing limit c f x h j p (stored.ret a) (mid a) to)
      → ((l : Leave) → takes l ≡ true → may l → Doing limit c f x h j p (k l) (λ d. left_by f' y l d) to)
      → ((l : Leave) → takes l ≡ false → may l → Doing limit c f x h j p (stored.leaves l) (λ d. left_by f' y l d) to)
      → Doing limit c f x g j p (stored.handles m takes k) from to
  unfolding stored.handles stored.ret stored.leaves
  does_caught {A} {g} {h} {j} {q} {p} {m} {takes} {k} {from} {mid} {to} may f' y whose ws few weak w ok holds fails = record {
    by = λ s d fit al.
        let (ax, ay) = asks_split limit c f x g (m.touches s) (stored.handled_touches (m.does s).state (m.does s).end takes k) (m.visits s) (stored.handled_visits (m.does s).state (m.does s).end takes k) al in
        go s d (m.does s).state (m.does s).end ay (w.by s d fit ax);
  }
    where
      left : (s : stored.State) (d : Dyn) (t : stored.State) (l : Leave) (b : Bool) → takes l ≡ b → may l → Asks f g (cond b ((k l).touches t) []) (cond b ((k l).visits t) []) → Land limit c (is_some f.asked) h (from d) s.turns t (λ d. left_by f' y l d)
          → (let r = cond b ((k l).does t) (stored.at t (Err (stored.Left l))) in Lands limit c f x p j (from d) s.turns to r.state r.end)
      left s d t l true e ml al z = lands_from limit c f x p to ((k l).does t).state ((k l).does t).end z.comes z.grows (λ s d fit. fit) ((holds l e ml).by t z.dyn z.fit (few ((k l).touches t) al.0, al.1))
      left s d t l false e ml al z = lands_from limit c f x p to t (Err (stored.Left l)) z.comes z.grows (λ s d fit. fit) ((fails l e ml).by t z.dyn z.fit (tt, none_sound limit c f x f.asked))

      go : (s : stored.State) (d : Dyn) (t : stored.State) (e : Result A Cause) → Asks f g (stored.handled_touches t e takes k) (stored.handled_visits t e takes k) → Lands limit c f' y q h (from d) s.turns mid t e × MayEnd may e
          → (let r = stored.handled t e takes k in Lands limit c f x p j (from d) s.turns to r.state r.end)
      go s d t (Ok a) al ((told, k), u) = let l = asked_moved f' whose k in lands_from limit c f x p to t (Ok a) l.comes l.grows (λ s d fit. fit) ((ok a told).by t l.dyn l.fit (tt, none_sound limit c f x f.asked))
      go s d t (Err (stored.Left z)) al (l, u) = left s d t z (takes z) refl u al (asked_moved f' whose l)
      go s d t (Err OutOfTurns) al (k, u) = let l = clipped_moved f' Spent whose ws k in record { dyn = l.dyn; fit = weak _ _ l.fit; comes = l.comes; grows = l.grows }
      go s d t (Err CutOff) al (k, u) = let l = clipped_moved f' Cut whose ws k in record { dyn = l.dyn; fit = weak _ _ l.fit; comes = l.comes; grows = l.grows }
      go s d t (Err NoRoom) al l = tt
      go s d t (Err Misnoted) al ((un, k), u) = let l = clipped_moved f' Astray whose ws k in (un, record { dyn = l.dyn; fit = weak _ _ l.fit; comes = l.comes; grows = l.grows })

  -- the same where nothing is handled
  pub does_left : {A : Type 0} {g h j : Ghost} {q : A → Type 0} {p : A → Type 0} {m : Stored A} {from : Dyn → Step} {mid to : A → Dyn → Step} (may : Leave → Type 0) (f' : Fixed) (y : Ends) → f'.asked ≡ f.asked → f'.waiting ≡ f.waiting → ((s : stored.State) (d : Dyn) → Fit h s d → Fit j s d)
      → Inside may f' y g h q m from mid
      → ((a : A) → q a → Doing limit c f x h j p (stored.ret a) (mid a) to)
      → ((l : Leave) → may l → Doing limit c f x h j p (stored.leaves l) (λ d. left_by f' y l d) to)
      → Doing limit c f x g j p m from to
  unfolding stored.ret stored.leaves
  does_left {A} {g} {h} {j} {q} {p} {m} {from} {mid} {to} may f' y whose ws weak w ok leave = record { by = λ s d fit al. go s d (m.does s).state (m.does s).end (w.by s d fit al) }
    where
      go : (s : stored.State) (d : Dyn) (t : stored.State) (e : Result A Cause) → Lands limit c f' y q h (from d) s.turns mid t e × MayEnd may e → Lands limit c f x p j (from d) s.turns to t e
      go s d t (Ok a) ((told, k), u) = let l = asked_moved f' whose k in lands_from limit c f x p to t (Ok a) l.comes l.grows (λ s d fit. fit) ((ok a told).by t l.dyn l.fit (tt, none_sound limit c f x f.asked))
      go s d t (Err (stored.Left z)) (k, u) = let l = asked_moved f' whose k in lands_from limit c f x p to t (Err (stored.Left z)) l.comes l.grows (λ s d fit. fit) ((leave z u).by t l.dyn l.fit (tt, none_sound limit c f x f.asked))
      go s d t (Err OutOfTurns) (k, u) = let l = clipped_moved f' Spent whose ws k in record { dyn = l.dyn; fit = weak _ _ l.fit; comes = l.comes; grows = l.grows }
      go s d t (Err CutOff) (k, u) = let l = clipped_moved f' Cut whose ws k in record { dyn = l.dyn; fit = weak _ _ l.fit; comes = l.comes; grows = l.grows }
      go s d t (Err NoRoom) l = tt
      go s d t (Err Misnoted) ((un, k), u) = let l = clipped_moved f' Astray whose ws k in (un, record { dyn = l.dyn; fit = weak _ _ l.fit; comes = l.comes; grows = l.grows })
