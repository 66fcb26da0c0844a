-- Steps put together, and code that does parts of a program put together.
use Rattle.std.proofs.Common.{◌≡◌, ℕ, zero, suc, ◌+◌, ◌-◌, ◌≤◌, ℤ, pos, List, [], ◌∷◌, ◌++◌, length, drop, slice_get, Option, Some, None, is_some, Result, Ok, Err, refl, ap, ◌∙◌, sym, subst, le_refl, le_trans, arith, length-append, ⊎_elim, Bool, true, false, true≢false}
use Rattle.std.proofs.lemmas.Option.{none-some}
use Rattle.std.proofs.Math.Seq.{drop-append_seam}
use Rattle.ada_base.specs.declared.reason.Reason.{Reason}
use Rattle.typed_tree.specs.Syntax.{Program}
use Rattle.ada_meaning.specs.Stored as stored
use Rattle.ada_meaning.specs.Stored.{Stored, Cause, Left, OutOfTurns, NoRoom, CutOff, Misnoted, Touch, Visit, ThreadOf, TeamOf}
use Rattle.stack_code.specs.declared.code.Code.{Code}
use Rattle.stack_code.specs.declared.code.Unwind.{Unwind}
use Rattle.stack_code.specs.declared.instr.Instr.{Instr}
use Rattle.stack_code.specs.declared.instr.Instr.TheVariants.{Jump}
use Rattle.stack_code.specs.Listing.{reason_number}
use Rattle.stack_code.specs.Deeds.{GoesOn, Fails, deed_of}
use Rattle.stack_code.specs.Machine.{Frame, State, Went, Goes, Stops, Spent, Cut, entry_of, done, cut, raised, acted, look_by}
use Rattle.ada_lower.specs.Driven.{Dyn, Fixed, Path, Final, Finally, Step, On, on, path, state_of, Along, Safe, Comes, drive, driven, goes, thrown, looked, passed_on, unnested, Jumps, Meets, HeldBy, At}
use Rattle.ada_lower.specs.Teams.{AreSound}
use Rattle.ada_lower.specs.Fits.{Ghost, Allows, Asks, Fit, Ends, Land, Lands, Does}

abbrev pub any : {A : Type 0} → A → Type 0
any a = Unit {0}

abbrev pub is_jump : Instr → Bool
is_jump (Jump t) = true
is_jump i = false

-- what isn't a jump stands itself
pub itself : {c : Code} {q : ℕ} {i : Instr} {e : Option ℕ} → is_jump i ≡ false → At c q i e → slice_get c.instrs q ≡ Some i
itself {i = i} plain a = ⊎_elim (λ e. e) (λ r. let (t, u, is, there, m) = r in absurd (true≢false (sym (ap is_jump is) ∙ plain))) a.is

module _ (limit : ℕ) (c : Code) where
  abbrev pub To : Step → Step → Type 0
  To x y = (asked : Bool) → Comes limit c asked x y

  pub comes_here : (x : Step) → To x x
  comes_here x = λ asked. record { to = λ e r. r; safe = λ s. s }

  -- where forks may be on the way
  pub leads_on : {asked : Bool} {x y z : Step} → Comes limit c asked x y → Comes limit c asked y z → Comes limit c asked x z
  leads_on a b = record { to = λ e r. a.to e (b.to e r); safe = λ s. a.safe (b.safe s) }

  pub comes_on : {x y z : Step} → To x y → To y z → To x z
  comes_on a b = λ asked. leads_on (a asked) (b asked)

  pub comes_drive : (p : Path) → To (On p) (drive limit c p)
  comes_drive p = λ asked. record { to = λ e r. (suc r.0, r.1); safe = safe asked }
    where
      safe : (asked : Bool) → Safe limit c asked (drive limit c p) → (n : ℕ) → Along limit c asked n (On p)
      safe asked s zero = tt
      safe asked s (suc n) = s n

  -- what an instruction leads to
  abbrev pub led : Fixed → ℕ → List ℤ → Dyn → Instr → Step
  led f q st d i = driven limit c (done limit (deed_of c q (st ++ f.below) f.base f.outward i) (state_of f q st [] None d)) d.world

  -- a step turned round
  pub comes_back : (p : Path) (x : Step) → drive limit c p ≡ x → To x (On p)
  comes_back p x same = λ asked. record { to = λ e r. go e r.0 r.1; safe = λ s n. subst (λ y. Along limit c asked n y) same (s (suc n)) }
    where
      go : (e : Final) (n : ℕ) → goes limit c n (On p) ≡ Some e → Finally limit c x e
      go e zero h = absurd (none-some e h)
      go e (suc n) h = (n, subst (λ y. goes limit c n y ≡ Some e) same h)

  jump_drives : (f : Fixed) (t v : ℕ) (st : List ℤ) (line : List ℕ) (d : Dyn) → slice_get c.instrs t ≡ Some (Jump v) → drive limit c (path f t st line None d) ≡ On (path f v st line None d)
  jump_drives f t v st line d e = ap (λ o. driven limit c (acted limit c o (state_of f t st line None d)) d.world) e

  jumps_on : (f : Fixed) (st : List ℤ) (line : List ℕ) (d : Dyn) (n t u : ℕ) → Jumps c n t u → To (On (path f t st line None d)) (On (path f u st line None d))
  jumps_on f st line d zero t u e = subst (λ u. To (On (path f t st line None d)) (On (path f u st line None d))) e (comes_here (On (path f t st line None d)))
  jumps_on f st line d (suc n) t u (v, e, more) =
      comes_on (subst (λ y. To (On (path f t st line None d)) y) (jump_drives f t v st line d e) (comes_drive (path f t st line None d))) (jumps_on f st line d n v u more)

  jumps_back : (f : Fixed) (st : List ℤ) (line : List ℕ) (d : Dyn) (n t u : ℕ) → Jumps c n t u → To (On (path f u st line None d)) (On (path f t st line None d))
  jumps_back f st line d zero t u e = subst (λ u. To (On (path f u st line None d)) (On (path f t st line None d))) e (comes_here (On (path f t st line None d)))
  jumps_back f st line d (suc n) t u (v, e, more) =
      comes_on (jumps_back f st line d n v u more) (comes_back (path f t st line None d) (On (path f v st line None d)) (jump_drives f t v st line d e))

  -- a path at a place from which jumps lead where they lead from another one
  meets : {t u : ℕ} (f : Fixed) (st : List ℤ) (line : List ℕ) (d : Dyn) → Meets c t u → To (On (path f u st line None d)) (On (path f t st line None d))
  meets {t} {u} f st line d m = comes_on (jumps_on f st line d m.second u m.place m.there) (jumps_back f st line d m.first t m.place m.here)

  -- an instruction, where a line has been written
  pub comes_lined : {q : ℕ} {i : Instr} {e : Option ℕ} (f : Fixed) (st : List ℤ) (line : List ℕ) (d : Dyn) → At c q i e
      → To (On (path f q st line None d)) (driven limit c (done limit (deed_of c q (st ++ f.below) f.base f.outward i) (state_of f q st line None d)) d.world)
  comes_lined {q} {i} f st line d a = ⊎_elim
      (λ is. subst (λ o. To (On (path f q st line None d)) (driven limit c (acted limit c o (state_of f q st line None d)) d.world)) is (comes_drive (path f q st line None d)))
      (λ r. let (t, u, is, there, m) = r in
      subst (λ i. To (On (path f q st line None d)) (driven limit c (done limit (deed_of c q (st ++ f.below) f.base f.outward i) (state_of f q st line None d)) d.world)) (sym is)
      (comes_on (subst (λ y. To (On (path f q st line None d)) y) (jump_drives f q u st line d there) (comes_drive (path f q st line None d))) (meets f st line d m)))
      a.is

  pub comes_instr : {q : ℕ} {i : Instr} {e : Option ℕ} (f : Fixed) (st : List ℤ) (d : Dyn) → At c q i e → To (on f q st d) (led f q st d i)
  comes_instr f st d a = comes_lined f st [] d a

  pub comes_as : {q : ℕ} {i : Instr} {e : Option ℕ} {y : Step} (f : Fixed) (st : List ℤ) (d : Dyn) → At c q i e → led f q st d i ≡ y → To (on f q st d) y
  comes_as {q} f st d a is = subst (λ y. To (on f q st d) y) is (comes_instr f st d a)

  -- an instruction that goes on
  pub comes_goes : {q : ℕ} {i : Instr} {e : Option ℕ} (f : Fixed) (st : List ℤ) (to : ℕ) (rest : List ℤ) (d : Dyn) → At c q i e → deed_of c q (st ++ f.below) f.base f.outward i ≡ GoesOn to (rest ++ f.below) → To (on f q st d) (on f to rest d)
  comes_goes {q} f st to rest d a is = comes_as f st d a (ap (λ w. driven limit c (done limit w (state_of f q st [] None d)) d.world) is)

  -- ---- raises

  cut_all : (top below : List ℤ) (n : ℕ) → n ≡ 0 → cut (length below + n) (top ++ below) ≡ below
  cut_all top below n z =
      let m : length (top ++ below) - (length below + n) ≡ length top = omega (arith, length-append top below) in
      ap (λ i. drop i (top ++ below)) m ∙ drop-append_seam top below

  handled_at : (f : Fixed) (st : List ℤ) (h : ℕ) (u : Unwind) (r : Reason) (d : Dyn) → u.handler ≡ h → u.depth ≡ 0 → u.nest ≡ 0 → ◌≡◌ {A = Step}
      (On (record { state = Rattle.stack_code.specs.Machine.handled u r (state_of f 0 st [] (Some r) d); world = d.world }))
      (on (unnested f) h (pos (reason_number r) ∷ []) d)
  handled_at f st h u r d eh ed en = rw (eh, en, cut_all st f.below u.depth ed) refl

  handled_to : (f : Fixed) (q : ℕ) (st : List ℤ) (h : ℕ) (u : Unwind) (r : Reason) (o : Option ℕ) (d : Dyn) → u.handler ≡ h → u.depth ≡ 0 → u.nest ≡ 0
      → driven limit c (look_by o (state_of f q st [] (Some r) d) (λ s. Goes (Rattle.stack_code.specs.Machine.handled u r s))) d.world ≡ looked f o d (λ d. on (unnested f) h (pos (reason_number r) ∷ []) d)
  handled_to f q st h u r None d eh ed en = handled_at f st h u r d eh ed en
  handled_to f q st h u r (Some zero) d eh ed en = refl
  handled_to f q st h u r (Some (suc n)) d eh ed en = handled_at f st h u r (record d { left = Some n }) eh ed en

  passes : (f : Fixed) (q : ℕ) (st : List ℤ) (r : Reason) (ws : List Frame) (d : Dyn)
      → driven limit c (Rattle.stack_code.specs.Machine.unwound r ws (state_of f q st [] (Some r) d)) d.world ≡ passed_on r ws f d
  passes f q st r [] d = refl
  passes f q st r (w ∷ ws) d =
      let e : cut (length f.below) (st ++ f.below) ≡ f.below = ap (λ n. cut n (st ++ f.below)) (let z : length f.below ≡ length f.below + 0 = omega arith in z) ∙ cut_all st f.below 0 refl in
      rw e refl

  looked_meets : (f : Fixed) (st : List ℤ) (t u : ℕ) (o : Option ℕ) (d : Dyn) → Meets c t u → To (looked f o d (λ d. on (unnested f) u st d)) (looked f o d (λ d. on (unnested f) t st d))
  looked_meets f st t u None d m = meets (unnested f) st [] d m
  looked_meets f st t u (Some zero) d m = comes_here _
  looked_meets f st t u (Some (suc n)) d m = meets (unnested f) st [] (record d { left = Some n }) m

  throws : (f : Fixed) (q : ℕ) (st : List ℤ) (r : Reason) (d : Dyn) (u : Option Unwind) (e : Option ℕ) → HeldBy c u e
      → To (driven limit c (raised r u (state_of f q st [] (Some r) d)) d.world) (thrown r e f d)
  throws f q st r d None None h = subst (λ y. To (driven limit c (raised r None (state_of f q st [] (Some r) d)) d.world) y) (passes f q st r f.waiting d) (comes_here _)
  throws f q st r d None (Some n) h = absurd h
  throws f q st r d (Some u) None h = absurd h
  throws f q st r d (Some u) (Some n) h =
      comes_on (subst (λ y. To (driven limit c (raised r (Some u) (state_of f q st [] (Some r) d)) d.world) y) (handled_to f q st u.handler u r d.left d refl h.1 h.2) (comes_here _))
      (looked_meets f (pos (reason_number r) ∷ []) n u.handler d.left d h.0)

  -- a raise at an instruction
  pub comes_thrown : {q : ℕ} {i : Instr} {e : Option ℕ} (f : Fixed) (st : List ℤ) (r : Reason) (d : Dyn) → At c q i e → To (On (path f q st [] (Some r) d)) (thrown r e f d)
  comes_thrown {q} {i} {e} f st r d a = comes_on (comes_drive (path f q st [] (Some r) d)) (throws f q st r d (entry_of c.unwind q) e a.held)

  pub comes_fails : {q : ℕ} {i : Instr} {e : Option ℕ} (f : Fixed) (st : List ℤ) (rest : List ℤ) (r : Reason) (d : Dyn) → At c q i e → deed_of c q (st ++ f.below) f.base f.outward i ≡ Fails r (rest ++ f.below) → To (on f q st d) (thrown r e f d)
  comes_fails {q} {i} {e} f st rest r d a is =
      comes_on (comes_as f st d a (ap (λ w. driven limit c (done limit w (state_of f q st [] None d)) d.world) is)) (comes_thrown f rest r d a)

  -- ---- parts

  module _ (f : Fixed) (x : Ends) where
    abbrev pub Doing : {A : Type 0} → Ghost → Ghost → (A → Type 0) → Stored A → (Dyn → Step) → (A → Dyn → Step) → Type 0
    Doing g h q m from to = Does limit c f x g h q m from to

    abbrev pub Landing : {A : Type 0} → (A → Type 0) → Ghost → Step → ℕ → (A → Dyn → Step) → stored.State → Result A Cause → Type 0
    Landing q g from turns to s e = Lands limit c f x q g from turns to s e

    pub Weaker : Ghost → Ghost → Type 0
    Weaker g h = (s : stored.State) (d : Dyn) → Fit g s d → Fit h s d

    pub land_from : {g h : Ghost} {from from' : Step} {n m : ℕ} {s : stored.State} {to : Dyn → Step} {asked : Bool} → Comes limit c asked from from' → n ≤ m → ((s : stored.State) (d : Dyn) → Fit g s d → Fit h s d) → Land limit c asked g from' m s to → Land limit c asked h from n s to
    land_from a le w l = record { dyn = l.dyn; fit = w _ _ l.fit; comes = leads_on a l.comes; grows = le_trans le l.grows }

    -- what comes before, and a ghost of which less is asked
    pub lands_from : {A : Type 0} {g h : Ghost} {from from' : Step} {n m : ℕ} (q : A → Type 0) (to : A → Dyn → Step) (s : stored.State) (e : Result A Cause) → Comes limit c (is_some f.asked) from from' → n ≤ m → ((s : stored.State) (d : Dyn) → Fit g s d → Fit h s d)
        → Landing q g from' m to s e → Landing q h from n to s e
    lands_from q to s (Ok a) k le w l = (l.0, land_from k le w l.1)
    lands_from q to s (Err (Left y)) k le w l = land_from k le w l
    lands_from q to s (Err OutOfTurns) k le w l = land_from k le w l
    lands_from q to s (Err CutOff) k le w l = land_from k le w l
    lands_from q to s (Err NoRoom) k le w l = tt
    lands_from q to s (Err Misnoted) k le w (un, l) = (un, land_from k le w l)

    pub does_ret : {A : Type 0} {g : Ghost} {q : A → Type 0} {to : A → Dyn → Step} (a : A) → q a → Doing g g q (stored.ret a) (λ d. to a d) to
    unfolding stored.ret
    does_ret a ok = record { by = λ s d fit al. (ok, record { dyn = d; fit = fit; comes = comes_here _ _; grows = le_refl s.turns }) }

    pub allows_split : (g : Ghost) (xs ys : List Touch) → Allows g (xs ++ ys) → Allows g xs × Allows g ys
    allows_split g [] ys al = (tt, al)
    allows_split g (t ∷ xs) ys al = let r = allows_split g xs ys al.1 in ((al.0, r.0), r.1)

    pub sound_split : (o : Option Program) (us vs : List Visit) → AreSound o (us ++ vs) → AreSound o us × AreSound o vs
    sound_split None us vs k = (tt, tt)
    sound_split (Some p) [] vs k = (tt, k)
    sound_split (Some p) (ThreadOf t ∷ us) vs k = sound_split (Some p) us vs k
    sound_split (Some p) (TeamOf t ∷ us) vs k = let r = sound_split (Some p) us vs k.1 in ((k.0, r.0), r.1)

    pub sound_join : (o : Option Program) (us vs : List Visit) → AreSound o us → AreSound o vs → AreSound o (us ++ vs)
    sound_join None us vs a b = tt
    sound_join (Some p) [] vs a b = b
    sound_join (Some p) (ThreadOf t ∷ us) vs a b = sound_join (Some p) us vs a b
    sound_join (Some p) (TeamOf t ∷ us) vs a b = (a.0, sound_join (Some p) us vs a.1 b)

    pub none_sound : (o : Option Program) → AreSound o []
    none_sound None = tt
    none_sound (Some p) = tt

    pub asks_split : (g : Ghost) (xs ys : List Touch) (us vs : List Visit) → Asks f g (xs ++ ys) (us ++ vs) → Asks f g xs us × Asks f g ys vs
    asks_split g xs ys us vs al = let (a, b) = allows_split g xs ys al.0 in let (k, l) = sound_split f.asked us vs al.1 in ((a, k), (b, l))

    -- one part, and then another; the second touches what the first ghost allows
    pub does_bind : {A B : Type 0} {g : Ghost} {p : A → Type 0} {q : B → Type 0} {m : Stored A} {k : A → Stored B} {from : Dyn → Step} {mid : A → Dyn → Step} {to : B → Dyn → Step}
        → Doing g g p m from mid → ((a : A) → p a → Doing g g q (k a) (mid a) to) → Doing g g q (stored.bind m k) from to
    unfolding stored.bind
    does_bind {A} {B} {g} {p} {q} {m} {k} {from} {mid} {to} h j = record {
      by = λ s d fit al. let (ax, ay) = asks_split g (m.touches s) (stored.next_touches (m.does s).state (m.does s).end k) (m.visits s) (stored.next_visits (m.does s).state (m.does s).end k) al in go s d (m.does s).state (m.does s).end ay (h.by s d fit ax);
    }
      where
        go : (s : stored.State) (d : Dyn) (t : stored.State) (e : Result A Cause) → Asks f g (stored.next_touches t e k) (stored.next_visits t e k) → Landing p g (from d) s.turns mid t e
            → (let r = stored.next t e k in Landing q g (from d) s.turns to r.state r.end)
        go s d t (Ok a) al l = lands_from q to ((k a).does t).state ((k a).does t).end l.1.comes l.1.grows (λ s d fit. fit) ((j a l.0).by t l.1.dyn l.1.fit al)
        go s d t (Err (Left y)) al l = l
        go s d t (Err OutOfTurns) al l = l
        go s d t (Err CutOff) al l = l
        go s d t (Err NoRoom) al l = tt
        go s d t (Err Misnoted) al l = l

    -- the same, where the first part leads to another ghost
    pub does_seq : {A B : Type 0} {g h j : Ghost} {p : A → Type 0} {q : B → Type 0} {m : Stored A} {k : A → Stored B} {from : Dyn → Step} {mid : A → Dyn → Step} {to : B → Dyn → Step}
        → ((s : stored.State) (d : Dyn) → Fit h s d → Fit j s d) → ((ts : List Touch) → Allows g ts → Allows h ts)
        → Doing g h p m from mid → ((a : A) → p a → Doing h j q (k a) (mid a) to) → Doing g j q (stored.bind m k) from to
    unfolding stored.bind
    does_seq {A} {B} {g} {h} {j} {p} {q} {m} {k} {from} {mid} {to} weak few i n = record {
      by = λ s d fit al. let (ax, ay) = asks_split g (m.touches s) (stored.next_touches (m.does s).state (m.does s).end k) (m.visits s) (stored.next_visits (m.does s).state (m.does s).end k) al in go s d (m.does s).state (m.does s).end ay (i.by s d fit ax);
    }
      where
        go : (s : stored.State) (d : Dyn) (t : stored.State) (e : Result A Cause) → Asks f g (stored.next_touches t e k) (stored.next_visits t e k) → Landing p h (from d) s.turns mid t e
            → (let r = stored.next t e k in Landing q j (from d) s.turns to r.state r.end)
        go s d t (Ok a) al l = lands_from q to ((k a).does t).state ((k a).does t).end l.1.comes l.1.grows (λ s d fit. fit) ((n a l.0).by t l.1.dyn l.1.fit (few ((k a).touches t) al.0, al.1))
        go s d t (Err (Left y)) al l = land_from (comes_here (from d) _) (le_refl s.turns) weak l
        go s d t (Err OutOfTurns) al l = land_from (comes_here (from d) _) (le_refl s.turns) weak l
        go s d t (Err CutOff) al l = land_from (comes_here (from d) _) (le_refl s.turns) weak l
        go s d t (Err NoRoom) al l = tt
        go s d t (Err Misnoted) al (un, l) = (un, land_from (comes_here (from d) _) (le_refl s.turns) weak l)

    -- machine steps before a part
    pub does_before : {A : Type 0} {g h : Ghost} {q : A → Type 0} {m : Stored A} {from from' : Dyn → Step} {to : A → Dyn → Step} → ((d : Dyn) → To (from d) (from' d)) → Doing g h q m from' to → Doing g h q m from to
    does_before {q = q} {to = to} k j = record { by = λ s d fit al. lands_from q to _ _ (k d _) (le_refl s.turns) (λ s d fit. fit) (j.by s d fit al) }

    -- a value that is known, and then a part
    pub does_returned : {A B : Type 0} {g h : Ghost} {q : B → Type 0} {from : Dyn → Step} {to : B → Dyn → Step} (k : A → Stored B) (a : A) → Doing g h q (k a) from to → Doing g h q (stored.bind (stored.ret a) k) from to
    unfolding stored.bind stored.ret
    does_returned k a j = record { by = λ s d fit al. j.by s d fit al }

    pub allows_join : (g : Ghost) (xs ys : List Touch) → Allows g xs → Allows g ys → Allows g (xs ++ ys)
    allows_join g [] ys a b = b
    allows_join g (t ∷ xs) ys a b = (a.0, allows_join g xs ys a.1 b)

    pub asks_join : (g : Ghost) (xs ys : List Touch) (us vs : List Visit) → Asks f g xs us → Asks f g ys vs → Asks f g (xs ++ ys) (us ++ vs)
    asks_join g xs ys us vs a b = (allows_join g xs ys a.0 b.0, sound_join f.asked us vs a.1 b.1)

    -- parts in another bracketing
    pub does_assoc : {A B C : Type 0} {g h : Ghost} {q : C → Type 0} {from : Dyn → Step} {to : C → Dyn → Step} (m : Stored A) (k : A → Stored B) (n : B → Stored C)
        → Doing g h q (stored.bind m (λ a. stored.bind (k a) n)) from to → Doing g h q (stored.bind (stored.bind m k) n) from to
    unfolding stored.bind
    does_assoc {A} {B} {C} {g} {h} {q} {from} {to} m k n j = record {
      by = λ s d fit al.
          let (a1, a2) = asks_split g (m.touches s ++ stored.next_touches (m.does s).state (m.does s).end k) _ (m.visits s ++ stored.next_visits (m.does s).state (m.does s).end k) _ al in
          let (a3, a4) = asks_split g (m.touches s) (stored.next_touches (m.does s).state (m.does s).end k) (m.visits s) (stored.next_visits (m.does s).state (m.does s).end k) a1 in
          does_same s d (m.does s).state (m.does s).end (j.by s d fit (asks_join g (m.touches s) _ (m.visits s) _ a3 (same s (m.does s).state (m.does s).end a4 a2)));
    }
      where
        same : (s t : stored.State) (e : Result A Cause) → Asks f g (stored.next_touches t e k) (stored.next_visits t e k) → (let r = stored.next t e k in Asks f g (stored.next_touches r.state r.end n) (stored.next_visits r.state r.end n))
            → Asks f g (stored.next_touches t e (λ a. stored.bind (k a) n)) (stored.next_visits t e (λ a. stored.bind (k a) n))
        same s t (Ok a) x1 x2 = asks_join g ((k a).touches t) _ ((k a).visits t) _ x1 x2
        same s t (Err e) x1 x2 = (tt, none_sound f.asked)

        does_same : (s : stored.State) (d : Dyn) (t : stored.State) (e : Result A Cause) → (let r = stored.next t e (λ a. stored.bind (k a) n) in Landing q h (from d) s.turns to r.state r.end)
            → (let r = stored.next t e k in let u = stored.next r.state r.end n in Landing q h (from d) s.turns to u.state u.end)
        does_same s d t (Ok a) l = l
        does_same s d t (Err e) l = l
