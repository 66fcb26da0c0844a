-- Behaviours that touch only what they make and what is allowed, and have no races.
use Rattle.std.proofs.Common.{◌≡◌, ℕ, zero, suc, ◌+◌, ◌<◌, ◌≤◌, ℤ, nat_lt, List, [], ◌∷◌, ◌++◌, ◌⊎◌, inl, inr, ⊎_elim, Option, Some, None, Bool, true, false, cond, sym, subst, ap, ◌∙◌, refl, true≢false, eqb-true, eq-eqb, arith, le_refl, length}
use Rattle.ada_base.specs.declared.reason.Reason.TheVariants as reason
use Rattle.typed_tree.specs.declared.scalars.Scalar.{Scalar}
use Rattle.typed_tree.specs.Syntax.{Program}
use Rattle.behaviours.specs.Doings.{through, onto}
use Rattle.behaviours.specs.Paths.{Leave, Raises, Entity, VariableOf, ConstantOf, Region, Everywhere, Here, Instance, End, Gives, Leaves, Path, Scope, Extent, find, within_extent, first_of, declares, apart_of, entity_eq, one_turn, one_taken, one_elaboration}
use Rattle.behaviours.specs.Events.{Event, Reads, Writes, Recalls, Keeps, Takes, Puts, Looks, Trace}
use Rattle.behaviours.specs.Behaviours.{Behaviour, Asks, Did, Unbegun, fillings}
use Rattle.ada_meaning.specs.Operations.{CheckKind}
use Rattle.ada_meaning.specs.Meaning.{object_of}
use Rattle.check_effects.specs.Effects.{IsGlobal}
use Rattle.behaviours.specs.Behaviours
use Rattle.ada_meaning.specs.Runs
use Rattle.ada_meaning.specs.Planned.{here}
use Rattle.ada_meaning.specs.Programs.{this}
use Rattle.ada_meaning.proofs.Ties.{Future, Goes, goes_one, fresh}

-- which cells of which variables may be read or written by name, and which by calls; and whether input may be
pub record Allowed : Type 1 where
  pub at : Bool → ℕ → ℕ → Type 0
  pub global : Bool → ℕ → ℕ → Type 0
  pub input : Type 0

-- constants are only read
abbrev pub MayTouch : (Bool → ℕ → ℕ → Type 0) → Bool → Entity → ℕ → Type 0
MayTouch F writes (VariableOf x) i = F writes x i
MayTouch F writes (ConstantOf x) i = writes ≡ false

abbrev pub Seen : Allowed → Scope Instance → Bool → Instance → ℕ → Type 0
Seen E s writes l i = (x : Entity) × (((find s x i ≡ Some l) × MayTouch E.at writes x i) ⊎ ((within_extent i (s.everywhere x) ≡ Some l) × MayTouch E.global writes x i))

abbrev pub Okay : Allowed → Scope Instance → Path Instance → Event Instance → Type 0
Okay E s p (Reads l i v) = Future p l ⊎ Seen E s false l i
Okay E s p (Writes l i v) = Future p l ⊎ Seen E s true l i
Okay E s p (Recalls h) = E.input
Okay E s p (Keeps h) = E.input
Okay E s p (Takes n b) = E.input
Okay E s p (Puts bytes) = Unit {0}
Okay E s p Looks = Unit {0}

abbrev pub Each : (Event Instance → Type 0) → Trace Instance → Type 0
Each F [] = Unit {0}
Each F (a ∷ tr) = F a × Each F tr

abbrev pub Tidy : Allowed → Scope Instance → Path Instance → Trace Instance → Path Instance → Type 0
Tidy E s p tr q = Each (Okay E s p) tr × Goes p q

abbrev pub Visible : Scope Instance → Entity → ℕ → Instance → Type 0
Visible s x i l = (within_extent i (s.here x) ≡ Some l) ⊎ (within_extent i (s.everywhere x) ≡ Some l)

-- what is visible was made before, is called by its object, and is the main procedure's where it is visible everywhere
pub record Lives (program : Program) (s : Scope Instance) (p : Path Instance) : Type 0 where
  pub old : (x : Entity) (i : ℕ) (l : Instance) → Visible s x i l → Future p l → ⊥
  pub named : (x : Entity) (i : ℕ) (l : Instance) → Visible s x i l → l.object ≡ x
  pub known : (x : Entity) (i : ℕ) (l : Instance) → within_extent i (s.everywhere x) ≡ Some l → IsGlobal program (object_of x)

pub lives_on : (program : Program) (s : Scope Instance) (p q : Path Instance) → Goes p q → Lives program s p → Lives program s q
lives_on program s p q g k = record { old = λ x i l v f. k.old x i l v (g l f); named = k.named; known = k.known }

pub none_some : {A : Type 0} {l : A} → None ≡ Some l → ⊥
none_some e = cc

pub some_same : {A : Type 0} {l k : A} → Some l ≡ Some k → l ≡ k
some_same e = cc

-- what is found is visible
pub seen : (s : Scope Instance) (x : Entity) (i : ℕ) (l : Instance) → find s x i ≡ Some l → Visible s x i l
seen s x i l e = go (s.here x) (s.everywhere x) e
  where
    go : (a b : Option (Extent Instance)) → within_extent i (first_of a b) ≡ Some l → (within_extent i a ≡ Some l) ⊎ (within_extent i b ≡ Some l)
    go None b e = inr e
    go (Some a) b e = inl e

pub within_new : (i : ℕ) (new l : Instance) (n : ℕ) → within_extent i (Some (record { instance = new; cells = n })) ≡ Some l → l ≡ new
within_new i new l n e = go (nat_lt i n) e
  where
    go : (b : Bool) → cond b (Some new) None ≡ Some l → l ≡ new
    go true e = some_same (sym e)
    go false e = absurd (none_some e)

pub each_append : (F : Event Instance → Type 0) (t u : Trace Instance) → Each F t → Each F u → Each F (t ++ u)
each_append F [] u a b = b
each_append F (x ∷ t) u a b = (a.0, each_append F t u a.1 b)

pub each_on : (F G : Event Instance → Type 0) → ((a : Event Instance) → F a → G a) → (t : Trace Instance) → Each F t → Each G t
each_on F G f [] h = tt
each_on F G f (a ∷ t) h = (f a h.0, each_on F G f t h.1)

-- an event that is right for one is right for another
pub okay_on : (E D : Allowed) (s r : Scope Instance) (p q : Path Instance) → Goes p q → ((w : Bool) (l : Instance) (i : ℕ) → Seen E r w l i → Future p l ⊎ Seen D s w l i) → (E.input → D.input) → (a : Event Instance) → Okay E r q a → Okay D s p a
okay_on E D s r p q f g h (Reads l i v) k = ⊎_elim (λ n. inl (f l n)) (g false l i) k
okay_on E D s r p q f g h (Writes l i v) k = ⊎_elim (λ n. inl (f l n)) (g true l i) k
okay_on E D s r p q f g h (Recalls x) k = h k
okay_on E D s r p q f g h (Keeps x) k = h k
okay_on E D s r p q f g h (Takes n b) k = h k
okay_on E D s r p q f g h (Puts bytes) k = tt
okay_on E D s r p q f g h Looks k = tt

pub later : (E : Allowed) (s : Scope Instance) (p q : Path Instance) → Goes p q → (t : Trace Instance) → Each (Okay E s q) t → Each (Okay E s p) t
later E s p q f t h = each_on (Okay E s q) (Okay E s p) (okay_on E E s s p q f (λ w l i k. inr k) (λ k. k)) t h

pub stays : (p : Path Instance) → Goes p p
stays p x k = k

-- a value that a behaviour can give
pub record Can {A : Type 0} (m : Behaviour Instance A) (a : A) : Type 0 where
  pub scope : Scope Instance
  pub path : Path Instance
  pub trace : Trace Instance
  pub early : Bool
  pub after : Path Instance
  pub run : m.runs scope path trace early after (Gives a)

-- W is what is asked for, besides that all is covered
module _ (program : Program) (W : Type 0) where
  pub record Good {A : Type 0} (E : Allowed) (b : Behaviour Instance A) : Type 0 where
    pub covers : (s : Scope Instance) (p : Path Instance) (tr : Trace Instance) (y : Bool) (p' : Path Instance) (e : End A) → Lives program s p → b.runs s p tr y p' e → Tidy E s p tr p'
    pub safe : (s : Scope Instance) (p : Path Instance) → W → Lives program s p → b.safe s p

  did_tidy : {A : Type 0} (E : Allowed) (s : Scope Instance) (p : Path Instance) (act : Trace Instance) (q : Path Instance) (end : End A) (tr : Trace Instance) (y : Bool) (p' : Path Instance) (e : End A) → Each (Okay E s p) act → Goes p q → Did p act q end tr y p' e → Tidy E s p tr p'
  did_tidy E s p act q end tr y p' e h f (z, inl (t, r, k)) = (subst (λ w. Each (Okay E s p) w) (sym t) h, subst (λ w. Goes p w) (sym r) f)
  did_tidy E s p act q end tr y p' e h f (z, inr (t, r, k)) = (subst (λ w. Each (Okay E s p) w) (sym t) tt, subst (λ w. Goes p w) (sym r) (λ x k. k))

  none_tidy : {A : Type 0} (E : Allowed) (s : Scope Instance) (p : Path Instance) (tr : Trace Instance) (y : Bool) (p' : Path Instance) (e : End A) → Unbegun p tr y p' e → Tidy E s p tr p'
  none_tidy E s p tr y p' e (t, z, r, k) = (subst (λ w. Each (Okay E s p) w) (sym t) tt, subst (λ w. Goes p w) (sym r) (λ x k. k))

  pub wider : {A : Type 0} (E D : Allowed) (b : Behaviour Instance A) → ((w : Bool) (x i : ℕ) → E.at w x i → D.at w x i) → ((w : Bool) (x i : ℕ) → E.global w x i → D.global w x i) → (E.input → D.input) → Good E b → Good D b
  wider E D b f g h k = record {
    covers = λ s p tr y p' e lives run. let c = k.covers s p tr y p' e lives run in (each_on (Okay E s p) (Okay D s p) (okay_on E D s s p p (stays p) (λ w l i n. inr (n.0, ⊎_elim (λ a. inl (a.0, may E.at D.at f w n.0 i a.1)) (λ a. inr (a.0, may E.global D.global g w n.0 i a.1)) n.1)) h) tr c.0, c.1);
    safe = k.safe;
  }
    where
      may : (F G : Bool → ℕ → ℕ → Type 0) → ((w : Bool) (x i : ℕ) → F w x i → G w x i) → (w : Bool) (x : Entity) (i : ℕ) → MayTouch F w x i → MayTouch G w x i
      may F G f w (VariableOf x) i k = f w x i k
      may F G f w (ConstantOf x) i k = k

  module _ (E : Allowed) where
    pub ret_good : {A : Type 0} (a : A) → Good E (Behaviours.ret a)
    ret_good a = record { covers = λ s p tr y p' e k d. did_tidy E s p [] p _ tr y p' e tt (stays p) d; safe = λ s p w k. tt }

    pub leaves_good : {A : Type 0} (x : Leave) → Good E (Behaviours.leaves {A = A} x)
    leaves_good x = record { covers = λ s p tr y p' e k d. did_tidy E s p [] p _ tr y p' e tt (stays p) d; safe = λ s p w k. tt }

    pub spent_good : {A : Type 0} → Good E (Behaviours.spent {A = A})
    spent_good = record { covers = λ s p tr y p' e k d. did_tidy E s p [] p _ tr y p' e tt (stays p) d; safe = λ s p w k. tt }

    pub checks_good : (kind : CheckKind) (at : ℕ) (b : Bool) → Good E (Runs.checks kind at b)
    checks_good kind at true = ret_good tt
    checks_good kind at false = leaves_good (Raises reason.ConstraintError)

    pub emits_good : (event : Event Instance) → ((s : Scope Instance) (p : Path Instance) → Okay E s p event) → Good E (Behaviours.emits event)
    emits_good event h = record { covers = λ s p tr y p' e k d. did_tidy E s p (event ∷ []) p _ tr y p' e (h s p, tt) (stays p) d; safe = λ s p w k. tt }

    pub look_good : Good E (Behaviours.emits Looks)
    look_good = emits_good Looks (λ s p. tt)

    pub turn_good : (limit : ℕ) → Good E (Behaviours.turn limit)
    turn_good limit = record {
      covers = λ s p tr y p' e k d. ⊎_elim (λ h. did_tidy E s p [] (one_turn p) _ tr y p' e tt (λ x k. k) h.1) (λ h. did_tidy E s p [] p _ tr y p' e tt (stays p) h.1) d;
      safe = λ s p w k. tt;
    }

    pub recalls_good : E.input → Good E Behaviours.recalls
    recalls_good h = record { covers = λ s p tr y p' e k d. did_tidy E s p (Recalls d.0 ∷ []) p _ tr y p' e (h, tt) (stays p) d.1; safe = λ s p w k. tt }

    pub takes_good : E.input → Good E Behaviours.takes
    takes_good h = record { covers = λ s p tr y p' e k d. did_tidy E s p (Takes p.taken d.0 ∷ []) (one_taken p) _ tr y p' e (h, tt) (λ x k. k) d.1; safe = λ s p w k. tt }

    found_good : {A : Type 0} (f : Instance → Behaviour Instance A) (x : Entity) (i : ℕ)
        → ((s : Scope Instance) (l : Instance) (p : Path Instance) (tr : Trace Instance) (y : Bool) (p' : Path Instance) (e : End A) → find s x i ≡ Some l → (f l).runs s p tr y p' e → Tidy E s p tr p')
        → ((s : Scope Instance) (l : Instance) (p : Path Instance) → (f l).safe s p) → Good E (Behaviours.with_scope (λ s. Behaviours.where_found f (find s x i)))
    found_good {A} f x i c h = record { covers = λ s p tr y p' e k d. go s (find s x i) refl p tr y p' e d; safe = λ s p w k. calm s p (find s x i) }
      where
        go : (s : Scope Instance) (o : Option Instance) → find s x i ≡ o → (p : Path Instance) (tr : Trace Instance) (y : Bool) (p' : Path Instance) (e : End A) → (Behaviours.where_found f o).runs s p tr y p' e → Tidy E s p tr p'
        go s None q p tr y p' e d = did_tidy E s p [] p _ tr y p' e tt (stays p) d
        go s (Some l) q p tr y p' e d = c s l p tr y p' e q d

        calm : (s : Scope Instance) (p : Path Instance) (o : Option Instance) → (Behaviours.where_found f o).safe s p
        calm s p None = tt
        calm s p (Some l) = h s l p

    pub reads_good : (admits : Scalar → ℤ → Type 0) (x : Entity) (i : ℕ) (cell : Scalar) → MayTouch E.at false x i → Good E (Runs.reads admits x i cell)
    reads_good admits x i cell may = found_good (λ l. Behaviours.at_once (λ p tr y p' e. ((v : ℤ) × admits cell v × Did p (Reads l i v ∷ []) p (Gives v) tr y p' e) ⊎ Unbegun p tr y p' e)) x i
        (λ s l p tr y p' e q d. ⊎_elim (λ h. did_tidy E s p (Reads l i h.0 ∷ []) p _ tr y p' e (inr (x, inl (q, may)), tt) (stays p) h.2) (none_tidy E s p tr y p' e) d) (λ s l p. tt)

    pub writes_good : (x i : ℕ) (v : ℤ) → E.at true x i → Good E (Behaviours.writes x i v)
    writes_good x i v may = found_good (λ l. Behaviours.emits (Writes l i v)) (VariableOf x) i
        (λ s l p tr y p' e q d. did_tidy E s p (Writes l i v ∷ []) p _ tr y p' e (inr (VariableOf x, inl (q, may)), tt) (stays p) d) (λ s l p. tt)

    pub choose_good : {A : Type 0} (b : Bool) {m n : Behaviour Instance A} → Good E m → Good E n → Good E (cond b m n)
    choose_good true g h = g
    choose_good false g h = h

    joins : (s : Scope Instance) (p mid p' : Path Instance) (tr front back : Trace Instance) → tr ≡ front ++ back → Tidy E s p front mid → Tidy E s mid back p' → Tidy E s p tr p'
    joins s p mid p' tr front back eq f b = (subst (λ w. Each (Okay E s p) w) (sym eq) (each_append (Okay E s p) front back f.0 (later E s p mid f.1 back b.0)), λ x k. f.1 x (b.1 x k))

    pub bind_good : {A B : Type 0} {m : Behaviour Instance A} {k : A → Behaviour Instance B} → Good E m → ((a : A) → Can m a → Good E (k a)) → Good E (Behaviours.◌>>=◌ m k)
    bind_good {A} {B} {m} {k} g h = record { covers = covers; safe = λ s p w lives. (g.safe s p w lives, λ a mid front x run. (h a (record { scope = s; path = p; trace = front; early = x; after = mid; run = run })).safe s mid w (lives_on program s p mid (g.covers s p front x mid (Gives a) lives run).1 lives)) }
      where
        covers : (s : Scope Instance) (p : Path Instance) (tr : Trace Instance) (y : Bool) (p' : Path Instance) (e : End B) → Lives program s p → (Behaviours.◌>>=◌ m k).runs s p tr y p' e → Tidy E s p tr p'
        covers s p tr y p' e lives (inl (a, mid, front, back, x, z, eq, ey, one, two)) =
            let c = g.covers s p front x mid (Gives a) lives one in joins s p mid p' tr front back eq c ((h a (record { scope = s; path = p; trace = front; early = x; after = mid; run = one })).covers s mid back z p' e (lives_on program s p mid c.1 lives) two)
        covers s p tr y p' e lives (inr (end, c, one)) = g.covers s p tr y p' end lives one

    pub handles_good : {A : Type 0} {m : Behaviour Instance A} (takes : Leave → Bool) {k : Leave → Behaviour Instance A} → Good E m → ((x : Leave) → Good E (k x)) → Good E (Behaviours.handles m takes k)
    handles_good {A} {m} takes {k} g h = record { covers = covers; safe = λ s p w lives. (g.safe s p w lives, λ how mid front x run t. (h how).safe s mid w (lives_on program s p mid (g.covers s p front x mid (Leaves how) lives run).1 lives)) }
      where
        covers : (s : Scope Instance) (p : Path Instance) (tr : Trace Instance) (y : Bool) (p' : Path Instance) (e : End A) → Lives program s p → (Behaviours.handles m takes k).runs s p tr y p' e → Tidy E s p tr p'
        covers s p tr y p' e lives (inl (how, mid, front, back, x, z, eq, ey, one, t, two)) =
            let c = g.covers s p front x mid (Leaves how) lives one in joins s p mid p' tr front back eq c ((h how).covers s mid back z p' e (lives_on program s p mid c.1 lives) two)
        covers s p tr y p' e lives (inr (one, u)) = g.covers s p tr y p' e lives one

    pub through_good : {A : Type 0} (first size : ℕ) (a : A) {f : ℕ → A → Behaviour Instance A} → ((i : ℕ) (b : A) → first ≤ i → i < first + size → Good E (f i b)) → Good E (through (Behaviours.doings Instance) first size a f)
    through_good first zero a h = ret_good a
    through_good first (suc size) a h = bind_good (h first a (le_refl first) (omega arith)) (λ b _. through_good (suc first) size b (λ i c le lt. h i c (omega arith) (omega arith)))

    pub onto_good : (a : ℤ) (more : List ℤ) {f : ℤ → ℤ → Behaviour Instance ℤ} → ((b c : ℤ) → Good E (f b c)) → Good E (onto (Behaviours.doings Instance) a more f)
    onto_good a [] h = ret_good a
    onto_good a (b ∷ more) h = bind_good (h a b) (λ c _. onto_good c more h)

  -- new instances

  entity_refl : (x : Entity) → entity_eq x x ≡ true
  entity_refl (VariableOf x) = eq-eqb x x refl
  entity_refl (ConstantOf x) = eq-eqb x x refl

  entity_same : (x y : Entity) → entity_eq x y ≡ true → x ≡ y
  entity_same (VariableOf x) (VariableOf y) e = ap VariableOf (eqb-true x y e)
  entity_same (VariableOf x) (ConstantOf y) e = absurd (true≢false (sym e))
  entity_same (ConstantOf x) (VariableOf y) e = absurd (true≢false (sym e))
  entity_same (ConstantOf x) (ConstantOf y) e = ap ConstantOf (eqb-true x y e)

  new_now : (x : Entity) (p : Path Instance) (l : Instance) → l ≡ here x p → Future p l
  new_now x p l e = subst (λ z. Future p z) (sym e) (inl (refl, le_refl p.elaborations))

  -- what is visible where an object is new
  newly : (region : Region) (e : Entity) (p : Path Instance) (n : ℕ) (s : Scope Instance) (x : Entity) (i : ℕ) (l : Instance) → Visible (declares region e (here e p) n s) x i l → ((x ≡ e) × (l ≡ here e p)) ⊎ Visible s x i l
  newly Here e p n s x i l (inl v) = go (entity_eq e x) refl v
    where
      go : (b : Bool) → entity_eq e x ≡ b → within_extent i (cond b (Some (record { instance = here e p; cells = n })) (s.here x)) ≡ Some l → ((x ≡ e) × (l ≡ here e p)) ⊎ Visible s x i l
      go true q f = inl (sym (entity_same e x q), within_new i (here e p) l n f)
      go false q f = inr (inl f)
  newly Here e p n s x i l (inr v) = inr (inr v)
  newly Everywhere e p n s x i l (inl v) = inr (inl v)
  newly Everywhere e p n s x i l (inr v) = go (entity_eq e x) refl v
    where
      go : (b : Bool) → entity_eq e x ≡ b → within_extent i (cond b (Some (record { instance = here e p; cells = n })) (s.everywhere x)) ≡ Some l → ((x ≡ e) × (l ≡ here e p)) ⊎ Visible s x i l
      go true q f = inl (sym (entity_same e x q), within_new i (here e p) l n f)
      go false q f = inr (inr f)

  -- an object that is visible everywhere is the main procedure's
  abbrev pub Placed : Region → ℕ → Type 0
  Placed Everywhere x = IsGlobal program x
  Placed Here x = Unit {0}

  abbrev pub Fitting : Region → Entity → Type 0
  Fitting region e = Placed region (object_of e)

  pub lives_new : (region : Region) (e : Entity) (n : ℕ) (s : Scope Instance) (p : Path Instance) → Fitting region e → Lives program s p → Lives program (declares region e (here e p) n s) (one_elaboration region (here e p) p)
  lives_new region e n s p fit k = record {
    old = λ x i l v f. ⊎_elim (λ h. fresh e region (here e p) p (subst (λ z. Future (one_elaboration region (here e p) p) z) h.1 f)) (λ h. k.old x i l h (goes_one region (here e p) p l f)) (newly region e p n s x i l v);
    named = λ x i l v. ⊎_elim (λ h. ap (λ (z : Instance). z.object) h.1 ∙ sym h.0) (λ h. k.named x i l h) (newly region e p n s x i l v);
    known = λ x i l v. everywhere region fit x i l v;
  }
    where
      everywhere : (region : Region) → Fitting region e → (x : Entity) (i : ℕ) (l : Instance) → within_extent i ((declares region e (here e p) n s).everywhere x) ≡ Some l → IsGlobal program (object_of x)
      everywhere Here fit x i l v = k.known x i l v
      everywhere Everywhere fit x i l v = go (entity_eq e x) refl v
        where
          go : (b : Bool) → entity_eq e x ≡ b → within_extent i (cond b (Some (record { instance = here e p; cells = n })) (s.everywhere x)) ≡ Some l → IsGlobal program (object_of x)
          go true q f = subst (λ z. IsGlobal program (object_of z)) (entity_same e x q) fit
          go false q f = k.known x i l f

  abbrev pub with_object : Entity → Allowed → Allowed
  with_object e E = record { at = λ w x i. E.at w x i ⊎ (VariableOf x ≡ e); global = E.global; input = E.input }

  -- all may be touched, as in the main procedure itself
  abbrev pub AllAllowed : Allowed → Type 0
  AllAllowed E = (w : Bool) (x i : ℕ) → E.at w x i

  -- what may be touched within the text that sees a new object
  abbrev pub Grown : Region → Entity → Allowed → Allowed
  Grown Here e E = with_object e E
  Grown Everywhere e E = E

  abbrev pub Roomy : Region → Allowed → Type 0
  Roomy Here E = Unit {0}
  Roomy Everywhere E = AllAllowed E

  fill_each : (E : Allowed) (s : Scope Instance) (p : Path Instance) (x : Entity) (i : ℕ) (vs : List ℤ) → Each (Okay E s p) (fillings (here x p) i vs)
  fill_each E s p x i [] = tt
  fill_each E s p x i (v ∷ vs) = (inl (new_now x p (here x p) refl), fill_each E s p x (suc i) vs)

  front_each : (F : Event Instance → Type 0) (t u : Trace Instance) → Each F (t ++ u) → Each F t
  front_each F [] u h = tt
  front_each F (a ∷ t) u h = (h.0, front_each F t u h.1)

  may_old : (E : Allowed) (e : Entity) (w : Bool) (x : Entity) (i : ℕ) → entity_eq e x ≡ false → MayTouch (with_object e E).at w x i → MayTouch E.at w x i
  may_old E e w (VariableOf x) i q (inl h) = h
  may_old E e w (VariableOf x) i q (inr h) = absurd (true≢false (sym (subst (λ z. entity_eq e z ≡ true) (sym h) (entity_refl e)) ∙ q))
  may_old E e w (ConstantOf x) i q h = h

  grown : (region : Region) (E : Allowed) (e : Entity) (n : ℕ) (s : Scope Instance) (p : Path Instance) → Roomy region E → (w : Bool) (l : Instance) (i : ℕ) → Seen (Grown region e E) (declares region e (here e p) n s) w l i → Future p l ⊎ Seen E s w l i
  grown Here E e n s p room w l i (x, inl (f, may)) = go (entity_eq e x) refl f
    where
      go : (b : Bool) → entity_eq e x ≡ b → within_extent i (first_of (cond b (Some (record { instance = here e p; cells = n })) (s.here x)) (s.everywhere x)) ≡ Some l → Future p l ⊎ Seen E s w l i
      go true q f = inl (new_now e p l (within_new i (here e p) l n f))
      go false q f = inr (x, inl (f, may_old E e w x i q may))
  grown Here E e n s p room w l i (x, inr h) = inr (x, inr h)
  grown Everywhere E e n s p room w l i (x, inl (f, may)) = go (entity_eq e x) (s.here x) refl f
    where
      go : (b : Bool) (a : Option (Extent Instance)) → s.here x ≡ a → within_extent i (first_of a (cond b (Some (record { instance = here e p; cells = n })) (s.everywhere x))) ≡ Some l → Future p l ⊎ Seen E s w l i
      go b (Some a) q f = inr (x, inl (subst (λ z. within_extent i (first_of z (s.everywhere x)) ≡ Some l) (sym q) f, may))
      go true None q f = inl (new_now e p l (within_new i (here e p) l n f))
      go false None q f = inr (x, inl (subst (λ z. within_extent i (first_of z (s.everywhere x)) ≡ Some l) (sym q) f, may))
  grown Everywhere E e n s p room w l i (x, inr (f, may)) = go (entity_eq e x) f
    where
      go : (b : Bool) → within_extent i (cond b (Some (record { instance = here e p; cells = n })) (s.everywhere x)) ≡ Some l → Future p l ⊎ Seen E s w l i
      go true f = inl (new_now e p l (within_new i (here e p) l n f))
      go false f = inr (x, inr (f, may))

  grown_input : (region : Region) (e : Entity) (E : Allowed) → (Grown region e E).input → E.input
  grown_input Here e E h = h
  grown_input Everywhere e E h = h

  module _ (admits : Scalar → ℤ → Type 0) (asks : Asks Instance) (limit : ℕ) (cuts : ℕ → ℕ → List ℕ) (one : Bool) where
    pub elaborates_good : {A : Type 0} (E : Allowed) (region : Region) (e : Entity) (cells : List ℤ) {m : Behaviour Instance A} → Fitting region e → Roomy region E → Good (Grown region e E) m → Good E (Behaviours.elaborates this region e cells m)
    elaborates_good {A} E region e cells {m} fit room h = record { covers = covers; safe = λ s p w k. h.safe _ _ w (lives_new region e (length cells) s p fit k) }
      where
        covers : (s : Scope Instance) (p : Path Instance) (tr : Trace Instance) (y : Bool) (p' : Path Instance) (end : End A) → Lives program s p → (Behaviours.elaborates this region e cells m).runs s p tr y p' end → Tidy E s p tr p'
        covers s p tr y p' end k (inl (rest, eq, run)) =
            let q = one_elaboration region (here e p) p in
            let r = declares region e (here e p) (length cells) s in
            let c = h.covers r q rest y p' end (lives_new region e (length cells) s p fit k) run in (
              subst (λ w. Each (Okay E s p) w) (sym eq) (each_append (Okay E s p) (fillings (here e p) 0 cells) rest (fill_each E s p e 0 cells)
                  (each_on (Okay (Grown region e E) r q) (Okay E s p) (okay_on (Grown region e E) E s r p q (goes_one region (here e p) p) (grown region E e (length cells) s p room) (grown_input region e E)) rest c.0)),
              λ x n. goes_one region (here e p) p x (c.1 x n),
            )
        covers s p tr y p' end k (inr (ey, ep, ee, (rest, eq))) = (front_each (Okay E s p) tr rest (subst (λ w. Each (Okay E s p) w) eq (fill_each E s p e 0 cells)), subst (λ w. Goes p w) (sym ep) (stays p))

  -- subprograms: what is not the main procedure's is the callee's own

  abbrev pub called : Allowed → Allowed
  called E = record { at = λ w x i. E.global w x i ⊎ (IsGlobal program x → ⊥); global = E.global; input = E.input }

  lives_apart : (s : Scope Instance) (p : Path Instance) → Lives program s p → Lives program (apart_of s) p
  lives_apart s p k = record {
    old = λ x i l v f. ⊎_elim (λ h. none_some h) (λ h. k.old x i l (inr h) f) v;
    named = λ x i l v. ⊎_elim (λ h. absurd (none_some h)) (λ h. k.named x i l (inr h)) v;
    known = k.known;
  }

  pub apart_good : {A : Type 0} (E : Allowed) {m : Behaviour Instance A} → Good (called E) m → Good E (Behaviours.apart m)
  apart_good E {m} h = record {
    covers = λ s p tr y p' e k run. let c = h.covers (apart_of s) p tr y p' e (lives_apart s p k) run in (each_on (Okay (called E) (apart_of s) p) (Okay E s p) (okay_on (called E) E s (apart_of s) p p (stays p) (seen_apart s p k) (λ i. i)) tr c.0, c.1);
    safe = λ s p w k. h.safe (apart_of s) p w (lives_apart s p k);
  }
    where
      may : (s : Scope Instance) (p : Path Instance) (w : Bool) (x : Entity) (i : ℕ) → IsGlobal program (object_of x) → MayTouch (called E).at w x i → MayTouch E.global w x i
      may s p w (VariableOf x) i g (inl h) = h
      may s p w (VariableOf x) i g (inr h) = absurd (h g)
      may s p w (ConstantOf x) i g h = h

      seen_apart : (s : Scope Instance) (p : Path Instance) → Lives program s p → (w : Bool) (l : Instance) (i : ℕ) → Seen (called E) (apart_of s) w l i → Future p l ⊎ Seen E s w l i
      seen_apart s p k w l i (x, inl (f, h)) = inr (x, inr (f, may s p w x i (k.known x i l f) h))
      seen_apart s p k w l i (x, inr h) = inr (x, inr h)
