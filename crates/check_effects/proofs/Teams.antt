-- The threads of one construct.
use Rattle.std.proofs.Common.{◌≡◌, ℕ, suc, ◌+◌, ◌<◌, ◌≤◌, ℤ, List, [], ◌∷◌, ◌++◌, ◌⊎◌, inl, inr, ⊎_elim, Bool, true, false, ◌||◌, sym, subst, ap, ◌∙◌, refl, true≢false, arith, le_refl, append_assoc, length, length-append}
use Rattle.typed_tree.specs.declared.scalars.Scalar.{Scalar}
use Rattle.typed_tree.specs.Syntax.{Program}
use Rattle.behaviours.specs.Doings.{through}
use Rattle.behaviours.specs.Paths.{VariableOf, ConstantOf, Instance, End, Path, Scope, enter, is_inside}
use Rattle.behaviours.specs.Events.{Event, Reads, Writes, Recalls, Keeps, Takes, Puts, Looks, Trace, Location, Cell, Rest, Byte, Touches, WritesTo, Apart, Merge, Shuffle, in_order}
use Rattle.behaviours.specs.Joins.{Site, Share, deal, Ran, EachRan, Form, traces, most_turns}
use Rattle.behaviours.specs.Behaviours.{Behaviour, Asks, EachSafe, MayTrace, ThreadApart, ThreadsApart, asks_apart, within}
use Rattle.behaviours.specs.Behaviours
use Rattle.ada_meaning.proofs.Ties.{Future, Goes, goes_enter, goes_joined}
use Rattle.check_effects.proofs.Good.{Allowed, MayTouch, Seen, Okay, Each, Tidy, Visible, Lives, lives_on, seen, each_append, later, stays, Good, wider, through_good}

-- how many iterations there are
abbrev pub sum : List ℕ → ℕ
sum [] = 0
sum (n ∷ ns) = n + sum ns

-- no two threads make one instance

tails : {A : Type 0} {x y : A} {a b : List A} → x ∷ a ≡ y ∷ b → a ≡ b
tails e = cc

heads : {A : Type 0} {x y : A} {a b : List A} → x ∷ a ≡ y ∷ b → x ≡ y
heads e = cc

suffix : (a b rest : List ℕ) (i j : ℕ) → a ++ (i ∷ rest) ≡ b ++ (j ∷ rest) → i ≡ j
suffix [] [] rest i j e = heads e
suffix [] (y ∷ b) rest i j e = let l = ap length e in let n = length-append b (j ∷ rest) in absurd (omega arith)
suffix (x ∷ a) [] rest i j e = let l = ap length e in let n = length-append a (i ∷ rest) in absurd (omega arith)
suffix (x ∷ a) (y ∷ b) rest i j e = suffix a b rest i j (tails e)

pub under : (i : ℕ) (p : Path Instance) (l : Instance) → Future (enter i p) l → (a : List ℕ) × (l.thread ≡ a ++ (i ∷ p.constructs ∷ p.name))
under i p l (inl (e, le)) = ([], e)
under i p l (inr (inner, c, le, e)) = (inner ++ (c ∷ []), e ∙ sym (append_assoc inner (c ∷ []) (i ∷ p.constructs ∷ p.name)))

pub threads_apart : (i j : ℕ) (p : Path Instance) (l : Instance) → Future (enter i p) l → Future (enter j p) l → i ≡ j
threads_apart i j p l f g = let a = under i p l f in let b = under j p l g in suffix a.0 b.0 (p.constructs ∷ p.name) i j (sym a.1 ∙ b.1)

-- what holds of each event of the threads holds of each of the construct

EachOf : (Event Instance → Type 0) → List (Trace Instance) → Type 0
EachOf F [] = Unit {0}
EachOf F (t ∷ ts) = Each F t × EachOf F ts

merge_each : (F : Event Instance → Type 0) (t u w : Trace Instance) → Merge t u w → Each F t → Each F u → Each F w
merge_each F t u [] m a b = tt
merge_each F t u (x ∷ w) (inl (rest, eq, m)) a b = let h = subst (λ z. Each F z) eq a in (h.0, merge_each F rest u w m h.1 b)
merge_each F t u (x ∷ w) (inr (rest, eq, m)) a b = let h = subst (λ z. Each F z) eq b in (h.0, merge_each F t rest w m a h.1)

shuffle_each : (F : Event Instance → Type 0) (ts : List (Trace Instance)) (w : Trace Instance) → Shuffle ts w → EachOf F ts → Each F w
unfolding EachOf
shuffle_each F [] w eq h = subst (λ z. Each F z) (sym eq) tt
shuffle_each F (t ∷ ts) w (u, s, m) h = merge_each F t u w m h.0 (shuffle_each F ts u s h.1)

in_order_each : (F : Event Instance → Type 0) (ts : List (Trace Instance)) → EachOf F ts → Each F (in_order ts)
unfolding EachOf
in_order_each F [] h = tt
in_order_each F (t ∷ ts) h = each_append F t (in_order ts) h.0 (in_order_each F ts h.1)

form_each : {A : Type 0} (F : Event Instance → Type 0) (b : Bool) (p : Path Instance) (rs : List (Ran Instance A)) (tr : Trace Instance) (e : End (List A)) → Form b p rs tr e → EachOf F (traces rs) → Each F tr
form_each F true p rs tr e (eq, o) h = subst (λ z. Each F z) (sym eq) (in_order_each F (traces rs) h)
form_each F false p rs tr e (s, j) h = shuffle_each F (traces rs) tr s h

-- what an event of a trace is at

abbrev AtPlace : Allowed → Scope Instance → Path Instance → Bool → Location Instance → Type 0
AtPlace E s p w (Cell l i) = Future p l ⊎ Seen E s w l i
AtPlace E s p w Rest = E.input
AtPlace E s p w (Byte n) = E.input

at_write : (E : Allowed) (s : Scope Instance) (p : Path Instance) (t : Trace Instance) (x : Location Instance) → Each (Okay E s p) t → WritesTo t x → AtPlace E s p true x
at_write E s p (Writes l i v ∷ t) x h (inl k) = subst (λ z. AtPlace E s p true z) k h.0
at_write E s p (Keeps n ∷ t) x h (inl k) = subst (λ z. AtPlace E s p true z) k h.0
at_write E s p (Reads l i v ∷ t) x h (inl k) = absurd k
at_write E s p (Recalls n ∷ t) x h (inl k) = absurd k
at_write E s p (Takes n b ∷ t) x h (inl k) = absurd k
at_write E s p (Puts n ∷ t) x h (inl k) = absurd k
at_write E s p (Looks ∷ t) x h (inl k) = absurd k
at_write E s p (a ∷ t) x h (inr k) = at_write E s p t x h.1 k
at_write E s p [] x h k = absurd k

at_touch : (E : Allowed) (s : Scope Instance) (p : Path Instance) (t : Trace Instance) (x : Location Instance) → Each (Okay E s p) t → Touches t x → (w : Bool) × AtPlace E s p w x
at_touch E s p (Writes l i v ∷ t) x h (inl k) = (true, subst (λ z. AtPlace E s p true z) k h.0)
at_touch E s p (Keeps n ∷ t) x h (inl k) = (true, subst (λ z. AtPlace E s p true z) k h.0)
at_touch E s p (Reads l i v ∷ t) x h (inl k) = (false, subst (λ z. AtPlace E s p false z) k h.0)
at_touch E s p (Recalls n ∷ t) x h (inl k) = (false, subst (λ z. AtPlace E s p false z) k h.0)
at_touch E s p (Takes n b ∷ t) x h (inl k) = (false, subst (λ z. AtPlace E s p false z) k h.0)
at_touch E s p (Puts n ∷ t) x h (inl k) = absurd k
at_touch E s p (Looks ∷ t) x h (inl k) = absurd k
at_touch E s p (a ∷ t) x h (inr k) = at_touch E s p t x h.1 k
at_touch E s p [] x h k = absurd k

-- by name or by a call
abbrev pub Either : Allowed → Bool → ℕ → ℕ → Type 0
Either E w x i = E.at w x i ⊎ E.global w x i

pub seen_visible : (E : Allowed) (s : Scope Instance) (w : Bool) (l : Instance) (i : ℕ) → (k : Seen E s w l i) → Visible s k.0 i l
seen_visible E s w l i (x, inl h) = seen s x i l h.0
seen_visible E s w l i (x, inr h) = inr h.0

seen_either : (E : Allowed) (s : Scope Instance) (w : Bool) (l : Instance) (i : ℕ) (x : ℕ) → (k : Seen E s w l i) → k.0 ≡ VariableOf x → Either E w x i
seen_either E s w l i x (y, inl h) e = inl (subst (λ z. MayTouch E.at w z i) e h.1)
seen_either E s w l i x (y, inr h) e = inr (subst (λ z. MayTouch E.global w z i) e h.1)

writes_variable : (E : Allowed) (s : Scope Instance) (l : Instance) (i : ℕ) → (k : Seen E s true l i) → (x : ℕ) × (k.0 ≡ VariableOf x)
writes_variable E s l i (VariableOf x, h) = (x, refl)
writes_variable E s l i (ConstantOf x, inl h) = absurd (true≢false h.1)
writes_variable E s l i (ConstantOf x, inr h) = absurd (true≢false h.1)

module _ (program : Program) (W : Type 0) where
  pub within_good : {A : Type 0} (E : Allowed) (i : ℕ) (b : Behaviour Instance A) → Good program W E b → Good program W E (within i b)
  within_good E i b g = record {
    covers = λ s p tr y p' e lives run. (later E s p (enter i p) (goes_enter i p) tr (g.covers s (enter i p) tr y run.0 e (lives_on program s p (enter i p) (goes_enter i p) lives) run.2).0, subst (λ w. Goes p w) (sym run.1) (λ x k. k));
    safe = λ s p w lives. g.safe s (enter i p) w (lives_on program s p (enter i p) (goes_enter i p) lives);
  }

  module _ {A : Type 0} (first_value : A) (f : ℕ → ℕ → A → Behaviour Instance A) where
    abbrev thread : Share → Behaviour Instance A
    thread c = within c.number (through (Behaviours.doings Instance) c.first c.size first_value (λ i a. f c.number i a))

    ran_each : (total : ℕ) (E : Allowed) (s : Scope Instance) (p : Path Instance) → Lives program s p → ((c : Share) → c.first + c.size ≤ total → Good program W E (thread c)) → (number first : ℕ) (ns : List ℕ) → first + sum ns ≤ total
        → (rs : List (Ran Instance A)) → EachRan (λ j. (thread j).runs s) p (deal number first ns) rs → EachOf (Okay E s p) (traces rs)
    unfolding EachOf
    ran_each total E s p lives g number first [] le rs eq = subst (λ z. EachOf (Okay E s p) (traces z)) (sym eq) tt
    ran_each total E s p lives g number first (n ∷ ns) le rs (r, more, eq, run, ran) =
        subst (λ z. EachOf (Okay E s p) (traces z)) (sym eq) (((g (record { number = number; first = first; size = n }) (omega arith)).covers s p r.trace r.early r.path r.end lives run).0, ran_each total E s p lives g (suc number) (first + n) ns (omega arith) more ran)

    -- what the iterations may touch, one by one
    module _ (total : ℕ) (F : ℕ → ℕ → Allowed) (mine : (j i : ℕ) (a : A) → i < total → Good program ⊥ (F j i) (f j i a)) where
      abbrev pub Theirs : Share → Allowed
      Theirs c = record {
        at = λ w x n. (i : ℕ) × (c.first ≤ i) × (i < c.first + c.size) × (F c.number i).at w x n;
        global = λ w x n. (i : ℕ) × (c.first ≤ i) × (i < c.first + c.size) × (F c.number i).global w x n;
        input = (i : ℕ) × (F c.number i).input;
      }

      pub theirs : (c : Share) → c.first + c.size ≤ total → Good program ⊥ (Theirs c) (through (Behaviours.doings Instance) c.first c.size first_value (λ i a. f c.number i a))
      theirs c within = through_good program ⊥ (Theirs c) c.first c.size first_value (λ i b le lt. wider program ⊥ (F c.number i) (Theirs c) (f c.number i b) (λ w x n k. (i, le, lt, k)) (λ w x n k. (i, le, lt, k)) (λ k. (i, k)) (mine c.number i b (omega arith)))

      pub one_of : (c : Share) (w : Bool) (x n : ℕ) → Either (Theirs c) w x n → (i : ℕ) × (c.first ≤ i) × (i < c.first + c.size) × Either (F c.number i) w x n
      one_of c w x n (inl (i, le, lt, h)) = (i, le, lt, inl h)
      one_of c w x n (inr (i, le, lt, h)) = (i, le, lt, inr h)

      module _ (apart : W → (j l i k : ℕ) (w : Bool) (x n : ℕ) → (j ≡ l → ⊥) → (i ≡ k → ⊥) → Either (F j i) true x n → Either (F l k) w x n → ⊥)
          (quiet : W → (j i : ℕ) → (F j i).input → ⊥) where
        abbrev Before : Share → Share → Type 0
        Before c d = ((c.number < d.number) × (c.first + c.size ≤ d.first)) ⊎ ((d.number < c.number) × (d.first + d.size ≤ c.first))

        -- a place that one thread writes isn't one that another touches
        never : W → (s : Scope Instance) (p : Path Instance) → Lives program s p → (c d : Share) → Before c d → (x : Location Instance) (w : Bool) → AtPlace (Theirs c) s (enter c.number p) true x → AtPlace (Theirs d) s (enter d.number p) w x → ⊥
        never z s p lives c d b (Cell l n) w (inl h) (inl k) = let same = threads_apart c.number d.number p l h k in ⊎_elim (λ q. let lt = q.0 in omega arith) (λ q. let lt = q.0 in omega arith) b
        never z s p lives c d b (Cell l n) w (inl h) (inr k) = lives.old k.0 n l (seen_visible (Theirs d) s w l n k) (goes_enter c.number p l h)
        never z s p lives c d b (Cell l n) w (inr h) (inl k) = lives.old h.0 n l (seen_visible (Theirs c) s true l n h) (goes_enter d.number p l k)
        never z s p lives c d b (Cell l n) w (inr h) (inr k) =
            let v = writes_variable (Theirs c) s l n h in
            let same : k.0 ≡ h.0 = sym (lives.named k.0 n l (seen_visible (Theirs d) s w l n k)) ∙ lives.named h.0 n l (seen_visible (Theirs c) s true l n h) in
            let a = one_of c true v.0 n (seen_either (Theirs c) s true l n v.0 h v.1) in
            let e = one_of d w v.0 n (seen_either (Theirs d) s w l n v.0 k (same ∙ v.1)) in
            apart z c.number d.number a.0 e.0 w v.0 n (λ q. ⊎_elim (λ m. let t = m.0 in omega arith) (λ m. let t = m.0 in omega arith) b) (λ q. ⊎_elim (λ m. let t = m.1 in let a1 = a.1 in let a2 = a.2 in let e1 = e.1 in let e2 = e.2 in omega arith) (λ m. let t = m.1 in let a1 = a.1 in let a2 = a.2 in let e1 = e.1 in let e2 = e.2 in omega arith) b) a.3 e.3
        never z s p lives c d b Rest w h k = quiet z c.number h.0 h.1
        never z s p lives c d b (Byte m) w h k = quiet z c.number h.0 h.1

        turned : (c d : Share) → Before c d → Before d c
        turned c d (inl h) = inr h
        turned c d (inr h) = inl h

        two : W → (s : Scope Instance) (p : Path Instance) → Lives program s p → (c d : Share) → c.first + c.size ≤ total → d.first + d.size ≤ total → Before c d → (t u : Trace Instance) → MayTrace (thread c) s p t → MayTrace (thread d) s p u → Apart t u
        two z s p lives c d cw dw b t u m n =
            let run = m.run in let run' = n.run in
            let g = ((theirs c cw).covers s (enter c.number p) t m.early run.0 m.end (lives_on program s p (enter c.number p) (goes_enter c.number p) lives) run.2).0 in
            let h = ((theirs d dw).covers s (enter d.number p) u n.early run'.0 n.end (lives_on program s p (enter d.number p) (goes_enter d.number p) lives) run'.2).0 in
            record {
              forth = λ x w k. let r = at_touch (Theirs d) s (enter d.number p) u x h k in never z s p lives c d b x r.0 (at_write (Theirs c) s (enter c.number p) t x g w) r.1;
              back = λ x k w. let r = at_touch (Theirs c) s (enter c.number p) t x g k in never z s p lives d c (turned c d b) x r.0 (at_write (Theirs d) s (enter d.number p) u x h w) r.1;
            }

        clear : W → (s : Scope Instance) (p : Path Instance) → Lives program s p → (c : Share) (number first : ℕ) → c.number < number → c.first + c.size ≤ first → (ns : List ℕ) → first + sum ns ≤ total → ThreadApart (λ j tr. MayTrace (thread j) s p tr) c (deal number first ns)
        clear z s p lives c number first lt le [] bound = tt
        clear z s p lives c number first lt le (n ∷ ns) bound =
            (two z s p lives c (record { number = number; first = first; size = n }) (omega arith) (omega arith) (inl (lt, le)), clear z s p lives c (suc number) (first + n) (omega arith) (omega arith) ns (omega arith))

        all_clear : W → (s : Scope Instance) (p : Path Instance) → Lives program s p → (number first : ℕ) (ns : List ℕ) → first + sum ns ≤ total → ThreadsApart (λ j tr. MayTrace (thread j) s p tr) (deal number first ns)
        all_clear z s p lives number first [] bound = tt
        all_clear z s p lives number first (n ∷ ns) bound = (clear z s p lives (record { number = number; first = first; size = n }) (suc number) (first + n) (omega arith) (le_refl (first + n)) ns (omega arith), all_clear z s p lives (suc number) (first + n) ns (omega arith))

        pub asked : W → (b : Bool) (s : Scope Instance) (p : Path Instance) (site : Site) → Lives program s p → (ns : List ℕ) → sum ns ≤ total → asks_apart b p.name site p.constructs s (deal 0 0 ns) (λ j tr. MayTrace (thread j) s p tr)
        asked z b s p site lives ns bound = all_clear z s p lives 0 0 ns (omega arith)

    all_safe : (total : ℕ) → W → (s : Scope Instance) (p : Path Instance) → Lives program s p → (E : Allowed) → ((c : Share) → c.first + c.size ≤ total → Good program W E (thread c)) → (number first : ℕ) (ns : List ℕ) → first + sum ns ≤ total → EachSafe thread s p (deal number first ns)
    all_safe total z s p lives E g number first [] bound = tt
    all_safe total z s p lives E g number first (n ∷ ns) bound = ((g (record { number = number; first = first; size = n }) (omega arith)).safe s p z lives, all_safe total z s p lives E g (suc number) (first + n) ns (omega arith))

    -- E is what the construct may touch as a part of a text around it
    pub team_good : (total : ℕ) (demands : Asks Instance) (E : Allowed) (admits : Scalar → ℤ → Type 0) (limit : ℕ) (cuts : ℕ → ℕ → List ℕ) (one : Bool) (site : Site) (ns : List ℕ) → sum ns ≤ total
        → (W → (b : Bool) (s : Scope Instance) (p : Path Instance) → Lives program s p → demands b p.name site p.constructs s (deal 0 0 ns) (λ j tr. MayTrace (thread j) s p tr))
        → ((j i : ℕ) (a : A) → i < total → Good program W E (f j i a)) → Good program W E (Behaviours.par demands one site (deal 0 0 ns) thread)
    team_good total demands E admits limit cuts one site ns bound asked g = record { covers = covers; safe = λ s p z lives. (asked z (one || is_inside p) s p lives, all_safe total z s p lives E each 0 0 ns (omega arith)) }
      where
        each : (c : Share) → c.first + c.size ≤ total → Good program W E (thread c)
        each c le' = within_good E c.number (through (Behaviours.doings Instance) c.first c.size first_value (λ i a. f c.number i a)) (through_good program W E c.first c.size first_value (λ i b le lt. g c.number i b (omega arith)))

        covers : (s : Scope Instance) (p : Path Instance) (tr : Trace Instance) (y : Bool) (p' : Path Instance) (e : End (List A)) → Lives program s p → (Behaviours.par demands one site (deal 0 0 ns) thread).runs s p tr y p' e → Tidy E s p tr p'
        covers s p tr y p' e lives (inl (rs, ran, form, ey, ep)) = (form_each (Okay E s p) (one || is_inside p) p rs tr e form (ran_each total E s p lives each 0 0 ns (omega arith) rs ran), subst (λ w. Goes p w) (sym ep) (goes_joined p (most_turns p.turns rs)))
        covers s p tr y p' e lives (inr (eq, ey, ep, ee)) = (subst (λ w. Each (Okay E s p) w) (sym eq) tt, subst (λ w. Goes p w) (sym ep) (stays p))
