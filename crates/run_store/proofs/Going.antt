-- What code shows of parts, put together.
use Rattle.std.proofs.Common.{◌≡◌, ℕ, ℤ, ◌+◌, List, Bool, true, false, cond, length, inl, inr, Result, Ok, Err, refl, sym, subst, ap, ◌∙◌}
use Rattle.behaviours.specs.Paths as operations
use Rattle.behaviours.specs.Paths.{Here, Everywhere}
use Rattle.ada_meaning.specs.Stored.{State, Stored, After, Cause, Left, OutOfTurns, Outage, MemoryFault, InputFault, OutputFault, Stops, at, next, next_halts, ret, bind, elaborates, apart, begun, ended, has_room, key, slot_at}
use Rattle.run_store.specs.declared.objects.Mark.{Mark}
use Rattle.run_store.specs.declared.objects.Object.{Object}
use Rattle.run_values.specs.declared.ends.End.{End}
use Rattle.run_values.specs.declared.ends.End.TheVariants as end
use Rattle.run_outside.specs.Outside.{Outside, Faults, Keeps}
use Rattle.run_store.specs.Shows.{Image, outside_of, facing, Causes, ShowsAs, Does, Goes, leave_of, entity_of, table_of, Begins, cut_back, finished, Enters, unframed}

-- a fault's cause, where nothing failed before
pub causes_later : (A B : Type 0) (e : End) (f g h : Faults) → g ≡ f → Causes {A = A} (Err e) g h → Causes {A = B} (Err e) f h
causes_later A B (end.Left x) f g h q c = c ∙ q
causes_later A B end.Spent f g h q c = c ∙ q
causes_later A B end.NoMemory f g h q c = c ∙ q
causes_later A B end.ReadFault f g h q c = subst (λ (z : Faults). Causes {A = B} (Err end.ReadFault) z h) q c
causes_later A B end.WriteFault f g h q c = subst (λ (z : Faults). Causes {A = B} (Err end.WriteFault) z h) q c

-- ---- a whole input doesn't matter where an object begins and ends

ends_so : (region : operations.Region) (x : Object) (mark : Mark) (s u : Image) (w : List ℕ) → mark.slot ≡ slot_at (table_of region s.state) (key (entity_of x)) → mark.height ≡ length s.state.cells
    → facing w (cut_back region x mark u.state) ≡ ended region (entity_of x) (facing w s.state) (facing w u.state)
ends_so Here x mark s u w p q = rw (p, q) refl
ends_so Everywhere x mark s u w p q = rw p refl

pub begins_facing : (region : operations.Region) (x : Object) (vs : List ℤ) (s : State) (w : List ℕ) → facing w (begun region (entity_of x) vs s) ≡ begun region (entity_of x) vs (facing w s)
begins_facing Here x vs s w = refl
begins_facing Everywhere x vs s w = refl

pub has_room_facing : (region : operations.Region) (x : Object) (s : State) (w : List ℕ) → has_room region (entity_of x) (facing w s) ≡ has_room region (entity_of x) s
has_room_facing Here x s w = refl
has_room_facing Everywhere x s w = refl

pub outside_finished : (region : operations.Region) (x : Object) (mark : Mark) (s : Image) → outside_of (finished region x mark s) ≡ outside_of s
outside_finished Here x mark s = refl
outside_finished Everywhere x mark s = refl

pub outside_begun : (region : operations.Region) (x : Object) (vs : List ℤ) (s t : Image) → t.faults ≡ s.faults → t.state ≡ begun region (entity_of x) vs s.state → t.coming ≡ s.coming → outside_of t ≡ outside_of s
outside_begun region x vs s t faults state coming =
    ap (λ (z : State). outside_of (record { state = z; coming = t.coming; faults = t.faults })) state
    ∙ ap (λ z. outside_of (record { state = begun region (entity_of x) vs s.state; coming = z; faults = t.faults })) coming
    ∙ ap (λ z. outside_of (record { state = begun region (entity_of x) vs s.state; coming = s.coming; faults = z })) faults ∙ same region
  where
    same : (region : operations.Region) → outside_of (record { state = begun region (entity_of x) vs s.state; coming = s.coming; faults = s.faults }) ≡ outside_of s
    same Here = refl
    same Everywhere = refl

module _ {A : Type 0} (region : operations.Region) (x : Object) (vs : List ℤ) (m : Stored A) where
  does_so : (s u : State) (e : Result A Cause) → has_room region (entity_of x) s ≡ true → m.does (begun region (entity_of x) vs s) ≡ at u e → (elaborates region (entity_of x) vs m).does s ≡ at (ended region (entity_of x) s u) e
  unfolding elaborates
  does_so s u e room h = rw (room, h) refl

  halts_so : (s u : State) (c : Outage) → has_room region (entity_of x) s ≡ true → Stops m (begun region (entity_of x) vs s) c u → Stops (elaborates region (entity_of x) vs m) s c (ended region (entity_of x) s u)
  unfolding elaborates
  halts_so s u c room h = inr (room, (u, h, refl))

module _ {Tells : List ℕ → Outside → Type 0} where
  -- what an outside tells of, where nothing is done to it, and from one thing to the next
  pub stays : {o : Outside} → Keeps Tells o o
  stays = record { back = λ w k. k }

  pub also : {o p q : Outside} → Keeps Tells o p → Keeps Tells p q → Keeps Tells o q
  also a b = record { back = λ w k. a.back w (b.back w k) }

  pub same_keeps : {o p : Outside} → p ≡ o → Keeps Tells o p
  same_keeps {o = o} e = subst (λ (x : Outside). Keeps Tells o x) (sym e) stays

  pub goes_refl : {A : Type 0} (m : Stored A) (s : Image) → Goes Tells m s m s
  goes_refl m s = record { faults = refl; keeps = stays; same = λ w h. refl; stops = λ w h f u k. k }

  pub goes_instead : {A : Type 0} (whole m n : Stored A) (s t : Image) → m ≡ n → Goes Tells whole s m t → Goes Tells whole s n t
  goes_instead whole m n s t e g = subst (λ (x : Stored _). Goes Tells whole s x t) e g

  module _ {A B C D : Type 0} (f : C → A) (g : D → B) (whole : Stored B) (m : Stored A) (k : A → Stored B) (s t u : Image) where
    -- one part more
    pub goes_then : (c : C) → Goes Tells whole s (bind m k) t → ShowsAs f Tells m (Ok c) t u → Goes Tells whole s (k (f c)) u
    unfolding bind
    goes_then c w h = record {
      faults = h.0 ∙ w.faults;
      keeps = also w.keeps h.1;
      same = λ x told. w.same x (h.1.back x told) ∙ ap (λ (z : After _). next z.state z.end k) (h.2 x told);
      stops = λ x told e y j. w.stops x (h.1.back x told) e y (inr (inr (subst (λ (z : After _). next_halts z.state z.end k e y) (sym (h.2 x told)) j)));
    }

    -- a part that isn't gone through
    pub goes_ends : (e : End) → Goes Tells whole s (bind m k) t → ShowsAs f Tells m (Err e) t u → ShowsAs g Tells whole (Err e) s u
    unfolding bind
    goes_ends (end.Left y) w h = (h.0 ∙ w.faults, also w.keeps h.1, λ x told. w.same x (h.1.back x told) ∙ ap (λ (z : After _). next z.state z.end k) (h.2 x told))
    goes_ends end.Spent w h = (h.0 ∙ w.faults, also w.keeps h.1, λ x told. w.same x (h.1.back x told) ∙ ap (λ (z : After _). next z.state z.end k) (h.2 x told))
    goes_ends end.NoMemory w h = (h.0 ∙ w.faults, also w.keeps h.1, λ x told. w.stops x (h.1.back x told) MemoryFault (facing x u.state) (inr (inl (h.2 x told))))
    goes_ends end.ReadFault w h = (causes_later C D end.ReadFault s.faults t.faults u.faults w.faults h.0, also w.keeps h.1, λ x told. w.stops x (h.1.back x told) InputFault (facing x u.state) (inr (inl (h.2 x told))))
    goes_ends end.WriteFault w h = (causes_later C D end.WriteFault s.faults t.faults u.faults w.faults h.0, also w.keeps h.1, λ x told. w.stops x (h.1.back x told) OutputFault (facing x u.state) (inr (inl (h.2 x told))))

  -- a part that can't fail
  pub goes_on : {B : Type 0} (whole : Stored B) (m : Stored (Unit {0})) (k : Unit {0} → Stored B) (s t u : Image) → Goes Tells whole s (bind m k) t → Does Tells m t u → Goes Tells whole s (k tt) u
  unfolding bind
  goes_on whole m k s t u w h = record {
    faults = h.0 ∙ w.faults;
    keeps = also w.keeps h.1;
    same = λ x told. w.same x (h.1.back x told) ∙ ap (λ (z : After _). next z.state z.end k) (h.2 x told);
    stops = λ x told e y j. w.stops x (h.1.back x told) e y (inr (inr (subst (λ (z : After _). next_halts z.state z.end k e y) (sym (h.2 x told)) j)));
  }

  module _ {A C : Type 0} (f : C → A) (whole : Stored A) where
    -- the rest at once
    pub goes_shows : (m : Stored A) (s t u : Image) (r : Result C End) → Goes Tells whole s m t → ShowsAs f Tells m r t u → ShowsAs f Tells whole r s u
    goes_shows m s t u (Ok a) w h = (h.0 ∙ w.faults, also w.keeps h.1, λ x told. w.same x (h.1.back x told) ∙ h.2 x told)
    goes_shows m s t u (Err (end.Left y)) w h = (h.0 ∙ w.faults, also w.keeps h.1, λ x told. w.same x (h.1.back x told) ∙ h.2 x told)
    goes_shows m s t u (Err end.Spent) w h = (h.0 ∙ w.faults, also w.keeps h.1, λ x told. w.same x (h.1.back x told) ∙ h.2 x told)
    goes_shows m s t u (Err end.NoMemory) w h = (h.0 ∙ w.faults, also w.keeps h.1, λ x told. w.stops x (h.1.back x told) MemoryFault (facing x u.state) (h.2 x told))
    goes_shows m s t u (Err end.ReadFault) w h = (causes_later C C end.ReadFault s.faults t.faults u.faults w.faults h.0, also w.keeps h.1, λ x told. w.stops x (h.1.back x told) InputFault (facing x u.state) (h.2 x told))
    goes_shows m s t u (Err end.WriteFault) w h = (causes_later C C end.WriteFault s.faults t.faults u.faults w.faults h.0, also w.keeps h.1, λ x told. w.stops x (h.1.back x told) OutputFault (facing x u.state) (h.2 x told))

    -- want of memory, wherever it is
    pub goes_fails : (m : Stored A) (s t : Image) → Goes Tells whole s m t → ShowsAs f Tells whole (Err end.NoMemory) s t
    goes_fails m s t w = (w.faults, w.keeps, λ x told. w.stops x told MemoryFault (facing x t.state) (inl (refl, refl)))

    pub goes_gives : (c : C) (s t : Image) → Goes Tells whole s (ret (f c)) t → ShowsAs f Tells whole (Ok c) s t
    unfolding ret
    goes_gives c s t w = (w.faults, w.keeps, w.same)

  -- ---- one thing and then another

  module _ {A B C D : Type 0} (f : C → A) (g : D → B) (m : Stored A) (k : A → Stored B) (s t u : Image) where
    pub then_shows : (c : C) (r : Result D End) → ShowsAs f Tells m (Ok c) s t → ShowsAs g Tells (k (f c)) r t u → ShowsAs g Tells (bind m k) r s u
    then_shows c r h j = goes_shows g (bind m k) (k (f c)) s t u r (goes_then f g (bind m k) m k s s t c (goes_refl (bind m k) s) h) j

  pub same_shows : {A C : Type 0} (f : C → A) (m n : Stored A) (r : Result C End) (s t : Image) → m ≡ n → ShowsAs f Tells n r s t → ShowsAs f Tells m r s t
  same_shows f m n r s t e h = subst (λ (x : Stored _). ShowsAs f Tells x r s t) (sym e) h

  pub true_shows : {A C : Type 0} (f : C → A) (b : Bool) (m n : Stored A) (r : Result C End) (s t : Image) → b ≡ true → ShowsAs f Tells m r s t → ShowsAs f Tells (cond b m n) r s t
  true_shows f b m n r s t e h = subst (λ z. ShowsAs f Tells (cond z m n) r s t) (sym e) h

  pub false_shows : {A C : Type 0} (f : C → A) (b : Bool) (m n : Stored A) (r : Result C End) (s t : Image) → b ≡ false → ShowsAs f Tells n r s t → ShowsAs f Tells (cond b m n) r s t
  false_shows f b m n r s t e h = subst (λ z. ShowsAs f Tells (cond z m n) r s t) (sym e) h

  -- ---- parts between two changes of the state, of which the second comes however they end

  module _ {A C : Type 0} (f : C → A) (region : operations.Region) (x : Object) (vs : List ℤ) (m : Stored A) where
    pub elaborates_shows : (mark : Mark) (r : Result C End) (s t u : Image) → Begins region x vs (Ok mark) s t → ShowsAs f Tells m r t u → ShowsAs f Tells (elaborates region (entity_of x) vs m) r s (finished region x mark u)
    elaborates_shows mark r s t u b h = go r h
      where
        same : (w : List ℕ) → facing w (cut_back region x mark u.state) ≡ ended region (entity_of x) (facing w s.state) (facing w u.state)
        same w = ends_so region x mark s u w b.2 b.3

        told_of : (w : List ℕ) → Tells w (outside_of (finished region x mark u)) → Tells w (outside_of u)
        told_of w told = subst (λ (o : Outside). Tells w o) (outside_finished region x mark u) told

        from : (w : List ℕ) → facing w t.state ≡ begun region (entity_of x) vs (facing w s.state)
        from w = ap (facing w) b.4 ∙ begins_facing region x vs s.state w

        kept : Keeps Tells (outside_of t) (outside_of u) → Keeps Tells (outside_of s) (outside_of (finished region x mark u))
        kept k = also (same_keeps (outside_begun region x vs s t b.0 b.4 b.5)) (also k (same_keeps (outside_finished region x mark u)))

        ok : (w : List ℕ) (e : Result A Cause) → m.does (facing w t.state) ≡ at (facing w u.state) e → (elaborates region (entity_of x) vs m).does (facing w s.state) ≡ at (facing w (cut_back region x mark u.state)) e
        ok w e h = does_so region x vs m (facing w s.state) (facing w u.state) e (has_room_facing region x s.state w ∙ b.1) (subst (λ (z : State). m.does z ≡ at (facing w u.state) e) (from w) h) ∙ ap (λ (z : State). at z e) (sym (same w))

        stop : (w : List ℕ) (c : Outage) → Stops m (facing w t.state) c (facing w u.state) → Stops (elaborates region (entity_of x) vs m) (facing w s.state) c (facing w (cut_back region x mark u.state))
        stop w c h = subst (λ (z : State). Stops (elaborates region (entity_of x) vs m) (facing w s.state) c z) (sym (same w)) (halts_so region x vs m (facing w s.state) (facing w u.state) c (has_room_facing region x s.state w ∙ b.1) (subst (λ (z : State). Stops m z c (facing w u.state)) (from w) h))

        go : (r : Result C End) → ShowsAs f Tells m r t u → ShowsAs f Tells (elaborates region (entity_of x) vs m) r s (finished region x mark u)
        go (Ok a) h = (h.0 ∙ b.0, kept h.1, λ w told. ok w (Ok (f a)) (h.2 w (told_of w told)))
        go (Err (end.Left y)) h = (h.0 ∙ b.0, kept h.1, λ w told. ok w (Err (Left (leave_of y))) (h.2 w (told_of w told)))
        go (Err end.Spent) h = (h.0 ∙ b.0, kept h.1, λ w told. ok w (Err OutOfTurns) (h.2 w (told_of w told)))
        go (Err end.NoMemory) h = (h.0 ∙ b.0, kept h.1, λ w told. stop w MemoryFault (h.2 w (told_of w told)))
        go (Err end.ReadFault) h = (causes_later C C end.ReadFault s.faults t.faults u.faults b.0 h.0, kept h.1, λ w told. stop w InputFault (h.2 w (told_of w told)))
        go (Err end.WriteFault) h = (causes_later C C end.WriteFault s.faults t.faults u.faults b.0 h.0, kept h.1, λ w told. stop w OutputFault (h.2 w (told_of w told)))

    -- no memory for a new instance
    pub elaborates_fails : (e : End) (s t : Image) → Begins region x vs (Err e) s t → ShowsAs f Tells (elaborates region (entity_of x) vs m) (Err e) s t
    elaborates_fails (end.Left y) s t b = absurd b
    elaborates_fails end.Spent s t b = absurd b
    elaborates_fails end.NoMemory s t b = (ap (λ (z : Image). z.faults) b, same_keeps (ap outside_of b), λ w told. inl (refl, ap (λ (z : Image). facing w z.state) b))
    elaborates_fails end.ReadFault s t b = absurd b
    elaborates_fails end.WriteFault s t b = absurd b

  module _ {A C : Type 0} (f : C → A) (m : Stored A) where
    pub apart_shows : (before : ℕ) (r : Result C End) (s t u : Image) → Enters (Ok before) s t → ShowsAs f Tells m r t u → ShowsAs f Tells (apart m) r s (unframed before u)
    unfolding apart
    apart_shows before r s t u b h = subst (λ z. ShowsAs f Tells (apart m) r s (unframed z u)) (sym b.0) (go r (subst (λ z. ShowsAs f Tells m r z u) b.1 h))
      where
        go : (r : Result C End) → ShowsAs f Tells m r (unframed (s.state.frame + 1) s) u → ShowsAs f Tells (apart m) r s (unframed s.state.frame u)
        go (Ok a) h = (h.0, h.1, λ w told. ap (λ (z : After _). at (record (z.state) { frame = s.state.frame }) z.end) (h.2 w told))
        go (Err (end.Left y)) h = (h.0, h.1, λ w told. ap (λ (z : After _). at (record (z.state) { frame = s.state.frame }) z.end) (h.2 w told))
        go (Err end.Spent) h = (h.0, h.1, λ w told. ap (λ (z : After _). at (record (z.state) { frame = s.state.frame }) z.end) (h.2 w told))
        go (Err end.NoMemory) h = (h.0, h.1, λ w told. inr (facing w u.state, h.2 w told, refl))
        go (Err end.ReadFault) h = (h.0, h.1, λ w told. inr (facing w u.state, h.2 w told, refl))
        go (Err end.WriteFault) h = (h.0, h.1, λ w told. inr (facing w u.state, h.2 w told, refl))

    pub apart_fails : (e : End) (s t : Image) → Enters (Err e) s t → ShowsAs f Tells (apart m) (Err e) s t
    apart_fails (end.Left y) s t b = absurd b
    apart_fails end.Spent s t b = absurd b
    apart_fails end.NoMemory s t b = (ap (λ (z : Image). z.faults) b, same_keeps (ap outside_of b), λ w told. inl (refl, ap (λ (z : Image). facing w z.state) b))
    apart_fails end.ReadFault s t b = absurd b
    apart_fails end.WriteFault s t b = absurd b
