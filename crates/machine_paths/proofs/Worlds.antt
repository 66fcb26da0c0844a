-- A thread's path leaves its world as it is, and where it comes to an end, a path that may ask comes to it too.
use Rattle.std.proofs.Common.{◌≡◌, ℕ, zero, suc, ◌+◌, ◌-◌, ◌≤◌, ℤ, Bool, true, List, [], ◌∷◌, length, slice_get, Option, Some, None, Result, Ok, Err, arith, refl, sym, ◌∙◌, ap, subst}
use Rattle.std.specs.Prelude.{max}
use Rattle.behaviours.specs.Joins.{Share, deal}
use Rattle.ada_base.specs.Notes.{Schedule, InOrder, ByNotes}
use Rattle.stack_code.specs.declared.code.Code.{Code}
use Rattle.stack_code.specs.declared.code.CodeSite.{CodeSite}
use Rattle.stack_code.specs.declared.path.Asked.{Asked}
use Rattle.stack_code.specs.declared.path.Gave.{Gave}
use Rattle.stack_code.specs.Machine.{Frame, State, Stop, Done, Left, Spent, Cut, Asks, Constructs, Stuck, Astray, Went, Goes, Stops, step}
use Rattle.ada_lower.specs.Driven.{World, Dyn, Path, Final, Step, On, Off, Forks, Forked, clip, cut_to, off, dyn_of, raw_of, sizes_for, with_turns, thread_ended, thread_went, in_order, by_notes, gathered, thread_at, answer_of, answering, at_site, fork, fork_end, fork_ended, driven, after_fork, onward, goes}
use Rattle.ada_lower.proofs.ForkFuel.{by_notes_more}
use Rattle.machine_paths.specs.Silent.{unasked, silent, silently, IsIn}

none_some : {A : Type 0} {a : A} → ◌≡◌ {A = Option A} None (Some a) → ⊥
none_some e = cc

final_is : (x y : Final) → Some x ≡ Some y → x ≡ y
final_is x y e = cc

forked_is : (x y : Forked) → Some x ≡ Some y → x ≡ y
forked_is x y e = cc

-- ---- the world
module _ (limit : ℕ) (c : Code) (w : World) (o : w.notes ≡ InOrder) where
  clip_world : (fs : List Frame) (d : Dyn) → d.world ≡ w → (clip fs d).world ≡ w
  clip_world [] d q = q
  clip_world (f ∷ fs) d q = clip_world fs (cut_to f.top d) q

  module _ (run : Step → Option Final) (same : (x : Step) (e : Final) → IsIn w x → run x ≡ Some e → e.dyn.world ≡ w) where
    forked_world : (d : Dyn) (h : Result Gave Stop) (r : Forked) → d.world ≡ w → Some (record { dyn = d; how = h }) ≡ Some r → r.dyn.world ≡ w
    forked_world d h r q e = sym (ap (λ (r : Forked). r.dyn.world) (forked_is (record { dyn = d; how = h }) r e)) ∙ q

    module _ (start : Dyn → Share → Path) (top : ℕ) (begins : (d : Dyn) (j : Share) → d.world ≡ w → (start d j).world ≡ w) where
      abbrev order : ℕ → List Share → Dyn → ℕ → Bool → List ℤ → Option Forked
      order from js d most over us = in_order run start top from js d most over us

      abbrev Rest : ℕ → List Share → Type 0
      Rest from js = (d : Dyn) (most : ℕ) (over : Bool) (us : List ℤ) (r : Forked) → d.world ≡ w → order from js d most over us ≡ Some r → r.dyn.world ≡ w

      ended_world : (from : ℕ) (js : List Share) → Rest from js → (most : ℕ) (over : Bool) (us : List ℤ) (x : Stop) (d : Dyn) (r : Forked) → d.world ≡ w → thread_ended run start top (λ d m o us. order from js d m o us) most over us x d ≡ Some r → r.dyn.world ≡ w
      ended_world from js rest most over us (Done v) d r q e = rest d (max most d.turns) over (gathered us v) r q e
      ended_world from js rest most over us Spent d r q e = rest d (max most d.turns) true us r q e
      ended_world from js rest most over us (Left l) d r q e = forked_world _ _ r q e
      ended_world from js rest most over us Cut d r q e = forked_world _ _ r q e
      ended_world from js rest most over us (Asks a) d r q e = forked_world _ _ r q e
      ended_world from js rest most over us (Constructs a) d r q e = forked_world _ _ r q e
      ended_world from js rest most over us Stuck d r q e = forked_world _ _ r q e
      ended_world from js rest most over us Astray d r q e = forked_world _ _ r q e

      went_world : (from : ℕ) (js : List Share) → Rest from js → (most : ℕ) (over : Bool) (us : List ℤ) (z : Option Final) → ((f : Final) → z ≡ Some f → f.dyn.world ≡ w) → (r : Forked) → thread_went run start top (λ d m o us. order from js d m o us) most over us z ≡ Some r → r.dyn.world ≡ w
      went_world from js rest most over us None h r e = absurd (none_some e)
      went_world from js rest most over us (Some f) h r e = ended_world from js rest most over us f.how (cut_to top f.dyn) r (h f refl) e

      order_world : (from : ℕ) (js : List Share) → Rest from js
      order_world from [] d most over us r q e = forked_world _ _ r q e
      order_world from (j ∷ js) d most over us r q e =
          went_world from js (λ d m v us r q e. order_world from js d m v us r q e) most over us (run (On (start (with_turns from d) j))) (λ f e. same (On (start (with_turns from d) j)) f (begins (with_turns from d) j q) e) r e

      notes_world : (n : Schedule) → n ≡ InOrder → (js : List Share) (d : Dyn) (r : Forked) → d.world ≡ w → by_notes run start top n js d ≡ Some r → r.dyn.world ≡ w
      notes_world InOrder i js d r q e = order_world d.turns js d d.turns _ [] r q e
      notes_world (ByNotes ns) i js d r q e = absurd (no i) where
        no : ByNotes ns ≡ InOrder → ⊥
        no e = cc

    answering_world : (f : Gave → Gave) (z : Option Forked) → ((r : Forked) → z ≡ Some r → r.dyn.world ≡ w) → (r : Forked) → answering c f z ≡ Some r → r.dyn.world ≡ w
    answering_world f None h r e = absurd (none_some e)
    answering_world f (Some x) h r e = forked_world _ _ r (h x refl) e

    site_world : (s : Option CodeSite) (q : Asked) (p : Path) (r : Forked) → p.world ≡ w → at_site c s run q p ≡ Some r → r.dyn.world ≡ w
    site_world None q p r i e = forked_world _ _ r i e
    site_world (Some site) q p r i e =
        let top = length p.state.cells in let js = deal 0 0 (sizes_for p.world.plan site.kind q) in let d = raw_of p.state p.world in
        answering_world (answer_of c site.kind q) (by_notes run (thread_at c top site q p) top p.world.notes js d)
        (λ r e. notes_world (thread_at c top site q p) top (λ d j q. q) p.world.notes (ap (λ (w : World). w.notes) i ∙ o) js d r i e) r e

    end_world : (h : Result Gave Stop) (d : Dyn) (s : State) → d.world ≡ w → IsIn w (fork_end c h d s)
    end_world (Ok g) d s q = q
    end_world (Err x) d s q = clip_world s.waiting d q

    after_world : (z : Option Forked) (p : Path) → ((r : Forked) → z ≡ Some r → r.dyn.world ≡ w) → (e : Final) → after_fork limit c z p run ≡ Some e → e.dyn.world ≡ w
    after_world None p h e is = absurd (none_some is)
    after_world (Some r) p h e is = same (fork_ended c r p) e (end_world r.how r.dyn p.state (h r refl)) is

    unasked_world : (t : Went) (v : World) (e : Final) → v ≡ w → unasked limit c run t v ≡ Some e → e.dyn.world ≡ w
    unasked_world (Goes s) v e q is = same (On (record { state = s; world = v })) e q is
    unasked_world (Stops (Asks a) s) v e q is = absurd (none_some is)
    unasked_world (Stops (Constructs a) s) v e q is = same (Forks a (record { state = s; world = v })) e q is
    unasked_world (Stops (Done x) s) v e q is = same (off (Done x) (dyn_of s v)) e (clip_world s.waiting (raw_of s v) q) is
    unasked_world (Stops (Left x) s) v e q is = same (off (Left x) (dyn_of s v)) e (clip_world s.waiting (raw_of s v) q) is
    unasked_world (Stops Spent s) v e q is = same (off Spent (dyn_of s v)) e (clip_world s.waiting (raw_of s v) q) is
    unasked_world (Stops Cut s) v e q is = same (off Cut (dyn_of s v)) e (clip_world s.waiting (raw_of s v) q) is
    unasked_world (Stops Stuck s) v e q is = same (off Stuck (dyn_of s v)) e (clip_world s.waiting (raw_of s v) q) is
    unasked_world (Stops Astray s) v e q is = same (off Astray (dyn_of s v)) e (clip_world s.waiting (raw_of s v) q) is

    silent_world : (x : Step) (e : Final) → IsIn w x → silent limit c run x ≡ Some e → e.dyn.world ≡ w
    silent_world (Off f) e q is = sym (ap (λ (f : Final). f.dyn.world) (final_is f e is)) ∙ q
    silent_world (On p) e q is = unasked_world (step limit c p.state) p.world e q is
    silent_world (Forks a p) e q is = after_world (fork c run a p) p (λ r is. site_world (slice_get c.sites a.site) a p r q is) e is

  pub silently_world : (n : ℕ) (x : Step) (e : Final) → IsIn w x → silently limit c n x ≡ Some e → e.dyn.world ≡ w
  silently_world zero (Off f) e q is = sym (ap (λ (f : Final). f.dyn.world) (final_is f e is)) ∙ q
  silently_world zero (On p) e q is = absurd (none_some is)
  silently_world zero (Forks a p) e q is = absurd (none_some is)
  silently_world (suc n) x e q is = silent_world (silently limit c n) (λ x e q is. silently_world n x e q is) x e q is

-- ---- other worlds
-- the same in the world w
abbrev in_dyn : World → Dyn → Dyn
in_dyn w d = record d { world = w }

abbrev in_path : World → Path → Path
in_path w p = record p { world = w }

abbrev pub in_final : World → Final → Final
in_final w e = record e { dyn = in_dyn w e.dyn }

abbrev in_forked : World → Forked → Forked
in_forked w r = record r { dyn = in_dyn w r.dyn }

abbrev pub in_step : World → Step → Step
in_step w (On p) = On (in_path w p)
in_step w (Off e) = Off (in_final w e)
in_step w (Forks q p) = Forks q (in_path w p)

module _ (limit : ℕ) (c : Code) (v w : World) (o : v.notes ≡ InOrder) (i : w.notes ≡ InOrder) (plan : w.plan ≡ v.plan) where
  clip_in : (fs : List Frame) (d : Dyn) → clip fs (in_dyn w d) ≡ in_dyn w (clip fs d)
  clip_in [] d = refl
  clip_in (f ∷ fs) d = clip_in fs (cut_to f.top d)

  module _ (run : Step → Option Final) (same : (x : Step) (e : Final) → IsIn v x → run x ≡ Some e → e.dyn.world ≡ v) (lifts : (x : Step) (e : Final) → IsIn v x → run x ≡ Some e → run (in_step w x) ≡ Some (in_final w e)) where
    forked_in : (d : Dyn) (h : Result Gave Stop) (r : Forked) → Some (record { dyn = d; how = h }) ≡ Some r → Some (record { dyn = in_dyn w d; how = h }) ≡ Some (in_forked w r)
    forked_in d h r e = ap (λ r. Some (in_forked w r)) (forked_is (record { dyn = d; how = h }) r e)

    module _ (start : Dyn → Share → Path) (top : ℕ) (begins : (d : Dyn) (j : Share) → d.world ≡ v → (start d j).world ≡ v) (starts : (d : Dyn) (j : Share) → start (in_dyn w d) j ≡ in_path w (start d j)) where
      abbrev lined : ℕ → List Share → Dyn → ℕ → Bool → List ℤ → Option Forked
      lined from js d most over us = in_order run start top from js d most over us

      abbrev Lifts : ℕ → List Share → Type 0
      Lifts from js = (d : Dyn) (most : ℕ) (over : Bool) (us : List ℤ) (r : Forked) → d.world ≡ v → lined from js d most over us ≡ Some r → lined from js (in_dyn w d) most over us ≡ Some (in_forked w r)

      ended_in : (from : ℕ) (js : List Share) → Lifts from js → (most : ℕ) (over : Bool) (us : List ℤ) (x : Stop) (d : Dyn) (r : Forked) → d.world ≡ v → thread_ended run start top (λ d m o us. lined from js d m o us) most over us x d ≡ Some r →
          thread_ended run start top (λ d m o us. lined from js d m o us) most over us x (in_dyn w d) ≡ Some (in_forked w r)
      ended_in from js rest most over us (Done u) d r q e = rest d (max most d.turns) over (gathered us u) r q e
      ended_in from js rest most over us Spent d r q e = rest d (max most d.turns) true us r q e
      ended_in from js rest most over us (Left l) d r q e = forked_in _ _ r e
      ended_in from js rest most over us Cut d r q e = forked_in _ _ r e
      ended_in from js rest most over us (Asks a) d r q e = forked_in _ _ r e
      ended_in from js rest most over us (Constructs a) d r q e = forked_in _ _ r e
      ended_in from js rest most over us Stuck d r q e = forked_in _ _ r e
      ended_in from js rest most over us Astray d r q e = forked_in _ _ r e

      went_in : (from : ℕ) (js : List Share) → Lifts from js → (most : ℕ) (over : Bool) (us : List ℤ) (x : Step) (z : Option Final) → run x ≡ z → IsIn v x → (r : Forked) → thread_went run start top (λ d m o us. lined from js d m o us) most over us z ≡ Some r →
          thread_went run start top (λ d m o us. lined from js d m o us) most over us (run (in_step w x)) ≡ Some (in_forked w r)
      went_in from js rest most over us x None is q r e = absurd (none_some e)
      went_in from js rest most over us x (Some f) is q r e =
          ap (thread_went run start top (λ d m o us. lined from js d m o us) most over us) (lifts x f q is) ∙ ended_in from js rest most over us f.how (cut_to top f.dyn) r (same x f q is) e

      order_in : (from : ℕ) (js : List Share) → Lifts from js
      order_in from [] d most over us r q e = forked_in _ _ r e
      order_in from (j ∷ js) d most over us r q e =
          let x = On (start (with_turns from d) j) in
          ap (λ p. thread_went run start top (λ d m o us. lined from js d m o us) most over us (run (On p))) (starts (with_turns from d) j)
          ∙ went_in from js (λ d m u us r q e. order_in from js d m u us r q e) most over us x (run x) refl (begins (with_turns from d) j q) r e

      notes_in : (n m : Schedule) → n ≡ InOrder → m ≡ InOrder → (js : List Share) (d : Dyn) (r : Forked) → d.world ≡ v → by_notes run start top n js d ≡ Some r → by_notes run start top m js (in_dyn w d) ≡ Some (in_forked w r)
      notes_in InOrder InOrder e f js d r q h = order_in d.turns js d d.turns _ [] r q h
      notes_in InOrder (ByNotes ns) e f js d r q h = absurd (no f) where
        no : ByNotes ns ≡ InOrder → ⊥
        no e = cc
      notes_in (ByNotes ns) m e f js d r q h = absurd (no e) where
        no : ByNotes ns ≡ InOrder → ⊥
        no e = cc

    answering_in : (f : Gave → Gave) (z y : Option Forked) → ((r : Forked) → z ≡ Some r → y ≡ Some (in_forked w r)) → (r : Forked) → answering c f z ≡ Some r → answering c f y ≡ Some (in_forked w r)
    answering_in f None y h r e = absurd (none_some e)
    answering_in f (Some x) y h r e = ap (answering c f) (h x refl) ∙ forked_in _ _ r e

    site_in : (s : Option CodeSite) (q : Asked) (p : Path) (r : Forked) → p.world ≡ v → at_site c s run q p ≡ Some r → at_site c s run q (in_path w p) ≡ Some (in_forked w r)
    site_in None q p r e h = forked_in _ _ r h
    site_in (Some site) q p r e h =
        let top = length p.state.cells in let js = deal 0 0 (sizes_for p.world.plan site.kind q) in let d = raw_of p.state p.world in
        ap (λ plan. answering c (answer_of c site.kind q) (by_notes run (thread_at c top site q p) top w.notes (deal 0 0 (sizes_for plan site.kind q)) (in_dyn w d))) (plan ∙ ap (λ (w : World). w.plan) (sym e))
        ∙ answering_in (answer_of c site.kind q) (by_notes run (thread_at c top site q p) top p.world.notes js d) (by_notes run (thread_at c top site q p) top w.notes js (in_dyn w d))
        (λ r h. notes_in (thread_at c top site q p) top (λ d j q. q) (λ d j. refl) p.world.notes w.notes (ap (λ (w : World). w.notes) e ∙ o) i js d r e h) r h

    end_in : (h : Result Gave Stop) (d : Dyn) (s : State) → fork_end c h (in_dyn w d) s ≡ in_step w (fork_end c h d s)
    end_in (Ok g) d s = refl
    end_in (Err x) d s = ap (off x) (clip_in s.waiting d)

    after_in : (z y : Option Forked) (p : Path) → ((r : Forked) → z ≡ Some r → (y ≡ Some (in_forked w r)) × (r.dyn.world ≡ v)) → (e : Final) → after_fork limit c z p run ≡ Some e → after_fork limit c y (in_path w p) run ≡ Some (in_final w e)
    after_in None y p h e is = absurd (none_some is)
    after_in (Some r) y p h e is =
        let g = h r refl in
        ap (λ y. after_fork limit c y (in_path w p) run) g.0 ∙ ap run (end_in r.how r.dyn p.state) ∙ lifts (fork_ended c r p) e (end_world limit c v o run same r.how r.dyn p.state g.1) is

    off_in : (x : Stop) (s : State) (u : World) (e : Final) → u ≡ v → run (off x (dyn_of s u)) ≡ Some e → run (off x (dyn_of s w)) ≡ Some (in_final w e)
    off_in x s u e q is = ap (λ d. run (off x d)) (clip_in s.waiting (raw_of s u)) ∙ lifts (off x (dyn_of s u)) e (clip_world limit c v o s.waiting (raw_of s u) q) is

    unasked_in : (t : Went) (u : World) (e : Final) → u ≡ v → unasked limit c run t u ≡ Some e → unasked limit c run t w ≡ Some (in_final w e)
    unasked_in (Goes s) u e q is = lifts (On (record { state = s; world = u })) e q is
    unasked_in (Stops (Asks a) s) u e q is = absurd (none_some is)
    unasked_in (Stops (Constructs a) s) u e q is = lifts (Forks a (record { state = s; world = u })) e q is
    unasked_in (Stops (Done x) s) u e q is = off_in (Done x) s u e q is
    unasked_in (Stops (Left x) s) u e q is = off_in (Left x) s u e q is
    unasked_in (Stops Spent s) u e q is = off_in Spent s u e q is
    unasked_in (Stops Cut s) u e q is = off_in Cut s u e q is
    unasked_in (Stops Stuck s) u e q is = off_in Stuck s u e q is
    unasked_in (Stops Astray s) u e q is = off_in Astray s u e q is

    silent_in : (x : Step) (e : Final) → IsIn v x → silent limit c run x ≡ Some e → silent limit c run (in_step w x) ≡ Some (in_final w e)
    silent_in (Off f) e q is = ap (λ f. Some (in_final w f)) (final_is f e is)
    silent_in (On p) e q is = unasked_in (step limit c p.state) p.world e q is
    silent_in (Forks a p) e q is = after_in (fork c run a p) (fork c run a (in_path w p)) p (λ r h. (site_in (slice_get c.sites a.site) a p r q h, site_world limit c v o run same (slice_get c.sites a.site) a p r q h)) e is

  -- in a world with the same plan it does the same
  pub silently_in : (n : ℕ) (x : Step) (e : Final) → IsIn v x → silently limit c n x ≡ Some e → silently limit c n (in_step w x) ≡ Some (in_final w e)
  silently_in zero (Off f) e q is = ap (λ f. Some (in_final w f)) (final_is f e is)
  silently_in zero (On p) e q is = absurd (none_some is)
  silently_in zero (Forks a p) e q is = absurd (none_some is)
  silently_in (suc n) x e q is = silent_in (silently limit c n) (λ x e q is. silently_world limit c v o n x e q is) (λ x e q is. silently_in n x e q is) x e q is

-- ---- more steps, and a path that may ask
abbrev More : (Step → Option Final) → (Step → Option Final) → Type 0
More run run' = (x : Step) (e : Final) → run x ≡ Some e → run' x ≡ Some e

module _ (limit : ℕ) (c : Code) where
  answering_more : (f : Gave → Gave) (z y : Option Forked) → ((r : Forked) → z ≡ Some r → y ≡ Some r) → (r : Forked) → answering c f z ≡ Some r → answering c f y ≡ Some r
  answering_more f None y h r e = absurd (none_some e)
  answering_more f (Some x) y h r e = subst (λ y. answering c f y ≡ Some r) (sym (h x refl)) e

  site_more : (run run' : Step → Option Final) → More run run' → (s : Option CodeSite) (q : Asked) (p : Path) (r : Forked) → at_site c s run q p ≡ Some r → at_site c s run' q p ≡ Some r
  site_more run run' more None q p r e = e
  site_more run run' more (Some site) q p r e =
      answering_more (answer_of c site.kind q) _ _ (λ r e. by_notes_more run run' more (thread_at c (length p.state.cells) site q p) (length p.state.cells) p.world.notes _ _ r e) r e

  pub fork_more : (run run' : Step → Option Final) → More run run' → (q : Asked) (p : Path) (r : Forked) → fork c run q p ≡ Some r → fork c run' q p ≡ Some r
  fork_more run run' more q p r e = site_more run run' more (slice_get c.sites q.site) q p r e

  after_more : (run run' : Step → Option Final) → More run run' → (z y : Option Forked) → ((r : Forked) → z ≡ Some r → y ≡ Some r) → (p : Path) (e : Final) → after_fork limit c z p run ≡ Some e → after_fork limit c y p run' ≡ Some e
  after_more run run' more None y h p e is = absurd (none_some is)
  after_more run run' more (Some x) y h p e is = subst (λ y. after_fork limit c y p run' ≡ Some e) (sym (h x refl)) (more _ e is)

  unasked_more : (run run' : Step → Option Final) → More run run' → (t : Went) (v : World) (e : Final) → unasked limit c run t v ≡ Some e → (unasked limit c run' t v ≡ Some e) × (run' (driven limit c t v) ≡ Some e)
  unasked_more run run' more (Goes s) v e is = let h = more _ e is in (h, h)
  unasked_more run run' more (Stops (Asks a) s) v e is = absurd (none_some is)
  unasked_more run run' more (Stops (Constructs a) s) v e is = let h = more _ e is in (h, h)
  unasked_more run run' more (Stops (Done x) s) v e is = let h = more _ e is in (h, h)
  unasked_more run run' more (Stops (Left x) s) v e is = let h = more _ e is in (h, h)
  unasked_more run run' more (Stops Spent s) v e is = let h = more _ e is in (h, h)
  unasked_more run run' more (Stops Cut s) v e is = let h = more _ e is in (h, h)
  unasked_more run run' more (Stops Stuck s) v e is = let h = more _ e is in (h, h)
  unasked_more run run' more (Stops Astray s) v e is = let h = more _ e is in (h, h)

  silent_more : (run run' : Step → Option Final) → More run run' → More (silent limit c run) (silent limit c run')
  silent_more run run' more (Off f) e is = is
  silent_more run run' more (On p) e is = (unasked_more run run' more (step limit c p.state) p.world e is).0
  silent_more run run' more (Forks q p) e is = after_more run run' more (fork c run q p) (fork c run' q p) (λ r z. fork_more run run' more q p r z) p e is

  silent_onward : (run run' : Step → Option Final) → More run run' → More (silent limit c run) (onward limit c run')
  silent_onward run run' more (Off f) e is = is
  silent_onward run run' more (On p) e is = (unasked_more run run' more (step limit c p.state) p.world e is).1
  silent_onward run run' more (Forks q p) e is = after_more run run' more (fork c run q p) (fork c run' q p) (λ r z. fork_more run run' more q p r z) p e is

  silently_suc : (n : ℕ) (x : Step) (e : Final) → silently limit c n x ≡ Some e → silently limit c (suc n) x ≡ Some e
  silently_suc zero (Off f) e is = is
  silently_suc zero (On p) e is = absurd (none_some is)
  silently_suc zero (Forks q p) e is = absurd (none_some is)
  silently_suc (suc n) x e is = silent_more (silently limit c n) (silently limit c (suc n)) (λ x e z. silently_suc n x e z) x e is

  -- more steps change no end
  pub silently_more : (n k : ℕ) (x : Step) (e : Final) → silently limit c n x ≡ Some e → silently limit c (n + k) x ≡ Some e
  silently_more n zero x e is = subst (λ m. silently limit c m x ≡ Some e) (let z : n ≡ n + 0 = omega arith in z) is
  silently_more n (suc k) x e is = subst (λ m. silently limit c m x ≡ Some e) (let z : suc (n + k) ≡ n + suc k = omega arith in z) (silently_suc (n + k) x e (silently_more n k x e is))

  pub silently_by : (n m : ℕ) (x : Step) (e : Final) → n ≤ m → silently limit c n x ≡ Some e → silently limit c m x ≡ Some e
  silently_by n m x e le is = subst (λ m. silently limit c m x ≡ Some e) (let z : n + (m - n) ≡ m = omega (arith, le) in z) (silently_more n (m - n) x e is)

  -- a path that may ask comes to the same
  pub silently_goes : (n : ℕ) (x : Step) (e : Final) → silently limit c n x ≡ Some e → goes limit c n x ≡ Some e
  silently_goes zero x e is = is
  silently_goes (suc n) x e is = silent_onward (silently limit c n) (goes limit c n) (λ x e z. silently_goes n x e z) x e is
