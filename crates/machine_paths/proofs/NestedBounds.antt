-- What a bound of looks changes of a path that runs the constructs in it in order.
use Rattle.std.proofs.Common.{◌≡◌, ◌≢◌, ℕ, zero, suc, ◌⊎◌, inl, inr, ℤ, Bool, true, false, cond, List, [], ◌∷◌, length, Option, Some, None, Result, Ok, Err, refl, sym, ◌∙◌, ap, subst}
use Rattle.std.specs.Prelude.{max, slice_get}
use Rattle.behaviours.specs.Joins.{Share, deal}
use Rattle.ada_base.specs.Notes.{Schedule, InOrder, ByNotes}
use Rattle.stack_code.specs.declared.code.Code.{Code}
use Rattle.stack_code.specs.declared.code.CodeSite.{CodeSite}
use Rattle.stack_code.specs.declared.instr.Instr.{Instr}
use Rattle.stack_code.specs.declared.instr.Instr.TheVariants as instr
use Rattle.stack_code.specs.declared.path.Asked.{Asked}
use Rattle.stack_code.specs.declared.path.Gave.{Gave}
use Rattle.stack_code.specs.declared.path.Gave.TheVariants as gave
use Rattle.stack_code.specs.declared.path.Leave.TheVariants.{Exit as Exits, Return as Returns, Raise as Raises}
use Rattle.stack_code.specs.Machine.{Frame, State, Stop, Done, Left, Spent, Cut, Asks, Constructs, Stuck, Astray, Went, Goes, Stops, after, resumed, step}
use Rattle.ada_lower.specs.Driven.{World, Dyn, Path, Final, Step, On, Off, Forks, Forked, clip, cut_to, off, dyn_of, raw_of, sizes_for, with_left as dyn_left, with_turns, thread_ended, thread_went, in_order, by_notes, gathered, thread_at, answer_of, answering, with_answer, at_site, fork, with_dyn, fork_end, after_fork, halted}
use Rattle.machine_paths.specs.Silent.{unasked, silent, silently}
use Rattle.machine_paths.proofs.Bounded.{with_left, Bounded}
use Rattle.machine_paths.specs.Nesting.{Ordered}
use Rattle.machine_paths.proofs.Looking.{path_left, final_left, forked_left, StepCut, FinalCut, ForkedCut, StepBound, FinalBound, ForkedBound}
use Rattle.machine_paths.proofs.Bounds.{steps_bounded}

-- ---- a path goes on with an answer
abbrev Resumes : State → Option ℕ → State → State → Type 0
Resumes s l r t = (t ≡ with_left r l) × (r.left ≡ s.left)

after_left : (i : Option Instr) (g : Gave) (s : State) (l : Option ℕ) → Resumes s l (after i g s) (after i g (with_left s l))
after_left (Some (instr.Fork site)) gave.Nothing s l = (refl, refl)
after_left (Some (instr.Fork site)) (gave.Numbers []) s l = (refl, refl)
after_left (Some (instr.Fork site)) (gave.Numbers (v ∷ vs)) s l = (refl, refl)
after_left (Some (instr.Fork site)) (gave.Left (Raises r)) s l = (refl, refl)
after_left (Some (instr.Fork site)) (gave.Left (Exits n)) s l = (refl, refl)
after_left (Some (instr.Fork site)) (gave.Left (Returns None)) s l = (refl, refl)
after_left (Some (instr.Fork site)) (gave.Left (Returns (Some v))) s l = (refl, refl)
after_left (Some instr.Get) gave.Nothing s l = (refl, refl)
after_left (Some instr.Get) (gave.Numbers []) s l = (refl, refl)
after_left (Some instr.Get) (gave.Numbers (v ∷ [])) s l = (refl, refl)
after_left (Some instr.Get) (gave.Numbers (v ∷ w ∷ vs)) s l = (refl, refl)
after_left (Some instr.Get) (gave.Left (Raises r)) s l = (refl, refl)
after_left (Some instr.Get) (gave.Left (Exits n)) s l = (refl, refl)
after_left (Some instr.Get) (gave.Left (Returns v)) s l = (refl, refl)
after_left _ g s l = (refl, refl)

clip_left : (fs : List Frame) (d : Dyn) (l : Option ℕ) → (clip fs (dyn_left l d) ≡ dyn_left l (clip fs d)) × ((clip fs d).left ≡ d.left) × ((clip fs d).world ≡ d.world)
clip_left [] d l = (refl, refl, refl)
clip_left (f ∷ fs) d l = clip_left fs (cut_to f.top d) l

resumed_left : (c : Code) (g : Gave) (s : State) (w : World) (i : ℕ) → s.left ≡ None → Ordered w → StepBound (On (record { state = resumed c g s; world = w })) (On (record { state = resumed c g (with_left s (Some i)); world = w }))
resumed_left c g s w i e o =
    let r = after_left (slice_get c.instrs s.pc) g s (Some i) in
    (r.1 ∙ e, o, inl (i, ap (λ t. On (record { state = t; world = w })) r.0))

-- an end by a stop is that stop's
is_err : (x y : Stop) → ◌≡◌ {A = Result Gave Stop} (Err x) (Err y) → x ≡ y
is_err x y e = cc

not_given : (g : Gave) (y : Stop) → ◌≡◌ {A = Result Gave Stop} (Ok g) (Err y) → ⊥
not_given g y e = cc

spent_not : Spent ≡ Cut → ⊥
spent_not e = cc

astray_not : Astray ≡ Cut → ⊥
astray_not e = cc

off_left : (x : Stop) (fs : List Frame) (d : Dyn) (i : ℕ) → x ≢ Cut → d.left ≡ None → Ordered d.world → StepBound (off x (clip fs d)) (off x (clip fs (dyn_left (Some i) d)))
off_left x fs d i ne e o = let r = clip_left fs d (Some i) in (ne, r.1 ∙ e, ap (λ w. w.notes) r.2 ∙ o, inl (i, ap (off x) r.0))

module _ (limit : ℕ) (c : Code) where
  -- ---- a construct in order
  module _ (run : Step → Option Final) (offs : (e : Final) → run (Off e) ≡ Some e) (runs : (x y : Step) → StepBound x y → FinalBound (run x) (run y)) where
    module _ (site : CodeSite) (q : Asked) (p : Path) (top : ℕ) where
      abbrev begins : Dyn → Share → Path
      begins d j = thread_at c top site q p d j

      abbrev order : ℕ → List Share → Dyn → ℕ → Bool → List ℤ → Option Forked
      order from js d most over us = in_order run begins top from js d most over us

      abbrev Rest : ℕ → List Share → Type 0
      Rest from js = (d : Dyn) (i : ℕ) (most : ℕ) (over : Bool) (us : List ℤ) → d.left ≡ None → Ordered d.world → ForkedBound (order from js d most over us) (order from js (dyn_left (Some i) d) most over us)

      abbrev ends : ℕ → List Share → ℕ → Bool → List ℤ → Stop → Dyn → Option Forked
      ends from js most over us x d = thread_ended run begins top (λ d m o us. order from js d m o us) most over us x d

      abbrev went : ℕ → List Share → ℕ → Bool → List ℤ → Option Final → Option Forked
      went from js most over us x = thread_went run begins top (λ d m o us. order from js d m o us) most over us x

      cut_forked : (x y z : Option Forked) → ForkedBound x y → ForkedCut z → ForkedBound x z
      cut_forked None y z h u = inr u
      cut_forked (Some e) y z h u = (h.0, h.1, h.2, inr u)

      by_stop : (from : ℕ) (js : List Share) → Rest from js → (most : ℕ) (over : Bool) (us : List ℤ) (x : Stop) (d : Dyn) (i : ℕ) → x ≢ Cut → d.left ≡ None → Ordered d.world →
          ForkedBound (ends from js most over us x d) (ends from js most over us x (dyn_left (Some i) d))
      by_stop from js rest most over us (Done v) d i ne e o = rest d i (max most d.turns) over (gathered us v) e o
      by_stop from js rest most over us Spent d i ne e o = rest d i (max most d.turns) true us e o
      by_stop from js rest most over us (Left l) d i ne e o = (λ h. not_given (gave.Left l) Cut h, e, o, inl (i, refl))
      by_stop from js rest most over us Cut d i ne e o = absurd (ne refl)
      by_stop from js rest most over us (Asks a) d i ne e o = (λ h. ne (is_err (Asks a) Cut h), e, o, inl (i, refl))
      by_stop from js rest most over us (Constructs a) d i ne e o = (λ h. ne (is_err (Constructs a) Cut h), e, o, inl (i, refl))
      by_stop from js rest most over us Stuck d i ne e o = (λ h. ne (is_err Stuck Cut h), e, o, inl (i, refl))
      by_stop from js rest most over us Astray d i ne e o = (λ h. ne (is_err Astray Cut h), e, o, inl (i, refl))

      cut_went : (from : ℕ) (js : List Share) (most : ℕ) (over : Bool) (us : List ℤ) (y : Option Final) → FinalCut y → ForkedCut (went from js most over us y)
      cut_went from js most over us y u =
          let d = cut_to top u.0.dyn in
          (record { dyn = with_turns (max most d.turns) d; how = Err Cut }, refl, ap (went from js most over us) u.2 ∙ ap (λ x. ends from js most over us x d) u.1)

      by_run : (from : ℕ) (js : List Share) → Rest from js → (most : ℕ) (over : Bool) (us : List ℤ) (x y : Option Final) → FinalBound x y → ForkedBound (went from js most over us x) (went from js most over us y)
      by_run from js rest most over us None y h = elim h as (λ _. ForkedBound None (went from js most over us y)) [
        | inl g ↦ inl (ap (went from js most over us) g)
        | inr u ↦ inr (cut_went from js most over us y u)
      ]
      by_run from js rest most over us (Some e) y h =
          let d = cut_to top e.dyn in
          elim h.3 as (λ _. ForkedBound (went from js most over us (Some e)) (went from js most over us y)) [
            | inl g ↦ subst (λ z. ForkedBound (went from js most over us (Some e)) (went from js most over us z)) (sym g.1) (by_stop from js rest most over us e.how d g.0 h.0 h.1 h.2)
            | inr u ↦ cut_forked (went from js most over us (Some e)) (ends from js most over us e.how (dyn_left (Some 0) d)) (went from js most over us y) (by_stop from js rest most over us e.how d 0 h.0 h.1 h.2) (cut_went from js most over us y u)
          ]

      order_left : (from : ℕ) (js : List Share) → Rest from js
      order_left from [] d i most over us e o = (not_cut over, e, o, inl (i, refl)) where
        not_cut : (v : Bool) → ◌≡◌ {A = Result Gave Stop} (cond v (Err Spent) (Ok (gave.Numbers us))) (Err Cut) → ⊥
        not_cut true h = spent_not (is_err Spent Cut h)
        not_cut false h = not_given (gave.Numbers us) Cut h
      order_left from (j ∷ js) d i most over us e o =
          by_run from js (λ d i m v us. order_left from js d i m v us) most over us (run (On (begins (with_turns from d) j))) (run (On (begins (with_turns from (dyn_left (Some i) d)) j)))
          (runs (On (begins (with_turns from d) j)) (On (begins (with_turns from (dyn_left (Some i) d)) j)) (e, o, inl (i, refl)))

      noted_left : (n : Schedule) (js : List Share) (d : Dyn) (i : ℕ) → n ≡ InOrder → d.left ≡ None → Ordered d.world → ForkedBound (by_notes run begins top n js d) (by_notes run begins top n js (dyn_left (Some i) d))
      noted_left InOrder js d i n e o = order_left d.turns js d i d.turns false [] e o
      noted_left (ByNotes cs) js d i n e o = absurd (no n) where
        no : ByNotes cs ≡ InOrder → ⊥
        no e = cc

    answer_cut : (f : Gave → Gave) (r : Result Gave Stop) → with_answer c f r ≡ Err Cut → r ≡ Err Cut
    answer_cut f (Ok g) e = cc
    answer_cut f (Err x) e = e

    cut_answering : (f : Gave → Gave) (y : Option Forked) → ForkedCut y → ForkedCut (answering c f y)
    cut_answering f y u = (record { dyn = u.0.dyn; how = Err Cut }, refl, ap (answering c f) u.2 ∙ ap (λ r. Some (record { dyn = u.0.dyn; how = with_answer c f r })) u.1)

    answering_left : (f : Gave → Gave) (x y : Option Forked) → ForkedBound x y → ForkedBound (answering c f x) (answering c f y)
    answering_left f None y h = elim h as (λ _. ForkedBound None (answering c f y)) [ inl g ↦ inl (ap (answering c f) g) | inr u ↦ inr (cut_answering f y u) ]
    answering_left f (Some e) y h = (λ r. h.0 (answer_cut f e.how r), h.1, h.2, both h.3) where
      both : (((i : ℕ) × (y ≡ Some (forked_left e (Some i)))) ⊎ ForkedCut y) → ((i : ℕ) × (answering c f y ≡ Some (record { dyn = dyn_left (Some i) e.dyn; how = with_answer c f e.how }))) ⊎ ForkedCut (answering c f y)
      both (inl g) = inl (g.0, ap (answering c f) g.1)
      both (inr u) = inr (cut_answering f y u)

    site_left : (o : Option CodeSite) (q : Asked) (p : Path) (i : ℕ) → p.state.left ≡ None → Ordered p.world → ForkedBound (at_site c o run q p) (at_site c o run q (path_left p (Some i)))
    site_left None q p i e o = (λ h. astray_not (is_err Astray Cut h), e, o, inl (i, refl))
    site_left (Some site) q p i e o =
        let js = deal 0 0 (sizes_for p.world.plan site.kind q) in let top = length p.state.cells in
        answering_left (answer_of c site.kind q) (by_notes run (thread_at c top site q p) top p.world.notes js (raw_of p.state p.world))
        (by_notes run (thread_at c top site q p) top p.world.notes js (dyn_left (Some i) (raw_of p.state p.world)))
        (noted_left site q p top p.world.notes js (raw_of p.state p.world) i o e o)

    -- the path goes on
    cut_passed : (p : Path) (y : Option Forked) → ForkedCut y → FinalCut (after_fork limit c y p run)
    cut_passed p y u =
        let d = clip p.state.waiting u.0.dyn in
        (record { how = Cut; dyn = d }, refl, ap (λ z. after_fork limit c z p run) u.2 ∙ ap (λ r. run (fork_end c r u.0.dyn p.state)) u.1 ∙ offs (record { how = Cut; dyn = d }))

    cut_final : (x y z : Option Final) → FinalBound x y → FinalCut z → FinalBound x z
    cut_final None y z h u = inr u
    cut_final (Some e) y z h u = (h.0, h.1, h.2, inr u)

    same_end : (r : Result Gave Stop) (d : Dyn) (s : State) (l : Option ℕ) → fork_end c r d (with_left s l) ≡ fork_end c r d s
    same_end (Ok g) d s l = refl
    same_end (Err x) d s l = refl

    end_left : (r : Result Gave Stop) (d : Dyn) (s : State) (i : ℕ) → r ≢ Err Cut → d.left ≡ None → Ordered d.world → StepBound (fork_end c r d s) (fork_end c r (dyn_left (Some i) d) s)
    end_left (Ok g) d s i ne e o = resumed_left c g (with_dyn c d s) d.world i e o
    end_left (Err x) d s i ne e o = off_left x s.waiting d i (λ h. ne (ap Err h)) e o

    passed_left : (x y : Option Forked) (p : Path) (i : ℕ) → ForkedBound x y → FinalBound (after_fork limit c x p run) (after_fork limit c y (path_left p (Some i)) run)
    passed_left None y p i h = elim h as (λ _. FinalBound None (after_fork limit c y (path_left p (Some i)) run)) [
      | inl g ↦ inl (ap (λ z. after_fork limit c z (path_left p (Some i)) run) g)
      | inr u ↦ inr (cut_passed (path_left p (Some i)) y u)
    ]
    passed_left (Some e) y p i h =
        let m = path_left p (Some i) in
        let like = λ (k : ℕ). runs (fork_end c e.how e.dyn p.state) (fork_end c e.how (dyn_left (Some k) e.dyn) p.state) (end_left e.how e.dyn p.state k h.0 h.1 h.2) in
        elim h.3 as (λ _. FinalBound (after_fork limit c (Some e) p run) (after_fork limit c y m run)) [
          | inl g ↦ subst (λ z. FinalBound (run (fork_end c e.how e.dyn p.state)) z) (sym (ap (λ z. after_fork limit c z m run) g.1 ∙ ap run (same_end e.how (dyn_left (Some g.0) e.dyn) p.state (Some i)))) (like g.0)
          | inr u ↦ cut_final (run (fork_end c e.how e.dyn p.state)) (run (fork_end c e.how (dyn_left (Some 0) e.dyn) p.state)) (after_fork limit c y m run) (like 0) (cut_passed m y u)
        ]

    -- a step
    cut_step : (world : World) (u : State) (y : Went) → y ≡ Stops Cut u → FinalCut (unasked limit c run y world)
    cut_step world u y q = (record { how = Cut; dyn = dyn_of u world }, refl, ap (λ z. unasked limit c run z world) q ∙ offs (record { how = Cut; dyn = dyn_of u world }))

    either_left : (world : World) (w : Went) (f : ℕ → Went) (y : Went) → ((i : ℕ) → FinalBound (unasked limit c run w world) (unasked limit c run (f i) world)) → (((i : ℕ) × (y ≡ f i)) ⊎ ((u : State) × (y ≡ Stops Cut u))) → FinalBound (unasked limit c run w world) (unasked limit c run y world)
    either_left world w f y like (inl g) = subst (λ z. FinalBound (unasked limit c run w world) (unasked limit c run z world)) (sym g.1) (like g.0)
    either_left world w f y like (inr g) = cut_final (unasked limit c run w world) (unasked limit c run (f 0) world) (unasked limit c run y world) (like 0) (cut_step world g.0 y g.1)

    ended_left : (world : World) → Ordered world → (x : Stop) (t : State) → x ≢ Cut → t.left ≡ None → (i : ℕ) → FinalBound (run (off x (dyn_of t world))) (run (off x (dyn_of (with_left t (Some i)) world)))
    ended_left world o x t ne e i = runs (off x (dyn_of t world)) (off x (dyn_of (with_left t (Some i)) world)) (off_left x t.waiting (raw_of t world) i ne e o)

    unasked_left : (world : World) → Ordered world → (w y : Went) → Bounded w y → FinalBound (unasked limit c run w world) (unasked limit c run y world)
    unasked_left world o (Goes t) y h = either_left world (Goes t) (λ i. Goes (with_left t (Some i))) y (λ i. runs (On (record { state = t; world = world })) (On (record { state = with_left t (Some i); world = world })) (h.0, o, inl (i, refl))) h.1
    unasked_left world o (Stops (Asks q) t) y h = either_left world (Stops (Asks q) t) (λ i. Stops (Asks q) (with_left t (Some i))) y (λ i. inl refl) h.2
    unasked_left world o (Stops (Constructs q) t) y h = either_left world (Stops (Constructs q) t) (λ i. Stops (Constructs q) (with_left t (Some i))) y (λ i. runs (Forks q (record { state = t; world = world })) (Forks q (record { state = with_left t (Some i); world = world })) (h.1, o, inl (i, refl))) h.2
    unasked_left world o (Stops (Done v) t) y h = either_left world (Stops (Done v) t) (λ i. Stops (Done v) (with_left t (Some i))) y (λ i. ended_left world o (Done v) t h.0 h.1 i) h.2
    unasked_left world o (Stops (Left l) t) y h = either_left world (Stops (Left l) t) (λ i. Stops (Left l) (with_left t (Some i))) y (λ i. ended_left world o (Left l) t h.0 h.1 i) h.2
    unasked_left world o (Stops Spent t) y h = either_left world (Stops Spent t) (λ i. Stops Spent (with_left t (Some i))) y (λ i. ended_left world o Spent t h.0 h.1 i) h.2
    unasked_left world o (Stops Cut t) y h = absurd (h.0 refl)
    unasked_left world o (Stops Stuck t) y h = either_left world (Stops Stuck t) (λ i. Stops Stuck (with_left t (Some i))) y (λ i. ended_left world o Stuck t h.0 h.1 i) h.2
    unasked_left world o (Stops Astray t) y h = either_left world (Stops Astray t) (λ i. Stops Astray (with_left t (Some i))) y (λ i. ended_left world o Astray t h.0 h.1 i) h.2

    step_left : (p : Path) (j : ℕ) → p.state.left ≡ None → Ordered p.world → FinalBound (unasked limit c run (step limit c p.state) p.world) (unasked limit c run (step limit c (with_left p.state (Some j))) p.world)
    step_left p j e o = unasked_left p.world o (step limit c p.state) (step limit c (with_left p.state (Some j))) (subst (λ s. Bounded (step limit c s) (step limit c (with_left p.state (Some j)))) same (steps_bounded limit c p.state j)) where
      same : with_left p.state None ≡ p.state
      same = λ i. with_left p.state (sym e i)

    cut_silent : (y : Step) → StepCut y → FinalCut (silent limit c run y)
    cut_silent y u = (u.0, u.1, ap (silent limit c run) u.2)

    silent_left : (x y : Step) → StepBound x y → FinalBound (silent limit c run x) (silent limit c run y)
    silent_left (Off e) y h = (
      h.0,
      h.1,
      h.2,
      elim h.3 as (λ _. ((i : ℕ) × (silent limit c run y ≡ Some (final_left e (Some i)))) ⊎ FinalCut (silent limit c run y)) [
        | inl g ↦ inl (g.0, ap (silent limit c run) g.1)
        | inr u ↦ inr (cut_silent y u)
      ],
    )
    silent_left (On p) y h =
        let like = λ (k : ℕ). step_left p k h.0 h.1 in
        elim h.2 as (λ _. FinalBound (silent limit c run (On p)) (silent limit c run y)) [
          | inl g ↦ subst (λ z. FinalBound (silent limit c run (On p)) (silent limit c run z)) (sym g.1) (like g.0)
          | inr u ↦ cut_final (silent limit c run (On p)) (silent limit c run (On (path_left p (Some 0)))) (silent limit c run y) (like 0) (cut_silent y u)
        ]
    silent_left (Forks q p) y h =
        let like = λ (k : ℕ). passed_left (fork c run q p) (fork c run q (path_left p (Some k))) p k (site_left (slice_get c.sites q.site) q p k h.0 h.1) in
        elim h.2 as (λ _. FinalBound (silent limit c run (Forks q p)) (silent limit c run y)) [
          | inl g ↦ subst (λ z. FinalBound (silent limit c run (Forks q p)) (silent limit c run z)) (sym g.1) (like g.0)
          | inr u ↦ cut_final (silent limit c run (Forks q p)) (silent limit c run (Forks q (path_left p (Some 0)))) (silent limit c run y) (like 0) (cut_silent y u)
        ]

  silently_off : (n : ℕ) (e : Final) → silently limit c n (Off e) ≡ Some e
  silently_off zero e = refl
  silently_off (suc n) e = refl

  pub silently_bounded : (n : ℕ) (x y : Step) → StepBound x y → FinalBound (silently limit c n x) (silently limit c n y)
  silently_bounded zero (Off e) y h = (
    h.0,
    h.1,
    h.2,
    elim h.3 as (λ _. ((i : ℕ) × (halted limit c y ≡ Some (final_left e (Some i)))) ⊎ FinalCut (halted limit c y)) [
      | inl g ↦ inl (g.0, ap (halted limit c) g.1)
      | inr u ↦ inr (u.0, u.1, ap (halted limit c) u.2)
    ],
  )
  silently_bounded zero (On p) y h = elim h.2 as (λ _. FinalBound None (halted limit c y)) [ inl g ↦ inl (ap (halted limit c) g.1) | inr u ↦ inr (u.0, u.1, ap (halted limit c) u.2) ]
  silently_bounded zero (Forks q p) y h = elim h.2 as (λ _. FinalBound None (halted limit c y)) [ inl g ↦ inl (ap (halted limit c) g.1) | inr u ↦ inr (u.0, u.1, ap (halted limit c) u.2) ]
  silently_bounded (suc n) x y h = silent_left (silently limit c n) (λ e. silently_off n e) (λ x y h. silently_bounded n x y h) x y h

-- from the beginning: without a bound it isn't cut, and with one it comes in as many steps to the same end, or is cut
pub path_bounded : (limit : ℕ) (c : Code) (n j : ℕ) (p : Path) → p.state.left ≡ None → Ordered p.world → FinalBound (silently limit c n (On p)) (silently limit c n (On (path_left p (Some j))))
path_bounded limit c n j p e o = silently_bounded limit c n (On p) (On (path_left p (Some j))) (e, o, inl (j, refl))
