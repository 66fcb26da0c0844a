-- A path that runs the constructs in it in order and isn't stuck on its view is the same on a memory that shows what the view
-- has.
use Rattle.std.proofs.Common.{◌≡◌, ℕ, zero, suc, ◌-◌, ◌≤◌, ℤ, pos, Bool, true, false, List, [], ◌∷◌, ◌++◌, length, take, Option, Some, None, Result, Ok, Err, refl, sym, ◌∙◌, ap, subst}
use Rattle.std.specs.Prelude.{max, slice_get, ◌+ℤ◌}
use Rattle.behaviours.specs.Joins.{Share, deal}
use Rattle.ada_base.specs.Notes.{Schedule, InOrder, ByNotes}
use Rattle.stack_code.specs.declared.code.Code.{Code}
use Rattle.stack_code.specs.declared.code.CodeSite.{CodeSite}
use Rattle.stack_code.specs.declared.instr.Instr.{Instr}
use Rattle.stack_code.specs.declared.instr.Instr.TheVariants as instr
use Rattle.stack_code.specs.declared.path.Asked.{Asked}
use Rattle.stack_code.specs.declared.path.Gave.{Gave}
use Rattle.stack_code.specs.declared.path.Gave.TheVariants as gave
use Rattle.stack_code.specs.declared.path.Leave.TheVariants.{Exit as Exits, Return as Returns, Raise as Raises}
use Rattle.ada_base.specs.Cells.{Cell, Mine, zeros}
use Rattle.stack_code.specs.Machine.{Frame, State, Stop, Done, Left, Spent, Cut, Asks, Constructs, Stuck, Astray, Went, Goes, Stops, after, resumed, step}
use Rattle.ada_lower.specs.Driven.{World, Dyn, Path, Final, Step, On, Off, Forks, Forked, clip, cut_to, off, dyn_of, raw_of, span_cells, thread_cells, sizes_for, with_turns, thread_ended, thread_went, in_order, by_notes, gathered, thread_at, answer_of, answering, with_answer, at_site, fork, with_dyn, fork_end, after_fork, halted}
use Rattle.ada_workers.specs.Paths.{Shows, Covers}
use Rattle.machine_paths.specs.Alike.{at, Kept, with_memory, Chain, NotStuck, Alike}
use Rattle.machine_paths.specs.Silent.{unasked, silent, silently}
use Rattle.machine_paths.specs.Nesting.{dyn_with, path_with, HowNotStuck, Ordered, PathAlike, StepAlike, FinalAlike, ForkedAlike}
use Rattle.machine_paths.proofs.Frames.{kept_more, kept_take, zeros_kind, steps_alike}

-- ---- a path goes on with an answer
abbrev pub Resumes : State → List Cell → State → State → Type 0
Resumes s ns r t = (t ≡ with_memory r ns) × (r.cells ≡ s.cells) × (r.waiting ≡ s.waiting)

pub after_alike : (i : Option Instr) (g : Gave) (s : State) (ns : List Cell) → Resumes s ns (after i g s) (after i g (with_memory s ns))
after_alike (Some (instr.Fork site)) gave.Nothing s ns = (refl, refl, refl)
after_alike (Some (instr.Fork site)) (gave.Numbers []) s ns = (refl, refl, refl)
after_alike (Some (instr.Fork site)) (gave.Numbers (v ∷ vs)) s ns = (refl, refl, refl)
after_alike (Some (instr.Fork site)) (gave.Left (Raises r)) s ns = (refl, refl, refl)
after_alike (Some (instr.Fork site)) (gave.Left (Exits n)) s ns = (refl, refl, refl)
after_alike (Some (instr.Fork site)) (gave.Left (Returns None)) s ns = (refl, refl, refl)
after_alike (Some (instr.Fork site)) (gave.Left (Returns (Some v))) s ns = (refl, refl, refl)
after_alike (Some instr.Get) gave.Nothing s ns = (refl, refl, refl)
after_alike (Some instr.Get) (gave.Numbers []) s ns = (refl, refl, refl)
after_alike (Some instr.Get) (gave.Numbers (v ∷ [])) s ns = (refl, refl, refl)
after_alike (Some instr.Get) (gave.Numbers (v ∷ w ∷ vs)) s ns = (refl, refl, refl)
after_alike (Some instr.Get) (gave.Left (Raises r)) s ns = (refl, refl, refl)
after_alike (Some instr.Get) (gave.Left (Exits n)) s ns = (refl, refl, refl)
after_alike (Some instr.Get) (gave.Left (Returns v)) s ns = (refl, refl, refl)
after_alike _ g s ns = (refl, refl, refl)

-- ---- a thread's own cells
abbrev pub Shown : List Cell → Type 0
Shown us = (i : ℕ) → Shows (at us i) (at us i)

own_more : (v : ℤ) (us : List Cell) → Shown us → Shown (Mine v ∷ us)
own_more v us o zero = refl
own_more v us o (suc i) = o i

span_own : (first : ℤ) (n : ℕ) (us : List Cell) → Shown us → Shown (span_cells first n us)
span_own first zero us o = own_more (pos 1) (Mine (pos 0) ∷ us) (own_more (pos 0) us o)
span_own first (suc n) us o = own_more first (Mine (first +ℤ pos n) ∷ us) (own_more (first +ℤ pos n) us o)

pub thread_own : (frame : ℕ) (q : Asked) (j : Share) → Shown (thread_cells frame q j)
thread_own frame q j =
    let us = span_cells (q.first +ℤ pos j.first) j.size (zeros (frame - 4)) in
    own_more (q.chunk +ℤ pos j.number) (Mine q.initial ∷ us) (own_more q.initial us (span_own (q.first +ℤ pos j.first) j.size (zeros (frame - 4)) (zeros_kind 0 [] [] (frame - 4))))

module _ (b : ℕ) (vs ms : List Cell) where
  -- ---- the cells of calls are cut off
  pub clip_alike : (fs : List Frame) (d : Dyn) (ns : List Cell) → Chain b fs → Kept b vs ms d.cells ns → Ordered d.world → (us : List Cell) × (clip fs (dyn_with d ns) ≡ dyn_with (clip fs d) us) × Kept b vs ms (clip fs d).cells us × Ordered (clip fs d).world
  clip_alike [] d ns c k o = (ns, refl, k, o)
  clip_alike (f ∷ fs) d ns c k o = clip_alike fs (cut_to f.top d) (take f.top ns) c.1 (kept_take b vs ms d.cells ns f.top c.0 k) o

  off_alike : (x : Stop) (fs : List Frame) (d : Dyn) (ns : List Cell) → Chain b fs → Kept b vs ms d.cells ns → Ordered d.world → StepAlike b vs ms (off x (clip fs d)) (off x (clip fs (dyn_with d ns)))
  off_alike x fs d ns c k o = λ g. let r = clip_alike fs d ns c k o in (r.0, ap (off x) r.1, r.2, r.3)

  pub resumed_alike : (c : Code) (g : Gave) (s : State) (ns : List Cell) (w : World) → Kept b vs ms s.cells ns → Chain b s.waiting → Ordered w →
      StepAlike b vs ms (On (record { state = resumed c g s; world = w })) (On (record { state = resumed c g (with_memory s ns); world = w }))
  resumed_alike c g s ns w k h o =
      let r = after_alike (slice_get c.instrs s.pc) g s ns in
      (ns, ap (λ t. On (record { state = t; world = w })) r.0, (subst (λ cs. Kept b vs ms cs ns) (sym r.1) k, subst (λ fs. Chain b fs) (sym r.2) h, o))

  -- ---- a construct in order
  module _ (limit : ℕ) (c : Code) (run : Step → Option Final) (offs : (e : Final) → run (Off e) ≡ Some e) (runs : (x y : Step) → StepAlike b vs ms x y → FinalAlike b vs ms (run x) (run y)) where
    module _ (site : CodeSite) (q : Asked) (p : Path) (top : ℕ) (le : b ≤ top) where
      abbrev begins : Dyn → Share → Path
      begins d j = thread_at c top site q p d j

      abbrev order : ℕ → List Share → Dyn → ℕ → Bool → List ℤ → Option Forked
      order from js d most over us = in_order run begins top from js d most over us

      abbrev Rest : ℕ → List Share → Type 0
      Rest from js = (d : Dyn) (ns : List Cell) (most : ℕ) (over : Bool) (us : List ℤ) → Kept b vs ms d.cells ns → Ordered d.world → ForkedAlike b vs ms (order from js d most over us) (order from js (dyn_with d ns) most over us)

      abbrev ends : ℕ → List Share → ℕ → Bool → List ℤ → Stop → Dyn → Option Forked
      ends from js most over us x d = thread_ended run begins top (λ d m o us. order from js d m o us) most over us x d

      by_stop : (from : ℕ) (js : List Share) → Rest from js → (most : ℕ) (over : Bool) (us : List ℤ) (x : Stop) (d : Dyn) (z : Option Forked)
          → (NotStuck x → (ns : List Cell) × (z ≡ ends from js most over us x (dyn_with d ns)) × Kept b vs ms d.cells ns × Ordered d.world) → ForkedAlike b vs ms (ends from js most over us x d) z
      by_stop from js rest most over us (Done v) d z h = let g = h tt in
          subst (λ y. ForkedAlike b vs ms (ends from js most over us (Done v) d) y) (sym g.1) (rest d g.0 (max most d.turns) over (gathered us v) g.2 g.3)
      by_stop from js rest most over us Spent d z h = let g = h tt in
          subst (λ y. ForkedAlike b vs ms (ends from js most over us Spent d) y) (sym g.1) (rest d g.0 (max most d.turns) true us g.2 g.3)
      by_stop from js rest most over us (Left l) d z h = λ i. h tt
      by_stop from js rest most over us Cut d z h = h
      by_stop from js rest most over us (Asks a) d z h = h
      by_stop from js rest most over us (Constructs a) d z h = h
      by_stop from js rest most over us Stuck d z h = h
      by_stop from js rest most over us Astray d z h = h

      by_run : (from : ℕ) (js : List Share) → Rest from js → (most : ℕ) (over : Bool) (us : List ℤ) (x y : Option Final) → FinalAlike b vs ms x y →
          ForkedAlike b vs ms (thread_went run begins top (λ d m o us. order from js d m o us) most over us x) (thread_went run begins top (λ d m o us. order from js d m o us) most over us y)
      by_run from js rest most over us None y h = ap (thread_went run begins top (λ d m o us. order from js d m o us) most over us) h
      by_run from js rest most over us (Some e) y h =
          by_stop from js rest most over us e.how (cut_to top e.dyn) (thread_went run begins top (λ d m o us. order from js d m o us) most over us y)
          (λ i. let g = h i in (take top g.0, ap (thread_went run begins top (λ d m o us. order from js d m o us) most over us) g.1, kept_take b vs ms e.dyn.cells g.0 top le g.2, g.3))

      order_alike : (from : ℕ) (js : List Share) → Rest from js
      order_alike from [] d ns most over us k o = λ i. (ns, refl, k, o)
      order_alike from (j ∷ js) d ns most over us k o =
          let own = thread_cells site.frame q j in
          by_run from js (λ d ns m v us. order_alike from js d ns m v us) most over us (run (On (begins (with_turns from d) j))) (run (On (begins (with_turns from (dyn_with d ns)) j)))
          (runs (On (begins (with_turns from d) j)) (On (begins (with_turns from (dyn_with d ns)) j))
          (ns ++ own, refl, (kept_more b vs ms d.cells ns own (thread_own site.frame q j) k, tt, o)))

      noted_alike : (n : Schedule) (js : List Share) (d : Dyn) (ns : List Cell) → n ≡ InOrder → Kept b vs ms d.cells ns → Ordered d.world →
          ForkedAlike b vs ms (by_notes run begins top n js d) (by_notes run begins top n js (dyn_with d ns))
      noted_alike InOrder js d ns e k o = order_alike d.turns js d ns d.turns false [] k o
      noted_alike (ByNotes cs) js d ns e k o = absurd (no e) where
        no : ByNotes cs ≡ InOrder → ⊥
        no e = cc

    answering_alike : (f : Gave → Gave) (x y : Option Forked) → ForkedAlike b vs ms x y → ForkedAlike b vs ms (answering c f x) (answering c f y)
    answering_alike f None y h = ap (answering c f) h
    answering_alike f (Some e) y h = λ i. let g = h (by_how e.how i) in (g.0, ap (answering c f) g.1, g.2, g.3) where
      by_how : (r : Result Gave Stop) → HowNotStuck (with_answer c f r) → HowNotStuck r
      by_how (Ok g) i = tt
      by_how (Err x) i = i

    pub site_alike : (o : Option CodeSite) (q : Asked) (p : Path) (ns : List Cell) → PathAlike b vs ms p ns → ForkedAlike b vs ms (at_site c o run q p) (at_site c o run q (path_with p ns))
    site_alike None q p ns a = λ i. (ns, refl, a.0, a.2)
    site_alike (Some site) q p ns a =
        let js = deal 0 0 (sizes_for p.world.plan site.kind q) in
        answering_alike (answer_of c site.kind q) (by_notes run (thread_at c (length p.state.cells) site q p) (length p.state.cells) p.world.notes js (raw_of p.state p.world))
        (by_notes run (thread_at c (length ns) site q (path_with p ns)) (length ns) p.world.notes js (raw_of (with_memory p.state ns) p.world))
        (subst (λ i. ForkedAlike b vs ms (by_notes run (thread_at c (length p.state.cells) site q p) (length p.state.cells) p.world.notes js (raw_of p.state p.world))
        (by_notes run (thread_at c i site q p) i p.world.notes js (raw_of (with_memory p.state ns) p.world)))
        (sym a.0.covers.0)
        (noted_alike site q p (length p.state.cells) a.0.long p.world.notes js (raw_of p.state p.world) ns a.2 a.0 a.2))

    -- the path goes on
    by_end : (s : State) → Chain b s.waiting → (h : Result Gave Stop) (d : Dyn) (z : Option Final) → (HowNotStuck h → (ns : List Cell) × (z ≡ run (fork_end c h (dyn_with d ns) s)) × Kept b vs ms d.cells ns × Ordered d.world) →
        FinalAlike b vs ms (run (fork_end c h d s)) z
    by_end s w (Ok g) d z h = let r = h tt in
        subst (λ y. FinalAlike b vs ms (run (fork_end c (Ok g) d s)) y) (sym r.1)
        (runs (fork_end c (Ok g) d s) (fork_end c (Ok g) (dyn_with d r.0) s) (resumed_alike c g (with_dyn c d s) r.0 d.world r.2 w r.3))
    by_end s w (Err x) d z h = subst (λ y. FinalAlike b vs ms y z) (sym (offs (record { how = x; dyn = clip s.waiting d })))
        (λ i. let r = h i in let u = clip_alike s.waiting d r.0 w r.2 r.3 in
        (u.0, r.1 ∙ offs (record { how = x; dyn = clip s.waiting (dyn_with d r.0) }) ∙ ap (λ y. Some (record { how = x; dyn = y })) u.1, u.2, u.3))

    same_end : (h : Result Gave Stop) (d : Dyn) (s : State) (ns : List Cell) → fork_end c h d (with_memory s ns) ≡ fork_end c h d s
    same_end (Ok g) d s ns = refl
    same_end (Err x) d s ns = refl

    passed_alike : (x y : Option Forked) (p : Path) (ns : List Cell) → PathAlike b vs ms p ns → ForkedAlike b vs ms x y → FinalAlike b vs ms (after_fork limit c x p run) (after_fork limit c y (path_with p ns) run)
    passed_alike None y p ns a h = ap (λ z. after_fork limit c z (path_with p ns) run) h
    passed_alike (Some e) y p ns a h =
        by_end p.state a.1 e.how e.dyn (after_fork limit c y (path_with p ns) run) (λ i. let g = h i in (g.0, ap (λ z. after_fork limit c z (path_with p ns) run) g.1 ∙ ap run (same_end e.how (dyn_with e.dyn g.0) p.state ns), g.2, g.3))

    -- a step
    stops_by : (world : World) → Ordered world → (x : Stop) → NotStuck x → (t : State) (y : Went) → ((z : State) → unasked limit c run (Stops x z) world ≡ run (off x (dyn_of z world))) → Alike b vs ms (Stops x t) y → FinalAlike b vs ms (unasked limit c run (Stops x t) world) (unasked limit c run y world)
    stops_by world o x n t y e h =
        let g = h n in let r = clip_alike t.waiting (raw_of t world) g.0 g.3 g.2 o in
        subst (λ z. FinalAlike b vs ms z (unasked limit c run y world)) (sym (e t))
        (subst (λ z. FinalAlike b vs ms (run (off x (dyn_of t world))) z) (sym (ap (λ z. unasked limit c run z world) g.1 ∙ e (with_memory t g.0) ∙ ap (λ d. run (off x d)) r.1))
        (runs (off x (dyn_of t world)) (off x (dyn_with (dyn_of t world) r.0)) (λ i. (r.0, refl, r.2, r.3))))

    unasked_alike : (world : World) → Ordered world → (w y : Went) → Alike b vs ms w y → FinalAlike b vs ms (unasked limit c run w world) (unasked limit c run y world)
    unasked_alike world o (Goes t) y h = subst (λ z. FinalAlike b vs ms (unasked limit c run (Goes t) world) (unasked limit c run z world)) (sym h.1.1)
        (runs (On (record { state = t; world = world })) (On (record { state = with_memory t h.1.0; world = world })) (h.1.0, refl, (h.1.2, h.0, o)))
    unasked_alike world o (Stops (Asks q) t) y h = ap (λ z. unasked limit c run z world) (h tt).1
    unasked_alike world o (Stops (Constructs q) t) y h = let g = h tt in subst (λ z. FinalAlike b vs ms (unasked limit c run (Stops (Constructs q) t) world) (unasked limit c run z world)) (sym g.1)
        (runs (Forks q (record { state = t; world = world })) (Forks q (record { state = with_memory t g.0; world = world })) (g.0, refl, (g.2, g.3, o)))
    unasked_alike world o (Stops (Done v) t) y h = stops_by world o (Done v) tt t y (λ z. refl) h
    unasked_alike world o (Stops (Left l) t) y h = stops_by world o (Left l) tt t y (λ z. refl) h
    unasked_alike world o (Stops Spent t) y h = stops_by world o Spent tt t y (λ z. refl) h
    unasked_alike world o (Stops Cut t) y h = stops_by world o Cut tt t y (λ z. refl) h
    unasked_alike world o (Stops Stuck t) y h = subst (λ z. FinalAlike b vs ms z (unasked limit c run y world)) (sym (offs (record { how = Stuck; dyn = dyn_of t world }))) (λ q. absurd q)
    unasked_alike world o (Stops Astray t) y h = stops_by world o Astray tt t y (λ z. refl) h

    silent_alike : (x y : Step) → StepAlike b vs ms x y → FinalAlike b vs ms (silent limit c run x) (silent limit c run y)
    silent_alike (Off e) y h = λ i. let g = h i in (g.0, ap (silent limit c run) g.1, g.2, g.3)
    silent_alike (On p) y h = subst (λ z. FinalAlike b vs ms (unasked limit c run (step limit c p.state) p.world) (silent limit c run z)) (sym h.1)
        (unasked_alike p.world h.2.2 (step limit c p.state) (step limit c (with_memory p.state h.0)) (steps_alike b vs ms limit c p.state h.0 h.2.0 h.2.1))
    silent_alike (Forks q p) y h = subst (λ z. FinalAlike b vs ms (after_fork limit c (fork c run q p) p run) (silent limit c run z)) (sym h.1)
        (passed_alike (fork c run q p) (fork c run q (path_with p h.0)) p h.0 h.2 (site_alike (slice_get c.sites q.site) q p h.0 h.2))

  pub silently_off : (limit : ℕ) (c : Code) (n : ℕ) (e : Final) → silently limit c n (Off e) ≡ Some e
  silently_off limit c zero e = refl
  silently_off limit c (suc n) e = refl

  pub silently_alike : (limit : ℕ) (c : Code) (n : ℕ) (x y : Step) → StepAlike b vs ms x y → FinalAlike b vs ms (silently limit c n x) (silently limit c n y)
  silently_alike limit c zero (Off e) y h = λ i. let g = h i in (g.0, ap (halted limit c) g.1, g.2, g.3)
  silently_alike limit c zero (On p) y h = ap (halted limit c) h.1
  silently_alike limit c zero (Forks q p) y h = ap (halted limit c) h.1
  silently_alike limit c (suc n) x y h = silent_alike limit c (silently limit c n) (λ e. silently_off limit c n e) (λ x y h. silently_alike limit c n x y h) x y h

-- from the beginning: a path that isn't stuck on its view comes on a memory that shows what the view has to the same end, in as
-- many steps; and of the first b cells what the view may write is the same in both, the others are as before
pub path_on_memory : (limit : ℕ) (c : Code) (n b : ℕ) (p : Path) (ms : List Cell) → b ≤ length p.state.cells → Covers ms p.state.cells → Chain b p.state.waiting → Ordered p.world →
    FinalAlike b p.state.cells ms (silently limit c n (On p)) (silently limit c n (On (path_with p ms)))
path_on_memory limit c n b p ms le cov w o =
    silently_alike b p.state.cells ms limit c n (On p) (On (path_with p ms))
    (ms, refl, (record { long = le; kinds = λ x h. refl; view = λ x h f. refl; memory = λ x h f. refl; covers = cov }, w, o))
