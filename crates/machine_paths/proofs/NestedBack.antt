-- A path that runs the constructs in it in order and that on the memory touches no more than its view lets it, isn't stuck on
-- its view.
use Rattle.std.proofs.Common.{◌≡◌, ℕ, zero, suc, ◌-◌, ◌<◌, ◌≤◌, ℤ, pos, Bool, true, false, List, [], ◌∷◌, ◌++◌, length, take, Option, Some, None, Result, Ok, Err, arith, refl, sym, ◌∙◌, subst}
use Rattle.std.specs.Prelude.{max, slice_get, ◌+ℤ◌}
use Rattle.behaviours.specs.Joins.{Share, deal}
use Rattle.ada_base.specs.Notes.{Schedule, InOrder, ByNotes}
use Rattle.stack_code.specs.declared.code.Code.{Code}
use Rattle.stack_code.specs.declared.code.CodeSite.{CodeSite}
use Rattle.stack_code.specs.declared.path.Asked.{Asked}
use Rattle.stack_code.specs.declared.path.Gave.{Gave}
use Rattle.ada_base.specs.Cells.{Cell, Mine, zeros}
use Rattle.stack_code.specs.Machine.{Frame, State, Stop, Done, Left, Spent, Cut, Asks, Constructs, Stuck, Astray, Went, Goes, Stops, resumed, step}
use Rattle.ada_lower.specs.Driven.{World, Dyn, Path, Final, Step, On, Off, Forks, Forked, clip, cut_to, dyn_of, raw_of, span_cells, thread_cells, sizes_for, with_turns, thread_ended, thread_went, in_order, by_notes, gathered, thread_at, answer_of, answering, with_answer, at_site, fork, with_dyn, fork_end, after_fork, off}
use Rattle.machine_paths.specs.Silent.{unasked, silently}
use Rattle.cell_memory.specs.Sight.{is_mine}
use Rattle.ada_workers.specs.Paths.{Covers}
use Rattle.machine_paths.specs.Alike.{at, Kept, with_memory, Chain, NotStuck, Alike}
use Rattle.machine_paths.specs.Touched.{Touch, AllAllowed, step_touches, Own, GoesWell}
use Rattle.machine_paths.specs.Nesting.{dyn_with, path_with, HowNotStuck, Ordered, PathAlike, StepAlike, FinalAlike, ForkedAlike}
use Rattle.machine_paths.specs.Touching.{stop_touches, next_touches, order_touches, noted_touches, site_touches, after_touches, unasked_touches, silent_touches, FinalWell, FinalOwn, ForkedWell, ForkedOwn, StepOwn}
use Rattle.machine_paths.proofs.Frames.{kept_more, kept_take, steps_alike}
use Rattle.machine_paths.proofs.Back.{Well, own_more, own_take, step_back, both}
use Rattle.machine_paths.proofs.Nested.{after_alike, resumed_alike, thread_own, site_alike, silently_off, silently_alike}

-- ---- a thread's own cells
abbrev AllMine : List Cell → Type 0
AllMine us = (i : ℕ) → i < length us → is_mine (at us i) ≡ true

mine_more : (v : ℤ) (us : List Cell) → AllMine us → AllMine (Mine v ∷ us)
mine_more v us o zero lt = refl
mine_more v us o (suc i) lt = o i (omega (arith, lt))

span_mine : (first : ℤ) (n : ℕ) (us : List Cell) → AllMine us → AllMine (span_cells first n us)
span_mine first zero us o = mine_more (pos 1) (Mine (pos 0) ∷ us) (mine_more (pos 0) us o)
span_mine first (suc n) us o = mine_more first (Mine (first +ℤ pos n) ∷ us) (mine_more (first +ℤ pos n) us o)

zeros_all : (n : ℕ) → AllMine (zeros n)
zeros_all zero i lt = absurd (omega (arith, lt))
zeros_all (suc n) zero lt = refl
zeros_all (suc n) (suc i) lt = zeros_all n i (omega (arith, lt))

thread_mine : (frame : ℕ) (q : Asked) (j : Share) → AllMine (thread_cells frame q j)
thread_mine frame q j =
    let us = span_cells (q.first +ℤ pos j.first) j.size (zeros (frame - 4)) in
    mine_more (q.chunk +ℤ pos j.number) (Mine q.initial ∷ us) (mine_more q.initial us (span_mine (q.first +ℤ pos j.first) j.size (zeros (frame - 4)) (zeros_all (frame - 4))))

module _ (b : ℕ) where
  clip_own : (fs : List Frame) (d : Dyn) → Own b d.cells → Own b (clip fs d).cells
  clip_own [] d o = o
  clip_own (f ∷ fs) d o = clip_own fs (cut_to f.top d) (own_take b d.cells f.top o)

  resumed_own : (c : Code) (g : Gave) (s : State) → Own b s.cells → Own b (resumed c g s).cells
  resumed_own c g s o = subst (λ cs. Own b cs) (sym (after_alike (slice_get c.instrs s.pc) g s []).1) o

module _ (b : ℕ) (vs ms : List Cell) (limit : ℕ) (c : Code) (run : Step → Option Final) (offs : (e : Final) → run (Off e) ≡ Some e) (touches : Step → List Touch)
    (runs : (x y : Step) → StepAlike b vs ms x y → FinalAlike b vs ms (run x) (run y))
    (backs : (x y : Step) → StepAlike b vs ms x y → StepOwn b x → AllAllowed b vs (touches y) → FinalWell (run y) → FinalOwn b (run x)) where
  -- what goes on well was well
  well_step : (w : Went) (world : World) → FinalWell (unasked limit c run w world) → GoesWell w
  well_step (Goes t) world h = tt
  well_step (Stops (Asks q) t) world h = tt
  well_step (Stops (Constructs q) t) world h = tt
  well_step (Stops (Done v) t) world h = tt
  well_step (Stops (Left l) t) world h = tt
  well_step (Stops Spent t) world h = tt
  well_step (Stops Cut t) world h = tt
  well_step (Stops Stuck t) world h = subst FinalWell (offs (record { how = Stuck; dyn = dyn_of t world })) h
  well_step (Stops Astray t) world h = tt

  well_fork : (z : Option Forked) (p : Path) → FinalWell (after_fork limit c z p run) → ForkedWell z
  well_fork None p h = tt
  well_fork (Some e) p h = by_how e.how e.dyn h where
    by_how : (r : Result Gave Stop) (d : Dyn) → FinalWell (run (fork_end c r d p.state)) → HowNotStuck r
    by_how (Ok g) d h = tt
    by_how (Err x) d h = subst FinalWell (offs (record { how = x; dyn = clip p.state.waiting d })) h

  well_answering : (f : Gave → Gave) (z : Option Forked) → ForkedWell (answering c f z) → ForkedWell z
  well_answering f None h = tt
  well_answering f (Some e) h = by_how e.how h where
    by_how : (r : Result Gave Stop) → HowNotStuck (with_answer c f r) → HowNotStuck r
    by_how (Ok g) h = tt
    by_how (Err x) h = h

  own_answering : (f : Gave → Gave) (z : Option Forked) → ForkedOwn b z → ForkedOwn b (answering c f z)
  own_answering f None h = tt
  own_answering f (Some e) h = (by_how e.how h.0, h.1) where
    by_how : (r : Result Gave Stop) → HowNotStuck r → HowNotStuck (with_answer c f r)
    by_how (Ok g) h = tt
    by_how (Err x) h = h

  -- ---- a construct in order
  module _ (site : CodeSite) (q : Asked) (p : Path) (top : ℕ) (le : b ≤ top) where
    abbrev begins : Dyn → Share → Path
    begins d j = thread_at c top site q p d j

    abbrev order : ℕ → List Share → Dyn → ℕ → Bool → List ℤ → Option Forked
    order from js d most over us = in_order run begins top from js d most over us

    abbrev cells_of : ℕ → List Share → Dyn → List Touch
    cells_of from js d = order_touches run touches begins top from js d

    abbrev Rest : ℕ → List Share → Type 0
    Rest from js = (d : Dyn) (ns : List Cell) (most : ℕ) (over : Bool) (us : List ℤ) → Kept b vs ms d.cells ns → Ordered d.world → Own b d.cells → AllAllowed b vs (cells_of from js (dyn_with d ns)) → ForkedWell (order from js (dyn_with d ns) most over us) → ForkedOwn b (order from js d most over us)

    abbrev ends : ℕ → List Share → ℕ → Bool → List ℤ → Stop → Dyn → Option Forked
    ends from js most over us x d = thread_ended run begins top (λ d m o us. order from js d m o us) most over us x d

    abbrev went : ℕ → List Share → ℕ → Bool → List ℤ → Option Final → Option Forked
    went from js most over us x = thread_went run begins top (λ d m o us. order from js d m o us) most over us x

    by_stop : (from : ℕ) (js : List Share) → Rest from js → (most : ℕ) (over : Bool) (us : List ℤ) (x : Stop) (d : Dyn) (ns : List Cell) → NotStuck x → Kept b vs ms d.cells ns → Ordered d.world → Own b d.cells →
        AllAllowed b vs (stop_touches run touches (λ d. cells_of from js d) x (dyn_with d ns)) → ForkedWell (ends from js most over us x (dyn_with d ns)) → ForkedOwn b (ends from js most over us x d)
    by_stop from js rest most over us (Done v) d ns n k o w a h = rest d ns (max most d.turns) over (gathered us v) k o w a h
    by_stop from js rest most over us Spent d ns n k o w a h = rest d ns (max most d.turns) true us k o w a h
    by_stop from js rest most over us (Left l) d ns n k o w a h = (tt, w)
    by_stop from js rest most over us Cut d ns n k o w a h = (tt, w)
    by_stop from js rest most over us (Asks i) d ns n k o w a h = (tt, w)
    by_stop from js rest most over us (Constructs i) d ns n k o w a h = (tt, w)
    by_stop from js rest most over us Stuck d ns n k o w a h = absurd n
    by_stop from js rest most over us Astray d ns n k o w a h = (tt, w)

    well_thread : (from : ℕ) (js : List Share) (most : ℕ) (over : Bool) (us : List ℤ) (z : Option Final) → ForkedWell (went from js most over us z) → FinalWell z
    well_thread from js most over us None h = tt
    well_thread from js most over us (Some e) h = by_how e.how (cut_to top e.dyn) h where
      by_how : (x : Stop) (d : Dyn) → ForkedWell (ends from js most over us x d) → NotStuck x
      by_how (Done v) d h = tt
      by_how Spent d h = tt
      by_how (Left l) d h = tt
      by_how Cut d h = tt
      by_how (Asks i) d h = tt
      by_how (Constructs i) d h = tt
      by_how Stuck d h = h
      by_how Astray d h = tt

    by_run : (from : ℕ) (js : List Share) → Rest from js → (most : ℕ) (over : Bool) (us : List ℤ) (x y : Option Final) → FinalAlike b vs ms x y → FinalOwn b x →
        AllAllowed b vs (next_touches run touches top (λ d. cells_of from js d) y) → ForkedWell (went from js most over us y) → ForkedOwn b (went from js most over us x)
    by_run from js rest most over us None y k w a h = tt
    by_run from js rest most over us (Some e) y k w a h =
        let g = k w.0 in
        by_stop from js rest most over us e.how (cut_to top e.dyn) (take top g.0) w.0 (kept_take b vs ms e.dyn.cells g.0 top le g.2) g.3 (own_take b e.dyn.cells top w.1)
        (subst (λ z. AllAllowed b vs (next_touches run touches top (λ d. cells_of from js d) z)) g.1 a) (subst (λ z. ForkedWell (went from js most over us z)) g.1 h)

    order_back : (from : ℕ) (js : List Share) → Rest from js
    order_back from [] d ns most over us k o w a h = (h, w)
    order_back from (j ∷ js) d ns most over us k o w a h =
        let own = thread_cells site.frame q j in
        let x = On (begins (with_turns from d) j) in
        let y = On (begins (with_turns from (dyn_with d ns)) j) in
        let like : StepAlike b vs ms x y = (ns ++ own, refl, (kept_more b vs ms d.cells ns own (thread_own site.frame q j) k, tt, o)) in
        let ts = both b vs ms (touches y) (next_touches run touches top (λ d. cells_of from js d) (run y)) a in
        by_run from js (λ d ns m v us. order_back from js d ns m v us) most over us (run x) (run y) (runs x y like)
        (backs x y like (own_more b d.cells own (thread_mine site.frame q j) w) ts.0 (well_thread from js most over us (run y) h)) ts.1 h

    noted_back : (n : Schedule) (js : List Share) (d : Dyn) (ns : List Cell) → n ≡ InOrder → Kept b vs ms d.cells ns → Ordered d.world → Own b d.cells → AllAllowed b vs (noted_touches run touches begins top n js (dyn_with d ns)) →
        ForkedWell (by_notes run begins top n js (dyn_with d ns)) → ForkedOwn b (by_notes run begins top n js d)
    noted_back InOrder js d ns e k o w a h = order_back d.turns js d ns d.turns false [] k o w a h
    noted_back (ByNotes cs) js d ns e k o w a h = absurd (no e) where
      no : ByNotes cs ≡ InOrder → ⊥
      no e = cc

  site_back : (o : Option CodeSite) (q : Asked) (p : Path) (ns : List Cell) → PathAlike b vs ms p ns → Own b p.state.cells → AllAllowed b vs (site_touches run touches c o q (path_with p ns)) → ForkedWell (at_site c o run q (path_with p ns)) → ForkedOwn b (at_site c o run q p)
  site_back None q p ns a w t h = (tt, w)
  site_back (Some site) q p ns a w t h =
      let js = deal 0 0 (sizes_for p.world.plan site.kind q) in
      let d = raw_of (with_memory p.state ns) p.world in
      own_answering (answer_of c site.kind q) (by_notes run (thread_at c (length p.state.cells) site q p) (length p.state.cells) p.world.notes js (raw_of p.state p.world))
      (noted_back site q p (length p.state.cells) a.0.long p.world.notes js (raw_of p.state p.world) ns a.2 a.0 a.2 w
      (subst (λ i. AllAllowed b vs (noted_touches run touches (thread_at c i site q p) i p.world.notes js d)) a.0.covers.0 t)
      (subst (λ i. ForkedWell (by_notes run (thread_at c i site q p) i p.world.notes js d)) a.0.covers.0
      (well_answering (answer_of c site.kind q) (by_notes run (thread_at c (length ns) site q (path_with p ns)) (length ns) p.world.notes js d) h)))

  -- the path goes on
  by_end : (s : State) (ns : List Cell) → Chain b s.waiting → (r : Result Gave Stop) (d : Dyn) (us : List Cell) → HowNotStuck r → Kept b vs ms d.cells us → Ordered d.world → Own b d.cells →
      AllAllowed b vs (touches (fork_end c r (dyn_with d us) (with_memory s ns))) → FinalWell (run (fork_end c r (dyn_with d us) (with_memory s ns))) → FinalOwn b (run (fork_end c r d s))
  by_end s ns f (Ok g) d us n k o w a h =
      backs (fork_end c (Ok g) d s) (fork_end c (Ok g) (dyn_with d us) s) (resumed_alike b vs ms c g (with_dyn c d s) us d.world k f o) (resumed_own b c g (with_dyn c d s) w) a h
  by_end s ns f (Err x) d us n k o w a h = subst (λ z. FinalOwn b z) (sym (offs (record { how = x; dyn = clip s.waiting d }))) (n, clip_own b s.waiting d w)

  passed_back : (x y : Option Forked) (p : Path) (ns : List Cell) → PathAlike b vs ms p ns → ForkedAlike b vs ms x y → ForkedOwn b x → AllAllowed b vs (after_touches run touches c y (path_with p ns)) →
      FinalWell (after_fork limit c y (path_with p ns) run) → FinalOwn b (after_fork limit c x p run)
  passed_back None y p ns l k w a h = tt
  passed_back (Some e) y p ns l k w a h =
      let g = k w.0 in
      by_end p.state ns l.1 e.how e.dyn g.0 w.0 g.2 g.3 w.1
      (subst (λ z. AllAllowed b vs (after_touches run touches c z (path_with p ns))) g.1 a) (subst (λ z. FinalWell (after_fork limit c z (path_with p ns) run)) g.1 h)

  stops_on : (world : World) (x : Stop) → NotStuck x → (t : State) → ((z : State) → unasked limit c run (Stops x z) world ≡ run (off x (dyn_of z world))) → Own b t.cells → FinalOwn b (unasked limit c run (Stops x t) world)
  stops_on world x n t e o = subst (λ z. FinalOwn b z) (sym (e t ∙ offs (record { how = x; dyn = dyn_of t world }))) (n, clip_own b t.waiting (raw_of t world) o)

  unasked_on : (world : World) → Ordered world → (w y : Went) → Alike b vs ms w y → Well b w → AllAllowed b vs (unasked_touches limit c touches y world) → FinalWell (unasked limit c run y world) → FinalOwn b (unasked limit c run w world)
  unasked_on world o (Goes t) y l v a h =
      backs (On (record { state = t; world = world })) (On (record { state = with_memory t l.1.0; world = world })) (l.1.0, refl, (l.1.2, l.0, o)) v.1
      (subst (λ z. AllAllowed b vs (unasked_touches limit c touches z world)) l.1.1 a) (subst (λ z. FinalWell (unasked limit c run z world)) l.1.1 h)
  unasked_on world o (Stops (Asks q) t) y l v a h = tt
  unasked_on world o (Stops (Constructs q) t) y l v a h =
      let g = l tt in
      backs (Forks q (record { state = t; world = world })) (Forks q (record { state = with_memory t g.0; world = world })) (g.0, refl, (g.2, g.3, o)) v.1
      (subst (λ z. AllAllowed b vs (unasked_touches limit c touches z world)) g.1 a) (subst (λ z. FinalWell (unasked limit c run z world)) g.1 h)
  unasked_on world o (Stops (Done x) t) y l v a h = stops_on world (Done x) tt t (λ z. refl) v.1
  unasked_on world o (Stops (Left x) t) y l v a h = stops_on world (Left x) tt t (λ z. refl) v.1
  unasked_on world o (Stops Spent t) y l v a h = stops_on world Spent tt t (λ z. refl) v.1
  unasked_on world o (Stops Cut t) y l v a h = stops_on world Cut tt t (λ z. refl) v.1
  unasked_on world o (Stops Stuck t) y l v a h = absurd v.0
  unasked_on world o (Stops Astray t) y l v a h = stops_on world Astray tt t (λ z. refl) v.1

  step_on : (p : Path) (ns : List Cell) → PathAlike b vs ms p ns → Own b p.state.cells → AllAllowed b vs (step_touches limit c (with_memory p.state ns) ++ unasked_touches limit c touches (step limit c (with_memory p.state ns)) p.world) →
      FinalWell (unasked limit c run (step limit c (with_memory p.state ns)) p.world) → FinalOwn b (unasked limit c run (step limit c p.state) p.world)
  step_on p ns l w a h =
      let m = with_memory p.state ns in
      let ts = both b vs ms (step_touches limit c m) (unasked_touches limit c touches (step limit c m) p.world) a in
      let v = step_back b vs ms limit c p.state ns l.0 w ts.0 (well_step (step limit c m) p.world h) in
      unasked_on p.world l.2 (step limit c p.state) (step limit c m) (steps_alike b vs ms limit c p.state ns l.0 l.1) v ts.1 h

  fork_on : (q : Asked) (p : Path) (ns : List Cell) → PathAlike b vs ms p ns → Own b p.state.cells →
      AllAllowed b vs (site_touches run touches c (slice_get c.sites q.site) q (path_with p ns) ++ after_touches run touches c (fork c run q (path_with p ns)) (path_with p ns)) →
      FinalWell (after_fork limit c (fork c run q (path_with p ns)) (path_with p ns) run) → FinalOwn b (after_fork limit c (fork c run q p) p run)
  fork_on q p ns l w a h =
      let m = path_with p ns in
      let ts = both b vs ms (site_touches run touches c (slice_get c.sites q.site) q m) (after_touches run touches c (fork c run q m) m) a in
      passed_back (fork c run q p) (fork c run q m) p ns l (site_alike b vs ms limit c run offs runs (slice_get c.sites q.site) q p ns l)
      (site_back (slice_get c.sites q.site) q p ns l w ts.0 (well_fork (fork c run q m) m h)) ts.1 h

pub silently_back : (b : ℕ) (vs ms : List Cell) (limit : ℕ) (c : Code) (n : ℕ) (x y : Step) → StepAlike b vs ms x y → StepOwn b x → AllAllowed b vs (silent_touches limit c n y) → FinalWell (silently limit c n y) → FinalOwn b (silently limit c n x)
silently_back b vs ms limit c zero (Off e) y l w a h = w
silently_back b vs ms limit c zero (On p) y l w a h = tt
silently_back b vs ms limit c zero (Forks q p) y l w a h = tt
silently_back b vs ms limit c (suc n) (Off e) y l w a h = w
silently_back b vs ms limit c (suc n) (On p) y l w a h =
    step_on b vs ms limit c (silently limit c n) (λ e. silently_off b vs ms limit c n e) (λ z. silent_touches limit c n z) (λ x y h. silently_alike b vs ms limit c n x y h) (λ x y l w a h. silently_back b vs ms limit c n x y l w a h) p l.0 l.2 w
    (subst (λ z. AllAllowed b vs (silent_touches limit c (suc n) z)) l.1 a) (subst (λ z. FinalWell (silently limit c (suc n) z)) l.1 h)
silently_back b vs ms limit c (suc n) (Forks q p) y l w a h =
    fork_on b vs ms limit c (silently limit c n) (λ e. silently_off b vs ms limit c n e) (λ z. silent_touches limit c n z) (λ x y h. silently_alike b vs ms limit c n x y h) (λ x y l w a h. silently_back b vs ms limit c n x y l w a h) q p l.0 l.2 w
    (subst (λ z. AllAllowed b vs (silent_touches limit c (suc n) z)) l.1 a) (subst (λ z. FinalWell (silently limit c (suc n) z)) l.1 h)

-- from the beginning: what goes well on a memory that shows what the view has, and touches there of the first b cells no more than
-- the view lets it, goes well on the view, and so (path_on_memory) to the same end
pub path_on_view : (limit : ℕ) (c : Code) (n b : ℕ) (p : Path) (ms : List Cell) → b ≤ length p.state.cells → Covers ms p.state.cells → Chain b p.state.waiting → Ordered p.world → Own b p.state.cells →
    AllAllowed b p.state.cells (silent_touches limit c n (On (path_with p ms))) → FinalWell (silently limit c n (On (path_with p ms))) → FinalWell (silently limit c n (On p))
path_on_view limit c n b p ms le cov f o w a h =
    well_of (silently limit c n (On p)) (silently_back b p.state.cells ms limit c n (On p) (On (path_with p ms))
    (ms, refl, (record { long = le; kinds = λ x h. refl; view = λ x h f. refl; memory = λ x h f. refl; covers = cov }, f, o)) w a h) where
      well_of : (z : Option Final) → FinalOwn b z → FinalWell z
      well_of None v = tt
      well_of (Some e) v = v.0
