-- Threads of loops over ranges do what those of the stored run do.
use Rattle.std.proofs.Common.{◌≡◌, ℕ, zero, suc, ◌+◌, ◌-◌, ◌<◌, ◌≤◌, ℤ, pos, ◌+ℤ◌, int_le, List, [], ◌∷◌, ◌++◌, slice_get, nat_eq, Option, Some, None, Err, Bool, true, false, cond, refl, sym, ap, ◌∙◌, subst, arith}
use Rattle.std.proofs.lemmas.Int.{ints}
use Rattle.behaviours.specs.Doings.{through}
use Rattle.ada_base.specs.Notes.{InOrder}
use Rattle.behaviours.specs.Joins.{Share}
use Rattle.behaviours.specs.Paths as paths
use Rattle.typed_tree.specs.Syntax.{Expr, Program}
use Rattle.ada_meaning.specs.Values
use Rattle.ada_meaning.specs.Stored as stored
use Rattle.ada_meaning.specs.Stored.{Stored, Touch}
use Rattle.ada_meaning.specs.Meaning.{Env, Passed, Returned}
use Rattle.ada_meaning.proofs.Cells.{get_right}
use Rattle.stack_code.specs.declared.code.Code.{Code}
use Rattle.stack_code.specs.declared.code.CodeSite.{CodeSite}
use Rattle.stack_code.specs.declared.instr.Instr.TheVariants as i
use Rattle.stack_code.specs.declared.path.Asked.{Asked}
use Rattle.ada_base.specs.Cells.{Cell, Mine, zeros}
use Rattle.stack_code.specs.Deeds.{GoesOn}
use Rattle.behaviours.specs.Paths.{Entity}
use Rattle.ada_lower.specs.Driven.{Dyn, Fixed, Step, on, off, span_cells, thread_cells, At, Alike}
use Rattle.ada_lower.specs.Sights.{Emit, Named, Sight, Stands, looped, one, taking, thread_sight, when_, ◌⨟◌}
use Rattle.ada_lower.specs.Fits.{Keeps, Ghost, Fit, Allows, Knows, Stands as StandsFor}
use Rattle.ada_lower.proofs.Forks.{threaded, thread_ends, framed, done_so, ThreadDoes}
use Rattle.ada_lower.specs.Emission.{turns_code}
use Rattle.ada_lower.proofs.Inner.{InnerDo}
use Rattle.ada_lower.proofs.Framework.{any, Doing, comes_on, comes_as, comes_goes, does_ret, does_before}
use Rattle.ada_lower.proofs.Memory.{set_what, what_same, what_other, knows_keep}
use Rattle.ada_lower.proofs.Standing.{stands_assoc3, stands_seq, stands_when, stands_looped}
use Rattle.ada_lower.proofs.Parts.{Runs, truth_same, does_to, does_weak}
use Rattle.ada_lower.proofs.Names.{does_by}
use Rattle.ada_lower.proofs.Loops.{counts_at, first_at, last_at, counted_does}
use Rattle.ada_lower.proofs.Courses.{fit_uncount, knows_counts, le_deed, truth_bit, comes_kept}
use Rattle.ada_lower.proofs.ForkFrames.{frame_ghost, fit_framed, fit_known, fit_unframed, frame_below, frame_allows, mine_thread, length_thread, knows_threaded}

-- what is kept stands for no cell
pub keeps_allows : (g : Ghost) (a : ℕ) (v : ℤ) (ts : List Touch) → Allows g ts → Allows (set_what a (Keeps v) g) ts
keeps_allows g a v [] al = tt
keeps_allows g a v (t ∷ ts) al = (λ b x e. al.0 b x (go b x (nat_eq a b) e), keeps_allows g a v ts al.1)
  where
    go : (b : ℕ) (x : _) (y : Bool) → cond y (Keeps v) (g.what b) ≡ StandsFor x t.place → g.what b ≡ StandsFor x t.place
    go b x true e = absurd (let z : Keeps v ≡ StandsFor x t.place = e in cc)
    go b x false e = e

-- the first and the last number of a thread's turns
abbrev pub first_of : ℤ → ℕ → ℤ
first_of u zero = pos 1
first_of u (suc n) = u

abbrev pub last_of : ℤ → ℕ → ℤ
last_of u zero = pos 0
last_of u (suc n) = u +ℤ pos n

span_first : (u : ℤ) (n : ℕ) (xs : List Cell) → slice_get (span_cells u n xs) 0 ≡ Some (Mine (first_of u n))
span_first u zero xs = refl
span_first u (suc n) xs = refl

span_last : (u : ℤ) (n : ℕ) (xs : List Cell) → slice_get (span_cells u n xs) 1 ≡ Some (Mine (last_of u n))
span_last u zero xs = refl
span_last u (suc n) xs = refl

module _ (limit : ℕ) (cuts : ℕ → ℕ → List ℕ) (program : Program) (c : Code) (f : Fixed) (calls : ℕ → ℕ → Stored (Unit {0}) → List Passed → Stored Returned) (globals : ℕ → Entity → Option Named) (mains : Entity → Bool) (epar : Sight → Expr → Type 0) (calls_all : (f' : Fixed) → Alike f' f → InnerDo limit cuts program globals mains epar c f' calls) where
  module _ (g : Ghost) (s : Sight) (env : Env) (kn : Knows limit cuts g f s env) (site : ℕ) (cs : CodeSite) (four : 4 ≤ cs.frame) (q : Asked) (j : Share) where
    abbrev pub f1 : Fixed
    f1 = threaded f g.top

    abbrev pub chunk_value : ℤ
    chunk_value = q.chunk +ℤ pos j.number

    -- with its chunk value and its initial value
    abbrev pub base_ghost : Ghost
    base_ghost = set_what (g.top + 1) (Keeps q.initial) (set_what (g.top + 0) (Keeps chunk_value) (frame_ghost g cs.frame))

    -- and with the numbers of its turns
    abbrev pub turns_ghost : Ghost
    turns_ghost = counts_at limit cuts c f1 thread_ends 2 (first_of (q.first +ℤ pos j.first) j.size) (last_of (q.first +ℤ pos j.first) j.size) base_ghost

    abbrev t : Sight
    t = thread_sight site cs.frame s

    pub knows_base : Knows limit cuts base_ghost f1 (taking 1 (taking 1 t)) env
    knows_base = knows_keep q.initial (omega (arith, four)) (knows_keep chunk_value (omega (arith, four)) (knows_threaded cs.frame kn site))

    abbrev frame_cells : List Cell
    frame_cells = thread_cells cs.frame q j

    pub enters_so : (st : stored.State) (d : Dyn) → st.notes ≡ InOrder → Fit g st d → Fit turns_ghost st (framed cs q j d)
    enters_so st d order w =
        let w0 : Fit (frame_ghost g cs.frame) st (framed cs q j d) = subst (λ n. Fit (frame_ghost g n) st (framed cs q j d)) (length_thread cs.frame q j four) (fit_framed frame_cells (mine_thread cs.frame q j) order w) in
        fit_known (g.top + (2 + 1)) (last_of u j.size) (cell 3 (Mine (last_of u j.size)) (span_last u j.size (zeros (cs.frame - 4))))
        (fit_known (g.top + 2) (first_of u j.size) (cell 2 (Mine (first_of u j.size)) (span_first u j.size (zeros (cs.frame - 4))))
        (fit_known (g.top + 1) q.initial (cell 1 (Mine q.initial) refl)
        (fit_known (g.top + 0) chunk_value (cell 0 (Mine chunk_value) refl) w0)))
      where
        u : ℤ
        u = q.first +ℤ pos j.first

        cell : (i : ℕ) (z : Cell) → slice_get frame_cells i ≡ Some z → slice_get (d.cells ++ frame_cells) (g.top + i) ≡ Some z
        cell i z e = ap (λ n. slice_get (d.cells ++ frame_cells) (n + i)) (sym w.top) ∙ get_right d.cells frame_cells i ∙ e

    pub base_below : (a : ℕ) → a < g.top → base_ghost.what a ≡ g.what a
    base_below a lt =
        what_other (set_what (g.top + 0) (Keeps chunk_value) (frame_ghost g cs.frame)) (g.top + 1) a (Keeps q.initial) (λ e. omega (arith, e, lt))
        ∙ what_other (frame_ghost g cs.frame) (g.top + 0) a (Keeps chunk_value) (λ e. omega (arith, e, lt))
        ∙ frame_below g cs.frame a lt

    pub leaves_so : (st : stored.State) (d : Dyn) → Fit base_ghost st d → Fit g st (Rattle.ada_lower.specs.Driven.cut_to g.top d)
    leaves_so st d w = fit_unframed cs.frame kn.beyond refl (refl, refl) refl refl refl refl (refl, refl) base_below w

    pub allows_so : (ts : List Touch) → Allows g ts → Allows turns_ghost ts
    allows_so ts al =
        let u : ℤ = q.first +ℤ pos j.first in
        keeps_allows (set_what (g.top + 2) (Keeps (first_of u j.size)) base_ghost) (g.top + (2 + 1)) (last_of u j.size) ts
        (keeps_allows base_ghost (g.top + 2) (first_of u j.size) ts
        (keeps_allows (set_what (g.top + 0) (Keeps chunk_value) (frame_ghost g cs.frame)) (g.top + 1) q.initial ts
        (keeps_allows (frame_ghost g cs.frame) (g.top + 0) chunk_value ts (frame_allows g cs.frame ts al))))

    -- ---- turns

    abbrev pub first_value : ℤ
    first_value = q.first +ℤ pos j.first

    -- the ghost of a turn
    abbrev pub turn_ghost : ℕ → Ghost
    turn_ghost k = counts_at limit cuts c f1 thread_ends 2 (q.first +ℤ pos k) (last_of first_value j.size) base_ghost

    pub free_again : (st : stored.State) (d : Dyn) (u v : ℤ) → Fit (counts_at limit cuts c f1 thread_ends 2 u v base_ghost) st d → Fit base_ghost st d
    free_again st d u v w = fit_uncount limit cuts c f1 (taking 1 (taking 1 t)) u v (omega (arith, four)) knows_base st d w

    pub knows_turn : (k : ℕ) → Knows limit cuts (turn_ghost k) f1 (taking 2 (taking 1 (taking 1 t))) env
    knows_turn k = knows_counts limit cuts c f1 (taking 1 (taking 1 t)) (q.first +ℤ pos k) (last_of first_value j.size) (omega (arith, four)) knows_base

    pub knows_turns : Knows limit cuts turns_ghost f1 (taking 2 (taking 1 (taking 1 t))) env
    knows_turns = knows_counts limit cuts c f1 (taking 1 (taking 1 t)) (first_of first_value j.size) (last_of first_value j.size) (omega (arith, four)) knows_base

    pub first_kept : (k : ℕ) → (turn_ghost k).what (g.top + 2) ≡ Keeps (q.first +ℤ pos k)
    first_kept k = first_at limit cuts c f1 thread_ends 2 (q.first +ℤ pos k) (last_of first_value j.size) base_ghost

    pub chunk_kept : (k : ℕ) → (turn_ghost k).what (g.top + 0) ≡ Keeps chunk_value
    chunk_kept k =
        what_other (set_what (g.top + 2) (Keeps (q.first +ℤ pos k)) base_ghost) (g.top + (2 + 1)) (g.top + 0) (Keeps (last_of first_value j.size)) (λ e. omega (arith, e))
        ∙ what_other base_ghost (g.top + 2) (g.top + 0) (Keeps (q.first +ℤ pos k)) (λ e. omega (arith, e))
        ∙ what_other (set_what (g.top + 0) (Keeps chunk_value) (frame_ghost g cs.frame)) (g.top + 1) (g.top + 0) (Keeps q.initial) (λ e. omega (arith, e))
        ∙ what_same (frame_ghost g cs.frame) (g.top + 0) (Keeps chunk_value)

    le_more : (u : ℤ) (m : ℕ) → int_le u (u +ℤ pos m) ≡ true
    le_more u m = go (int_le u (u +ℤ pos m)) refl
      where
        go : (b : Bool) → int_le u (u +ℤ pos m) ≡ b → int_le u (u +ℤ pos m) ≡ true
        go true e = e
        go false e = absurd (omega (arith, ints, e))

    -- code that goes through the turns of a thread, with what goes from turn to turn on the stack
    pub turns_does : {A : Type 0} (stack : A → List ℤ) (t1 : Sight) (h : ℕ) (body : Emit) (from to : ℕ) (turn : ℕ → A → Stored A) → t1.scope.entry ≡ None → Stands c (turns_code t1.scope h 2 body) from to
        → ((k : ℕ) (a : A) (head mid : ℕ) → Stands c (body) head mid → Runs limit c f1 thread_ends (turn_ghost k) any (turn k a) (λ d. on f1 head (stack a) d) (λ b d. on f1 mid (stack b) d))
        → (a : A) → Doing limit c f1 thread_ends turns_ghost base_ghost any (through stored.doings j.first j.size a turn) (λ d. on f1 from (stack a) d) (λ b d. on f1 to (stack b) d)
    turns_does {A} stack t1 h body from to turn en l step a =
        let (j1, (j2, (j3, r))) = stands_assoc3 c from to (one t1.scope h (i.LoadL 2)) (one t1.scope (h + 1) (i.LoadL 3)) (one t1.scope (h + 1 + 1) i.Le) (when_ t1.scope h (looped t1.scope h true (λ exit. body) (λ head. one t1.scope h (i.Next 2 3 head)))) l in
        let (test, lp) = stands_when c (from + 1 + 1 + 1) to t1 h (looped t1.scope h true (λ exit. body) (λ head. one t1.scope h (i.Next 2 3 head))) r in
        let U : ℤ = first_of first_value j.size in
        let V : ℤ = last_of first_value j.size in
        does_by limit c f1 thread_ends (λ st d w. comes_on limit c (comes_kept limit cuts c f1 2 U (stack a) d w (first_at limit cuts c f1 thread_ends 2 U V base_ghost) j1)
        (comes_on limit c (comes_kept limit cuts c f1 3 V (U ∷ stack a) d w (last_at limit cuts c f1 thread_ends 2 U V base_ghost) j2)
        (comes_goes limit c f1 (V ∷ U ∷ stack a) (from + 1 + 1 + 1) (Values.bit (int_le U V) ∷ stack a) d j3 (le_deed limit cuts c f1 (from + 1 + 1) U V (stack a ++ f1.below)))))
        (go j.size step test lp)
      where
        go : (n : ℕ)
            → ((k : ℕ) (a : A) (head mid : ℕ) → Stands c (body) head mid → Runs limit c f1 thread_ends (counts_at limit cuts c f1 thread_ends 2 (q.first +ℤ pos k) (last_of first_value n) base_ghost) any (turn k a) (λ d. on f1 head (stack a) d) (λ b d. on f1 mid (stack b) d))
            → At c (from + 1 + 1 + 1) (i.JFalse to) t1.scope.entry → Stands c (looped t1.scope h true (λ exit. body) (λ head. one t1.scope h (i.Next 2 3 head))) (from + 1 + 1 + 1 + 1) to
            → Doing limit c f1 thread_ends (counts_at limit cuts c f1 thread_ends 2 (first_of first_value n) (last_of first_value n) base_ghost) base_ghost any (through stored.doings j.first n a turn) (λ d. on f1 (from + 1 + 1 + 1) (Values.bit (int_le (first_of first_value n) (last_of first_value n)) ∷ stack a) d) (λ b d. on f1 to (stack b) d)
        go zero step test lp =
            does_before limit c f1 thread_ends (λ d. comes_goes limit c f1 (pos 0 ∷ stack a) to (stack a) d test refl)
            (does_weak limit c f1 thread_ends (λ st d w. free_again st d (pos 1) (pos 0) w) (does_ret limit c f1 thread_ends {to = λ b d. on f1 to (stack b) d} a tt))
        go (suc m) step test lp =
            let o = stands_looped c (from + 1 + 1 + 1 + 1) to t1 h true (λ exit. body) (λ head. one t1.scope h (i.Next 2 3 head)) lp in
            does_before limit c f1 thread_ends (λ d. comes_on limit c
            (comes_goes limit c f1 (Values.bit (int_le first_value (first_value +ℤ pos m)) ∷ stack a) (from + 1 + 1 + 1 + 1) (stack a) d test
            (ap (λ b. GoesOn (cond b (from + 1 + 1 + 1 + 1) to) (stack a ++ f1.below)) (truth_same (Values.bit (int_le first_value (first_value +ℤ pos m))) ∙ (truth_bit limit cuts c f1 (int_le first_value (first_value +ℤ pos m)) ∙ le_more first_value m))))
            (comes_goes limit c f1 (stack a) (from + 1 + 1 + 1 + 1 + 1 + 1) (stack a) d o.enter refl))
            (subst (λ z. Doing limit c f1 thread_ends (counts_at limit cuts c f1 thread_ends 2 first_value (first_value +ℤ pos m) base_ghost) base_ghost any (through stored.doings j.first (suc m) a turn) (λ d. on f1 (from + 1 + 1 + 1 + 1 + 1 + 1) (stack a) d) (λ b d. on f1 z (stack b) d)) (sym o.back.1)
            (counted_does limit cuts c f1 thread_ends stack false 2 (from + 1 + 1 + 1 + 1 + 1 + 1) o.mid q.first (first_value +ℤ pos m) turn o.back.0 free_again
            (λ k b. step k b (from + 1 + 1 + 1 + 1 + 1 + 1) o.mid o.turn) m j.first a refl))

    -- a thread of a loop, and one of a reduction
    module _ (may : paths.Leave → Type 0) (t1 : Sight) (body : Emit) (en : t1.scope.entry ≡ None) where
      pub loop_thread : (to : ℕ) (turn : ℕ → Unit {0} → Stored (Unit {0})) → Stands c (turns_code t1.scope 0 2 body ⨟ one t1.scope 0 i.End) cs.entry to
          → ((k : ℕ) (a : Unit {0}) (head mid : ℕ) → Stands c (body) head mid → Runs limit c f1 thread_ends (turn_ghost k) any (turn k a) (λ d. on f1 head [] d) (λ b d. on f1 mid [] d))
          → ((st : stored.State) (l : paths.Leave) → ((through stored.doings j.first j.size tt turn).does st).end ≡ Err (stored.Left l) → may l)
          → ThreadDoes limit c may g f cs q (λ a. None) j (through stored.doings j.first j.size tt turn)
      loop_thread to turn l step ml =
          let (m, l1, (at, z)) = stands_seq c cs.entry to (turns_code t1.scope 0 2 body) (one t1.scope 0 i.End) l in
          record {
            ghost = turns_ghost;
            after = base_ghost;
            ordered = refl;
            enters = enters_so;
            leaves = leaves_so;
            allows = allows_so;
            may_leave = ml;
            does = does_to limit c f1 thread_ends (done_so {A = Unit {0}} (λ a. None)) (λ a d u. comes_as limit c f1 [] d at refl) (turns_does (λ a. []) t1 0 body cs.entry m turn en l1 step tt);
          }

      initial_kept : turns_ghost.what (f1.base + 1) ≡ Keeps q.initial
      initial_kept =
          let U : ℤ = first_of first_value j.size in
          let V : ℤ = last_of first_value j.size in
          what_other (set_what (g.top + 2) (Keeps U) base_ghost) (g.top + (2 + 1)) (g.top + 1) (Keeps V) (λ e. omega (arith, e))
          ∙ what_other base_ghost (g.top + 2) (g.top + 1) (Keeps U) (λ e. omega (arith, e))
          ∙ what_same (set_what (g.top + 0) (Keeps chunk_value) (frame_ghost g cs.frame)) (g.top + 1) (Keeps q.initial)

      pub fold_thread : (to : ℕ) (turn : ℕ → ℤ → Stored ℤ) → Stands c (one t1.scope 0 (i.LoadL 1) ⨟ turns_code t1.scope 1 2 body ⨟ one t1.scope 1 i.EndV) cs.entry to
          → ((k : ℕ) (a : ℤ) (head mid : ℕ) → Stands c (body) head mid → Runs limit c f1 thread_ends (turn_ghost k) any (turn k a) (λ d. on f1 head (a ∷ []) d) (λ b d. on f1 mid (b ∷ []) d))
          → ((st : stored.State) (l : paths.Leave) → ((through stored.doings j.first j.size q.initial turn).does st).end ≡ Err (stored.Left l) → may l)
          → ThreadDoes limit c may g f cs q (λ a. Some a) j (through stored.doings j.first j.size q.initial turn)
      fold_thread to turn (at0, l0) step ml =
          let (m, l1, (at, z)) = stands_seq c (cs.entry + 1) to (turns_code t1.scope 1 2 body) (one t1.scope 1 i.EndV) l0 in
          record {
            ghost = turns_ghost;
            after = base_ghost;
            ordered = refl;
            enters = enters_so;
            leaves = leaves_so;
            allows = allows_so;
            may_leave = ml;
            does = does_by limit c f1 thread_ends (λ st d w. comes_kept limit cuts c f1 1 q.initial [] d w initial_kept at0)
                (does_to limit c f1 thread_ends (done_so {A = ℤ} (λ a. Some a)) (λ a d u. comes_as limit c f1 (a ∷ []) d at refl) (turns_does (λ a. a ∷ []) t1 1 body (cs.entry + 1) m turn en l1 step q.initial));
          }
