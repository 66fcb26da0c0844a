-- Calls: a body in a frame of its own.
use Rattle.std.proofs.Common.{◌≡◌, ℕ, zero, suc, ◌+◌, ◌-◌, ◌<◌, ◌≤◌, ℤ, pos, List, [], ◌∷◌, ◌++◌, length, take, drop, slice_get, nat_lt, Option, Some, None, Result, Ok, Err, Bool, true, false, ◌&&◌, cond, refl, sym, ap, ap₂, ◌∙◌, subst, arith, inl, ltb-true, ltb-false, length-append, append_assoc}
use Rattle.std.proofs.Math.Seq.{drop-append_seam}
use Rattle.ada_base.specs.declared.reason.Reason.{Reason}
use Rattle.ada_base.specs.declared.reason.Reason.TheVariants as reason
use Rattle.behaviours.specs.Paths.{Exits, Returns, Raises, Entity}
use Rattle.ada_meaning.specs.Stored as stored
use Rattle.ada_meaning.specs.Stored.{Stored, Cause, Left, OutOfTurns, NoRoom, CutOff, Misnoted}
use Rattle.ada_meaning.specs.Meaning.{Env, Passed, Returned}
use Rattle.ada_meaning.specs.Operations.{RangeCheck}
use Rattle.ada_meaning.proofs.Cells.{get_left, get_right, get_take}
use Rattle.stack_code.specs.declared.code.Code.{Code}
use Rattle.stack_code.specs.Valid.{IsCountable}
use Rattle.stack_code.specs.declared.instr.Instr.{Instr}
use Rattle.stack_code.specs.declared.instr.Instr.TheVariants as i
use Rattle.ada_base.specs.Cells.{Mine, zeros}
use Rattle.stack_code.specs.declared.code.CodeSub.{CodeSub}
use Rattle.stack_code.specs.Deeds.{bit, called_at, truth}
use Rattle.stack_code.specs.Machine.{Frame, State, Went, cut, done, entering_at, turned}
use Rattle.ada_lower.specs.Driven.{Dyn, Fixed, Step, On, on, state_of, driven, thrown, cut_to, At}
use Rattle.ada_lower.specs.Sights.{Named, Sight}
use Rattle.ada_lower.specs.Fits.{What, Other, Free, Right, Ghost, Fit, Ends, Knows, Stands as StandsFor}
use Rattle.ada_lower.proofs.Framework.{To, comes_as, comes_thrown, led, leads_on}
use Rattle.ada_lower.proofs.Memory.{right_same}
use Rattle.ada_lower.proofs.Parts.{Fewer, allows_fewer}
use Rattle.ada_lower.proofs.Declared.{get_of}
use Rattle.ada_lower.specs.Fitted.{Callable, spots}
use Rattle.ada_lower.specs.Emission.{shapes, shapes_cells}
use Rattle.ada_lower.proofs.Scattered.{AreFree, scattering}
use Rattle.ada_lower.proofs.Sent.{Sent, all_passed, pieces, aheads, AreSuited, Backs, Also, LandsAlso}
use Rattle.typed_tree.specs.declared.scalars.Scalar.{Scalar}
use Rattle.typed_tree.specs.Syntax.{Program}

-- what waits for a call at an instruction, which goes on at another, with these operands and that top; and the frame of the
-- call, from a cell on
abbrev pub waiter : Fixed → (at to top : ℕ) → Frame
waiter f q to top = record { at = q; to = to; floor = length f.below; base = f.base; nest = f.nest; kept = f.kept; rounds = f.rounds; top = top }

abbrev pub inner : Fixed → (at to cell : ℕ) → List ℤ → ℕ → Fixed
inner f q to n st top = record { below = st ++ f.below; nest = 0; kept = []; rounds = []; base = f.base + n; outward = f.outward; waiting = waiter f q to top ∷ f.waiting; calls = f.calls + 1; nested = f.nested; asked = f.asked }

-- with cells up to there
abbrev pub grown : ℕ → Dyn → Dyn
grown top d = record d { cells = d.cells ++ zeros (top - length d.cells) }

-- the ghost of a call: what the caller has, and free cells behind it
abbrev pub within_call : ℕ → Ghost → Ghost
within_call top g = record g { frame = g.frame + 1; top = g.top + (top - g.top); what = λ a. cond (nat_lt a g.top) (g.what a) (cond (nat_lt a (g.top + (top - g.top))) Free Other) }

-- ---- lists

get_none : {A : Type 0} (xs : List A) (a : ℕ) → length xs ≤ a → slice_get xs a ≡ None
get_none [] a le = refl
get_none (x ∷ xs) zero le = absurd (omega (arith, le))
get_none (x ∷ xs) (suc a) le = get_none xs a (omega (arith, le))

get_zeros : (n a : ℕ) → a < n → slice_get (zeros n) a ≡ Some (Mine (pos 0))
get_zeros zero a lt = absurd (omega arith)
get_zeros (suc n) zero lt = refl
get_zeros (suc n) (suc a) lt = get_zeros n a (omega (arith, lt))

length_zeros : (n : ℕ) → length (zeros n) ≡ n
length_zeros zero = refl
length_zeros (suc n) = ap suc (length_zeros n)

length_take : {A : Type 0} (n : ℕ) (xs : List A) → n ≤ length xs → length (take n xs) ≡ n
length_take zero xs le = refl
length_take (suc n) [] le = absurd (omega (arith, le))
length_take (suc n) (x ∷ xs) le = ap suc (length_take n xs (omega (arith, le)))

-- ---- fits

-- where a call begins
fit_grown : {g : Ghost} {s : stored.State} {d : Dyn} (top : ℕ) → Fit g s d → Fit (within_call top g) (record s { frame = s.frame + 1 }) (grown top d)
fit_grown {g} {s} {d} top w =
    let e = w.top in
    record {
      here = w.here;
      everywhere = w.everywhere;
      declared = w.declared;
      frame = ap (λ n. n + 1) w.frame;
      top = (let z : length (d.cells ++ zeros (top - length d.cells)) ≡ length d.cells + (top - length d.cells) = length-append d.cells (zeros (top - length d.cells)) ∙ ap (λ n. length d.cells + n) (length_zeros (top - length d.cells)) in z ∙ ap (λ n. n + (top - n)) e);
      least = w.least;
      most = w.most;
      agrees = record { turns = w.agrees.turns; left = w.agrees.left; taken = w.agrees.taken; held = w.agrees.held; input = w.agrees.input; output = w.agrees.output; notes = w.agrees.notes; done = w.agrees.done };
      plan = w.plan;
      order = w.order;
      cells = λ a. go a (nat_lt a g.top) (nat_lt a (g.top + (top - g.top))) refl refl;
    }
  where
    t : stored.State
    t = record s { frame = s.frame + 1 }

    go : (a : ℕ) (b b' : Bool) → nat_lt a g.top ≡ b → nat_lt a (g.top + (top - g.top)) ≡ b' → Right (cond b (g.what a) (cond b' Free Other)) t (slice_get (d.cells ++ zeros (top - length d.cells)) a)
    go a true b' e e' =
        let lt : a < length d.cells = (let l = ltb-true a g.top e in let z = w.top in omega (arith, l, z)) in
        let (v, is) = get_of d.cells a lt in
        subst (λ o. Right (g.what a) t o) (is ∙ sym (get_left d.cells (zeros (top - length d.cells)) a v is)) (right_same (g.what a) s t (slice_get d.cells a) refl refl (w.cells a))
        -- the cell is as it was
    go a false true e e' =
        let ge : g.top ≤ a = ltb-false a g.top e in
        let lt = ltb-true a (g.top + (top - g.top)) e' in
        let z = w.top in
        let n : ℕ = a - length d.cells in
        let is : length d.cells + n ≡ a = omega (arith, ge, z) in
        (pos 0, ap (λ b. slice_get (d.cells ++ zeros (top - length d.cells)) b) (sym is) ∙ get_right d.cells (zeros (top - length d.cells)) n ∙ get_zeros (top - length d.cells) n (omega (arith, ge, lt, z)))
    go a false false e e' = tt

-- where it has ended
fit_cut : {g h : Ghost} {s : stored.State} {d : Dyn} (top n : ℕ) → ((a : ℕ) → g.top ≤ a → g.what a ≡ Other) → h.here ≡ g.here → (h.everywhere ≡ g.everywhere) × (h.declared ≡ g.declared) → h.top ≡ g.top + (top - g.top) → h.least ≡ g.least → h.most ≡ g.most → (h.plan ≡ g.plan) × (h.ordered ≡ g.ordered)
    → ((a : ℕ) → a < g.top → h.what a ≡ g.what a) → Fit h s d → Fit g (record s { frame = g.frame }) (cut_to g.top d)
fit_cut {g} {h} {s} {d} top n beyond e1 e2 e3 e4 e5 e6 same w =
    let len : length d.cells ≡ g.top + (top - g.top) = w.top ∙ e3 in
    record {
      here = w.here ∙ e1;
      everywhere = w.everywhere ∙ e2.0;
      declared = w.declared ∙ e2.1;
      frame = refl;
      top = length_take g.top d.cells (omega (arith, len));
      least = subst (λ n. n ≤ s.turns) e4 w.least;
      most = subst (λ n. s.turns ≤ n) e5 w.most;
      agrees = record { turns = w.agrees.turns; left = w.agrees.left; taken = w.agrees.taken; held = w.agrees.held; input = w.agrees.input; output = w.agrees.output; notes = w.agrees.notes; done = w.agrees.done };
      plan = w.plan ∙ e6.0;
      order = λ o. w.order (e6.1 ∙ o);
      cells = λ a. go a (nat_lt a g.top) refl;
    }
  where
    t : stored.State
    t = record s { frame = g.frame }

    go : (a : ℕ) (b : Bool) → nat_lt a g.top ≡ b → Right (g.what a) t (slice_get (take g.top d.cells) a)
    go a true e =
        let lt = ltb-true a g.top e in
        subst (λ o. Right (g.what a) t o) (sym (get_take g.top d.cells a lt)) (right_same (g.what a) s t (slice_get d.cells a) refl refl (subst (λ z. Right z s (slice_get d.cells a)) (same a lt) (w.cells a)))
    go a false e = subst (λ z. Right z t (slice_get (take g.top d.cells) a)) (sym (beyond a (ltb-false a g.top e))) tt

module _ (limit : ℕ) (c : Code) where
  -- the state of a caller, once its call has ended
  cut_own : (st below : List ℤ) → cut (length below) (st ++ below) ≡ below
  cut_own st below = let m : length (st ++ below) - length below ≡ length st = omega (arith, length-append st below) in ap (λ i. drop i (st ++ below)) m ∙ drop-append_seam st below

  fixed_same : (f : Fixed) (q : ℕ) (st : List ℤ) (raising : Option Reason) (d : Dyn) → ◌≡◌ {A = State}
      (record (state_of f q st [] raising d) { calls = f.calls + 1 - 1; nested = f.nested - 0 }) (state_of f q st [] raising d)
  fixed_same f q st raising d =
      let e : f.calls + 1 - 1 ≡ f.calls = omega arith in
      let e' : f.nested - 0 ≡ f.nested = omega arith in
      ap₂ (λ m n. record (state_of f q st [] raising d) { calls = m; nested = n }) e e'

  -- a raise that goes through a call
  pub comes_through : {q : ℕ} {j : Instr} {e : Option ℕ} (to n : ℕ) (f : Fixed) (st : List ℤ) (top : ℕ) (r : Reason) (d : Dyn) → At c q j e → To limit c (thrown r None (inner f q to n st top) d) (thrown r e f (cut_to top d))
  comes_through {q} {j} {e} to n f st top r d at =
      subst (λ s. To limit c (On (record { state = s; world = d.world })) (thrown r e f (cut_to top d))) (sym (fixed_same f q st (Some r) (cut_to top d))) (comes_thrown limit c f st r (cut_to top d) at)

  resumed_same : (f : Fixed) (to n : ℕ) (st top' : List ℤ) (top : ℕ) (vs : List ℤ) (d : Dyn) → ◌≡◌ {A = Step}
      (On (record { state = record (state_of f to (vs ++ st) [] None (cut_to top d)) { stack = vs ++ cut (length (st ++ f.below)) (top' ++ (st ++ f.below)); calls = f.calls + 1 - 1; nested = f.nested - 0 }; world = d.world }))
      (on f to (vs ++ st) (cut_to top d))
  resumed_same f to n st top' top vs d =
      let e : f.calls + 1 - 1 ≡ f.calls = omega arith in
      let e' : f.nested - 0 ≡ f.nested = omega arith in
      let e'' : vs ++ cut (length (st ++ f.below)) (top' ++ (st ++ f.below)) ≡ (vs ++ st) ++ f.below = ap (λ z. vs ++ z) (cut_own top' (st ++ f.below)) ∙ sym (append_assoc vs st f.below) in
      rw (e, e', e'') refl

  -- a body ends, with a value or without
  pub comes_gives : {q' : ℕ} {e : Option ℕ} (f : Fixed) (q to n : ℕ) (st : List ℤ) (top : ℕ) (v : ℤ) (rest : List ℤ) (d : Dyn) → At c q' i.RetV e → To limit c (on (inner f q to n st top) q' (v ∷ rest) d) (on f to (v ∷ st) (cut_to top d))
  comes_gives f q to n st top v rest d at = comes_as limit c (inner f q to n st top) (v ∷ rest) d at (resumed_same f to n st rest top (v ∷ []) d)

  pub comes_ends : {q' : ℕ} {e : Option ℕ} (f : Fixed) (q to n : ℕ) (st : List ℤ) (top : ℕ) (rest : List ℤ) (d : Dyn) → At c q' i.Ret e → To limit c (on (inner f q to n st top) q' rest d) (on f to st (cut_to top d))
  comes_ends f q to n st top rest d at = comes_as limit c (inner f q to n st top) rest d at (resumed_same f to n st rest top [] d)

  -- where a call is left to
  abbrev pub called_ends : Ends → ℕ → Ends
  called_ends x top = record { entry = None; exits = λ n d. x.exits n (cut_to top d); returns = λ v d. x.returns v (cut_to top d) }

  module _ (f : Fixed) (x : Ends) where
    fewer_within : (top : ℕ) (g : Ghost) → Fewer limit c f x g (within_call top g)
    fewer_within top g a y p e = inl (go (nat_lt a g.top) (nat_lt a (g.top + (top - g.top))) e)
      where
        go : (b b' : Bool) → cond b (g.what a) (cond b' Free Other) ≡ StandsFor y p → g.what a ≡ StandsFor y p
        go true b' e = e
        go false true e = absurd (let z : Free ≡ StandsFor y p = e in cc)
        go false false e = absurd (let z : Other ≡ StandsFor y p = e in cc)

    -- a part in a frame of its own
    pub also_apart : {A : Type 0} {g : Ghost} {p p' : A → Dyn → Type 0} {m : Stored A} {from : Dyn → Step} {after : A → Dyn → Step} {q : ℕ} {jn : Instr} (to n top : ℕ) (st : List ℤ) (wh w2 : ℕ → What) → At c q jn x.entry → ((a : ℕ) → g.top ≤ a → w2 a ≡ Other) → ((a : ℕ) → a < g.top → wh a ≡ w2 a)
        → ((a : A) (d : Dyn) → p a d → p' a (cut_to g.top d))
        → Also limit c (inner f q to n st g.top) (called_ends x g.top) (within_call top g) (record (within_call top g) { what = wh }) p m from (λ a d. after a (cut_to g.top d))
        → Also limit c f x g (record g { what = w2 }) p' (stored.apart m) (λ d. from (grown top d)) after
    unfolding stored.apart
    also_apart {A} {g} {p} {p'} {m} {from} {after} {q} to n top st wh w2 at beyond same keep k = record {
      by = λ s d fit al. go s d fit (m.does (record s { frame = s.frame + 1 })).state (m.does (record s { frame = s.frame + 1 })).end
          (k.by (record s { frame = s.frame + 1 }) (grown top d) (fit_grown top fit) (allows_fewer limit c f x g (within_call top g) (m.touches (record s { frame = s.frame + 1 })) (fewer_within top g) al.0, al.1));
    }
      where
        h : Ghost
        h = record (within_call top g) { what = wh }

        fit_back : (s : stored.State) (d : Dyn) → Fit g s d → (t : stored.State) (d' : Dyn) → Fit h t d' → Fit (record g { what = w2 }) (record t { frame = s.frame }) (cut_to g.top d')
        fit_back s d fit t d' w = subst (λ z. Fit (record g { what = w2 }) (record t { frame = z }) (cut_to g.top d')) (sym fit.frame) (fit_cut {g = record g { what = w2 }} {h = h} top n beyond refl (refl, refl) refl refl refl (refl, refl) same w)

        go : (s : stored.State) (d : Dyn) → Fit g s d → (t : stored.State) (e : Result A Cause) → LandsAlso limit c (inner f q to n st g.top) (called_ends x g.top) p h (from (grown top d)) s.turns (λ a d. after a (cut_to g.top d)) t e
            → LandsAlso limit c f x p' (record g { what = w2 }) (from (grown top d)) s.turns after (record t { frame = s.frame }) e
        go s d fit t (Ok a) (l, ok) = (record { dyn = cut_to g.top l.dyn; fit = fit_back s d fit t l.dyn l.fit; comes = l.comes; grows = l.grows }, keep a l.dyn ok)
        go s d fit t (Err (Left (Exits m))) l = record { dyn = cut_to g.top l.dyn; fit = fit_back s d fit t l.dyn l.fit; comes = l.comes; grows = l.grows }
        go s d fit t (Err (Left (Returns v))) l = record { dyn = cut_to g.top l.dyn; fit = fit_back s d fit t l.dyn l.fit; comes = l.comes; grows = l.grows }
        go s d fit t (Err (Left (Raises r))) l = record { dyn = cut_to g.top l.dyn; fit = fit_back s d fit t l.dyn l.fit; comes = leads_on limit c l.comes (comes_through to n f st g.top r l.dyn at _); grows = l.grows }
        go s d fit t (Err OutOfTurns) l = record { dyn = cut_to g.top l.dyn; fit = fit_back s d fit t l.dyn l.fit; comes = l.comes; grows = l.grows }
        go s d fit t (Err CutOff) l = record { dyn = cut_to g.top l.dyn; fit = fit_back s d fit t l.dyn l.fit; comes = l.comes; grows = l.grows }
        go s d fit t (Err NoRoom) l = tt
        go s d fit t (Err Misnoted) (un, l) = (un, record { dyn = cut_to g.top l.dyn; fit = fit_back s d fit t l.dyn l.fit; comes = l.comes; grows = l.grows })

-- ---- calls of any depth

abbrev pub given : Option Scalar → ℤ → List ℤ
given None v = []
given (Some k) v = v ∷ []

-- An instruction that begins with a turn, and then calls a subprogram whose frame begins at a cell of the own one, if what is
-- checked holds. The call goes on at another instruction.
abbrev pub call_went : (limit : ℕ) → CodeSub → (cell to : ℕ) → Bool → List ℤ → State → Went
call_went limit is n to ok st s = entering_at limit is n to ok (record s { stack = st })

pub record Calling (limit : ℕ) (c : Code) (f : Fixed) (q : ℕ) (before after : List ℤ) (sub n to : ℕ) (ok : Bool) (entry : Option ℕ) : Type 0 where
  pub instr : Instr
  pub at : At c q instr entry
  pub does : (is : CodeSub) → slice_get c.subs sub ≡ Some is → (d : Dyn) → led limit c f q before d instr ≡ driven limit c (turned limit (state_of f q before [] None d) (call_went limit is n to ok (after ++ f.below))) d.world

-- nothing is checked
plain_call : {limit : ℕ} {c : Code} {f : Fixed} {q sub n : ℕ} {entry : Option ℕ} (st : List ℤ) → At c q (i.CallAt sub n) entry → Calling limit c f q st st sub n (q + 1) true entry
plain_call {limit} {c} {f} {q} {sub} {n} st at = record {
  instr = i.CallAt sub n;
  at = at;
  does = λ is e d. ap (λ o. driven limit c (done limit (called_at n (q + 1) true (st ++ f.below) o) (state_of f q st [] None d)) d.world) e;
}

truth_bit : (b : Bool) → truth (bit b) ≡ b
truth_bit true = refl
truth_bit false = refl

-- it is on the stack whether that holds
pub checked_call : {limit : ℕ} {c : Code} {f : Fixed} {q sub n to : ℕ} {entry : Option ℕ} (ok : Bool) (st : List ℤ) → At c q (i.CallTo sub n to) entry → Calling limit c f q (bit ok ∷ st) st sub n to ok entry
checked_call {limit} {c} {f} {q} {sub} {n} {to} ok st at = record {
  instr = i.CallTo sub n to;
  at = at;
  does = λ is e d.
      ap (λ b. driven limit c (done limit (called_at n to b (st ++ f.below) (slice_get c.subs sub)) (state_of f q (bit ok ∷ st) [] None d)) d.world) (truth_bit ok)
      ∙ ap (λ o. driven limit c (done limit (called_at n to ok (st ++ f.below) o) (state_of f q (bit ok ∷ st) [] None d)) d.world) e;
}

-- what is checked behind a call's turn: nothing, or whether both formals' values are in their subtypes
pub data Checked : Type 0 where
  Unchecked : Checked
  BothChecked : (token : ℕ) (first second : Bool) → Checked

abbrev pub test_of : Checked → Stored (Unit {0})
test_of Unchecked = stored.ret tt
test_of (BothChecked token first second) = stored.bind (stored.checks RangeCheck token first) (λ _. stored.checks RangeCheck token second)

abbrev pub holds : Checked → Bool
holds Unchecked = true
holds (BothChecked token first second) = first && second

pub test_is : (k : Checked) (s : stored.State) → (test_of k).does s ≡ stored.at s (cond (holds k) (Ok tt) (Err (Left (Raises reason.ConstraintError))))
unfolding stored.bind stored.ret stored.leaves
test_is Unchecked s = refl
test_is (BothChecked token true true) s = refl
test_is (BothChecked token true false) s = refl
test_is (BothChecked token false second) s = refl

abbrev pub with_kept : List ℤ → Fixed → Fixed
with_kept vs f = record f { kept = vs }

-- calls whose arguments stand in cells of the caller's frame, where they leave what is copied back; accumulators may be kept
pub record CallsDo (limit : ℕ) (cuts : ℕ → ℕ → List ℕ) (program : Program) (globals : ℕ → Entity → Option Named) (mains : Entity → Bool) (c : Code) (f : Fixed) (calls : ℕ → ℕ → Stored (Unit {0}) → List Passed → Stored Returned) : Type 0 where
  pub countable : IsCountable c.instrs
  pub by : {g : Ghost} {env : Env} (x : Ends) (s : Sight) (sub n q to : ℕ) (before after : List ℤ) (kept : List ℤ) (check : Checked) (ps : List Sent) (u : Callable program globals mains s sub) → Knows limit cuts g f s env → n + shapes_cells (shapes program u.unit.formals) ≡ s.scope.free → s.scope.free ≤ s.cells → AreSuited (spots 0 (shapes program u.unit.formals)) ps
      → AreFree (f.base + n) (shapes_cells (shapes program u.unit.formals)) g.what → Calling limit c (with_kept kept f) q before after (sub + 1) n to (holds check) x.entry
      → Also limit c (with_kept kept f) x {A = Returned} (scattering (f.base + n) (pieces ps) g) (scattering (f.base + n) (aheads ps) g) (λ r d. Backs (f.base + n) ps r.cells d.cells) (calls env.nested sub (test_of check) (all_passed ps)) (λ d. on (with_kept kept f) q before d) (λ r d. on (with_kept kept f) to (given u.unit.result r.value ++ after) d)

-- those where nothing is checked
pub called_plainly : {limit : ℕ} {cuts : ℕ → ℕ → List ℕ} {program : Program} {globals : ℕ → Entity → Option Named} {mains : Entity → Bool} {c : Code} {f : Fixed} {calls : ℕ → ℕ → Stored (Unit {0}) → List Passed → Stored Returned} {g : Ghost} {env : Env} → CallsDo limit cuts program globals mains c f calls → (x : Ends) (s : Sight) (sub n q : ℕ) (st : List ℤ) (ps : List Sent) (u : Callable program globals mains s sub)
    → Knows limit cuts g f s env → n + shapes_cells (shapes program u.unit.formals) ≡ s.scope.free → s.scope.free ≤ s.cells → AreSuited (spots 0 (shapes program u.unit.formals)) ps → AreFree (f.base + n) (shapes_cells (shapes program u.unit.formals)) g.what → At c q (i.CallAt (sub + 1) n) x.entry
    → Also limit c f x {A = Returned} (scattering (f.base + n) (pieces ps) g) (scattering (f.base + n) (aheads ps) g) (λ r d. Backs (f.base + n) ps r.cells d.cells) (calls env.nested sub (stored.ret tt) (all_passed ps)) (λ d. on f q st d) (λ r d. on f (q + 1) (given u.unit.result r.value ++ st) d)
called_plainly {f = f} called x s sub n q st ps u k whole room suited free at = called.by x s sub n q (q + 1) st st f.kept Unchecked ps u k whole room suited free (plain_call st at)
