-- At which instruction a step stops.
use Rattle.std.proofs.Common.{◌≡◌, ℕ, zero, suc, ◌+◌, ◌-◌, ◌⊎◌, inl, inr, ℤ, List, [], ◌∷◌, length, Option, Some, None, Bool, true, false, cond, refl, sym, subst}
use Rattle.std.specs.Prelude.{slice_get, nat_eq, nat_lt}
use Rattle.ada_base.specs.Cells.{Cell, seen, written}
use Rattle.ada_base.specs.declared.reason.Reason.{Reason}
use Rattle.ada_base.specs.declared.reason.Reason.TheVariants.{ConstraintError, StorageError}
use Rattle.stack_code.specs.declared.code.Around.{Around}
use Rattle.stack_code.specs.declared.code.Code.{Code}
use Rattle.stack_code.specs.declared.code.CodeSub.{CodeSub}
use Rattle.stack_code.specs.declared.code.Unwind.{Unwind}
use Rattle.stack_code.specs.declared.instr.Instr.{Instr}
use Rattle.stack_code.specs.declared.path.Round.{Round}
use Rattle.stack_code.specs.declared.path.Leave.{Leave}
use Rattle.stack_code.specs.declared.path.Leave.TheVariants.{Raise as Raises}
use Rattle.stack_code.specs.Answers.{IsIo}
use Rattle.stack_code.specs.Deeds.{Deed, Lacks, GoesOn, Fails, Loads, Stores, Points, Turns, Calls, CallsAt, Combines, Draws, Repeats, Rounds, Ends, Leaves, Forks, Nests, Unnests, Writes, Sends, Gets, Gives, deed_of}
use Rattle.stack_code.specs.Fits.{IsFit}
use Rattle.stack_code.specs.Machine.{Frame, State, Done, Left, Spent, Cut, Asks, Constructs, Stuck, Astray, Went, Goes, Stops, look_by, with_value, with_cells, points, if_pointing, cut, on, moved_to, failed, entered, entered_at, entry_of, handled, unwound, raised, turned, entering, entering_at, combining, drawing, another, rounding, ending, nesting, done, acted, stepped, step}
use Rattle.stack_code.specs.Stands.{Stands}
use Rattle.stack_code.specs.Valid.{IsValid}
use Rattle.stack_code.proofs.Standing.{here_of, fit_of}
use Rattle.machine_paths.proofs.Leavers.{Stays, Leaver, leaves_by}

-- where it stands the path is as before, but for its operands and cells
pub record Stood (s t : State) : Type 0 where
  pub pc : t.pc ≡ s.pc
  pub waiting : t.waiting ≡ s.waiting
  pub rounds : t.rounds ≡ s.rounds
  pub turns : t.turns ≡ s.turns
  pub raising : t.raising ≡ s.raising

stood : (s : State) (st : List ℤ) (cells : List Cell) → Stood s (record s { stack = st; cells = cells })
stood s st cells = record { pc = refl; waiting = refl; rounds = refl; turns = refl; raising = refl }

-- at a fork the path stands, and asks and leaves come of their instructions
abbrev pub StoppedAt : Instr → State → Went → Type 0
StoppedAt i s (Goes t) = Unit {0}
StoppedAt i s (Stops (Constructs q) t) = Stood s t
StoppedAt i s (Stops (Asks io) t) = IsIo (Some i)
StoppedAt i s (Stops (Left l) t) = Leaver i
StoppedAt i s (Stops x t) = Unit {0}

module _ (i : Instr) (limit : ℕ) where
  looked_at : (o : Option ℕ) (s : State) (k : State → Went) → ((l : Option ℕ) → StoppedAt i s (k (record s { left = l }))) → StoppedAt i s (look_by o s k)
  looked_at None s k h = h s.left
  looked_at (Some zero) s k h = tt
  looked_at (Some (suc n)) s k h = h (Some n)

  turned_at : (s : State) (k : State → Went) → ((l : Option ℕ) (n : ℕ) → StoppedAt i s (k (record s { left = l; turns = n }))) → StoppedAt i s (turned limit s k)
  turned_at s k h = looked_at s.left s (λ t. cond (nat_lt t.turns limit) (k (record t { turns = t.turns + 1 })) (Stops Spent t)) (λ l.
      elim (nat_lt s.turns limit) as (λ y. StoppedAt i s (cond y (k (record s { left = l; turns = s.turns + 1 })) (Stops Spent (record s { left = l })))) [ true ↦ h l (s.turns + 1) | false ↦ tt ])

  entering_at_all : (s t : State) (f : CodeSub) (to : ℕ) (kept : List ℤ) → StoppedAt i s (entering limit f to kept t)
  entering_at_all s t f to kept = elim (nat_lt t.calls 1000) as (λ y. StoppedAt i s (cond y (Goes (entered f to kept t)) (Goes (failed StorageError (cut (length t.stack - f.takes) t.stack) t)))) [ true ↦ tt | false ↦ tt ]

  fits_frame : (s t : State) (f : CodeSub) (n to : ℕ) (fit : Bool) → StoppedAt i s (cond fit (Goes (entered_at f n to t)) (Goes (failed ConstraintError t.stack t)))
  fits_frame s t f n to true = tt
  fits_frame s t f n to false = tt

  entering_frame : (s t : State) (f : CodeSub) (n to : ℕ) (fit : Bool) → StoppedAt i s (entering_at limit f n to fit t)
  entering_frame s t f n to fit = elim (nat_lt t.calls 1000) as (λ y. StoppedAt i s (cond y (cond fit (Goes (entered_at f n to t)) (Goes (failed ConstraintError t.stack t))) (Goes (failed StorageError t.stack t)))) [ true ↦ fits_frame s t f n to fit | false ↦ tt ]

  drawing_at : (s : State) (parts : List ℤ) → StoppedAt i s (drawing limit parts s)
  drawing_at s [] = tt
  drawing_at s (part ∷ parts) = tt

  another_at : (s : State) (to head more : ℕ) (rs : List Round) → StoppedAt i s (another limit to head more rs s)
  another_at s to head zero rs = tt
  another_at s to head (suc n) rs = elim (nat_eq head to) as (λ y. StoppedAt i s (cond y (Goes (moved_to to s.stack (record s { rounds = record { more = n; head = head } ∷ rs }))) (Goes (on s.stack (record s { rounds = rs }))))) [ true ↦ tt | false ↦ tt ]

  rounding_at : (s : State) (to : ℕ) (rs : List Round) → StoppedAt i s (rounding limit to rs s)
  rounding_at s to [] = tt
  rounding_at s to (r ∷ rs) = another_at s to r.head r.more rs

  combining_at : (s : State) (f : CodeSub) (acc : ℤ) (st parts : List ℤ) → StoppedAt i s (combining limit f acc st parts s)
  combining_at s f acc st [] = tt
  combining_at s f acc st (part ∷ parts) = turned_at s (λ x. entering limit f x.pc parts (record x { stack = part ∷ acc ∷ st })) (λ l n. entering_at_all s (record s { left = l; turns = n; stack = part ∷ acc ∷ st }) f s.pc parts)

  ending_at : (s : State) (v : Option ℤ) (st : List ℤ) (fs : List Frame) → StoppedAt i s (ending limit v st fs s)
  ending_at s v st [] = tt
  ending_at s v st (f ∷ fs) = tt

  nesting_at : (s t : State) → StoppedAt i s (nesting limit t)
  nesting_at s t = elim (nat_lt t.nested 16) as (λ y. StoppedAt i s (cond y (Goes (on t.stack (record t { nest = t.nest + 1; nested = t.nested + 1 }))) (Goes (failed StorageError t.stack t)))) [ true ↦ tt | false ↦ tt ]

  on_load : (a : ℤ) (k : ℤ → Deed) → Leaver i ⊎ Stays (Loads a k) → (v : ℤ) → Leaver i ⊎ Stays (k v)
  on_load a k (inl h) v = inl h
  on_load a k (inr h) v = inr (h v)

  on_leave : (l : Leave) (st : List ℤ) → Leaver i ⊎ Stays (Leaves l st) → Leaver i
  on_leave l st (inl h) = h
  on_leave l st (inr h) = absurd h

  done_at : (c : Code) (pc : ℕ) (stack : List ℤ) (d : Deed) (s : State) → Leaver i ⊎ Stays d → IsFit c pc stack i d → StoppedAt i s (done limit d s)
  done_at c pc stack Lacks s h f = tt
  done_at c pc stack (GoesOn to st) s h f = tt
  done_at c pc stack (Fails r st) s h f = tt
  done_at c pc stack (Loads a k) s h f = elim (seen s.cells a) as (λ o. StoppedAt i s (with_value o s (λ v. done limit (k v) s))) [
    | None ↦ tt
    | Some v ↦ done_at c pc stack (k v) s (on_load a k h v) (f v)
  ]
  done_at c pc stack (Stores a v d) s h f = elim (written s.cells a v) as (λ o. StoppedAt i s (with_cells o s (λ t. done limit d t))) [
    | None ↦ tt
    | Some w ↦ back w (done limit d (record s { cells = w })) (done_at c pc stack d (record s { cells = w }) h f)
  ] where
    back : (w : List Cell) (x : Went) → StoppedAt i (record s { cells = w }) x → StoppedAt i s x
    back w (Goes t) g = g
    back w (Stops (Constructs q) t) g = record { pc = g.pc; waiting = g.waiting; rounds = g.rounds; turns = g.turns; raising = g.raising }
    back w (Stops (Asks io) t) g = g
    back w (Stops (Left l) t) g = g
    back w (Stops (Done v) t) g = g
    back w (Stops Spent t) g = g
    back w (Stops Cut t) g = g
    back w (Stops Stuck t) g = g
    back w (Stops Astray t) g = g
  done_at c pc stack (Points a d) s h f = elim (points s.cells a) as (λ o. StoppedAt i s (if_pointing o s (done limit d s))) [
    | false ↦ tt
    | true ↦ done_at c pc stack d s h f
  ]
  done_at c pc stack Turns s h f = turned_at s (λ t. Goes (on t.stack t)) (λ l n. tt)
  done_at c pc stack (Calls g) s h f = turned_at s (λ t. entering limit g (s.pc + 1) s.kept t) (λ l n. entering_at_all s (record s { left = l; turns = n }) g (s.pc + 1) s.kept)
  done_at c pc stack (CallsAt g m to fit st) s h f = turned_at s (λ t. entering_at limit g m to fit (record t { stack = st })) (λ l n. entering_frame s (record s { left = l; turns = n; stack = st }) g m to fit)
  done_at c pc stack Draws s h f = drawing_at s s.kept
  done_at c pc stack (Repeats n) s h f = tt
  done_at c pc stack (Rounds to) s h f = rounding_at s to s.rounds
  done_at c pc stack (Combines g acc st) s h f = combining_at s g acc st s.kept
  done_at c pc stack (Ends v st) s h f = ending_at s v st s.waiting
  done_at c pc stack (Leaves l st) s h f = on_leave l st h
  done_at c pc stack (Forks q st) s h f = stood s st s.cells
  done_at c pc stack Nests s h f = looked_at s.left s (nesting limit) (λ l. nesting_at s (record s { left = l }))
  done_at c pc stack Unnests s h f = tt
  done_at c pc stack (Writes text st) s h f = tt
  done_at c pc stack (Sends feed) s h f = sends f where
    sends : IsFit c pc stack i (Sends feed) → IsIo (Some i)
    sends (inl e) = subst (λ i. IsIo (Some i)) (sym e) tt
    sends (inr e) = subst (λ i. IsIo (Some i)) (sym e) tt
  done_at c pc stack Gets s h f = subst (λ i. IsIo (Some i)) (sym f) tt
  done_at c pc stack (Gives v st) s h f = tt

-- by its instruction, or a raise that nothing handles
abbrev pub StoppedSo : Code → State → Went → Type 0
StoppedSo c s (Goes t) = Unit {0}
StoppedSo c s (Stops (Constructs q) t) = Stood s t
StoppedSo c s (Stops (Asks io) t) = IsIo (slice_get c.instrs s.pc) × (s.raising ≡ None)
StoppedSo c s (Stops (Left l) t) = ((r : Reason) × (l ≡ Raises r)) ⊎ ((i : Instr) × (slice_get c.instrs s.pc ≡ Some i) × (s.raising ≡ None) × Leaver i)
StoppedSo c s (Stops x t) = Unit {0}

module _ (limit : ℕ) (c : Code) (low : Around) (valid : IsValid c) where
  by_instr : (s : State) (i : Instr) (x : Went) → slice_get c.instrs s.pc ≡ Some i → s.raising ≡ None → StoppedAt i s x → StoppedSo c s x
  by_instr s i (Goes t) e f h = tt
  by_instr s i (Stops (Constructs q) t) e f h = h
  by_instr s i (Stops (Asks io) t) e f h = (subst (λ o. IsIo o) (sym e) h, f)
  by_instr s i (Stops (Left l) t) e f h = inr (i, e, f, h)
  by_instr s i (Stops (Done v) t) e f h = tt
  by_instr s i (Stops Spent t) e f h = tt
  by_instr s i (Stops Cut t) e f h = tt
  by_instr s i (Stops Stuck t) e f h = tt
  by_instr s i (Stops Astray t) e f h = tt

  acted_so : (s : State) (o : Option Instr) → Stands c low s → s.raising ≡ None → slice_get c.instrs s.pc ≡ o → StoppedSo c s (acted limit c o s)
  acted_so s None h f e = tt
  acted_so s (Some i) h f e =
      let w = here_of c low valid s i h f e in
      by_instr s i (acted limit c (Some i) s) e f (done_at i limit c s.pc s.stack (deed_of c s.pc s.stack s.base s.outward i) s (leaves_by c s.pc s.stack s.base s.outward i) (fit_of c low valid s i w))

  raised_so : (s : State) (r : Reason) (o : Option Unwind) → StoppedSo c s (raised r o s)
  raised_so s r (Some u) = by_left s.left where
    by_left : (l : Option ℕ) → StoppedSo c s (look_by l s (λ t. Goes (handled u r t)))
    by_left None = tt
    by_left (Some zero) = tt
    by_left (Some (suc n)) = tt
  raised_so s r None = by_frames s.waiting where
    by_frames : (fs : List Frame) → StoppedSo c s (unwound r fs s)
    by_frames [] = inl (r, refl)
    by_frames (f ∷ fs) = tt

  pub stops_so : (s : State) → Stands c low s → StoppedSo c s (step limit c s)
  stops_so s h = by_raise s.raising refl where
    by_raise : (o : Option Reason) → s.raising ≡ o → StoppedSo c s (stepped limit c o s)
    by_raise None f = acted_so s (slice_get c.instrs s.pc) h f refl
    by_raise (Some r) f = raised_so s r (entry_of c.unwind s.pc)
