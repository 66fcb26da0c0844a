-- Which instructions ask.
use Rattle.std.proofs.Common.{◌≡◌, ◌⊎◌, inl, inr, ℕ, zero, suc, ◌+◌, ◌-◌, ℤ, Bool, true, false, cond, List, [], ◌∷◌, length, Option, Some, None, arith, refl, sym, ◌∙◌, ap, subst}
use Rattle.std.specs.Prelude.{slice_get, nat_eq, nat_lt}
use Rattle.ada_base.specs.Cells.{Cell, seen, written}
use Rattle.ada_base.specs.declared.reason.Reason.{Reason}
use Rattle.ada_base.specs.declared.reason.Reason.TheVariants.{StorageError, ConstraintError}
use Rattle.stack_code.specs.declared.code.Around.{Around}
use Rattle.stack_code.specs.declared.code.Code.{Code}
use Rattle.stack_code.specs.declared.code.CodeSub.{CodeSub}
use Rattle.stack_code.specs.declared.code.Unwind.{Unwind}
use Rattle.stack_code.specs.declared.instr.Instr.{Instr}
use Rattle.stack_code.specs.declared.instr.Instr.TheVariants.{Send, SendLn, Get}
use Rattle.stack_code.specs.declared.path.Io.TheVariants as io
use Rattle.stack_code.specs.declared.path.Round.{Round}
use Rattle.stack_code.specs.Deeds.{Deed, Lacks, GoesOn, Fails, Loads, Stores, Points, Turns, Calls, CallsAt, Combines, Draws, Repeats, Rounds, Ends, Leaves, Forks, Nests, Unnests, Writes, Sends, Gets, Gives, deed_of}
use Rattle.stack_code.specs.Fits.{IsFit}
use Rattle.stack_code.specs.Machine.{Frame, State, Stop, Asks, Went, Goes, Stops, acted, another, combining, cut, done, drawing, ending, entered, entered_at, entering, entering_at, entry_of, failed, going, handled, look_by, nesting, on, points, if_pointing, raised, rounding, run, step, stepped, turned, unwound, with_cells, with_value, Comes_to}
use Rattle.stack_code.specs.Stands.{Keeps, Stands}
use Rattle.stack_code.specs.Valid.{IsValid}
use Rattle.stack_code.proofs.Fits.{fits}
use Rattle.stack_code.proofs.Standing.{finds_here, has_instr, here_of, keeps}
use Rattle.run_machine.specs.Running.{IsGetting, IsSending}

-- where it asks, it does so at that instruction
abbrev AsksBy : Instr → ℕ → Went → Type 0
AsksBy i pc (Stops (Asks (io.Write piece)) q) = ((i ≡ Send) ⊎ (i ≡ SendLn)) × (q.pc ≡ pc)
AsksBy i pc (Stops (Asks io.Take) q) = (i ≡ Get) × (q.pc ≡ pc)
AsksBy i pc w = Unit {0}

module _ (limit : ℕ) (i : Instr) (pc : ℕ) where
  cond_asks : (b : Bool) (x y : Went) → AsksBy i pc x → AsksBy i pc y → AsksBy i pc (cond b x y)
  cond_asks true x y h g = h
  cond_asks false x y h g = g

  look_asks : (o : Option ℕ) (s : State) (k : State → Went) → ((s : State) → AsksBy i pc (k s)) → AsksBy i pc (look_by o s k)
  look_asks None s k h = h s
  look_asks (Some zero) s k h = tt
  look_asks (Some (suc n)) s k h = h (record s { left = Some n })

  turned_asks : (s : State) (k : State → Went) → ((s : State) → AsksBy i pc (k s)) → AsksBy i pc (turned limit s k)
  turned_asks s k h = look_asks s.left s _ (λ s. cond_asks (nat_lt s.turns limit) _ _ (h (record s { turns = s.turns + 1 })) tt)

  entering_asks : (f : CodeSub) (to : ℕ) (kept : List ℤ) (s : State) → AsksBy i pc (entering limit f to kept s)
  entering_asks f to kept s = cond_asks (nat_lt s.calls 1000) (Goes (entered f to kept s)) (Goes (failed StorageError (cut (length s.stack - f.takes) s.stack) s)) tt tt

  entering_at_asks : (f : CodeSub) (n to : ℕ) (fit : Bool) (s : State) → AsksBy i pc (entering_at limit f n to fit s)
  entering_at_asks f n to fit s = cond_asks (nat_lt s.calls 1000) (cond fit (Goes (entered_at f n to s)) (Goes (failed ConstraintError s.stack s))) (Goes (failed StorageError s.stack s))
      (cond_asks fit (Goes (entered_at f n to s)) (Goes (failed ConstraintError s.stack s)) tt tt) tt

  nesting_asks : (s : State) → AsksBy i pc (nesting limit s)
  nesting_asks s = cond_asks (nat_lt s.nested 16) (Goes (on s.stack (record s { nest = s.nest + 1; nested = s.nested + 1 }))) (Goes (failed StorageError s.stack s)) tt tt

  combining_asks : (f : CodeSub) (acc : ℤ) (st parts : List ℤ) (s : State) → AsksBy i pc (combining limit f acc st parts s)
  combining_asks f acc st [] s = tt
  combining_asks f acc st (p ∷ ps) s = turned_asks s _ (λ s. entering_asks f s.pc ps (record s { stack = p ∷ acc ∷ st }))

  drawing_asks : (parts : List ℤ) (s : State) → AsksBy i pc (drawing limit parts s)
  drawing_asks [] s = tt
  drawing_asks (p ∷ ps) s = tt

  another_asks : (to head more : ℕ) (rs : List Round) (s : State) → AsksBy i pc (another limit to head more rs s)
  another_asks to head zero rs s = tt
  another_asks to head (suc n) rs s = cond_asks (nat_eq head to) _ _ tt tt

  rounding_asks : (to : ℕ) (rs : List Round) (s : State) → AsksBy i pc (rounding limit to rs s)
  rounding_asks to [] s = tt
  rounding_asks to (r ∷ rs) s = another_asks to r.head r.more rs s

  ending_asks : (v : Option ℤ) (st : List ℤ) (fs : List Frame) (s : State) → AsksBy i pc (ending limit v st fs s)
  ending_asks v st [] s = tt
  ending_asks v st (f ∷ fs) s = tt

module _ (limit : ℕ) (c : Code) (i : Instr) where
  value_asks : (pc : ℕ) (o : Option ℤ) (s : State) (k : ℤ → Went) → ((v : ℤ) → AsksBy i pc (k v)) → AsksBy i pc (with_value o s k)
  value_asks pc None s k h = tt
  value_asks pc (Some v) s k h = h v

  cells_asks : (pc : ℕ) (o : Option (List Cell)) (s : State) (k : State → Went) → ((cells : List Cell) → AsksBy i pc (k (record s { cells = cells }))) → AsksBy i pc (with_cells o s k)
  cells_asks pc None s k h = tt
  cells_asks pc (Some cells) s k h = h cells

  pointing_asks : (pc : ℕ) (b : Bool) (s : State) (w : Went) → AsksBy i pc w → AsksBy i pc (if_pointing b s w)
  pointing_asks pc true s w h = h
  pointing_asks pc false s w h = tt

  done_asks : (d : Deed) (s : State) → IsFit c s.pc s.stack i d → AsksBy i s.pc (done limit d s)
  done_asks Lacks s f = tt
  done_asks (GoesOn to st) s f = tt
  done_asks (Fails r st) s f = tt
  done_asks (Loads a k) s f = value_asks s.pc (seen s.cells a) s _ (λ v. done_asks (k v) s (f v))
  done_asks (Stores a v d) s f = cells_asks s.pc (written s.cells a v) s _ (λ cells. done_asks d (record s { cells = cells }) f)
  done_asks (Points a d) s f = pointing_asks s.pc (points s.cells a) s (done limit d s) (done_asks d s f)
  done_asks Turns s f = turned_asks limit i s.pc s (λ t. Goes (on t.stack t)) (λ t. tt)
  done_asks (Calls g) s f = turned_asks limit i s.pc s _ (λ t. entering_asks limit i s.pc g (s.pc + 1) s.kept t)
  done_asks (CallsAt g n to fit st) s f = turned_asks limit i s.pc s _ (λ t. entering_at_asks limit i s.pc g n to fit (record t { stack = st }))
  done_asks (Combines g acc st) s f = combining_asks limit i s.pc g acc st s.kept s
  done_asks Draws s f = drawing_asks limit i s.pc s.kept s
  done_asks (Repeats n) s f = tt
  done_asks (Rounds to) s f = rounding_asks limit i s.pc to s.rounds s
  done_asks (Ends v st) s f = ending_asks limit i s.pc v st s.waiting s
  done_asks (Leaves l st) s f = tt
  done_asks (Forks q st) s f = tt
  done_asks Nests s f = look_asks limit i s.pc s.left s _ (λ t. nesting_asks limit i s.pc t)
  done_asks Unnests s f = tt
  done_asks (Writes text st) s f = tt
  done_asks (Sends feed) s f = (f, refl)
  done_asks Gets s f = (f, refl)
  done_asks (Gives v st) s f = tt

-- where it asks for output, the instruction is one that does so; and so for input
abbrev Asking : Code → Went → Type 0
Asking c (Stops (Asks (io.Write piece)) q) = IsSending (slice_get c.instrs q.pc)
Asking c (Stops (Asks io.Take) q) = IsGetting (slice_get c.instrs q.pc)
Asking c w = Unit {0}

module _ (limit : ℕ) (c : Code) (low : Around) (valid : IsValid c) where
  sends : (i : Instr) (pc at : ℕ) → slice_get c.instrs at ≡ Some i → pc ≡ at → (i ≡ Send) ⊎ (i ≡ SendLn) → IsSending (slice_get c.instrs pc)
  sends i pc at here same (inl e) = subst (λ o. IsSending o) (sym (ap (slice_get c.instrs) same ∙ here ∙ ap Some e)) tt
  sends i pc at here same (inr e) = subst (λ o. IsSending o) (sym (ap (slice_get c.instrs) same ∙ here ∙ ap Some e)) tt

  gets : (i : Instr) (pc at : ℕ) → slice_get c.instrs at ≡ Some i → pc ≡ at → i ≡ Get → IsGetting (slice_get c.instrs pc)
  gets i pc at here same e = subst (λ o. IsGetting o) (sym (ap (slice_get c.instrs) same ∙ here ∙ ap Some e)) tt

  asking_at : (i : Instr) (at : ℕ) (w : Went) → slice_get c.instrs at ≡ Some i → AsksBy i at w → Asking c w
  asking_at i at (Goes s) here h = tt
  asking_at i at (Stops (Asks (io.Write piece)) q) here h = sends i q.pc at here h.1 h.0
  asking_at i at (Stops (Asks io.Take) q) here h = gets i q.pc at here h.1 h.0
  asking_at i at (Stops x q) here h = other x h
    where
      other : (x : Stop) → AsksBy i at (Stops x q) → Asking c (Stops x q)
      other (Asks (io.Write piece)) h = sends i q.pc at here h.1 h.0
      other (Asks io.Take) h = gets i q.pc at here h.1 h.0
      other x h = tt

  raised_asks : (r : Reason) (u : Option Unwind) (s : State) → Asking c (raised r u s)
  raised_asks r (Some u) s = looked s.left
    where
      looked : (o : Option ℕ) → Asking c (look_by o s (λ s. Goes (handled u r s)))
      looked None = tt
      looked (Some zero) = tt
      looked (Some (suc n)) = tt
  raised_asks r None s = unwinds s.waiting
    where
      unwinds : (fs : List Frame) → Asking c (unwound r fs s)
      unwinds [] = tt
      unwinds (f ∷ fs) = tt

  step_asks : (s : State) → Stands c low s → Asking c (step limit c s)
  step_asks s h = by_raising s.raising refl
    where
      by_raising : (o : Option Reason) → s.raising ≡ o → Asking c (stepped limit c o s)
      by_raising (Some r) e = raised_asks r (entry_of c.unwind s.pc) s
      by_raising None e =
          let i = has_instr c low valid s.pc h.spot h.at in
          let here = here_of c low valid s i.0 h e i.1 in
          let fit = fits c s.pc s.stack s.base s.outward i.0 (omega (arith, here.fits.operands, here.height)) (finds_here c low valid s.pc s.waiting here.spot.body s.floor (s.nested - s.nest) s.outward i.0 here.chain here.fits.belongs) in
          subst (λ o. Asking c (acted limit c o s)) (sym i.1) (asking_at i.0 s.pc (done limit (deed_of c s.pc s.stack s.base s.outward i.0) s) i.1 (done_asks limit c i.0 (deed_of c s.pc s.stack s.base s.outward i.0) s fit))

  run_asks : (n : ℕ) (s : State) → Stands c low s → Asking c (run limit c n s)
  run_asks zero s h = tt
  run_asks (suc n) s h = by_step (step limit c s) (keeps c low valid s limit h) (step_asks s h) (λ t k. run_asks n t k)
    where
      by_step : (w : Went) → Keeps c low w → Asking c w → ((t : State) → Stands c low t → Asking c (run limit c n t)) → Asking c (going limit c w (λ s. run limit c n s))
      by_step (Goes t) k a rest = rest t k
      by_step (Stops x t) k a rest = a

  pub writes_at : (s q : State) (piece : List ℕ) → Stands c low s → Comes_to limit c s (Asks (io.Write piece)) q → IsSending (slice_get c.instrs q.pc)
  writes_at s q piece h to = subst (λ w. Asking c w) to.leads (run_asks to.steps s h)

  pub takes_at : (s q : State) → Stands c low s → Comes_to limit c s (Asks io.Take) q → IsGetting (slice_get c.instrs q.pc)
  takes_at s q h to = subst (λ w. Asking c w) to.leads (run_asks to.steps s h)
