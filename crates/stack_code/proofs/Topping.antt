-- Calls begin frames above those that wait, and returns take them off again.
use Rattle.std.proofs.Common.{◌≡◌, ℕ, zero, suc, ◌+◌, ◌-◌, ◌≤◌, ℤ, pos, negsuc, List, [], ◌∷◌, length, take, Option, Some, None, Bool, true, false, cond, refl, sym, ap, ◌∙◌, subst, arith}
use Rattle.std.specs.Prelude.{slice_get, set, nat_eq, nat_lt}
use Rattle.std.proofs.lemmas.List.{length-append, length-take}
use Rattle.ada_base.specs.declared.reason.Reason.{Reason}
use Rattle.ada_base.specs.declared.reason.Reason.TheVariants.{ConstraintError, StorageError}
use Rattle.ada_base.specs.Cells.{Cell, Mine, seen, written, zeros}
use Rattle.stack_code.specs.declared.code.Code.{Code}
use Rattle.stack_code.specs.declared.code.CodeSub.{CodeSub}
use Rattle.stack_code.specs.declared.code.Unwind.{Unwind}
use Rattle.stack_code.specs.declared.instr.Instr.{Instr}
use Rattle.stack_code.specs.declared.path.Round.{Round}
use Rattle.stack_code.specs.Deeds.{Deed, Lacks, GoesOn, Fails, Loads, Stores, Points, Turns, Calls, CallsAt, Combines, Draws, Repeats, Rounds, Ends, Leaves, Forks, Nests, Unnests, Writes, Sends, Gets, Gives, deed_of}
use Rattle.stack_code.specs.Machine.{Frame, State, Went, Goes, Stops, Spent, points, if_pointing, look_by, with_value, with_cells, cut, on, moved_to, failed, entered, entered_at, ended, pushed_for, entry_of, handled, unwound, raised, turned, entering, entering_at, combining, drawing, another, rounding, ending, nesting, done, acted, stepped, step, going, run, Comes}
use Rattle.stack_code.specs.Tops.{AreTops, IsTopped, StaysTopped}
use Rattle.stack_code.proofs.Framing.{mine_of, set_length}

written_length : (xs : List Cell) (a v : ℤ) (w : List Cell) → written xs a v ≡ Some w → length w ≡ length xs
written_length xs (pos n) v w e = let m = mine_of (slice_get xs n) (set xs n (Mine v)) w e in ap length (sym m.2) ∙ set_length xs n (Mine v)
written_length xs (negsuc n) v w e = cc

pub tops_low : (low : ℕ) (fs : List Frame) (high : ℕ) → AreTops low fs high → low ≤ high
tops_low low [] high h = h
tops_low low (f ∷ fs) high h = let l = tops_low low fs f.top h.1 in omega (arith, l, h.0)

module _ (low : ℕ) where
  value_tops : (o : Option ℤ) (s : State) (k : ℤ → Went) → IsTopped low s → ((v : ℤ) → StaysTopped low (k v)) → StaysTopped low (with_value o s k)
  value_tops None s k t h = t
  value_tops (Some v) s k t h = h v

  cells_tops : (o : Option (List Cell)) (s : State) (k : State → Went) → IsTopped low s → ((w : List Cell) → o ≡ Some w → StaysTopped low (k (record s { cells = w }))) → StaysTopped low (with_cells o s k)
  cells_tops None s k t h = t
  cells_tops (Some w) s k t h = h w refl

  pointing_tops : (b : Bool) (s : State) (w : Went) → IsTopped low s → StaysTopped low w → StaysTopped low (if_pointing b s w)
  pointing_tops true s w t h = h
  pointing_tops false s w t h = t

  cond_tops : (b : Bool) (x y : Went) → StaysTopped low x → StaysTopped low y → StaysTopped low (cond b x y)
  cond_tops true x y h g = h
  cond_tops false x y h g = g

  look_tops : (o : Option ℕ) (s : State) (k : State → Went) → IsTopped low s → ((l : Option ℕ) → StaysTopped low (k (record s { left = l }))) → StaysTopped low (look_by o s k)
  look_tops None s k t h = h s.left
  look_tops (Some zero) s k t h = t
  look_tops (Some (suc n)) s k t h = h (Some n)

  module _ (limit : ℕ) where
    turned_tops : (s : State) (k : State → Went) → IsTopped low s → ((l : Option ℕ) (t : ℕ) → StaysTopped low (k (record s { left = l; turns = t }))) → StaysTopped low (turned limit s k)
    turned_tops s k t h = look_tops s.left s (λ s. cond (nat_lt s.turns limit) (k (record s { turns = s.turns + 1 })) (Stops Spent s)) t
        (λ l. cond_tops (nat_lt s.turns limit) (k (record s { left = l; turns = s.turns + 1 })) (Stops Spent (record s { left = l })) (h l (s.turns + 1)) t)

    entering_tops : (f : CodeSub) (to : ℕ) (kept : List ℤ) (s : State) → IsTopped low s → StaysTopped low (entering limit f to kept s)
    entering_tops f to kept s t = cond_tops (nat_lt s.calls 1000) (Goes (entered f to kept s)) (Goes (failed StorageError (cut (length s.stack - f.takes) s.stack) s)) (omega (arith, length-append s.cells (zeros f.frame)), t) t

    entering_at_tops : (f : CodeSub) (n to : ℕ) (fit : Bool) (s : State) → IsTopped low s → StaysTopped low (entering_at limit f n to fit s)
    entering_at_tops f n to fit s t = cond_tops (nat_lt s.calls 1000) (cond fit (Goes (entered_at f n to s)) (Goes (failed ConstraintError s.stack s))) (Goes (failed StorageError s.stack s))
        (cond_tops fit (Goes (entered_at f n to s)) (Goes (failed ConstraintError s.stack s)) (omega (arith, length-append s.cells (zeros (s.base + n + f.frame - length s.cells))), t) t) t

    combining_tops : (f : CodeSub) (acc : ℤ) (st parts : List ℤ) (s : State) → IsTopped low s → StaysTopped low (combining limit f acc st parts s)
    combining_tops f acc st [] s t = t
    combining_tops f acc st (part ∷ parts) s t = turned_tops s (λ s. entering limit f s.pc parts (record s { stack = part ∷ acc ∷ st })) t (λ l n. entering_tops f s.pc parts (record s { left = l; turns = n; stack = part ∷ acc ∷ st }) t)

    drawing_tops : (parts : List ℤ) (s : State) → IsTopped low s → StaysTopped low (drawing limit parts s)
    drawing_tops [] s t = t
    drawing_tops (part ∷ parts) s t = t

    another_tops : (to head more : ℕ) (rs : List Round) (s : State) → IsTopped low s → StaysTopped low (another limit to head more rs s)
    another_tops to head zero rs s t = t
    another_tops to head (suc n) rs s t = cond_tops (nat_eq head to) (Goes (moved_to to s.stack (record s { rounds = record { more = n; head = head } ∷ rs }))) (Goes (on s.stack (record s { rounds = rs }))) t t

    rounding_tops : (to : ℕ) (rs : List Round) (s : State) → IsTopped low s → StaysTopped low (rounding limit to rs s)
    rounding_tops to [] s t = t
    rounding_tops to (r ∷ rs) s t = another_tops to r.head r.more rs s t

    ended_tops : (s : State) (f : Frame) (fs : List Frame) (to : ℕ) (st : List ℤ) → s.waiting ≡ f ∷ fs → IsTopped low s → IsTopped low (ended f fs to st s)
    ended_tops s f fs to st e t =
        let a : AreTops low (f ∷ fs) (length s.cells) = subst (λ x. AreTops low x (length s.cells)) e t in
        subst (AreTops low fs) (let l : f.top ≡ length (take f.top s.cells) = omega (arith, length-take f.top s.cells, a.0) in l) a.1

    ending_tops : (v : Option ℤ) (st : List ℤ) (fs : List Frame) (s : State) → s.waiting ≡ fs → IsTopped low s → StaysTopped low (ending limit v st fs s)
    ending_tops v st [] s e t = t
    ending_tops v st (f ∷ fs) s e t = ended_tops s f fs f.to (pushed_for v (cut s.floor st)) e t

    nesting_tops : (s : State) → IsTopped low s → StaysTopped low (nesting limit s)
    nesting_tops s t = cond_tops (nat_lt s.nested 16) (Goes (on s.stack (record s { nest = s.nest + 1; nested = s.nested + 1 }))) (Goes (failed StorageError s.stack s)) t t

    done_tops : (d : Deed) (s : State) → IsTopped low s → StaysTopped low (done limit d s)
    done_tops Lacks s t = t
    done_tops (GoesOn to st) s t = t
    done_tops (Fails r st) s t = t
    done_tops (Loads a k) s t = value_tops (seen s.cells a) s (λ v. done limit (k v) s) t (λ v. done_tops (k v) s t)
    done_tops (Stores a v d) s t = cells_tops (written s.cells a v) s (λ s. done limit d s) t
        (λ w e. done_tops d (record s { cells = w }) (subst (AreTops low s.waiting) (sym (written_length s.cells a v w e)) t))
    done_tops (Points a d) s t = pointing_tops (points s.cells a) s (done limit d s) t (done_tops d s t)
    done_tops Turns s t = turned_tops s (λ s. Goes (on s.stack s)) t (λ l n. t)
    done_tops (Calls f) s t = turned_tops s (λ x. entering limit f (s.pc + 1) s.kept x) t (λ l n. entering_tops f (s.pc + 1) s.kept (record s { left = l; turns = n }) t)
    done_tops (CallsAt f n to fit st) s t = turned_tops s (λ x. entering_at limit f n to fit (record x { stack = st })) t (λ l k. entering_at_tops f n to fit (record s { left = l; turns = k; stack = st }) t)
    done_tops (Combines f acc st) s t = combining_tops f acc st s.kept s t
    done_tops Draws s t = drawing_tops s.kept s t
    done_tops (Repeats n) s t = t
    done_tops (Rounds to) s t = rounding_tops to s.rounds s t
    done_tops (Ends v st) s t = ending_tops v st s.waiting s refl t
    done_tops (Leaves l st) s t = t
    done_tops (Forks q st) s t = t
    done_tops Nests s t = look_tops s.left s (nesting limit) t (λ l. nesting_tops (record s { left = l }) t)
    done_tops Unnests s t = t
    done_tops (Writes text st) s t = t
    done_tops (Sends feed) s t = t
    done_tops Gets s t = t
    done_tops (Gives v st) s t = t

    unwound_tops : (r : Reason) (fs : List Frame) (s : State) → s.waiting ≡ fs → IsTopped low s → StaysTopped low (unwound r fs s)
    unwound_tops r [] s e t = t
    unwound_tops r (f ∷ fs) s e t = ended_tops s f fs f.at (cut s.floor s.stack) e t

    raised_tops : (r : Reason) (o : Option Unwind) (s : State) → IsTopped low s → StaysTopped low (raised r o s)
    raised_tops r (Some u) s t = look_tops s.left s (λ s. Goes (handled u r s)) t (λ l. t)
    raised_tops r None s t = unwound_tops r s.waiting s refl t

    module _ (c : Code) where
      acted_tops : (o : Option Instr) (s : State) → IsTopped low s → StaysTopped low (acted limit c o s)
      acted_tops None s t = t
      acted_tops (Some i) s t = done_tops (deed_of c s.pc s.stack s.base s.outward i) s t

      stepped_tops : (o : Option Reason) (s : State) → IsTopped low s → StaysTopped low (stepped limit c o s)
      stepped_tops None s t = acted_tops (slice_get c.instrs s.pc) s t
      stepped_tops (Some r) s t = raised_tops r (entry_of c.unwind s.pc) s t

      pub step_tops : (s : State) → IsTopped low s → StaysTopped low (step limit c s)
      step_tops s t = stepped_tops s.raising s t

      pub tops_one : (p q : State) → step limit c p ≡ Goes q → IsTopped low p → IsTopped low q
      tops_one p q e t = subst (StaysTopped low) e (step_tops p t)

      first_tops : (m : ℕ) (w : Went) → StaysTopped low w → ((s : State) → IsTopped low s → StaysTopped low (run limit c m s)) → StaysTopped low (going limit c w (λ s. run limit c m s))
      first_tops m (Goes s) t h = h s t
      first_tops m (Stops x s) t h = t

      pub run_tops : (m : ℕ) (s : State) → IsTopped low s → StaysTopped low (run limit c m s)
      run_tops zero s t = t
      run_tops (suc m) s t = first_tops m (step limit c s) (step_tops s t) (λ s t. run_tops m s t)

      pub comes_tops : (p q : State) → Comes limit c p q → IsTopped low p → IsTopped low q
      comes_tops p q h t = subst (StaysTopped low) h.leads (run_tops h.steps p t)
