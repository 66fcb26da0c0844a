-- A run that isn't counted, counted.
use Rattle.std.proofs.Common.{◌≡◌, ℕ, zero, suc, ◌+◌, ◌-◌, ℤ, pos, List, [], ◌∷◌, ◌++◌, length, Option, Some, None, Bool, true, false, cond, refl, sym, ap, ◌∙◌, subst, arith}
use Rattle.std.specs.Prelude.{slice_get, nat_eq, nat_lt}
use Rattle.ada_base.specs.declared.reason.Reason.{Reason}
use Rattle.ada_base.specs.declared.reason.Reason.TheVariants.{ConstraintError, StorageError}
use Rattle.stack_code.specs.declared.code.Code.{Code}
use Rattle.stack_code.specs.declared.code.CodeSub.{CodeSub}
use Rattle.stack_code.specs.declared.code.Unwind.{Unwind}
use Rattle.stack_code.specs.declared.instr.Instr.{Instr}
use Rattle.ada_base.specs.Cells.{Cell, seen, written}
use Rattle.stack_code.specs.Deeds.{Deed, Lacks, GoesOn, Fails, Loads, Stores, Points, Turns, Calls, CallsAt, Combines, Draws, Repeats, Rounds, Ends, Leaves, Forks, Nests, Unnests, Writes, Sends, Gets, Gives, deed_of}
use Rattle.stack_code.specs.Machine.{Frame, State, Went, Goes, Stops, Stop, Done, Left, Asks, Constructs, Stuck, Astray, Spent, Cut, points, if_pointing, look_by, with_value, with_cells, cut, on, moved_to, failed, entered, entered_at, ended, pushed_for, entry_of, handled, unwound, raised, turned, entering, entering_at, combining, drawing, another, rounding, ending, nesting, done, acted, stepped, step, going, run, Comes, Comes_to}
use Rattle.stack_code.specs.declared.path.Io.TheVariants as io
use Rattle.stack_code.specs.declared.path.Round.{Round}
use Rattle.stack_code.specs.declared.path.Leave.TheVariants.{Raise as Raises}
use Rattle.stack_code.specs.Runs.{IsAtLook}
use Rattle.stack_code.specs.Looks.{counting, value_looks, cells_looks, kept_looks, raise_looks, deed_looks, act_looks, step_looks, looks_of, Counts, Looks, Looks_to}
use Rattle.stack_code.proofs.Runs.{comes_one, comes_on, stops_one, stops_on}

-- no look
still : (q : State) (f : ℕ → Went) → q.left ≡ None → ((j : ℕ) → f j ≡ Goes (counting j q)) → Counts (Goes q) 0 f
still q f e h = (e, λ j. ap f (let z : 0 + j ≡ j = omega arith in z) ∙ h j)

stops : (x : Stop) (q : State) (f : ℕ → Went) → ((j : ℕ) → f j ≡ Stops x (counting j q)) → Counts (Stops x q) 0 f
stops x q f h j = ap f (let z : 0 + j ≡ j = omega arith in z) ∙ h j

value_counts : (o : Option ℤ) (s : State) (k : ℤ → Went) (n : ℤ → ℕ) (f : ℤ → ℕ → Went) → ((v : ℤ) → Counts (k v) (n v) (f v)) → Counts (with_value o s k) (value_looks o n) (λ m. with_value o (counting m s) (λ v. f v m))
value_counts None s k n f h = stops Stuck s _ (λ j. refl)
value_counts (Some v) s k n f h = h v

cells_counts : (o : Option (List Cell)) (s : State) (k : State → Went) (n : List Cell → ℕ) → ((w : List Cell) → Counts (k (record s { cells = w })) (n w) (λ m. k (counting m (record s { cells = w })))) → Counts (with_cells o s k) (cells_looks o n) (λ m. with_cells o (counting m s) k)
cells_counts None s k n h = stops Stuck s _ (λ j. refl)
cells_counts (Some w) s k n h = h w

pointing_counts : (b : Bool) (s : State) (w : Went) (n : ℕ) (f : ℕ → Went) → Counts w n f → Counts (if_pointing b s w) (cond b n 0) (λ m. if_pointing b (counting m s) (f m))
pointing_counts true s w n f h = h
pointing_counts false s w n f h = stops Stuck s _ (λ j. refl)

cond_counts : (b : Bool) (x y : Went) (n : ℕ) (f g : ℕ → Went) → Counts x n f → Counts y n g → Counts (cond b x y) n (λ m. cond b (f m) (g m))
cond_counts true x y n f g h k = h
cond_counts false x y n f g h k = k

-- a look and what follows, which takes none
look_counts : (w : Went) (f : ℕ → Went) → Counts w 0 f → (g : ℕ → Went) → ((n : ℕ) → g (suc n) ≡ f n) → Counts w 1 g
look_counts (Goes q) f h g e = (h.0, λ j. ap g (let z : 1 + j ≡ suc (0 + j) = omega arith in z) ∙ e (0 + j) ∙ h.1 j)
look_counts (Stops x q) f h g e = λ j. ap g (let z : 1 + j ≡ suc (0 + j) = omega arith in z) ∙ e (0 + j) ∙ h j

module _ (limit : ℕ) (c : Code) where
  turned_counts : (s : State) (k : State → Went) → s.left ≡ None → Counts (k (record s { turns = s.turns + 1 })) 0 (λ n. k (counting n (record s { turns = s.turns + 1 }))) → Counts (turned limit s k) 1 (λ n. turned limit (counting n s) k)
  turned_counts s k e h = subst (λ w. Counts w 1 (λ n. turned limit (counting n s) k)) (sym (ap (λ o. look_by o s (λ s. cond (nat_lt s.turns limit) (k (record s { turns = s.turns + 1 })) (Stops Spent s))) e))
      (look_counts (cond (nat_lt s.turns limit) (k (record s { turns = s.turns + 1 })) (Stops Spent s)) (λ n. cond (nat_lt s.turns limit) (k (counting n (record s { turns = s.turns + 1 }))) (Stops Spent (counting n s)))
      (cond_counts (nat_lt s.turns limit) (k (record s { turns = s.turns + 1 })) (Stops Spent s) 0 (λ n. k (counting n (record s { turns = s.turns + 1 }))) (λ n. Stops Spent (counting n s)) h (stops Spent s _ (λ j. refl)))
      (λ n. turned limit (counting n s) k) (λ n. refl))

  entering_counts : (f : CodeSub) (to : ℕ) (kept : List ℤ) (s : State) → s.left ≡ None → Counts (entering limit f to kept s) 0 (λ n. entering limit f to kept (counting n s))
  entering_counts f to kept s e = cond_counts (nat_lt s.calls 1000) (Goes (entered f to kept s)) (Goes (failed StorageError (cut (length s.stack - f.takes) s.stack) s)) 0 (λ n. Goes (entered f to kept (counting n s))) (λ n. Goes (failed StorageError (cut (length s.stack - f.takes) s.stack) (counting n s)))
      (still (entered f to kept s) _ e (λ j. refl)) (still (failed StorageError (cut (length s.stack - f.takes) s.stack) s) _ e (λ j. refl))

  entering_at_counts : (f : CodeSub) (m to : ℕ) (fit : Bool) (s : State) → s.left ≡ None → Counts (entering_at limit f m to fit s) 0 (λ n. entering_at limit f m to fit (counting n s))
  entering_at_counts f m to fit s e = cond_counts (nat_lt s.calls 1000)
      (cond fit (Goes (entered_at f m to s)) (Goes (failed ConstraintError s.stack s))) (Goes (failed StorageError s.stack s)) 0
      (λ n. cond fit (Goes (entered_at f m to (counting n s))) (Goes (failed ConstraintError s.stack (counting n s)))) (λ n. Goes (failed StorageError s.stack (counting n s)))
      (cond_counts fit (Goes (entered_at f m to s)) (Goes (failed ConstraintError s.stack s)) 0 (λ n. Goes (entered_at f m to (counting n s))) (λ n. Goes (failed ConstraintError s.stack (counting n s)))
      (still (entered_at f m to s) _ e (λ j. refl)) (still (failed ConstraintError s.stack s) _ e (λ j. refl)))
      (still (failed StorageError s.stack s) _ e (λ j. refl))

  combining_counts : (f : CodeSub) (acc : ℤ) (st parts : List ℤ) (s : State) → s.left ≡ None → Counts (combining limit f acc st parts s) (kept_looks parts) (λ n. combining limit f acc st parts (counting n s))
  combining_counts f acc st [] s e = still (on (acc ∷ st) s) _ e (λ j. refl)
  combining_counts f acc st (part ∷ parts) s e = turned_counts s (λ s. entering limit f s.pc parts (record s { stack = part ∷ acc ∷ st })) e (entering_counts f s.pc parts (record s { turns = s.turns + 1; stack = part ∷ acc ∷ st }) e)

  drawing_counts : (parts : List ℤ) (s : State) → s.left ≡ None → Counts (drawing limit parts s) 0 (λ n. drawing limit parts (counting n s))
  drawing_counts [] s e = still (on (pos 0 ∷ pos 0 ∷ s.stack) s) _ e (λ j. refl)
  drawing_counts (part ∷ parts) s e = still (on (pos 1 ∷ part ∷ s.stack) (record s { kept = parts })) _ e (λ j. refl)

  another_counts : (to head more : ℕ) (rs : List Round) (s : State) → s.left ≡ None → Counts (another limit to head more rs s) 0 (λ n. another limit to head more rs (counting n s))
  another_counts to head zero rs s e = still (on s.stack (record s { rounds = rs })) _ e (λ j. refl)
  another_counts to head (suc k) rs s e =
      let next : State = moved_to to s.stack (record s { rounds = record { more = k; head = head } ∷ rs }) in
      cond_counts (nat_eq head to) (Goes next) (Goes (on s.stack (record s { rounds = rs }))) 0 (λ n. Goes (counting n next)) (λ n. Goes (on s.stack (counting n (record s { rounds = rs }))))
      (still next _ e (λ j. refl)) (still (on s.stack (record s { rounds = rs })) _ e (λ j. refl))

  rounding_counts : (to : ℕ) (rs : List Round) (s : State) → s.left ≡ None → Counts (rounding limit to rs s) 0 (λ n. rounding limit to rs (counting n s))
  rounding_counts to [] s e = still (on s.stack s) _ e (λ j. refl)
  rounding_counts to (r ∷ rs) s e = another_counts to r.head r.more rs s e

  ending_counts : (v : Option ℤ) (st : List ℤ) (fs : List Frame) (s : State) → s.left ≡ None → Counts (ending limit v st fs s) 0 (λ n. ending limit v st fs (counting n s))
  ending_counts v st [] s e = stops Astray s _ (λ j. refl)
  ending_counts v st (f ∷ fs) s e = still (ended f fs f.to (pushed_for v (cut s.floor st)) s) _ e (λ j. refl)

  nesting_counts : (s : State) → s.left ≡ None → Counts (nesting limit s) 0 (λ n. nesting limit (counting n s))
  nesting_counts s e = cond_counts (nat_lt s.nested 16) (Goes (on s.stack (record s { nest = s.nest + 1; nested = s.nested + 1 }))) (Goes (failed StorageError s.stack s)) 0 (λ n. Goes (on s.stack (counting n (record s { nest = s.nest + 1; nested = s.nested + 1 })))) (λ n. Goes (failed StorageError s.stack (counting n s)))
      (still (on s.stack (record s { nest = s.nest + 1; nested = s.nested + 1 })) _ e (λ j. refl)) (still (failed StorageError s.stack s) _ e (λ j. refl))

  done_counts : (d : Deed) (s : State) → s.left ≡ None → Counts (done limit d s) (deed_looks d s) (λ n. done limit d (counting n s))
  done_counts Lacks s e = stops Astray s _ (λ j. refl)
  done_counts (GoesOn to st) s e = still (record s { pc = to; stack = st }) _ e (λ j. refl)
  done_counts (Fails r st) s e = still (failed r st s) _ e (λ j. refl)
  done_counts (Loads a k) s e = value_counts (seen s.cells a) s (λ v. done limit (k v) s) (λ v. deed_looks (k v) s) (λ v n. done limit (k v) (counting n s)) (λ v. done_counts (k v) s e)
  done_counts (Stores a v d) s e = cells_counts (written s.cells a v) s (λ s. done limit d s) (λ w. deed_looks d (record s { cells = w })) (λ w. done_counts d (record s { cells = w }) e)
  done_counts (Points a d) s e = pointing_counts (points s.cells a) s (done limit d s) (deed_looks d s) (λ n. done limit d (counting n s)) (done_counts d s e)
  done_counts Turns s e = turned_counts s (λ s. Goes (on s.stack s)) e (still (on s.stack (record s { turns = s.turns + 1 })) _ e (λ j. refl))
  done_counts (Calls f) s e = turned_counts s (λ x. entering limit f (s.pc + 1) s.kept x) e (entering_counts f (s.pc + 1) s.kept (record s { turns = s.turns + 1 }) e)
  done_counts (CallsAt f n to fit st) s e = turned_counts s (λ x. entering_at limit f n to fit (record x { stack = st })) e (entering_at_counts f n to fit (record s { turns = s.turns + 1; stack = st }) e)
  done_counts (Combines f acc st) s e = combining_counts f acc st s.kept s e
  done_counts Draws s e = drawing_counts s.kept s e
  done_counts (Repeats n) s e = still (on s.stack (record s { rounds = record { more = n - 1; head = s.pc + 1 } ∷ s.rounds })) _ e (λ j. refl)
  done_counts (Rounds to) s e = rounding_counts to s.rounds s e
  done_counts (Ends v st) s e = ending_counts v st s.waiting s e
  done_counts (Leaves l st) s e = stops (Left l) (record s { stack = st }) _ (λ j. refl)
  done_counts (Forks q st) s e = stops (Constructs q) (record s { stack = st }) _ (λ j. refl)
  done_counts Nests s e = subst (λ w. Counts w 1 (λ n. done limit Nests (counting n s))) (sym (ap (λ o. look_by o s (nesting limit)) e)) (look_counts (nesting limit s) (λ n. nesting limit (counting n s)) (nesting_counts s e) (λ n. done limit Nests (counting n s)) (λ n. refl))
  done_counts Unnests s e = still (on s.stack (record s { nest = s.nest - 1; nested = s.nested - 1 })) _ e (λ j. refl)
  done_counts (Writes text st) s e = still (on st (record s { line = s.line ++ text })) _ e (λ j. refl)
  done_counts (Sends feed) s e = stops (Asks (io.Write (s.line ++ cond feed (10 ∷ []) []))) (record s { line = [] }) _ (λ j. refl)
  done_counts Gets s e = stops (Asks io.Take) s _ (λ j. refl)
  done_counts (Gives v st) s e = stops (Done v) (record s { stack = st }) _ (λ j. refl)

  unwound_counts : (r : Reason) (fs : List Frame) (s : State) → s.left ≡ None → Counts (unwound r fs s) 0 (λ n. unwound r fs (counting n s))
  unwound_counts r [] s e = stops (Left (Raises r)) s _ (λ j. refl)
  unwound_counts r (f ∷ fs) s e = still (ended f fs f.at (cut s.floor s.stack) s) _ e (λ j. refl)

  raised_counts : (r : Reason) (o : Option Unwind) (s : State) → s.left ≡ None → Counts (raised r o s) (raise_looks o) (λ n. raised r o (counting n s))
  raised_counts r (Some u) s e = subst (λ w. Counts w 1 (λ n. raised r (Some u) (counting n s))) (sym (ap (λ o. look_by o s (λ s. Goes (handled u r s))) e))
      (look_counts (Goes (handled u r s)) (λ n. Goes (handled u r (counting n s))) (still (handled u r s) _ e (λ j. refl)) (λ n. raised r (Some u) (counting n s)) (λ n. refl))
  raised_counts r None s e = unwound_counts r s.waiting s e

  acted_counts : (o : Option Instr) (s : State) → s.left ≡ None → Counts (acted limit c o s) (act_looks c o s) (λ n. acted limit c o (counting n s))
  acted_counts None s e = stops Astray s _ (λ j. refl)
  acted_counts (Some i) s e = done_counts (deed_of c s.pc s.stack s.base s.outward i) s e

  stepped_counts : (o : Option Reason) (s : State) → s.left ≡ None → Counts (stepped limit c o s) (step_looks c o s) (λ n. stepped limit c o (counting n s))
  stepped_counts None s e = acted_counts (slice_get c.instrs s.pc) s e
  stepped_counts (Some r) s e = raised_counts r (entry_of c.unwind s.pc) s e

  -- one step
  pub step_counts : (s : State) → s.left ≡ None → Counts (step limit c s) (looks_of c s) (λ n. step limit c (counting n s))
  step_counts s e = stepped_counts s.raising s e

  pub looks_one : (p q : State) → p.left ≡ None → step limit c p ≡ Goes q → (q.left ≡ None) × Looks limit c (looks_of c p) p q
  looks_one p q e f = let h : Counts (Goes q) (looks_of c p) (λ n. step limit c (counting n p)) = subst (λ w. Counts w (looks_of c p) (λ n. step limit c (counting n p))) f (step_counts p e) in
      (h.0, λ j. comes_one limit c (counting (looks_of c p + j) p) (counting j q) (h.1 j))

  pub looks_stop : (p : State) (x : Stop) (q : State) → p.left ≡ None → step limit c p ≡ Stops x q → Looks_to limit c (looks_of c p) p x q
  looks_stop p x q e f = let h : Counts (Stops x q) (looks_of c p) (λ n. step limit c (counting n p)) = subst (λ w. Counts w (looks_of c p) (λ n. step limit c (counting n p))) f (step_counts p e) in
      λ j. stops_one limit c (counting (looks_of c p + j) p) x (counting j q) (h j)

  -- one run after another
  pub looks_on : (a b : ℕ) (p q r : State) → Looks limit c a p q → Looks limit c b q r → Looks limit c (a + b) p r
  looks_on a b p q r h g j = subst (λ n. Comes limit c (counting n p) (counting j r)) (let z : a + (b + j) ≡ a + b + j = omega arith in z) (comes_on limit c (counting (a + (b + j)) p) (counting (b + j) q) (counting j r) (h (b + j)) (g j))

  pub looks_end : (a b : ℕ) (p q : State) (x : Stop) (r : State) → Looks limit c a p q → Looks_to limit c b q x r → Looks_to limit c (a + b) p x r
  looks_end a b p q x r h g j = subst (λ n. Comes_to limit c (counting n p) x (counting j r)) (let z : a + (b + j) ≡ a + b + j = omega arith in z) (stops_on limit c (counting (a + (b + j)) p) (counting (b + j) q) x (counting j r) (h (b + j)) (g j))

  pub looks_none : (p : State) → Looks limit c 0 p p
  looks_none p j = subst (λ n. Comes limit c (counting n p) (counting j p)) (let z : j ≡ 0 + j = omega arith in z) (record { steps = 0; leads = refl })

  -- a run that stands before a look, after so many, is cut there when that is all that it may take
  pub looks_cut : (n : ℕ) (p q : State) → Looks limit c n p q → IsAtLook limit c q → Comes_to limit c (counting n p) Cut (counting 0 q)
  looks_cut n p q h l = subst (λ k. Comes_to limit c (counting k p) Cut (counting 0 q)) (let z : n + 0 ≡ n = omega arith in z) (stops_on limit c (counting (n + 0) p) (counting 0 q) Cut (counting 0 q) (h 0) (stops_one limit c (counting 0 q) Cut (counting 0 q) l))

  -- ---- runs

  run_first : (m : ℕ) (q : State) (w : Went) → ((s : State) → w ≡ Goes s → run limit c m s ≡ Goes q → (k : ℕ) × Looks limit c k s q) → (p : State) → p.left ≡ None → step limit c p ≡ w → going limit c w (λ s. run limit c m s) ≡ Goes q → (k : ℕ) × Looks limit c k p q
  run_first m q (Goes s) ih p e f g = let r = ih s refl g in (looks_of c p + r.0, looks_on (looks_of c p) r.0 p s q (looks_one p s e f).1 r.1)
  run_first m q (Stops x s) ih p e f g = cc

  run_looks : (m : ℕ) (p q : State) → p.left ≡ None → run limit c m p ≡ Goes q → (k : ℕ) × Looks limit c k p q
  run_looks zero p q e g = let s : p ≡ q = cc in (0, subst (Looks limit c 0 p) s (looks_none p))
  run_looks (suc m) p q e g = run_first m q (step limit c p) (λ s f h. run_looks m s q (looks_one p s e f).0 h) p e refl g

  -- a run that stands before a look is, counted by its looks, cut there
  pub cut_there : (p q : State) → p.left ≡ None → Comes limit c p q → IsAtLook limit c q → (k : ℕ) × Comes_to limit c (counting k p) Cut (counting 0 q)
  cut_there p q e h l = let r = run_looks h.steps p q e h.leads in (r.0, looks_cut r.0 p q r.1 l)
