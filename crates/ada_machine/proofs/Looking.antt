-- The looks that a machine counts are those of the run that it makes.
use Rattle.std.proofs.Common.{◌≡◌, ℕ, zero, suc, ◌+◌, ◌-◌, ℤ, List, [], ◌∷◌, reverse, min, Option, Some, None, Bool as Bools, true, false, cond, refl, sym, ap, ◌∙◌, subst, arith}
use Rattle.std.specs.Prelude.{◌^◌, slice_get}
use Rattle.ada_base.specs.Cells.{Cell, seen, written}
use Rattle.ada_base.specs.declared.reason.Reason.{Reason}
use Rattle.ada_base.specs.declared.reason.Reason.TheVariants.{StorageError}
use Rattle.stack_code.specs.declared.path.Asked.{Asked}
use Rattle.stack_code.specs.declared.code.Code.{Code}
use Rattle.stack_code.specs.declared.instr.Instr.{Instr}
use Rattle.stack_code.specs.declared.instr.Instr.TheVariants.{Call, CallAt, CallTo, Part, Repeat, Again, Combine, Ret, RetV, Exit, Leave, LeaveV, Fork, Unnest, Words, Img, UImg, Bool, Wide, Send, SendLn, Get, End, EndV, Halt}
use Rattle.stack_code.specs.Deeds as Deeds
use Rattle.stack_code.specs.Deeds.{Deed, called, called_at, truth, GoesOn, Fails, Loads, Stores, Points, Forks, on_one, forked, can_fork, asked, many, deed_of}
use Rattle.stack_code.specs.Machine.{State, Goes, Stop, step, Comes_to, entry_of, points}
use Rattle.stack_code.specs.Looks.{counting, value_looks, cells_looks, kept_looks, deed_looks, act_looks, step_looks, looks_of, raise_looks, Looks, Looks_to}
use Rattle.stack_code.proofs.Looks.{looks_one, looks_stop, looks_on, looks_end, looks_none, looks_cut}
use Rattle.ada_machine.specs.declared.machine.Machine.{Machine}
use Rattle.ada_machine.specs.declared.machine.Stop as stops
use Rattle.ada_machine.specs.declared.machine.Stop.TheVariants as stop
use Rattle.ada_machine.specs.declared.machine.Went as wents
use Rattle.ada_machine.specs.declared.machine.Went.TheVariants as went
use Rattle.ada_machine.specs.Played.{Played, Neither, Onward, Raised, on_value, on_cells, plays}
use Rattle.ada_machine.specs.States.{state_of, Ready, EndsAt, more, LooksBy, TookLooks}
use Rattle.ada_machine.proofs.Doings.{fine_at, sub_at, sub_to, sub_there, sub_with, top}

more_both : (a n k : ℕ) → more (more a n) k ≡ more a (n + k)
more_both a n zero = ap (more a) (let z : n ≡ n + 0 = omega arith in z)
more_both a zero (suc k) = ap (more a) (let z : suc k ≡ 0 + suc k = omega arith in z)
more_both a (suc n) (suc k) = (let z : min (min (a + suc n) (2 ^ 64 - 1) + suc k) (2 ^ 64 - 1) ≡ min (a + suc (n + suc k)) (2 ^ 64 - 1) = omega arith in z) ∙ ap (more a) (let z : suc (n + suc k) ≡ suc n + suc k = omega arith in z)

pub more_on : (a b d n k : ℕ) → b ≡ more a n → d ≡ more b k → d ≡ more a (n + k)
more_on a b d n k e f = f ∙ ap (λ x. more x k) e ∙ more_both a n k

-- ---- how many looks an instruction takes

-- at an instruction, where no exception is raised
pub looks_here : (c : Code) (s : State) (i : Instr) → s.raising ≡ None → slice_get c.instrs s.pc ≡ Some i → looks_of c s ≡ deed_looks (deed_of c s.pc s.stack s.base s.outward i) s
looks_here c s i e f = ap (λ o. step_looks c o s) e ∙ ap (λ o. act_looks c o s) f

pub looks_raising : (c : Code) (s : State) (r : Reason) → s.raising ≡ Some r → looks_of c s ≡ raise_looks (entry_of c.unwind s.pc)
looks_raising c s r e = ap (λ o. step_looks c o s) e

-- with operands and cells alone none
value_none : (o : Option ℤ) (k : ℤ → Played) (n : ℤ → ℕ) (to : ℕ) (st : List ℤ) (w : List Cell) → on_value o k ≡ Onward to st w → ((v : ℤ) → k v ≡ Onward to st w → n v ≡ 0) → value_looks o n ≡ 0
value_none None k n to st w e h = refl
value_none (Some v) k n to st w e h = h v e

cells_none : (o : Option (List Cell)) (k : List Cell → Played) (n : List Cell → ℕ) (to : ℕ) (st : List ℤ) (w : List Cell) → on_cells o k ≡ Onward to st w → ((v : List Cell) → k v ≡ Onward to st w → n v ≡ 0) → cells_looks o n ≡ 0
cells_none None k n to st w e h = refl
cells_none (Some v) k n to st w e h = h v e

points_none : (b : Bools) (p : Played) (n : ℕ) (to : ℕ) (st : List ℤ) (w : List Cell) → cond b p Neither ≡ Onward to st w → (p ≡ Onward to st w → n ≡ 0) → cond b n 0 ≡ 0
points_none false p n to st w e h = refl
points_none true p n to st w e h = h e

pub onward_none : (d : Deed) (s : State) (to : ℕ) (st : List ℤ) (w : List Cell) → plays d s.cells ≡ Onward to st w → deed_looks d s ≡ 0
onward_none (GoesOn q x) s to st w e = refl
onward_none (Loads a k) s to st w e = value_none (seen s.cells a) (λ v. plays (k v) s.cells) (λ v. deed_looks (k v) s) to st w e (λ v g. onward_none (k v) s to st w g)
onward_none (Stores a v d) s to st w e = cells_none (written s.cells a v) (λ x. plays d x) (λ x. deed_looks d (record s { cells = x })) to st w e (λ x g. onward_none d (record s { cells = x }) to st w g)
onward_none (Points a d) s to st w e = points_none (points s.cells a) (plays d s.cells) (deed_looks d s) to st w e (λ g. onward_none d s to st w g)
onward_none d s to st w e = cc

value_raised : (o : Option ℤ) (k : ℤ → Played) (n : ℤ → ℕ) (r : Reason) (st : List ℤ) (w : List Cell) → on_value o k ≡ Raised r st w → ((v : ℤ) → k v ≡ Raised r st w → n v ≡ 0) → value_looks o n ≡ 0
value_raised None k n r st w e h = refl
value_raised (Some v) k n r st w e h = h v e

cells_raised : (o : Option (List Cell)) (k : List Cell → Played) (n : List Cell → ℕ) (r : Reason) (st : List ℤ) (w : List Cell) → on_cells o k ≡ Raised r st w → ((v : List Cell) → k v ≡ Raised r st w → n v ≡ 0) → cells_looks o n ≡ 0
cells_raised None k n r st w e h = refl
cells_raised (Some v) k n r st w e h = h v e

points_raised : (b : Bools) (p : Played) (n : ℕ) (r : Reason) (st : List ℤ) (w : List Cell) → cond b p Neither ≡ Raised r st w → (p ≡ Raised r st w → n ≡ 0) → cond b n 0 ≡ 0
points_raised false p n r st w e h = refl
points_raised true p n r st w e h = h e

pub raised_none : (d : Deed) (s : State) (r : Reason) (st : List ℤ) (w : List Cell) → plays d s.cells ≡ Raised r st w → deed_looks d s ≡ 0
raised_none (Fails q x) s r st w e = refl
raised_none (Loads a k) s r st w e = value_raised (seen s.cells a) (λ v. plays (k v) s.cells) (λ v. deed_looks (k v) s) r st w e (λ v g. raised_none (k v) s r st w g)
raised_none (Stores a v d) s r st w e = cells_raised (written s.cells a v) (λ x. plays d x) (λ x. deed_looks d (record s { cells = x })) r st w e (λ x g. raised_none d (record s { cells = x }) r st w g)
raised_none (Points a d) s r st w e = points_raised (points s.cells a) (plays d s.cells) (deed_looks d s) r st w e (λ g. raised_none d s r st w g)
raised_none d s r st w e = cc

-- those that ask for more, but begin nothing
abbrev IsQuiet : Instr → Type 0
IsQuiet Ret = Unit {0}
IsQuiet RetV = Unit {0}
IsQuiet (Exit loop) = Unit {0}
IsQuiet Leave = Unit {0}
IsQuiet LeaveV = Unit {0}
IsQuiet (Fork site) = Unit {0}
IsQuiet Unnest = Unit {0}
IsQuiet (Words text) = Unit {0}
IsQuiet Img = Unit {0}
IsQuiet UImg = Unit {0}
IsQuiet Bool = Unit {0}
IsQuiet (Wide width) = Unit {0}
IsQuiet Send = Unit {0}
IsQuiet SendLn = Unit {0}
IsQuiet Get = Unit {0}
IsQuiet End = Unit {0}
IsQuiet EndV = Unit {0}
IsQuiet Halt = Unit {0}
IsQuiet Part = Unit {0}
IsQuiet (Repeat rounds) = Unit {0}
IsQuiet (Again to) = Unit {0}
IsQuiet i = ⊥

one_none : (s : State) (st : List ℤ) (k : ℤ → List ℤ → Deed) → ((x : ℤ) (rest : List ℤ) → deed_looks (k x rest) s ≡ 0) → deed_looks (on_one st k) s ≡ 0
one_none s [] k h = refl
one_none s (x ∷ rest) k h = h x rest

either_none : (s : State) (st : List ℤ) (q : Asked) (b : Bools) → deed_looks (cond b (Forks q st) (Fails StorageError st)) s ≡ 0
either_none s st q true = refl
either_none s st q false = refl

fork_none : (s : State) (site : ℕ) (st : List ℤ) → deed_looks (forked site st) s ≡ 0
fork_none s site [] = refl
fork_none s site (a ∷ []) = refl
fork_none s site (a ∷ b ∷ []) = refl
fork_none s site (a ∷ b ∷ d ∷ []) = refl
fork_none s site (a ∷ b ∷ d ∷ e ∷ []) = refl
fork_none s site (initial ∷ last_chunk ∷ chunk ∷ last ∷ first ∷ st) = either_none s st (asked site first last chunk last_chunk initial) (can_fork (many first last) (many chunk last_chunk))

quiet_none : (c : Code) (s : State) (i : Instr) → IsQuiet i → deed_looks (deed_of c s.pc s.stack s.base s.outward i) s ≡ 0
quiet_none c s Ret q = refl
quiet_none c s RetV q = one_none s s.stack _ (λ x rest. refl)
quiet_none c s (Exit loop) q = refl
quiet_none c s Leave q = refl
quiet_none c s LeaveV q = one_none s s.stack _ (λ x rest. refl)
quiet_none c s (Fork site) q = fork_none s site s.stack
quiet_none c s Unnest q = refl
quiet_none c s (Words text) q = refl
quiet_none c s Img q = one_none s s.stack _ (λ x rest. refl)
quiet_none c s UImg q = one_none s s.stack _ (λ x rest. refl)
quiet_none c s Bool q = one_none s s.stack _ (λ x rest. refl)
quiet_none c s (Wide width) q = one_none s s.stack _ (λ x rest. refl)
quiet_none c s Send q = refl
quiet_none c s SendLn q = refl
quiet_none c s Get q = refl
quiet_none c s End q = refl
quiet_none c s EndV q = one_none s s.stack _ (λ x rest. refl)
quiet_none c s Halt q = refl
quiet_none c s Part q = refl
quiet_none c s (Repeat rounds) q = refl
quiet_none c s (Again to) q = refl
quiet_none c s i q = absurd q

-- no look was taken, and none counted
by_none : (w : wents.Went) (old new : ℕ) → new ≡ old → LooksBy w old new 0
by_none went.On old new e = e
by_none went.Raising old new e = e
by_none (went.Stopped (stop.Done v)) old new e = e
by_none (went.Stopped (stop.Left x)) old new e = e
by_none (went.Stopped (stop.Construct a)) old new e = e
by_none (went.Stopped (stop.Ask io)) old new e = e
by_none (went.Stopped stop.Spent) old new e = e
by_none (went.Stopped stop.Paused) old new e = e
by_none (went.Stopped stop.NoMemory) old new e = e

pub none_looks : (c : Code) (s : State) (i : Instr) (w : wents.Went) (old new : ℕ) → s.raising ≡ None → slice_get c.instrs s.pc ≡ Some i → deed_looks (deed_of c s.pc s.stack s.base s.outward i) s ≡ 0 → new ≡ old → LooksBy w old new (looks_of c s)
none_looks c s i w old new e f q g = subst (LooksBy w old new) (sym (looks_here c s i e f ∙ q)) (by_none w old new g)

pub same_looks : (c : Code) (s : State) (i : Instr) (w : wents.Went) (old new k : ℕ) → s.raising ≡ None → slice_get c.instrs s.pc ≡ Some i → deed_looks (deed_of c s.pc s.stack s.base s.outward i) s ≡ k → LooksBy w old new k → LooksBy w old new (looks_of c s)
same_looks c s i w old new k e f q h = subst (LooksBy w old new) (sym (looks_here c s i e f ∙ q)) h

-- calls
pub call_looks : (c : Code) (m : Machine) (cells : List Cell) (r : Ready c m cells) (calm : m.raising ≡ None) (k : ℕ) → slice_get c.instrs m.pc ≡ Some (Call k) → deed_looks (deed_of c m.pc (reverse m.stack.items) m.base m.outward.items (Call k)) (state_of m cells) ≡ 1
call_looks c m cells r calm k at = ap (λ o. deed_looks (called (reverse m.stack.items) o) (state_of m cells)) (sub_there c m cells r calm k at).1

pub window_looks : (c : Code) (m : Machine) (cells : List Cell) (r : Ready c m cells) (calm : m.raising ≡ None) (k n : ℕ) → slice_get c.instrs m.pc ≡ Some (CallAt k n) → deed_looks (deed_of c m.pc (reverse m.stack.items) m.base m.outward.items (CallAt k n)) (state_of m cells) ≡ 1
window_looks c m cells r calm k n at = ap (λ o. deed_looks (called_at n (m.pc + 1) true (reverse m.stack.items) o) (state_of m cells)) (sub_at c m cells r calm k n at).1

pub return_looks : (c : Code) (m : Machine) (cells : List Cell) (r : Ready c m cells) (calm : m.raising ≡ None) (k n t : ℕ) → slice_get c.instrs m.pc ≡ Some (CallTo k n t) → deed_looks (deed_of c m.pc (reverse m.stack.items) m.base m.outward.items (CallTo k n t)) (state_of m cells) ≡ 1
return_looks c m cells r calm k n t at =
    let x = fine_at c m cells (CallTo k n t) r calm at in
    let v = top m.stack.items x.operands in
    ap (λ st. deed_looks (deed_of c m.pc st m.base m.outward.items (CallTo k n t)) (state_of m cells)) v.2 ∙ ap (λ o. deed_looks (called_at n t (truth v.0) v.1 o) (state_of m cells)) (sub_to c m cells r calm k n t at).1

pub combine_looks : (c : Code) (m : Machine) (cells : List Cell) (r : Ready c m cells) (calm : m.raising ≡ None) (k : ℕ) → slice_get c.instrs m.pc ≡ Some (Combine k) → deed_looks (deed_of c m.pc (reverse m.stack.items) m.base m.outward.items (Combine k)) (state_of m cells) ≡ kept_looks (reverse m.kept.items)
combine_looks c m cells r calm k at =
    let x = fine_at c m cells (Combine k) r calm at in
    let t = top m.stack.items x.operands in
    let f = sub_with c m cells r calm k at in
    ap (λ st. deed_looks (deed_of c m.pc st m.base m.outward.items (Combine k)) (state_of m cells)) t.2 ∙ ap (λ o. deed_looks (Deeds.combining o t.0 t.1) (state_of m cells)) f.1

pub quiet_looks : (c : Code) (s : State) (i : Instr) (w : wents.Went) (old new : ℕ) → s.raising ≡ None → slice_get c.instrs s.pc ≡ Some i → IsQuiet i → new ≡ old → LooksBy w old new (looks_of c s)
quiet_looks c s i w old new e f q g = subst (LooksBy w old new) (sym (looks_here c s i e f ∙ quiet_none c s i q)) (by_none w old new g)

-- ---- runs

module _ (limit : ℕ) (c : Code) where
  -- a step after a run
  pub looked_step : (p q r : State) (old mid new : ℕ) → (n : ℕ) × (mid ≡ more old n) × Looks limit c n p q → q.left ≡ None → step limit c q ≡ Goes r → new ≡ more mid (looks_of c q) → (n : ℕ) × (new ≡ more old n) × Looks limit c n p r
  looked_step p q r old mid new h e f g = (h.0 + looks_of c q, more_on old mid new h.0 (looks_of c q) h.1 g, looks_on limit c h.0 (looks_of c q) p q r h.2 (looks_one limit c q r e f).1)

  pub looked_run : (p q r : State) (old mid new : ℕ) → (n : ℕ) × (mid ≡ more old n) × Looks limit c n p q → (n : ℕ) × (new ≡ more mid n) × Looks limit c n q r → (n : ℕ) × (new ≡ more old n) × Looks limit c n p r
  looked_run p q r old mid new h g = (h.0 + g.0, more_on old mid new h.0 g.0 h.1 g.1, looks_on limit c h.0 g.0 p q r h.2 g.2)

  pub looked_none : (p : State) (old : ℕ) → (n : ℕ) × (old ≡ more old n) × Looks limit c n p p
  looked_none p old = (0, refl, looks_none limit c p)

  ends : (x : Stop) (p q r : State) (old mid new : ℕ) → (n : ℕ) × (mid ≡ more old n) × Looks limit c n p q → q.left ≡ None → step limit c q ≡ Rattle.stack_code.specs.Machine.Stops x r → new ≡ more mid (looks_of c q) → (n : ℕ) × (new ≡ more old n) × Looks_to limit c n p x r
  ends x p q r old mid new h e f g = (h.0 + looks_of c q, more_on old mid new h.0 (looks_of c q) h.1 g, looks_end limit c h.0 (looks_of c q) p q x r h.2 (looks_stop limit c q x r e f))

  -- the last step of a run
  pub looked_stops : (s : stops.Stop) (p q r : State) (old mid new : ℕ) → (n : ℕ) × (mid ≡ more old n) × Looks limit c n p q → q.left ≡ None → EndsAt limit c s q r → LooksBy (went.Stopped s) mid new (looks_of c q) → TookLooks limit c s old new p r
  looked_stops (stop.Done v) p q r old mid new h e f g = ends _ p q r old mid new h e f g
  looked_stops (stop.Left x) p q r old mid new h e f g = ends _ p q r old mid new h e f g
  looked_stops (stop.Construct a) p q r old mid new h e f g = ends _ p q r old mid new h e f g
  looked_stops (stop.Ask io) p q r old mid new h e f g = ends _ p q r old mid new h e f g
  looked_stops stop.Spent p q r old mid new h e f g = ends _ p q r old mid new h e f g
  looked_stops stop.Paused p q r old mid new h e f g =
      (h.0, g ∙ h.1, subst (λ x. Looks limit c h.0 p x × Comes_to limit c (counting h.0 p) Rattle.stack_code.specs.Machine.Cut (counting 0 x)) (sym f.0) (h.2, looks_cut limit c h.0 p q h.2 f.1))
  looked_stops stop.NoMemory p q r old mid new h e f g = (h.0, g ∙ h.1, subst (Looks limit c h.0 p) (sym f.0) h.2)

  later : (x : Stop) (p q r : State) (old mid new : ℕ) → (n : ℕ) × (mid ≡ more old n) × Looks limit c n p q → (n : ℕ) × (new ≡ more mid n) × Looks_to limit c n q x r → (n : ℕ) × (new ≡ more old n) × Looks_to limit c n p x r
  later x p q r old mid new h g = (h.0 + g.0, more_on old mid new h.0 g.0 h.1 g.1, looks_end limit c h.0 g.0 p q x r h.2 g.2)

  -- a run that stops after another
  pub looked_later : (s : stops.Stop) (p q r : State) (old mid new : ℕ) → (n : ℕ) × (mid ≡ more old n) × Looks limit c n p q → TookLooks limit c s mid new q r → TookLooks limit c s old new p r
  looked_later (stop.Done v) p q r old mid new h g = later _ p q r old mid new h g
  looked_later (stop.Left x) p q r old mid new h g = later _ p q r old mid new h g
  looked_later (stop.Construct a) p q r old mid new h g = later _ p q r old mid new h g
  looked_later (stop.Ask io) p q r old mid new h g = later _ p q r old mid new h g
  looked_later stop.Spent p q r old mid new h g = later _ p q r old mid new h g
  looked_later stop.Paused p q r old mid new h g =
      (h.0 + g.0, more_on old mid new h.0 g.0 h.1 g.1, (looks_on limit c h.0 g.0 p q r h.2 g.2.0, Rattle.stack_code.proofs.Runs.stops_on limit c (counting (h.0 + g.0) p) (counting g.0 q) Rattle.stack_code.specs.Machine.Cut (counting 0 r) (h.2 g.0) g.2.1))
  looked_later stop.NoMemory p q r old mid new h g = (h.0 + g.0, more_on old mid new h.0 g.0 h.1 g.1, looks_on limit c h.0 g.0 p q r h.2 g.2)
