-- One step of a machine, by its instruction.
use Rattle.std.proofs.Common.{◌≡◌, ℕ, ◌≤◌, ℤ, List, Option, Some, None, Bool, true, false, cond, refl, ap, ◌∙◌}
use Rattle.std.specs.Prelude.{IsSomeAnd, slice_get}
use Rattle.ada_base.specs.declared.reason.Reason.{Reason}
use Rattle.stack_code.specs.declared.code.Code.{Code}
use Rattle.stack_code.specs.declared.instr.Instr.{Instr}
use Rattle.ada_base.specs.Cells.{Cell, seen, written}
use Rattle.stack_code.specs.Deeds.{Deed, GoesOn, Fails, Loads, Stores, Points, deed_of}
use Rattle.stack_code.specs.Machine.{State, Went, Goes, Stops, Stuck, with_value, with_cells, points, if_pointing, acted, stepped, step, done}
use Rattle.stack_code.specs.Runs.{NeverStuck}
use Rattle.stack_code.proofs.Runs.{stops_one, falls_one, within_one}
use Rattle.ada_machine.specs.declared.machine.Machine.{Machine}
use Rattle.ada_machine.specs.declared.machine.Stop as stops
use Rattle.ada_machine.specs.declared.machine.Went.TheVariants as went
use Rattle.ada_machine.specs.Played.{IsClear, Played, Neither, Onward, Raised, on_value, on_cells, plays}
use Rattle.ada_machine.specs.States.{state_of, Ready, ReadyAfter, EndsAt, Steps}

-- ---- deeds with operands and cells alone

value_plays : (o : Option ℤ) (s t : State) (k : ℤ → Played) (j : ℤ → Went) (to : ℕ) (st : List ℤ) (cells : List Cell) → on_value o k ≡ Onward to st cells → ((v : ℤ) → k v ≡ Onward to st cells → j v ≡ Goes t) → with_value o s j ≡ Goes t
value_plays None s t k j to st cells e h = cc
value_plays (Some v) s t k j to st cells e h = h v e

cells_plays : (o : Option (List Cell)) (s t : State) (k : List Cell → Played) (j : State → Went) (to : ℕ) (st : List ℤ) (cells : List Cell) → on_cells o k ≡ Onward to st cells → ((w : List Cell) → k w ≡ Onward to st cells → j (record s { cells = w }) ≡ Goes t) → with_cells o s j ≡ Goes t
cells_plays None s t k j to st cells e h = cc
cells_plays (Some w) s t k j to st cells e h = h w e

points_plays : (b : Bool) (s t : State) (p : Played) (j : Went) (to : ℕ) (st : List ℤ) (cells : List Cell) → cond b p Neither ≡ Onward to st cells → (p ≡ Onward to st cells → j ≡ Goes t) → if_pointing b s j ≡ Goes t
points_plays false s t p j to st cells e h = cc
points_plays true s t p j to st cells e h = h e

pub done_plays : (limit : ℕ) (d : Deed) (s : State) (to : ℕ) (st : List ℤ) (cells : List Cell) → plays d s.cells ≡ Onward to st cells → done limit d s ≡ Goes (record s { pc = to; stack = st; cells = cells })
done_plays limit (GoesOn q w) s to st cells e =
    let a : q ≡ to = cc in
    let b : w ≡ st = cc in
    let f : s.cells ≡ cells = cc in
    ap (λ n. Goes (record s { pc = n; stack = w })) a ∙ ap (λ n. Goes (record s { pc = to; stack = n })) b ∙ ap (λ n. Goes (record s { pc = to; stack = st; cells = n })) f
done_plays limit (Loads a k) s to st cells e = value_plays (seen s.cells a) s (record s { pc = to; stack = st; cells = cells }) (λ v. plays (k v) s.cells) (λ v. done limit (k v) s) to st cells e (λ v g. done_plays limit (k v) s to st cells g)
done_plays limit (Stores a v d) s to st cells e = cells_plays (written s.cells a v) s (record s { pc = to; stack = st; cells = cells }) (λ w. plays d w) (λ s. done limit d s) to st cells e (λ w g. done_plays limit d (record s { cells = w }) to st cells g)
done_plays limit (Points a d) s to st cells e = points_plays (points s.cells a) s (record s { pc = to; stack = st; cells = cells }) (plays d s.cells) (done limit d s) to st cells e (λ g. done_plays limit d s to st cells g)
done_plays limit d s to st cells e = cc

value_raises : (o : Option ℤ) (s t : State) (k : ℤ → Played) (j : ℤ → Went) (r : Reason) (st : List ℤ) (cells : List Cell) → on_value o k ≡ Raised r st cells → ((v : ℤ) → k v ≡ Raised r st cells → j v ≡ Goes t) → with_value o s j ≡ Goes t
value_raises None s t k j r st cells e h = cc
value_raises (Some v) s t k j r st cells e h = h v e

cells_raises : (o : Option (List Cell)) (s t : State) (k : List Cell → Played) (j : State → Went) (r : Reason) (st : List ℤ) (cells : List Cell) → on_cells o k ≡ Raised r st cells → ((w : List Cell) → k w ≡ Raised r st cells → j (record s { cells = w }) ≡ Goes t) → with_cells o s j ≡ Goes t
cells_raises None s t k j r st cells e h = cc
cells_raises (Some w) s t k j r st cells e h = h w e

points_raises : (b : Bool) (s t : State) (p : Played) (j : Went) (r : Reason) (st : List ℤ) (cells : List Cell) → cond b p Neither ≡ Raised r st cells → (p ≡ Raised r st cells → j ≡ Goes t) → if_pointing b s j ≡ Goes t
points_raises false s t p j r st cells e h = cc
points_raises true s t p j r st cells e h = h e

pub done_raises : (limit : ℕ) (d : Deed) (s : State) (r : Reason) (st : List ℤ) (cells : List Cell) → plays d s.cells ≡ Raised r st cells → done limit d s ≡ Goes (record s { stack = st; raising = Some r; cells = cells })
done_raises limit (Fails q w) s r st cells e =
    let a : q ≡ r = cc in
    let b : w ≡ st = cc in
    let f : s.cells ≡ cells = cc in
    ap (λ n. Goes (record s { stack = w; raising = Some n })) a ∙ ap (λ n. Goes (record s { stack = n; raising = Some r })) b ∙ ap (λ n. Goes (record s { stack = st; raising = Some r; cells = n })) f
done_raises limit (Loads a k) s r st cells e = value_raises (seen s.cells a) s (record s { stack = st; raising = Some r; cells = cells }) (λ v. plays (k v) s.cells) (λ v. done limit (k v) s) r st cells e (λ v g. done_raises limit (k v) s r st cells g)
done_raises limit (Stores a v d) s r st cells e = cells_raises (written s.cells a v) s (record s { stack = st; raising = Some r; cells = cells }) (λ w. plays d w) (λ s. done limit d s) r st cells e (λ w g. done_raises limit d (record s { cells = w }) r st cells g)
done_raises limit (Points a d) s r st cells e = points_raises (points s.cells a) s (record s { stack = st; raising = Some r; cells = cells }) (plays d s.cells) (done limit d s) r st cells e (λ g. done_raises limit d s r st cells g)
done_raises limit d s r st cells e = cc

-- what isn't stuck finds its cells
value_clear : (o : Option ℤ) (s : State) (j : ℤ → Went) (P : ℤ → Type 0) → (((q : State) → with_value o s j ≡ Stops Stuck q → ⊥)) → ((v : ℤ) → ((q : State) → j v ≡ Stops Stuck q → ⊥) → P v) → IsSomeAnd o P
value_clear None s j P n h = n s refl
value_clear (Some v) s j P n h = h v n

cells_clear : (o : Option (List Cell)) (s : State) (j : State → Went) (P : List Cell → Type 0) → (((q : State) → with_cells o s j ≡ Stops Stuck q → ⊥)) → ((w : List Cell) → ((q : State) → j (record s { cells = w }) ≡ Stops Stuck q → ⊥) → P w) → IsSomeAnd o P
cells_clear None s j P n h = n s refl
cells_clear (Some w) s j P n h = h w n

points_clear : (b : Bool) (s : State) (j : Went) (P : Type 0) → (((q : State) → if_pointing b s j ≡ Stops Stuck q → ⊥)) → ((((q : State) → j ≡ Stops Stuck q → ⊥)) → P) → (b ≡ true) × P
points_clear false s j P n h = absurd (n s refl)
points_clear true s j P n h = (refl, h n)

pub clear_done : (limit : ℕ) (d : Deed) (s : State) → ((q : State) → done limit d s ≡ Stops Stuck q → ⊥) → IsClear d s.cells
clear_done limit (Loads a k) s n = value_clear (seen s.cells a) s (λ v. done limit (k v) s) (λ v. IsClear (k v) s.cells) n (λ v m. clear_done limit (k v) s m)
clear_done limit (Stores a v d) s n = cells_clear (written s.cells a v) s (λ s. done limit d s) (λ w. IsClear d w) n (λ w m. clear_done limit d (record s { cells = w }) m)
clear_done limit (Points a d) s n = points_clear (points s.cells a) s (done limit d s) (IsClear d s.cells) n (λ m. clear_done limit d s m)
clear_done limit d s n = tt

-- ---- the instruction at a state

module _ (limit : ℕ) (c : Code) (s : State) (i : Instr) (calm : s.raising ≡ None) (here : slice_get c.instrs s.pc ≡ Some i) where
  pub step_is : step limit c s ≡ done limit (deed_of c s.pc s.stack s.base s.outward i) s
  step_is = ap (λ o. stepped limit c o s) calm ∙ ap (λ o. acted limit c o s) here

  pub clear_here : NeverStuck limit c s → IsClear (deed_of c s.pc s.stack s.base s.outward i) s.cells
  clear_here n = clear_done limit (deed_of c s.pc s.stack s.base s.outward i) s (λ q e. n q (stops_one limit c s Stuck q (step_is ∙ e)))

  pub step_plays : (to : ℕ) (st : List ℤ) (cells : List Cell) → plays (deed_of c s.pc s.stack s.base s.outward i) s.cells ≡ Onward to st cells → step limit c s ≡ Goes (record s { pc = to; stack = st; cells = cells })
  step_plays to st cells e = step_is ∙ done_plays limit (deed_of c s.pc s.stack s.base s.outward i) s to st cells e

  pub step_raises : (r : Reason) (st : List ℤ) (cells : List Cell) → plays (deed_of c s.pc s.stack s.base s.outward i) s.cells ≡ Raised r st cells → step limit c s ≡ Goes (record s { stack = st; raising = Some r; cells = cells })
  step_raises r st cells e = step_is ∙ done_raises limit (deed_of c s.pc s.stack s.base s.outward i) s r st cells e

-- ---- what a machine came to

module _ (limit : ℕ) (c : Code) (m : Machine) (cells : List Cell) (r : Ready c m cells) (l : m.turns ≤ limit) (m' : Machine) (cells' : List Cell) where
  pub steps_on : step limit c (state_of m cells) ≡ Goes (state_of m' cells') → m'.raising ≡ None → Ready c m' cells' → Steps limit c went.On m cells m' cells'
  steps_on e n q = record {
    goes = (e, n);
    ready = q;
    within = within_one limit c r.low r.valid (state_of m cells) (state_of m' cells') r.forward e r.stands l;
    falls = falls_one limit c r.low r.valid (state_of m cells) (state_of m' cells') r.forward e r.stands l;
  }

  pub steps_raising : step limit c (state_of m cells) ≡ Goes (state_of m' cells') → Ready c m' cells' → Steps limit c went.Raising m cells m' cells'
  steps_raising e q = record {
    goes = e;
    ready = q;
    within = within_one limit c r.low r.valid (state_of m cells) (state_of m' cells') r.forward e r.stands l;
    falls = falls_one limit c r.low r.valid (state_of m cells) (state_of m' cells') r.forward e r.stands l;
  }

  pub steps_stopped : (s : stops.Stop) → EndsAt limit c s (state_of m cells) (state_of m' cells') → ReadyAfter s c m' cells' → m'.turns ≤ limit → Steps limit c (went.Stopped s) m cells m' cells'
  steps_stopped s e q t = record { goes = e; ready = q; within = t; falls = tt }
