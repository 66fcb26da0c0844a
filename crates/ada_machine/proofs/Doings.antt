-- What code that asks for more did, as a step of its state.
use Rattle.std.proofs.Common.{◌≡◌, ℕ, ◌+◌, ◌-◌, ◌<◌, ◌≤◌, ℤ, Bool, List, [], ◌∷◌, ◌++◌, length, reverse, drop, Option, Some, None, true, false, cond, refl, sym, ap, ◌∙◌, subst, inl, inr, arith}
use Rattle.std.specs.Prelude.{◌^◌, IsSome, IsSomeAnd, slice_get, nat_lt, vec_capacity}
use Rattle.std.proofs.lemmas.Bool.{lt-ltb, le-ltb, false≢true}
use Rattle.std.proofs.lemmas.List.{length-reverse, length-map, reverse-append}
use Rattle.ada_base.specs.declared.reason.Reason.TheVariants.{ConstraintError, StorageError}
use Rattle.stack_code.specs.declared.code.Code.{Code}
use Rattle.stack_code.specs.declared.code.CodeSub.{CodeSub}
use Rattle.stack_code.specs.declared.instr.Instr.{Instr}
use Rattle.stack_code.specs.declared.instr.Instr.TheVariants.{Call, CallAt, CallTo, Combine, Ret, RetV, Nest, Unnest, Fork, Get}
use Rattle.stack_code.specs.declared.path.Asked.{Asked}
use Rattle.stack_code.specs.declared.path.Io.TheVariants as io
use Rattle.ada_base.specs.Cells.{Cell}
use Rattle.stack_code.specs.Deeds as Deeds
use Rattle.stack_code.specs.Deeds.{deed_of, called, called_at, truth, forked, CallsAt}
use Rattle.stack_code.specs.Fits.{IsCallAt}
use Rattle.stack_code.specs.Operands.{takes, taken_by}
use Rattle.stack_code.specs.Runs.{IsAtLook}
use Rattle.stack_code.specs.Machine.{Frame, State, Went, Goes, Stops, Spent, Constructs, Asks, cut, on, failed, entered, entered_at, ended, ending, pushed_for, turned, entering, calling, entering_at, calling_at, combining, step, done}
use Rattle.stack_code.specs.Answers.{IsIo}
use Rattle.stack_code.specs.Stands.{Stands, Forked, Keeps}
use Rattle.stack_code.proofs.Standing.{called_at_here, keeps}
use Rattle.ada_machine.specs.declared.machine.Machine.{Machine}
use Rattle.ada_machine.specs.declared.machine.Stop.TheVariants as stop
use Rattle.ada_machine.specs.declared.machine.Went.TheVariants as went
use Rattle.ada_machine.specs.declared.machine.Waiting.{Waiting}
use Rattle.ada_machine.specs.States.{state_of, frame_of, frames_of, Allocates, Ready, Awaits, Steps, Forking}
use Rattle.ada_machine.proofs.Readies.{ready_ended, ready_called, Fine, fine_here, roomy_on}
use Rattle.ada_machine.proofs.Steps.{step_is, steps_on, steps_stopped}
use Rattle.ada_machine.proofs.Walks.{goes_same, raises_same}

pub top : (xs : List ℤ) → 1 ≤ length xs → (v : ℤ) × (st : List ℤ) × (reverse xs ≡ v ∷ st)
top xs l = first (reverse xs) refl
  where
    first : (ys : List ℤ) → reverse xs ≡ ys → (v : ℤ) × (st : List ℤ) × (reverse xs ≡ v ∷ st)
    first [] e = absurd (omega (arith, l, length-reverse xs, ap length e))
    first (v ∷ st) e = (v, st, e)

-- what the instruction here has
pub fine_at : (c : Code) (m : Machine) (cells : List Cell) (i : Instr) → (r : Ready c m cells) → m.raising ≡ None → slice_get c.instrs m.pc ≡ Some i → Fine c r.low r.valid m cells i
fine_at c m cells i r n e = fine_here c r.low r.valid m cells i r.stands r.roomy n e

module _ (limit : ℕ) (c : Code) (m m' : Machine) (cells cells' : List Cell) (r : Ready c m cells) (l : m.turns ≤ limit) (calm : m.raising ≡ None) where
  -- memory was wanted, and all is as it was
  pub still : (i : Instr) → slice_get c.instrs m.pc ≡ Some i → Allocates i (state_of m cells) → state_of m' cells' ≡ state_of m cells → vec_capacity m.stack ≤ vec_capacity m'.stack → Steps limit c (went.Stopped stop.NoMemory) m cells m' cells'
  still i e w f v = steps_stopped limit c m cells r l m' cells' stop.NoMemory
      (f, (calm, i, e, inl w))
      (record {
        valid = r.valid;
        forward = r.forward;
        low = r.low;
        stands = subst (Stands c r.low) (sym f) r.stands;
        roomy = roomy_on c r.low (vec_capacity m.stack) (vec_capacity m'.stack) m.base m'.base (frames_of m.waiting.items) (frames_of m'.waiting.items) m.outward.items m'.outward.items r.roomy v (ap (λ s. s.base) f) (ap (λ s. s.waiting) f) (ap (λ s. s.outward) f);
      })
      (subst (λ n. n ≤ limit) (sym (ap (λ s. s.turns) f)) l)

  pub unnests : slice_get c.instrs m.pc ≡ Some Unnest → state_of m' cells' ≡ on (reverse m.stack.items) (record (state_of m cells) { nest = m.nest - 1; nested = m.nested - 1 }) → vec_capacity m'.stack ≡ vec_capacity m.stack → Steps limit c went.On m cells m' cells'
  unnests e f v = goes_same limit c m m' cells cells' r _ l (step_is limit c (state_of m cells) Unnest calm e) f v refl refl refl calm

  pub nests : slice_get c.instrs m.pc ≡ Some Nest → m.nested < 16 → state_of m' cells' ≡ on (reverse m.stack.items) (record (state_of m cells) { nest = m.nest + 1; nested = m.nested + 1 }) → vec_capacity m'.stack ≡ vec_capacity m.stack → Steps limit c went.On m cells m' cells'
  nests e b f v = goes_same limit c m m' cells cells' r _ l
      (step_is limit c (state_of m cells) Nest calm e ∙ ap (λ b. cond b (Goes (on (reverse m.stack.items) (record (state_of m cells) { nest = m.nest + 1; nested = m.nested + 1 }))) (Goes (failed StorageError (reverse m.stack.items) (state_of m cells)))) (lt-ltb m.nested 16 b))
      f v refl refl refl calm

  pub nests_not : slice_get c.instrs m.pc ≡ Some Nest → 16 ≤ m.nested → state_of m' cells' ≡ failed StorageError (reverse m.stack.items) (state_of m cells) → vec_capacity m'.stack ≡ vec_capacity m.stack → Steps limit c went.Raising m cells m' cells'
  nests_not e b f v = raises_same limit c m m' cells cells' r _ l
      (step_is limit c (state_of m cells) Nest calm e ∙ ap (λ b. cond b (Goes (on (reverse m.stack.items) (record (state_of m cells) { nest = m.nest + 1; nested = m.nested + 1 }))) (Goes (failed StorageError (reverse m.stack.items) (state_of m cells)))) (le-ltb m.nested 16 b))
      f v refl refl refl

  pub forks : (site : ℕ) (a : Asked) (st : List ℤ) → slice_get c.instrs m.pc ≡ Some (Fork site) → Forking (forked site (reverse m.stack.items)) (Some a) st → state_of m' cells' ≡ record (state_of m cells) { stack = st } → vec_capacity m'.stack ≡ vec_capacity m.stack → Steps limit c (went.Stopped (stop.Construct a)) m cells m' cells'
  forks site a st e d f v =
      let s : step limit c (state_of m cells) ≡ Stops (Constructs a) (state_of m' cells') = step_is limit c (state_of m cells) (Fork site) calm e ∙ ap (λ d. done limit d (state_of m cells)) d ∙ ap (Stops (Constructs a)) (sym f) in
      let k : Forked c r.low a.site (state_of m' cells') = subst (Keeps c r.low) s (keeps c r.low r.valid (state_of m cells) limit r.stands) in
      steps_stopped limit c m cells r l m' cells' (stop.Construct a) s
      (record {
        valid = r.valid;
        forward = r.forward;
        low = r.low;
        asks = inl (a.site, unframed a.site k);
        roomy = roomy_on c r.low (vec_capacity m.stack) (vec_capacity m'.stack) m.base m'.base (frames_of m.waiting.items) (frames_of m'.waiting.items) m.outward.items m'.outward.items r.roomy (omega (arith, v)) (ap (λ s. s.base) f) (ap (λ s. s.waiting) f) (ap (λ s. s.outward) f);
      })
      (subst (λ n. n ≤ limit) (sym (ap (λ s. s.turns) f)) l)
    where
      unframed : (n : ℕ) → Forked c r.low n (state_of m' cells') → Forked c r.low n (state_of m' [])
      unframed n k = record { spot = k.spot; at = k.at; here = k.here; height = k.height; calm = k.calm; nest = k.nest; within = k.within; chain = k.chain }

  pub forks_not : (site : ℕ) (st : List ℤ) → slice_get c.instrs m.pc ≡ Some (Fork site) → Forking (forked site (reverse m.stack.items)) None st → state_of m' cells' ≡ failed StorageError st (state_of m cells) → vec_capacity m'.stack ≡ vec_capacity m.stack → Steps limit c went.Raising m cells m' cells'
  forks_not site st e d f v = raises_same limit c m m' cells cells' r _ l (step_is limit c (state_of m cells) (Fork site) calm e ∙ ap (λ d. done limit d (state_of m cells)) d) f v refl refl refl

  pub asks : (i : Instr) (text : List ℕ) → slice_get c.instrs m.pc ≡ Some i → IsIo (Some i) → done limit (deed_of c m.pc (reverse m.stack.items) m.base m.outward.items i) (state_of m cells) ≡ Stops (Asks (io.Write text)) (state_of m' cells') → state_of m' cells' ≡ record (state_of m cells) { line = [] } → vec_capacity m'.stack ≡ vec_capacity m.stack → Steps limit c (went.Stopped (stop.Ask (io.Write text))) m cells m' cells'
  asks i text e w f t v = steps_stopped limit c m cells r l m' cells' (stop.Ask (io.Write text)) (step_is limit c (state_of m cells) i calm e ∙ f)
      (awaits_io (state_of m' cells') t refl i e w v (ap (λ s. s.base) t) (ap (λ s. s.waiting) t) (ap (λ s. s.outward) t))
      (subst (λ n. n ≤ limit) (sym (ap (λ s. s.turns) t)) l)
    where
      awaits_io : (t : State) → t ≡ record (state_of m cells) { line = [] } → t ≡ state_of m' cells' → (i : Instr) → slice_get c.instrs m.pc ≡ Some i → IsIo (Some i) → vec_capacity m'.stack ≡ vec_capacity m.stack → m'.base ≡ m.base → frames_of m'.waiting.items ≡ frames_of m.waiting.items → m'.outward.items ≡ m.outward.items → Awaits c m'
      awaits_io t p q i e w v b fs o =
          let same : record (state_of m cells) { line = [] } ≡ state_of m' cells' = sym p ∙ q in
          record {
            valid = r.valid;
            forward = r.forward;
            low = r.low;
            asks = inr (subst (Stands c r.low) same r.stands, sym (ap (λ s. s.raising) same) ∙ calm, subst IsIo (sym e ∙ ap (λ n. slice_get c.instrs n) (ap (λ s. s.pc) same)) w);
            roomy = roomy_on c r.low (vec_capacity m.stack) (vec_capacity m'.stack) m.base m'.base (frames_of m.waiting.items) (frames_of m'.waiting.items) m.outward.items m'.outward.items r.roomy (omega (arith, v)) b fs o;
          }

  pub awaits_get : slice_get c.instrs m.pc ≡ Some Get → Awaits c m
  awaits_get e = record { valid = r.valid; forward = r.forward; low = r.low; asks = inr (r.stands, calm, subst IsIo (sym e) tt); roomy = r.roomy }

  pub writes : (i : Instr) (t : State) → slice_get c.instrs m.pc ≡ Some i → done limit (deed_of c m.pc (reverse m.stack.items) m.base m.outward.items i) (state_of m cells) ≡ Goes t → state_of m' cells' ≡ t → t.base ≡ m.base → t.waiting ≡ frames_of m.waiting.items → t.outward ≡ m.outward.items → t.raising ≡ None → vec_capacity m'.stack ≡ vec_capacity m.stack → Steps limit c went.On m cells m' cells'
  writes i t e d f b w o n v = goes_same limit c m m' cells cells' r t l (step_is limit c (state_of m cells) i calm e ∙ d) f v b w o n

  -- ---- ends of subprograms

  frames_end : (i : Instr) (v : Option ℤ) (st w : List ℤ) (fs : List Frame) → slice_get c.instrs m.pc ≡ Some i → frames_of m.waiting.items ≡ fs → vec_capacity m'.stack ≡ vec_capacity m.stack
      → step limit c (state_of m cells) ≡ ending limit v st fs (state_of m cells) → ending limit v st fs (record (state_of m cells) { stack = w }) ≡ Goes (state_of m' cells') → Steps limit c went.On m cells m' cells'
  frames_end i v st x [] e w k s g = cc
  frames_end i v st x (f ∷ fs) e w k s g =
      let t : ended f fs f.to (pushed_for v (cut m.floor st)) (state_of m cells) ≡ state_of m' cells' = cc in
      steps_on limit c m cells r l m' cells' (s ∙ g) (sym (ap (λ s. s.raising) t) ∙ calm)
      (ready_ended limit c m m' cells cells' f fs r (s ∙ g) k w (sym (ap (λ s. s.base) t)) (sym (ap (λ s. s.waiting) t)) (sym (ap (λ s. s.outward) t)))

  pub returns_plain : slice_get c.instrs m.pc ≡ Some Ret → vec_capacity m'.stack ≡ vec_capacity m.stack → ending limit None (reverse m.stack.items) (frames_of m.waiting.items) (state_of m cells) ≡ Goes (state_of m' cells') → Steps limit c went.On m cells m' cells'
  returns_plain e k g = frames_end Ret None (reverse m.stack.items) (reverse m.stack.items) (frames_of m.waiting.items) e refl k (step_is limit c (state_of m cells) Ret calm e) g

  pub returns_value : (v : ℤ) (st : List ℤ) → reverse m.stack.items ≡ v ∷ st → slice_get c.instrs m.pc ≡ Some RetV → vec_capacity m'.stack ≡ vec_capacity m.stack → ending limit (Some v) st (frames_of m.waiting.items) (record (state_of m cells) { stack = st }) ≡ Goes (state_of m' cells') → Steps limit c went.On m cells m' cells'
  returns_value v st b e k g = frames_end RetV (Some v) st st (frames_of m.waiting.items) e refl k
      (step_is limit c (state_of m cells) RetV calm e ∙ ap (λ x. done limit (deed_of c m.pc x m.base m.outward.items RetV) (state_of m cells)) b) g

-- ---- calls

module _ (limit : ℕ) (c : Code) (m : Machine) (cells : List Cell) (calm : m.raising ≡ None) (k : ℕ) (f : CodeSub) (at : slice_get c.instrs m.pc ≡ Some (Call k)) (there : slice_get c.subs k ≡ Some f) where
  call_is : (left : Option ℕ) → step limit c (record (state_of m cells) { left = left }) ≡ calling limit f (m.pc + 1) (reverse m.kept.items) (record (state_of m cells) { left = left })
  call_is left = step_is limit c (record (state_of m cells) { left = left }) (Call k) calm at ∙ ap (λ o. done limit (called (reverse m.stack.items) o) (record (state_of m cells) { left = left })) there

  pub call_looks : IsAtLook limit c (state_of m cells)
  call_looks = call_is (Some 0)

  pub call_spent : m.turns ≡ limit → step limit c (state_of m cells) ≡ Stops Spent (state_of m cells)
  call_spent e = call_is None ∙ ap (λ b. cond b (begins (record (state_of m cells) { turns = m.turns + 1 })) (Stops Spent (state_of m cells))) (le-ltb m.turns limit (omega (arith, e)))
    where
      begins : State → Went
      begins s = cond (nat_lt s.calls 1000) (Goes (entered f (m.pc + 1) (reverse m.kept.items) s)) (Goes (failed StorageError (cut (length s.stack - f.takes) s.stack) s))

  call_begins : m.turns < limit → step limit c (state_of m cells) ≡ cond (nat_lt m.calls 1000) (Goes (entered f (m.pc + 1) (reverse m.kept.items) (record (state_of m cells) { turns = m.turns + 1 }))) (Goes (failed StorageError (cut (length (reverse m.stack.items) - f.takes) (reverse m.stack.items)) (record (state_of m cells) { turns = m.turns + 1 })))
  call_begins l = call_is None ∙ ap (λ b. cond b (cond (nat_lt m.calls 1000) (Goes (entered f (m.pc + 1) (reverse m.kept.items) (record (state_of m cells) { turns = m.turns + 1 }))) (Goes (failed StorageError (cut (length (reverse m.stack.items) - f.takes) (reverse m.stack.items)) (record (state_of m cells) { turns = m.turns + 1 })))) (Stops Spent (state_of m cells))) (lt-ltb m.turns limit l)

  pub call_enters : m.turns < limit → m.calls < 1000 → step limit c (state_of m cells) ≡ Goes (entered f (m.pc + 1) (reverse m.kept.items) (record (state_of m cells) { turns = m.turns + 1 }))
  call_enters l n = call_begins l ∙ ap (λ b. cond b (Goes (entered f (m.pc + 1) (reverse m.kept.items) (record (state_of m cells) { turns = m.turns + 1 }))) (Goes (failed StorageError (cut (length (reverse m.stack.items) - f.takes) (reverse m.stack.items)) (record (state_of m cells) { turns = m.turns + 1 })))) (lt-ltb m.calls 1000 n)

  pub call_fails : m.turns < limit → 1000 ≤ m.calls → step limit c (state_of m cells) ≡ Goes (failed StorageError (cut (length (reverse m.stack.items) - f.takes) (reverse m.stack.items)) (record (state_of m cells) { turns = m.turns + 1 }))
  call_fails l n = call_begins l ∙ ap (λ b. cond b (Goes (entered f (m.pc + 1) (reverse m.kept.items) (record (state_of m cells) { turns = m.turns + 1 }))) (Goes (failed StorageError (cut (length (reverse m.stack.items) - f.takes) (reverse m.stack.items)) (record (state_of m cells) { turns = m.turns + 1 })))) (le-ltb m.calls 1000 n)

  module _ (r : Ready c m cells) (within : m.turns ≤ limit) where
    pub call_takes : f.takes ≤ length m.stack.items
    call_takes = let x = fine_at c m cells (Call k) r calm at in let t : takes c (Call k) ≡ f.takes = ap taken_by there in omega (arith, x.operands, t)

    pub call_paused : Steps limit c (went.Stopped stop.Paused) m cells m cells
    call_paused = steps_stopped limit c m cells r within m cells stop.Paused (refl, call_looks) r within

    pub call_stops : (looks : ℕ) → m.turns ≡ limit → Steps limit c (went.Stopped stop.Spent) m cells (record m { looks = looks }) cells
    call_stops looks e = steps_stopped limit c m cells r within (record m { looks = looks }) cells stop.Spent (call_spent e) tt within

    module _ (m' : Machine) (cells' : List Cell) where
      pub call_raises : (height : ℕ) → m.turns < limit → 1000 ≤ m.calls → height + f.takes ≡ length m.stack.items → state_of m' cells' ≡ failed StorageError (cut height (reverse m.stack.items)) (record (state_of m cells) { turns = m.turns + 1 }) → vec_capacity m'.stack ≡ vec_capacity m.stack → Steps limit c went.Raising m cells m' cells'
      call_raises height l n h e v = raises_same limit c m m' cells cells' r _ within
          (call_fails l n ∙ ap (λ n. Goes (failed StorageError (cut n (reverse m.stack.items)) (record (state_of m cells) { turns = m.turns + 1 }))) (let w : length (reverse m.stack.items) - f.takes ≡ height = omega (arith, h, length-reverse m.stack.items) in w))
          e v refl refl refl

      pub call_goes : m.turns < limit → m.calls < 1000 → state_of m' cells' ≡ entered f (m.pc + 1) (reverse m.kept.items) (record (state_of m cells) { turns = m.turns + 1 }) → m'.floor + f.stack ≤ vec_capacity m'.stack → m'.base ≤ 2 ^ 62 → vec_capacity m.stack ≤ vec_capacity m'.stack → Steps limit c went.On m cells m' cells'
      call_goes l n e room near more =
          let s : step limit c (state_of m cells) ≡ Goes (state_of m' cells') = call_enters l n ∙ ap Goes (sym e) in
          let x = fine_at c m cells (Call k) r calm at in
          let t : takes c (Call k) ≡ f.takes = ap taken_by there in
          let floor : m'.floor ≡ length (reverse m.stack.items) - f.takes = ap (λ s. s.floor) e in
          steps_on limit c m cells r within m' cells' s (ap (λ s. s.raising) e ∙ calm)
          (ready_called limit c m m' cells cells' (record { at = m.pc; to = m.pc + 1; floor = m.floor; base = m.base; nest = m.nest; kept = reverse m.kept.items; rounds = reverse m.rounds.items; top = length cells }) r s more near refl (ap (λ s. s.waiting) e) (ap (λ s. s.outward) e)
          (record {
            sub = k;
            instr = Call k;
            spot = x.here.spot;
            here = at;
            at = x.here.at;
            call = (refl, refl);
            within = subst (λ o. IsSomeAnd o (λ s. m.floor + x.here.spot.stack + s.stack ≤ vec_capacity m'.stack + takes c (Call k))) (sym there) (omega (arith, room, floor, t, x.here.height, x.operands, length-reverse m.stack.items));
          }))

-- ---- calls by windows

-- such a call stands here: of f, which is k, with its frame from cell n on; it comes back to that instruction
pub record Windowed (c : Code) (m : Machine) (i : Instr) (f : CodeSub) (k n to : ℕ) (fit : Bool) (st : List ℤ) : Type 0 where
  pub at : slice_get c.instrs m.pc ≡ Some i
  pub call : IsCallAt m.pc i k n to
  pub there : slice_get c.subs k ≡ Some f
  pub deed : deed_of c m.pc (reverse m.stack.items) m.base m.outward.items i ≡ CallsAt f n to fit st
  pub height : length st + takes c i ≡ length (reverse m.stack.items)

pub window_by : (c : Code) (m : Machine) (k n : ℕ) (f : CodeSub) → slice_get c.instrs m.pc ≡ Some (CallAt k n) → slice_get c.subs k ≡ Some f → Windowed c m (CallAt k n) f k n (m.pc + 1) true (reverse m.stack.items)
window_by c m k n f at there = record { at = at; call = (refl, refl, refl); there = there; deed = ap (called_at n (m.pc + 1) true (reverse m.stack.items)) there; height = omega arith }

pub return_by : (c : Code) (m : Machine) (k n to : ℕ) (f : CodeSub) (v : ℤ) (st : List ℤ) → slice_get c.instrs m.pc ≡ Some (CallTo k n to) → slice_get c.subs k ≡ Some f → reverse m.stack.items ≡ v ∷ st → Windowed c m (CallTo k n to) f k n to (truth v) st
return_by c m k n to f v st at there e = record {
  at = at;
  call = (refl, refl, refl);
  there = there;
  deed = ap (λ xs. deed_of c m.pc xs m.base m.outward.items (CallTo k n to)) e ∙ ap (called_at n to (truth v) st) there;
  height = omega (arith, ap length e);
}

module _ (limit : ℕ) (c : Code) (m : Machine) (cells : List Cell) (calm : m.raising ≡ None) (i : Instr) (f : CodeSub) (k n to : ℕ) (fit : Bool) (st : List ℤ) (w : Windowed c m i f k n to fit st) where
  -- with its turn begun
  abbrev pub begun : State
  begun = record (state_of m cells) { turns = m.turns + 1; stack = st }

  window_is : (left : Option ℕ) → step limit c (record (state_of m cells) { left = left }) ≡ calling_at limit f n to fit st (record (state_of m cells) { left = left })
  window_is left = step_is limit c (record (state_of m cells) { left = left }) i calm w.at ∙ ap (λ d. done limit d (record (state_of m cells) { left = left })) w.deed

  window_begins : m.turns < limit → step limit c (state_of m cells) ≡ entering_at limit f n to fit begun
  window_begins l = window_is None ∙ ap (λ b. cond b (entering_at limit f n to fit begun) (Stops Spent (state_of m cells))) (lt-ltb m.turns limit l)

  window_spent : m.turns ≡ limit → step limit c (state_of m cells) ≡ Stops Spent (state_of m cells)
  window_spent e = window_is None ∙ ap (λ b. cond b (entering_at limit f n to fit begun) (Stops Spent (state_of m cells))) (le-ltb m.turns limit (omega (arith, e)))

  -- what it comes to then
  abbrev enters : Bool → Bool → Went
  enters few fits = cond few (cond fits (Goes (entered_at f n to begun)) (Goes (failed ConstraintError st begun))) (Goes (failed StorageError st begun))

  module _ (r : Ready c m cells) (within : m.turns ≤ limit) where
    pub window_paused : Steps limit c (went.Stopped stop.Paused) m cells m cells
    window_paused = steps_stopped limit c m cells r within m cells stop.Paused (refl, window_is (Some 0)) r within

    pub window_stops : (looks : ℕ) → m.turns ≡ limit → Steps limit c (went.Stopped stop.Spent) m cells (record m { looks = looks }) cells
    window_stops looks e = steps_stopped limit c m cells r within (record m { looks = looks }) cells stop.Spent (window_spent e) tt within

    module _ (m' : Machine) (cells' : List Cell) where
      pub window_raises : m.turns < limit → 1000 ≤ m.calls → state_of m' cells' ≡ failed StorageError st begun → vec_capacity m'.stack ≡ vec_capacity m.stack → Steps limit c went.Raising m cells m' cells'
      window_raises l g e v = raises_same limit c m m' cells cells' r _ within (window_begins l ∙ ap (λ b. enters b fit) (le-ltb m.calls 1000 g)) e v refl refl refl

      pub window_unfit : m.turns < limit → m.calls < 1000 → fit ≡ false → state_of m' cells' ≡ failed ConstraintError st begun → vec_capacity m'.stack ≡ vec_capacity m.stack → Steps limit c went.Raising m cells m' cells'
      window_unfit l g o e v = raises_same limit c m m' cells cells' r _ within (window_begins l ∙ ap (λ b. enters b fit) (lt-ltb m.calls 1000 g) ∙ ap (enters true) o) e v refl refl refl

      pub window_goes : m.turns < limit → m.calls < 1000 → fit ≡ true → state_of m' cells' ≡ entered_at f n to begun → m'.floor + f.stack ≤ vec_capacity m'.stack → m'.base ≤ 2 ^ 62 → vec_capacity m.stack ≤ vec_capacity m'.stack → Steps limit c went.On m cells m' cells'
      window_goes l g o e room near more =
          let s : step limit c (state_of m cells) ≡ Goes (state_of m' cells') = window_begins l ∙ ap (λ b. enters b fit) (lt-ltb m.calls 1000 g) ∙ ap (enters true) o ∙ ap Goes (sym e) in
          let x = fine_at c m cells i r calm w.at in
          let waits : Frame = record { at = m.pc; to = to; floor = m.floor; base = m.base; nest = m.nest; kept = reverse m.kept.items; rounds = reverse m.rounds.items; top = length cells } in
          let call = called_at_here c r.low r.valid x.here.spot.body i m.pc k n to waits w.call x.here.fits.belongs refl refl in
          let floor : m'.floor ≡ length st = ap (λ s. s.floor) e in
          steps_on limit c m cells r within m' cells' s (ap (λ s. s.raising) e ∙ calm)
          (ready_called limit c m m' cells cells' waits r s more near refl (ap (λ s. s.waiting) e) (ap (λ s. s.outward) e)
          (record {
            sub = k;
            instr = i;
            spot = x.here.spot;
            here = w.at;
            at = x.here.at;
            call = call.2;
            within = subst (λ o. IsSomeAnd o (λ s. m.floor + x.here.spot.stack + s.stack ≤ vec_capacity m'.stack + takes c i)) (sym w.there) (omega (arith, room, floor, x.here.height, w.height));
          }))

-- ---- calls of a function with the accumulators that are left

cut_two : (x y : ℤ) (st : List ℤ) → cut (length (x ∷ y ∷ st) - 2) (x ∷ y ∷ st) ≡ st
cut_two x y st = ap (λ n. drop n (x ∷ y ∷ st)) (let w : length (x ∷ y ∷ st) - (length (x ∷ y ∷ st) - 2) ≡ 2 = omega arith in w)

cut_one : (y : ℤ) (st : List ℤ) (n : ℕ) → n + 1 ≡ length (y ∷ st) → cut n (y ∷ st) ≡ st
cut_one y st n e = ap (λ n. drop n (y ∷ st)) (let w : length (y ∷ st) - n ≡ 1 = omega (arith, e) in w)

module _ (limit : ℕ) (c : Code) (m : Machine) (cells : List Cell) (calm : m.raising ≡ None) (k : ℕ) (f : CodeSub) (at : slice_get c.instrs m.pc ≡ Some (Combine k)) (there : slice_get c.subs k ≡ Some f) (r : Ready c m cells) (within : m.turns ≤ limit) where
  combine_top : (acc : ℤ) × (rest : List ℤ) × (reverse m.stack.items ≡ acc ∷ rest)
  combine_top = let x = fine_at c m cells (Combine k) r calm at in top m.stack.items x.operands

  pub combine_takes : f.takes ≡ 2
  combine_takes = let x = fine_at c m cells (Combine k) r calm at in (subst (λ w. IsSomeAnd w (λ s. (s.takes ≡ 2) × (s.gives ≡ true))) there x.here.fits.belongs.0).0

  combine_is : (left : Option ℕ) → step limit c (record (state_of m cells) { left = left }) ≡ combining limit f combine_top.0 combine_top.1 (reverse m.kept.items) (record (state_of m cells) { left = left })
  combine_is left = step_is limit c (record (state_of m cells) { left = left }) (Combine k) calm at
      ∙ ap (λ st. done limit (deed_of c m.pc st m.base m.outward.items (Combine k)) (record (state_of m cells) { left = left })) combine_top.2
      ∙ ap (λ o. done limit (Deeds.combining o combine_top.0 combine_top.1) (record (state_of m cells) { left = left })) there

  pub combine_done : (m' : Machine) → reverse m.kept.items ≡ [] → state_of m' cells ≡ on (reverse m.stack.items) (state_of m cells) → vec_capacity m'.stack ≡ vec_capacity m.stack → Steps limit c went.On m cells m' cells
  combine_done m' q e v = goes_same limit c m m' cells cells r _ within (combine_is None ∙ ap (λ ps. combining limit f combine_top.0 combine_top.1 ps (state_of m cells)) q) (e ∙ ap (λ st. on st (state_of m cells)) combine_top.2) v refl refl refl calm

  module _ (part : ℤ) (parts : List ℤ) (q : reverse m.kept.items ≡ part ∷ parts) where
    combine_calls : (left : Option ℕ) → step limit c (record (state_of m cells) { left = left }) ≡ turned limit (record (state_of m cells) { left = left }) (λ s. entering limit f s.pc parts (record s { stack = part ∷ combine_top.0 ∷ combine_top.1 }))
    combine_calls left = combine_is left ∙ ap (λ ps. combining limit f combine_top.0 combine_top.1 ps (record (state_of m cells) { left = left })) q

    pub combine_paused : Steps limit c (went.Stopped stop.Paused) m cells m cells
    combine_paused = steps_stopped limit c m cells r within m cells stop.Paused (refl, combine_calls (Some 0)) r within

    begins : State → Went
    begins s = entering limit f m.pc parts (record s { stack = part ∷ combine_top.0 ∷ combine_top.1 })

    pub combine_stops : (looks : ℕ) → m.turns ≡ limit → Steps limit c (went.Stopped stop.Spent) m cells (record m { looks = looks }) cells
    combine_stops looks e = steps_stopped limit c m cells r within (record m { looks = looks }) cells stop.Spent
        ((combine_calls None ∙ ap (λ b. cond b (entering limit f m.pc parts (record (state_of m cells) { turns = m.turns + 1; stack = part ∷ combine_top.0 ∷ combine_top.1 })) (Stops Spent (state_of m cells))) (le-ltb m.turns limit (omega (arith, e))))) tt within

    combine_begins : m.turns < limit → step limit c (state_of m cells) ≡ entering limit f m.pc parts (record (state_of m cells) { turns = m.turns + 1; stack = part ∷ combine_top.0 ∷ combine_top.1 })
    combine_begins l = combine_calls None ∙ ap (λ b. cond b (entering limit f m.pc parts (record (state_of m cells) { turns = m.turns + 1; stack = part ∷ combine_top.0 ∷ combine_top.1 })) (Stops Spent (state_of m cells))) (lt-ltb m.turns limit l)

    module _ (m' : Machine) (cells' : List Cell) where
      pub combine_raises : (height : ℕ) → m.turns < limit → 1000 ≤ m.calls → height + 1 ≡ length m.stack.items → state_of m' cells' ≡ failed StorageError (cut height (reverse m.stack.items)) (record (state_of m cells) { turns = m.turns + 1 }) → vec_capacity m'.stack ≡ vec_capacity m.stack → Steps limit c went.Raising m cells m' cells'
      combine_raises height l n h e v =
          let rest : cut height (reverse m.stack.items) ≡ combine_top.1 = ap (cut height) combine_top.2 ∙ cut_one combine_top.0 combine_top.1 height (omega (arith, h, length-reverse m.stack.items, ap length combine_top.2)) in
          raises_same limit c m m' cells cells' r (failed StorageError combine_top.1 (record (state_of m cells) { turns = m.turns + 1 })) within
          (combine_begins l ∙ ap (λ b. cond b (Goes (entered f m.pc parts (record (state_of m cells) { turns = m.turns + 1; stack = part ∷ combine_top.0 ∷ combine_top.1 })))
          (Goes (failed StorageError (cut (length (part ∷ combine_top.0 ∷ combine_top.1) - f.takes) (part ∷ combine_top.0 ∷ combine_top.1)) (record (state_of m cells) { turns = m.turns + 1; stack = part ∷ combine_top.0 ∷ combine_top.1 })))) (le-ltb m.calls 1000 n)
          ∙ ap (λ n. Goes (failed StorageError (cut (length (part ∷ combine_top.0 ∷ combine_top.1) - n) (part ∷ combine_top.0 ∷ combine_top.1)) (record (state_of m cells) { turns = m.turns + 1 }))) combine_takes
          ∙ ap (λ st. Goes (failed StorageError st (record (state_of m cells) { turns = m.turns + 1 }))) (cut_two part combine_top.0 combine_top.1))
          (e ∙ ap (λ st. failed StorageError st (record (state_of m cells) { turns = m.turns + 1 })) rest) v refl refl refl

      pub combine_goes : (st : List ℤ) → m.turns < limit → m.calls < 1000 → st ≡ part ∷ reverse m.stack.items → state_of m' cells' ≡ entered f m.pc parts (record (state_of m cells) { turns = m.turns + 1; stack = st }) → m'.floor + f.stack ≤ vec_capacity m'.stack → m'.base ≤ 2 ^ 62 → vec_capacity m.stack ≤ vec_capacity m'.stack → Steps limit c went.On m cells m' cells'
      combine_goes st l n b e room near more =
          let all : st ≡ part ∷ combine_top.0 ∷ combine_top.1 = b ∙ ap (λ w. part ∷ w) combine_top.2 in
          let s : step limit c (state_of m cells) ≡ Goes (state_of m' cells') = combine_begins l
          ∙ ap (λ b. cond b (Goes (entered f m.pc parts (record (state_of m cells) { turns = m.turns + 1; stack = part ∷ combine_top.0 ∷ combine_top.1 })))
          (Goes (failed StorageError (cut (length (part ∷ combine_top.0 ∷ combine_top.1) - f.takes) (part ∷ combine_top.0 ∷ combine_top.1)) (record (state_of m cells) { turns = m.turns + 1; stack = part ∷ combine_top.0 ∷ combine_top.1 })))) (lt-ltb m.calls 1000 n)
          ∙ ap (λ w. Goes (entered f m.pc parts (record (state_of m cells) { turns = m.turns + 1; stack = w }))) (sym all) ∙ ap Goes (sym e) in
          let x = fine_at c m cells (Combine k) r calm at in
          let floor : m'.floor ≡ length st - f.takes = ap (λ s. s.floor) e in
          steps_on limit c m cells r within m' cells' s (ap (λ s. s.raising) e ∙ calm)
          (ready_called limit c m m' cells cells' (record { at = m.pc; to = m.pc; floor = m.floor; base = m.base; nest = m.nest; kept = parts; rounds = reverse m.rounds.items; top = length cells }) r s more near refl (ap (λ s. s.waiting) e) (ap (λ s. s.outward) e)
          (record {
            sub = k;
            instr = Combine k;
            spot = x.here.spot;
            here = at;
            at = x.here.at;
            call = (refl, refl);
            within = subst (λ o. IsSomeAnd o (λ s. m.floor + x.here.spot.stack + s.stack ≤ vec_capacity m'.stack + takes c (Combine k))) (sym there) (omega (arith, room, floor, combine_takes, x.here.height, x.operands, length-reverse m.stack.items, ap length b));
          }))

-- a return has a caller
module _ (limit : ℕ) (c : Code) (m : Machine) (cells : List Cell) (r : Ready c m cells) (calm : m.raising ≡ None) where
  caller : (v : Option ℤ) (st : List ℤ) (fs : List Frame) → Keeps c r.low (ending limit v st fs (state_of m cells)) → 0 < length fs
  caller v st [] k = absurd k
  caller v st (f ∷ fs) k = omega arith

  pub caller_plain : slice_get c.instrs m.pc ≡ Some Ret → 0 < length (frames_of m.waiting.items)
  caller_plain e = caller None (reverse m.stack.items) (frames_of m.waiting.items) (subst (Keeps c r.low) (step_is limit c (state_of m cells) Ret calm e) (keeps c r.low r.valid (state_of m cells) limit r.stands))

  kept_value : (v : ℤ) (st : List ℤ) → reverse m.stack.items ≡ v ∷ st → slice_get c.instrs m.pc ≡ Some RetV → Keeps c r.low (ending limit (Some v) st (frames_of m.waiting.items) (state_of m cells))
  kept_value v st b e = subst (Keeps c r.low) (step_is limit c (state_of m cells) RetV calm e ∙ ap (λ x. done limit (deed_of c m.pc x m.base m.outward.items RetV) (state_of m cells)) b) (keeps c r.low r.valid (state_of m cells) limit r.stands)

  pub caller_value : (v : ℤ) (st : List ℤ) → reverse m.stack.items ≡ v ∷ st → slice_get c.instrs m.pc ≡ Some RetV → 0 < length (frames_of m.waiting.items)
  caller_value v st b e = caller (Some v) st (frames_of m.waiting.items) (kept_value v st b e)

pub length_frames : (ws : List Waiting) → length (frames_of ws) ≡ length ws
length_frames ws = length-map (reverse ws) frame_of ∙ length-reverse ws

pub sub_there : (c : Code) (m : Machine) (cells : List Cell) → Ready c m cells → m.raising ≡ None → (k : ℕ) → slice_get c.instrs m.pc ≡ Some (Call k) → (f : CodeSub) × (slice_get c.subs k ≡ Some f)
sub_there c m cells r n k e = let x = fine_at c m cells (Call k) r n e in some_of (slice_get c.subs k) x.there
  where
    some_of : (o : Option CodeSub) → IsSome o → (f : CodeSub) × (o ≡ Some f)
    some_of None h = absurd (false≢true h)
    some_of (Some f) h = (f, refl)

pub sub_at : (c : Code) (m : Machine) (cells : List Cell) → Ready c m cells → m.raising ≡ None → (k n : ℕ) → slice_get c.instrs m.pc ≡ Some (CallAt k n) → (f : CodeSub) × (slice_get c.subs k ≡ Some f)
sub_at c m cells r n k j e = let x = fine_at c m cells (CallAt k j) r n e in some_of (slice_get c.subs k) x.there
  where
    some_of : (o : Option CodeSub) → IsSome o → (f : CodeSub) × (o ≡ Some f)
    some_of None h = absurd (false≢true h)
    some_of (Some f) h = (f, refl)

pub sub_to : (c : Code) (m : Machine) (cells : List Cell) → Ready c m cells → m.raising ≡ None → (k n t : ℕ) → slice_get c.instrs m.pc ≡ Some (CallTo k n t) → (f : CodeSub) × (slice_get c.subs k ≡ Some f)
sub_to c m cells r n k j t e = let x = fine_at c m cells (CallTo k j t) r n e in some_of (slice_get c.subs k) x.there
  where
    some_of : (o : Option CodeSub) → IsSome o → (f : CodeSub) × (o ≡ Some f)
    some_of None h = absurd (false≢true h)
    some_of (Some f) h = (f, refl)

pub sub_with : (c : Code) (m : Machine) (cells : List Cell) → Ready c m cells → m.raising ≡ None → (k : ℕ) → slice_get c.instrs m.pc ≡ Some (Combine k) → (f : CodeSub) × (slice_get c.subs k ≡ Some f)
sub_with c m cells r n k e = let x = fine_at c m cells (Combine k) r n e in some_of (slice_get c.subs k) x.there
  where
    some_of : (o : Option CodeSub) → IsSome o → (f : CodeSub) × (o ≡ Some f)
    some_of None h = absurd (false≢true h)
    some_of (Some f) h = (f, refl)

pub not_empty : (xs : List ℤ) → (length xs ≡ 0 → ⊥) → (v : ℤ) × (st : List ℤ) × (reverse xs ≡ v ∷ st)
not_empty xs n = first (reverse xs) refl
  where
    first : (ys : List ℤ) → reverse xs ≡ ys → (v : ℤ) × (st : List ℤ) × (reverse xs ≡ v ∷ st)
    first [] e = absurd (n (omega (arith, length-reverse xs, ap length e)))
    first (v ∷ st) e = (v, st, e)

pub empty : (xs : List ℤ) → length xs ≡ 0 → reverse xs ≡ []
empty [] e = refl
empty (x ∷ xs) e = absurd (omega (arith, e))

pub last_first : (xs rest : List ℤ) (x : ℤ) → xs ≡ rest ++ x ∷ [] → reverse xs ≡ x ∷ reverse rest
last_first xs rest x e = ap reverse e ∙ reverse-append rest (x ∷ [])

pub untaken : (v w : ℤ) (from new rest mid old : List ℤ) → reverse from ≡ v ∷ reverse rest → from ≡ new → reverse new ≡ w ∷ reverse mid → mid ≡ old → reverse rest ≡ reverse old
untaken v w from new rest mid old e f g h =
    let all : v ∷ reverse rest ≡ w ∷ reverse old = sym e ∙ ap reverse f ∙ g ∙ ap (λ xs. w ∷ reverse xs) h in
    cc
