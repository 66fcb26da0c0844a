-- One step of a machine: what code did, as a step of its state.
use Rattle.std.proofs.Common.{◌≡◌, ℕ, ◌+◌, ◌<◌, ◌≤◌, List, [], ◌∷◌, length, reverse, Some, None, cond, refl, sym, ap, ◌∙◌, subst, arith}
use Rattle.std.specs.Prelude.{slice_get, vec_capacity}
use Rattle.std.proofs.lemmas.Bool.{lt-ltb, le-ltb}
use Rattle.std.proofs.lemmas.List.{length-reverse}
use Rattle.std.proofs.lemmas.Option.{slice_get_within}
use Rattle.ada_base.specs.declared.reason.Reason.{Reason}
use Rattle.stack_code.specs.declared.code.Code.{Code}
use Rattle.stack_code.specs.declared.code.Unwind.{Unwind}
use Rattle.stack_code.specs.declared.instr.Instr.TheVariants.{Turn}
use Rattle.ada_base.specs.Cells.{Cell}
use Rattle.stack_code.specs.Machine.{Frame, State, Goes, Stops, Spent, cut, on, entry_of, handled, ended, unwound, raised, stepped, step, Comes}
use Rattle.stack_code.specs.Runs.{IsAtLook}
use Rattle.stack_code.specs.Stands.{Height}
use Rattle.stack_code.proofs.Runs.{comes_on, stops_on, stops_one}
use Rattle.stack_code.proofs.Standing.{guarded, handled_keeps, length_cut, fine}
use Rattle.ada_machine.specs.declared.machine.Machine.{Machine}
use Rattle.ada_machine.specs.declared.machine.Stop as stops
use Rattle.ada_machine.specs.declared.machine.Stop.TheVariants as stop
use Rattle.ada_machine.specs.declared.machine.Went.TheVariants as went
use Rattle.ada_machine.specs.States.{state_of, frames_of, Ready, Steps, StopsAt, EndsAt, Wants}
use Rattle.ada_machine.proofs.Readies.{ready_on, ready_ended, stack_fits}
use Rattle.ada_machine.proofs.Steps.{step_is, steps_on, steps_raising}

pub machine_here : (c : Code) (m : Machine) (cells : List Cell) → Ready c m cells → m.pc < length c.instrs
machine_here c m cells r = let w = slice_get_within c.spots m.pc r.stands.spot r.stands.at in omega (arith, w, r.valid.spots)

-- a turn that isn't begun yet
pub turn_looks : (limit : ℕ) (c : Code) (m : Machine) (cells : List Cell) → m.raising ≡ None → slice_get c.instrs m.pc ≡ Some Turn → IsAtLook limit c (state_of m cells)
turn_looks limit c m cells n e = step_is limit c (record (state_of m cells) { left = Some 0 }) Turn n e

module _ (limit : ℕ) (c : Code) (m m' : Machine) (cells cells' : List Cell) (r : Ready c m cells) where
  -- it stays ready, with the frames that it had
  pub ready_same : (t : State) → step limit c (state_of m cells) ≡ Goes t → state_of m' cells' ≡ t → vec_capacity m'.stack ≡ vec_capacity m.stack → t.base ≡ m.base → t.waiting ≡ frames_of m.waiting.items → t.outward ≡ m.outward.items → Ready c m' cells'
  ready_same t e f v b w o = ready_on limit c m m' cells cells' r (e ∙ ap Goes (sym f)) (omega (arith, v)) (ap (λ s. s.base) f ∙ b) (ap (λ s. s.waiting) f ∙ w) (ap (λ s. s.outward) f ∙ o)

  -- and one step has led there
  pub goes_same : (t : State) → m.turns ≤ limit → step limit c (state_of m cells) ≡ Goes t → state_of m' cells' ≡ t → vec_capacity m'.stack ≡ vec_capacity m.stack → t.base ≡ m.base → t.waiting ≡ frames_of m.waiting.items → t.outward ≡ m.outward.items → t.raising ≡ None → Steps limit c went.On m cells m' cells'
  goes_same t l e f v b w o n = steps_on limit c m cells r l m' cells' (e ∙ ap Goes (sym f)) (ap (λ s. s.raising) f ∙ n) (ready_same t e f v b w o)

  pub raises_same : (t : State) → m.turns ≤ limit → step limit c (state_of m cells) ≡ Goes t → state_of m' cells' ≡ t → vec_capacity m'.stack ≡ vec_capacity m.stack → t.base ≡ m.base → t.waiting ≡ frames_of m.waiting.items → t.outward ≡ m.outward.items → Steps limit c went.Raising m cells m' cells'
  raises_same t l e f v b w o = steps_raising limit c m cells r l m' cells' (e ∙ ap Goes (sym f)) (ready_same t e f v b w o)

  -- ---- turns

  pub turn_on : m.raising ≡ None → slice_get c.instrs m.pc ≡ Some Turn → m.turns < limit → step limit c (state_of m cells) ≡ Goes (on (reverse m.stack.items) (record (state_of m cells) { turns = m.turns + 1 }))
  turn_on n e l = step_is limit c (state_of m cells) Turn n e ∙ ap (λ b. cond b (Goes (on (reverse m.stack.items) (record (state_of m cells) { turns = m.turns + 1 }))) (Stops Spent (state_of m cells))) (lt-ltb m.turns limit l)

  -- all turns are spent
  pub turn_spent : m.raising ≡ None → slice_get c.instrs m.pc ≡ Some Turn → m.turns ≡ limit → step limit c (state_of m cells) ≡ Stops Spent (state_of m cells)
  turn_spent n e l = step_is limit c (state_of m cells) Turn n e ∙ ap (λ b. cond b (Goes (on (reverse m.stack.items) (record (state_of m cells) { turns = m.turns + 1 }))) (Stops Spent (state_of m cells))) (le-ltb m.turns limit (omega (arith, l)))

  -- ---- raises

  raising_is : (q : Reason) → m.raising ≡ Some q → step limit c (state_of m cells) ≡ raised q (entry_of c.unwind m.pc) (state_of m cells)
  raising_is q e = ap (λ o. stepped limit c o (state_of m cells)) e

  pub handled_on : (q : Reason) (u : Unwind) → m.raising ≡ Some q → entry_of c.unwind m.pc ≡ Some u → step limit c (state_of m cells) ≡ Goes (handled u q (state_of m cells))
  handled_on q u e o = raising_is q e ∙ ap (λ x. raised q x (state_of m cells)) o

  pub unwound_on : (q : Reason) → m.raising ≡ Some q → entry_of c.unwind m.pc ≡ None → step limit c (state_of m cells) ≡ unwound q (frames_of m.waiting.items) (state_of m cells)
  unwound_on q e o = raising_is q e ∙ ap (λ x. raised q x (state_of m cells)) o

  pub handled_depth : (q : Reason) (u : Unwind) → m.raising ≡ Some q → entry_of c.unwind m.pc ≡ Some u → m.floor + u.depth ≤ length m.stack.items
  handled_depth q u e o = let g = guarded c r.low r.valid (state_of m cells) q u e r.stands o in omega (arith, g.7, length-reverse m.stack.items)

  pub handled_nest : (q : Reason) (u : Unwind) → m.raising ≡ Some q → entry_of c.unwind m.pc ≡ Some u → u.nest ≤ m.nest
  handled_nest q u e o = let g = guarded c r.low r.valid (state_of m cells) q u e r.stands o in g.8

  pub handled_room : (q : Reason) (u : Unwind) → m.raising ≡ Some q → entry_of c.unwind m.pc ≡ Some u → m.floor + u.depth < vec_capacity m.stack
  handled_room q u e o =
      let g = guarded c r.low r.valid (state_of m cells) q u e r.stands o in
      let k = handled_keeps c r.low r.valid (state_of m cells) q u e r.stands o in
      let l = stack_fits c r.low r.valid (handled u q (state_of m cells)) (vec_capacity m.stack) k refl r.roomy.bodies in
      omega (arith, l, length_cut (m.floor + u.depth) (reverse m.stack.items) g.7)

  pub raising_floor : (q : Reason) → m.raising ≡ Some q → m.floor ≤ length m.stack.items
  raising_floor q e =
      let high : Height c (Some q) m.pc m.floor r.stands.spot.stack (length (reverse m.stack.items)) = subst (λ o. Height c o m.pc m.floor r.stands.spot.stack (length (reverse m.stack.items))) e r.stands.height in
      let fit = fine c r.low r.valid m.pc high.0 r.stands.spot high.1 r.stands.at in
      omega (arith, high.2, fit.operands, length-reverse m.stack.items)

  ready_frames : (q : Reason) (fs : List Frame) → frames_of m.waiting.items ≡ fs → step limit c (state_of m cells) ≡ Goes (state_of m' cells') → vec_capacity m'.stack ≡ vec_capacity m.stack → unwound q fs (state_of m cells) ≡ Goes (state_of m' cells') → Ready c m' cells'
  ready_frames q [] w e v g = cc
  ready_frames q (f ∷ fs) w e v g =
      let t : ended f fs f.at (cut m.floor (reverse m.stack.items)) (state_of m cells) ≡ state_of m' cells' = cc in
      ready_ended limit c m m' cells cells' f fs r e v w (sym (ap (λ s. s.base) t)) (sym (ap (λ s. s.waiting) t)) (sym (ap (λ s. s.outward) t))

  pub unwound_ready : (q : Reason) → m.turns ≤ limit → m.raising ≡ Some q → entry_of c.unwind m.pc ≡ None → vec_capacity m'.stack ≡ vec_capacity m.stack → unwound q (frames_of m.waiting.items) (state_of m cells) ≡ Goes (state_of m' cells') → Steps limit c went.Raising m cells m' cells'
  unwound_ready q l e o v g =
      let s = unwound_on q e o ∙ g in
      steps_raising limit c m cells r l m' cells' s (ready_frames q (frames_of m.waiting.items) refl s v g)

-- ---- one after another

module _ (limit : ℕ) (c : Code) where
  pub stops_after : (s : stops.Stop) (p q r : State) → Comes limit c p q → EndsAt limit c s q r → StopsAt limit c s p r
  stops_after (stop.Done v) p q r h g = stops_on limit c p q _ r h (stops_one limit c q _ r g)
  stops_after (stop.Left x) p q r h g = stops_on limit c p q _ r h (stops_one limit c q _ r g)
  stops_after (stop.Construct a) p q r h g = stops_on limit c p q _ r h (stops_one limit c q _ r g)
  stops_after (stop.Ask io) p q r h g = stops_on limit c p q _ r h (stops_one limit c q _ r g)
  stops_after stop.Spent p q r h g = stops_on limit c p q _ r h (stops_one limit c q _ r g)
  stops_after stop.Paused p q r h g = subst (λ x. Comes limit c p x × IsAtLook limit c x) (sym g.0) (h, g.1)
  stops_after stop.NoMemory p q r h g = subst (λ x. Comes limit c p x × Wants c x) (sym g.0) (h, g.1)

  pub stops_later : (s : stops.Stop) (p q r : State) → Comes limit c p q → StopsAt limit c s q r → StopsAt limit c s p r
  stops_later (stop.Done v) p q r h g = stops_on limit c p q _ r h g
  stops_later (stop.Left x) p q r h g = stops_on limit c p q _ r h g
  stops_later (stop.Construct a) p q r h g = stops_on limit c p q _ r h g
  stops_later (stop.Ask io) p q r h g = stops_on limit c p q _ r h g
  stops_later stop.Spent p q r h g = stops_on limit c p q _ r h g
  stops_later stop.Paused p q r h g = (comes_on limit c p q r h g.0, g.1)
  stops_later stop.NoMemory p q r h g = (comes_on limit c p q r h g.0, g.1)
