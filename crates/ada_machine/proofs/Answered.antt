-- A machine that waits for an answer.
use Rattle.std.proofs.Common.{◌≡◌, ℕ, ◌+◌, ◌<◌, List, [], ◌∷◌, length, Some, None, refl, sym, subst, arith, ⊎_elim}
use Rattle.std.specs.Prelude.{slice_get, vec_capacity}
use Rattle.std.proofs.lemmas.List.{length-reverse}
use Rattle.std.proofs.lemmas.Option.{slice_get_within}
use Rattle.stack_code.specs.declared.code.Code.{Code}
use Rattle.stack_code.specs.declared.instr.Instr.{Instr}
use Rattle.stack_code.specs.declared.instr.Instr.TheVariants.{Fork, Get}
use Rattle.stack_code.specs.declared.path.Gave.{Gave}
use Rattle.stack_code.specs.declared.path.Gave.TheVariants.{Nothing, Numbers, Left}
use Rattle.stack_code.specs.declared.path.Leave.TheVariants.{Exit, Return, Raise}
use Rattle.stack_code.specs.Answers.{IsAnswer, IsIo}
use Rattle.ada_base.specs.Cells.{Cell}
use Rattle.stack_code.specs.Machine.{State, after, after_fork, after_get, resumed}
use Rattle.stack_code.specs.Stands.{Stands, Forked}
use Rattle.stack_code.proofs.Answering.{fork_stands, io_stands}
use Rattle.stack_code.proofs.Standing.{has_one}
use Rattle.ada_machine.specs.declared.machine.Machine.{Machine}
use Rattle.ada_machine.specs.States.{state_of, frames_of, Awaits, Ready, HasPlace, HasNumber, IsRead}
use Rattle.ada_machine.proofs.Readies.{stack_fits, roomy_on}

module _ (c : Code) (m : Machine) (a : Awaits c m) where
  pub waits_here : m.pc < length c.instrs
  waits_here = ⊎_elim
      (λ (f : (site : ℕ) × Forked c a.low site (state_of m [])). slice_get_within c.instrs m.pc (Fork f.0) f.1.here)
      (λ (f : Stands c a.low (state_of m []) × (m.raising ≡ None) × IsIo (slice_get c.instrs m.pc)). let w = slice_get_within c.spots m.pc f.0.spot f.0.at in omega (arith, w, a.valid.spots))
      a.asks

  pub waits_stands : (g : Gave) → IsAnswer c (slice_get c.instrs m.pc) g → Stands c a.low (resumed c g (state_of m []))
  waits_stands g w = ⊎_elim
      (λ (f : (site : ℕ) × Forked c a.low site (state_of m [])). fork_stands c a.low a.valid f.0 (state_of m []) g f.1 w)
      (λ (f : Stands c a.low (state_of m []) × (m.raising ≡ None) × IsIo (slice_get c.instrs m.pc)). io_stands c a.low a.valid (state_of m []) g f.0 f.1 f.2 w)
      a.asks

  pub waits_calm : m.raising ≡ None
  waits_calm = ⊎_elim (λ (f : (site : ℕ) × Forked c a.low site (state_of m [])). f.1.calm) (λ (f : Stands c a.low (state_of m []) × (m.raising ≡ None) × IsIo (slice_get c.instrs m.pc)). f.1) a.asks

  fork_place : (g : Gave) → Stands c a.low (after_fork g (record (state_of m []) { kept = [] })) → HasNumber g → HasPlace g (length m.stack.items) (vec_capacity m.stack)
  fork_place Nothing h n = let l = stack_fits c a.low a.valid (after_fork Nothing (record (state_of m []) { kept = [] })) (vec_capacity m.stack) h waits_calm a.roomy.bodies in omega (arith, l, length-reverse m.stack.items)
  fork_place (Numbers []) h n = absurd n
  fork_place (Numbers (v ∷ vs)) h n = let l = stack_fits c a.low a.valid (after_fork (Numbers (v ∷ vs)) (record (state_of m []) { kept = [] })) (vec_capacity m.stack) h waits_calm a.roomy.bodies in omega (arith, l, length-reverse m.stack.items)
  fork_place (Left (Raise r)) h n = tt
  fork_place (Left (Exit k)) h n = let l = stack_fits c a.low a.valid (after_fork (Left (Exit k)) (record (state_of m []) { kept = [] })) (vec_capacity m.stack) h waits_calm a.roomy.bodies in omega (arith, l, length-reverse m.stack.items)
  fork_place (Left (Return None)) h n = let l = stack_fits c a.low a.valid (after_fork (Left (Return None)) (record (state_of m []) { kept = [] })) (vec_capacity m.stack) h waits_calm a.roomy.bodies in omega (arith, l, length-reverse m.stack.items)
  fork_place (Left (Return (Some v))) h n = let l = stack_fits c a.low a.valid (after_fork (Left (Return (Some v))) (record (state_of m []) { kept = [] })) (vec_capacity m.stack) h waits_calm a.roomy.bodies in omega (arith, l, length-reverse m.stack.items)

  get_place : (g : Gave) → Stands c a.low (after_get g (state_of m [])) → IsRead g → HasPlace g (length m.stack.items) (vec_capacity m.stack)
  get_place (Numbers (v ∷ [])) h n = let l = stack_fits c a.low a.valid (after_get (Numbers (v ∷ [])) (state_of m [])) (vec_capacity m.stack) h waits_calm a.roomy.bodies in omega (arith, l, length-reverse m.stack.items)
  get_place (Left (Raise r)) h n = tt
  get_place g h n = absurd n

  has_number : (site : ℕ) (g : Gave) → IsAnswer c (Some (Fork site)) g → HasNumber g
  has_number site (Numbers []) w = let x = has_one (slice_get c.sites site) _ w in absurd x.2
  has_number site (Numbers (v ∷ vs)) w = tt
  has_number site Nothing w = tt
  has_number site (Left l) w = tt

  is_read : (g : Gave) → IsAnswer c (Some Get) g → IsRead g
  is_read (Numbers (v ∷ [])) w = tt
  is_read (Left (Raise r)) w = tt
  is_read g w = absurd w

  pub answers_fork : (site : ℕ) (g : Gave) → slice_get c.instrs m.pc ≡ Some (Fork site) → IsAnswer c (slice_get c.instrs m.pc) g → HasNumber g × HasPlace g (length m.stack.items) (vec_capacity m.stack)
  answers_fork site g e w =
      let n = has_number site g (subst (λ o. IsAnswer c o g) e w) in
      (n, fork_place g (subst (λ o. Stands c a.low (after o g (state_of m []))) e (waits_stands g w)) n)

  pub answers_get : (g : Gave) → slice_get c.instrs m.pc ≡ Some Get → IsAnswer c (slice_get c.instrs m.pc) g → IsRead g × HasPlace g (length m.stack.items) (vec_capacity m.stack)
  answers_get g e w =
      let n = is_read g (subst (λ o. IsAnswer c o g) e w) in
      (n, get_place g (subst (λ o. Stands c a.low (after o g (state_of m []))) e (waits_stands g w)) n)

  -- other instructions are given nothing
  pub answers_send : (i : Instr) (g : Gave) (s : State) → slice_get c.instrs m.pc ≡ Some i → ((site : ℕ) → i ≡ Fork site → ⊥) → (i ≡ Get → ⊥) → after (Some i) g s ≡ record s { pc = s.pc + 1 }
  answers_send (Fork site) g s e n k = absurd (n site refl)
  answers_send Get g s e n k = absurd (k refl)
  answers_send i g s e n k = refl

  pub ready_answered : (m' : Machine) (g : Gave) (cells : List Cell) → IsAnswer c (slice_get c.instrs m.pc) g → state_of m' [] ≡ resumed c g (state_of m []) → vec_capacity m'.stack ≡ vec_capacity m.stack → m'.base ≡ m.base → frames_of m'.waiting.items ≡ frames_of m.waiting.items → m'.outward.items ≡ m.outward.items → Ready c m' cells
  ready_answered m' g cells w e v b fs o = record {
    valid = a.valid;
    forward = a.forward;
    low = a.low;
    stands = subst (Stands c a.low) (sym e) (waits_stands g w);
    roomy = roomy_on c a.low (vec_capacity m.stack) (vec_capacity m'.stack) m.base m'.base (frames_of m.waiting.items) (frames_of m'.waiting.items) m.outward.items m'.outward.items a.roomy (omega (arith, v)) b fs o;
  }

pub at_length : (g : Gave) (n k room : ℕ) → n ≡ k → HasPlace g k room → HasPlace g n room
at_length g n k room e h = subst (λ i. HasPlace g i room) (sym e) h

-- an answer leaves the frames as they are
pub fork_frames : (g : Gave) (s : State) → ((after_fork g s).base ≡ s.base) × ((after_fork g s).waiting ≡ s.waiting) × ((after_fork g s).outward ≡ s.outward)
fork_frames Nothing s = (refl, refl, refl)
fork_frames (Numbers []) s = (refl, refl, refl)
fork_frames (Numbers (v ∷ vs)) s = (refl, refl, refl)
fork_frames (Left (Raise r)) s = (refl, refl, refl)
fork_frames (Left (Exit n)) s = (refl, refl, refl)
fork_frames (Left (Return v)) s = (refl, refl, refl)

pub get_frames : (g : Gave) (s : State) → ((after_get g s).base ≡ s.base) × ((after_get g s).waiting ≡ s.waiting) × ((after_get g s).outward ≡ s.outward)
get_frames (Numbers (v ∷ [])) s = (refl, refl, refl)
get_frames (Left (Raise r)) s = (refl, refl, refl)
get_frames g s = (refl, refl, refl)
