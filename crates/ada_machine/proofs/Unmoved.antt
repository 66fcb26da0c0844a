-- A stretch at the instruction that it came to.
use Rattle.std.proofs.Common.{◌≡◌, ℕ, ◌≤◌, List, Some, None, reverse, refl, inr, sym, ap, ◌∙◌, subst, arith}
use Rattle.std.specs.Prelude.{slice_get, vec_capacity}
use Rattle.ada_base.specs.Cells.{Cell}
use Rattle.stack_code.specs.declared.code.Code.{Code}
use Rattle.stack_code.specs.declared.instr.Instr.{Instr}
use Rattle.stack_code.specs.declared.instr.Instr.TheVariants.{Turn, CallAt, Ret, RetV}
use Rattle.stack_code.specs.Machine.{Comes}
use Rattle.stack_code.specs.Runs.{NeverStuck}
use Rattle.stack_code.specs.Stands.{Stands, rank}
use Rattle.stack_code.specs.Looks.{Looks, looks_of}
use Rattle.stack_code.specs.Tops.{IsTopped}
use Rattle.stack_code.proofs.Runs.{comes_one, comes_on}
use Rattle.ada_machine.specs.declared.machine.Machine.{Machine}
use Rattle.ada_machine.specs.declared.machine.Stop as stops
use Rattle.ada_machine.specs.declared.machine.Stop.TheVariants as stop
use Rattle.ada_machine.specs.declared.machine.Went.TheVariants as went
use Rattle.ada_machine.specs.Played.{AsksMore, Strays}
use Rattle.ada_machine.specs.States.{state_of, frames_of, Ready, Roomy, Steps, LooksBy, Unlooked, more}
use Rattle.ada_machine.specs.Strides.{Strides, IsHandedOn, IsRare}
use Rattle.ada_machine.proofs.Looking.{looked_step, looked_stops}
use Rattle.ada_machine.proofs.Walks.{stops_after}

-- what the loop hands on
pub handed_on : (i : Instr) → AsksMore i → (i ≡ Turn → ⊥) → IsHandedOn i
handed_on Turn a t = absurd (t refl)
handed_on i a t = a

-- and what it doesn't have in itself
pub rarely : (i : Instr) → IsHandedOn i → ((sub n : ℕ) → i ≡ CallAt sub n → ⊥) → (i ≡ Ret → ⊥) → (i ≡ RetV → ⊥) → IsRare i
rarely (CallAt sub n) a k r v = absurd (k sub n refl)
rarely Ret a k r v = absurd (r refl)
rarely RetV a k r v = absurd (v refl)
rarely i a k r v = a

-- a machine at an instruction, which a stretch came to
pub record Came (limit : ℕ) (c : Code) (m0 : Machine) (cells0 : List Cell) (low : ℕ) (i : Instr) (m : Machine) (cells : List Cell) : Type 0 where
  pub came : Comes limit c (state_of m0 cells0) (state_of m cells)
  pub ready : Ready c m cells
  pub calm : m.raising ≡ None
  pub clear : NeverStuck limit c (state_of m cells)
  pub within : m.turns ≤ limit
  pub at : slice_get c.instrs m.pc ≡ Some i
  pub tops : IsTopped low (state_of m cells)
  pub looks : (n : ℕ) × (m.looks ≡ more m0.looks n) × Looks limit c n (state_of m0 cells0) (state_of m cells)
  pub falls : rank c limit (state_of m cells) ≤ rank c limit (state_of m0 cells0)

-- nothing has changed but how it is kept
module _ (limit : ℕ) (c : Code) (m m' : Machine) (cells cells' : List Cell) (e : state_of m' cells' ≡ state_of m cells) where
  ready_still : vec_capacity m'.stack ≡ vec_capacity m.stack → Ready c m cells → Ready c m' cells'
  ready_still v r = record {
    valid = r.valid;
    forward = r.forward;
    low = r.low;
    stands = subst (λ s. Stands c r.low s) (sym e) r.stands;
    roomy = subst (λ s. Roomy c r.low (vec_capacity m'.stack) s.base s.waiting s.outward) (sym e) (subst (λ k. Roomy c r.low k m.base (frames_of m.waiting.items) m.outward.items) (sym v) r.roomy);
  }

  pub came_still : (m0 : Machine) (cells0 : List Cell) (low low' : ℕ) (i : Instr) → vec_capacity m'.stack ≡ vec_capacity m.stack → low' ≡ low → m'.looks ≡ m.looks → Came limit c m0 cells0 low i m cells → Came limit c m0 cells0 low' i m' cells'
  came_still m0 cells0 low low' i v l k a = record {
    came = subst (λ s. Comes limit c (state_of m0 cells0) s) (sym e) a.came;
    ready = ready_still v a.ready;
    calm = ap (λ s. s.raising) e ∙ a.calm;
    clear = subst (λ s. NeverStuck limit c s) (sym e) a.clear;
    within = subst (λ s. s.turns ≤ limit) (sym e) a.within;
    at = subst (λ s. slice_get c.instrs s.pc ≡ Some i) (sym e) a.at;
    tops = subst (λ n. IsTopped n (state_of m' cells')) (sym l) (subst (λ s. IsTopped low s) (sym e) a.tops);
    looks = (a.looks.0, k ∙ a.looks.1, subst (λ s. Looks limit c a.looks.0 (state_of m0 cells0) s) (sym e) a.looks.2);
    falls = subst (λ s. rank c limit s ≤ rank c limit (state_of m0 cells0)) (sym e) a.falls;
  }

  -- the instruction raises again an exception of no number of 32 bits
  pub beyond_still : vec_capacity m'.stack ≡ vec_capacity m.stack → Ready c m cells → m.turns ≤ limit → m.raising ≡ None → (i : Instr) → slice_get c.instrs m.pc ≡ Some i → Strays i (reverse m.stack.items) → Steps limit c (went.Stopped stop.NoMemory) m cells m' cells'
  beyond_still v r w n i at x = record { goes = (e, (n, i, at, inr x)); ready = ready_still v r; within = subst (λ s. s.turns ≤ limit) (sym e) w; falls = tt }

-- nor what its stack holds
module _ (limit : ℕ) (c : Code) (m n q : Machine) (cells cells' : List Cell) (e : q ≡ n) (f : n ≡ record m { stack = n.stack }) (d : n.stack.items ≡ m.stack.items) (k : cells' ≡ cells) where
  pub same_kept : state_of q cells' ≡ state_of m cells
  same_kept = ap (λ (x : Machine). state_of x cells') (e ∙ f) ∙ ap (λ st. record (state_of m cells') { stack = reverse st }) d ∙ ap (λ w. state_of m w) k

  pub came_kept : (m0 : Machine) (cells0 : List Cell) (low low' : ℕ) (i : Instr) → vec_capacity n.stack ≡ vec_capacity m.stack → low' ≡ low → Came limit c m0 cells0 low i m cells → Came limit c m0 cells0 low' i q cells'
  came_kept m0 cells0 low low' i v l a = came_still limit c m q cells cells' same_kept m0 cells0 low low' i (ap (λ (x : Machine). vec_capacity x.stack) e ∙ v) l (ap (λ (x : Machine). x.looks) (e ∙ f)) a

-- what a stretch comes to by the instruction that it came to
module _ (limit : ℕ) (c : Code) (m0 : Machine) (cells0 : List Cell) (low : ℕ) (i : Instr) (m : Machine) (cells : List Cell) (a : Came limit c m0 cells0 low i m cells) (m' : Machine) (cells' : List Cell) where
  pub raises_there : Steps limit c went.Raising m cells m' cells' → Strides limit c None m0 cells0 m' cells'
  raises_there s = record { goes = comes_on limit c _ _ _ a.came (comes_one limit c _ _ s.goes); ready = s.ready; within = s.within; falls = omega (arith, a.falls, s.falls) }

  pub stops_there : (s : stops.Stop) → Steps limit c (went.Stopped s) m cells m' cells' → Strides limit c (Some s) m0 cells0 m' cells'
  stops_there s t = record { goes = stops_after limit c s _ _ _ a.came t.goes; ready = t.ready; within = t.within; falls = tt }

  pub looks_raised : Steps limit c went.Raising m cells m' cells' → LooksBy went.Raising m.looks m'.looks (looks_of c (state_of m cells)) → Unlooked limit c None m0.looks m'.looks (state_of m0 cells0) (state_of m' cells')
  looks_raised s h = looked_step limit c (state_of m0 cells0) (state_of m cells) (state_of m' cells') m0.looks m.looks m'.looks a.looks refl s.goes h

  pub looks_stopped : (s : stops.Stop) → Steps limit c (went.Stopped s) m cells m' cells' → LooksBy (went.Stopped s) m.looks m'.looks (looks_of c (state_of m cells)) → Unlooked limit c (Some s) m0.looks m'.looks (state_of m0 cells0) (state_of m' cells')
  looks_stopped s t h = looked_stops limit c s (state_of m0 cells0) (state_of m cells) (state_of m' cells') m0.looks m.looks m'.looks a.looks refl t.goes h
