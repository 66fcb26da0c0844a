-- A machine that asked and goes on.
use Rattle.std.proofs.Common.{◌≡◌, ◌⊎◌, inl, inr, ℕ, ◌+◌, ℤ, List, [], ◌∷◌, Option, Some, None, Ok, Err, sym, subst}
use Rattle.std.specs.Prelude.{slice_get}
use Rattle.ada_base.specs.declared.reason.Reason.{Reason}
use Rattle.ada_io.specs.declared.input.GetEnd.{GetEnd}
use Rattle.ada_io.specs.declared.input.Got.{Got}
use Rattle.ada_port.specs.declared.ports.Failed.{Failed}
use Rattle.stack_code.specs.declared.code.Code.{Code}
use Rattle.stack_code.specs.declared.instr.Instr.{Instr}
use Rattle.stack_code.specs.declared.instr.Instr.TheVariants.{Send, SendLn, Get}
use Rattle.stack_code.specs.declared.path.Gave.TheVariants as gave
use Rattle.stack_code.specs.declared.path.Io.{Io}
use Rattle.stack_code.specs.declared.path.Io.TheVariants as io
use Rattle.stack_code.specs.declared.path.Leave.TheVariants.{Raise}
use Rattle.stack_code.specs.Answers.{IsAnswer, IsIo}
use Rattle.stack_code.specs.Stands.{Forked, Stands}
use Rattle.ada_machine.specs.States.{Awaits, state_of}
use Rattle.ada_machine.specs.declared.machine.Machine.{Machine}
use Rattle.run_outside.specs.Outside.{HasPut, MayBe, Outside}
use Rattle.run_machine.specs.Asked.{HasAnswered, ReadBy, ReadTo, with_turns}
use Rattle.run_machine.specs.Loops.{Answers}
use Rattle.run_machine.specs.Running.{IsGetting, IsSending}
use Rattle.run_machine.specs.declared.ends.How.TheVariants as how

-- ---- what it may be given
module _ (c : Code) where
  pub sent : (o : Option Instr) → IsSending o → IsAnswer c o gave.Nothing
  sent (Some Send) h = tt
  sent (Some SendLn) h = tt
  sent _ h = absurd h

  pub number : (v : ℤ) (o : Option Instr) → IsGetting o → IsAnswer c o (gave.Numbers (v ∷ []))
  number v (Some Get) h = tt
  number v _ h = absurd h

  pub raise : (r : Reason) (o : Option Instr) → IsGetting o → IsAnswer c o (gave.Left (Raise r))
  raise r (Some Get) h = tt
  raise r _ h = absurd h

  -- turns are nothing to it
  pub awaits_turned : (m : Machine) (n : ℕ) → Awaits c m → Awaits c (with_turns n m)
  awaits_turned m n a = record { valid = a.valid; forward = a.forward; low = a.low; asks = asks; roomy = a.roomy }
    where
      asks : ((site : ℕ) × Forked c a.low site (state_of (with_turns n m) [])) ⊎ (Stands c a.low (state_of m []) × (m.raising ≡ None) × IsIo (slice_get c.instrs m.pc))
      asks = elim a.asks [
        | inl f ↦ inl (f.0, record { spot = f.1.spot; at = f.1.at; here = f.1.here; height = f.1.height; calm = f.1.calm; nest = f.1.nest; within = f.1.within; chain = f.1.chain })
        | inr s ↦ inr s
      ]

-- ---- how a Get ended
module _ (c : Code) (got : Got) (m m' : Machine) where
  pub read_to : (e : GetEnd) → got.end ≡ e → ReadBy c e (with_turns (m.turns + got.took) m) m' → ReadTo c got m m'
  read_to e is h = subst (λ e. ReadBy c e (with_turns (m.turns + got.took) m) m') (sym is) h

-- ---- how a piece was put out
module _ (InTells : Type 0) (limit : ℕ) (c : Code) (m m' : Machine) (o o' : Outside) (i : Io) (piece : List ℕ) (is : i ≡ io.Write piece) (bytes : List ℕ) (same : bytes ≡ piece) where
  pub wrote : HasPut (MayBe InTells) bytes (Ok tt) o o' → HasAnswered c gave.Nothing m m' → Answers InTells limit c i (Ok tt) m m' o o'
  wrote put a = subst (λ x. Answers InTells limit c x (Ok tt) m m' o o') (sym is) (Ok tt, subst (λ bs. HasPut (MayBe InTells) bs (Ok tt) o o') same put, a)

  pub unwritten : (f : Failed) → HasPut (MayBe InTells) bytes (Err f) o o' → Answers InTells limit c i (Err how.WriteFault) m m' o o'
  unwritten f put = subst (λ x. Answers InTells limit c x (Err how.WriteFault) m m' o o') (sym is) (Err f, subst (λ bs. HasPut (MayBe InTells) bs (Err f) o o') same put, tt)
