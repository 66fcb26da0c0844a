-- What a stretch of instructions leaves to the unwind entries that hold all of it.
use Rattle.std.specs.Prelude.{◌≡◌, ℕ, ◌<◌, ◌≤◌, ◌↔◌, Some, slice_get}
use Rattle.stack_code.specs.declared.instr.Instr.{Instr}
use Rattle.stack_code.specs.declared.code.Code.{Code}
use Rattle.stack_code.specs.declared.code.Spot.{Spot}
use Rattle.stack_code.specs.declared.code.Unwind.{Unwind}
use Rattle.code_validity.specs.declared.slack.Slack.{Slack}
use Rattle.stack_code.specs.Valid.{Each, Has, Guarded, IsUpTo, SpotFits}

-- entry k, which holds all of it, may
pub record Admits (c : Code) (k : ℕ) (u : Unwind) (x : Slack) : Type 0 where
  pub body : Has c.spots u.handler (λ h. x.body ≡ Some h.body)
  pub nest : u.nest ≤ x.nest
  pub room : u.depth ≤ x.room
  pub first : IsUpTo k x.held

abbrev pub AllGuarded : Code → ℕ → ℕ → ℕ → Unwind → Type 0
AllGuarded c from to k u = (at : ℕ) (i : Instr) (s : Spot) → from ≤ at → at < to → slice_get c.instrs at ≡ Some i → slice_get c.spots at ≡ Some s → Guarded c k u i s

-- the slack of a stretch
pub record IsSlackOf (c : Code) (from to : ℕ) (x : Slack) : Type 0 where
  pub admits : (k : ℕ) (u : Unwind) → Admits c k u x ↔ AllGuarded c from to k u

abbrev pub AreFit : Code → Type 0
AreFit c = Each c.instrs (λ at i. Has c.spots at (SpotFits c at i))
