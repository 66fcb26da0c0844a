-- The tables of the code of a program, from its placed instructions.
use Rattle.std.specs.Prelude.{ℕ, ◌+◌, ◌-◌, nat_eq, nat_lt, List, [], ◌∷◌, ◌++◌, Option, Some, None, Bool, false, cond, not, slice_get}
use Rattle.stack_code.specs.declared.code.Spot.{Spot}
use Rattle.stack_code.specs.declared.code.Unwind.{Unwind}
use Rattle.stack_code.specs.declared.instr.Instr.{Instr}
use Rattle.stack_code.specs.declared.instr.Instr.TheVariants.{Jump}
use Rattle.lower_emission.specs.declared.types.Placed.{Placed}

-- ---- instructions: a jump back to a landmark goes where that leads

abbrev pub led : Instr → ℕ → ℕ
led (Jump u) t = u
led i t = t

-- where a landmark leads
abbrev pub landmark : Option Placed → ℕ → ℕ
landmark None t = t
landmark (Some p) t = led p.instr t

abbrev pub resolved : List Placed → ℕ → Instr → Instr
resolved c at (Jump t) = Jump (cond (nat_lt t at) (landmark (slice_get c t) t) t)
resolved c at i = i

-- those from a place on
abbrev pub instrs_from : List Placed → ℕ → List Placed → List Instr
instrs_from c at [] = []
instrs_from c at (p ∷ ps) = resolved c at p.instr ∷ instrs_from c (at + 1) ps

-- ---- handlers: each stretch of instructions with the same one is an unwind entry

abbrev pub is_entry : ℕ → Option ℕ → Bool
is_entry l None = false
is_entry l (Some k) = nat_eq k l

-- whether a stretch with a handler begins, where that is before and this is here
abbrev pub begins : (before here : Option ℕ) → Bool
begins before None = false
begins before (Some l) = not (is_entry l before)

-- how many instructions from the first on have that handler
abbrev pub stretch : ℕ → List Placed → ℕ
stretch l [] = 0
stretch l (p ∷ ps) = cond (is_entry l p.entry) (stretch l ps + 1) 0

abbrev pub unwind_at : List Placed → ℕ → Option ℕ → List Placed → List Unwind
unwind_at c at None ps = []
unwind_at c at (Some l) ps = record { from = at; to = at + 1 + stretch l ps; handler = landmark (slice_get c l) l; depth = 0; nest = 0 } ∷ []

abbrev pub unwinds_from : List Placed → (before : Option ℕ) → ℕ → List Placed → List Unwind
unwinds_from c before at [] = []
unwinds_from c before at (p ∷ ps) = cond (begins before p.entry) (unwind_at c at p.entry ps) [] ++ unwinds_from c p.entry (at + 1) ps

-- ---- spots

abbrev pub begun_by : (before here : Option ℕ) → ℕ → ℕ
begun_by before here k = cond (begins before here) (k + 1) k

abbrev pub held_by : Option ℕ → ℕ → Option ℕ
held_by None k = None
held_by (Some l) k = Some (k - 1)

abbrev pub spot_of : Placed → ℕ → Spot
spot_of p k = record { body = p.body; stack = p.height; nest = p.nest; held = held_by p.entry k }

-- those of instructions behind others, with so many stretches begun
abbrev pub spots_from : (before : Option ℕ) → (begun : ℕ) → List Placed → List Spot
spots_from before k [] = []
spots_from before k (p ∷ ps) = spot_of p (begun_by before p.entry k) ∷ spots_from p.entry (begun_by before p.entry k) ps
