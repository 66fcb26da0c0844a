-- How many looks a step takes, and what a run comes to whose looks are counted.
use Rattle.std.specs.Prelude.{◌≡◌, ℕ, ◌+◌, ℤ, List, [], ◌∷◌, Option, Some, None, slice_get, cond}
use Rattle.ada_base.specs.Cells.{Cell, seen, written}
use Rattle.ada_base.specs.declared.reason.Reason.{Reason}
use Rattle.stack_code.specs.declared.code.Code.{Code}
use Rattle.stack_code.specs.declared.code.Unwind.{Unwind}
use Rattle.stack_code.specs.declared.instr.Instr.{Instr}
use Rattle.stack_code.specs.Deeds.{Deed, Loads, Stores, Points, Turns, Calls, CallsAt, Combines, Nests, deed_of}
use Rattle.stack_code.specs.Machine.{State, Went, Goes, Stops, Stop, Comes, Comes_to, entry_of, points}

-- with so many looks to take
abbrev pub counting : ℕ → State → State
counting n s = record s { left = Some n }

abbrev pub value_looks : Option ℤ → (ℤ → ℕ) → ℕ
value_looks None f = 0
value_looks (Some v) f = f v

abbrev pub cells_looks : Option (List Cell) → (List Cell → ℕ) → ℕ
cells_looks None f = 0
cells_looks (Some w) f = f w

abbrev pub kept_looks : List ℤ → ℕ
kept_looks [] = 0
kept_looks (part ∷ parts) = 1

-- what an instruction asks for takes a look where it begins a turn, a call or a construct
abbrev pub deed_looks : Deed → State → ℕ
deed_looks (Loads a k) s = value_looks (seen s.cells a) (λ v. deed_looks (k v) s)
deed_looks (Stores a v d) s = cells_looks (written s.cells a v) (λ w. deed_looks d (record s { cells = w }))
deed_looks (Points a d) s = cond (points s.cells a) (deed_looks d s) 0
deed_looks Turns s = 1
deed_looks (Calls f) s = 1
deed_looks (CallsAt f n to fit st) s = 1
deed_looks (Combines f acc st) s = kept_looks s.kept
deed_looks Nests s = 1
deed_looks d s = 0

abbrev pub act_looks : Code → Option Instr → State → ℕ
act_looks c None s = 0
act_looks c (Some i) s = deed_looks (deed_of c s.pc s.stack s.base s.outward i) s

-- so does the taking of an entry
abbrev pub raise_looks : Option Unwind → ℕ
raise_looks None = 0
raise_looks (Some u) = 1

abbrev pub step_looks : Code → Option Reason → State → ℕ
step_looks c None s = act_looks c (slice_get c.instrs s.pc) s
step_looks c (Some r) s = raise_looks (entry_of c.unwind s.pc)

-- the looks that one step takes
abbrev pub looks_of : Code → State → ℕ
looks_of c s = step_looks c s.raising s

-- with so many looks more to take than are left in the end, it comes to the same
abbrev pub Counts : Went → ℕ → (ℕ → Went) → Type 0
Counts (Goes q) n f = (q.left ≡ None) × ((j : ℕ) → f (n + j) ≡ Goes (counting j q))
Counts (Stops x q) n f = (j : ℕ) → f (n + j) ≡ Stops x (counting j q)

-- so does a run
abbrev pub Looks : ℕ → Code → ℕ → State → State → Type 0
Looks limit c n p q = (j : ℕ) → Comes limit c (counting (n + j) p) (counting j q)

abbrev pub Looks_to : ℕ → Code → ℕ → State → Stop → State → Type 0
Looks_to limit c n p x q = (j : ℕ) → Comes_to limit c (counting (n + j) p) x (counting j q)
