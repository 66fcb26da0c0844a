-- What a run of the machine needs before it begins, and what it leaves of the main procedure's variables.
use Rattle.std.specs.Prelude.{◌≡◌, ℕ, ◌+◌, ◌≤◌, ℤ, pos, List, [], ◌∷◌, All, replicate}
use Rattle.ada_base.specs.Cells.{Cell}
use Rattle.ada_meaning.specs.declared.slots.Variable.{Variable}
use Rattle.cell_memory.specs.Sight.{value_of}
use Rattle.run_reports.specs.declared.ends.Finals.{Finals}
use Rattle.stack_code.specs.declared.code.Code.{Code}
use Rattle.stack_code.specs.declared.code.CodeSub.{CodeSub}

-- the cells of the first body's frame, which is the main procedure's
abbrev pub first_frame : List CodeSub → ℕ
first_frame [] = 0
first_frame (s ∷ ss) = s.frame

abbrev pub main_frame : Code → ℕ
main_frame c = first_frame c.subs

-- there are so many cells or more for each of these variables
abbrev pub AreWithin : ℕ → List Variable → Type 0
AreWithin size variables = All (λ (v : Variable). v.address + v.cells ≤ size) variables

-- room for the cells of these variables, of which each is 0 so far
pub record IsRoom (variables : List Variable) (f : Finals) : Type 0 where
  pub size : ℕ
  pub declared : f.declared ≡ variables
  pub kept : f.kept ≡ replicate size (pos 0)
  pub within : AreWithin size variables

-- values that were read over others, as far as there are both
abbrev pub read_over : List ℤ → List Cell → List ℤ
read_over [] cells = []
read_over (k ∷ ks) [] = k ∷ ks
read_over (k ∷ ks) (c ∷ cs) = value_of c ∷ read_over ks cs
