-- What a thread's machine comes to, with the constructs inside it run in order.
use Rattle.std.specs.Prelude.{ℕ, ◌+◌, Result, Ok, Err, List, [], ◌∷◌, take, Option, Some, None}
use Rattle.ada_base.specs.Cells.{Cell}
use Rattle.ada_base.specs.Cuts.{Plan}
use Rattle.ada_workers.specs.Paths.{Fine}
use Rattle.stack_code.specs.declared.code.Code.{Code}
use Rattle.stack_code.specs.declared.path.Gave.{Gave}
use Rattle.stack_code.specs.Machine.{Frame, State, Stop}
use Rattle.ada_lower.specs.Driven.{Path, Final, Step}
use Rattle.machine_paths.specs.Silent.{Quietly}
use Rattle.machine_paths.specs.Threads.{quiet, ending}

-- with so many looks left, if they are counted
abbrev pub with_left : Option ℕ → State → State
with_left l s = record s { left = l }

-- so many looks more
abbrev pub ahead : ℕ → Option ℕ → Option ℕ
ahead n None = None
ahead n (Some k) = Some (n + k)

abbrev pub stands : Plan → State → Option ℕ → Path
stands plan s l = record { state = with_left l s; world = quiet plan }

abbrev pub final : Plan → Stop → List Cell → ℕ → Option ℕ → Final
final plan x cells turns l = record { how = x; dyn = record { cells = cells; turns = turns; left = l; world = quiet plan } }

-- it comes to an end that isn't stuck
abbrev pub IsFine : ℕ → Code → Step → Type 0
IsFine limit c x = (e : Final) × Quietly limit c x e × Fine (ending e.how)

-- what threads come to that isn't stuck
abbrev pub FineHow : Result Gave Stop → Type 0
FineHow (Ok g) = Unit {0}
FineHow (Err x) = Fine (ending x)

-- without the cells of calls
abbrev pub clipped : List Frame → List Cell → List Cell
clipped [] cs = cs
clipped (w ∷ ws) cs = clipped ws (take w.top cs)
