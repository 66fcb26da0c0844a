-- Where a program's code begins, and where an end of the main procedure is taken.
use Rattle.std.specs.Prelude.{ℕ, pos, List, [], replicate, Option, Some, None}
use Rattle.ada_base.specs.Input.{Nothing}
use Rattle.ada_base.specs.Cells.{Mine}
use Rattle.ada_base.specs.Notes.{Schedule}
use Rattle.stack_code.specs.Machine.{Done}
use Rattle.ada_lower.specs.Driven.{Dyn, Fixed, off}
use Rattle.ada_lower.specs.Fits.{Ends}
use Rattle.typed_tree.specs.Syntax.{Program}

-- the frame of the main procedure, with nothing around
abbrev pub outermost : Option Program → Fixed
outermost asked = record { below = []; nest = 0; kept = []; rounds = []; base = 0; outward = []; waiting = []; calls = 0; nested = 0; asked = asked }

abbrev pub first_dyn : Schedule → (ℕ → ℕ → List ℕ) → ℕ → List ℕ → List ℕ → Dyn
first_dyn notes plan frame input before = record { cells = replicate frame (Mine (pos 0)); turns = 0; left = None; world = record { taken = 0; held = Nothing; input = input; output = before; notes = notes; plan = plan; done = Some [] } }

-- where an end of the main procedure is taken
abbrev pub main_ends : Ends
main_ends = record { entry = None; exits = λ n d. off (Done None) d; returns = λ v d. off (Done None) d }
