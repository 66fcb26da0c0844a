-- A thread's path of the machine, that runs the constructs in it in order, as a path of ada_workers.
use Rattle.std.specs.Prelude.{ℕ, ◌+◌, ◌*◌, pos, negsuc, List, [], ◌∷◌, Option, Some, None}
use Rattle.ada_base.specs.Cells.{Cell}
use Rattle.ada_base.specs.Cuts.{Plan, cuts_of}
use Rattle.ada_base.specs.Input.{Nothing}
use Rattle.ada_base.specs.Notes.{InOrder}
use Rattle.ada_workers.specs.Paths.{Ending, AtEnd, Left as Leaves, Spent as Overspent, Cut as IsCut, Stuck as IsStuck, Outcome, Runs}
use Rattle.ada_workers.specs.Iterated.{Touch, Reads, Writes}
use Rattle.stack_code.specs.declared.code.Code.{Code}
use Rattle.stack_code.specs.Machine.{Stop, Done, Left, Spent, Cut, Asks, Constructs, Stuck, Astray, begun}
use Rattle.stack_code.specs.Stands.{cost}
use Rattle.ada_lower.specs.Driven.{World, Path, Final, On}
use Rattle.machine_paths.specs.Silent.{silently}
use Rattle.machine_paths.specs.Touched as machine
use Rattle.machine_paths.specs.Touching.{silent_touches}

-- a path at the entry of a body whose frame begins at `base`
pub record ThreadPath : Type 0 where
  pub limit : ℕ
  pub code : Code
  pub plan : Plan
  pub entry : ℕ
  pub base : ℕ
  pub outward : List ℕ
  -- as it begins; once it ran, as it ended
  pub turns : ℕ
  pub calls : ℕ
  pub nested : ℕ
  -- what it came to, once it ran
  pub how : Option Stop

-- inside threads constructs are run in order
abbrev pub inside : World → World
inside w = record w { notes = InOrder }

-- a world of which nothing is used but the plan
abbrev pub quiet : Plan → World
quiet plan = record { taken = 0; held = Nothing; input = []; output = []; notes = InOrder; plan = cuts_of plan; done = None }

abbrev pub starts : ThreadPath → Option ℕ → List Cell → Path
starts p n cs = record { state = begun p.entry p.base p.outward p.turns p.calls p.nested n cs; world = quiet p.plan }

abbrev pub ending : Stop → Ending
ending (Done v) = AtEnd
ending (Left l) = Leaves
ending Spent = Overspent
ending Cut = IsCut
ending (Asks q) = IsStuck
ending (Constructs q) = IsStuck
ending Stuck = IsStuck
ending Astray = IsStuck

abbrev pub final_path : ThreadPath → Final → ThreadPath
final_path p e = record p { turns = e.dyn.turns; how = Some e.how }

abbrev pub outcome_of : ThreadPath → Option Final → Outcome ThreadPath
outcome_of p None = record { path = p; cells = []; end = IsStuck }
outcome_of p (Some e) = record { path = final_path p e; cells = e.dyn.cells; end = ending e.how }

-- as many steps as forward code can take, with the constructs in it and the rounds of its parts
abbrev pub enough : ℕ → Code → ℕ
enough limit c = 2 * ((2 * limit + 1) * (4 * cost c.instrs + 4))

-- what it comes to
abbrev pub ran : ThreadPath → Option ℕ → List Cell → Option Final
ran p n cs = silently p.limit p.code (enough p.limit p.code) (On (starts p n cs))

abbrev pub runs : Runs ThreadPath
runs p n cs = outcome_of p (ran p n cs)

-- the cells that it reads and writes
abbrev pub by_number : List machine.Touch → List Touch
by_number [] = []
by_number (machine.Reads (pos n) ∷ ts) = Reads n ∷ by_number ts
by_number (machine.Reads (negsuc n) ∷ ts) = by_number ts
by_number (machine.Sets (pos n) ∷ ts) = Writes n ∷ by_number ts
by_number (machine.Sets (negsuc n) ∷ ts) = by_number ts

abbrev pub touched : ThreadPath → List Cell → List Touch
touched p ms = by_number (silent_touches p.limit p.code (enough p.limit p.code) (On (starts p None ms)))
