-- What iterations go through (5.5, 5.5.2), as it is held until a filter completes it.
use Rattle.std.specs.Prelude.{◌≡◌, ℕ, List, Option, Some, None, Result, Ok, Err}
use Rattle.syntax_tree.specs.Syntax.{OptionalExpr}
use Rattle.typed_tree.specs.Decoded as part
use Rattle.typed_tree.specs.Decoded.{TypedPart}
use Rattle.typed_tree.specs.Syntax as typed
use Rattle.typed_tree.specs.Latest.{top, second, pop}
use Rattle.name_rules.specs.Iterations as iterations
use Rattle.name_rules.specs.Judges.{part_if}
use Rattle.name_rules.specs.Judging.{Judging, breaks, pure, ◌>>=◌}
use Rattle.name_rules.specs.TypedParts.{high_of, low_of, selections_of}
use Rattle.name_rules.specs.declared.log.Log.{Log}
use Rattle.name_rules.specs.declared.log.Rule.TheVariants.{WrongType}
use Rattle.name_rules.specs.declared.scope.Context.{Context}
use Rattle.name_rules.specs.declared.scope.What.{What}
use Rattle.name_values.specs.declared.walks.ChunkParameter.{ChunkParameter}
use Rattle.name_values.specs.declared.walks.Chunking.{Chunking}
use Rattle.name_values.specs.declared.walks.Entering.{Entering}
use Rattle.name_values.specs.declared.walks.Walked.{Walked}
use Rattle.name_values.specs.declared.walks.Way.TheVariants as way
use Rattle.name_values.specs.declared.walks.Way.{Way}
use Rattle.syntax_nodes.specs.Tables.{part_at}
use Rattle.syntax_nodes.specs.declared.nodes.Node.{Node}
use Rattle.syntax_nodes.specs.Views.{optional_expr}

-- an iteration without its filter, by its bounds or the selections of its array
abbrev pub made_by : Way → TypedPart → TypedPart
made_by (way.Range n back c) p = part.AnIteration (typed.Range n back (low_of p) (high_of p) c typed.Absent)
made_by (way.Components c) p = part.AnIteration (typed.Components c.item c.constant c.at c.root (selections_of p) c.count c.stride c.dimensions typed.Absent)

abbrev pub made_of : Option Way → TypedPart → Option TypedPart
made_of None p = None
made_of (Some w) p = Some (made_by w p)

abbrev pub as_walked : List Node → Walked → TypedPart → iterations.Walked
as_walked ns w p = record { made = made_of w.way p; token = w.token; entry = w.entry; filter = optional_expr (part_at ns) w.filter; reverse = w.reverse }

-- it judges so what an iteration goes through, and leaves its bounds or the selections of its array
abbrev pub Walks : {E : Type 0} → iterations.Walked × Log → List Node → List TypedPart → Result Walked E → Log → List TypedPart → Type 0
Walks outcome ns rest (Ok w) log now = (outcome ≡ (as_walked ns w (top now), log)) × (pop now ≡ rest)
Walks outcome ns rest (Err e) log now = Unit {0}

-- the name isn't that of an array object
abbrev pub over_wrong : ℕ → ℕ → OptionalExpr → Judging iterations.Walked
over_wrong at token f = breaks at WrongType >>= λ u. pure (iterations.no_array token f)

abbrev pub entry_of : Option ChunkParameter → Option (ℕ × What)
entry_of None = None
entry_of (Some c) = Some (c.token, c.what)

abbrev pub as_chunked : Chunking → TypedPart → iterations.Chunked
as_chunked c p = record { chunk = part_if c.given p; entry = entry_of c.parameter }

-- it judges a chunk specification so, and leaves it
abbrev pub Chunks : {E : Type 0} → iterations.Chunked × Log → List TypedPart → Result Chunking E → Log → List TypedPart → Type 0
Chunks outcome rest (Ok c) log now = (outcome ≡ (as_chunked c (top now), log)) × (pop now ≡ rest)
Chunks outcome rest (Err e) log now = Unit {0}

abbrev pub as_entered : Entering → Context → List TypedPart → iterations.Entered
as_entered e here now = record { construct = e.construct; chunk = part_if e.chunk (second now); iteration = part_if e.iteration (top now); here = here; reverse = e.reverse }

-- it judges an iteration so, and leaves its chunk specification and then itself
abbrev pub Enters : {E : Type 0} → iterations.Entered × Log → List TypedPart → Result Entering E → Log → Context → List TypedPart → Type 0
Enters outcome rest (Ok e) log here now = (outcome ≡ (as_entered e here now, log)) × (pop (pop now) ≡ rest)
Enters outcome rest (Err e) log here now = Unit {0}
