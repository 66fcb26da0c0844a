-- The runs of an association's components, as they are found one after the other.
use Rattle.std.specs.Prelude.{List, [], ◌∷◌, Option, Some, None}
use Rattle.typed_tree.specs.declared.node.Node.{Node}
use Rattle.typed_tree.specs.declared.expressions.Run.{Run}
use Rattle.typed_tree.specs.Decoded.{as_runs, part_at}
use Rattle.lower_values.specs.declared.runs.Found.{Found}

abbrev pub runs_from : List Node → Option Found → List Run
runs_from ns None = []
runs_from ns (Some found) = found.run ∷ as_runs (part_at ns found.rest)
