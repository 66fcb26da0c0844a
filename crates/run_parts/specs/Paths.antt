-- Selections whose indexes are parameters of loops (4.1.1).
use Rattle.std.specs.Prelude.{◌≡◌, ℕ, ◌+ℤ◌, ◌<◌, pos, List, map, slice_get, Option, Some, IfSome, option_and_then, All, length}
use Rattle.typed_tree.specs.declared.node.Node.{Node}
use Rattle.typed_tree.specs.Decoded.{selections_at}
use Rattle.typed_tree.specs.Syntax.{Selections, Whole, Index, Parameter}
use Rattle.run_parts.specs.declared.paths.ParameterIndex.{ParameterIndex}
use Rattle.run_parts.specs.declared.paths.Path.{Path}
use Rattle.run_parts.specs.declared.paths.Path.TheVariants as path

-- an index, and the selections behind it
abbrev pub index_by : ParameterIndex → Selections → Selections
index_by i rest = Index i.at (Parameter i.token i.parameter) i.low (i.low +ℤ pos i.span) i.stride rest

abbrev pub selections_by : Path → Selections
selections_by (path.One i) = index_by i Whole
selections_by (path.Two i j) = index_by i (index_by j Whole)

-- the path of a number, of which there may be none
abbrev pub path_at : List (Option Path) → ℕ → Option Path
path_at paths id = option_and_then (λ path. path) (slice_get paths id)

-- each path is the selections of its number in a table of nodes
abbrev pub AreOf : List Node → List (Option Path) → Type 0
AreOf nodes paths = (id : ℕ) (p : Path) → path_at paths id ≡ Some p → selections_at nodes id ≡ selections_by p

-- what places in a list of paths stand for

abbrev pub path_in : List Path → Option ℕ → Option Path
path_in list place = option_and_then (slice_get list) place

abbrev pub paths_in : List Path → List (Option ℕ) → List (Option Path)
paths_in list places = map (path_in list) places

-- no place is past the end of a list
abbrev pub AreWithin : List Path → List (Option ℕ) → Type 0
AreWithin list places = All (λ place. IfSome place (λ k. k < length list)) places
