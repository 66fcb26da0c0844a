-- What code keeps of an array's aggregate while its parts are joined.
use Rattle.std.specs.Prelude.{Bool, true, false, List, Option, Some, None, ℤ}
use Rattle.typed_tree.specs.Decoded.{TypedPart}
use Rattle.typed_tree.specs.declared.expressions.Run.{Run}
use Rattle.typed_tree.specs.Latest.{second, top}
use Rattle.name_expressions.specs.declared.placing.Choosing.{Choosing}
use Rattle.name_expressions.specs.declared.placing.Placing.{Placing}
use Rattle.name_rules.specs.Aggregates as spec
use Rattle.name_rules.specs.Aggregates.{Choosing'}
use Rattle.name_rules.specs.Judges.{part_if}

abbrev pub runs_if : Bool → List Run → Option (List Run)
runs_if true rs = Some rs
runs_if false rs = None

-- the value of the rest lies below the associations
abbrev pub rest_if : Option Bool → TypedPart → Option (Option TypedPart)
rest_if None p = None
rest_if (Some b) p = Some (part_if b p)

abbrev pub placed : Placing → List TypedPart → spec.Placing
placed p s = record { ranges = p.ranges; done = part_if p.done (top s); rest = rest_if p.rest (second s) }

abbrev pub chosen_if : Bool → List (ℤ × ℤ) → Bool → TypedPart → Option Choosing'
chosen_if true rs b p = Some (record { ranges = rs; rest = b; mentions = p })
chosen_if false rs b p = None

-- what was chosen so far, whose mentions are the latest part
abbrev pub chosen : Choosing → List TypedPart → Option Choosing'
chosen c s = chosen_if c.good c.ranges c.rest (top s)
