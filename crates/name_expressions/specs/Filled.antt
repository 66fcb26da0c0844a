-- What code keeps of a record's aggregate while its parts are joined: the associations are the latest part.
use Rattle.std.specs.Prelude.{List, drop}
use Rattle.typed_tree.specs.Decoded.{TypedPart}
use Rattle.typed_tree.specs.Latest.{top}
use Rattle.name_expressions.specs.declared.fields.Filling.{Filling}
use Rattle.name_expressions.specs.declared.fields.Positions.{Positions}
use Rattle.name_rules.specs.Aggregates as spec
use Rattle.name_rules.specs.declared.log.Field.{Field}
use Rattle.name_rules.specs.Judges.{part_if}

abbrev pub filled : Filling → List TypedPart → spec.Filling
filled f s = spec.filling (part_if f.done (top s)) f.left f.over

-- the components behind a place aren't given
abbrev pub counted : Positions → List Field → List TypedPart → spec.Filling
counted p fs s = spec.filling (part_if p.done (top s)) (drop p.place fs) p.over
