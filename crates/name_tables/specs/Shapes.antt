-- The subtypes of a typed program, of the table of subtypes and of a part for each, which is the list of an array's
-- bounds or of a record's components.
use Rattle.std.specs.Prelude.{List, [], ◌∷◌}
use Rattle.typed_tree.specs.Decoded.{TypedPart, as_bounds, as_fields}
use Rattle.typed_tree.specs.Syntax.{Subtype, OfScalar, Array, Record}
use Rattle.typed_tree.specs.Latest.{top, pop}
use Rattle.name_rules.specs.Types.{typed_scalar}
use Rattle.name_rules.specs.declared.log.Shape.{Shape}
use Rattle.name_rules.specs.declared.log.Shape.TheVariants as shape

abbrev pub with_part : Shape → TypedPart → Subtype
with_part (shape.Scalar s) p = OfScalar (typed_scalar s)
with_part (shape.Array ds c n cells) p = Array (as_bounds p) n
with_part (shape.Record fs cells) p = Record (as_fields p)

-- the subtypes of the latest parts, the first of which comes first
abbrev pub with_parts : List Shape → List TypedPart → List Subtype
with_parts [] ps = []
with_parts (s ∷ ss) ps = with_part s (top ps) ∷ with_parts ss (pop ps)

-- the parts before those
abbrev pub rest_of : List Shape → List TypedPart → List TypedPart
rest_of [] ps = ps
rest_of (s ∷ ss) ps = rest_of ss (pop ps)
