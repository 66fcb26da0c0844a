-- What code holds of actual parameters, calls and iterations.
use Rattle.std.specs.Prelude.{ℕ, ℤ, ◌*◌, ◌+ℤ◌, ◌-ℤ◌, pos, List, [], ◌∷◌, map, Option, Some, None, cond}
use Rattle.typed_tree.specs.declared.scalars.Scalar.{Scalar}
use Rattle.behaviours.specs.Paths.{ConstantOf}
use Rattle.ada_meaning.specs.Values.{count}
use Rattle.ada_meaning.specs.Meaning as meaning
use Rattle.ada_meaning.specs.Meaning.{with_parameter, with_item, moved}
use Rattle.run_store.specs.Environment.{part_of}
use Rattle.run_store.specs.Shows.{entity_of}
use Rattle.run_parts.specs.declared.passed.Shape.{Shape}
use Rattle.run_parts.specs.declared.passed.Shape.TheVariants as shape
use Rattle.run_parts.specs.declared.passed.Back.{Back}
use Rattle.run_parts.specs.declared.passed.Passed.{Passed}
use Rattle.run_parts.specs.declared.passed.Returned.{Returned}
use Rattle.run_parts.specs.declared.courses.Course.{Course}
use Rattle.run_parts.specs.declared.courses.Course.TheVariants as course
use Rattle.run_parts.specs.declared.work.Work.{Work}
use Rattle.run_parts.specs.Words.{cells_at}

abbrev pub shape_of : Work → Shape → List Scalar
shape_of w (shape.Single s) = s ∷ []
shape_of w (shape.Whole n) = cells_at w n

abbrev pub back_of : Work → Back → meaning.Back
back_of w b = record { part = part_of b.part; cells = shape_of w b.shape; check = b.check }

abbrev pub back_option : Work → Option Back → Option meaning.Back
back_option w None = None
back_option w (Some b) = Some (back_of w b)

abbrev pub passed_of : Work → Passed → meaning.Passed
passed_of w p = record { formal = entity_of p.formal; cells = p.cells; back = back_option w p.back }

abbrev pub passed_list : Work → List Passed → List meaning.Passed
passed_list w ps = map (passed_of w) ps

-- a value that is passed in
abbrev pub value_passed : ℕ → ℤ → meaning.Passed
value_passed formal v = record { formal = ConstantOf formal; cells = v ∷ []; back = None }

abbrev pub returned_of : Returned → meaning.Returned
returned_of r = record { value = r.value; cells = r.cells }

abbrev pub course_of : Course → meaning.Course
course_of (course.Values k reverse range) = record { count = count range.low range.high; bound = λ i. with_parameter k (cond reverse (range.high -ℤ pos i) (range.low +ℤ pos i)) }
course_of (course.Components k constant p n stride) = record { count = n; bound = λ i. with_item constant k (moved (part_of p) (i * stride)) }
