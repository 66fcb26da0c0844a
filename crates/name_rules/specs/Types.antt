-- Types and subtypes (3.2 to 3.8): the table of subtypes, and how many cells an object has.
use Rattle.ada_base.specs.Operation.{is_in_base, modulus, turned}
use Rattle.ada_base.specs.declared.operation.Base.TheVariants.{Narrow, Wide, Modulo}
use Rattle.name_rules.specs.Judging.{Judging}
use Rattle.name_rules.specs.declared.log.Dimension.{Dimension}
use Rattle.name_rules.specs.declared.log.Field.{Field}
use Rattle.name_rules.specs.declared.log.Log.{Log}
use Rattle.name_rules.specs.declared.log.Shape.TheVariants as shape
use Rattle.name_rules.specs.declared.log.Shape.{Shape}
use Rattle.name_rules.specs.declared.types.Kind.TheVariants as kind
use Rattle.name_rules.specs.declared.types.Kind.{Kind}
use Rattle.name_rules.specs.declared.types.Scalar.{Scalar}
use Rattle.name_rules.specs.declared.types.Subtype.TheVariants as subtype
use Rattle.name_rules.specs.declared.types.Subtype.{Subtype}
use Rattle.name_rules.specs.declared.types.Wanted.TheVariants as wanted
use Rattle.name_rules.specs.declared.types.Wanted.{Wanted}
use Rattle.typed_tree.specs.declared.scalars.Check.{Check}
use Rattle.typed_tree.specs.declared.scalars.Class.TheVariants as class
use Rattle.typed_tree.specs.declared.scalars.Class.{Class}
use Rattle.typed_tree.specs.declared.scalars.Scalar.{Scalar as TypedScalar}
use Rattle.std.specs.Int.{int_max}
use Rattle.std.specs.Prelude.{◌-◌, if◌then◌else◌, is_some, not, Bool, List, None, Option, Some, [], false, int_le, length, min, negsuc, pos, slice_get, true, unsigned_abs, ℕ, ℤ, ◌&&◌, ◌*◌, ◌++◌, ◌+◌, ◌-ℤ◌, ◌==◌, ◌∷◌}

-- ---- scalar types

abbrev pub same : Kind → Kind → Bool
same kind.Boolean kind.Boolean = true
same kind.Integer kind.Integer = true
same (kind.Own m) (kind.Own n) = m == n
same (kind.Modular m j) (kind.Modular n k) = (m == n) && (j == k)
same _ _ = false

abbrev pub is_integer : Kind → Bool
is_integer kind.Boolean = false
is_integer _ = true

abbrev pub is_modular : Kind → Bool
is_modular (kind.Modular n k) = true
is_modular _ = false

abbrev pub class_of : Kind → Class
class_of kind.Boolean = class.Boolean
class_of kind.Integer = class.Integer Narrow
class_of (kind.Own n) = class.Integer Wide
class_of (kind.Modular n k) = class.Integer (Modulo k)

-- what a cell keeps of a number of the type, and the other way round
abbrev pub kept : Kind → ℤ → ℤ
kept (kind.Modular n k) z = turned z
kept _ z = z

-- a number of the type's base range
abbrev pub in_base : Kind → ℤ → Bool
in_base kind.Boolean z = int_le (pos 0) z && int_le z (pos 1)
in_base kind.Integer z = is_in_base Narrow z
in_base (kind.Own n) z = is_in_base Wide z
in_base (kind.Modular n k) z = int_le (pos 0) z && int_le z (pos (modulus k - 1))

abbrev pub base_of : Kind → Scalar
base_of kind.Boolean = record { kind = kind.Boolean; low = pos 0; high = pos 1 }
base_of kind.Integer = record { kind = kind.Integer; low = negsuc 2147483647; high = pos 2147483647 }
base_of (kind.Own n) = record { kind = kind.Own n; low = negsuc 9223372036854775807; high = pos 9223372036854775807 }
base_of (kind.Modular n k) = record { kind = kind.Modular n k; low = pos 0; high = turned (pos (modulus k - 1)) }

-- a number of the subtype
abbrev pub lies_in : Scalar → ℤ → Bool
lies_in s z = int_le (kept s.kind s.low) z && int_le z (kept s.kind s.high)

abbrev pub typed_scalar : Scalar → TypedScalar
typed_scalar s = record { class = class_of s.kind; low = s.low; high = s.high }

-- a cell of these keeps another number than it has
abbrev pub is_word : Kind → Bool
is_word (kind.Modular n k) = 64 == k
is_word _ = false

abbrev pub at_least_zero : ℤ → ℤ
at_least_zero z = int_max (pos 0) z

abbrev pub no_scalar : TypedScalar
no_scalar = record { class = class.Integer Wide; low = pos 1; high = pos 0 }

-- the subtype that is asked of what a value of another type keeps, for its number to be one of a subtype (4.6)
abbrev pub from_word : Scalar → TypedScalar
from_word s = if is_modular s.kind then typed_scalar s else record { class = class_of s.kind; low = at_least_zero s.low; high = s.high }

abbrev pub to_word : Scalar → TypedScalar
to_word s = if int_le (pos 0) s.low then record { class = class.Integer Wide; low = s.low; high = if int_le (pos 0) s.high then s.high else pos 9223372036854775807 } else no_scalar

abbrev pub converted_from : Kind → Scalar → TypedScalar
converted_from k s = if is_word k then (if is_word s.kind then typed_scalar s else from_word s) else if is_word s.kind then to_word s else typed_scalar s

abbrev pub check_at : ℕ → Scalar → Check
check_at at s = record { at = at; scalar = typed_scalar s }

-- ---- the table of subtypes

abbrev pub shape_in : Log → ℕ → Option Shape
shape_in log n = slice_get log.shapes n

abbrev pub dimensions_of : Option Shape → List Dimension
dimensions_of (Some (shape.Array ds c n cells)) = ds
dimensions_of _ = []

abbrev pub fields_of : Option Shape → List Field
fields_of (Some (shape.Record fs cells)) = fs
fields_of _ = []

abbrev pub component_of : Option Shape → Option Subtype
component_of (Some (shape.Array ds c n cells)) = Some c
component_of _ = None

abbrev pub written_shape : Shape → Judging ℕ
written_shape t = λ log. (length log.shapes, record log { shapes = log.shapes ++ t ∷ [] })

-- a scalar subtype is written where it is used
unfoldable pub number_of : Subtype → Judging ℕ
number_of (subtype.Scalar s) = written_shape (shape.Scalar s)
number_of (subtype.Composite n) = λ log. (n, log)

-- ---- cells

-- a count stands still at the greatest number of 64 bits
abbrev pub saturated : ℕ → ℕ
saturated n = min n 18446744073709551615

abbrev pub cells_of_shape : Option Shape → ℕ
cells_of_shape (Some (shape.Array ds c n cells)) = cells
cells_of_shape (Some (shape.Record fs cells)) = cells
cells_of_shape _ = 1

abbrev pub cells_in : Log → Subtype → ℕ
cells_in log (subtype.Scalar s) = 1
cells_in log (subtype.Composite n) = cells_of_shape (shape_in log n)

abbrev pub extent : Dimension → ℕ
extent d = unsigned_abs (d.high -ℤ d.low) + 1

abbrev pub array_cells : List Dimension → ℕ → ℕ
array_cells [] cells = cells
array_cells (d ∷ ds) cells = array_cells ds (saturated (extent d * cells))

-- how many cells lie between neighbours in a dimension: those of a component for each index behind it
abbrev pub stride : List Dimension → ℕ → ℕ
stride [] cells = cells
stride (d ∷ ds) cells = array_cells ds cells

abbrev pub wanted_of : Subtype → Wanted
wanted_of (subtype.Scalar s) = wanted.Other
wanted_of (subtype.Composite n) = wanted.Composite n
