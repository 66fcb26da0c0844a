-- Values, and what is computed from them alone.
use Rattle.std.specs.Prelude.{ℕ, zero, suc, ◌*◌, ◌-◌, ℤ, pos, negsuc, ◌+ℤ◌, ◌-ℤ◌, neg_ℤ, nat_abs, int_le, int_lt, nat_eq, max, min, List, [], ◌∷◌, ◌++◌, map, length, replicate, slice_get, Option, Some, None, is_some, Bool, true, false, not, ◌&&◌, ◌||◌}
use Rattle.ada_base.specs.declared.operation.Base.{Base}
use Rattle.ada_base.specs.declared.operation.Base.TheVariants.{Narrow, Wide, Modulo}
use Rattle.ada_base.specs.declared.operation.Op.{Op}
use Rattle.ada_base.specs.declared.operation.Op.TheVariants as op
use Rattle.ada_base.specs.declared.reason.Reason.{Reason}
use Rattle.ada_base.specs.declared.reason.Reason.TheVariants as reason
use Rattle.std.specs.Int.{int_min, int_max}
use Rattle.ada_base.specs.Operation.{turned, number, modulus, reduced, unbounded, within, result_of}
use Rattle.ada_base.specs.Image.{image, truth_image}
use Rattle.typed_tree.specs.declared.scalars.Class.{Class}
use Rattle.typed_tree.specs.declared.scalars.Class.TheVariants as class
use Rattle.typed_tree.specs.declared.scalars.Scalar.{Scalar}
use Rattle.ada_base.specs.declared.operation.Comparison.{Comparison}
use Rattle.ada_base.specs.declared.operation.Comparison.TheVariants as comparison
use Rattle.typed_tree.specs.declared.expressions.Sign.{Sign}
use Rattle.typed_tree.specs.declared.expressions.Sign.TheVariants as sign
use Rattle.typed_tree.specs.declared.statements.Span.{Span}
use Rattle.typed_tree.specs.Syntax as syntax
use Rattle.typed_tree.specs.Syntax.{Handled, Subtype}
use Rattle.typed_tree.specs.declared.program.Bounds.{Bounds}
use Rattle.typed_tree.specs.declared.program.Field.{Field}

-- truth values, ranges

abbrev pub truth : ℤ → Bool
truth (pos zero) = false
truth (pos (suc n)) = true
truth (negsuc n) = true

abbrev pub bit : Bool → ℤ
bit true = pos 1
bit false = pos 0

abbrev pub between : ℤ → ℤ → ℤ → Bool
between low z high = int_le low z && int_le z high

-- how many binary digits the numbers of a modular type have: 1 to 64, and any other number counts as the nearest of these
abbrev pub binary_digits : ℕ → ℕ
binary_digits k = max 1 (min k 64)

abbrev pub modular_digits : Class → Option ℕ
modular_digits (class.Integer (Modulo k)) = Some (binary_digits k)
modular_digits c = None

abbrev pub is_modular : Class → Bool
is_modular c = is_some (modular_digits c)

-- the number that a value of a class is; a cell of a modular type may keep another one
abbrev pub number_by : Option ℕ → ℤ → ℤ
number_by None z = z
number_by (Some k) z = turned z

abbrev pub number_in : Class → ℤ → ℤ
number_in c z = number_by (modular_digits c) z

abbrev pub is_member : Class → ℤ → ℤ → ℤ → Bool
is_member class low z high = between (number_in class low) (number_in class z) (number_in class high)

abbrev pub is_in : Scalar → ℤ → Bool
is_in s z = is_member s.class s.low z s.high

-- a number that isn't negative, else 0
abbrev pub to_nat : ℤ → ℕ
to_nat (pos n) = n
to_nat (negsuc n) = 0

-- how many numbers stand from one to another
abbrev pub count : ℤ → ℤ → ℕ
count low high = to_nat (high +ℤ pos 1 -ℤ low)

-- operations

-- an expression that waits for its type is none of a program that names give; it counts as of the widest
abbrev pub base_of : Class → Base
base_of class.Boolean = Narrow
base_of (class.Integer Narrow) = Narrow
base_of (class.Integer Wide) = Wide
base_of (class.Integer (Modulo k)) = Modulo (binary_digits k)
base_of class.Universal = Wide

abbrev pub value_or_zero : Option ℤ → ℤ
value_or_zero None = pos 0
value_or_zero (Some z) = z

-- whether a right operand of zero is an error (4.5.5)
abbrev pub divides : Op → Bool
divides op.Div = true
divides op.Mod = true
divides op.Rem = true
divides _ = false

-- whether the result may be outside the base range (4.5)
abbrev pub overflows : Op → Bool
overflows op.Add = true
overflows op.Sub = true
overflows op.Mul = true
overflows op.Div = true
overflows op.Pow = true
overflows _ = false

abbrev pub differ : Bool → Bool → Bool
differ true b = not b
differ false b = b

-- the result of an operator (4.5); None is a check that fails. But for modular types what can't overflow has its result
-- among all integers, and xor is that of truth values
abbrev pub plain_result : Op → Class → ℤ → ℤ → Option ℤ
plain_result op.And class x y = Some (int_min x y)
plain_result op.Or class x y = Some (int_max x y)
plain_result op.Xor class x y = Some (bit (differ (truth x) (truth y)))
plain_result op.Max class x y = Some (int_max x y)
plain_result op.Min class x y = Some (int_min x y)
plain_result op class x y = within (base_of class) (unbounded op x y)

abbrev pub result_by : Option ℕ → Op → Class → ℤ → ℤ → Option ℤ
result_by None op class x y = plain_result op class x y
result_by (Some k) op class x y = result_of op (Modulo k) x y

abbrev pub result : Op → Class → ℤ → ℤ → Option ℤ
result op class x y = result_by (modular_digits class) op class x y

abbrev pub is_zero : ℤ → Bool
is_zero z = not (truth z)

-- the result of a unary operator on numbers of a modular type (4.5.4, 4.5.6)
abbrev pub modular_unary : ℕ → Sign → ℤ → ℤ
modular_unary k sign.Minus z = reduced k (neg_ℤ z)
modular_unary k sign.Abs z = z
modular_unary k sign.Not z = reduced k (pos (modulus k - 1) -ℤ z)

-- the result of a unary operator, else among all integers; the negation of a Boolean is the other one
abbrev pub plain_unary : Sign → ℤ → ℤ
plain_unary sign.Minus z = neg_ℤ z
plain_unary sign.Abs z = pos (nat_abs z)
plain_unary sign.Not z = bit (is_zero z)

abbrev pub unary_by : Option ℕ → Sign → ℤ → ℤ
unary_by None s z = plain_unary s z
unary_by (Some k) s z = turned (modular_unary k s (turned z))

abbrev pub unary : Sign → Class → ℤ → ℤ
unary s class z = unary_by (modular_digits class) s z

abbrev pub is_equal : ℤ → ℤ → Bool
is_equal a b = int_le a b && int_le b a

-- 4.5.2
abbrev pub compares : Comparison → ℤ → ℤ → Bool
compares comparison.Equal a b = is_equal a b
compares comparison.Unequal a b = not (is_equal a b)
compares comparison.Less a b = int_lt a b
compares comparison.AtMost a b = int_le a b
compares comparison.Greater a b = int_lt b a
compares comparison.AtLeast a b = int_le b a

abbrev pub is_chosen : List Span → ℤ → Bool
is_chosen [] z = false
is_chosen (s ∷ ss) z = between s.low z s.high || is_chosen ss z

-- reasons

abbrev pub reason_eq : Reason → Reason → Bool
reason_eq reason.ConstraintError reason.ConstraintError = true
reason_eq reason.ProgramError reason.ProgramError = true
reason_eq reason.StorageError reason.StorageError = true
reason_eq reason.DataError reason.DataError = true
reason_eq reason.EndError reason.EndError = true
reason_eq (reason.Declared m) (reason.Declared n) = nat_eq m n
reason_eq _ _ = false

abbrev pub has_reason : List Reason → Reason → Bool
has_reason [] r = false
has_reason (q ∷ qs) r = reason_eq q r || has_reason qs r

abbrev pub handles_reason : Handled → Reason → Bool
handles_reason syntax.Others r = true
handles_reason (syntax.Reasons reasons) r = has_reason reasons r

-- cuts (5.5)

abbrev pub without_zeros : List ℕ → List ℕ
without_zeros [] = []
without_zeros (zero ∷ ns) = without_zeros ns
without_zeros (suc n ∷ ns) = suc n ∷ without_zeros ns

-- cells of subtypes (3.6, 3.8): the scalar subtype of each cell, in order

abbrev pub repeated : ℕ → List Scalar → List Scalar
repeated zero cells = []
repeated (suc n) cells = cells ++ repeated n cells

abbrev pub components : List Bounds → ℕ
components [] = 1
components (b ∷ bs) = count b.low b.high * components bs

abbrev pub fields : (ℕ → List Scalar) → List Field → List Scalar
fields layout [] = []
fields layout (f ∷ fs) = layout f.subtype ++ fields layout fs

abbrev pub layout_of : (ℕ → List Scalar) → Option Subtype → List Scalar
layout_of layout None = []
layout_of layout (Some (syntax.OfScalar s)) = s ∷ []
layout_of layout (Some (syntax.Array dimensions component)) = repeated (components dimensions) (layout component)
layout_of layout (Some (syntax.Record fs)) = fields layout fs

-- a subtype of the table stands on those before it, so it is at most so many levels deep as there are entries
abbrev pub layout_within : List Subtype → ℕ → ℕ → List Scalar
layout_within table zero number = []
layout_within table (suc levels) number = layout_of (layout_within table levels) (slice_get table number)

abbrev pub layout : List Subtype → ℕ → List Scalar
layout table = layout_within table (length table)

-- the cells of a variable without an initial value
abbrev pub defaults : List Scalar → List ℤ
defaults cells = map (λ s. s.low) cells

-- aggregates (4.3)

-- some cells, with others laid over them from a place on
abbrev pub laid : List ℤ → ℕ → List ℤ → List ℤ
laid [] first over = []
laid (c ∷ cs) zero [] = c ∷ cs
laid (c ∷ cs) zero (o ∷ os) = o ∷ laid cs zero os
laid (c ∷ cs) (suc first) over = c ∷ laid cs first over

abbrev pub zeros : ℕ → List ℤ
zeros n = replicate n (pos 0)

-- images (4.10, A.10.8)

abbrev pub image_of : Class → ℤ → List ℕ
image_of class.Boolean z = truth_image (truth z)
image_of (class.Integer base) z = image (number base z)
image_of class.Universal z = image z
