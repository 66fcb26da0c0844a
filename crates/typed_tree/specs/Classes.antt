-- An expression of a universal type takes the class of its place (3.4.1, 8.6).
use Rattle.typed_tree.specs.declared.scalars.Class.{Class}
use Rattle.typed_tree.specs.declared.scalars.Class.TheVariants as class
use Rattle.typed_tree.specs.declared.expressions.Reducer.TheVariants as reducer
use Rattle.ada_base.specs.Operation.{digits, modulus}
use Rattle.ada_base.specs.declared.operation.Op.{Op}
use Rattle.ada_base.specs.declared.operation.Op.TheVariants as op
use Rattle.std.specs.Prelude.{ℕ, nat_lt, if◌then◌else◌, Option, Some, None}
use Rattle.typed_tree.specs.Syntax.{Expr, Static, Group, Unary, Binary, If, Reduction}

-- a class that is there already stays
abbrev pub class_or : Class → Class → Class
class_or c class.Universal = c
class_or c d = d

-- An expression is universal in what it is made of, down to its static parts; exponents and conditions have types of
-- their own, and so has what stands in calls and names. A reduction by an operator is so in both its values (4.5.10).
abbrev pub with_class : Class → Expr → Expr
with_class c (Group e) = Group (with_class c e)
with_class c (Unary at s d e) = Unary at s (class_or c d) (with_class c e)
with_class c (Binary at o d l r) = Binary at o (class_or c d) (with_class c l) (with_class c r)
with_class c (If x v o) = If x (with_class c v) (with_class c o)
with_class c (Reduction at a (reducer.Operator n o d) initial site chunk iteration v) =
    Reduction at a (reducer.Operator n o (class_or c d)) (with_class c initial) site chunk iteration (with_class c v)
with_class c e = e

-- The first static part of a universal expression that is no number of so many binary digits (3.5.4). An exponent has a
-- type of its own.
abbrev pub sooner : Option ℕ → Option ℕ → Option ℕ
sooner None b = b
sooner (Some a) b = Some a

abbrev pub beyond_left : Op → Option ℕ → Option ℕ → Option ℕ
beyond_left op.Pow a b = a
beyond_left o a b = sooner a b

abbrev pub beyond_digits : ℕ → Expr → Option ℕ
beyond_digits k (Static first z alone ms) = if nat_lt (digits z) (modulus k) then None else Some first
beyond_digits k (Group e) = beyond_digits k e
beyond_digits k (Unary at s d e) = beyond_digits k e
beyond_digits k (Binary at o d l r) = beyond_left o (beyond_digits k l) (beyond_digits k r)
beyond_digits k (If x v o) = sooner (beyond_digits k v) (beyond_digits k o)
beyond_digits k (Reduction at a by initial site chunk iteration v) = sooner (beyond_digits k v) (beyond_digits k initial)
beyond_digits k e = None
