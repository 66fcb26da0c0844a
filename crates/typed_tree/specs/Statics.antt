-- Static expressions (4.9). A static expression stands in a typed program as its value, whatever operators and attributes
-- its text has. So what is still an operation or a bracket there isn't static: `Integer'Succ (3)`, which is written as an
-- addition, isn't.
use Rattle.std.specs.Prelude.{ℤ, List, slice_get, Option, Some, None, Bool, true, false, cond}
use Rattle.typed_tree.specs.declared.expressions.Root.TheVariants as root
use Rattle.typed_tree.specs.declared.program.Object.{Object}
use Rattle.typed_tree.specs.Syntax.{Expr, Static, Constant, Selections, Whole}

-- the value of a constant, where it is static
abbrev pub constant_value : Option Object → Option ℤ
constant_value None = None
constant_value (Some o) = o.value

abbrev pub is_whole : Selections → Bool
is_whole Whole = true
is_whole s = false

-- the value of an expression, where it is static
abbrev pub static_value : List Object → Expr → Option ℤ
static_value objects (Static at value literal mentions) = Some value
static_value objects (Constant at (root.Object x) selections scalar) = cond (is_whole selections) (constant_value (slice_get objects x)) None
static_value objects e = None
