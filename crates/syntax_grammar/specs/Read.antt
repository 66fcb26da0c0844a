-- What is read before it is known which part of a program it is, and tests of what was read.
use Rattle.std.specs.Prelude.{ℕ, List, Option, Some, None, Bool, true, false}
use Rattle.syntax_tree.specs.Syntax.{Expr, Simple, Primary, Group, Round, Square, OneValue, OptionalExpr, AbsentExpr, PresentExpr, Others, NoChoice, Many, Assoc, Chosen, Each, Iter, InRange, Range, OptionalParallel, AbsentParallel, Parallel, Counted, Body}

-- ---- brackets

-- what stands in brackets: an expression alone, or the parts of an aggregate
pub data Inside : Type 0 where
  OneInside : Expr → Inside
  ManyInside : Many → Inside

abbrev pub in_round : ℕ → Inside → Primary
in_round b (OneInside e) = Group b e
in_round b (ManyInside m) = Round b m

abbrev pub in_square : ℕ → Inside → Primary
in_square b (OneInside e) = OneValue b e
in_square b (ManyInside m) = Square b m

-- the index ranges of an array
pub record Indexes : Type 0 where
  pub first : Range
  pub more : List Range

-- ---- iterations and chunks

-- whether the values of a reduction are an association of an aggregate too: neither parallel nor reverse, and no filter
abbrev pub is_each : OptionalParallel → Iter → Bool
is_each AbsentParallel (InRange index None range AbsentExpr) = true
is_each _ _ = false

-- such an iteration with its value as an association
abbrev pub each_of : ℕ → Iter → Expr → Assoc
each_of at (InRange index None range AbsentExpr) e = Each at index range e
each_of at i e = Chosen (Others 0) NoChoice e

-- the number of chunks that is all of a chunk specification
abbrev pub count_of : Parallel → Option Simple
count_of (Counted at count) = Some count
count_of _ = None

-- ---- parts that may be left out, in the form that statements keep

abbrev pub option_of : OptionalExpr → Option Expr
option_of AbsentExpr = None
option_of (PresentExpr e) = Some e

-- ---- subprograms

-- a body with the name after its end
pub record Ended : Type 0 where
  pub body : Body
  pub last_name : Option ℕ

-- the value of an expression function with the bracket before it
pub record Valued : Type 0 where
  pub bracket : ℕ
  pub value : Expr
