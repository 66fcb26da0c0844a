-- How an expression of a universal type takes the class of its place, from the inside out along the operands that
-- chains are long in.
use Rattle.std.specs.Prelude.{◌≡◌, ℕ, suc, ◌≤◌, List, [], ◌∷◌}
use Rattle.typed_tree.specs.declared.scalars.Class.{Class}
use Rattle.typed_tree.specs.Classes.{class_or, with_class}
use Rattle.typed_tree.specs.Decoded.{TypedPart, as_expr}
use Rattle.typed_tree.specs.Syntax.{Expr, Group, Unary, Binary, If, Reduction}
use Rattle.typed_tree.specs.declared.expressions.Reducer.TheVariants as reducer
use Rattle.typed_parts.specs.Stack.{AllBelow}

-- an expression with another one in place of what its chain goes on with
abbrev pub joined : Class → Expr → Expr → Expr
joined c (Group _) e = Group e
joined c (Unary at s d _) e = Unary at s (class_or c d) e
joined c (Binary at o d _ r) e = Binary at o (class_or c d) e (with_class c r)
joined c (If x v _) e = If x (with_class c v) e
joined c (Reduction at a (reducer.Operator n o d) initial site chunk iteration _) e =
    Reduction at a (reducer.Operator n o (class_or c d)) (with_class c initial) site chunk iteration e
joined c _ e = e

abbrev pub rejoined : Class → (ℕ → TypedPart) → List ℕ → Expr → Expr
rejoined c at [] e = e
rejoined c at (k ∷ ks) e = joined c (as_expr (at k)) (rejoined c at ks e)

-- a chain ends at a number, or goes on at another one
abbrev pub Ends : (ℕ → TypedPart) → ℕ → Type 0
Ends at k = (c : Class) → with_class c (as_expr (at k)) ≡ as_expr (at k)

abbrev pub GoesOn : (ℕ → TypedPart) → ℕ → ℕ → Type 0
GoesOn at k next = (c : Class) → with_class c (as_expr (at k)) ≡ joined c (as_expr (at k)) (with_class c (as_expr (at next)))

-- a chain leads from a number over others to a last one
pub record Leads (at : ℕ → TypedPart) (from : ℕ) (over : List ℕ) (to : ℕ) : Type 0 where
  pub is : (c : Class) → with_class c (as_expr (at from)) ≡ rejoined c at over (with_class c (as_expr (at to)))
  pub below : AllBelow (suc from) over
  pub least : to ≤ from
