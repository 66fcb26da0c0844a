-- Chains of operators, which are nested to the left, as lists of operators.
use Rattle.std.specs.Prelude.{ℕ, ◌<◌, Bool, true, false, List, [], ◌∷◌}
use Rattle.typed_tree.specs.declared.node.Link.{Link}
use Rattle.typed_tree.specs.declared.node.Link.TheVariants as link
use Rattle.typed_tree.specs.Syntax.{Expr, Binary, AndThen, OrElse}
use Rattle.typed_tree.specs.Decoded.{TypedPart, as_expr}

-- an operator with its left operand
abbrev pub applied : (ℕ → TypedPart) → Link → Expr → Expr
applied at (link.Operator n op class right) e = Binary n op class e (as_expr (at right))
applied at (link.AndThen right) e = AndThen e (as_expr (at right))
applied at (link.OrElse right) e = OrElse e (as_expr (at right))

-- whether an expression is an operator with its left operand
abbrev pub is_chain : Expr → Bool
is_chain (Binary n op class e f) = true
is_chain (AndThen e f) = true
is_chain (OrElse e f) = true
is_chain e = false

abbrev pub right_of : Link → ℕ
right_of (link.Operator n op class right) = right
right_of (link.AndThen right) = right
right_of (link.OrElse right) = right

-- operators over an expression, the one that is applied first last
abbrev pub linked : (ℕ → TypedPart) → List Link → Expr → Expr
linked at [] e = e
linked at (l ∷ ls) e = applied at l (linked at ls e)

abbrev pub AreBelow : ℕ → List Link → Type 0
AreBelow k [] = Unit {0}
AreBelow k (l ∷ ls) = (right_of l < k) × AreBelow k ls
