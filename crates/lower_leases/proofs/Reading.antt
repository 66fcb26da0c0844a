-- Reading of a typed program's tables.
use Rattle.std.proofs.Common.{◌≡◌}
use Rattle.typed_tree.specs.Syntax.{Expr, Present}
use Rattle.typed_tree.specs.Decoded.{TypedPart, as_expr, as_optional, AnExpr}

-- an expression that is there
pub present_is : (p : TypedPart) (e : Expr) → as_optional p ≡ Present e → as_expr p ≡ e
present_is (AnExpr x) e h = cc
present_is _ e h = cc
