-- Conditions and statements behind the first of an if statement.
use Rattle.std.specs.Prelude.{ℕ, zero, suc}
use Rattle.typed_tree.specs.Decoded.{TypedPart, Nothing, Cons, AStmt, as_expr, as_stmts}
use Rattle.typed_tree.specs.Syntax as typed
use Rattle.name_rules.specs.TypedParts.{left_of, right_of}

-- the statements of a condition and its statements, with those where it doesn't hold
abbrev pub nested_once : TypedPart → TypedPart → TypedPart
nested_once p otherwise = Cons (AStmt (typed.IfThen (as_expr (left_of p)) (as_stmts (right_of p)) (as_stmts otherwise))) Nothing

-- how many items a list of parts has
abbrev pub items_in : TypedPart → ℕ
items_in (Cons p q) = suc (items_in q)
items_in p = zero
