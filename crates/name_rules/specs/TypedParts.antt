-- The parts of a typed program while it is made: lists that grow, pairs, and what static values mention.
use Rattle.typed_tree.specs.Decoded.{TypedPart, Nothing, Cons, AStmt, as_expr, as_exprs, as_selections, as_stmts}
use Rattle.typed_tree.specs.Syntax.{Expr, Exprs, Selections}
use Rattle.typed_tree.specs.Syntax as typed
use Rattle.typed_tree.specs.Latest.{onto, turned}
use Rattle.typed_tree.specs.Latest as stack

-- ---- pairs

abbrev pub pair : TypedPart → TypedPart → TypedPart
pair p q = Cons p q

abbrev pub left_of : TypedPart → TypedPart
left_of p = stack.first_of p

abbrev pub right_of : TypedPart → TypedPart
right_of p = stack.rest_of p

-- the bounds of a range, which are a pair
abbrev pub low_of : TypedPart → Expr
low_of p = as_expr (left_of p)

abbrev pub high_of : TypedPart → Expr
high_of p = as_expr (right_of p)

-- ---- lists that grow: the latest item stands first until the list is whole

abbrev pub also : TypedPart → TypedPart → TypedPart
also done item = Cons item done

-- a list that grows, with the items of another behind its own
unfoldable pub also_all : TypedPart → TypedPart → TypedPart
also_all done more = onto (turned more) done

-- the exprs of a list that grew
abbrev pub exprs_of : TypedPart → Exprs
exprs_of p = as_exprs (turned p)

-- the selections of an object's name, which grow from left to right
abbrev pub selections_of : TypedPart → Selections
selections_of p = as_selections (turned p)

-- conditions and statements behind the first of an if statement, the last of which stand first
unfoldable pub nested_stmts : TypedPart → TypedPart → TypedPart
nested_stmts (Cons p rest) otherwise =
    nested_stmts rest (Cons (AStmt (typed.IfThen (as_expr (left_of p)) (as_stmts (right_of p)) (as_stmts otherwise))) Nothing)
nested_stmts p otherwise = otherwise
