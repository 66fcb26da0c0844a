-- The indexes in the name of an object, as a list of expressions that grows.
use Rattle.typed_tree.specs.Decoded.{TypedPart, Nothing, Cons, AnExpr}
use Rattle.typed_tree.specs.Syntax.{Selections, Whole, Field, Index}

abbrev pub indexes_from : TypedPart → Selections → TypedPart
indexes_from done Whole = done
indexes_from done (Field n o s) = indexes_from done s
indexes_from done (Index at e l h d s) = indexes_from (Cons (AnExpr e) done) s

unfoldable pub indexes_in : Selections → TypedPart
indexes_in s = indexes_from Nothing s
