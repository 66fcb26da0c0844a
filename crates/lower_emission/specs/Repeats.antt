-- Which values of an aggregate are computed anew for each of several components (4.3).
use Rattle.std.specs.Prelude.{nat_lt, List, [], ◌∷◌, Some, None, Bool, true, false, not, ◌&&◌, ◌||◌}
use Rattle.typed_tree.specs.declared.expressions.Run.{Run}
use Rattle.typed_tree.specs.Statics.{is_whole}
use Rattle.typed_tree.specs.Syntax.{Expr, Static, Variable, Constant, Parameter, Target, Value, Number, Cells, Composite, WholeVariable, WholeConstant, WholeTarget, CompositeIf, Aggregate, Associations, NoAssociation, Association}

-- whether runs have several components; each has one at least
abbrev pub some_run : List Run → Bool
some_run [] = false
some_run (r ∷ rs) = true

abbrev pub several : List Run → Bool
several [] = false
several (r ∷ rs) = nat_lt 1 r.count || some_run rs

-- an expression whose value is the same each time, and which does nothing: it is static, or names a whole object or the
-- target
abbrev pub is_plain_expr : Expr → Bool
is_plain_expr (Static at value literal mentions) = true
is_plain_expr (Variable at r selections scalar) = is_whole selections
is_plain_expr (Constant at r selections scalar) = is_whole selections
is_plain_expr (Parameter at k) = true
is_plain_expr (Target at scalar) = true
is_plain_expr e = false

-- such a value, which an aggregate of such values is too
abbrev mutual
  pub is_plain : Value → Bool
  is_plain (Number check e) = is_plain_expr e
  is_plain (Cells c) = is_plain_composite c

  pub is_plain_composite : Composite → Bool
  is_plain_composite (WholeVariable at r selections subtype) = is_whole selections
  is_plain_composite (WholeConstant at r selections subtype) = is_whole selections
  is_plain_composite (WholeTarget at subtype) = true
  is_plain_composite (CompositeIf condition value otherwise) = false
  is_plain_composite (Aggregate at size associations) = are_plain associations

  pub are_plain : Associations → Bool
  are_plain NoAssociation = true
  are_plain (Association runs None mentions value rest) = is_plain value && are_plain rest
  are_plain (Association runs (Some x) mentions value rest) = false

-- it stands for several components, and isn't plain
abbrev pub is_repeated : List Run → Value → Bool
is_repeated runs value = several runs && not (is_plain value)
