-- What an expression or a choice is where it has no operator, no sign and no bracket around it.
use Rattle.syntax_tree.specs.Syntax as syntax
use Rattle.syntax_tree.specs.Syntax.{Choice, Expr, Primary, Simple}
use Rattle.std.specs.Prelude.{Bool, None, Option, Some, false, true, ℕ}

-- the primary that a simple expression is
unfoldable pub primary_of_simple : Simple → Option Primary
primary_of_simple (syntax.Sum None (syntax.Product (syntax.Operand p) syntax.NoMultiplying) syntax.NoAdding) = Some p
primary_of_simple _ = None

-- the primary that an expression is
unfoldable pub primary_of_expr : Expr → Option Primary
primary_of_expr (syntax.Single (syntax.Alone s)) = primary_of_simple s
primary_of_expr _ = None

abbrev pub is_aggregate_form : Option Primary → Bool
is_aggregate_form (Some (syntax.Round bracket m)) = true
is_aggregate_form (Some (syntax.Square bracket m)) = true
is_aggregate_form (Some (syntax.OneValue bracket e)) = true
is_aggregate_form _ = false

-- an expression that is an aggregate
abbrev pub is_aggregate : Expr → Bool
is_aggregate e = is_aggregate_form (primary_of_expr e)

abbrev pub identifier_of_primary : Option Primary → Option ℕ
identifier_of_primary (Some (syntax.Named (syntax.name first syntax.NoPart))) = Some first
identifier_of_primary _ = None

-- the identifier that a choice is
unfoldable pub identifier_of_choice : Choice → Option ℕ
identifier_of_choice (syntax.Value s) = identifier_of_primary (primary_of_simple s)
identifier_of_choice _ = None
