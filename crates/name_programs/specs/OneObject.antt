-- One object of a declaration: its type and its value are judged among the names around it.
use Rattle.syntax_tree.specs.Syntax.{Expr, ObjectType}
use Rattle.typed_tree.specs.Decoded.{TypedPart}
use Rattle.name_rules.specs.Declarations.{Declaring, initial, one_object, typed_object, valued_constant}
use Rattle.name_rules.specs.Expressions.{Inside}
use Rattle.name_rules.specs.Judging.{◌>>=◌}
use Rattle.name_rules.specs.declared.scope.Context.{Context}
use Rattle.name_rules.specs.declared.scope.Names.{Names}
use Rattle.std.specs.Prelude.{Bool, Option, ℕ}

abbrev pub object : Names → Inside → Context → Context → Bool → ℕ → ObjectType → Option Expr → Option TypedPart → ℕ → Option ℕ → Declaring
object names level inner here constant first t e done i f = do
  s ← typed_object names level inner t
  v ← initial names level inner s e
  u ← valued_constant first constant s e
  one_object names here i f constant done s v
