-- The statements of the typed programs that the rules of names make stand in order, no exit leaves a body, and each object is new
-- where it is declared.
use Rattle.std.specs.Prelude.{◌≡◌, Some}
use Rattle.syntax_tree.specs.Syntax.{Program}
use Rattle.typed_tree.specs.Syntax as typed
use Rattle.name_rules.specs.Resolved.{TypedOf}
use Rattle.name_rules.specs.declared.scope.Names.{Names}
use Rattle.typed_objects.specs.Objects.{ObjectsAreDistinct}
use Rattle.typed_scopes.specs.Outs.{StaysIn}
use Rattle.name_flow.specs.Fresh.{IsFresh}
use Rattle.name_flow.specs.Order.{IsOrdered}

pub record FlowLaw : Type 0 where
  pub stays : (names : Names) (text : Program) (program : typed.Program) → TypedOf names text ≡ Some program → StaysIn program
  pub ordered : (names : Names) (text : Program) (program : typed.Program) → TypedOf names text ≡ Some program → IsOrdered program

abbrev pub FreshLaw : Type 0
FreshLaw = (names : Names) (text : Program) (program : typed.Program) → TypedOf names text ≡ Some program → IsFresh program

-- no two declarations of a program are of one object (3.1)
abbrev pub ObjectsLaw : Type 0
ObjectsLaw = (names : Names) (text : Program) (program : typed.Program) → TypedOf names text ≡ Some program → ObjectsAreDistinct program
