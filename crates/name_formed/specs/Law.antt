-- The typed programs that the rules of names make are formed (3.1, 3.4.1, 3.6, 3.8).
use Rattle.std.specs.Prelude.{◌≡◌, Some}
use Rattle.ada_meaning.specs.Formed.{IsFormed}
use Rattle.syntax_tree.specs.Syntax.{Program}
use Rattle.typed_tree.specs.Syntax as typed
use Rattle.name_rules.specs.Resolved.{TypedOf}
use Rattle.name_rules.specs.declared.scope.Names.{Names}

-- In the typed program of each text without a fault names follow the layout of their objects, a subprogram calls itself and
-- earlier ones alone, every operator has found its type, and each subtype stands on earlier ones.
abbrev pub FormedProgramsLaw : Type 0
FormedProgramsLaw = (names : Names) (text : Program) (program : typed.Program) → TypedOf names text ≡ Some program → IsFormed program
