-- Every program that breaks no rule of names has a typed program (1.1.5, 2.8, 10.1).
use Rattle.std.specs.Prelude.{◌≡◌, Some, []}
use Rattle.syntax_tree.specs.Syntax.{Program}
use Rattle.typed_tree.specs.Syntax as typed
use Rattle.name_rules.specs.Resolved.{TypedOf, judged}
use Rattle.name_rules.specs.declared.scope.Names.{Names}

-- Whatever the rules of names leave without a typed program has a fault that says why.
abbrev pub TypedOrFaultyLaw : Type 0
TypedOrFaultyLaw = (names : Names) (text : Program) → (judged names text).1.faults ≡ [] → (program : typed.Program) × (TypedOf names text ≡ Some program)
