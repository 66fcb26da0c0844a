-- A reduction of an array by its arguments.
use Rattle.std.proofs.Common.{◌≡◌, refl, ℕ, Some, None}
use Rattle.syntax_tree.specs.Syntax as syntax
use Rattle.syntax_tree.specs.Syntax.{Args}
use Rattle.typed_tree.specs.Syntax.{Selections}
use Rattle.name_expressions.specs.Reducing.{reduced_from, reduced_two, two_of}
use Rattle.name_rules.specs.Expressions.{Inside}
use Rattle.name_rules.specs.Parts.{array_reduced}
use Rattle.name_rules.specs.declared.found.Attribute.{Attribute}
use Rattle.name_rules.specs.declared.found.ObjectName.{ObjectName}
use Rattle.name_rules.specs.declared.log.Log.{Log}
use Rattle.name_rules.specs.declared.scope.Context.{Context}
use Rattle.name_rules.specs.declared.scope.Names.{Names}

pub reduced_same : (names : Names) (inside : Inside) (here : Context) (p : ObjectName) (ss : Selections) (at : ℕ) (a : Attribute) (bracket : ℕ) (as' : Args) (log : Log)
    → array_reduced names inside here p ss at a bracket as' log ≡ reduced_two names inside here p ss at a bracket as' (two_of as') log
unfolding reduced_from
reduced_same names inside here p ss at a bracket syntax.NoArg log = refl
reduced_same names inside here p ss at a bracket (syntax.AlsoArg (syntax.arg (Some n) r) as') log = refl
reduced_same names inside here p ss at a bracket (syntax.AlsoArg (syntax.arg None r) syntax.NoArg) log = refl
reduced_same names inside here p ss at a bracket (syntax.AlsoArg (syntax.arg None r) (syntax.AlsoArg (syntax.arg (Some n) v) as')) log = refl
reduced_same names inside here p ss at a bracket (syntax.AlsoArg (syntax.arg None r) (syntax.AlsoArg (syntax.arg None v) syntax.NoArg)) log = refl
reduced_same names inside here p ss at a bracket (syntax.AlsoArg (syntax.arg None r) (syntax.AlsoArg (syntax.arg None v) (syntax.AlsoArg b as'))) log = refl
