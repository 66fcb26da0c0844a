-- Arguments by the number of the first of them, if there is one, and that of the list of the others.
use Rattle.std.specs.Prelude.{ℕ, List, Option, Some, None}
use Rattle.syntax_tree.specs.Syntax as syntax
use Rattle.syntax_tree.specs.Syntax.{Arg, Args}
use Rattle.name_rules.specs.Calls.{with_operand}
use Rattle.name_rules.specs.Expressions.{Inside, expr}
use Rattle.name_rules.specs.Found.{Found}
use Rattle.name_rules.specs.Judging.{Judging, pure, ◌>>=◌}
use Rattle.name_rules.specs.declared.scope.Context.{Context}
use Rattle.name_rules.specs.declared.scope.Names.{Names}
use Rattle.name_rules.specs.declared.types.Wanted.TheVariants as wanted
use Rattle.syntax_nodes.specs.Parts.{the_arg, the_args}
use Rattle.syntax_nodes.specs.Tables.{part_at}
use Rattle.syntax_nodes.specs.declared.nodes.Node.{Node}

abbrev pub given_args : List Node → Option ℕ → ℕ → Args
given_args ns None more = syntax.NoArg
given_args ns (Some arg) more = syntax.AlsoArg (the_arg (part_at ns arg)) (the_args (part_at ns more))

-- one more operand
abbrev pub operand_of : Names → Inside → Context → Option (List Found) → Arg → Judging (Option (List Found))
operand_of names inside here done (syntax.arg name e) = expr names inside here wanted.Other e >>= λ x. pure (with_operand done x)
