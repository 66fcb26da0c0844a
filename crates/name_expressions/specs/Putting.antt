-- Arguments of predefined procedures, one by one.
use Rattle.std.specs.Prelude.{ℕ, length, Option, Some, None, ◌==◌, if◌then◌else◌}
use Rattle.syntax_tree.specs.Syntax as syntax
use Rattle.syntax_tree.specs.Syntax.{Arg, Args, Expr}
use Rattle.name_rules.specs.Expressions.{Inside, judged_alone}
use Rattle.name_rules.specs.Found.{Denoted, Found}
use Rattle.name_rules.specs.Judging.{Judging, given, pure, ◌>>=◌}
use Rattle.name_rules.specs.Output.{Putting, item_of, no_name, nothing_put, put_arguments, put_complete, with_count}
use Rattle.name_rules.specs.declared.found.Reach.{Reach}
use Rattle.name_rules.specs.declared.scope.Context.{Context}
use Rattle.name_rules.specs.declared.scope.Names.{Names}

abbrev pub other_alone : Names → Inside → Context → Arg → Judging (Unit {0})
other_alone names inside here (syntax.arg name e) = no_name name >>= λ u. judged_alone names inside here e

abbrev pub counted_alone : Names → Inside → Context → Putting → ℕ → Expr → Judging Putting
counted_alone names inside here p n e = judged_alone names inside here e >>= λ v. pure (with_count p n)

-- a whole that is judged where no fault was written since there were so many
abbrev pub put_since : ℕ → ℕ → ℕ → ℕ → Putting → Judging (Option Denoted)
put_since before at first last p = λ log. (if before == length log.faults then put_complete at first last p else pure None) log

-- Put of what is no string
abbrev pub number_put : Names → Inside → Context → ℕ → ℕ → ℕ → ℕ → Reach → Option Found → Args → Judging (Option Denoted)
number_put names inside here before at first last reach x more =
    given x (item_of reach.integer_io) >>= λ e. put_arguments names inside here (nothing_put 1 e) more >>= put_since before at first last
