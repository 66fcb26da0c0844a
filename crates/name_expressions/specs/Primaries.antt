-- A name as a primary.
use Rattle.std.specs.Prelude.{Option}
use Rattle.syntax_tree.specs.Syntax.{Name}
use Rattle.name_rules.specs.Expressions.{Inside, in_place}
use Rattle.name_rules.specs.Found.{Found}
use Rattle.name_rules.specs.Judging.{Judging, given, ◌>>=◌}
use Rattle.name_rules.specs.Parts.{value_named}
use Rattle.name_rules.specs.declared.scope.Context.{Context}
use Rattle.name_rules.specs.declared.scope.Names.{Names}
use Rattle.name_rules.specs.declared.types.Wanted.{Wanted}

abbrev pub named_in : Names → Inside → Context → Name → Wanted → Judging (Option Found)
named_in names inside here n want = value_named names inside here n >>= λ x. given x (λ f. in_place want f.known f)
