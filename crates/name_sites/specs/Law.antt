-- The numbers of parallel constructs are distinct, and go from the outside in.
use Rattle.syntax_tree.specs.Syntax as syntax
use Rattle.typed_tree.specs.Syntax.{Program}
use Rattle.name_rules.specs.Resolved.{TypedOf}
use Rattle.name_rules.specs.declared.scope.Names.{Names}
use Rattle.typed_sites.specs.Nesting.{SitesAreNested}
use Rattle.typed_sites.specs.Sites.{SitesAreDistinct, SitesAreListed}
use Rattle.std.specs.Prelude.{Some, ◌≡◌}

-- In the typed program of each text each number stands at most once as that of a parallel construct (5.5, 5.6.1, 4.5.10),
-- in whatever subprogram, statement, expression or mention, and each that stands there is a line of the table of sites. What
-- stands in the threads of a construct has greater numbers.
pub record SitesLaw : Type 0 where
  pub distinct : (names : Names) (text : syntax.Program) (program : Program) → TypedOf names text ≡ Some program → SitesAreDistinct program
  pub listed : (names : Names) (text : syntax.Program) (program : Program) → TypedOf names text ≡ Some program → SitesAreListed program
  pub nested : (names : Names) (text : syntax.Program) (program : Program) → TypedOf names text ≡ Some program → SitesAreNested program
