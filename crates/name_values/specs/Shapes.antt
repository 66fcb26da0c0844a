-- Primaries by number.
use Rattle.std.specs.Prelude.{ℕ, List, Option, Some, None}
use Rattle.syntax_tree.specs.Syntax.{Primary}
use Rattle.syntax_nodes.specs.Parts.{the_primary}
use Rattle.syntax_nodes.specs.Tables.{part_at}
use Rattle.syntax_nodes.specs.declared.nodes.Node.{Node}

-- the primary of a number, where there is one
abbrev pub primary_in : List Node → Option ℕ → Option Primary
primary_in ns None = None
primary_in ns (Some n) = Some (the_primary (part_at ns n))
